-- Worked examples of grammar files, each named by what it shows.
use Rattle.std.specs.Prelude.{◌≡◌, ℕ, List, [], ◌∷◌, codes, true, false, None, refl}
use Rattle.std.specs.Fmt.{decimal}
use Rattle.serde_json.specs.Data.{Data, null, boolean, number, string, array, object, no_items, item}
use Rattle.serde_json.specs.Data.{no_members, member, unsigned}
use Rattle.grammar_defs.specs.FileRules.{absent, nothing, capture}
use Rattle.grammar_defs.specs.Loosening.{loosened}
use Rattle.grammar_defs.specs.Pointers.{below}
use Rattle.grammar_defs.specs.RuleShape.{is_capture_key, finish_last_in, captures_of}
use Rattle.grammar_defs.specs.GrammarShape.{grammar_faults, grammar_of, rule_count}

comments_and_trailing_commas_become_spaces : loosened (codes "[1, 2, ] // end") ≡ codes "[1, 2  ]       "
comments_and_trailing_commas_become_spaces = refl

of_two_commas_only_the_last_goes : loosened (codes "[1,,]") ≡ codes "[1, ]"
of_two_commas_only_the_last_goes = refl

a_comment_that_opens_does_not_close_itself : loosened (codes "/*/1*/2") ≡ codes "      2"
a_comment_that_opens_does_not_close_itself = refl

a_string_is_no_comment : loosened (34 ∷ 47 ∷ 47 ∷ 92 ∷ 34 ∷ 44 ∷ 93 ∷ 34 ∷ [])
    ≡ 34 ∷ 47 ∷ 47 ∷ 92 ∷ 34 ∷ 44 ∷ 93 ∷ 34 ∷ []
a_string_is_no_comment = refl

a_leading_mark_is_dropped : loosened (239 ∷ 187 ∷ 191 ∷ codes "1") ≡ codes "1"
a_leading_mark_is_dropped = refl

-- an object with a scope name and one more member, which stands before or behind it
abbrev with : List ℕ → Data → Data
with key d = object (member key d (member (codes "scopeName") (string (codes "s")) no_members))

a_scope_name_is_owed : grammar_faults (object no_members) ≡ codes "/scopeName" ∷ []
a_scope_name_is_owed = refl

a_list_is_no_grammar : grammar_faults (array no_items) ≡ [] ∷ []
a_list_is_no_grammar = refl

null_counts_as_missing : grammar_faults (with (codes "patterns") null) ≡ []
null_counts_as_missing = refl

null_in_a_list_does_not : grammar_faults (with (codes "patterns") (array (item null no_items)))
    ≡ below (codes "patterns") (below (decimal 0) []) ∷ []
null_in_a_list_does_not = refl

a_string_is_no_list : grammar_faults (with (codes "patterns") (string (codes "x"))) ≡ codes "/patterns" ∷ []
a_string_is_no_list = refl

an_include_is_not_walked : grammar_faults
    (with (codes "patterns") (array (item (object
    (member (codes "include") (string (codes "#a")) (member (codes "name") (boolean true) no_members)))
    no_items))) ≡ []
an_include_is_not_walked = refl

the_walk_takes_match_before_end : grammar_faults
    (with (codes "patterns") (array (item (object
    (member (codes "end") null (member (codes "match") (boolean true)
    (member (codes "name") (number (unsigned 1)) no_members)))) no_items)))
    ≡ below (codes "patterns") (below (decimal 0) (codes "/name")) ∷ below (codes "patterns")
    (below (decimal 0) (codes "/match")) ∷ []
the_walk_takes_match_before_end = refl

a_pointer_escapes_its_keys : below (codes "a/b~c") [] ≡ codes "/a~1b~0c"
a_pointer_escapes_its_keys = refl

a_number_but_0_is_a_flag : finish_last_in
    (object (member (codes "applyEndPatternLast") (number (unsigned 2)) no_members)) ≡ true
a_number_but_0_is_a_flag = refl

a_0_is_none : finish_last_in (object (member (codes "applyEndPatternLast") (number (unsigned 0)) no_members)) ≡ false
a_0_is_none = refl

a_key_with_a_leading_0_is_no_capture : is_capture_key 2 (codes "01") ≡ false
a_key_with_a_leading_0_is_no_capture = refl

captures_rise_by_number : captures_of (object
    (member (codes "10") (object no_members)
    (member (codes "2") (object no_members) (member (codes "x") null no_members))))
    ≡ capture 2 None None absent (capture 10 None None absent nothing)
captures_rise_by_number = refl

a_capture_with_rules_has_a_number : rule_count
    (grammar_of (with (codes "patterns") (array
    (item (object (member (codes "captures")
    (object (member (codes "1") (object (member (codes "patterns") (array no_items) no_members)) no_members))
    no_members)) no_items))))
    ≡ 3
a_capture_with_rules_has_a_number = refl
