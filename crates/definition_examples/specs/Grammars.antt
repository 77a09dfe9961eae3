-- Further worked examples of grammar files and bracket files, each named by what it shows.
use Rattle.std.specs.Prelude.{◌≡◌, ℕ, zero, suc, List, [], ◌∷◌, ◌++◌, codes, map, Bool, true, false, Some, None, negsuc}
use Rattle.std.specs.Prelude.{Float, refl}
use Rattle.std.specs.Str.{chars, is_utf8}
use Rattle.std.specs.Str.Lossy.{utf8_valid_len}
use Rattle.std.specs.Fmt.{decimal}
use lib.Utf8.{encode}
use Rattle.serde_json.proofs.OnLiterals.{serde_json_on_literals}
use Rattle.serde_json.specs.Data.{Data, null, boolean, number, string, array, object, no_items, item}
use Rattle.serde_json.specs.Data.{Members, no_members, member, unsigned, negative, float}
use Rattle.grammar_defs.specs.FileRules.{Texts, FileList, absent, nothing, rule, capture, Grammar}
use Rattle.grammar_defs.specs.Loosening.{loosened}
use Rattle.grammar_defs.specs.Pointers.{below}
use Rattle.grammar_defs.specs.RuleShape.{texts_in, finish_last_in, captures_of, rule_in}
use Rattle.grammar_defs.specs.GrammarShape.{grammar_faults, grammar_of, rule_count, within_limit, read_file}
use Rattle.grammar_defs.specs.GrammarShape.{grammar, too_many_rules, no_json}
use Rattle.grammar_defs.specs.BracketShape.{read_bracket_file, pairs}

-- ---- comments and trailing commas

pub line_feeds_of_comments_stay : loosened (codes "/*" ++ 10 ∷ codes "*/1") ≡ codes "  " ++ 10 ∷ codes "  1"
line_feeds_of_comments_stay = refl

pub a_line_comment_ends_with_its_line : loosened (codes "// a" ++ 10 ∷ codes "1") ≡ codes "    " ++ 10 ∷ codes "1"
a_line_comment_ends_with_its_line = refl

pub a_comment_that_is_not_closed_goes_on_to_the_end : loosened (codes "1/* a") ≡ codes "1    "
a_comment_that_is_not_closed_goes_on_to_the_end = refl

pub a_comma_before_a_brace_goes_too : loosened (codes "{\"a\":1,}") ≡ codes "{\"a\":1 }"
a_comma_before_a_brace_goes_too = refl

-- the space, the tab, LF and CR, and no form feed
pub four_bytes_are_white_space_behind_a_comma :
    (loosened (codes "[1," ++ 32 ∷ 9 ∷ 10 ∷ 13 ∷ codes "]") ≡ codes "[1 " ++ 32 ∷ 9 ∷ 10 ∷ 13 ∷ codes "]")
    × (loosened (codes "[1," ++ 12 ∷ codes "]") ≡ codes "[1," ++ 12 ∷ codes "]")
four_bytes_are_white_space_behind_a_comma = (refl, refl)

pub a_comment_behind_a_comma_counts_as_spaces : loosened (codes "[1,/*x*/]") ≡ codes "[1      ]"
a_comment_behind_a_comma_counts_as_spaces = refl

pub files_may_have_comments_and_trailing_commas :
    (read_bracket_file (codes "{\"brackets\":[[\"(\",\")\"],]} // x")
    ≡ pairs (record { opener = codes "("; closer = codes ")" } ∷ []))
    × (read_file (codes "{\"scopeName\":\"s\",} // x")
    ≡ grammar (record { scope = codes "s"; patterns = nothing; repository = []; injections = [] }))
unfolding serde_json_on_literals chars is_utf8 utf8_valid_len encode
files_may_have_comments_and_trailing_commas = (refl, refl)

-- an object that isn't closed, and a string with a byte that is no UTF-8
pub files_that_are_no_json : map read_file (codes "{\"scopeName\":\"s\"" ∷ (34 ∷ 255 ∷ 34 ∷ []) ∷ []) ≡ no_json ∷ no_json ∷ []
unfolding serde_json_on_literals chars is_utf8 utf8_valid_len encode
files_that_are_no_json = refl

-- ---- texts and flags

abbrev text : (key value : List ℕ) → Members → Members
text key value others = member key (string value) others

pub each_key_has_its_text :
    texts_in (object (text (codes "begin") (codes "b") (text (codes "contentName") (codes "c") (text (codes "end") (codes "e")
    (text (codes "include") (codes "i") (text (codes "match") (codes "m") (text (codes "name") (codes "n")
    (text (codes "while") (codes "w") no_members))))))))
    ≡ record {
      name = Some (codes "n");
      content = Some (codes "c");
      single = Some (codes "m");
      begin = Some (codes "b");
      finish = Some (codes "e");
      keep = Some (codes "w");
      include = Some (codes "i");
    }
each_key_has_its_text = refl

pub of_empty_texts_begin_and_include_are_there :
    texts_in (object (text (codes "begin") [] (text (codes "contentName") [] (text (codes "end") []
    (text (codes "include") [] (text (codes "match") [] (text (codes "name") [] (text (codes "while") [] no_members))))))))
    ≡ record { name = None; content = None; single = None; begin = Some []; finish = None; keep = None; include = Some [] }
of_empty_texts_begin_and_include_are_there = refl

pub an_empty_scope_name_is_none :
    map (λ name. grammar_faults (object (member (codes "scopeName") name no_members))) (string [] ∷ number (unsigned 1) ∷ [])
    ≡ (codes "/scopeName" ∷ []) ∷ (codes "/scopeName" ∷ []) ∷ []
an_empty_scope_name_is_none = refl

abbrev is_last : Data → Bool
is_last flag = finish_last_in (object (member (codes "applyEndPatternLast") flag no_members))

pub true_and_numbers_but_the_unsigned_0_are_flags :
    map is_last (boolean true ∷ boolean false ∷ null ∷ string (codes "true") ∷ number (unsigned 0) ∷ number (unsigned 1)
    ∷ number (negative (negsuc 0)) ∷ [])
    ≡ true ∷ false ∷ false ∷ false ∷ false ∷ true ∷ true ∷ []
true_and_numbers_but_the_unsigned_0_are_flags = refl

-- 0.0 and -0.0 too
pub each_number_with_a_point_is_a_flag : (x : Float) → is_last (number (float x)) ≡ true
each_number_with_a_point_is_a_flag x = refl

-- ---- captures

abbrev bare : Data
bare = object no_members

pub captures_have_five_digits_at_most :
    captures_of (object (member (codes "0") bare (member (codes "100000") bare (member (codes "12345") bare
    (member (codes "99999") bare no_members)))))
    ≡ capture 0 None None absent (capture 12_345 None None absent (capture 99_999 None None absent nothing))
captures_have_five_digits_at_most = refl

pub a_capture_has_a_name_and_a_content_name :
    captures_of (object (member (codes "1") (object (text (codes "contentName") (codes "c") (text (codes "name") (codes "n")
    no_members))) no_members))
    ≡ capture 1 (Some (codes "n")) (Some (codes "c")) absent nothing
a_capture_has_a_name_and_a_content_name = refl

pub a_capture_that_is_null_is_none :
    captures_of (object (member (codes "1") null (member (codes "2") bare no_members))) ≡ capture 2 None None absent nothing
a_capture_that_is_null_is_none = refl

-- ---- rules of the repository

abbrev no_texts : Texts
no_texts = record { name = None; content = None; single = None; begin = None; finish = None; keep = None; include = None }

-- a key with one capture of a number
abbrev with_capture : (key digits : List ℕ) → Members → Members
with_capture key digits others = member key (object (member digits bare no_members)) others

pub a_rule_of_the_repository_has_its_keys :
    rule_in (object (member (codes "applyEndPatternLast") (boolean true) (with_capture (codes "beginCaptures") (codes "2")
    (with_capture (codes "captures") (codes "1") (with_capture (codes "endCaptures") (codes "3")
    (member (codes "patterns") (array no_items) (with_capture (codes "whileCaptures") (codes "4") no_members)))))))
    ≡ record {
      texts = no_texts;
      captures = capture 1 None None absent nothing;
      begin_captures = capture 2 None None absent nothing;
      end_captures = capture 3 None None absent nothing;
      while_captures = capture 4 None None absent nothing;
      finish_last = true;
      patterns = nothing;
    }
a_rule_of_the_repository_has_its_keys = refl

-- ---- values of a wrong kind

-- a value that is wrong at each key but a flag's
abbrev wrong : List ℕ → Members → Members
wrong key others = member key (boolean true) others

abbrev file : Members → Data
file keys = object (member (codes "scopeName") (string (codes "s")) keys)

-- a file with this one rule
abbrev with_rule : Data → Data
with_rule r = file (member (codes "patterns") (array (item r no_items)) no_members)

pub the_keys_of_a_file_are_walked_in_order :
    grammar_faults (object (wrong (codes "injections") (wrong (codes "patterns") (wrong (codes "repository")
    (wrong (codes "scopeName") no_members)))))
    ≡ codes "/scopeName" ∷ codes "/patterns" ∷ codes "/repository" ∷ codes "/injections" ∷ []
the_keys_of_a_file_are_walked_in_order = refl

pub the_keys_of_a_rule_are_walked_in_order :
    grammar_faults (with_rule (object (member (codes "applyEndPatternLast") (string (codes "x")) (wrong (codes "begin")
    (wrong (codes "beginCaptures") (wrong (codes "captures") (wrong (codes "contentName") (wrong (codes "end")
    (wrong (codes "endCaptures") (wrong (codes "include") (wrong (codes "match") (wrong (codes "name")
    (wrong (codes "patterns") (wrong (codes "while") (wrong (codes "whileCaptures") no_members)))))))))))))))
    ≡ map (λ key. below (codes "patterns") (below (decimal 0) (below key [])))
    (codes "name" ∷ codes "contentName" ∷ codes "match" ∷ codes "begin" ∷ codes "end" ∷ codes "while" ∷ codes "include"
    ∷ codes "captures" ∷ codes "beginCaptures" ∷ codes "endCaptures" ∷ codes "whileCaptures" ∷ codes "applyEndPatternLast"
    ∷ codes "patterns" ∷ [])
the_keys_of_a_rule_are_walked_in_order = refl

-- captures by number, each with its keys in order; what is no number isn't looked at
pub captures_are_walked_by_number :
    grammar_faults (with_rule (object (member (codes "captures") (object (wrong (codes "10") (member (codes "2")
    (object (wrong (codes "contentName") (wrong (codes "name") (wrong (codes "patterns") no_members))))
    (wrong (codes "x") no_members)))) no_members)))
    ≡ map (λ rest. below (codes "patterns") (below (decimal 0) rest))
    (codes "/captures/2/name" ∷ codes "/captures/2/contentName" ∷ codes "/captures/2/patterns" ∷ codes "/captures/10" ∷ [])
captures_are_walked_by_number = refl

pub members_are_numbered :
    grammar_faults (file (member (codes "patterns") (array (item null (item bare (item null no_items)))) no_members))
    ≡ below (codes "patterns") (below (decimal 0) []) ∷ below (codes "patterns") (below (decimal 2) []) ∷ []
members_are_numbered = refl

pub an_include_in_the_repository_is_walked :
    grammar_faults (file (member (codes "repository") (object (member (codes "a") (object (text (codes "include") (codes "#b")
    (wrong (codes "name") no_members))) no_members)) no_members))
    ≡ codes "/repository/a/name" ∷ []
an_include_in_the_repository_is_walked = refl

pub null_in_the_repository_counts_as_missing :
    grammar_faults (file (member (codes "repository") (object (member (codes "a") null (wrong (codes "b") no_members))) no_members))
    ≡ codes "/repository/b" ∷ []
null_in_the_repository_counts_as_missing = refl

-- ---- how many rules there are

-- a rule that matches `x`
abbrev x : Data
x = object (text (codes "match") (codes "x") no_members)

-- the top, one rule in its list, three in the repository and one in the injections
pub rules_of_the_repository_and_of_injections_count :
    rule_count (grammar_of (file (member (codes "injections") (object (member (codes "L:s") x no_members))
    (member (codes "patterns") (array (item x no_items))
    (member (codes "repository") (object (member (codes "a") (object (member (codes "patterns") (array (item x (item x no_items)))
    no_members)) no_members)) no_members)))))
    ≡ 6
rules_of_the_repository_and_of_injections_count = refl

-- so many rules in a list
abbrev rules : ℕ → FileList
rules zero = nothing
rules (suc more) = rule no_texts absent absent absent absent false absent (rules more)

abbrev many : ℕ → Grammar
many count = record { scope = codes "s"; patterns = rules count; repository = []; injections = [] }

pub a_grammar_has_at_most_65536_rules :
    (within_limit (many 65_535) ≡ grammar (many 65_535)) × (within_limit (many 65_536) ≡ too_many_rules 65_537)
a_grammar_has_at_most_65536_rules = (refl, refl)
