-- Worked examples of the rules of grammars, each named by what it shows. In each, the top is rule 0.
use Rattle.std.specs.Prelude.{◌≡◌, ℕ, ◌∷◌, ◌++◌, List, [], codes, map, true, false, Option, Some, None, refl}
use Rattle.serde_json.specs.Data.{Data, null, string, array, object, no_items, item, no_members, member}
use Rattle.syntax_defs.specs.PatternSyntax.{body_at, steps}
use Rattle.std.specs.Str.{chars}
use Rattle.rule_defs.specs.Rules.{Kind, Match, BeginWhile, Group, Never, Later, Rule}
use Rattle.grammar_defs.specs.FileRules.{Texts, FileList, absent, nothing, include, rule, capture, NamedRule}
use Rattle.grammar_defs.specs.FileRules.{Grammar}
use Rattle.grammar_defs.specs.GrammarShape.{grammar_of}
use Rattle.graph_defs.specs.Slots.{finish_slot}
use Rattle.graph_defs.specs.Includes.{target}
use Rattle.graph_defs.specs.ListedRules.{rule_with, listed_rules, group_of}
use Rattle.graph_defs.specs.ActiveLists.{rule_at, active_rules}
use Rattle.graph_defs.specs.GraphMeaning.{all_texts, unread, sums_from, over_limit}

-- what the examples are made of

abbrev text : List ℕ → Option (List ℕ)
text t = Some t

abbrev no_texts : Texts
no_texts = record {
  name = None;
  content = None;
  single = None;
  begin = None;
  finish = None;
  keep = None;
  include = None;
}

abbrev matching : List ℕ → Texts
matching t = record no_texts { single = Some t }

abbrev between : (begin finish : List ℕ) → Texts
between begin finish = record no_texts { begin = Some begin; finish = Some finish }

-- a rule of texts alone, and one of a list
abbrev plain : Texts → FileList → FileList
plain t others = rule t absent absent absent absent false absent others

abbrev listing : Texts → FileList → FileList → FileList
listing t patterns others = rule t absent absent absent absent false patterns others

abbrev named : List ℕ → Texts → FileList → NamedRule
named key t patterns = record { key = key; rule = rule_with t absent absent absent absent false patterns }

abbrev file : FileList → List NamedRule → Grammar
file patterns repository = record { scope = codes "s"; patterns = patterns; repository = repository; injections = [] }

abbrev rules : Grammar → List Rule
rules g = active_rules (listed_rules g)

abbrev active : Grammar → List (List ℕ)
active g = map (λ r. r.active) (rules g)

abbrev kinds : Grammar → List Kind
kinds g = map (λ r. r.kind) (rules g)

-- the top

the_top_is_a_group_with_the_name : rules (file nothing []) ≡ group_of (Some (codes "s")) [] ∷ []
the_top_is_a_group_with_the_name = refl

-- includes

a_name_is_that_of_the_repository : active (file (include (codes "#a") nothing) (named (codes "a") (matching
    (codes "x")) absent ∷ []))
    ≡ (1 ∷ []) ∷ [] ∷ []
a_name_is_that_of_the_repository = refl

the_own_name_may_stand_before_it : target (file nothing (named (codes "a") no_texts absent ∷ named
    (codes "b") no_texts absent ∷ [])) (codes "s#b")
    ≡ Some 2
the_own_name_may_stand_before_it = refl

three_names_are_the_top : map (target (file nothing [])) (codes "$self" ∷ codes "$base" ∷ codes "s"
    ∷ codes "other" ∷ codes "#a" ∷ [])
    ≡ Some 0 ∷ Some 0 ∷ Some 0 ∷ None ∷ None ∷ []
three_names_are_the_top = refl

an_unknown_name_drops_nothing_else : active (file (include (codes "other") (include (codes "#a") (plain
    (matching (codes "x")) nothing))) [])
    ≡ (1 ∷ []) ∷ [] ∷ []
an_unknown_name_drops_nothing_else = refl

-- The top lists `a`; `a` lists `b` and its rule 2, `b` lists `a` and its rule 4. In the list of `a` itself, `a` is
-- replaced once more.
a_cycle_of_includes_ends : active (file (include (codes "#a") nothing)
    (named (codes "a") no_texts (include (codes "#b") (plain (matching (codes "x")) nothing))
    ∷ named (codes "b") no_texts (include (codes "#a") (plain (matching (codes "y")) nothing)) ∷ []))
    ≡ (4 ∷ 2 ∷ []) ∷ (2 ∷ 4 ∷ 2 ∷ []) ∷ [] ∷ (4 ∷ 2 ∷ 4 ∷ []) ∷ [] ∷ []
a_cycle_of_includes_ends = refl

a_group_adds_nothing_the_second_time : active (file (include (codes "#a") (include (codes "#a") nothing))
    (named (codes "a") no_texts (plain (matching (codes "x")) nothing) ∷ []))
    ≡ (2 ∷ []) ∷ (2 ∷ []) ∷ [] ∷ []
a_group_adds_nothing_the_second_time = refl

a_rule_that_is_no_group_may_stand_twice : active (file (include (codes "#a") (include (codes "#a") nothing))
    (named (codes "a") (matching (codes "x")) absent ∷ []))
    ≡ (1 ∷ 1 ∷ []) ∷ [] ∷ []
a_rule_that_is_no_group_may_stand_twice = refl

-- the rule 1 lists the top, and so its own rule 2 behind the top's rule 3 and itself
the_top_is_a_group : active (file (listing (between (codes "<") (codes ">")) (include (codes "$self") (plain
    (matching (codes "x")) nothing)) (plain (matching (codes "y")) nothing)) [])
    ≡ (1 ∷ 3 ∷ []) ∷ (1 ∷ 3 ∷ 2 ∷ []) ∷ [] ∷ [] ∷ []
the_top_is_a_group = refl

a_rule_whose_members_were_all_dropped_stays : active (file (listing (between (codes "<") (codes ">")) (include
    (codes "other") nothing) nothing) [])
    ≡ (1 ∷ []) ∷ [] ∷ []
a_rule_whose_members_were_all_dropped_stays = refl

-- outside a list, a rule without `patterns` stands for its `include`
an_include_outside_a_list : active (file (include (codes "#a") nothing)
    (named (codes "a") (record no_texts { include = Some (codes "#b") }) absent ∷ named (codes "b") (matching
    (codes "x")) absent ∷ []))
    ≡ (2 ∷ []) ∷ (2 ∷ []) ∷ [] ∷ []
an_include_outside_a_list = refl

an_empty_list_is_not_a_missing_one : active (file nothing
    (named (codes "a") (record no_texts { include = Some (codes "#b") }) nothing ∷ named (codes "b") (matching
    (codes "x")) absent ∷ []))
    ≡ [] ∷ [] ∷ [] ∷ []
an_empty_list_is_not_a_missing_one = refl

-- kinds

match_goes_before_begin : kinds (file (plain (record (between (codes "<") (codes ">")) {
  single = Some
      (codes "x");
}) nothing) [])
    ≡ Group ∷ Match ∷ []
match_goes_before_begin = refl

while_goes_before_end : kinds (file (plain (record (between (codes "<") (codes ">")) {
  keep = Some
      (codes "x");
}) nothing) [])
    ≡ Group ∷ BeginWhile ∷ []
while_goes_before_end = refl

a_rule_with_end_alone_is_a_group : kinds (file (plain (record no_texts { finish = Some (codes ">") }) nothing) [])
    ≡ Group ∷ Group ∷ []
a_rule_with_end_alone_is_a_group = refl

a_match_rule_has_no_end : (rule_at (rules (file (plain (record (between (codes "<")
    (codes ">")) { single = Some (codes "x") }) nothing) [])) 1).finish
    ≡ Never
a_match_rule_has_no_end = refl

-- patterns

-- a backslash, a 1 and a parenthesis
an_end_with_a_back_reference_is_read_later : finish_slot (Some (codes "(" ++ 92 ∷ codes "1)"))
    ≡ Later (codes "(" ++ 92 ∷ codes "1)") 2
an_end_with_a_back_reference_is_read_later = refl

texts_without_use_are_counted_too : all_texts (file (plain (record (between (codes "<")
    (codes ">")) { single = Some (codes "x"); keep = Some (codes "(") }) nothing) [])
    ≡ codes "x" ∷ codes "<" ∷ codes ">" ∷ codes "(" ∷ []
texts_without_use_are_counted_too = refl

an_end_that_is_read_later_is_not_counted : all_texts (file (plain (between (codes "<") (92
    ∷ codes "1(")) nothing) [])
    ≡ codes "<" ∷ []
an_end_that_is_read_later_is_not_counted = refl

-- captures

abbrev with_capture : FileList → Grammar
with_capture patterns = file (rule (matching (codes "x")) (capture 1 (Some
    (codes "n")) None patterns nothing) absent absent absent false absent nothing) []

a_capture_with_patterns_is_a_group : active (with_capture (plain (matching (codes "y")) (plain (matching
    (codes "z")) nothing)))
    ≡ (1 ∷ []) ∷ [] ∷ (3 ∷ 4 ∷ []) ∷ [] ∷ [] ∷ []
a_capture_with_patterns_is_a_group = refl

its_entry_names_the_group : (rule_at (rules (with_capture nothing)) 1).start_captures
    ≡ record { number = 1; name = Some (codes "n"); content = None; inner = Some 2 } ∷ []
its_entry_names_the_group = refl

a_capture_without_patterns_has_none : (rule_at (rules (with_capture absent)) 1).start_captures
    ≡ record { number = 1; name = Some (codes "n"); content = None; inner = None } ∷ []
a_capture_without_patterns_has_none = refl

captures_stand_for_missing_ones : map (λ e. e.number) (rule_at (rules (file (rule (between (codes "<")
    (codes ">")) (capture 1 None None absent nothing) absent
    (capture 2 None None absent nothing) absent false absent nothing) [])) 1).start_captures
    ≡ 1 ∷ []
captures_stand_for_missing_ones = refl

end_captures_go_before_them : map (λ e. e.number) (rule_at (rules (file (rule (between (codes "<")
    (codes ">")) (capture 1 None None absent nothing) absent
    (capture 2 None None absent nothing) absent false absent nothing) [])) 1).finish_captures
    ≡ 2 ∷ []
end_captures_go_before_them = refl

an_end_that_comes_last : (rule_at (rules (file (rule (between (codes "<")
    (codes ">")) absent absent absent absent true absent nothing) [])) 1).finish_last
    ≡ true
an_end_that_comes_last = refl

-- the numbers of a rule's parts: captures, then those of its begin, end and while, then its list
parts_are_numbered_in_order : map (λ r. r.name) (rules (file (rule no_texts
    (capture 0 None None (plain (record no_texts { name = Some (codes "a") }) nothing) nothing)
    absent absent absent false
    (plain (record no_texts { name = Some (codes "b") }) nothing)
    (plain (record no_texts { name = Some (codes "c") }) nothing)) []))
    ≡ Some (codes "s") ∷ None ∷ None ∷ Some (codes "a") ∷ Some (codes "b") ∷ Some (codes "c") ∷ []
parts_are_numbered_in_order = refl

-- values of files

abbrev entry : List ℕ → Data
entry name = object (member (codes "include") (string name) no_members)

-- a rule of the repository that is null isn't there
null_is_no_rule : active (grammar_of (object
    (member (codes "patterns") (array (item (entry (codes "#a")) (item (entry (codes "#b")) no_items)))
    (member (codes "repository") (object (member (codes "a") null
    (member (codes "b") (object (member (codes "match") (string
    (codes "x")) no_members)) no_members))) no_members))))
    ≡ (1 ∷ []) ∷ [] ∷ []
null_is_no_rule = refl

-- of rules with equal names, the first has the name
of_equal_names_the_first_counts : target (file nothing (named (codes "a") no_texts (plain no_texts nothing)
    ∷ named (codes "a") no_texts absent ∷ [])) (codes "#a")
    ≡ Some 1
of_equal_names_the_first_counts = refl

-- widths

lengths_are_summed_in_order : sums_from 0 (3 ∷ 0 ∷ 4 ∷ []) ≡ 3 ∷ 3 ∷ 7 ∷ []
lengths_are_summed_in_order = refl

a_small_grammar_is_not_too_wide : over_limit (rules (file (plain (matching (codes "x")) nothing) [])) ≡ None
a_small_grammar_is_not_too_wide = refl

-- `(?~x)` is a form that is left out, `(` isn't closed, and `x` is read
two_of_three_texts_are_unread : unread (file (plain (matching (codes "(?~x)")) (plain (matching (codes "("))
    (plain (matching (codes "x")) nothing))) [])
    ≡ 2
unfolding chars body_at steps
two_of_three_texts_are_unread = refl
