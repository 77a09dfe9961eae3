-- Further worked examples of what a grammar is to a run, each named by what it shows.
use Rattle.std.specs.Prelude.{◌≡◌, ℕ, List, [], ◌∷◌, codes, map, replicate, false, Option, Some, None, refl}
use Rattle.std.specs.Str.{chars}
use Rattle.pattern_defs.specs.declared.nodes.Anchor.{Anchor}
use Rattle.pattern_defs.specs.declared.nodes.Anchor.TheVariants.{LineStart, LineEnd}
use Rattle.pattern_defs.specs.declared.nodes.PatNode.TheVariants.{At}
use Rattle.syntax_defs.specs.PatternSyntax.{body_at, steps}
use Rattle.rule_defs.specs.Rules.{Match, BeginEnd, BeginWhile, Group, Slot, Never, Read, Later, Rule, no_rule}
use Rattle.injection_defs.specs.Injections.{Listed}
use Rattle.grammar_defs.specs.FileRules.{Texts, FileList, absent, nothing, include, rule, NamedRule, Grammar}
use Rattle.graph_defs.specs.Slots.{later_groups, start_of, finish_of}
use Rattle.graph_defs.specs.ListedRules.{rule_with, listed_rules}
use Rattle.graph_defs.specs.GraphMeaning.{GraphReading, graph, too_wide, reading, most_groups, all_texts}

-- ---- what the examples are made of

abbrev no_texts : Texts
no_texts = record { name = None; content = None; single = None; begin = None; finish = None; keep = None; include = None }

abbrev matching : List ℕ → Texts
matching t = record no_texts { single = Some t }

-- a rule of texts alone in front of others
abbrev plain : Texts → FileList → FileList
plain t others = rule t absent absent absent absent false absent others

abbrev named : List ℕ → Texts → FileList → NamedRule
named key t patterns = record { key = key; rule = rule_with t absent absent absent absent false patterns }

abbrev file : FileList → List NamedRule → List NamedRule → Grammar
file patterns repository injections = record {
  scope = codes "s";
  patterns = patterns;
  repository = repository;
  injections = injections;
}

-- ---- the whole

-- the active lists, the rules of the injections, the most groups, and how many texts and keys can't be read
abbrev shown : GraphReading → Option (List (List ℕ) × (List ℕ × (ℕ × ℕ)))
shown (too_wide sum) = None
shown (graph g) =
    Some (map (λ (r : Rule). r.active) g.rules, (map (λ (i : Listed). i.rule) g.injections, (g.groups, g.unread)))

-- The top lists `a`, rule 1, which is a group of rule 2. The end of that has three groups. Of the injections' keys the
-- first is no selector, and its rule 3 has a pattern that isn't closed; rule 4 has one group.
pub what_a_grammar_is_to_a_run :
    shown (reading (file (include (codes "#a") nothing)
    (named (codes "a") no_texts (plain (record no_texts { begin = Some (codes "^"); finish = Some (codes "()()()") }) nothing) ∷ [])
    (named (codes "a |") (matching (codes "(")) absent ∷ named (codes "b") (matching (codes "()")) absent ∷ [])))
    ≡ Some ((2 ∷ []) ∷ (2 ∷ []) ∷ [] ∷ [] ∷ [] ∷ [], (4 ∷ [], (3, 2)))
unfolding chars body_at steps
what_a_grammar_is_to_a_run = refl

-- ---- patterns

-- a pattern that is one anchor
abbrev anchored : Anchor → Slot
anchored anchor = Read (record { lists = (At anchor ∷ []) ∷ []; top = record { 0 = 0 }; groups = 0 })

-- `^` for `match`, `$` for `begin`, `\1(` for `end` and `\2` for `while`
abbrev all_four : Texts
all_four = record no_texts {
  single = Some (codes "^");
  begin = Some (codes "$");
  finish = Some (92 ∷ codes "1(");
  keep = Some (92 ∷ codes "2");
}

pub each_kind_has_its_patterns :
    (map (λ kind. start_of kind all_four) (Match ∷ BeginEnd ∷ BeginWhile ∷ Group ∷ [])
    ≡ anchored LineStart ∷ anchored LineEnd ∷ anchored LineEnd ∷ Never ∷ [])
    × (map (λ kind. finish_of kind all_four) (Match ∷ BeginEnd ∷ BeginWhile ∷ Group ∷ [])
    ≡ Never ∷ Later (92 ∷ codes "1(") 2 ∷ Later (92 ∷ codes "2") 1 ∷ Never ∷ [])
unfolding chars body_at steps
each_kind_has_its_patterns = (refl, refl)

abbrev both_names : Rule → Option (List ℕ) × Option (List ℕ)
both_names r = (r.name, r.content)

pub a_rule_has_its_content_name :
    map both_names (listed_rules (file (plain (record (matching (codes "^")) {
      name = Some (codes "n");
      content = Some (codes "c");
    }) nothing) [] []))
    ≡ (Some (codes "s"), None) ∷ (Some (codes "n"), Some (codes "c")) ∷ []
a_rule_has_its_content_name = refl

pub a_while_text_that_is_read_later_is_not_counted :
    all_texts (file (plain (record no_texts { begin = Some (codes "<"); keep = Some (92 ∷ codes "1(") }) nothing) [] [])
    ≡ codes "<" ∷ []
a_while_text_that_is_read_later_is_not_counted = refl

-- ---- groups

-- so many parentheses
pub a_text_read_later_has_at_most_65536_groups :
    map later_groups (replicate 65_535 40 ∷ replicate 65_537 40 ∷ []) ≡ 65_535 ∷ 65_536 ∷ []
a_text_read_later_has_at_most_65536_groups = refl

-- a pattern with so many groups
abbrev with_groups : ℕ → Slot
with_groups groups = Read (record { lists = [] ∷ []; top = record { 0 = 0 }; groups = groups })

pub the_most_groups_are_those_of_any_pattern :
    (most_groups (record no_rule { start = Later [] 3 } ∷ record no_rule { start = with_groups 1; finish = Later [] 5 }
    ∷ record no_rule { start = with_groups 4 } ∷ no_rule ∷ []) ≡ 5)
    × (most_groups (no_rule ∷ record no_rule { start = with_groups 4; finish = Later [] 2 } ∷ []) ≡ 4)
    × (most_groups [] ≡ 0)
the_most_groups_are_those_of_any_pattern = (refl, refl, refl)
