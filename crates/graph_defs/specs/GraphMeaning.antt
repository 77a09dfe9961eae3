-- What a grammar is to a run over a line: its rules with their active lists, its injections, the most groups of a
-- pattern, and how many of its pattern texts and of its injections' keys can't be read; or that its active lists are too
-- long, which is this project's own.
use Rattle.std.specs.Prelude.{ℕ, ◌+◌, max, List, [], ◌∷◌, ◌++◌, map, length, nat_lt, Bool, not, Option}
use Rattle.std.specs.Prelude.{Some, None, option_to_list, is_some}
use Rattle.std.specs.List.{count_by, filter, find}
use Rattle.canonical_patterns.specs.ReadTrees.{read_tree}
use Rattle.rule_defs.specs.Rules.{Slot, Never, Read, Later, Rule}
use Rattle.grammar_defs.specs.FileRules.{Texts, FileList, absent, nothing, include, rule, capture, NamedRule}
use Rattle.grammar_defs.specs.FileRules.{Grammar, placed}
use Rattle.injection_defs.specs.Injections.{Listed}
use Rattle.graph_defs.specs.declared.limits.TheConstants.{MOST_ACTIVE}
use Rattle.graph_defs.specs.Slots.{is_later}
use Rattle.graph_defs.specs.ListedInjections.{injections, unread_keys}
use Rattle.graph_defs.specs.ListedRules.{listed_rules}
use Rattle.graph_defs.specs.ActiveLists.{active_rules}

-- how many groups a pattern may have
abbrev pub slot_groups : Slot → ℕ
slot_groups Never = 0
slot_groups (Read tree) = tree.groups
slot_groups (Later text groups) = groups

abbrev pub rule_groups : Rule → ℕ
rule_groups r = max (slot_groups r.start) (slot_groups r.finish)

abbrev pub most_groups : List Rule → ℕ
most_groups [] = 0
most_groups (r ∷ rules) = max (rule_groups r) (most_groups rules)

-- The texts of all patterns, also those that no rule comes to use: of `match` and `begin`, and of `end` and `while`
-- without those that are read later.

abbrev pub is_read_now : List ℕ → Bool
is_read_now text = not (is_later text)

abbrev pub pattern_texts : Texts → List (List ℕ)
pattern_texts t = option_to_list t.single
    ++ (option_to_list t.begin
    ++ (filter is_read_now (option_to_list t.finish) ++ filter is_read_now (option_to_list t.keep)))

abbrev pub texts_of : FileList → List (List ℕ)
texts_of absent = []
texts_of nothing = []
texts_of (include name others) = texts_of others
texts_of (rule t a b c d last p others) =
    pattern_texts t
    ++ (texts_of a ++ (texts_of b ++ (texts_of c ++ (texts_of d ++ (texts_of p ++ texts_of others)))))
texts_of (capture number name content p others) = texts_of p ++ texts_of others

abbrev pub named_texts : List NamedRule → List (List ℕ)
named_texts [] = []
named_texts (named ∷ rules) = texts_of (placed named.rule nothing) ++ named_texts rules

abbrev pub all_texts : Grammar → List (List ℕ)
all_texts g = texts_of g.patterns ++ (named_texts g.repository ++ named_texts g.injections)

abbrev pub is_unread : List ℕ → Bool
is_unread text = not (is_some (read_tree text))

abbrev pub unread_texts : Grammar → ℕ
unread_texts g = count_by is_unread (all_texts g)

abbrev pub unread : Grammar → ℕ
unread g = unread_texts g + unread_keys g.injections

-- the sums of the first lengths, each with the sum before it
abbrev pub sums_from : ℕ → List ℕ → List ℕ
sums_from sum [] = []
sums_from sum (n ∷ lengths) = (sum + n) ∷ sums_from (sum + n) lengths

-- the first sum of the lengths of active lists that is above the limit
abbrev pub over_limit : List Rule → Option ℕ
over_limit rules = find (nat_lt MOST_ACTIVE) (sums_from 0 (map (λ r. length r.active) rules))

pub record FileGraph : Type 0 where
  pub rules : List Rule
  pub injections : List Listed
  pub groups : ℕ
  pub unread : ℕ

pub data GraphReading : Type 0 where
  too_wide : ℕ → GraphReading
  graph : FileGraph → GraphReading

abbrev pub graph_of : Grammar → FileGraph
graph_of g = record {
  rules = active_rules (listed_rules g);
  injections = injections g;
  groups = most_groups (active_rules (listed_rules g));
  unread = unread g;
}

abbrev pub reading_by : Option ℕ → FileGraph → GraphReading
reading_by (Some sum) g = too_wide sum
reading_by None g = graph g

abbrev pub reading : Grammar → GraphReading
reading g = reading_by (over_limit (graph_of g).rules) (graph_of g)
