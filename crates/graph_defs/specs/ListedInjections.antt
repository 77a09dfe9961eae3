-- The injections of a grammar: each entry of each key injects the key's rule. A key that is no selector injects nothing.
-- They stand by priority, then by their keys, as a file has them in byte order, then by their places in a key.
use Rattle.std.specs.Prelude.{ℕ, ◌+◌, List, [], ◌∷◌, ◌++◌, map, Bool, not, is_ok}
use Rattle.std.specs.List.{count_by}
use Rattle.scope_defs.specs.Selectors.{Entry}
use Rattle.scope_defs.specs.SelectorSyntax.{entries_of, read_selector}
use Rattle.injection_defs.specs.Injections.{Listed, in_order}
use Rattle.grammar_defs.specs.FileRules.{NamedRule, Grammar}
use Rattle.grammar_defs.specs.GrammarShape.{rules_of_rule}
use Rattle.graph_defs.specs.ListedRules.{injections_from}

-- the entries of a selector from number `entry` on, each with the rule of a number
abbrev pub entries_from : (selector : List ℕ) → (rule entry : ℕ) → List Entry → List Listed
entries_from selector rule entry [] = []
entries_from selector rule entry (e ∷ entries) =
    record { priority = e.priority; selector = selector; entry = entry; rule = rule }
    ∷ entries_from selector rule (entry + 1) entries

abbrev pub key_entries : (selector : List ℕ) → (rule : ℕ) → List Listed
key_entries selector rule = entries_from selector rule 0 (entries_of selector)

-- those of keys with their rules, where the first of these rules has the number n
abbrev pub listed_from : ℕ → List NamedRule → List Listed
listed_from n [] = []
listed_from n (named ∷ rules) = key_entries named.key n ++ listed_from (n + rules_of_rule named.rule) rules

abbrev pub injections : Grammar → List Listed
injections g = in_order (listed_from (injections_from g) g.injections)

-- ---- keys that can't be read

abbrev pub is_no_selector : List ℕ → Bool
is_no_selector key = not (is_ok (read_selector key))

abbrev pub unread_keys : List NamedRule → ℕ
unread_keys rules = count_by is_no_selector (map (λ named. named.key) rules)
