-- Rules have their numbers, one behind the other.
use Rattle.std.proofs.Common.{◌≡◌, ℕ, zero, suc, ◌+◌, ◌<◌, ◌≤◌, List, [], ◌∷◌, length, map, drop, get_or}
use Rattle.std.proofs.Common.{ap, ◌∙◌, arith, cond, sym}
use Rattle.std.specs.Prelude.{Some}
use Rattle.std.specs.Str.{bytes_eq}
use Rattle.std.specs.BTreeMap.{get_by_text}
use Rattle.std.proofs.lemmas.List.{drop_more}
use Rattle.grammar_defs.specs.GrammarShape.{rules_of_rule, rules_of_named}
use Rattle.grammar_json.specs.FileViews.{rule_of}
use Rattle.grammar_json.specs.NamedViews.{named_view}
use Rattle.grammar_json.specs.declared.named.NamedRule.{NamedRule}
use Rattle.grammar_json.proofs.CountLemmas.{named_step}
use Rattle.graph_defs.specs.Includes.{number_of}
use Rattle.rule_graph.specs.Keys.{Numbers, AreNumbers}

-- what is left has at most as many rules as all
pub rules_of_rest : (rs : List NamedRule) (i : ℕ)
    → rules_of_named (map named_view (drop i rs)) ≤ rules_of_named (map named_view rs)
rules_of_rest rs zero = omega arith
rules_of_rest [] (suc i) = omega arith
rules_of_rest (r ∷ rs) (suc i) = omega (arith, rules_of_rest rs i, named_step (r ∷ rs) 0 r (omega arith))

-- a rule's name is added in front of those behind it
pub numbers-step : (rs : List NamedRule) (i : ℕ) (x : NamedRule) (m m' : Numbers) (n n' : ℕ) → i < length rs
    → AreNumbers m n (map named_view (drop (i + 1) rs))
    → n' + rules_of_rule (rule_of (get_or rs i x).rule) ≡ n
    → ((key : List ℕ) → get_by_text m' key ≡ cond (bytes_eq (get_or rs i x).key key) (Some n') (get_by_text m key))
    → AreNumbers m' n' (map named_view (drop i rs))
numbers-step rs i x m m' n n' h were next updated key =
    updated key
    ∙ ap (λ r. cond (bytes_eq (get_or rs i x).key key) (Some n') r)
    (were key ∙ ap (λ k. number_of k (map named_view (drop (i + 1) rs)) key) (sym next))
    ∙ ap (λ xs. number_of n' (map named_view xs) key) (sym (drop_more rs i x h))
