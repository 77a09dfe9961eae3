-- Worked examples of injections, each named by what it shows.
use Rattle.std.specs.Prelude.{◌≡◌, ℕ, ◌∷◌, List, [], codes, map, true, false, ℤ, pos, negsuc, refl}
use Rattle.rule_defs.specs.Rules.{Match, Rule, no_rule}
use Rattle.injection_defs.specs.Injections.{Listed, in_order, goes_first, rules_of, holds_of}

abbrev listed : ℤ → List ℕ → ℕ → Listed
listed priority selector rule = record { priority = priority; selector = selector; entry = 0; rule = rule }

abbrev numbers : List Listed → List ℕ
numbers all = map (λ i. i.rule) all

-- rule 0 is a group of the rules 1 and 2, rule 1 matches
abbrev rules : List Rule
rules = record no_rule { active = 1 ∷ 2 ∷ [] } ∷ record no_rule { kind = Match } ∷ []

priorities_go_before_keys : numbers (in_order (listed (pos 1) (codes "R:a") 1 ∷ listed (pos 0) (codes "b") 2
    ∷ listed (negsuc 0) (codes "L:c") 3 ∷ []))
    ≡ 3 ∷ 2 ∷ 1 ∷ []
priorities_go_before_keys = refl

equal_priorities_stay_in_order : numbers (in_order (listed (pos 0) (codes "a") 1 ∷ listed (negsuc 0) (codes "L:b") 2
    ∷ listed (pos 0) (codes "c") 3 ∷ listed (negsuc 0) (codes "L:d") 4 ∷ []))
    ≡ 2 ∷ 4 ∷ 1 ∷ 3 ∷ []
equal_priorities_stay_in_order = refl

one_priority_alone_goes_first : map goes_first (negsuc 0 ∷ pos 0 ∷ pos 1 ∷ []) ≡ true ∷ false ∷ false ∷ []
one_priority_alone_goes_first = refl

a_group_stands_for_what_it_lists : rules_of rules (listed (pos 0) (codes "a") 0) ≡ 1 ∷ 2 ∷ []
a_group_stands_for_what_it_lists = refl

a_rule_that_matches_stands_for_itself : rules_of rules (listed (pos 0) (codes "a") 1) ≡ 1 ∷ []
a_rule_that_matches_stands_for_itself = refl

a_rule_that_is_not_there_lists_nothing : rules_of rules (listed (pos 0) (codes "a") 7) ≡ []
a_rule_that_is_not_there_lists_nothing = refl

an_entry_holds_by_its_own_operands :
    map (λ entry. holds_of (record { priority = pos 0; selector = codes "a b - c, L:d"; entry = entry; rule = 0 })
    (codes "a.x" ∷ codes "q" ∷ codes "b" ∷ [])) (0 ∷ 1 ∷ [])
    ≡ true ∷ false ∷ []
an_entry_holds_by_its_own_operands = refl
