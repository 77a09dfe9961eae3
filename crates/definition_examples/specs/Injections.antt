-- Further worked examples of injections, and of a rule that isn't there, each named by what it shows.
use Rattle.std.specs.Prelude.{◌≡◌, ℕ, ◌∷◌, List, [], codes, map, Bool, true, false, ℤ, pos, negsuc, refl}
use Rattle.rule_defs.specs.Rules.{Match, BeginEnd, BeginWhile, Never, Rule, Injection, no_rule}
use Rattle.injection_defs.specs.Injections.{Listed, rules_of, injections_of}

pub a_rule_that_is_not_there_has_no_patterns : (no_rule.start ≡ Never) × (no_rule.finish ≡ Never)
a_rule_that_is_not_there_has_no_patterns = (refl, refl)

abbrev listed : ℤ → List ℕ → ℕ → Listed
listed priority selector rule = record { priority = priority; selector = selector; entry = 0; rule = rule }

-- rule 0 is a group of the rules 1 to 3: a match rule, a begin/end rule and a begin/while rule, each with a list
abbrev rules : List Rule
rules =
    record no_rule { active = 1 ∷ 2 ∷ 3 ∷ [] }
    ∷ record no_rule { kind = Match; active = 2 ∷ [] }
    ∷ record no_rule { kind = BeginEnd; active = 1 ∷ [] }
    ∷ record no_rule { kind = BeginWhile; active = 1 ∷ 2 ∷ [] } ∷ []

pub a_rule_that_begins_stands_for_itself : map (λ n. rules_of rules (listed (pos 0) (codes "a") n)) (2 ∷ 3 ∷ [])
    ≡ (2 ∷ []) ∷ (3 ∷ []) ∷ []
a_rule_that_begins_stands_for_itself = refl

-- whether an injection goes first, its rules, and whether it holds of `a` and of `b`
abbrev shown : Injection → Bool × (List ℕ × (Bool × Bool))
shown i = (i.goes_first, (i.rules, (i.holds (codes "a" ∷ []), i.holds (codes "b" ∷ []))))

pub what_injections_are_searched_by :
    map shown
    (injections_of rules (listed (negsuc 0) (codes "L:a") 0 ∷ listed (pos 0) (codes "b") 2 ∷ listed (pos 1) (codes "R:a") 1 ∷ []))
    ≡ (true, (1 ∷ 2 ∷ 3 ∷ [], (true, false))) ∷ (false, (2 ∷ [], (false, true))) ∷ (false, (1 ∷ [], (true, false))) ∷ []
what_injections_are_searched_by = refl
