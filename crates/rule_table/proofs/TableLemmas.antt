-- A rule of a list whose rules fit fits.
use Rattle.std.proofs.Common.{◌≡◌, ℕ, zero, suc, ◌<◌, List, [], ◌∷◌, length, map, refl, subst}
use Rattle.std.specs.List.{slice_index_or}
use Rattle.rule_table.specs.declared.rule.Rule.{Rule}
use Rattle.rule_table.specs.Views.{rule_of}
use Rattle.rule_table.specs.Fits.{IsRule, AreRules}

at_map : (rules : List Rule) (k : ℕ) (d : Rule) → slice_index_or (map rule_of rules) k (rule_of d)
    ≡ rule_of (slice_index_or rules k d)
at_map [] k d = refl
at_map (r ∷ rules) zero d = refl
at_map (r ∷ rules) (suc k) d = at_map rules k d

pub fits_at : (count groups : ℕ) (rules : List Rule) (k : ℕ) (d : Rule) → k < length (map rule_of rules)
    → AreRules count groups (map rule_of rules) → IsRule count groups (rule_of (slice_index_or rules k d))
fits_at count groups rules k d h fit = subst (IsRule count groups) (at_map rules k d) (fit k (rule_of d) h)
