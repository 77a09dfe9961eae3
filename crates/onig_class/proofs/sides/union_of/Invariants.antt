use Rattle.std.proofs.Common.{◌≡◌, ℕ, ◌<◌, ◌||◌, vec_len}
use Rattle.char_sets.specs.Ranges.{in_set}
use Rattle.onig_class.specs.SidesFit.{in_some}
use Rattle.onig_class.proofs.sides.union_of.Given as goal

abbrev pub invariant-joining : goal.invariant-joining
invariant-joining l =
    (c : ℕ) → c < 1_114_112 → (in_some l.sets.items c || in_set l.whole c) ≡ in_some l.fn.sets.items c

abbrev pub decreases-joining : goal.decreases-joining
decreases-joining l = vec_len l.sets
