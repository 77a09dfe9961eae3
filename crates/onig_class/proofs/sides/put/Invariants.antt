use Rattle.std.proofs.Common.{◌≡◌, ℕ, ◌<◌, ◌||◌, vec_len}
use Rattle.char_sets.specs.Ranges.{in_set}
use Rattle.onig_class.specs.SidesFit.{in_some}
use Rattle.onig_class.proofs.sides.put.Given as goal

abbrev pub invariant-joining : goal.invariant-joining
invariant-joining l =
    (c : ℕ) → c < 1_114_112 → (in_some l.sets.items c || in_set l.set c)
    ≡ (in_some l.initial.sets.items c || in_set l.fn.set c)

abbrev pub decreases-joining : goal.decreases-joining
decreases-joining l = vec_len l.sets
