use Rattle.std.proofs.Common.{◌≡◌, ◌+◌, ◌-◌, ◌<◌, ◌≤◌, length, ℕ}
use Rattle.std.specs.Prelude.{true, false, slice_get}
use Rattle.char_sets.specs.Ranges.{in_set}
use Rattle.pattern_defs.specs.Attempt.{is_char, is_greatest}
use Rattle.onig_match.proofs.runs.run_length.Given as goal

abbrev pub invariant-loop-most : goal.invariant-loop-most
invariant-loop-most l = record {
  all : (k : ℕ) → k < l.taken → is_char (in_set l.set) (slice_get l.text (l.at + k)) ≡ true;
  may : (k : ℕ) → k < l.taken → is_greatest l.most k ≡ false;
  within : l.at + l.taken ≤ length l.text;
}

abbrev pub decreases-loop-most : goal.decreases-loop-most
decreases-loop-most l = length l.text - l.taken
