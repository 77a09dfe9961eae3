use Rattle.std.proofs.Common.{◌≡◌, ℕ, ◌≤◌, reverse, vec_len}
use Rattle.bracket_lex.specs.Pairing.{first_for}
use Rattle.bracket_lex.proofs.partners.closer_for.Given as goal

abbrev pub invariant-loop-closer : goal.invariant-loop-closer
invariant-loop-closer l = (m : ℕ) → m ≤ l.n → first_for m (reverse l.closers.items)
    ≡ first_for m (reverse l.initial.closers.items)

abbrev pub decreases-loop-closer : goal.decreases-loop-closer
decreases-loop-closer l = vec_len l.closers
