use Rattle.std.proofs.Common.{◌≡◌, ℕ, map, take}
use Rattle.text_pos.specs.KindSet.{has_kind}
use Rattle.pairing_defs.specs.BracketTexts.{are_paired}
use Rattle.bracket_marks.proofs.KindBits.{is_at}
use Rattle.bracket_marks.proofs.closed_kinds.closed_by.Given as goal

-- the kinds so far that the text closes
abbrev pub invariant-loop-n : goal.invariant-loop-n
invariant-loop-n l = (j : ℕ) → has_kind l.kinds j
    ≡ is_at (map (λ opener. are_paired l.kept opener l.closer) (take l.n l.openers)) j
