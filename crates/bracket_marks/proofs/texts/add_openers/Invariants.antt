use Rattle.std.proofs.Common.{◌≡◌, ◌++◌, drop}
use Rattle.pairing_defs.specs.BracketTexts.{openers_from}
use Rattle.bracket_marks.proofs.texts.add_openers.Given as goal

-- those so far, and those that are left
abbrev pub invariant-loop-n : goal.invariant-loop-n
invariant-loop-n l = l.texts.items ++ openers_from l.n (drop l.n l.openers)
    ≡ l.initial.texts.items ++ openers_from 0 l.openers
