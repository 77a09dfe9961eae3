use Rattle.std.proofs.Common.{◌≡◌, ◌++◌, map, take}
use Rattle.pairing_defs.specs.BracketTexts.{closer_text}
use Rattle.bracket_marks.proofs.texts.add_closers.Given as goal

-- those so far are added
abbrev pub invariant-loop-closer : goal.invariant-loop-closer
invariant-loop-closer l = l.texts.items
    ≡ l.initial.texts.items ++ map (closer_text l.kept) (take l.closer-index l.closers)
