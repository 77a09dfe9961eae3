use Rattle.std.proofs.Common.{◌≡◌, subst}
use Rattle.std.specs.Prelude.{Err}
use Rattle.pairing_defs.specs.BracketTexts.{brackets_of, too_long}
use Rattle.bracket_marks.specs.PairViews.{GivesBrackets}
use Rattle.bracket_marks.proofs.UsualTexts.{usual_brackets, usual_fit}
use Rattle.bracket_marks.proofs.brackets.Brackets.usual.Goals as goal

pub returns-in-Ok : goal.returns-in-Ok
returns-in-Ok c = usual_brackets c.in_ok-pairs.pairs c.in-Ok.brackets c.in_ok-pairs.ensures c.in-Ok.ensures

pub unreachable-requires-in-Err-TextLength : goal.unreachable-requires-in-Err-TextLength
unreachable-requires-in-Err-TextLength c =
    let pairs = c.in_ok-pairs.pairs in
    let long : brackets_of pairs
    ≡ too_long (record { index = c.in-Err-TextLength.field-0-0; count = c.in-Err-TextLength.field-0-1 }) =
    subst (λ e. GivesBrackets (Err e) (brackets_of pairs)) c.in-Err-TextLength.field-0-is c.in-Err-TextLength.ensures in
    usual_fit pairs (too_long (record { index = c.in-Err-TextLength.field-0-0; count = c.in-Err-TextLength.field-0-1 }))
    c.in_ok-pairs.ensures long (λ same. cc)
