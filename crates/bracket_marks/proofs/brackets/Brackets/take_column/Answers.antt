use Rattle.std.proofs.Common.{◌++◌, length, sym, ap, arith, length-drop}
use Rattle.pairing_defs.specs.Marks.{counts_by, bracket_at}
use Rattle.bracket_marks.proofs.LongestText.{bracket_fits}
use Rattle.bracket_marks.proofs.LineWalk.{no_mark, one_mark}
use Rattle.bracket_marks.proofs.brackets.Brackets.take_column.Goals as goal

pub overflow_cast-end : goal.overflow_cast-end
overflow_cast-end c =
    let fits = bracket_fits c.args.self.now (counts_by c.args.types.now) c.args.line.now c.args.column c.in-Some.b.now
    (sym c.in-Some.ensures) in
    let text = ap length c.as_slice.ensures in
    omega (arith, fits.0, fits.1, text, length-drop c.args.column c.args.line.now)

pub returns-in-None-clause-marks : goal.returns-in-None-clause-marks
returns-in-None-clause-marks c =
    let found = bracket_at c.args.self.now (counts_by c.args.types.now) c.args.line.now in
    ap (λ ms. c.args.marks.now.items ++ ms)
    (no_mark found c.args.column (length c.args.line.now) c.requires.inside (sym c.in-None.ensures))

pub returns-in_ok-push-in-Some-clause-bound : goal.returns-in_ok-push-in-Some-clause-bound
returns-in_ok-push-in-Some-clause-bound c =
    let fits = bracket_fits c.args.self.now (counts_by c.args.types.now) c.args.line.now c.args.column c.in-Some.b.now
    (sym c.in-Some.ensures) in
    let text = ap length c.as_slice.ensures in
    (omega (arith, fits.0, text), omega (arith, fits.1, text, length-drop c.args.column c.args.line.now))

pub returns-in_ok-push-in-Some-clause-marks : goal.returns-in_ok-push-in-Some-clause-marks
returns-in_ok-push-in-Some-clause-marks c =
    let found = bracket_at c.args.self.now (counts_by c.args.types.now) c.args.line.now in
    let b = c.in-Some.b.now in
    let fits = bracket_fits c.args.self.now (counts_by c.args.types.now) c.args.line.now c.args.column b
    (sym c.in-Some.ensures) in
    let text = ap length c.as_slice.ensures in
    one_mark found c.args.column (length c.as_slice.result.now) (length c.args.line.now) b c.args.marks.now.items
    c.push.new.self.items c.requires.inside (sym c.in-Some.ensures) (sym text) (omega (arith, fits.0, text))
    c.in_ok-push-in-Some.ensures.items
