use Rattle.std.proofs.Common.{◌<◌, ◌+◌, [], ◌∷◌, length-append, length, ◌∙◌, ap, arith}
use Rattle.text_defs.specs.Text.{lines_of, line_count}
use Rattle.bracket_marks.specs.MarkedLine.{marks_in, text_end}
use Rattle.bracket_lex.proofs.MarkedTexts.{lines_more, lines_all, marks_in-marked, text_end-marked, text_few}
use Rattle.bracket_lex.proofs.mark_lines.MarkLines.of_text.Goals as goal

pub loop-n-preserved : goal.loop-n-preserved
loop-n-preserved c =
    let below : c.loop-n.n < line_count c.args.text.now = omega arith in
    let marks = rw (c.line.ensures.line) at c.in_ok-marks_of_other.ensures.marks in
    let len = rw (c.line.ensures.line) at c.in_ok-marks_of_other.ensures.length in
    record {
      lines = lines_more c.args.brackets.now c.args.long c.loop-n.n (lines_of c.args.text.now) c.loop-n.lines
          c.push.new.self c.in_ok-marks_of_other.field-0
          below c.loop-n.invariant.lines marks len c.in_ok-push.ensures.ok;
      count = ap length c.in_ok-push.ensures.ok ∙ length-append c.loop-n.lines (c.in_ok-marks_of_other.field-0 ∷ [])
          ∙ ap (λ n. n + 1) c.loop-n.invariant.count;
    }

pub returns-clause-lines : goal.returns-clause-lines
returns-clause-lines c =
    lines_all c.args.brackets.now c.args.long c.loop-n.n (lines_of c.args.text.now) c.loop-n.lines (omega arith)
    c.loop-n.invariant.lines

pub returns-clause-marks : goal.returns-clause-marks
returns-clause-marks c =
    let whole = lines_all c.args.brackets.now c.args.long c.loop-n.n (lines_of c.args.text.now) c.loop-n.lines
    (omega arith) c.loop-n.invariant.lines in
    ap marks_in whole ∙ marks_in-marked c.args.brackets.now c.args.long (lines_of c.args.text.now)

pub returns-clause-few : goal.returns-clause-few
returns-clause-few c =
    let whole = lines_all c.args.brackets.now c.args.long c.loop-n.n (lines_of c.args.text.now) c.loop-n.lines
    (omega arith) c.loop-n.invariant.lines in
    let marks = ap marks_in whole ∙ marks_in-marked c.args.brackets.now c.args.long (lines_of c.args.text.now) in
    let few = text_few c.args.brackets.now c.args.long c.args.text.now in
    omega (arith, ap length marks, few)

pub returns-clause-end : goal.returns-clause-end
returns-clause-end c =
    let whole = lines_all c.args.brackets.now c.args.long c.loop-n.n (lines_of c.args.text.now) c.loop-n.lines
    (omega arith) c.loop-n.invariant.lines in
    ap text_end whole ∙ text_end-marked c.args.brackets.now c.args.long c.args.text.now
