use Rattle.std.proofs.Common.{◌≡◌, ℕ, ◌≤◌, ◌++◌, ◌-◌, ◌∙◌, ap, sym, arith, length}
use Rattle.pairing_defs.specs.Marks.{counts_by}
use Rattle.bracket_marks.proofs.RunColumns.{marks_from-same}
use Rattle.bracket_marks.proofs.brackets.Brackets.marks_in.Goals as goal

pub loop-column-preserved : goal.loop-column-preserved
loop-column-preserved c =
    let line = c.args.line.now in
    let column = c.loop-column.column in
    let next = c.in_ok-column.column in
    let found = counts_by c.runs_behind-rest.result.now in
    let all = counts_by c.args.types.now in
    let bound = c.in_ok-column.ensures.bound in
    let same : (k : ℕ) → column ≤ k → found k ≡ all k =
    λ k h. c.runs_behind-rest.ensures k h ∙ c.loop-column.invariant.same k h in
    record {
      marks = ap (λ ms. c.take_column.new.marks.items ++ ms)
          (sym (marks_from-same found all c.args.self.now line next (length line - next)
          (λ k h. same k (omega (arith, bound.0)))))
          ∙ c.in_ok-column.ensures.marks
          ∙ ap (λ ms. c.loop-column.marks.items ++ ms)
          (marks_from-same found all c.args.self.now line column (length line - column) same)
          ∙ c.loop-column.invariant.marks;
      within = bound.1;
      same = λ k h. same k (omega (arith, bound.0));
    }
