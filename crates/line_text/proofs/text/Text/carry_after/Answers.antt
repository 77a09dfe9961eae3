use Rattle.std.proofs.Common.{◌≡◌, ◌+◌, ◌-◌, ◌≤◌, ◌++◌, ap, ◌∙◌, arith, refl}
use Rattle.std.proofs.lemmas.List.{drop_all}
use Rattle.text_defs.specs.Text.{norm, line_count}
use Rattle.text_defs.specs.Batch.{edited}
use Rattle.text_defs.specs.declared.limits.TheConstants.{MOST_LINES}
use Rattle.line_text.specs.Sizes.{IsSizeOf}
use Rattle.line_text.specs.Runs.{run_between}
use Rattle.line_text.proofs.CarriedRuns.{gaps-carried, IsAtGap-origin, GapStep, gap_step, listed_step}
use Rattle.line_text.proofs.text.Text.carry_after.Goals as goal
use Rattle.line_text.proofs.text.Text.carry_after.Goals.{After-size_of-added}

pub loop-edit-init : goal.loop-edit-init
loop-edit-init c = record {
  gap = IsAtGap-origin c.args.self.now c.args.edits.now c.requires.valid;
  listed = rw c.new-carry.ensures refl;
}

here : (c : After-size_of-added) → GapStep c.args.self.now (line_count (edited c.args.self.now c.args.edits.now))
    c.args.edits.now c.loop-edit.edit-index c.span-span.result c.edit-item.result.text c.loop-edit.old c.loop-edit.new
here c =
    gap_step c.args.self.now (line_count (edited c.args.self.now c.args.edits.now)) c.args.edits.now
    c.loop-edit.edit-index c.edit-item.result c.span-span.result c.loop-edit.old c.loop-edit.new
    c.loop-edit.invariant.gap c.loop-edit-test.true c.edit-item.is c.span-span.ensures

-- the text's lines are few enough to be counted whole
lines_are : (c : After-size_of-added) → (c.size_of-added.result.lines ≡ line_count (norm c.edit-item.result.text))
    × (c.loop-edit.new + c.span-span.result.from.line - c.loop-edit.old + c.size_of-added.result.lines ≤ MOST_LINES)
lines_are c =
    let counts : IsSizeOf (norm c.edit-item.result.text) c.size_of-added.result =
    rw c.text.ensures at c.size_of-added.ensures in
    let step = here c in
    let e : c.size_of-added.result.lines ≡ line_count (norm c.edit-item.result.text) =
    omega (arith, counts.lines, step.later_few, step.kept, c.requires.few) in
    (e, omega (arith, e, step.later_few, c.requires.few))

pub overflow_cast-added : goal.overflow_cast-added
overflow_cast-added c =
    let l = lines_are ((goal.at.overflow_cast-added c).After-size_of-added) in
    omega (arith, l.1)

pub overflow_add-new : goal.overflow_add-new
overflow_add-new c =
    let step = here ((goal.at.overflow_add-new c).After-size_of-added) in
    omega (arith, step.from, step.few, c.requires.few, c.lines-lines.ensures.few, c.lines-lines.ensures.count)

pub overflow_add-new-in-loop-edit : goal.overflow_add-new-in-loop-edit
overflow_add-new-in-loop-edit c =
    let l = lines_are ((goal.at.overflow_add-new-in-loop-edit c).After-size_of-added) in
    omega (arith, l.1)

pub loop-edit-preserved : goal.loop-edit-preserved
loop-edit-preserved c =
    let start = (goal.at.loop-edit-preserved c).After-size_of-added in
    let step = here start in
    let count = line_count c.args.self.now in
    let l = lines_are start in
    rw (l.0) record {
      gap = step.next;
      listed = listed_step c.loop-edit.carry c.add.new.self
          (run_between c.loop-edit.old c.span-span.result.from.line c.loop-edit.new) _ _ _ c.in_ok-add.ensures
          step.listed c.loop-edit.invariant.listed;
    }

pub returns : goal.returns
returns c =
    let none = drop_all c.loop-edit.edit-index c.args.edits.now c.loop-edit-test.false in
    let count = line_count c.args.self.now in
    c.in_ok-add-2.ensures ∙ ap (λ m. c.loop-edit.carry ++ run_between c.loop-edit.old m c.loop-edit.new)
    c.lines-lines.ensures.count
    ∙ (rw none at c.loop-edit.invariant.listed) ∙ gaps-carried c.args.self.now c.args.edits.now c.requires.valid
