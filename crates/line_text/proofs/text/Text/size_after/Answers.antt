use Rattle.std.proofs.Common.{arith}
use Rattle.std.proofs.lemmas.List.{take_all}
use Rattle.text_defs.specs.Text.{norm}
use Rattle.line_text.specs.Sizes.{IsSizeOf}
use Rattle.line_text.proofs.CountedSizes.{line_count-pos}
use Rattle.line_text.proofs.FileTexts.{line_count-norm}
use Rattle.line_text.proofs.ValidBatches.{AtEdit, at_edit, IsSizeOf-edited}
use Rattle.line_text.proofs.text.Text.size_after.Goals as goal
use Rattle.line_text.proofs.text.Text.size_after.Goals.{After-span-span, After-size_of-added}

here : (c : After-span-span) → AtEdit c.args.self.now c.args.edits.now c.loop-edit.edit-index c.span-span.result
    c.edit-item.result.text
here c = at_edit c.args.self.now c.args.edits.now c.loop-edit.edit-index c.edit-item.result c.span-span.result
    c.requires c.loop-edit-test.true c.edit-item.is c.span-span.ensures

pub chars_between-kept_chars-requires-clause-from : goal.chars_between-kept_chars-requires-clause-from
chars_between-kept_chars-requires-clause-from c =
    (here ((goal.at.chars_between-kept_chars-requires-clause-from c).After-span-span)).from

pub chars_between-kept_chars-requires-clause-to : goal.chars_between-kept_chars-requires-clause-to
chars_between-kept_chars-requires-clause-to c =
    (here ((goal.at.chars_between-kept_chars-requires-clause-to c).After-span-span)).to

pub chars_between-kept_chars-requires-clause-forward : goal.chars_between-kept_chars-requires-clause-forward
chars_between-kept_chars-requires-clause-forward c =
    (here ((goal.at.chars_between-kept_chars-requires-clause-forward c).After-span-span)).forward

pub overflow_sub-kept_chars : goal.overflow_sub-kept_chars
overflow_sub-kept_chars c =
    let e = here ((goal.at.overflow_sub-kept_chars c).After-span-span) in
    omega (arith, e.chars_removed, e.chars_left, c.loop-edit.invariant.chars_kept, c.chars_between-kept_chars.ensures)

pub overflow_sub-span : goal.overflow_sub-span
overflow_sub-span c = (here ((goal.at.overflow_sub-span c).After-span-span)).lines_rise

pub overflow_sub-kept_lines : goal.overflow_sub-kept_lines
overflow_sub-kept_lines c =
    let e = here ((goal.at.overflow_sub-kept_lines c).After-span-span) in
    omega (
      arith,
      e.lines_removed,
      e.lines_left,
      c.loop-edit.invariant.lines_kept,
      c.from-kept_lines-in-loop-edit.ensures,
    )

size_is : (c : After-size_of-added) → IsSizeOf (norm c.edit-item.result.text) c.size_of-added.result
size_is c = rw c.text.ensures at c.size_of-added.ensures

pub overflow_sub-added : goal.overflow_sub-added
overflow_sub-added c =
    let added = size_is ((goal.at.overflow_sub-added c).After-size_of-added) in
    omega (arith, added.lines, line_count-pos (norm c.edit-item.result.text))

pub loop-edit-preserved : goal.loop-edit-preserved
loop-edit-preserved c =
    let e = here ((goal.at.loop-edit-preserved c).After-span-span) in
    let added = size_is ((goal.at.loop-edit-preserved c).After-size_of-added) in
    record {
      chars_kept = omega (
        arith,
        e.chars_removed,
        e.chars_left,
        c.loop-edit.invariant.chars_kept,
        c.chars_between-kept_chars.ensures,
      );
      lines_kept = omega (
        arith,
        e.lines_removed,
        e.lines_left,
        c.loop-edit.invariant.lines_kept,
        c.from-kept_lines-in-loop-edit.ensures,
      );
      chars_added = omega (
        arith,
        e.chars_added,
        added.chars,
        c.loop-edit.invariant.chars_added,
        c.saturating_add-added_chars.ensures,
      );
      lines_added = omega (
        arith,
        e.lines_added,
        added.lines,
        line_count-pos (norm c.edit-item.result.text),
        line_count-norm c.text.result.now c.edit-item.result.text c.text.utf8 c.text.ensures,
        c.text.type_inv,
        c.loop-edit.invariant.lines_added,
        c.saturating_add-added_lines.ensures,
      );
    }

pub returns : goal.returns
returns c =
    let i = c.loop-edit.invariant in
    let all = take_all c.loop-edit.edit-index c.args.edits.now c.loop-edit-test.false in
    IsSizeOf-edited c.args.self.now c.args.edits.now _ c.loop-edit.kept_chars c.loop-edit.kept_lines
    c.loop-edit.added_chars c.loop-edit.added_lines c.requires
    (rw all at i.chars_kept) (rw all at i.lines_kept) (rw all at i.chars_added) (rw all at i.lines_added)
    c.saturating_add.ensures c.saturating_add-2.ensures
