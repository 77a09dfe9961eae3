use Rattle.std.proofs.Common.{◌≡◌, ◌≤◌, ◌<◌, ◌+◌, ◌/◌, slice_index, ap, sym, subst, ◌∙◌, refl, ℕ, Bool}
use Rattle.ucd_table.specs.Steps.{run_value}
use Rattle.ucd_table.proofs.RunsLemmas.{IsAt, IsAt-below, IsAt-next}
use Rattle.char_sets.specs.Ranges.{rises, closed, IsSetOf}
use Rattle.char_sets.specs.Named.{has_number}
use Rattle.char_sets.proofs.Joined.{Joined, Joined-start, Joined-closed, Joined-more, Joined-gap, Joined-done}
use Rattle.char_sets.proofs.Runs.{run-stretch, run-within, run-end}
use Rattle.char_sets.proofs.Sets.{IfOk-same}
use Rattle.char_sets.proofs.named.of_runs.Goals.{then-not-has+in_ok-close, else-not-has}
use Rattle.char_sets.proofs.named.of_runs.Goals as goal

pub loop-run-init : goal.loop-run-init
loop-run-init c =
    let p : ℕ → Bool = λ d. has_number c.args.numbers (run_value c.args.runs.now d) in
    record {
      place = record { rising = c.requires; values = λ _ _. refl };
      so_far = subst (λ rs. Joined rs 0 0 p) (sym c.new-ranges.ensures.items) (Joined-start p);
    }

pub of_ranges-requires : goal.of_ranges-requires
of_ranges-requires c =
    let p : ℕ → Bool = λ d. has_number c.args.numbers (run_value c.args.runs.now d) in
    ap (rises 0) c.in_ok-close-2.ensures ∙ (Joined-closed c.loop-run.ranges.items c.loop-run.start c.loop-run.at p
    c.loop-run.invariant.so_far).rising

pub returns : goal.returns
returns c =
    let p : ℕ → Bool = λ d. has_number c.args.numbers (run_value c.args.runs.now d) in
    let inv = c.loop-run.invariant in
    let ranges = closed c.loop-run.ranges.items c.loop-run.start c.loop-run.at in
    IfOk-same c.of_ranges.result c.close-2.new.ranges.items p c.of_ranges.ensures
    (subst (λ rs. IsSetOf rs p) (sym c.in_ok-close-2.ensures)
    (Joined-done ranges c.loop-run.at p (Joined-closed c.loop-run.ranges.items c.loop-run.start c.loop-run.at p
    inv.so_far)
    (run-end c.args.runs.now c.loop-run.run-index c.loop-run.at inv.place c.loop-run-test.false)))

pub loop-run-preserved : goal.loop-run-preserved
loop-run-preserved c =
    let runs = c.args.runs.now in
    let i = c.loop-run.run-index in
    let ranges = c.loop-run.ranges.items in
    let start = c.loop-run.start in
    let at = c.loop-run.at in
    let end = slice_index runs i / 2048 in
    let p : ℕ → Bool = λ d. has_number c.args.numbers (run_value runs d) in
    let inv = c.loop-run.invariant in
    let further = IsAt-below runs i at inv.place c.loop-run-test.true in
    let next = IsAt-next runs i at inv.place c.loop-run-test.true in
    let within = run-within runs (i + 1) end next in
    let member : (d : ℕ) → at ≤ d → d < end → p d ≡ c.has.result = λ d from to.
    ap (has_number c.args.numbers) (run-stretch runs i at d inv.place c.loop-run-test.true from to)
    ∙ sym c.has.ensures in
    elim c.if-not-has.branch [
      | then-not-has+in_ok-close w ↦
          let gap = Joined-gap (closed ranges start at) at end p (Joined-closed ranges start at p inv.so_far) further
          within
          (λ d from to. member d from to ∙ w.if-not-has.true) in
          let written = subst (λ rs. Joined rs end end p)
          (sym (ap (λ v. v.items) w.ranges-is ∙ w.in_ok-close.ensures)) gap in
          let started = subst (λ n. Joined c.if-not-has.ranges.items n end p) (sym w.start-is) written in
          record {
            place = subst (IsAt runs (i + 1)) (sym w.at-is) next;
            so_far = subst (λ n. Joined c.if-not-has.ranges.items c.if-not-has.start n p) (sym w.at-is) started;
          }
      | else-not-has w ↦
          let more = Joined-more ranges start at end p inv.so_far further within
          (λ d from to. member d from to ∙ w.if-not-has.false) in
          let written = subst (λ rs. Joined rs start end p) (sym (ap (λ v. v.items) w.ranges-is)) more in
          let started = subst (λ n. Joined c.if-not-has.ranges.items n end p) (sym w.start-is) written in
          record {
            place = subst (IsAt runs (i + 1)) (sym w.at-is) next;
            so_far = subst (λ n. Joined c.if-not-has.ranges.items c.if-not-has.start n p) (sym w.at-is) started;
          }
    ]
