use Rattle.std.proofs.Common.{◌≡◌, ◌+◌, ◌-◌, ◌<◌, length, ◌∙◌, sym, arith}
use Rattle.bracket_lex.proofs.RowSteps.{row_step, closers_step}
use Rattle.bracket_lex.proofs.partners.finish.Goals as goal

pub loop-n-preserved : goal.loop-n-preserved
loop-n-preserved c =
    let next : c.loop-n.n ≡ c.loop-n.n - 1 + 1 = omega arith in
    let below : c.loop-n.n - 1 < length c.args.rows.now = omega arith in
    let found = c.closer_for-removal.ensures.found ∙ sym (c.loop-n.invariant.closers (c.loop-n.n - 1) (omega arith)) in
    record {
      rows = row_step c.args.end c.loop-n.n (c.loop-n.n - 1) c.args.rows.now c.loop-n.rows c.finished.result _ _ next
          below
          c.loop-n.invariant.rows found c.finished.ensures;
      closers = λ m h. closers_step c.args.end c.loop-n.n (c.loop-n.n - 1) m c.args.rows.now c.loop-n.rows _ _ _ next
          below
          c.loop-n.invariant.rows (c.loop-n.invariant.closers m (omega arith)
          ∙ sym (c.closer_for-removal.ensures.others m (omega arith))) (c.in_ok-add_closer.ensures m);
    }
