use Rattle.std.proofs.Common.{refl, ap, ◌∙◌}
use Rattle.scope_defs.specs.Frames.{bare}
use Rattle.line_runs.specs.Runs.{Runs}
use Rattle.line_machine_tests.proofs.Starts.{first-at, next-at}
use Rattle.line_machine_tests.proofs.lines.all_lines.Goals as goal

pub loop-n-init : goal.loop-n-init
loop-n-init g c = record {
  same = refl;
  fits = first-at (g.R.LineRuns.told c.args.runs.now) c.in_ok-start.start (c.in_ok-start.ensures ∙ c.start.ensures.start);
  budget = c.requires.budget;
  room = c.requires.room;
}

pub loop-n-preserved : goal.loop-n-preserved
loop-n-preserved g c = record {
  same = c.in_ok-tokens.ensures.same ∙ c.loop-n.invariant.same;
  fits = next-at (g.R.LineRuns.told c.args.runs.now) (bare c.loop-n.start) c.line-line.result.now c.in_ok-tokens.tokens
      c.in_ok-start-2.start c.loop-n.invariant.fits
      (c.in_ok-tokens.ensures.gives
      ∙ ap (λ r. let runs : Runs = r in runs.line (bare c.loop-n.start) c.line-line.result.now) c.loop-n.invariant.same)
      (c.in_ok-start-2.ensures ∙ c.end.ensures);
  budget = c.in_ok-tokens.ensures.budget ∙ c.loop-n.invariant.budget;
  room = c.in_ok-tokens.ensures.room ∙ c.loop-n.invariant.room;
}
