use Rattle.std.proofs.Common.{sym, ap, ◌∙◌, subst}
use Rattle.scope_defs.specs.Frames.{bare}
use Rattle.line_runs.specs.Runs.{Fits, first_line}
use Rattle.line_runs_tests.proofs.first.first_line.Goals as goal

pub tokenise-requires-clause-fits : goal.tokenise-requires-clause-fits
tokenise-requires-clause-fits g c =
    subst (λ start. Fits (g.R.LineRuns.told c.args.runs.now) (bare start))
    (sym (c.in_ok-start.ensures ∙ c.start.ensures.start)) first_line
