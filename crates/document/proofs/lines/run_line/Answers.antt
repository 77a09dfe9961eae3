use Rattle.std.proofs.Common.{◌≡◌, ◌<◌, List, ℕ, refl, ap, ◌∙◌, length, arith}
use Rattle.text_defs.specs.Text.{lines_of, line_in}
use Rattle.scope_defs.specs.Frames.{Start, bare}
use Rattle.line_defs.specs.Line.{LineResult}
use Rattle.line_runs.specs.Runs.{Runs, bare_result}
use Rattle.document_defs.specs.TextRows.{Settings, results_from}
use Rattle.document.specs.Settings.{settings_by}
use Rattle.document.proofs.LineRuns.{first_fits, next_start, next_fits, results_behind, tokens_here}
use Rattle.document.proofs.lines.run_line.Goals as goal

pub loop-m-init : goal.loop-m-init
loop-m-init g c =
    let told : Runs = g.R.LineRuns.told c.args.machine.now in
    let settings : Settings = settings_by told c.args.over.now.brackets.now c.args.over.now.limits in
    let is : c.in_ok-start.start ≡ told.start = c.in_ok-start.ensures ∙ c.start.ensures.start in
    record {
      same = refl;
      budget = c.requires.budget;
      room = c.requires.room;
      fits = first_fits told c.in_ok-start.start is;
      left = ap (λ (start : Start). results_from settings (bare start) (lines_of c.args.over.now.text.now)) is;
    }

pub loop-m-preserved : goal.loop-m-preserved
loop-m-preserved g c =
    let told : Runs = g.R.LineRuns.told c.args.machine.now in
    let settings : Settings = settings_by told c.args.over.now.brackets.now c.args.over.now.limits in
    let lines : List (List ℕ) = lines_of c.args.over.now.text.now in
    let m : ℕ = c.loop-m.m in
    let below : m < length lines = omega (arith, c.loop-m-test.true, c.requires.there) in
    let here : g.R.LineRuns.told c.loop-m.machine ≡ told = c.loop-m.invariant.same in
    let gives : bare_result c.in_ok-earlier.earlier ≡ told.line (bare c.loop-m.start) (line_in lines m) =
    c.in_ok-earlier.ensures.gives ∙ ap (λ (runs : Runs). runs.line (bare c.loop-m.start) c.line.result.now) here
    ∙ ap (told.line (bare c.loop-m.start)) c.line.ensures.line in
    let end : bare c.in_ok-start-2.start ≡ (told.line (bare c.loop-m.start) (line_in lines m)).end =
    next_start told c.loop-m.start c.in_ok-start-2.start (line_in lines m) c.in_ok-earlier.earlier gives
    (c.in_ok-start-2.ensures ∙ c.end.ensures) in
    record {
      same = c.in_ok-earlier.ensures.same ∙ here;
      budget = c.in_ok-earlier.ensures.budget ∙ c.loop-m.invariant.budget;
      room = c.in_ok-earlier.ensures.room ∙ c.loop-m.invariant.room;
      fits = next_fits told c.loop-m.start c.in_ok-start-2.start (line_in lines m) c.loop-m.invariant.fits end;
      left = results_behind settings (bare c.loop-m.start) (bare c.in_ok-start-2.start) lines
          (results_from settings settings.start lines) m below end c.loop-m.invariant.left;
    }

pub returns-clause-tokens : goal.returns-clause-tokens
returns-clause-tokens g c =
    let told : Runs = g.R.LineRuns.told c.args.machine.now in
    let settings : Settings = settings_by told c.args.over.now.brackets.now c.args.over.now.limits in
    let lines : List (List ℕ) = lines_of c.args.over.now.text.now in
    let results : List LineResult = results_from settings settings.start lines in
    let n : ℕ = c.args.n in
    let at : c.loop-m.m ≡ n = omega (arith, c.loop-m-test.false, c.loop-m.auto.m-end) in
    let gives : bare_result c.in_ok-run.run' ≡ told.line (bare c.loop-m.start) (line_in lines n) =
    c.in_ok-run.ensures.gives
    ∙ ap (λ (runs : Runs). runs.line (bare c.loop-m.start) c.line-2.result.now) c.loop-m.invariant.same
    ∙ ap (told.line (bare c.loop-m.start)) c.line-2.ensures.line in
    tokens_here settings (bare c.loop-m.start) lines results n c.in_ok-run.run'.tokens c.requires.there
    (ap (λ (run : LineResult). run.tokens) gives) (rw (at) at c.loop-m.invariant.left)
