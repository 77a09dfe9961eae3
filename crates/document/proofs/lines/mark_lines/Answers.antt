use Rattle.std.proofs.Common.{◌≡◌, ◌<◌, ◌≤◌, ℕ, ◌+◌, List, [], ◌∷◌, ◌++◌, refl, ap, sym, ◌∙◌, length, map, drop, length-append, append-nil, arith}
use Rattle.std.proofs.lemmas.List.{map-append, take_all, drop_all}
use Rattle.text_defs.specs.Text.{lines_of, line_in}
use Rattle.scope_defs.specs.Frames.{Start, bare}
use Rattle.line_defs.specs.Line.{LineResult}
use Rattle.line_runs.specs.Runs.{Runs, bare_result}
use Rattle.pairing_defs.specs.declared.LineMark.{LineMark}
use Rattle.pairing_defs.specs.Marks.{marks_of_lines}
use Rattle.bracket_marks.specs.MarkedLine.{MarkedLine}
use Rattle.bracket_lex.proofs.MarkedTexts.{text_end_is}
use Rattle.document_defs.specs.TextRows.{Settings, marks_from, line_marks, types_of}
use Rattle.document.specs.Settings.{settings_by}
use Rattle.document.proofs.LineRuns.{first_fits, next_start, next_fits}
use Rattle.document.proofs.TextMarks.{marks_behind, lengths_more, text_few}
use Rattle.document.proofs.lines.mark_lines.Goals as goal

pub loop-n-init : goal.loop-n-init
loop-n-init g c =
    let told : Runs = g.R.LineRuns.told c.args.machine.now in
    let settings : Settings = settings_by told c.args.over.now.brackets.now c.args.over.now.limits in
    let is : c.in_ok-start.start ≡ told.start = c.in_ok-start.ensures ∙ c.start.ensures.start in
    record {
      same = refl;
      budget = c.requires.budget;
      room = c.requires.room;
      fits = first_fits told c.in_ok-start.start is;
      marks = ap (λ (done : List MarkedLine). map (λ line. line.marks) done
          ++ marks_from settings (bare c.in_ok-start.start) (lines_of c.args.over.now.text.now)) c.new-lines.ensures
          ∙ ap (λ (start : Start). marks_from settings (bare start) (lines_of c.args.over.now.text.now)) is;
      count = ap length c.new-lines.ensures;
      lengths = ap (λ (done : List MarkedLine). map (λ line. line.length) done) c.new-lines.ensures;
    }

pub loop-n-preserved : goal.loop-n-preserved
loop-n-preserved g c =
    let told : Runs = g.R.LineRuns.told c.args.machine.now in
    let settings : Settings = settings_by told c.args.over.now.brackets.now c.args.over.now.limits in
    let lines : List (List ℕ) = lines_of c.args.over.now.text.now in
    let n : ℕ = c.loop-n.n in
    let line : List ℕ = line_in lines n in
    let more : MarkedLine = c.in_ok-marks.field-0 in
    let below : n < length lines = omega (arith, c.loop-n-test.true) in
    let here : g.R.LineRuns.told c.loop-n.machine ≡ told = c.loop-n.invariant.same in
    let gives : bare_result c.in_ok-run.run' ≡ told.line (bare c.loop-n.start) line =
    c.in_ok-run.ensures.gives ∙ ap (λ (runs : Runs). runs.line (bare c.loop-n.start) c.line-line.result.now) here
    ∙ ap (told.line (bare c.loop-n.start)) c.line-line.ensures.line in
    let end : bare c.in_ok-start-2.start ≡ (told.line (bare c.loop-n.start) line).end =
    next_start told c.loop-n.start c.in_ok-start-2.start line c.in_ok-run.run' gives
    (c.in_ok-start-2.ensures ∙ c.end.ensures) in
    let tokens : (told.line (bare c.loop-n.start) line).tokens ≡ c.as_slice.result.now =
    sym (c.as_slice.ensures ∙ c.tokens.ensures ∙ ap (λ (run : LineResult). run.tokens) gives) in
    let types : types_of (told.line (bare c.loop-n.start) line).tokens ≡ c.deref.result.now =
    ap types_of tokens ∙ sym (c.in_ok-fill_types.ensures) ∙ sym (c.deref.ensures.value) in
    let marks : more.marks ≡ line_marks settings (told.line (bare c.loop-n.start) line).tokens line =
    rw (types, ← c.line-line.ensures.line) c.in_ok-marks.ensures.marks in
    let long : more.length ≡ length line = c.in_ok-marks.ensures.length ∙ ap length c.line-line.ensures.line in
    record {
      same = c.in_ok-run.ensures.same ∙ here;
      budget = c.in_ok-run.ensures.budget ∙ c.loop-n.invariant.budget;
      room = c.in_ok-run.ensures.room ∙ c.loop-n.invariant.room;
      fits = next_fits told c.loop-n.start c.in_ok-start-2.start line c.loop-n.invariant.fits end;
      marks = rw (c.in_ok-push.ensures.ok, map-append (λ (line : MarkedLine). line.marks) c.loop-n.lines (more ∷ []))
          (marks_behind settings settings.start (bare c.loop-n.start) (bare c.in_ok-start-2.start) lines n
          (map (λ line. line.marks) c.loop-n.lines) more.marks below end marks c.loop-n.invariant.marks);
      count = ap length c.in_ok-push.ensures.ok ∙ length-append c.loop-n.lines (more ∷ [])
          ∙ ap (λ n. n + 1) c.loop-n.invariant.count;
      lengths = ap (λ (done : List MarkedLine). map (λ line. line.length) done) c.in_ok-push.ensures.ok
          ∙ lengths_more lines n c.loop-n.lines more below long c.loop-n.invariant.lengths;
    }

-- the marks of all lines
all_marks : (g : _) (c : goal.After-drop-start-inside-2 g)
    → map (λ line. line.marks) c.loop-n.lines ≡ marks_from
    (settings_by (g.R.LineRuns.told c.args.machine.now) c.args.over.now.brackets.now c.args.over.now.limits)
    (bare (g.R.LineRuns.told c.args.machine.now).start) (lines_of c.args.over.now.text.now)
all_marks g c =
    let told : Runs = g.R.LineRuns.told c.args.machine.now in
    let settings : Settings = settings_by told c.args.over.now.brackets.now c.args.over.now.limits in
    let lines : List (List ℕ) = lines_of c.args.over.now.text.now in
    let marks : List (List LineMark) = map (λ line. line.marks) c.loop-n.lines in
    let all : length lines ≤ c.loop-n.n = omega (arith, c.loop-n-test.false) in
    let none : drop c.loop-n.n lines ≡ [] = drop_all c.loop-n.n lines all in
    sym (append-nil marks) ∙ ap (λ rest. marks ++ marks_from settings (bare c.loop-n.start) rest) (sym none)
    ∙ c.loop-n.invariant.marks

pub returns-clause-marks : goal.returns-clause-marks
returns-clause-marks g c = ap (marks_of_lines 0) (all_marks g c)

pub returns-clause-few : goal.returns-clause-few
returns-clause-few g c =
    let told : Runs = g.R.LineRuns.told c.args.machine.now in
    let settings : Settings = settings_by told c.args.over.now.brackets.now c.args.over.now.limits in
    let few = text_few settings c.args.over.now.text.now in
    let same = ap (λ lines. length (marks_of_lines 0 lines)) (all_marks g c) in
    omega arith

pub returns-clause-end : goal.returns-clause-end
returns-clause-end g c =
    let lines : List (List ℕ) = lines_of c.args.over.now.text.now in
    let all : length lines ≤ c.loop-n.n = omega (arith, c.loop-n-test.false) in
    text_end_is c.args.over.now.text.now c.loop-n.lines
    (c.loop-n.invariant.lengths ∙ ap (map length) (take_all c.loop-n.n lines all))
