-- The marks of the lines of a text.
use Rattle.std.proofs.Common.{◌≡◌, ℕ, ◌+◌, ◌<◌, ◌≤◌, List, [], ◌∷◌, ◌++◌, length, map, take, drop, refl, ap, sym, ◌∙◌}
use Rattle.std.proofs.Common.{add-one, append_assoc, length-append, arith}
use Rattle.std.specs.List.{sum_by}
use Rattle.std.proofs.lemmas.List.{length-map, map-append}
use Rattle.std.proofs.lemmas.List.Sums.{sum_by-cons}
use Rattle.std.proofs.Math.Seq.{take-suc}
use Rattle.text_defs.specs.Text.{lines_of, line_in}
use Rattle.scope_defs.specs.Frames.{Start}
use Rattle.pairing_defs.specs.declared.LineMark.{LineMark}
use Rattle.pairing_defs.specs.Marks.{counts_by, marks_of_lines, on_line}
use Rattle.bracket_marks.specs.MarkedLine.{MarkedLine}
use Rattle.bracket_lex.proofs.MarkedTexts.{marks_few, chars_few, line_in-get_or}
use Rattle.document.proofs.LineRuns.{at_line}
use Rattle.document_defs.specs.TextRows.{Settings, line_marks, marks_from, marks_in_text, types_of}

-- one more line has its marks
pub marks_behind : (settings : Settings) (start here next : Start) (lines : List (List ℕ)) (n : ℕ)
    (done : List (List LineMark)) (marks : List LineMark)
    → n < length lines → next ≡ (settings.line here (line_in lines n)).end
    → marks ≡ line_marks settings (settings.line here (line_in lines n)).tokens (line_in lines n)
    → done ++ marks_from settings here (drop n lines) ≡ marks_from settings start lines
    → (done ++ marks ∷ []) ++ marks_from settings next (drop (n + 1) lines) ≡ marks_from settings start lines
marks_behind settings start here next lines n done marks below is found before =
    let split : done ++ marks_from settings here (line_in lines n ∷ drop (n + 1) lines) ≡ marks_from settings start lines =
    sym (ap (λ rest. done ++ marks_from settings here rest) (at_line lines n below)) ∙ before in
    rw (is, found, append_assoc done) split

-- no more marks than characters
lines_few : (settings : Settings) (start : Start) (n : ℕ) (lines : List (List ℕ))
    → length (marks_of_lines n (marks_from settings start lines)) ≤ sum_by length lines
lines_few settings start n [] = omega arith
lines_few settings start n (line ∷ lines) =
    let tokens = (settings.line start line).tokens in
    let next = (settings.line start line).end in
    let here = marks_few settings.texts settings.limits.long (counts_by (types_of tokens)) line in
    let rest = lines_few settings next (n + 1) lines in
    let total = length-append (map (on_line n) (line_marks settings tokens line))
    (marks_of_lines (n + 1) (marks_from settings next lines)) in
    omega (arith, total, length-map (line_marks settings tokens line) (on_line n), sum_by-cons length line lines)

pub text_few : (settings : Settings) (text : List ℕ) → length (marks_in_text settings text) ≤ length text
text_few settings text =
    let marks = lines_few settings settings.start 0 (lines_of text) in
    let chars = chars_few text in
    omega arith

-- one more line has its length
pub lengths_more : (lines : List (List ℕ)) (n : ℕ) (done : List MarkedLine) (more : MarkedLine) → n < length lines
    → more.length ≡ length (line_in lines n) → map (λ line. line.length) done ≡ map length (take n lines)
    → map (λ line. line.length) (done ++ more ∷ []) ≡ map length (take (n + 1) lines)
lengths_more lines n done more below is before =
    rw (
      map-append (λ (line : MarkedLine). line.length) done (more ∷ []),
      before,
      is,
      add-one n,
      take-suc lines n [] below,
      ← line_in-get_or lines n [] below,
      map-append (length {A = ℕ}) (take n lines) (line_in lines n ∷ []),
    ) refl
