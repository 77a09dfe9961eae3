use Rattle.std.proofs.Common.{◌≡◌, ◌<◌, ℕ, List, [], ◌∷◌, ◌++◌, length, ap, sym, ◌∙◌, arith}
use Rattle.std.proofs.lemmas.List.{length-append}
use Rattle.text_defs.specs.Text.{lines_of}
use Rattle.line_text.specs.Lines.{joined, chars_of, ArePlain}
use Rattle.line_text.proofs.JoinedLines.{joined-push, lines_of-joined}
use Rattle.line_text.proofs.PlainLines.{ArePlain-lines, ArePlain-push, IsPlain-append}
use Rattle.line_text.proofs.draft.Draft.finish.Goals as goal
use Rattle.line_text.proofs.draft.Draft.finish.Goals.{In_ok-add_line}

has_line : (c : In_ok-add_line)
    → c.add_line.new.lines ≡ c.self.inside.done ++ (chars_of c.self.inside.shared ++ c.self.inside.current.items) ∷ []
has_line c =
    let done = c.self.inside.done in
    let line = rw (c.as_slice.ensures.value, c.take.ensures.value) at c.in_ok-line.ensures in
    c.in_ok-add_line.ensures.ok ∙ ap (λ (cs : List ℕ). done ++ cs ∷ []) line

is_text : (c : In_ok-add_line) → joined c.add_line.new.lines ≡ c.args.self
is_text c =
    let parts = chars_of c.self.inside.shared ++ c.self.inside.current.items in
    ap joined (has_line c) ∙ joined-push c.self.inside.done parts ∙ c.self.view_is

pub of_lines-requires : goal.of_lines-requires
of_lines-requires c =
    let lines = c.add_line.new.lines in
    let last = (chars_of c.self.inside.shared ++ c.self.inside.current.items) ∷ [] in
    let some_line : 0 < length lines = rw (has_line c) (omega (arith, length-append c.self.inside.done last)) in
    let plain : ArePlain lines =
    rw (has_line c) (ArePlain-push _ _ c.self.invariant.0 (IsPlain-append _ _ c.self.invariant.1 c.self.invariant.2)) in
    let lines_are = sym (ap lines_of (is_text c)) ∙ lines_of-joined lines some_line (ArePlain-lines lines plain) in
    record {
      some_line = some_line;
      plain = plain;
      counted = c.requires.counted ∙ sym (ap length (is_text c));
      few_chars = c.requires.few_chars;
      few_lines = omega (arith, ap length lines_are, c.requires.few_lines);
    }

pub returns : goal.returns
returns c = c.of_lines.ensures ∙ is_text ((goal.at.returns c).In_ok-add_line)
