use Rattle.std.proofs.Common.{◌≡◌, ℕ, List, [], ◌∷◌, ◌++◌, ap, ◌∙◌}
use Rattle.std.proofs.lemmas.List.{append-nil}
use Rattle.line_text.specs.Lines.{chars_of}
use Rattle.line_text.proofs.JoinedLines.{ended-push}
use Rattle.line_text.proofs.PlainLines.{ArePlain-push, IsPlain-append}
use Rattle.line_text.proofs.draft.Draft.end_line.Goals as goal
use Rattle.line_text.proofs.draft.Draft.end_line.Goals.{In_ok-add_line}

has_line : (c : In_ok-add_line)
    → c.add_line.new.lines ≡ c.self.inside.done ++ (chars_of c.self.inside.shared ++ c.self.inside.current.items) ∷ []
has_line c =
    let done = c.self.inside.done in
    let line = rw (c.as_slice.ensures.value, c.take.ensures.value) at c.in_ok-line.ensures in
    c.in_ok-add_line.ensures.ok ∙ ap (λ (cs : List ℕ). done ++ cs ∷ []) line

pub invariant_of-self-2 : goal.invariant_of-self-2
invariant_of-self-2 c =
    let held = c.self.invariant in
    rw (has_line ((goal.at.invariant_of-self-2 c).In_ok-add_line), c.clear.ensures.items, c.take.ensures.after)
    (ArePlain-push _ _ held.0 (IsPlain-append _ _ held.1 held.2), tt, tt)

pub returns : goal.returns
returns c =
    rw (has_line ((goal.at.returns c).In_ok-add_line), c.clear.ensures.items, c.take.ensures.after, ← c.self.view_is)
    (append-nil _ ∙ ended-push _ _)
