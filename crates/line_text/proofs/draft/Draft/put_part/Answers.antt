use Rattle.line_text.proofs.PlainLines.{IsPlain-cond, IsPlain-take, IsPlain-drop}
use Rattle.line_text.proofs.draft.Draft.put_part.Goals as goal

pub invariant_of-self-else-is_whole : goal.invariant_of-self-else-is_whole
invariant_of-self-else-is_whole c =
    rw c.extend_from_slice.ensures.items (
      c.self.invariant.0,
      c.self.invariant.1,
      IsPlain-cond _ _ _ c.self.invariant.2 (rw (c.chars-chars.ensures, c.get.ensures)
          (IsPlain-take _ _ (IsPlain-drop _ _ c.requires.plain))),
    )
