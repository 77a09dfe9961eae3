use Rattle.line_text.proofs.PlainLines.{IsPlain-append}
use Rattle.line_text.proofs.draft.Draft.put.Goals as goal

pub invariant_of-self-else-c-eq10 : goal.invariant_of-self-else-c-eq10
invariant_of-self-else-c-eq10 c =
    rw c.in_ok-push.ensures.items (
      c.self.invariant.0,
      c.self.invariant.1,
      IsPlain-append _ _ c.self.invariant.2
          (c.if-c-eq10.false, c.requires, tt),
    )
