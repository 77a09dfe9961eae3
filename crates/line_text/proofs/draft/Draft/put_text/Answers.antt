use Rattle.std.proofs.Common.{Some, None}
use Rattle.std.proofs.lemmas.List.{append-nil}
use Rattle.std.proofs.lemmas.Str.{IsUtf8-past_char}
use Rattle.line_text.proofs.NormedText.{normed_step, normed_end, Takes}
use Rattle.line_text.proofs.draft.Draft.put_text.Goals as goal

pub loop-c-preserved-in-Continue-1 : goal.loop-c-preserved-in-Continue-1
loop-c-preserved-in-Continue-1 c =
    let step = c.in-Some.ensures.steps.0 in
    let takes : Takes c.loop-c.before c.in-Some.c (Some c.in-Some-take.added) c.take.new.self =
    record { adds = c.in-Some-take.ensures.adds } in
    record {
      rest_utf8 = IsUtf8-past_char _ _ _ c.loop-c.invariant.rest_utf8 step;
      added = rw c.in_ok-put.ensures (normed_step _ _ _ _ _ _ _ _ c.loop-c.invariant.rest_utf8 step takes
          c.loop-c.invariant.added);
    }

pub loop-c-preserved : goal.loop-c-preserved
loop-c-preserved c =
    let step = c.in-Some.ensures.steps.0 in
    let takes : Takes c.loop-c.before c.in-Some.c None c.take.new.self = record { adds = c.in_default.ensures.adds } in
    record {
      rest_utf8 = IsUtf8-past_char _ _ _ c.loop-c.invariant.rest_utf8 step;
      added = rw (← append-nil c.loop-c.self) (normed_step _ _ _ _ _ _ _ _ c.loop-c.invariant.rest_utf8 step takes
          c.loop-c.invariant.added);
    }

pub returns : goal.returns
returns c = normed_end _ _ _ _ c.in-None.ensures.steps.0.0 c.loop-c.invariant.added
