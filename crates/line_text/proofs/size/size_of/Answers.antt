use Rattle.std.proofs.Common.{[], ◌∷◌, ◌++◌, Some, None}
use Rattle.std.proofs.lemmas.List.{append-nil}
use Rattle.std.proofs.lemmas.Str.{IsUtf8-past_char}
use Rattle.line_text.proofs.NormedText.{normed_step, normed_end, Takes}
use Rattle.line_text.proofs.CountedSizes.{IsSizeOf-push}
use Rattle.line_text.proofs.size.size_of.Goals as goal

pub loop-c-preserved-in-Some-take : goal.loop-c-preserved-in-Some-take
loop-c-preserved-in-Some-take c =
    let step = c.in-Some.ensures.steps.0 in
    let takes : Takes c.loop-c.before c.in-Some.c (Some c.in-Some-take.added) c.take.new.self =
    record { adds = c.in-Some-take.ensures.adds } in
    let had = c.loop-c.invariant.counted in
    record {
      rest_utf8 = IsUtf8-past_char _ _ _ c.loop-c.invariant.rest_utf8 step;
      counted = (
        had.0 ++ c.in-Some-take.added ∷ [],
        IsSizeOf-push had.0 c.in-Some-take.added c.loop-c.size c.count.new.self had.1 c.count.ensures.chars
            c.count.ensures.lines,
        normed_step _ _ _ _ _ _ _ _ c.loop-c.invariant.rest_utf8 step takes had.2,
      );
    }

pub loop-c-preserved : goal.loop-c-preserved
loop-c-preserved c =
    let step = c.in-Some.ensures.steps.0 in
    let takes : Takes c.loop-c.before c.in-Some.c None c.take.new.self = record { adds = c.in_default.ensures.adds } in
    let had = c.loop-c.invariant.counted in
    record {
      rest_utf8 = IsUtf8-past_char _ _ _ c.loop-c.invariant.rest_utf8 step;
      counted = (
        had.0,
        had.1,
        rw (← append-nil had.0)
            (normed_step _ _ _ _ _ _ _ _ c.loop-c.invariant.rest_utf8 step takes had.2),
      );
    }

pub returns : goal.returns
returns c =
    let had = c.loop-c.invariant.counted in
    rw (← normed_end _ _ _ _ c.in-None.ensures.steps.0.0 had.2) had.1
