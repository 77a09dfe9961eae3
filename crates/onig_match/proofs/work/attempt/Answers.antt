use Rattle.std.proofs.Common.{ℕ, ◌≡◌, length, ap, sym, subst}
use Rattle.std.specs.Prelude.{IfSome, IsSomeAnd}
use Rattle.pattern_defs.specs.Attempt.{Captures, capture_of}
use Rattle.onig_match.specs.Works.{Worked, IsPart}
use Rattle.onig_match.proofs.Ends.{attempt-goes, found_outcome, found_hit, failed_outcome, failed_hit, spent_outcome}
use Rattle.onig_match.proofs.Ends.{spent_hit, sound_empty}
use Rattle.onig_match.proofs.Flat.{flat_is_never_spent}
use Rattle.onig_match.proofs.Parts.{captured_parts, captured_whole}
use Rattle.onig_match.proofs.work.attempt.Goals as goal

pub run-requires-clause-sound : goal.run-requires-clause-sound
run-requires-clause-sound c =
    sound_empty (record { pattern = c.args.pattern; text = c.args.text; flags = c.args.flags }) c.reset.new.self _ _ _
    _ (rw c.groups.ensures at c.reset.ensures)

pub returns-in-Found-clause-outcome : goal.returns-in-Found-clause-outcome
returns-in-Found-clause-outcome c =
    let ended = rw (c.reset.ensures, c.groups.ensures) at (c.in-Found.ensures).end in
    rw (← c.work.view_is, attempt-goes c.args.pattern.now c.args.text.now c.args.at c.args.flags c.work.inside.budget)
    (found_outcome _ c.args.at c.in-Found.end ended)

pub returns-in-Found-clause-work : goal.returns-in-Found-clause-work
returns-in-Found-clause-work c =
    let ended = rw (c.reset.ensures, c.groups.ensures) at (c.in-Found.ensures).end in
    let seen = rw (c.reset.ensures, c.groups.ensures) at (c.in-Found.ensures).captures in
    rw (
      ← c.work.view_is,
      c.swap.ensures.x_after,
      c.set.ensures,
      attempt-goes c.args.pattern.now c.args.text.now
          c.args.at c.args.flags c.work.inside.budget,
    )
    (ap (λ (hit : Captures). let w : Worked =
    record { budget = c.work.inside.budget; room = c.work.inside.room; hit = hit } in w)
    (found_hit _ c.args.at c.in-Found.end c.run.new.self.captures.items c.work.inside.hit.items ended seen))

pub returns-in-Found-clause-captures : goal.returns-in-Found-clause-captures
returns-in-Found-clause-captures c =
    let AllParts : Worked → Type 0 = λ w. (n : ℕ) → IfSome (capture_of w.hit n) (IsPart (length c.args.text.now)) in
    λ _. subst AllParts (sym (returns-in-Found-clause-work c))
    (captured_parts c.args.pattern.now c.args.text.now c.args.at c.args.flags c.args.work.now.budget
    c.args.work.now.hit c.requires.at
    (returns-in-Found-clause-outcome c))

pub returns-in-Found-clause-whole : goal.returns-in-Found-clause-whole
returns-in-Found-clause-whole c =
    let Begins : Worked → Type 0 = λ w. IsSomeAnd (capture_of w.hit 0) (λ place. place.from ≡ c.args.at) in
    λ _. subst Begins (sym (returns-in-Found-clause-work c))
    (captured_whole c.args.pattern.now c.args.text.now c.args.at c.args.flags c.args.work.now.budget
    c.args.work.now.hit c.requires.at
    (returns-in-Found-clause-outcome c))

pub returns-in-Failed-clause-outcome : goal.returns-in-Failed-clause-outcome
returns-in-Failed-clause-outcome c =
    let ended = rw (c.reset.ensures, c.groups.ensures) at (c.in-Failed.ensures).end in
    rw (← c.work.view_is, attempt-goes c.args.pattern.now c.args.text.now c.args.at c.args.flags c.work.inside.budget)
    (failed_outcome _ c.args.at ended)

pub returns-in-Failed-clause-work : goal.returns-in-Failed-clause-work
returns-in-Failed-clause-work c =
    let ended = rw (c.reset.ensures, c.groups.ensures) at (c.in-Failed.ensures).end in
    rw (← c.work.view_is, attempt-goes c.args.pattern.now c.args.text.now c.args.at c.args.flags c.work.inside.budget)
    (ap (λ (hit : Captures). let w : Worked =
    record { budget = c.work.inside.budget; room = c.work.inside.room; hit = hit } in w)
    (failed_hit _ c.args.at c.work.inside.hit.items ended))

pub returns-in-Spent-clause-outcome : goal.returns-in-Spent-clause-outcome
returns-in-Spent-clause-outcome c =
    let ended = rw (c.reset.ensures, c.groups.ensures) at (c.in-Spent.ensures).end in
    rw (← c.work.view_is, attempt-goes c.args.pattern.now c.args.text.now c.args.at c.args.flags c.work.inside.budget)
    (spent_outcome _ c.args.at ended)

pub returns-in-Spent-clause-work : goal.returns-in-Spent-clause-work
returns-in-Spent-clause-work c =
    let ended = rw (c.reset.ensures, c.groups.ensures) at (c.in-Spent.ensures).end in
    rw (← c.work.view_is, attempt-goes c.args.pattern.now c.args.text.now c.args.at c.args.flags c.work.inside.budget)
    (ap (λ (hit : Captures). let w : Worked =
    record { budget = c.work.inside.budget; room = c.work.inside.room; hit = hit } in w)
    (spent_hit _ c.args.at c.work.inside.hit.items ended))

pub returns-in-Spent-clause-flat : goal.returns-in-Spent-clause-flat
returns-in-Spent-clause-flat c =
    λ flat enough _. flat_is_never_spent c.args.pattern.now c.args.text.now c.args.at c.args.flags
    c.args.work.now.budget (c.in-Spent.ensures).names flat enough (returns-in-Spent-clause-outcome c)
