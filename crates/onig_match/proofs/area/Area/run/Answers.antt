use Rattle.std.proofs.Common.{refl, arith}
use Rattle.pattern_defs.specs.Attempt.{Hit}
use Rattle.onig_match.specs.declared.area.Area.{Area}
use Rattle.onig_match.proofs.Ends.{begins, spent, spent_within, after_visit, after_pop}
use Rattle.onig_match.proofs.Ends.{spent_back, after_back}
use Rattle.onig_match.proofs.area.Area.run.Goals as goal

pub loop-step-init : goal.loop-step-init
loop-step-init c =
    record {
      ends = rw (← c.top.ensures.top) (begins c.args.on.now c.args.self.now c.args.at c.args.budget c.start_of.result
          c.top.result c.start_of.ensures c.requires.empty);
      sound = c.requires.sound;
      step = rw c.start_of.ensures (record { list = c.top.ensures.is_there; next = omega arith }, c.requires.at);
      room = c.requires.room;
      rooms = record { captures = refl; cells = refl; entries = refl; trail = refl };
    }

pub returns-then-left-eq0-clause-end : goal.returns-then-left-eq0-clause-end
returns-then-left-eq0-clause-end c =
    rw (spent c.args.on.now c.loop-step.self c.loop-step.step c.in-Go.point c.loop-step.left _ c.in-Go.is
    c.if-left-eq0.true c.loop-step.invariant.ends) refl

pub returns-then-left-eq0-clause-captures : goal.returns-then-left-eq0-clause-captures
returns-then-left-eq0-clause-captures c =
    rw (spent c.args.on.now c.loop-step.self c.loop-step.step c.in-Go.point c.loop-step.left _ c.in-Go.is
    c.if-left-eq0.true c.loop-step.invariant.ends) refl

pub returns-then-left-visited-clause-end : goal.returns-then-left-visited-clause-end
returns-then-left-visited-clause-end c =
    rw (spent_within c.args.on.now c.loop-step.self c.visit-visited.new.self c.loop-step.step c.visit-visited.result
    c.in-Go.point c.loop-step.left _ c.in-Go.is c.if-left-eq0.false c.if-left-visited.true c.loop-step.invariant.ends
    c.visit-visited.ensures) refl

pub returns-then-left-visited-clause-captures : goal.returns-then-left-visited-clause-captures
returns-then-left-visited-clause-captures c =
    rw (spent_within c.args.on.now c.loop-step.self c.visit-visited.new.self c.loop-step.step c.visit-visited.result
    c.in-Go.point c.loop-step.left _ c.in-Go.is c.if-left-eq0.false c.if-left-visited.true c.loop-step.invariant.ends
    c.visit-visited.ensures) refl

pub loop-step-smaller-else-left-visited : goal.loop-step-smaller-else-left-visited
loop-step-smaller-else-left-visited c =
    (after_visit c.args.on.now c.args.self.now c.loop-step.self c.visit-visited.new.self c.loop-step.step
    c.visit-visited.result c.in-Go.point c.loop-step.left _
    c.in-Go.is c.if-left-eq0.false c.if-left-visited.false c.loop-step.invariant.ends c.loop-step.invariant.room
    c.loop-step.invariant.rooms c.visit-visited.ensures).falls

pub loop-step-preserved-else-left-visited : goal.loop-step-preserved-else-left-visited
loop-step-preserved-else-left-visited c =
    let turn = after_visit c.args.on.now c.args.self.now c.loop-step.self c.visit-visited.new.self c.loop-step.step
    c.visit-visited.result c.in-Go.point c.loop-step.left _
    c.in-Go.is c.if-left-eq0.false c.if-left-visited.false c.loop-step.invariant.ends c.loop-step.invariant.room
    c.loop-step.invariant.rooms c.visit-visited.ensures in
    record { ends = turn.ends; sound = turn.sound; step = turn.step; room = turn.room; rooms = turn.rooms }

pub loop-step-smaller-in-Some : goal.loop-step-smaller-in-Some
loop-step-smaller-in-Some c =
    (after_pop c.args.on.now c.args.self.now c.loop-step.self c.after_hit.new.self c.pop.new.self c.in-Some.entry
    c.loop-step.step c.after_hit.result
    (λ (a : Area) l. Hit c.in-Found.end a.captures.items l) c.loop-step.left _ (c.in-Some.ensures).0
    (c.in-Some.ensures).1
    (λ l. rw c.in-Found.is refl) (rw c.in-Found.is refl) c.loop-step.invariant.ends c.loop-step.invariant.room
    c.loop-step.invariant.rooms c.after_hit.ensures).falls

pub loop-step-preserved-in-Some : goal.loop-step-preserved-in-Some
loop-step-preserved-in-Some c =
    let turn = after_pop c.args.on.now c.args.self.now c.loop-step.self c.after_hit.new.self c.pop.new.self
    c.in-Some.entry c.loop-step.step c.after_hit.result
    (λ (a : Area) l. Hit c.in-Found.end a.captures.items l) c.loop-step.left _ (c.in-Some.ensures).0
    (c.in-Some.ensures).1
    (λ l. rw c.in-Found.is refl) (rw c.in-Found.is refl) c.loop-step.invariant.ends c.loop-step.invariant.room
    c.loop-step.invariant.rooms c.after_hit.ensures in
    record { ends = turn.ends; sound = turn.sound; step = turn.step; room = turn.room; rooms = turn.rooms }

pub returns-then-left-back-clause-end : goal.returns-then-left-back-clause-end
returns-then-left-back-clause-end c =
    rw (spent_back c.args.on.now c.loop-step.self c.go_back-back.new.self c.pop-in-Failed.new.self c.in-Some-pop.entry
    c.go_back-back.result c.loop-step.left _ (c.in-Some-pop.ensures).0 (c.in-Some-pop.ensures).1 c.if-left-back.true
    (rw c.in-Failed.is at c.loop-step.invariant.ends) c.go_back-back.ensures) refl

pub returns-then-left-back-clause-captures : goal.returns-then-left-back-clause-captures
returns-then-left-back-clause-captures c =
    rw (spent_back c.args.on.now c.loop-step.self c.go_back-back.new.self c.pop-in-Failed.new.self c.in-Some-pop.entry
    c.go_back-back.result c.loop-step.left _ (c.in-Some-pop.ensures).0 (c.in-Some-pop.ensures).1 c.if-left-back.true
    (rw c.in-Failed.is at c.loop-step.invariant.ends) c.go_back-back.ensures) refl

pub loop-step-smaller : goal.loop-step-smaller
loop-step-smaller c =
    let turn = after_back c.args.on.now c.args.self.now c.loop-step.self c.go_back-back.new.self
    c.pop-in-Failed.new.self c.in-Some-pop.entry c.go_back-back.result c.loop-step.left _ (c.in-Some-pop.ensures).0
    (c.in-Some-pop.ensures).1 c.if-left-back.false (rw c.in-Failed.is at c.loop-step.invariant.ends)
    c.loop-step.invariant.room c.loop-step.invariant.rooms c.go_back-back.ensures in
    rw c.in-Failed.is turn.falls

pub loop-step-preserved : goal.loop-step-preserved
loop-step-preserved c =
    let turn = after_back c.args.on.now c.args.self.now c.loop-step.self c.go_back-back.new.self
    c.pop-in-Failed.new.self c.in-Some-pop.entry c.go_back-back.result c.loop-step.left _ (c.in-Some-pop.ensures).0
    (c.in-Some-pop.ensures).1 c.if-left-back.false (rw c.in-Failed.is at c.loop-step.invariant.ends)
    c.loop-step.invariant.room c.loop-step.invariant.rooms c.go_back-back.ensures in
    record { ends = turn.ends; sound = turn.sound; step = turn.step; room = turn.room; rooms = turn.rooms }
