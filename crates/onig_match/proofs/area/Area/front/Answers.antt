use Rattle.std.proofs.Common.{◌∙◌, sym, arith, length}
use Rattle.onig_match.proofs.Fronts.{Passes, passes, exhausted}
use Rattle.onig_match.proofs.Steps.{IsRest-widen}
use Rattle.onig_match.proofs.area.Area.front.Goals as goal

pub returns-then-rest-eq0-clause-todo : goal.returns-then-rest-eq0-clause-todo
returns-then-rest-eq0-clause-todo c =
    sym (exhausted c.args.on.now c.args.self.now c.loop-rest.rest c.list.result.now c.list.ensures.nodes
    c.loop-rest-test.true c.if-rest-eq0.true) ∙ c.loop-rest.invariant.todo

pub loop-rest-smaller : goal.loop-rest-smaller
loop-rest-smaller c =
    let p : Passes c.args.on.now c.args.self.now c.loop-rest.rest _ =
    passes c.args.on.now c.args.self.now c.loop-rest.rest c.list.result.now _ c.requires.sound
    c.loop-rest.invariant.inside c.list.ensures.nodes c.loop-rest-test.true c.if-rest-eq0.false
    c.in-Nodes.ensures in
    omega (arith, p.is.next, p.above)

pub loop-rest-preserved : goal.loop-rest-preserved
loop-rest-preserved c =
    let p : Passes c.args.on.now c.args.self.now c.loop-rest.rest _ =
    passes c.args.on.now c.args.self.now c.loop-rest.rest c.list.result.now _ c.requires.sound
    c.loop-rest.invariant.inside c.list.ensures.nodes c.loop-rest-test.true c.if-rest-eq0.false
    c.in-Nodes.ensures in
    record {
      todo = sym p.todo ∙ c.loop-rest.invariant.todo;
      inside = IsRest-widen c.args.on.now.pattern.now _ (length c.args.self.now.cells.items) c.in-Nodes.more p.is p.low;
    }

pub returns-in-GroupEnd-clause-todo : goal.returns-in-GroupEnd-clause-todo
returns-in-GroupEnd-clause-todo c =
    let p : Passes c.args.on.now c.args.self.now c.loop-rest.rest _ =
    passes c.args.on.now c.args.self.now c.loop-rest.rest c.list.result.now _ c.requires.sound
    c.loop-rest.invariant.inside c.list.ensures.nodes c.loop-rest-test.true c.if-rest-eq0.false
    c.in-GroupEnd.ensures in
    sym p.todo ∙ c.loop-rest.invariant.todo

pub returns-in-GroupEnd-clause-sound : goal.returns-in-GroupEnd-clause-sound
returns-in-GroupEnd-clause-sound c =
    let p : Passes c.args.on.now c.args.self.now c.loop-rest.rest _ =
    passes c.args.on.now c.args.self.now c.loop-rest.rest c.list.result.now _ c.requires.sound
    c.loop-rest.invariant.inside c.list.ensures.nodes c.loop-rest-test.true c.if-rest-eq0.false
    c.in-GroupEnd.ensures in (
      p.is.0,
      p.is.1,
      IsRest-widen c.args.on.now.pattern.now _ (length c.args.self.now.cells.items) c.in-GroupEnd.rest
          p.is.2 p.low,
    )

pub returns-in-Iteration-clause-todo : goal.returns-in-Iteration-clause-todo
returns-in-Iteration-clause-todo c =
    let p : Passes c.args.on.now c.args.self.now c.loop-rest.rest _ =
    passes c.args.on.now c.args.self.now c.loop-rest.rest c.list.result.now _ c.requires.sound
    c.loop-rest.invariant.inside c.list.ensures.nodes c.loop-rest-test.true c.if-rest-eq0.false
    c.in-Iteration.ensures in
    sym p.todo ∙ c.loop-rest.invariant.todo

pub returns-in-Iteration-clause-sound : goal.returns-in-Iteration-clause-sound
returns-in-Iteration-clause-sound c =
    let p : Passes c.args.on.now c.args.self.now c.loop-rest.rest _ =
    passes c.args.on.now c.args.self.now c.loop-rest.rest c.list.result.now _ c.requires.sound
    c.loop-rest.invariant.inside c.list.ensures.nodes c.loop-rest-test.true c.if-rest-eq0.false
    c.in-Iteration.ensures in (
      p.is.0,
      omega (arith, p.is.1, p.low, p.reach, p.above),
      IsRest-widen c.args.on.now.pattern.now _
          (length c.args.self.now.cells.items) c.in-Iteration.rest p.is.2 p.low,
    )
