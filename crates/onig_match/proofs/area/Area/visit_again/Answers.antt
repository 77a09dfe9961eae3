use Rattle.std.proofs.Common.{refl}
use Rattle.pattern_defs.specs.Attempt.{Again}
use Rattle.onig_match.specs.Machine.{acted}
use Rattle.onig_match.proofs.EarlyMisses.{early_repeat, not_stuck}
use Rattle.onig_match.proofs.Steps.{visits_once}
use Rattle.onig_match.proofs.area.Area.visit_again.Goals as goal

pub returns-in-Some : goal.returns-in-Some
returns-in-Some c =
    rw (c.visited.ensures, c.go.ensures, c.if-repeat.true)
    (early_repeat c.args.on.now c.args.self.now c.args.repeat.body c.args.repeat.least c.args.repeat.most c.args.count
    c.args.begun c.args.rest c.args.at c.in-Some.more c.requires.here
    (not_stuck c.args.count c.args.begun c.args.at c.if-begun-at.true)
    (c.if-is_open.ensures refl).0 (c.if-is_open.ensures refl).1 (c.in-Some.ensures).early)

pub returns : goal.returns
returns c =
    rw c.once.ensures
    (visits_once c.args.on.now c.args.self.now
    (acted c.args.on.now c.args.self.now (Again c.args.repeat.body c.args.repeat.least c.args.repeat.most
    c.args.repeat.greedy c.args.count c.args.begun) c.args.rest c.args.at)
    c.repeat.new.self c.repeat.result c.repeat.ensures)
