use Rattle.std.proofs.Common.{◌≡◌, false, sym}
use Rattle.std.specs.Prelude.{nat_lt}
use Rattle.std.proofs.lemmas.Bool.{lt-ltb, le-ltb}
use Rattle.pattern_defs.specs.Attempt.{is_greatest}
use Rattle.onig_match.proofs.VisitSteps.{lead_below, lead_greedy, lead_lazy}
use Rattle.onig_match.proofs.area.Area.repeat.Goals as goal

pub returns-then-count-repeat : goal.returns-then-count-repeat
returns-then-count-repeat c =
    rw (c.go-then-count-repeat.ensures, c.start_of-more.ensures, c.len.ensures.len, c.push.ensures)
    (lead_below c.args.on.now c.args.self.now c.args.repeat c.args.count c.args.begun c.args.rest c.args.at
    c.requires.here c.requires.body c.requires.count
    (sym c.if-is_stuck.ensures) (lt-ltb _ _ c.if-count-repeat.true))

pub returns-then-repeat : goal.returns-then-repeat
returns-then-repeat c =
    let more_may : nat_lt c.args.count c.args.repeat.least ≡ false = le-ltb _ _ c.if-count-repeat.false in
    let more : is_greatest c.args.repeat.most c.args.count ≡ false = rw more_may at (sym c.if-is_done.ensures) in
    rw (c.go-then-repeat.ensures, c.enter.ensures, c.start_of-more.ensures, c.len.ensures.len, c.push.ensures)
    (lead_greedy c.args.on.now c.args.self.now c.args.repeat c.args.count c.args.begun c.args.rest c.args.at
    c.requires.here c.requires.body c.requires.count
    (sym c.if-is_stuck.ensures) more_may more c.if-repeat.true)

pub returns : goal.returns
returns c =
    let more_may : nat_lt c.args.count c.args.repeat.least ≡ false = le-ltb _ _ c.if-count-repeat.false in
    let more : is_greatest c.args.repeat.most c.args.count ≡ false = rw more_may at (sym c.if-is_done.ensures) in
    rw (c.go-2.ensures, c.enter-2.ensures, c.start_of-more.ensures, c.len.ensures.len, c.push.ensures)
    (lead_lazy c.args.on.now c.args.self.now c.args.repeat c.args.count c.args.begun c.args.rest c.args.at
    c.requires.here c.requires.body c.requires.count
    (sym c.if-is_stuck.ensures) more_may more c.if-repeat.false)
