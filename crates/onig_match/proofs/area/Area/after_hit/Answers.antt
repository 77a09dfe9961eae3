use Rattle.onig_match.proofs.ReturnSteps.{hit_other, hit_alternatives, hit_ahead, hit_not_ahead, hit_behind}
use Rattle.onig_match.proofs.ReturnSteps.{hit_not_behind, hit_atomic, hit_place}
use Rattle.onig_match.proofs.area.Area.after_hit.Goals as goal

pub returns-in-Other : goal.returns-in-Other
returns-in-Other c =
    rw c.cut.ensures (hit_other c.args.on.now c.args.self.now c.args.entry c.in-Other.field-0 c.args.end
    c.requires.sound c.requires.end c.in-Other.is)

pub returns-in-Alternatives : goal.returns-in-Alternatives
returns-in-Alternatives c =
    rw c.cut.ensures (hit_alternatives c.args.on.now c.args.self.now c.args.entry c.in-Alternatives.node
    c.in-Alternatives.way c.in-Alternatives.next c.args.end c.requires.sound c.requires.end c.in-Alternatives.is)

pub returns-then-wanted : goal.returns-then-wanted
returns-then-wanted c =
    rw (c.cut.ensures, c.go.ensures)
    (hit_ahead c.args.on.now c.args.self.now c.args.entry c.in-AfterAhead.rest c.args.end c.requires.sound
    (rw c.if-wanted.true at c.in-AfterAhead.is))

pub returns-else-wanted : goal.returns-else-wanted
returns-else-wanted c =
    rw c.cut.ensures
    (hit_not_ahead c.args.on.now c.args.self.now c.args.entry c.in-AfterAhead.rest c.args.end c.requires.sound
    (rw c.if-wanted.false at c.in-AfterAhead.is))

pub returns-then-wanted-2 : goal.returns-then-wanted-2
returns-then-wanted-2 c =
    rw (c.cut.ensures, c.go-then-wanted-2.ensures)
    (hit_behind c.args.on.now c.args.self.now c.args.entry c.in-AfterBehind.node c.in-AfterBehind.arm
    c.in-AfterBehind.rest c.args.end c.requires.sound (rw c.if-wanted-2.true at c.in-AfterBehind.is))

pub returns-else-wanted-2 : goal.returns-else-wanted-2
returns-else-wanted-2 c =
    rw c.cut.ensures
    (hit_not_behind c.args.on.now c.args.self.now c.args.entry c.in-AfterBehind.node c.in-AfterBehind.arm
    c.in-AfterBehind.rest c.args.end c.requires.sound (rw c.if-wanted-2.false at c.in-AfterBehind.is))

pub returns-in-AfterAtomic : goal.returns-in-AfterAtomic
returns-in-AfterAtomic c =
    rw (c.cut.ensures, c.go-in-AfterAtomic.ensures)
    (hit_atomic c.args.on.now c.args.self.now c.args.entry c.in-AfterAtomic.rest c.args.end c.requires.sound
    c.requires.end c.in-AfterAtomic.is)

pub returns-in-GiveBack : goal.returns-in-GiveBack
returns-in-GiveBack c =
    rw c.cut.ensures (hit_place c.args.on.now c.args.self.now c.args.entry c.in-GiveBack.more c.in-GiveBack.rest
    c.args.end c.requires.sound c.requires.end c.in-GiveBack.is)
