use Rattle.std.proofs.Common.{◌≡◌, suc, ◌-◌, arith}
use Rattle.onig_match.proofs.ReturnSteps.{sound_below, miss_other, miss_alternative, miss_alternatives, miss_ahead}
use Rattle.onig_match.proofs.ReturnSteps.{miss_not_ahead, miss_arm, miss_behind, miss_not_behind, miss_atomic}
use Rattle.onig_match.proofs.ReturnSteps.{miss_last_place, miss_place}
use Rattle.onig_match.proofs.area.Area.after_miss.Goals as goal

pub rewind-requires : goal.rewind-requires
rewind-requires c = record { sound = sound_below c.args.on.now c.args.self.now c.args.entry c.requires.sound }

pub returns-in-Other : goal.returns-in-Other
returns-in-Other c =
    rw (c.rewind.ensures, c.go.ensures) (miss_other c.args.on.now c.args.self.now c.args.entry c.in-Other.rest
    c.requires.sound c.in-Other.is)

pub returns-in-Some : goal.returns-in-Some
returns-in-Some c =
    rw (c.enter.ensures, c.rewind.ensures, c.go-in-Some.ensures, c.start_of.ensures)
    (miss_alternative c.args.on.now c.args.self.now c.args.entry c.in-Alternatives.node c.in-Alternatives.way
    c.in-Alternatives.next c.in-Some.id c.requires.sound c.in-Alternatives.is
    (c.in-Some.ensures).value (c.in-Some.ensures).there)

pub returns-in-None : goal.returns-in-None
returns-in-None c =
    rw c.rewind.ensures
    (miss_alternatives c.args.on.now c.args.self.now c.args.entry c.in-Alternatives.node c.in-Alternatives.way
    c.in-Alternatives.next c.requires.sound c.in-Alternatives.is (c.in-None.ensures).value)

pub returns-then-wanted : goal.returns-then-wanted
returns-then-wanted c =
    rw c.rewind.ensures
    (miss_ahead c.args.on.now c.args.self.now c.args.entry c.in-AfterAhead.rest c.requires.sound
    (rw c.if-wanted.true at c.in-AfterAhead.is))

pub returns-else-wanted : goal.returns-else-wanted
returns-else-wanted c =
    rw (c.rewind.ensures, c.go-else-wanted.ensures)
    (miss_not_ahead c.args.on.now c.args.self.now c.args.entry c.in-AfterAhead.rest c.requires.sound
    (rw c.if-wanted.false at c.in-AfterAhead.is))

pub returns-in-Some-arm_within : goal.returns-in-Some-arm_within
returns-in-Some-arm_within c =
    rw (
      c.enter-in-Some-arm_within.ensures,
      c.rewind.ensures,
      c.go-in-Some-arm_within.ensures,
      c.start_of-in-Some-arm_within.ensures,
    )
    (miss_arm c.args.on.now c.args.self.now c.args.entry c.in-AfterBehind.node c.in-AfterBehind.arm
    c.in-Some-arm_within.k c.in-Some-arm_within.one c.in-AfterBehind.wanted c.in-AfterBehind.rest c.requires.sound
    c.in-AfterBehind.is
    (c.in-Some-arm_within.ensures).next (c.in-Some-arm_within.ensures).there)

pub returns-then-wanted-2 : goal.returns-then-wanted-2
returns-then-wanted-2 c =
    rw c.rewind.ensures
    (miss_behind c.args.on.now c.args.self.now c.args.entry c.in-AfterBehind.node c.in-AfterBehind.arm
    c.in-AfterBehind.rest c.requires.sound (rw c.if-wanted-2.true at c.in-AfterBehind.is)
    (c.in-None-arm_within.ensures).next)

pub returns-else-wanted-2 : goal.returns-else-wanted-2
returns-else-wanted-2 c =
    rw (c.rewind.ensures, c.go-else-wanted-2.ensures)
    (miss_not_behind c.args.on.now c.args.self.now c.args.entry c.in-AfterBehind.node c.in-AfterBehind.arm
    c.in-AfterBehind.rest c.requires.sound (rw c.if-wanted-2.false at c.in-AfterBehind.is)
    (c.in-None-arm_within.ensures).next)

pub returns-in-AfterAtomic : goal.returns-in-AfterAtomic
returns-in-AfterAtomic c =
    rw c.rewind.ensures (miss_atomic c.args.on.now c.args.self.now c.args.entry c.in-AfterAtomic.field-0
    c.requires.sound c.in-AfterAtomic.is)

pub returns-then-more-eq0 : goal.returns-then-more-eq0
returns-then-more-eq0 c =
    rw (c.rewind.ensures, c.go-then-more-eq0.ensures)
    (miss_last_place c.args.on.now c.args.self.now c.args.entry c.in-GiveBack.rest c.requires.sound
    (rw c.if-more-eq0.true at c.in-GiveBack.is))

pub returns-else-more-eq0 : goal.returns-else-more-eq0
returns-else-more-eq0 c =
    let one : c.in-GiveBack.more ≡ suc (c.in-GiveBack.more - 1) = omega (arith, c.if-more-eq0.false) in
    rw (c.enter-in-GiveBack.ensures, c.rewind.ensures, c.go-in-GiveBack.ensures, c.saturating_sub.ensures)
    (miss_place c.args.on.now c.args.self.now c.args.entry (c.in-GiveBack.more - 1) c.in-GiveBack.rest c.requires.sound
    (rw one at c.in-GiveBack.is))
