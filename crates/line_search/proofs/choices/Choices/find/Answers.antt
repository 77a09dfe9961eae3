use Rattle.std.proofs.Common.{ℕ, ◌≤◌, List, map, subst, sym}
use Rattle.std.specs.Prelude.{All}
use Rattle.pattern_defs.specs.declared.outcomes.Flags.{Flags}
use Rattle.pattern_defs.specs.declared.outcomes.Found.TheVariants as found
use Rattle.line_defs.specs.Search.{Sight}
use Rattle.line_search.specs.Choices.{HaveRoom, choice_of_owned}
use Rattle.line_search.proofs.Rooms.{trees_have_room, choices_low}
use Rattle.line_search.proofs.Ties.{Tells, tells-owned, match-owned}
use Rattle.line_search.proofs.choices.Choices.find.Goals as goal
use Rattle.line_search.proofs.choices.Choices.find.Goals.{In-Nowhere, In-Spent}

abbrev seen : (text : List ℕ) (place : ℕ) → Flags → (budget : ℕ) → Sight
seen text place flags budget = record { text = text; place = place; flags = flags; budget = budget }

pub find-requires-clause-room : goal.find-requires-clause-room
find-requires-clause-room c =
    let seen : HaveRoom c.args.work.now.room (map choice_of_owned c.self.inside.owned.items) =
    subst (HaveRoom c.args.work.now.room) (sym c.self.view_is) c.requires.room in
    subst (All (λ tree. tree.groups ≤ c.args.work.now.room)) (sym c.self.invariant)
    (trees_have_room c.args.work.now.room c.self.inside.owned.items seen)

-- ---- nothing

nowhere : (c : In-Nowhere)
    → Tells (seen c.args.text.now c.args.from c.args.flags c.args.work.now.budget) c.args.self.now found.Nowhere
    c.find.new.work.hit
nowhere c =
    tells-owned (seen c.args.text.now c.args.from c.args.flags c.args.work.now.budget) c.self.inside.owned.items
    c.self.inside.scanner c.args.self.now found.Nowhere c.args.work.now c.find.new.work c.has_codes.ensures
    c.self.invariant c.self.view_is c.in-Nowhere.ensures.found c.in-Nowhere.ensures.work

pub returns-in-Nowhere-clause-found : goal.returns-in-Nowhere-clause-found
returns-in-Nowhere-clause-found c = sym (nowhere c).0

pub returns-in-Nowhere-clause-place : goal.returns-in-Nowhere-clause-place
returns-in-Nowhere-clause-place c = sym (nowhere c).1

-- ---- a spent attempt

spent : (c : In-Spent)
    → Tells (seen c.args.text.now c.args.from c.args.flags c.args.work.now.budget) c.args.self.now
    (found.Spent c.in-Spent.index c.in-Spent.at) c.find.new.work.hit
spent c =
    tells-owned (seen c.args.text.now c.args.from c.args.flags c.args.work.now.budget) c.self.inside.owned.items
    c.self.inside.scanner c.args.self.now (found.Spent c.in-Spent.index c.in-Spent.at) c.args.work.now
    c.find.new.work c.has_codes.ensures c.self.invariant c.self.view_is c.in-Spent.ensures.found
    c.in-Spent.ensures.work

pub returns-in-Spent-clause-found : goal.returns-in-Spent-clause-found
returns-in-Spent-clause-found c =
    sym (spent c (choices_low c.self.inside.owned.items c.self.inside.scanner c.args.self.now c.in-Spent.index
    c.self.invariant c.self.view_is c.in-Spent.ensures.names.0)).0

pub returns-in-Spent-clause-place : goal.returns-in-Spent-clause-place
returns-in-Spent-clause-place c =
    sym (spent c (choices_low c.self.inside.owned.items c.self.inside.scanner c.args.self.now c.in-Spent.index
    c.self.invariant c.self.view_is c.in-Spent.ensures.names.0)).1

-- ---- a match

pub returns-in-Some-clause-found : goal.returns-in-Some-clause-found
returns-in-Some-clause-found c =
    (match-owned (seen c.args.text.now c.args.from c.args.flags c.args.work.now.budget)
    c.self.inside.owned.items c.self.inside.scanner c.args.self.now c.in-At.index c.index.result.now c.in-Some.whole
    c.args.work.now c.find.new.work c.has_codes.ensures c.self.invariant c.self.view_is c.in-At.ensures.found
    c.in-At.ensures.work c.in-At.ensures.names c.in-Some.ensures c.index.ensures).found

pub returns-in-Some-clause-place : goal.returns-in-Some-clause-place
returns-in-Some-clause-place c =
    (match-owned (seen c.args.text.now c.args.from c.args.flags c.args.work.now.budget)
    c.self.inside.owned.items c.self.inside.scanner c.args.self.now c.in-At.index c.index.result.now c.in-Some.whole
    c.args.work.now c.find.new.work c.has_codes.ensures c.self.invariant c.self.view_is c.in-At.ensures.found
    c.in-At.ensures.work c.in-At.ensures.names c.in-Some.ensures c.index.ensures).place

pub returns-in-Some-clause-owner : goal.returns-in-Some-clause-owner
returns-in-Some-clause-owner c =
    (match-owned (seen c.args.text.now c.args.from c.args.flags c.args.work.now.budget)
    c.self.inside.owned.items c.self.inside.scanner c.args.self.now c.in-At.index c.index.result.now c.in-Some.whole
    c.args.work.now c.find.new.work c.has_codes.ensures c.self.invariant c.self.view_is c.in-At.ensures.found
    c.in-At.ensures.work c.in-At.ensures.names c.in-Some.ensures c.index.ensures).owner
