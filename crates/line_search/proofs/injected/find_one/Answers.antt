use Rattle.std.proofs.Common.{◌≡◌, map, ap, sym, ◌∙◌, subst, arith}
use Rattle.std.proofs.lemmas.List.{length-map}
use Rattle.line_defs.specs.Search.{Sight, scan}
use Rattle.line_search.specs.Choices.{HaveRoom, HaveOwners}
use Rattle.line_search.specs.Prepared.{prepared_at}
use Rattle.line_search.specs.Asking.{prepared_of}
use Rattle.line_search.proofs.Injecting.{prepared_at_is, room_at}
use Rattle.line_search.proofs.injected.find_one.Goals as goal

pub find-requires-clause-room : goal.find-requires-clause-room
find-requires-clause-room c =
    let same : (prepared_at (map prepared_of c.args.ready.now) c.args.number).choices ≡ c.deref.result.now =
    ap (λ p. p.choices) (prepared_at_is c.args.ready.now c.args.number c.index-ready-number.result c.requires.number)
    ∙ sym c.deref.ensures in
    subst (HaveRoom c.args.work.now.room) same
    (room_at c.args.work.now.room (map prepared_of c.args.ready.now) c.args.number
    (omega (arith, c.requires.number, length-map c.args.ready.now prepared_of)) c.requires.room)

pub returns-clause-found : goal.returns-clause-found
returns-clause-found c =
    let same : (prepared_at (map prepared_of c.args.ready.now) c.args.number).choices ≡ c.deref.result.now =
    ap (λ p. p.choices) (prepared_at_is c.args.ready.now c.args.number c.index-ready-number.result c.requires.number)
    ∙ sym c.deref.ensures in
    let s : Sight = record {
      text = c.args.text.now;
      place = c.args.from;
      flags = c.args.flags;
      budget = c.args.work.now.budget;
    } in
    c.find.ensures.found ∙ ap (scan s) (sym same)

pub returns-clause-owner : goal.returns-clause-owner
returns-clause-owner c =
    let same : (prepared_at (map prepared_of c.args.ready.now) c.args.number).choices ≡ c.deref.result.now =
    ap (λ p. p.choices) (prepared_at_is c.args.ready.now c.args.number c.index-ready-number.result c.requires.number)
    ∙ sym c.deref.ensures in
    λ rules owners. c.find.ensures.owner rules (subst (HaveOwners rules) same owners)
