use Rattle.std.proofs.Common.{◌≡◌, ◌∙◌, sym, ap, subst, Option, Some, None, List, true}
use Rattle.text_pos.specs.declared.length.Length.{Length}
use Rattle.text_pos.specs.Lengths.{IsLess}
use Rattle.change_defs.specs.declared.Change.{Change}
use Rattle.change_defs.specs.Changes.{before, are_in_order, is_less, origin}
use Rattle.change_laws.proofs.PlaceLaws.{origins_rise, outside_and_origin}
use Rattle.node_reader.specs.Asks as asks
use Rattle.node_reader.specs.Reading.{Reading}
use Rattle.tree_defs.specs.Rows.{start}
use Rattle.tree_defs.specs.Shape.{length_of}
use Rattle.reuse_parser.specs.Reusing.{HasRoom}
use Rattle.reuse_parser.proofs.AheadOf.{up_to_itself}
use Rattle.reuse_parser.proofs.Moved.{not_is_less, is_less_not}
use Rattle.reuse_parser.proofs.Starting.{first_in, part_of}
use Rattle.reuse_parser.proofs.Passed.{none_passes}
use Rattle.reuse_parser.proofs.old.node_at.Goals as goal

-- the old places of later places lie behind that of a place
old_rises : (cs : List Change) (at old to from : Length) → are_in_order cs ≡ true → before cs at ≡ Some old
    → ¬ IsLess to at → before cs to ≡ Some from → ¬ IsLess from old
old_rises cs at old to from order here later there =
    let a = outside_and_origin cs at old here in
    let b = outside_and_origin cs to from there in
    is_less_not from old (ap (λ p. is_less p old) (sym b.1)
    ∙ ap (λ p. is_less (origin cs to) p) (sym a.1)
    ∙ origins_rise cs at to order a.0 (not_is_less to at later))

room_is : (r : Option Length) (len : Length) → asks.HasRoom r len → HasRoom r len
room_is None len room = tt
room_is (Some r) len room = room

pub longest-requires : goal.longest-requires
longest-requires c = c.requires.ready c.args.at c.in_ok-offset.offset (up_to_itself c.args.at)
    (sym c.in_ok-offset.ensures)

pub returns-in_err-node-clause-ready : goal.returns-in_err-node-clause-ready
returns-in_err-node-clause-ready c = λ to from later there.
    subst (λ (p : Length). ¬ IsLess from p) (sym (ap (λ (r : Reading). r.reached) c.longest.ensures.reached))
    (old_rises c.args.old.now.mapper c.args.at c.in_ok-offset.offset to from c.requires.order
    (sym c.in_ok-offset.ensures) later there)

pub returns-then-is_bare-clause-ready : goal.returns-then-is_bare-clause-ready
returns-then-is_bare-clause-ready c = λ to from later there.
    subst (λ (p : Length). ¬ IsLess from p) (sym (ap (λ (r : Reading). r.reached) c.longest.ensures.reached))
    (old_rises c.args.old.now.mapper c.args.at c.in_ok-offset.offset to from c.requires.order
    (sym c.in_ok-offset.ensures) later there)

pub returns-else-is_bare-clause-ready : goal.returns-else-is_bare-clause-ready
returns-else-is_bare-clause-ready c = λ to from later there.
    subst (λ (p : Length). ¬ IsLess from p) (sym (ap (λ (r : Reading). r.reached) c.longest.ensures.reached))
    (old_rises c.args.old.now.mapper c.args.at c.in_ok-offset.offset to from c.requires.order
    (sym c.in_ok-offset.ensures) later there)

pub returns-else-is_bare-clause-found : goal.returns-else-is_bare-clause-found
returns-else-is_bare-clause-found c =
    let found = first_in _ _ c.in_ok-node.node.now (rw c.in_ok-node.was at c.longest.ensures.answer) in
    let p = part_of c.in_ok-node.node.now c.args.around.above c.args.around.level c.args.around.limit found.1.1
    c.in_ok-offset.offset c.args.old.now.reader.tree start 0 found.0 in record {
      from = c.in_ok-offset.offset;
      level = p.level;
      is = sym c.in_ok-offset.ensures;
      part = p.part;
      room = room_is _ _ (subst (λ r. asks.HasRoom r (length_of c.in_ok-node.node.now)) c.distance-room.ensures
          found.1.0);
      can = found.1.1;
      some = sym c.is_bare.ensures ∙ c.if-is_bare.false;
    }

pub returns-in_err-node-clause-none : goal.returns-in_err-node-clause-none
returns-in_err-node-clause-none c = λ none.
    none_passes c.args.old.now.reader.tree c.args.old.now.mapper c.args.around c.args.at c.in_ok-offset.offset
    c.distance-room.result None (sym c.in_ok-offset.ensures) c.distance-room.ensures
    (rw c.in_err-node.was at c.longest.ensures.answer) tt

pub returns-then-is_bare-clause-none : goal.returns-then-is_bare-clause-none
returns-then-is_bare-clause-none c = λ none.
    none_passes c.args.old.now.reader.tree c.args.old.now.mapper c.args.around c.args.at c.in_ok-offset.offset
    c.distance-room.result (Some c.in_ok-node.node.now) (sym c.in_ok-offset.ensures) c.distance-room.ensures
    (rw c.in_ok-node.was at c.longest.ensures.answer) (sym c.is_bare.ensures ∙ c.if-is_bare.true)
