use Rattle.edit_mapper.proofs.Pushing.{joint_there, starts_not_before, fits_there, pushed}
use Rattle.std.proofs.Common.{◌≡◌, true, sym, subst}
use Rattle.text_pos.specs.Lengths.{plus}
use Rattle.tree_defs.specs.Ends.{fits}
use Rattle.edit_mapper.proofs.spans.Spans.push.Goals as goal

pub carried-requires-clause-behind : goal.carried-requires-clause-behind
carried-requires-clause-behind c =
    starts_not_before c.joint_behind-joint.result c.args.self.now c.args.change
    (joint_there c.self.inside.places.items c.as_slice.result.now c.len.result _ c.args.self.now c.joint_behind-joint.result
    c.self.invariant c.as_slice.ensures.value c.as_slice.ensures.len c.len.ensures c.self.view_is c.joint_behind-joint.ensures)
    c.requires.order

pub carried-requires-clause-fits : goal.carried-requires-clause-fits
carried-requires-clause-fits c =
    (fits_there c.joint_behind-joint.result c.args.self.now c.args.change
    (joint_there c.self.inside.places.items c.as_slice.result.now c.len.result _ c.args.self.now c.joint_behind-joint.result
    c.self.invariant c.as_slice.ensures.value c.as_slice.ensures.len c.len.ensures c.self.view_is c.joint_behind-joint.ensures)
    c.requires.fits).from

pub sum-requires : goal.sum-requires
sum-requires c =
    (fits_there c.joint_behind-joint.result c.args.self.now c.args.change
    (joint_there c.self.inside.places.items c.as_slice.result.now c.len.result _ c.args.self.now c.joint_behind-joint.result
    c.self.invariant c.as_slice.ensures.value c.as_slice.ensures.len c.len.ensures c.self.view_is c.joint_behind-joint.ensures)
    c.requires.fits).end

pub sum-requires-2 : goal.sum-requires-2
sum-requires-2 c = subst (λ l. fits (plus l c.args.change.new) ≡ true) (sym c.carried.ensures)
    (fits_there c.joint_behind-joint.result c.args.self.now c.args.change
    (joint_there c.self.inside.places.items c.as_slice.result.now c.len.result _ c.args.self.now c.joint_behind-joint.result
    c.self.invariant c.as_slice.ensures.value c.as_slice.ensures.len c.len.ensures c.self.view_is c.joint_behind-joint.ensures)
    c.requires.fits).to

pub invariant_of-self-2 : goal.invariant_of-self-2
invariant_of-self-2 c = pushed c.self.inside.places.items c.push.new.self.items c.args.self.now c.joint_behind-joint.result
    c.args.change c.carried.result c.sum.result c.sum-2.result c.self.invariant c.self.view_is
    (joint_there c.self.inside.places.items c.as_slice.result.now c.len.result _ c.args.self.now c.joint_behind-joint.result
    c.self.invariant c.as_slice.ensures.value c.as_slice.ensures.len c.len.ensures c.self.view_is c.joint_behind-joint.ensures)
    c.requires.order c.requires.fits c.carried.ensures c.sum.ensures c.sum-2.ensures c.in_ok-push.ensures.items
