use Rattle.edit_mapper.proofs.Mapping.{rise_there, stands, none_inside, old_place, not_before_joint}
use Rattle.edit_mapper.proofs.mapper.Mapper.before.Goals as goal

pub count_ended-ended-requires : goal.count_ended-ended-requires
count_ended-ended-requires c = rise_there c.places-places.result.now c.self.inside.spans.now c.args.self.now
    c.places-places.ensures.places c.self.view_is c.places-places.ensures.order

pub returns-then-starts_before : goal.returns-then-starts_before
returns-then-starts_before c = none_inside c.args.self.now c.places-places.result.now c.args.offset c.count_ended-ended.result
    c.starts_before.result
    (stands c.places-places.result.now c.self.inside.spans.now c.args.self.now c.args.offset c.count_ended-ended.result
    c.places-places.ensures.places c.self.view_is c.places-places.ensures.order c.count_ended-ended.ensures.point c.count_ended-ended.ensures.bound)
    c.starts_before.ensures c.if-starts_before.true

pub rest_of-requires : goal.rest_of-requires
rest_of-requires c = not_before_joint c.args.self.now c.places-places.result.now c.args.offset c.count_ended-ended.result
    c.joint_behind-joint.result
    (stands c.places-places.result.now c.self.inside.spans.now c.args.self.now c.args.offset c.count_ended-ended.result
    c.places-places.ensures.places c.self.view_is c.places-places.ensures.order c.count_ended-ended.ensures.point c.count_ended-ended.ensures.bound)
    c.joint_behind-joint.ensures

pub returns : goal.returns
returns c = old_place c.args.self.now c.places-places.result.now c.args.offset c.count_ended-ended.result
    c.starts_before.result c.joint_behind-joint.result c.rest_of.result c.checked_sum.result
    (stands c.places-places.result.now c.self.inside.spans.now c.args.self.now c.args.offset c.count_ended-ended.result
    c.places-places.ensures.places c.self.view_is c.places-places.ensures.order c.count_ended-ended.ensures.point c.count_ended-ended.ensures.bound)
    c.starts_before.ensures c.if-starts_before.false c.joint_behind-joint.ensures c.rest_of.ensures c.checked_sum.ensures
