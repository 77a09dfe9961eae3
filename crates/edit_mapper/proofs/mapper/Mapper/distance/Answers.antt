use Rattle.std.proofs.Common.{Some, None, sym, ap, ◌∙◌}
use Rattle.edit_mapper.proofs.Mapping.{rise_there, stands, starts_behind_it, distance_is}
use Rattle.edit_mapper.proofs.mapper.Mapper.distance.Goals as goal

pub count_ended-requires : goal.count_ended-requires
count_ended-requires c = rise_there c.places-places.result.now c.self.inside.spans.now c.args.self.now
    c.places-places.ensures.places c.self.view_is c.places-places.ensures.order

pub rest_of-requires : goal.rest_of-requires
rest_of-requires c = starts_behind_it c.args.self.now c.places-places.result.now c.args.offset c.count_ended.result
    c.in_ok-next.next
    (stands c.places-places.result.now c.self.inside.spans.now c.args.self.now c.args.offset c.count_ended.result
    c.places-places.ensures.places c.self.view_is c.places-places.ensures.order c.count_ended.ensures.point c.count_ended.ensures.bound)
    c.requires (sym c.place_at.ensures ∙ c.in_ok-next.was)

pub returns : goal.returns
returns c = ap (λ l. Some l) c.rest_of.ensures ∙ distance_is c.args.self.now c.places-places.result.now c.args.offset
    c.count_ended.result (Some c.in_ok-next.next)
    (stands c.places-places.result.now c.self.inside.spans.now c.args.self.now c.args.offset c.count_ended.result
    c.places-places.ensures.places c.self.view_is c.places-places.ensures.order c.count_ended.ensures.point c.count_ended.ensures.bound)
    (sym c.place_at.ensures ∙ c.in_ok-next.was)

pub returns-in_err-next : goal.returns-in_err-next
returns-in_err-next c = c.from_residual.ensures ∙ distance_is c.args.self.now c.places-places.result.now c.args.offset
    c.count_ended.result None
    (stands c.places-places.result.now c.self.inside.spans.now c.args.self.now c.args.offset c.count_ended.result
    c.places-places.ensures.places c.self.view_is c.places-places.ensures.order c.count_ended.ensures.point c.count_ended.ensures.bound)
    (sym c.place_at.ensures ∙ c.in_err-next.was)
