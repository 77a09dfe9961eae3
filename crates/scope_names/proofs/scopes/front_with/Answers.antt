use Rattle.std.proofs.Common.{◌<◌, length, sym, ◌∙◌, ap, arith}
use Rattle.scope_names.specs.declared.scopes.Pushed.{Pushed}
use Rattle.scope_names.proofs.Fronts.{shown_names, name_below, front_below}
use Rattle.scope_names.proofs.scopes.front_with.Goals as goal

pub loop-at-preserved : goal.loop-at-preserved
loop-at-preserved c =
    let p = c.deref-in-Some.result.now in
    let is = shown_names c.at.inside.top c.loop-at.at.now c.in-Some.pushed p c.at.view_is c.in-Some.is
    c.deref-in-Some.ensures in
    let count = ap (λ (q : Pushed). length q.below) (c.deref.ensures ∙ sym c.deref-in-Some.ensures) in
    let lt : c.args.n < length p.below = omega (arith, c.len-below.ensures.count, count) in
    record {
      within = lt;
      name = name_below p c.loop-at.at.now c.args.scopes.now c.args.n is lt c.loop-at.invariant.name;
      front = front_below p c.loop-at.at.now c.args.scopes.now c.args.n is lt c.loop-at.invariant.front;
    }
