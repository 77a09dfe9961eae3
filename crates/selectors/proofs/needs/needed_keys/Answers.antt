use Rattle.std.proofs.Common.{◌≡◌, [], ◌++◌, drop, sym, ◌∙◌, ap}
use Rattle.std.proofs.lemmas.List.{drop_all, append-nil}
use Rattle.selectors.specs.Needs.{keys_behind, most_of}
use Rattle.selectors.proofs.Covering.{signs_need}
use Rattle.selectors.proofs.needs.needed_keys.Goals as goal

pub returns-in-Fails : goal.returns-in-Fails
returns-in-Fails c =
    let end : drop c.loop-sign.sign-index c.args.signs.now ≡ [] =
    drop_all c.loop-sign.sign-index c.args.signs.now c.loop-sign-test.false in
    signs_need c.args.signs.now c.loop-sign.needed c.in-Fails.inside
    (sym (append-nil c.loop-sign.needed)
    ∙ (ap (λ signs. c.loop-sign.needed ++ keys_behind signs c.loop-sign.most) (sym end) ∙ c.loop-sign.invariant.keys))
    (sym c.loop-sign.invariant.most ∙ (ap (λ signs. most_of signs c.loop-sign.most) end ∙ c.in-Fails.is))
