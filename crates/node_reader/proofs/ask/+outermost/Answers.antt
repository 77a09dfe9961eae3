use Rattle.std.proofs.Common.{◌≡◌, ◌∷◌, sym, ap, ◌∙◌, inl, inr, refl}
use Rattle.std.proofs.lemmas.Bool.{true≢false}
use Rattle.tree_defs.specs.Shape.{no_length}
use Rattle.node_reader.specs.Starts.{starting}
use Rattle.node_reader.proofs.Orders.{less_is, some_is, none_of_both}
use Rattle.node_reader.proofs.Children.{first_here, outer}
use Rattle.node_reader.proofs.ask.+outermost.Goals as goal

pub returns-then-passes : goal.returns-then-passes
returns-then-passes t c =
    rw (first_here c.args.node.now (some_is _ c.requires)) (inl (c.passes.ensures.0 c.if-passes.true, refl))

pub returns-in-Some : goal.returns-in-Some
returns-in-Some t c =
    let p = c.in-Some.part in
    let held = c.in-Some.ensures in
    let start : p.rest ≡ no_length = none_of_both _ p.rest held.lies in
    let are : starting c.args.node.now no_length ≡ c.args.node.now ∷ starting p.node.now no_length =
    outer c.args.node.now p.number p.node.now p.rest held.is (less_is p.rest _ held.within) (some_is _ c.requires)
    held.lies ∙ ap (λ o. c.args.node.now ∷ starting p.node.now o) start in
    rw are (inr (λ can. true≢false (sym (c.passes.ensures.1 can) ∙ c.if-passes.false), c.outermost.ensures))
