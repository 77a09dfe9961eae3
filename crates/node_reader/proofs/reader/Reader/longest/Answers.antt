use Rattle.std.proofs.Common.{◌≡◌, refl, false, sym, ap, ◌∙◌, subst, inl, inr}
use Rattle.std.proofs.lemmas.Bool.{true≢false}
use Rattle.text_pos.specs.Lengths.{plus}
use Rattle.tree_defs.specs.Shape.{length_of}
use Rattle.node_reader.specs.Paths.{root_of, offset_of}
use Rattle.node_reader.specs.Reaching.{IsFor, IsAt}
use Rattle.bracket_ast.specs.Shapes.{or_nothing}
use Rattle.node_reader.proofs.Orders.{is_less, not_less_is}
use Rattle.node_reader.proofs.Children.{none_beyond}
use Rattle.node_reader.proofs.reader.Reader.longest.Goals as goal

pub returns-then-not-leave-clause-answer : goal.returns-then-not-leave-clause-answer
returns-then-not-leave-clause-answer c =
    let at : IsAt (or_nothing c.self.inside.tree.now.root) c.self.inside.reached c.in-Some.place =
    subst (λ p. IsFor (or_nothing c.self.inside.tree.now.root) c.self.inside.reached p) c.in-Some.is c.self.invariant in
    let root : root_of c.go_on.new.place ≡ c.args.self.now.tree =
    c.go_on.ensures.root ∙ at.root ∙ ap (λ v. v.tree) c.self.view_is in
    let offset : offset_of c.go_on.new.place ≡ c.args.offset =
    c.go_on.ensures.offset ∙ ap (λ o. plus o c.minus-by.result) at.lies ∙ c.minus-by.ensures.sum in
    let beyond : is_less c.args.offset (length_of c.args.self.now.tree) ≡ false =
    not_less_is c.args.offset (length_of c.args.self.now.tree)
    (rw (sym offset, sym root) (elim c.leave.ensures.behind [
      | inl left ↦ absurd (true≢false (sym left ∙ c.if-not-leave.true))
      | inr ends ↦ ends
    ])) in
    rw (none_beyond c.args.self.now.tree c.args.offset beyond) refl
