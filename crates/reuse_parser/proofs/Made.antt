-- Which tree a pair is that is made of nodes.
use Rattle.std.proofs.Common.{◌≡◌, ℕ, Option, Some, None, Bor, ap, ◌∙◌}
use Rattle.std.specs.Option.{option_copied}
use Rattle.text_pos.specs.declared.length.Length.{Length}
use Rattle.tree_defs.specs.Tree.{Tree, Bracket, Pair}
use Rattle.tree_defs.specs.Shape.{length_of}
use Rattle.bracket_ast.specs.Shapes.{or_nothing, nows, pair_of}

-- what a borrowed root is
borrowed : (o : Option (Bor Tree)) (root : Option Tree) → option_copied o ≡ root → nows o ≡ root
borrowed None root h = h
borrowed (Some t) root h = h

pub pair_is : (node opener closer : Tree) (inside : Option (Bor Tree)) (root : Option Tree) (len : Length) (kind : ℕ)
    (last : Length)
    → node ≡ pair_of opener (nows inside) (Some closer) → opener ≡ Bracket len kind → closer ≡ Bracket last kind
    → option_copied inside ≡ root → node ≡ Pair len kind (or_nothing root) (Some last)
pair_is node opener closer inside root len kind last is opens closes same =
    is ∙ ap (λ o. pair_of o (nows inside) (Some closer)) opens ∙ ap (λ x. Pair len kind (or_nothing (nows inside))
    (Some (length_of x))) closes
    ∙ ap (λ r. Pair len kind (or_nothing r) (Some last)) (borrowed inside root same)

pub left_is : (node opener : Tree) (inside : Option (Bor Tree)) (root : Option Tree) (len : Length) (kind : ℕ)
    → node ≡ pair_of opener (nows inside) None → opener ≡ Bracket len kind → option_copied inside ≡ root
    → node ≡ Pair len kind (or_nothing root) None
left_is node opener inside root len kind is opens same =
    is ∙ ap (λ o. pair_of o (nows inside) None) opens ∙ ap (λ r. Pair len kind (or_nothing r) None)
    (borrowed inside root same)
