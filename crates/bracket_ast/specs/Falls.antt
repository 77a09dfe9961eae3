-- The parts of a node are smaller than the node.
use Rattle.std.specs.Prelude.{◌≡◌, ℕ, ◌≤◌, Bool, List, [], ◌∷◌, Option, Some, None}
use Rattle.std.proofs.Common.{arith, refl}
use Rattle.text_pos.specs.declared.length.Length.{Length}
use Rattle.text_pos.specs.declared.kinds.Kinds.{Kinds}
use Rattle.tree_defs.specs.Tree.{Tree, Bracket}
use Rattle.bracket_ast.specs.Weight.{weight}
use Rattle.bracket_ast.specs.View.{made, IsMade}
use Rattle.bracket_ast.specs.Shapes.{IsBracket, IsPair, IsList, pair_of, list_of}
use Rattle.bracket_ast.specs.declared.node.Parts.{Parts}
use Rattle.bracket_ast.specs.declared.node.Parts.TheVariants as parts
use Rattle.bracket_ast.specs.declared.node.Node.TheDeep.{deep-Parts}

one_part : (kind : ℕ) (t : Tree) → IsBracket kind t → weight t ≡ 1
one_part kind (Bracket len other) is = refl
one_part kind _ is = absurd is

pair_falls : (o : Tree) (i c : Option Tree) → IsPair o i c → deep-Parts (parts.Pair o i c) ≤ weight (pair_of o i c)
pair_falls (Bracket len kind) None None is = omega arith
pair_falls (Bracket len kind) (Some i) None is = omega arith
pair_falls (Bracket len kind) None (Some c) is = let h = one_part kind c is.1 in omega arith
pair_falls (Bracket len kind) (Some i) (Some c) is = let h = one_part kind c is.1 in omega arith
pair_falls _ i c is = absurd is

two_fall : (all : List Tree) → IsList all → deep-Parts (parts.Two all) ≤ weight (list_of all)
two_fall (a ∷ b ∷ []) is = omega arith
two_fall (a ∷ b ∷ c ∷ []) is = omega arith
two_fall _ is = absurd is

three_fall : (all : List Tree) → IsList all → deep-Parts (parts.Three all) ≤ weight (list_of all)
three_fall (a ∷ b ∷ []) is = omega arith
three_fall (a ∷ b ∷ c ∷ []) is = omega arith
three_fall _ is = absurd is

pub parts_fall : (len : Length) (cut : Bool) (missing : Kinds) (p : Parts) → IsMade p
    → deep-Parts p ≤ weight (made len cut missing p)
parts_fall len cut missing parts.Text is = omega arith
parts_fall len cut missing (parts.Bracket kind) is = omega arith
parts_fall len cut missing parts.Unexpected is = omega arith
parts_fall len cut missing (parts.Pair opener inside closer) is = pair_falls opener inside closer is
parts_fall len cut missing (parts.Two both) is = two_fall both is
parts_fall len cut missing (parts.Three all) is = three_fall all is
