-- What a node's fields are seen as, and what they keep.
use Rattle.std.specs.Prelude.{◌≡◌, ℕ, Bool}
use Rattle.text_pos.specs.declared.length.Length.{Length}
use Rattle.text_pos.specs.declared.kinds.Kinds.{Kinds}
use Rattle.text_pos.specs.KindSet.{has_kind}
use Rattle.tree_defs.specs.Tree.{Tree, Text, Bracket, Lone, depth, is_cut, is_bare, misses}
use Rattle.tree_defs.specs.Shape.{length_of, height}
use Rattle.bracket_ast.specs.Shapes.{pair_of, list_of, IsPair, IsList, Sound}
use Rattle.bracket_ast.specs.declared.node.Inner.{Inner}
use Rattle.bracket_ast.specs.declared.node.Parts.{Parts}
use Rattle.bracket_ast.specs.declared.node.Parts.TheVariants as parts

abbrev pub made : Length → Bool → Kinds → Parts → Tree
made len cut missing parts.Text = Text len cut
made len cut missing (parts.Bracket kind) = Bracket len kind
made len cut missing parts.Unexpected = Lone len missing
made len cut missing (parts.Pair opener inside closer) = pair_of opener inside closer
made len cut missing (parts.Two both) = list_of both
made len cut missing (parts.Three all) = list_of all

abbrev pub tree_of : Inner → Tree
tree_of i = made i.extent i.cut i.missing i.parts

abbrev pub IsMade : Parts → Type 0
IsMade parts.Text = Unit {0}
IsMade (parts.Bracket kind) = Unit {0}
IsMade parts.Unexpected = Unit {0}
IsMade (parts.Pair opener inside closer) = IsPair opener inside closer
IsMade (parts.Two both) = IsList both
IsMade (parts.Three all) = IsList all

pub record Keeps (i : Inner) : Type 0 where
  pub made : IsMade i.parts
  pub extent : i.extent ≡ length_of (tree_of i)
  pub height : i.height ≡ height (tree_of i)
  pub depth : i.depth ≡ depth (tree_of i)
  pub cut : i.cut ≡ is_cut (tree_of i)
  pub bare : i.bare ≡ is_bare (tree_of i)
  pub missing : (k : ℕ) → has_kind i.missing k ≡ misses (tree_of i) k
  pub sound : Sound (tree_of i)
