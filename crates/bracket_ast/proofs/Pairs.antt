-- The fields of a pair keep what a node's fields keep.
use Rattle.std.proofs.Common.{◌≡◌, ℕ, ◌+◌, Bool, false, Option, Some, None, refl}
use Rattle.text_pos.specs.declared.length.Length.{Length}
use Rattle.text_pos.specs.declared.kinds.Kinds.{Kinds}
use Rattle.text_pos.specs.KindSet.{has_kind}
use Rattle.text_pos.specs.Lengths.{plus}
use Rattle.tree_defs.specs.Tree.{Tree, Bracket, depth, is_cut, misses}
use Rattle.tree_defs.specs.Shape.{length_of, and_closer, Fits}
use Rattle.bracket_ast.specs.Shapes.{Sound, SoundInside, ArePair, IsInside, or_nothing, closer_length, pair_of}
use Rattle.bracket_ast.specs.View.{Keeps}
use Rattle.bracket_ast.specs.declared.node.Parts.TheVariants as parts
use Rattle.bracket_ast.proofs.Sound.{pair_sound}

is_inside : (inside : Option Tree) → SoundInside inside → IsInside inside
is_inside None sound = tt
is_inside (Some t) sound = sound.node

pub pair_keeps : (opener : Tree) (inside closer : Option Tree) (extent : Length) (deep : ℕ) (cut : Bool)
    (missing : Kinds)
    → ArePair opener inside closer → Sound opener → SoundInside inside → Fits (length_of (pair_of opener inside closer))
    → extent ≡ and_closer (plus (length_of opener) (length_of (or_nothing inside))) (closer_length closer)
    → deep ≡ depth (or_nothing inside) + 1 → cut ≡ is_cut (or_nothing inside)
    → ((k : ℕ) → has_kind missing k ≡ misses (or_nothing inside) k)
    → Keeps (record {
      extent = extent;
      height = 0;
      depth = deep;
      cut = cut;
      bare = false;
      missing = missing;
      parts =
          parts.Pair opener inside closer;
    })
pair_keeps (Bracket len kind) inside closer extent deep cut missing are so si fits is_extent is_deep is_cut
    are_missing = record {
      made = (is_inside inside si, are);
      extent = is_extent;
      height = refl;
      depth = is_deep;
      cut = is_cut;
      bare = refl;
      missing = are_missing;
      sound = pair_sound (Bracket len kind) inside closer are so si fits;
    }
pair_keeps _ inside closer extent deep cut missing are so si fits is_extent is_deep is_cut are_missing = absurd are
