-- What holds of a node's tree holds of a tree that is made of such nodes.
use Rattle.std.proofs.Common.{◌≡◌, ℕ, ◌+◌, ◌<◌, ◌≤◌, ◌^◌, Option, Some}
use Rattle.std.proofs.Common.{None, arith, sym, ◌∙◌, subst, inl, inr}
use Rattle.std.proofs.lemmas.Bool.Decides.{nat_tests}
use Rattle.std.proofs.lemmas.Grind.{pow_more}
use Rattle.std.proofs.lemmas.Bool.{cases_order}
use Rattle.std.proofs.Math.Nat.{pow-le-pow_right}
use Rattle.text_pos.specs.declared.length.Length.{Length}
use Rattle.text_pos.specs.Lengths.{plus}
use Rattle.tree_defs.specs.Tree.{Tree, Bracket, Two, Three}
use Rattle.tree_defs.specs.Shape.{length_of, and_closer, height, IsEven, Fits, IsSome, room_in}
use Rattle.bracket_ast.specs.Shapes.{Sound, SoundInside, ArePair, or_nothing, closer_length, pair_of}

-- ---- room
pub some_room : (a : Length) → IsSome a → 1 ≤ room_in a
some_room a h = grind (arith, nat_tests)

pub room_some : (a : Length) → 1 ≤ room_in a → IsSome a
room_some a h = grind (arith, nat_tests)

pub some_plus : (a b : Length) → IsSome a → IsSome (plus a b)
some_plus a b h = grind (arith, nat_tests)

-- two neighbours have twice the room that each of them has at least
pub twice : (p : ℕ) (a b : Length) → p ≤ room_in a → p ≤ room_in b → Fits a → Fits b → p + p ≤ room_in (plus a b)
twice p a b ha hb fa fb = grind (arith, nat_tests)

pub more_room : (p : ℕ) (a b : Length) → p ≤ room_in a → Fits a → p ≤ room_in (plus a b)
more_room p a b ha fa = grind (arith, nat_tests)

doubled : (h : ℕ) → 2 ^ (h + 1) ≡ 2 ^ h + 2 ^ h
doubled h = pow_more 2 h ∙ omega arith

pub two_sound : (a b : Tree) → Sound a → Sound b → height a ≡ height b → Fits (length_of (Two a b)) → Sound (Two a b)
two_sound a b sa sb same fits = record {
  node = tt;
  even = (sa.node, sb.node, same, sa.even, sb.even);
  tall = let high : 2 ^ height a ≤ room_in (length_of b) =
      subst (λ h. 2 ^ h ≤ room_in (length_of b)) (sym same) sb.tall in
      let whole = twice (2 ^ height a) (length_of a) (length_of b) sa.tall high sa.fits sb.fits in
      subst (λ p. p ≤ room_in (plus (length_of a) (length_of b))) (sym (doubled (height a))) whole;
  fits = fits;
}

pub three_sound : (a b c : Tree) → Sound a → Sound b → Sound c → height a ≡ height b → height a ≡ height c
    → Fits (plus (length_of a) (length_of b)) → Fits (length_of (Three a b c)) → Sound (Three a b c)
three_sound a b c sa sb sc same_b same_c front fits = record {
  node = tt;
  even = (sa.node, sb.node, sc.node, same_b, same_c, sa.even, sb.even, sc.even);
  tall = let high : 2 ^ height a ≤ room_in (length_of c) =
      subst (λ h. 2 ^ h ≤ room_in (length_of c)) (sym same_c) sc.tall in
      let near : 2 ^ height a ≤ room_in (plus (length_of a) (length_of b)) =
      more_room (2 ^ height a) (length_of a) (length_of b) sa.tall sa.fits in
      let whole = twice (2 ^ height a) (plus (length_of a) (length_of b)) (length_of c) near high front sc.fits in
      subst (λ p. p ≤ room_in (plus (plus (length_of a) (length_of b)) (length_of c))) (sym (doubled (height a))) whole;
  fits = fits;
}

-- ---- pairs
even_inside : (inside : Option Tree) → SoundInside inside → IsEven (or_nothing inside)
even_inside None sound = tt
even_inside (Some t) sound = sound.even

some_closer : (a : Length) (closer : Option Length) → IsSome a → IsSome (and_closer a closer)
some_closer a None some = some
some_closer a (Some b) some = some_plus a b some

pub pair_sound : (opener : Tree) (inside closer : Option Tree) → ArePair opener inside closer → Sound opener
    → SoundInside inside → Fits (length_of (pair_of opener inside closer))
    → Sound (pair_of opener inside closer)
pair_sound (Bracket len kind) inside closer are so si fits = record {
  node = tt;
  even = even_inside inside si;
  tall = some_room _ (some_closer (plus len (length_of (or_nothing inside))) (closer_length closer)
      (some_plus len (length_of (or_nothing inside)) (room_some len so.tall)));
  fits = fits;
}
pair_sound _ inside closer are so si fits = absurd are

-- ---- heights are small numbers
high_room : (l : Length) → Fits l → room_in l < 2 ^ 65
high_room l fits = grind (arith, nat_tests)

pub low : (t : Tree) → Sound t → height t ≤ 64
low t s = elim (cases_order (height t) 64) [
  | inl same ↦ omega arith
  | inr other ↦ elim other [
    | inl less ↦ omega arith
    | inr more ↦ let far : 2 ^ 65 ≤ 2 ^ height t =
        pow-le-pow_right {n = 2} (omega arith) {i = 65} {j = height t} (omega arith) in
        let room = high_room (length_of t) s.fits in let tall = s.tall in absurd (omega arith)
  ]
]
