-- A node that a reader finds is a part of its tree.
use Rattle.std.proofs.Common.{◌≡◌, ℕ, ◌+◌, ◌&&◌, ◌⊎◌, if◌then◌else◌, inl, inr, List, [], ◌∷◌, ◌++◌, Bool, true, false}
use Rattle.std.proofs.Common.{Option, Some, None, refl, sym, subst, arith}
use Rattle.std.proofs.lemmas.Bool.Decides.{nat_tests}
use Rattle.text_pos.specs.declared.length.Length.{Length}
use Rattle.text_pos.specs.declared.kinds.Kinds.{Kinds}
use Rattle.text_pos.specs.Lengths.{plus}
use Rattle.tree_defs.specs.Tree.{Tree, Nothing, Text, Bracket, Lone, Pair, Two, Three, CanBeReused}
use Rattle.tree_defs.specs.Shape.{length_of}
use Rattle.tree_defs.specs.Cuts.{IsIn}
use Rattle.tree_defs.proofs.Lengths.{same_length}
use Rattle.node_reader.specs.Starts.{is_same, is_some, here, closer_here, starting_from}
use Rattle.node_reader.specs.Asks.{IsPassing, IsFirst}
use Rattle.node_reader.specs.declared.ask.Ask.{Ask}
use Rattle.reuse_parser.specs.Reusing.{IsPart}
use Rattle.reuse_parser.specs.Reusing as part

-- the first that passes is among them, and passes
pub first_in : (ask : Ask) (ts : List Tree) (t : Tree) → IsFirst ask ts (Some t) → IsIn t ts × IsPassing ask t
first_in ask [] t is = cc
first_in ask (x ∷ ts) t (inl h) =
    let same : t ≡ x = let e = h.1 in cc in (inl same, subst (λ y. IsPassing ask y) (sym same) h.0)
first_in ask (x ∷ ts) t (inr h) = let more = first_in ask ts t h.1 in (inr more.0, more.1)

pub in_part : {X : Type 0} (x : X) (xs ys : List X) → IsIn x (xs ++ ys) → IsIn x xs ⊎ IsIn x ys
in_part x [] ys is = inr is
in_part x (y ∷ xs) ys (inl same) = inl (inl same)
in_part x (y ∷ xs) ys (inr is) = add (in_part x xs ys is)
  where
    add : IsIn x xs ⊎ IsIn x ys → IsIn x (y ∷ xs) ⊎ IsIn x ys
    add (inl h) = inl (inr h)
    add (inr h) = inr h

same_place : (a b : Length) → is_same a b ≡ true → a ≡ b
same_place a b h = same_length a b (grind (arith, nat_tests)) (grind (arith, nat_tests))

front_true : (a b : Bool) → (a && b) ≡ true → a ≡ true
front_true true b h = refl
front_true false b h = cc

-- a node that starts at a place, where that is the offset
record Here (t x : Tree) (at offset : Length) : Type 0 where
  pub same : t ≡ x
  pub there : at ≡ offset

here_is : (t x : Tree) (at offset : Length) → IsIn t (here x at offset) → Here t x at offset
here_is t x at offset is = by (is_same at offset && is_some (length_of x)) refl is
  where
    by : (b : Bool) → (is_same at offset && is_some (length_of x)) ≡ b → IsIn t (if b then x ∷ [] else [])
        → Here t x at offset
    by true h (inl same) = record {
      same = same;
      there = same_place at offset (front_true (is_same at offset) (is_some (length_of x)) h);
    }
    by true h (inr none) = absurd none
    by false h none = absurd none

pub record Part (t : Tree) (offset : Length) (x : Tree) (at : Length) (n : ℕ) : Type 0 where
  pub level : ℕ
  pub part : IsPart t offset level x at n

itself : (t x : Tree) (at offset : Length) (n : ℕ) → Here t x at offset → Part t offset x at n
itself t x at offset n h = record {
  level = n;
  part = subst (λ y. IsPart t offset n y at n) h.same (subst (λ p. IsPart t offset n t p n) (sym h.there) part.itself);
}

either : {A B C : Type 0} → (A → C) → (B → C) → A ⊎ B → C
either f g (inl a) = f a
either f g (inr b) = g b

module _ (t : Tree) (above : Kinds) (level limit : ℕ) (can : CanBeReused above level limit t) (offset : Length) where
  no_bracket : {C : Type 0} (len : Length) (kind : ℕ) (at : Length) → IsIn t (here (Bracket len kind) at offset) → C
  no_bracket len kind at is =
      let h : Here t (Bracket len kind) at offset = here_is t (Bracket len kind) at offset is in
      absurd (subst (λ y. CanBeReused above level limit y) h.same can)

  no_closer : {C : Type 0} (kind : ℕ) (closer : Option Length) (at : Length)
      → IsIn t (closer_here kind closer at offset) → C
  no_closer kind None at is = absurd is
  no_closer kind (Some len) at is = no_bracket len kind at is

  pub part_of : (x : Tree) (at : Length) (n : ℕ) → IsIn t (starting_from x at offset) → Part t offset x at n
  part_of Nothing at n is = absurd is
  part_of (Text len cut) at n is = itself t (Text len cut) at offset n (here_is t (Text len cut) at offset is)
  part_of (Bracket len kind) at n is = no_bracket len kind at is
  part_of (Lone len kinds) at n is = itself t (Lone len kinds) at offset n (here_is t (Lone len kinds) at offset is)
  part_of (Pair o k inside closer) at n is =
      let x = Pair o k inside closer in
      let last = closer_here k closer (plus (plus at o) (length_of inside)) offset in
      let inner = starting_from inside (plus at o) offset in
      either (λ h. itself t x at offset n (here_is t x at offset h))
      (λ h. either (λ b. no_bracket o k at b)
      (λ m. either (λ i. let p : Part t offset inside (plus at o) (n + 1) = part_of inside (plus at o) (n + 1) i in
      record { level = p.level; part = part.in_pair o k inside closer at n p.part })
      (λ c. no_closer k closer (plus (plus at o) (length_of inside)) c) (in_part t inner last m))
      (in_part t (here (Bracket o k) at offset) (inner ++ last) h))
      (in_part t (here x at offset) (here (Bracket o k) at offset ++ (inner ++ last)) is)
  part_of (Two a b) at n is =
      let x = Two a b in
      let first = starting_from a at offset in
      let second = starting_from b (plus at (length_of a)) offset in
      either (λ h. itself t x at offset n (here_is t x at offset h))
      (λ h. either (λ i. let p : Part t offset a at n = part_of a at n i in
      record { level = p.level; part = part.in_first a b at n p.part })
      (λ i. let p : Part t offset b (plus at (length_of a)) n = part_of b (plus at (length_of a)) n i in
      record { level = p.level; part = part.in_second a b at n p.part }) (in_part t first second h))
      (in_part t (here x at offset) (first ++ second) is)
  part_of (Three a b c) at n is =
      let x = Three a b c in
      let first = starting_from a at offset in
      let second = starting_from b (plus at (length_of a)) offset in
      let third = starting_from c (plus (plus at (length_of a)) (length_of b)) offset in
      either (λ h. itself t x at offset n (here_is t x at offset h))
      (λ h. either (λ i. let p : Part t offset a at n = part_of a at n i in
      record { level = p.level; part = part.in_front a b c at n p.part })
      (λ m. either (λ i. let p : Part t offset b (plus at (length_of a)) n = part_of b (plus at (length_of a)) n i in
      record { level = p.level; part = part.in_middle a b c at n p.part })
      (λ i. let p : Part t offset c (plus (plus at (length_of a)) (length_of b)) n =
      part_of c (plus (plus at (length_of a)) (length_of b)) n i in
      record { level = p.level; part = part.in_back a b c at n p.part }) (in_part t second third m))
      (in_part t first (second ++ third) h))
      (in_part t (here x at offset) (first ++ (second ++ third)) is)
