-- How a part of a tree and a closed pair of the tree lie to each other: apart, or one in the other.
use Rattle.std.proofs.Common.{◌≡◌, ℕ, ◌+◌, ◌&&◌, ◌⊎◌, inl, inr, List, [], ◌∷◌, ◌++◌, Bool, true, false, Some, None}
use Rattle.std.proofs.Common.{if◌then◌else◌, refl, sym, subst, arith}
use Rattle.std.proofs.lemmas.Bool.Decides.{nat_tests}
use Rattle.text_pos.specs.declared.length.Length.{Length}
use Rattle.text_pos.specs.Lengths.{plus, IsLess}
use Rattle.tree_defs.specs.Tree.{Tree, Nothing, Text, Bracket, Lone, Pair, Two, Three, is_bare}
use Rattle.tree_defs.specs.Shape.{length_of}
use Rattle.tree_defs.specs.Items.{Items, end, text, lone, pair, unclosed, stray, unclosed_then, items_then}
use Rattle.tree_defs.specs.Cuts.{IsIn}
use Rattle.tree_defs.specs.Ends.{EndAt, IsInLine}
use Rattle.tree_defs.proofs.Lengths.{plus_assoc}
use Rattle.node_reader.specs.Starts.{is_same, is_some, here, starting_from}
use Rattle.reuse_defs.specs.Settled.{ClosedPair, closed_pairs, node_of, end_of_pair}
use Rattle.reuse_parser.specs.Reusing.{IsPart}
use Rattle.reuse_parser.specs.Reusing as part
use Rattle.reuse_parser.proofs.AheadOf.{up_to, up_to_itself, from_plus}
use Rattle.reuse_parser.proofs.Reused.{Ended, ended}
use Rattle.reuse_parser.proofs.Starting.{in_part}
use Rattle.reuse_parser.proofs.Within.{part_from, part_up_to, three_long}

either : {A B C : Type 0} → (A → C) → (B → C) → A ⊎ B → C
either f g (inl a) = f a
either f g (inr b) = g b

pub in_front : {X : Type 0} (x : X) (xs ys : List X) → IsIn x xs → IsIn x (xs ++ ys)
in_front x [] ys is = absurd is
in_front x (y ∷ xs) ys (inl same) = inl same
in_front x (y ∷ xs) ys (inr is) = inr (in_front x xs ys is)

pub in_back : {X : Type 0} (x : X) (xs ys : List X) → IsIn x ys → IsIn x (xs ++ ys)
in_back x [] ys is = is
in_back x (y ∷ xs) ys is = inr (in_back x xs ys is)

-- a pair lies in its tree
pub record Lies (t : Tree) (at : Length) (p : ClosedPair) : Type 0 where
  pub from : ¬ IsLess p.from at
  pub up : ¬ IsLess (plus at (length_of t)) (end_of_pair p)

lies_in : (t u : Tree) (at from : Length) (p : ClosedPair) → ¬ IsLess from at
    → ¬ IsLess (plus at (length_of t)) (plus from (length_of u)) → Lies u from p → Lies t at p
lies_in t u at from p low high l = record {
  from = up_to at from p.from low l.from;
  up = up_to (end_of_pair p) (plus from (length_of u)) (plus at (length_of t)) l.up high;
}

first_up : (a b : Tree) (at : Length) → ¬ IsLess (plus at (length_of (Two a b))) (plus at (length_of a))
first_up a b at = subst (λ q. ¬ IsLess q (plus at (length_of a))) (plus_assoc at (length_of a) (length_of b))
    (from_plus (plus at (length_of a)) (length_of b))

second_up : (a b : Tree) (at : Length)
    → ¬ IsLess (plus at (length_of (Two a b))) (plus (plus at (length_of a)) (length_of b))
second_up a b at = subst (λ q. ¬ IsLess q (plus (plus at (length_of a)) (length_of b)))
    (plus_assoc at (length_of a) (length_of b)) (up_to_itself (plus (plus at (length_of a)) (length_of b)))

three_up : (a b c : Tree) (at p : Length) → ¬ IsLess (plus (plus (plus at (length_of a)) (length_of b)) (length_of c)) p
    → ¬ IsLess (plus at (length_of (Three a b c))) p
three_up a b c at p h = subst (λ q. ¬ IsLess q p) (three_long at (length_of a) (length_of b) (length_of c)) h

inner_up : (o : Length) (k : ℕ) (inside : Tree) (c at : Length)
    → ¬ IsLess (plus at (length_of (Pair o k inside (Some c)))) (plus (plus at o) (length_of inside))
inner_up o k inside c at =
    subst (λ q. ¬ IsLess (plus at (plus (plus o (length_of inside)) c)) q) (sym (plus_assoc at o (length_of inside)))
    (subst (λ q. ¬ IsLess q (plus at (plus o (length_of inside)))) (plus_assoc at (plus o (length_of inside)) c)
    (from_plus (plus at (plus o (length_of inside))) c))

open_up : (o : Length) (k : ℕ) (inside : Tree) (at : Length)
    → ¬ IsLess (plus at (length_of (Pair o k inside None))) (plus (plus at o) (length_of inside))
open_up o k inside at = subst (λ q. ¬ IsLess q (plus (plus at o) (length_of inside)))
    (plus_assoc at o (length_of inside)) (up_to_itself (plus (plus at o) (length_of inside)))

pub pair_lies : (t : Tree) (at : Length) (p : ClosedPair) → IsIn p (closed_pairs t at) → Lies t at p
pair_lies Nothing at p is = absurd is
pair_lies (Text len cut) at p is = absurd is
pair_lies (Bracket len kind) at p is = absurd is
pair_lies (Lone len kinds) at p is = absurd is
pair_lies (Pair o k inside None) at p is =
    lies_in (Pair o k inside None) inside at (plus at o) p (from_plus at o) (open_up o k inside at)
    (pair_lies inside (plus at o) p is)
pair_lies (Pair o k inside (Some c)) at p (inl same) =
    subst (λ (q : ClosedPair). Lies (Pair o k inside (Some c)) at q) (sym same)
    (record { from = up_to_itself at; up = up_to_itself (plus at (length_of (Pair o k inside (Some c)))) })
pair_lies (Pair o k inside (Some c)) at p (inr is) =
    lies_in (Pair o k inside (Some c)) inside at (plus at o) p (from_plus at o) (inner_up o k inside c at)
    (pair_lies inside (plus at o) p is)
pair_lies (Two a b) at p is =
    either (λ i. lies_in (Two a b) a at at p (up_to_itself at) (first_up a b at) (pair_lies a at p i))
    (λ i. lies_in (Two a b) b at (plus at (length_of a)) p (from_plus at (length_of a)) (second_up a b at)
    (pair_lies b (plus at (length_of a)) p i))
    (in_part p (closed_pairs a at) (closed_pairs b (plus at (length_of a))) is)
pair_lies (Three a b c) at p is =
    let at2 = plus at (length_of a) in let at3 = plus at2 (length_of b) in
    let second = closed_pairs b at2 in let third = closed_pairs c at3 in
    either (λ i. lies_in (Three a b c) a at at p (up_to_itself at)
    (three_up a b c at at2 (up_to at2 at3 (plus at3 (length_of c)) (from_plus at2 (length_of b)) (from_plus at3 (length_of c))))
    (pair_lies a at p i))
    (λ j. either (λ i. lies_in (Three a b c) b at at2 p (from_plus at (length_of a))
    (three_up a b c at at3 (from_plus at3 (length_of c))) (pair_lies b at2 p i))
    (λ i. lies_in (Three a b c) c at at3 p
    (up_to at at2 at3 (from_plus at (length_of a)) (from_plus at2 (length_of b)))
    (three_up a b c at (plus at3 (length_of c)) (up_to_itself (plus at3 (length_of c)))) (pair_lies c at3 p i))
    (in_part p second third j))
    (in_part p (closed_pairs a at) (second ++ third) is)

-- ---- a part and a pair
pub data Beside (t : Tree) (at : Length) (p : ClosedPair) : Type 0 where
  behind : ¬ IsLess p.from (plus at (length_of t)) → Beside t at p
  before : ¬ IsLess at (end_of_pair p) → Beside t at p
  holds : IsIn p (closed_pairs t at) → Beside t at p
  held : ¬ IsLess at (plus p.from p.opener) → ¬ IsLess (end_of_pair p) (plus at (length_of t)) → Beside t at p

-- a part of a first piece lies before a pair of what follows it, and the other way round
part_before : {t : Tree} {o : Length} {level : ℕ} {x : Tree} {from : Length} {n : ℕ} (u : Tree) (next : Length)
    (p : ClosedPair) → IsPart t o level x from n → IsIn p (closed_pairs u next)
    → ¬ IsLess next (plus from (length_of x)) → Beside t o p
part_before {t} {o} {level} {x} {from} {n} u next p q is later =
    let l : Lies u next p = pair_lies u next p is in
    behind (up_to (plus o (length_of t)) next p.from
    (up_to (plus o (length_of t)) (plus from (length_of x)) next (part_up_to t o level q) later) l.from)

part_behind : {t : Tree} {o : Length} {level : ℕ} {x : Tree} {from : Length} {n : ℕ} (u : Tree) (first : Length)
    (p : ClosedPair) → IsPart t o level x from n → IsIn p (closed_pairs u first)
    → ¬ IsLess from (plus first (length_of u)) → Beside t o p
part_behind {t} {o} {level} {x} {from} {n} u first p q is later =
    let l : Lies u first p = pair_lies u first p is in
    before (up_to (end_of_pair p) (plus first (length_of u)) o l.up
    (up_to (plus first (length_of u)) from o later (part_from q)))

pub beside : {t : Tree} {o : Length} {level : ℕ} {x : Tree} {from : Length} {n : ℕ} → IsPart t o level x from n
    → (p : ClosedPair) → IsIn p (closed_pairs x from) → Beside t o p
beside part.itself = λ p is. holds is
beside (part.in_first a b from n q) = λ p is.
    either (λ i. beside q p i)
    (λ i. part_before b (plus from (length_of a)) p q i (up_to_itself (plus from (length_of a))))
    (in_part p (closed_pairs a from) (closed_pairs b (plus from (length_of a))) is)
beside (part.in_second a b from n q) = λ p is.
    either (λ i. part_behind a from p q i (up_to_itself (plus from (length_of a)))) (λ i. beside q p i)
    (in_part p (closed_pairs a from) (closed_pairs b (plus from (length_of a))) is)
beside (part.in_front a b c from n q) = λ p is.
    let at2 = plus from (length_of a) in let at3 = plus at2 (length_of b) in
    either (λ i. beside q p i)
    (λ j. either (λ i. part_before b at2 p q i (up_to_itself at2))
    (λ i. part_before c at3 p q i (from_plus at2 (length_of b)))
    (in_part p (closed_pairs b at2) (closed_pairs c at3) j))
    (in_part p (closed_pairs a from) (closed_pairs b at2 ++ closed_pairs c at3) is)
beside (part.in_middle a b c from n q) = λ p is.
    let at2 = plus from (length_of a) in let at3 = plus at2 (length_of b) in
    either (λ i. part_behind a from p q i (up_to_itself at2))
    (λ j. either (λ i. beside q p i) (λ i. part_before c at3 p q i (up_to_itself at3))
    (in_part p (closed_pairs b at2) (closed_pairs c at3) j))
    (in_part p (closed_pairs a from) (closed_pairs b at2 ++ closed_pairs c at3) is)
beside (part.in_back a b c from n q) = λ p is.
    let at2 = plus from (length_of a) in let at3 = plus at2 (length_of b) in
    either (λ i. part_behind a from p q i (from_plus at2 (length_of b)))
    (λ j. either (λ i. part_behind b at2 p q i (up_to_itself at3)) (λ i. beside q p i)
    (in_part p (closed_pairs b at2) (closed_pairs c at3) j))
    (in_part p (closed_pairs a from) (closed_pairs b at2 ++ closed_pairs c at3) is)
beside (part.in_pair o k inside None from n q) = λ p is. beside q p is
beside (part.in_pair o k inside (Some c) from n q) = λ p is. within o k inside c from n q p (λ i. beside q p i) is
  where
    around : {t : Tree} {at : Length} {level : ℕ} (o : Length) (k : ℕ) (inside : Tree) (c from : Length) (n : ℕ)
        → IsPart t at level inside (plus from o) (n + 1) → (p : ClosedPair)
        → p ≡ record { from = from; opener = o; kind = k; inside = inside; closer = c } → Beside t at p
    around {t} {at} {level} o k inside c from n q p same =
        subst (λ (r : ClosedPair). Beside t at r) (sym same)
        (held (part_from q)
        (up_to (plus at (length_of t)) (plus (plus from o) (length_of inside))
        (plus from (length_of (Pair o k inside (Some c)))) (part_up_to t at level q) (inner_up o k inside c from)))

    within : {t : Tree} {at : Length} {level : ℕ} (o : Length) (k : ℕ) (inside : Tree) (c from : Length) (n : ℕ)
        → IsPart t at level inside (plus from o) (n + 1) → (p : ClosedPair)
        → (IsIn p (closed_pairs inside (plus from o)) → Beside t at p)
        → IsIn p (closed_pairs (Pair o k inside (Some c)) from) → Beside t at p
    within o k inside c from n q p later (inl same) = around o k inside c from n q p same
    within o k inside c from n q p later (inr is) = later is

-- ---- a bare tree has no closed pair
pub front_true : (a b : Bool) → (a && b) ≡ true → a ≡ true
front_true true b h = refl
front_true false b h = cc

pub back_true : (a b : Bool) → (a && b) ≡ true → b ≡ true
back_true true b h = h
back_true false b h = cc

pub bare_no_pair : (t : Tree) (at : Length) (p : ClosedPair) → is_bare t ≡ true → IsIn p (closed_pairs t at) → ⊥
bare_no_pair Nothing at p bare is = absurd is
bare_no_pair (Text len cut) at p bare is = absurd is
bare_no_pair (Bracket len kind) at p bare is = absurd is
bare_no_pair (Lone len kinds) at p bare is = absurd is
bare_no_pair (Pair o k inside c) at p bare is = cc
bare_no_pair (Two a b) at p bare is =
    either (λ i. bare_no_pair a at p (front_true (is_bare a) (is_bare b) bare) i)
    (λ i. bare_no_pair b (plus at (length_of a)) p (back_true (is_bare a) (is_bare b) bare) i)
    (in_part p (closed_pairs a at) (closed_pairs b (plus at (length_of a))) is)
bare_no_pair (Three a b c) at p bare is =
    let at2 = plus at (length_of a) in let at3 = plus at2 (length_of b) in
    let later = back_true (is_bare a) (is_bare b && is_bare c) bare in
    either (λ i. bare_no_pair a at p (front_true (is_bare a) (is_bare b && is_bare c) bare) i)
    (λ j. either (λ i. bare_no_pair b at2 p (front_true (is_bare b) (is_bare c) later) i)
    (λ i. bare_no_pair c at3 p (back_true (is_bare b) (is_bare c) later) i)
    (in_part p (closed_pairs b at2) (closed_pairs c at3) j))
    (in_part p (closed_pairs a at) (closed_pairs b at2 ++ closed_pairs c at3) is)

-- ---- the brackets of a closed pair lie in lines
pub record Brackets (test : Length → Bool) (p : ClosedPair) : Type 0 where
  pub opener : IsInLine p.opener
  pub closer : IsInLine p.closer
  pub ends : test (plus p.from p.opener) ≡ true

module _ (test : Length → Bool) (p : ClosedPair) where
  no_unclosed : (o : Length) (k : ℕ) (inside rest : Items) (at : Length) → EndAt test (unclosed_then o k inside rest) at
      → EndAt test inside (plus at o)
  no_unclosed o k inside end at h = h.2
  no_unclosed o k inside (text a b c) at h = absurd h
  no_unclosed o k inside (lone a b c) at h = absurd h
  no_unclosed o k inside (pair a b c d e) at h = absurd h
  no_unclosed o k inside (unclosed a b c) at h = absurd h
  no_unclosed o k inside stray at h = absurd h

  pub brackets : (t : Tree) (rest : Items) (at : Length) → IsIn p (closed_pairs t at) → EndAt test (items_then t rest) at
      → Brackets test p
  brackets Nothing rest at is h = absurd is
  brackets (Text len cut) rest at is h = absurd is
  brackets (Bracket len kind) rest at is h = absurd is
  brackets (Lone len kinds) rest at is h = absurd is
  brackets (Pair o k inside None) rest at is h =
      brackets inside end (plus at o) is (no_unclosed o k (items_then inside end) rest at h)
  brackets (Pair o k inside (Some c)) rest at (inl same) h =
      subst (λ (q : ClosedPair). Brackets test q) (sym same) (record { opener = h.0; closer = h.3; ends = h.1 })
  brackets (Pair o k inside (Some c)) rest at (inr is) h = brackets inside end (plus at o) is h.2
  brackets (Two a b) rest at is h =
      let e : Ended test a (items_then b rest) at = ended test a (items_then b rest) at h in
      either (λ i. brackets a (items_then b rest) at i h) (λ i. brackets b rest (plus at (length_of a)) i e.tail)
      (in_part p (closed_pairs a at) (closed_pairs b (plus at (length_of a))) is)
  brackets (Three a b c) rest at is h =
      let at2 = plus at (length_of a) in let at3 = plus at2 (length_of b) in
      let e : Ended test a (items_then b (items_then c rest)) at = ended test a (items_then b (items_then c rest)) at h in
      let f : Ended test b (items_then c rest) at2 = ended test b (items_then c rest) at2 e.tail in
      either (λ i. brackets a (items_then b (items_then c rest)) at i h)
      (λ j. either (λ i. brackets b (items_then c rest) at2 i e.tail) (λ i. brackets c rest at3 i f.tail)
      (in_part p (closed_pairs b at2) (closed_pairs c at3) j))
      (in_part p (closed_pairs a at) (closed_pairs b at2 ++ closed_pairs c at3) is)

-- ---- a closed pair is among the nodes that start where it does
same_is : (a : Length) → is_same a a ≡ true
same_is a = grind (arith, nat_tests)

here_itself : (t : Tree) (at : Length) → is_some (length_of t) ≡ true → IsIn t (here t at at)
here_itself t at some = subst (λ b. IsIn t (if b then t ∷ [] else [])) (sym (both (is_same at at) (is_some (length_of t)) (same_is at) some)) (inl refl)
  where
    both : (a b : Bool) → a ≡ true → b ≡ true → (a && b) ≡ true
    both true b h k = k
    both false b h k = cc

pub pair_starts : (t : Tree) (at : Length) (p : ClosedPair) → is_some (length_of (node_of p)) ≡ true
    → IsIn p (closed_pairs t at) → IsIn (node_of p) (starting_from t at p.from)
pair_starts Nothing at p some is = absurd is
pair_starts (Text len cut) at p some is = absurd is
pair_starts (Bracket len kind) at p some is = absurd is
pair_starts (Lone len kinds) at p some is = absurd is
pair_starts (Pair o k inside None) at p some is =
    in_back (node_of p) (here (Pair o k inside None) at p.from) _
    (in_back (node_of p) (here (Bracket o k) at p.from) _
    (in_front (node_of p) (starting_from inside (plus at o) p.from) _ (pair_starts inside (plus at o) p some is)))
pair_starts (Pair o k inside (Some c)) at p some (inl same) =
    in_front (node_of p) (here (Pair o k inside (Some c)) at p.from) _
    (subst (λ (q : ClosedPair). IsIn (node_of q) (here (Pair o k inside (Some c)) at q.from)) (sym same)
    (here_itself (Pair o k inside (Some c)) at
    (subst (λ (q : ClosedPair). is_some (length_of (node_of q)) ≡ true) same some)))
pair_starts (Pair o k inside (Some c)) at p some (inr is) =
    in_back (node_of p) (here (Pair o k inside (Some c)) at p.from) _
    (in_back (node_of p) (here (Bracket o k) at p.from) _
    (in_front (node_of p) (starting_from inside (plus at o) p.from) _ (pair_starts inside (plus at o) p some is)))
pair_starts (Two a b) at p some is =
    in_back (node_of p) (here (Two a b) at p.from) _
    (either (λ i. in_front (node_of p) (starting_from a at p.from) _ (pair_starts a at p some i))
    (λ i. in_back (node_of p) (starting_from a at p.from) _ (pair_starts b (plus at (length_of a)) p some i))
    (in_part p (closed_pairs a at) (closed_pairs b (plus at (length_of a))) is))
pair_starts (Three a b c) at p some is =
    let at2 = plus at (length_of a) in let at3 = plus at2 (length_of b) in
    in_back (node_of p) (here (Three a b c) at p.from) _
    (either (λ i. in_front (node_of p) (starting_from a at p.from) _ (pair_starts a at p some i))
    (λ j. in_back (node_of p) (starting_from a at p.from) _
    (either (λ i. in_front (node_of p) (starting_from b at2 p.from) _ (pair_starts b at2 p some i))
    (λ i. in_back (node_of p) (starting_from b at2 p.from) _ (pair_starts c at3 p some i))
    (in_part p (closed_pairs b at2) (closed_pairs c at3) j)))
    (in_part p (closed_pairs a at) (closed_pairs b at2 ++ closed_pairs c at3) is))
