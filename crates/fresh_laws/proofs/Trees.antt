-- From the items of a tree to its closed pairs.
use Rattle.std.proofs.Common.{◌≡◌, ℕ, ◌++◌, Bool, false, List, Some, None}
use Rattle.std.proofs.Common.{refl, sym, ap, ◌∙◌, subst}
use Rattle.std.specs.List.{AllByRecursion}
use Rattle.text_pos.specs.declared.length.Length.{Length}
use Rattle.text_pos.specs.Lengths.{plus}
use Rattle.pairing_defs.specs.declared.Mark.{Mark}
use Rattle.pairing_defs.specs.declared.Row.{Row}
use Rattle.tree_defs.specs.Tree.{Tree, Nothing, Text, Bracket, Lone, Pair, Two, Three}
use Rattle.tree_defs.specs.Shape.{length_of}
use Rattle.tree_defs.specs.Items.{Items, end, text, lone, pair, unclosed, stray, unclosed_then, items_then, behind, IsAt}
use Rattle.tree_defs.specs.Ends.{EndAt, IsInLine}
use Rattle.tree_defs.proofs.Lengths.{plus_assoc, plus_none}
use Rattle.change_defs.specs.declared.Placed.{Placed}
use Rattle.change_defs.specs.FreshMarks.{is_met}
use Rattle.reuse_defs.specs.Settled.{ClosedPair, closed_pairs, closer_start}
use Rattle.fresh_laws.proofs.Each.{all_front, all_back}
use Rattle.fresh_laws.proofs.Bounds.{IsBound, end_bound, text_bound, lone_bound, unclosed_bound, stray_bound, pair_bound}

-- ---- where the items of a tree end
record Ended (test : Length → Bool) (t : Tree) (rest : Items) (at : Length) : Type 0 where
  pub tail : EndAt test rest (plus at (length_of t))
  pub ends : behind (items_then t rest) at ≡ behind rest (plus at (length_of t))

module _ (test : Length → Bool) where
  unclosed_ended : (o : Length) (k : ℕ) (t : Tree) (rest : Items) (at : Length)
      → (EndAt test (items_then t end) (plus at o) → Ended test t end (plus at o))
      → EndAt test (unclosed_then o k (items_then t end) rest) at → Ended test (Pair o k t None) rest at
  unclosed_ended o k t end at inner ends = record {
    tail = tt;
    ends = (inner ends.2).ends ∙ plus_assoc at o (length_of t);
  }
  unclosed_ended o k t (text a b c) at inner ends = absurd ends
  unclosed_ended o k t (lone a b c) at inner ends = absurd ends
  unclosed_ended o k t (pair a b c d e) at inner ends = absurd ends
  unclosed_ended o k t (unclosed a b c) at inner ends = absurd ends
  unclosed_ended o k t stray at inner ends = absurd ends

  closed_long : (t : Tree) (at o c : Length) → Ended test t end (plus at o)
      → plus (behind (items_then t end) (plus at o)) c ≡ plus at (plus (plus o (length_of t)) c)
  closed_long t at o c e = ap (λ p. plus p c) (e.ends ∙ plus_assoc at o (length_of t))
      ∙ plus_assoc at (plus o (length_of t)) c

  closed_ended : (o : Length) (k : ℕ) (t : Tree) (c : Length) (rest : Items) (at : Length)
      → Ended test t end (plus at o) → EndAt test (pair o k (items_then t end) c rest) at
      → Ended test (Pair o k t (Some c)) rest at
  closed_ended o k t c rest at inner ends = record {
    tail = subst (λ p. EndAt test rest p) (closed_long t at o c inner) ends.5;
    ends = ap (λ p. behind rest p) (closed_long t at o c inner);
  }

  two_ended : (a b : Tree) (rest : Items) (at : Length) → Ended test a (items_then b rest) at
      → Ended test b rest (plus at (length_of a)) → Ended test (Two a b) rest at
  two_ended a b rest at e f =
      let is = plus_assoc at (length_of a) (length_of b) in
      record {
        tail = subst (λ p. EndAt test rest p) is f.tail;
        ends = e.ends ∙ f.ends ∙ ap (λ p. behind rest p) is;
      }

  ended : (t : Tree) (rest : Items) (at : Length) → EndAt test (items_then t rest) at → Ended test t rest at
  ended Nothing rest at h = record {
    tail = subst (λ p. EndAt test rest p) (sym (plus_none at)) h;
    ends = ap (λ p. behind rest p) (sym (plus_none at));
  }
  ended (Text len cut) rest at h = record { tail = h.1; ends = refl }
  ended (Bracket len kind) rest at h = absurd h
  ended (Lone len kinds) rest at h = record { tail = h.2; ends = refl }
  ended (Pair o k inside None) rest at h = unclosed_ended o k inside rest at (λ e. ended inside end (plus at o) e) h
  ended (Pair o k inside (Some c)) rest at h = closed_ended o k inside c rest at (ended inside end (plus at o) h.2) h
  ended (Two a b) rest at h =
      let e : Ended test a (items_then b rest) at = ended a (items_then b rest) at h in
      two_ended a b rest at e (ended b rest (plus at (length_of a)) e.tail)
  ended (Three a b c) rest at h =
      let e : Ended test a (items_then b (items_then c rest)) at = ended a (items_then b (items_then c rest)) at h in
      let f : Ended test b (items_then c rest) (plus at (length_of a)) =
      ended b (items_then c rest) (plus at (length_of a)) e.tail in
      let both : Ended test (Two a b) (items_then c rest) at = two_ended a b (items_then c rest) at e f in
      let g : Ended test c rest (plus at (plus (length_of a) (length_of b))) =
      ended c rest (plus at (plus (length_of a) (length_of b))) both.tail in
      let is = plus_assoc at (plus (length_of a) (length_of b)) (length_of c) in
      record {
        tail = subst (λ p. EndAt test rest p) is g.tail;
        ends = both.ends ∙ g.ends ∙ ap (λ p. behind rest p) is;
      }

-- ---- what passes in a tree
module _ (ps : List Placed) (passes : Mark → Bool) where
  -- the marks of a pair of the tree don't pass where it meets no change
  abbrev pub IsFairPair : ClosedPair → Type 0
  IsFairPair p = (o c : Mark) → IsAt o p.from p.opener → IsAt c (closer_start p) p.closer → IsInLine p.closer
      → is_met ps o c ≡ false → (passes o ≡ false) × (passes c ≡ false)

  abbrev pub AreFair : List ClosedPair → Type 0
  AreFair pairs = AllByRecursion IsFairPair pairs

module _ (ps : List Placed) (whole : List Row) (test : Length → Bool) (passes : Mark → Bool) where
  abbrev Bound : Items → Length → Type 0
  Bound its at = IsBound ps whole test passes its at

  unclosed_tree : (o : Length) (k : ℕ) (inside rest : Items) (at : Length) → Bound (unclosed_then o k inside rest) at
  unclosed_tree o k inside end at = unclosed_bound ps whole test passes o k inside at
  unclosed_tree o k inside (text a b c) at = stray_bound ps whole test passes at
  unclosed_tree o k inside (lone a b c) at = stray_bound ps whole test passes at
  unclosed_tree o k inside (pair a b c d e) at = stray_bound ps whole test passes at
  unclosed_tree o k inside (unclosed a b c) at = stray_bound ps whole test passes at
  unclosed_tree o k inside stray at = stray_bound ps whole test passes at

  closed_tree : (o : Length) (k : ℕ) (inside : Tree) (c : Length) (rest : Items) (at : Length)
      → Ended test inside end (plus at o)
      → IsFairPair ps passes (record { from = at; opener = o; kind = k; inside = inside; closer = c })
      → Bound (items_then inside end) (plus at o) → Bound rest (plus at (plus (plus o (length_of inside)) c))
      → Bound (pair o k (items_then inside end) c rest) at
  closed_tree o k inside c rest at e fair held more =
      pair_bound ps whole test passes o k (items_then inside end) c rest at
      (λ first last is_first is_last. fair first last is_first
      (subst (λ p. IsAt last p c) e.ends is_last)) held
      (subst (λ p. Bound rest p) (sym (closed_long test inside at o c e)) more)

  pub tree_bound : (t : Tree) (rest : Items) (at : Length) → AreFair ps passes (closed_pairs t at)
      → EndAt test (items_then t rest) at → Bound rest (plus at (length_of t)) → Bound (items_then t rest) at
  tree_bound Nothing rest at fair h more = subst (λ p. Bound rest p) (plus_none at) more
  tree_bound (Text len cut) rest at fair h more = text_bound ps whole test passes len cut rest at more
  tree_bound (Bracket len kind) rest at fair h more = absurd h
  tree_bound (Lone len kinds) rest at fair h more = lone_bound ps whole test passes len kinds rest at
  tree_bound (Pair o k inside None) rest at fair h more = unclosed_tree o k (items_then inside end) rest at
  tree_bound (Pair o k inside (Some c)) rest at fair h more =
      closed_tree o k inside c rest at (ended test inside end (plus at o) h.2) fair.0
      (tree_bound inside end (plus at o) fair.1 h.2 (end_bound ps whole test passes _)) more
  tree_bound (Two a b) rest at fair h more =
      let e : Ended test a (items_then b rest) at = ended test a (items_then b rest) at h in
      let mid = plus at (length_of a) in
      tree_bound a (items_then b rest) at (all_front (IsFairPair ps passes) (closed_pairs a at) (closed_pairs b mid) fair) h
      (tree_bound b rest mid (all_back (IsFairPair ps passes) (closed_pairs a at) (closed_pairs b mid) fair) e.tail
      (subst (λ p. Bound rest p) (sym (plus_assoc at (length_of a) (length_of b))) more))
  tree_bound (Three a b c) rest at fair h more =
      let e : Ended test a (items_then b (items_then c rest)) at = ended test a (items_then b (items_then c rest)) at h in
      let mid = plus at (length_of a) in
      let f : Ended test b (items_then c rest) mid = ended test b (items_then c rest) mid e.tail in
      let far = plus mid (length_of b) in
      let later : AreFair ps passes (closed_pairs b mid ++ closed_pairs c far) =
      all_back (IsFairPair ps passes) (closed_pairs a at) (closed_pairs b mid ++ closed_pairs c far) fair in
      let is : plus far (length_of c) ≡ plus at (length_of (Three a b c)) =
      ap (λ p. plus p (length_of c)) (plus_assoc at (length_of a) (length_of b))
      ∙ plus_assoc at (plus (length_of a) (length_of b)) (length_of c) in
      tree_bound a (items_then b (items_then c rest)) at
      (all_front (IsFairPair ps passes) (closed_pairs a at) (closed_pairs b mid ++ closed_pairs c far) fair) h
      (tree_bound b (items_then c rest) mid (all_front (IsFairPair ps passes) (closed_pairs b mid) (closed_pairs c far) later) e.tail
      (tree_bound c rest far (all_back (IsFairPair ps passes) (closed_pairs b mid) (closed_pairs c far) later) f.tail
      (subst (λ p. Bound rest p) (sym is) more)))
