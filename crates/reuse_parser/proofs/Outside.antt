-- A parse that takes nodes of an old tree stands strictly inside no closed pair that no change meets or touches.
use Rattle.std.proofs.Common.{◌≡◌, ℕ, ◌<◌, ◌≤◌, ◌&&◌, ◌||◌, ◌⊎◌, inl, inr, List, [], ◌∷◌, ◌++◌, Bool, true, false, filter}
use Rattle.std.proofs.Common.{Option, Some, None, refl, sym, ap, ◌∙◌, subst, arith}
use Rattle.std.proofs.lemmas.Bool.Decides.{nat_tests}
use Rattle.std.specs.List.{list_any}
use Rattle.text_pos.specs.declared.length.Length.{Length}
use Rattle.text_pos.specs.Lengths.{plus, IsLess}
use Rattle.pairing_defs.specs.declared.Mark.{Mark}
use Rattle.bracket_marks.specs.MarkedLine.{MarkedLine, marks_in}
use Rattle.change_defs.specs.declared.Change.{Change}
use Rattle.change_defs.specs.Changes.{is_less, are_in_order, before, distance, is_inside, placed, image}
use Rattle.change_laws.specs.Chains.{has_room}
use Rattle.change_laws.proofs.PlaceLaws.{images_rise}
use Rattle.tree_defs.specs.Tree.{Tree}
use Rattle.tree_defs.specs.Shape.{length_of, no_length}
use Rattle.tree_defs.specs.Items.{items_of, end, Stands}
use Rattle.tree_defs.specs.Cuts as cuts
use Rattle.tree_defs.specs.Ends.{IsInLine, fits}
use Rattle.tree_defs.specs.Rows.{start}
use Rattle.tree_defs.proofs.Lengths.{plus_none, plus_assoc, same_length}
use Rattle.reuse_defs.specs.Settled.{ClosedPair, closed_pairs, node_of, end_of_pair, closer_start, is_unmet, is_same, is_mark_of}
use Rattle.reuse_defs.specs.Settled.{settles, is_settled}
use Rattle.reuse_parser.specs.declared.place.Around.{Around}
use Rattle.reuse_parser.specs.Parsing.{start_of, end_of, next_start, Follow}
use Rattle.reuse_parser.specs.Reading.{IsMark}
use Rattle.reuse_parser.specs.Reusing.{ahead_of, IsIn, IsPart, HasRoom}
use Rattle.reuse_parser.specs.Counting.{IsCalm, IsOutside, NoneSettled, IsOpenAt, NonePasses}
use Rattle.reuse_parser.proofs.Adding.{IsMet, met}
use Rattle.reuse_parser.proofs.AheadOf.{up_to, up_to_itself, from_plus, less_up_to, mark_less, follows, in_further, next_within}
use Rattle.reuse_parser.proofs.Sources.{marks_follow}
use Rattle.reuse_parser.proofs.Moved.{not_is_less, less_is, is_less_not, range_splits, in_range, and_left, and_right}
use Rattle.reuse_parser.proofs.Stretch.{image_there, outside_there}
use Rattle.reuse_parser.proofs.Starting.{Part}
use Rattle.reuse_parser.proofs.Plain.{pair_plain, plain_uncut}
use Rattle.reuse_parser.proofs.Beside.{Lies, pair_lies, Beside, beside, Brackets, brackets}
use Rattle.reuse_parser.proofs.Beside as side
use Rattle.reuse_parser.proofs.Unmet.{Unmet}
use Rattle.reuse_parser.proofs.Stood.{Stood, stood, pair_part, calm_plain, calm_pair, pair_passes}

-- ---- orders
pub less_itself : (a b : Length) → IsInLine b → IsLess a (plus a b)
less_itself a b some = by a b some.0 some.1
  where
    by : (a b : Length) → b.lines ≡ 0 → 0 < b.cols → IsLess a (plus a b)
    by a b none some = inr (grind (arith, nat_tests), grind (arith, nat_tests))

up_then : (a b c : Length) → ¬ IsLess b a → IsLess b c → IsLess a c
up_then a b c h k = less_by_test a c (less_test a b c (not_is_less b a h) (less_is b c k))
  where
    less_by_test : (a b : Length) → is_less a b ≡ true → IsLess a b
    less_by_test a b h = grind (arith, nat_tests)

    less_test : (a b c : Length) → is_less b a ≡ false → is_less b c ≡ true → is_less a c ≡ true
    less_test a b c h k = grind (arith, nat_tests)

pub then_up : (a b c : Length) → IsLess a b → ¬ IsLess c b → IsLess a c
then_up a b c h k = less_by_test a c (less_test a b c (less_is a b h) (not_is_less c b k))
  where
    less_by_test : (a b : Length) → is_less a b ≡ true → IsLess a b
    less_by_test a b h = grind (arith, nat_tests)

    less_test : (a b c : Length) → is_less a b ≡ true → is_less c b ≡ false → is_less a c ≡ true
    less_test a b c h k = grind (arith, nat_tests)

-- one of two places is less than the other, or not
less_or_not : (a b : Length) → IsLess a b ⊎ (¬ IsLess a b)
less_or_not a b = by (is_less a b) refl
  where
    less_by_test : is_less a b ≡ true → IsLess a b
    less_by_test h = grind (arith, nat_tests)

    by : (x : Bool) → is_less a b ≡ x → IsLess a b ⊎ (¬ IsLess a b)
    by true h = inl (less_by_test h)
    by false h = inr (is_less_not a b h)

-- ---- some pair settles a settled mark
pub record Settler (t : Tree) (changes : List Change) (m : Mark) : Type 0 where
  pub pair : ClosedPair
  pub is : cuts.IsIn pair (closed_pairs t start)
  pub apart : is_unmet (placed changes) pair ≡ true
  pub mark : is_mark_of changes m pair ≡ true

some_settles : (t : Tree) (changes : List Change) (m : Mark) (ps : List ClosedPair)
    → ((p : ClosedPair) → cuts.IsIn p ps → cuts.IsIn p (closed_pairs t start)) → list_any (settles changes m) ps ≡ true
    → Settler t changes m
some_settles t changes m [] among h = cc
some_settles t changes m (p ∷ ps) among h =
    by (some_settles t changes m ps (λ q is. among q (inr is))) (settles changes m p) refl h
  where
    by : (list_any (settles changes m) ps ≡ true → Settler t changes m) → (b : Bool) → settles changes m p ≡ b
        → (b || list_any (settles changes m) ps) ≡ true → Settler t changes m
    by later true k h = record {
      pair = p;
      is = among p (inl refl);
      apart = and_left (is_unmet (placed changes) p) (is_mark_of changes m p) k;
      mark = and_right (is_unmet (placed changes) p) (is_mark_of changes m p) k;
    }
    by later false k h = later h

settles_some : (changes : List Change) (m : Mark) (p : ClosedPair) (ps : List ClosedPair) → cuts.IsIn p ps
    → settles changes m p ≡ true → list_any (settles changes m) ps ≡ true
settles_some changes m p [] is h = absurd is
settles_some changes m p (q ∷ ps) (inl same) h = first (settles changes m q) (list_any (settles changes m) ps)
    (subst (λ (r : ClosedPair). settles changes m r ≡ true) same h)
  where
    first : (a b : Bool) → a ≡ true → (a || b) ≡ true
    first true b h = refl
    first false b h = cc
settles_some changes m p (q ∷ ps) (inr is) h = later (settles changes m q) (list_any (settles changes m) ps)
    (settles_some changes m p ps is h)
  where
    later : (a b : Bool) → b ≡ true → (a || b) ≡ true
    later true b h = refl
    later false b h = h

-- a mark behind others that follow a place starts at or behind it
follow_up : (p last : Length) (front : List Mark) (m : Mark) (rest : List Mark) → Follow p last (front ++ m ∷ rest)
    → ¬ IsLess (start_of m) p
follow_up p last [] m rest follow = follow.0
follow_up p last (x ∷ front) m rest follow =
    up_to p (end_of x) (start_of m)
    (up_to p (start_of x) (end_of x) follow.0 (less_up_to (start_of x) (end_of x) (mark_less x follow.1)))
    (follow_up (end_of x) last front m rest follow.3)

-- ---- a closed pair that no change meets or touches, in the new text
module _ (lines : List MarkedLine) (a : Around) (old : Tree) (changes : List Change)
    (calm : IsCalm a.limit old changes lines) where
  abbrev order : are_in_order changes ≡ true
  order = calm.since.order

  module _ (p : ClosedPair) (is : cuts.IsIn p (closed_pairs old start)) (apart : is_unmet (placed changes) p ≡ true) where
    abbrev at_pair : Length
    at_pair = image changes p.from

    abbrev long : Length
    long = length_of (node_of p)

    side_there : Unmet changes p.from long
    side_there = calm_pair a.limit old changes lines calm p is apart

    marks : Brackets fits p
    marks = brackets fits p old end start is calm.since.stands.fit

    -- a place within the pair, ends included
    inner : (d : Length) → ¬ IsLess long d → image changes (plus p.from d) ≡ plus at_pair d
    inner d up = image_there changes at_pair p.from long order side_there.before side_there.room d (not_is_less long d up)

    -- the mark of its opener starts where the pair does
    pub opener_there : IsIn lines a at_pair → (m : Mark) × (rest : List Mark) × (ahead_of lines at_pair ≡ m ∷ rest)
        × (start_of m ≡ at_pair)
    opener_there i =
        let q : Part (node_of p) p.from old start 0 = pair_part old start 0 p is in
        let s : Stood a.limit lines at_pair (node_of p) =
        stood lines a at_pair old changes (node_of p) p.from q.level i calm.since side_there.before q.part side_there.room
        (plain_uncut (node_of p) (pair_plain old start p (calm_plain a.limit old changes lines calm) is)) in
        first s.done s.level s.stands (ahead_of lines (plus at_pair long)) s.are
      where
        first : (done : List Mark) (level : ℕ) → Stands a.limit level (items_of (node_of p)) at_pair done
            → (rest : List Mark) → ahead_of lines at_pair ≡ done ++ rest
            → (m : Mark) × (rest : List Mark) × (ahead_of lines at_pair ≡ m ∷ rest) × (start_of m ≡ at_pair)
        first done level stands rest are = (
          stands.mark,
          (stands.within ++ stands.last ∷ stands.more) ++ rest,
          are ∙ ap (λ l. l ++ rest) stands.are,
          same_length (start_of stands.mark) at_pair stands.place.line stands.place.col,
        )

    -- its inside lies in the pair
    abbrev inside_long : Length
    inside_long = plus p.opener (length_of p.inside)

    opener_up : ¬ IsLess long p.opener
    opener_up = up_to p.opener inside_long long (from_plus p.opener (length_of p.inside)) (from_plus inside_long p.closer)

    -- so it takes some of the text, and a place behind its opener lies behind where it starts
    start_less : (to : Length) → ¬ IsLess to (plus at_pair p.opener) → IsLess at_pair to
    start_less to up = then_up at_pair (plus at_pair p.opener) to (less_itself at_pair p.opener marks.opener) up

    -- where its closer starts
    closer_less : IsLess (plus at_pair inside_long) (plus at_pair long)
    closer_less = subst (λ q. IsLess (plus at_pair inside_long) q) (plus_assoc at_pair inside_long p.closer)
        (less_itself (plus at_pair inside_long) p.closer marks.closer)

    closer_at : image changes (closer_start p) ≡ plus at_pair inside_long
    closer_at = ap (λ q. image changes q) (plus_assoc p.from p.opener (length_of p.inside))
        ∙ inner inside_long (from_plus inside_long p.closer)

    -- the marks ahead of a place before the pair begin at or before it
    pub first_before : (at : Length) → IsIn lines a at → IsIn lines a at_pair → ¬ IsLess at_pair at
        → (front : List Mark) × (m : Mark) × (rest : List Mark) × (ahead_of lines at ≡ front ++ m ∷ rest)
        × (start_of m ≡ at_pair)
    first_before at i j up =
        let o : (m : Mark) × (rest : List Mark) × (ahead_of lines at_pair ≡ m ∷ rest) × (start_of m ≡ at_pair) =
        opener_there j in (
          filter (in_range at at_pair) (marks_in lines),
          o.0,
          o.1,
          range_splits at at_pair start a.end (marks_in lines) (marks_follow lines a.end i.marked i.some i.last) up
              ∙ ap (λ l. filter (in_range at at_pair) (marks_in lines) ++ l) o.2,
          o.3,
        )

  -- ---- steps of a parse
  abbrev Outside : Length → Type 0
  Outside at = IsOutside old changes at

  -- up to the next mark
  pub outside_text : (at to : Length) → IsIn lines a at → Outside at → IsLess at to
      → to ≡ next_start a.end (ahead_of lines at) → Outside to
  outside_text at to i out less is p there apart from_less to_less = elim (less_or_not (image changes p.from) at) [
    | inl before ↦ out p there apart before (then_up at to (plus (image changes p.from) (length_of (node_of p))) less
        (less_up_to to (plus (image changes p.from) (length_of (node_of p))) to_less))
    | inr behind ↦
        let within : ¬ IsLess a.end to =
        subst (λ q. ¬ IsLess a.end q) (sym is) (next_within at a.end (ahead_of lines at) (follows lines a at i)) in
        let j : IsIn lines a (image changes p.from) =
        in_further lines a at (image changes p.from) i
        (up_to (image changes p.from) to a.end (less_up_to (image changes p.from) to from_less) within) in
        let f = first_before p there apart at i j behind in
        first_up at a.end f.0 f.1 f.2 (subst (λ l. Follow at a.end l) f.3 (follows lines a at i))
        (subst (λ q. IsLess q (next_start a.end (f.0 ++ f.1 ∷ f.2))) (sym f.4)
        (subst (λ l. IsLess (image changes p.from) (next_start a.end l)) f.3
        (subst (λ q. IsLess (image changes p.from) q) is from_less)))
  ]
    where
      first_up : (at last : Length) (front : List Mark) (m : Mark) (rest : List Mark) → Follow at last (front ++ m ∷ rest)
          → ¬ IsLess (start_of m) (next_start last (front ++ m ∷ rest))
      first_up at last [] m rest follow = up_to_itself (start_of m)
      first_up at last (x ∷ front) m rest follow =
          up_to (start_of x) (end_of x) (start_of m) (less_up_to (start_of x) (end_of x) (mark_less x follow.1))
          (follow_up (end_of x) last front m rest follow.3)

  -- over an unsettled mark
  pub outside_mark : (m : Mark) → IsIn lines a (start_of m) → IsMark lines (start_of m) m → Outside (start_of m)
      → is_settled old changes m ≡ false → Outside (end_of m)
  outside_mark m i is out unsettled p there apart from_less to_less =
      let x : IsMet lines a m = met lines a m i is.is in
      let less : IsLess (start_of m) (end_of m) = mark_less m x.some in
      elim (less_or_not (image changes p.from) (start_of m)) [
        | inl before ↦ out p there apart before (then_up (start_of m) (end_of m)
            (plus (image changes p.from) (length_of (node_of p))) less
            (less_up_to (end_of m) (plus (image changes p.from) (length_of (node_of p))) to_less))
        | inr behind ↦
            let j : IsIn lines a (image changes p.from) =
            in_further lines a (start_of m) (image changes p.from) i
            (up_to (image changes p.from) (end_of m) a.end (less_up_to (image changes p.from) (end_of m) from_less)
            x.within) in
            let f = first_before p there apart (start_of m) i j behind in
            opened m p there apart unsettled f.0 f.1 f.2 (ahead_of lines (end_of m)) (sym is.is ∙ f.3) f.4 x.follow
            from_less
      ]
    where
      settled_by : (m : Mark) (p : ClosedPair) → cuts.IsIn p (closed_pairs old start)
          → is_unmet (placed changes) p ≡ true → start_of m ≡ image changes p.from → is_settled old changes m ≡ true
      settled_by m p there apart same = settles_some changes m p (closed_pairs old start) there
          (both (is_unmet (placed changes) p) (is_mark_of changes m p) apart
          (either_true (is_same (start_of m) (image changes p.from)) (is_same (start_of m) (image changes (closer_start p)))
          (same_is (start_of m) (image changes p.from) same)))
        where
          both : (a b : Bool) → a ≡ true → b ≡ true → (a && b) ≡ true
          both true b h k = k
          both false b h k = cc

          either_true : (a b : Bool) → a ≡ true → (a || b) ≡ true
          either_true true b h = refl
          either_true false b h = cc

          same_is : (a b : Length) → a ≡ b → is_same a b ≡ true
          same_is a b h = rw h (same_itself b)
            where
              same_itself : (b : Length) → is_same b b ≡ true
              same_itself b = grind (arith, nat_tests)

      opened : (m : Mark) (p : ClosedPair) → cuts.IsIn p (closed_pairs old start) → is_unmet (placed changes) p ≡ true
          → is_settled old changes m ≡ false → (front : List Mark) (n : Mark) (rest more : List Mark)
          → m ∷ more ≡ front ++ n ∷ rest → start_of n ≡ image changes p.from → Follow (end_of m) a.end more
          → IsLess (image changes p.from) (end_of m) → ⊥
      opened m p there apart unsettled [] n rest more are starts follow less =
          let same : m ≡ n = cc in
          let h = sym unsettled ∙ settled_by m p there apart (ap start_of same ∙ starts) in no h
        where
          no : false ≡ true → ⊥
          no h = cc
      opened m p there apart unsettled (x ∷ front) n rest more are starts follow less =
          let same : more ≡ front ++ n ∷ rest = cc in
          follow_up (end_of m) a.end front n rest (subst (λ l. Follow (end_of m) a.end l) same follow)
          (subst (λ q. IsLess q (end_of m)) (sym starts) less)

  -- at a place outside, no mark is settled if no pair passes there
  pub none_settled : (at : Length) → IsIn lines a at → IsOpenAt lines a at → a.level ≤ a.limit → Outside at
      → NonePasses old changes a at → NoneSettled old changes at
  none_settled at i opens room out none m starts = by (is_settled old changes m) refl
    where
      has : (o : Option Length) (len : Length) → has_room o len ≡ true → HasRoom o len
      has None len h = tt
      has (Some r) len h = less_by_test len r h
        where
          less_by_test : (a b : Length) → is_less a b ≡ true → IsLess a b
          less_by_test a b h = grind (arith, nat_tests)

      same_place : (a b : Length) → is_same a b ≡ true → a ≡ b
      same_place a b h = same_length a b (grind (arith, nat_tests)) (grind (arith, nat_tests))

      either_of : (a b : Bool) → (a || b) ≡ true → (a ≡ true) ⊎ (b ≡ true)
      either_of true b h = inl refl
      either_of false b h = inr h

      not_settled : Settler old changes m → ⊥
      not_settled s =
          let p = s.pair in
          let u : Unmet changes p.from (length_of (node_of p)) = side_there p s.is s.apart in
          elim (either_of (is_same (start_of m) (image changes p.from)) (is_same (start_of m) (image changes (closer_start p)))
          s.mark) [
            | inl here ↦
                let same : image changes p.from ≡ at =
                sym (same_place (start_of m) (image changes p.from) here) ∙ starts in
                let b : before changes at ≡ Some p.from = subst (λ q. before changes q ≡ Some p.from) same u.before in
                let r : has_room (distance changes at) (length_of (node_of p)) ≡ true =
                subst (λ q. has_room (distance changes q) (length_of (node_of p)) ≡ true) same u.room in
                let k : Brackets fits p = marks p s.is s.apart in
                none p s.is k.opener b (has (distance changes at) (length_of (node_of p)) r)
                (pair_passes lines a at old changes p i calm opens room s.is b r)
            | inr last ↦
                let same : at ≡ plus (image changes p.from) (plus p.opener (length_of p.inside)) =
                sym starts ∙ same_place (start_of m) (image changes (closer_start p)) last ∙ closer_at p s.is s.apart in
                out p s.is s.apart
                (start_less p s.is s.apart at (subst (λ q. ¬ IsLess q (plus (image changes p.from) p.opener)) (sym same)
                (subst (λ q. ¬ IsLess q (plus (image changes p.from) p.opener))
                (plus_assoc (image changes p.from) p.opener (length_of p.inside))
                (from_plus (plus (image changes p.from) p.opener) (length_of p.inside)))))
                (subst (λ q. IsLess q (plus (image changes p.from) (length_of (node_of p)))) (sym same)
                (closer_less p s.is s.apart))
          ]

      by : (b : Bool) → is_settled old changes m ≡ b → is_settled old changes m ≡ false
      by false h = h
      by true h = absurd (not_settled (some_settles old changes m (closed_pairs old start) (λ p is. is) h))

  -- over a node of the old tree
  pub outside_node : (at : Length) (t : Tree) (from : Length) (level : ℕ) → before changes at ≡ Some from
      → IsPart t from level old start 0 → has_room (distance changes at) (length_of t) ≡ true → Outside at
      → Outside (plus at (length_of t))
  outside_node at t from level is part room out p there apart from_less to_less =
      by (beside part p there)
    where
      len : Length
      len = length_of t

      goes : (d : Length) → ¬ IsLess len d → image changes (plus from d) ≡ plus at d
      goes d up = image_there changes at from len order is room d (not_is_less len d up)

      starts : image changes from ≡ at
      starts = ap (λ q. image changes q) (sym (plus_none from)) ∙ goes no_length (none_less len) ∙ plus_none at
        where
          none_less : (a : Length) → ¬ IsLess a no_length
          none_less a (inl h) = omega (arith, h)
          none_less a (inr h) = let k = h.1 in omega (arith, k)

      last : image changes (end_of_pair p) ≡ plus (image changes p.from) (length_of (node_of p))
      last = inner p there apart (length_of (node_of p)) (up_to_itself (length_of (node_of p)))

      pair_out : (d : Length) → ¬ IsLess (length_of (node_of p)) d → is_inside (placed changes) (plus p.from d) ≡ false
      pair_out d up = outside_there changes (image changes p.from) p.from (length_of (node_of p)) order
          (side_there p there apart).before (side_there p there apart).room d (not_is_less (length_of (node_of p)) d up)

      later : (a b : Length) → is_inside (placed changes) a ≡ false → ¬ IsLess b a → ¬ IsLess (image changes b) (image changes a)
      later a b out up = is_less_not (image changes b) (image changes a) (images_rise changes a b order out (not_is_less b a up))

      by : Beside t from p → ⊥
      by (side.behind up) =
          subst (λ q. ¬ IsLess (image changes p.from) q) (goes len (up_to_itself len))
          (later (plus from len) p.from (outside_there changes at from len order is room len (not_is_less len len (up_to_itself len))) up)
          from_less
      by (side.before up) =
          let first : ¬ IsLess at (plus (image changes p.from) (length_of (node_of p))) =
          subst (λ q. ¬ IsLess q (plus (image changes p.from) (length_of (node_of p)))) starts
          (subst (λ q. ¬ IsLess (image changes from) q) last
          (later (end_of_pair p) from (pair_out (length_of (node_of p)) (up_to_itself (length_of (node_of p)))) up)) in
          up_to (plus (image changes p.from) (length_of (node_of p))) at (plus at len) first (from_plus at len) to_less
      by (side.holds among) =
          let l : Lies t from p = pair_lies t from p among in
          subst (λ q. ¬ IsLess q (plus (image changes p.from) (length_of (node_of p)))) (goes len (up_to_itself len))
          (subst (λ q. ¬ IsLess (image changes (plus from len)) q) last
          (later (end_of_pair p) (plus from len) (pair_out (length_of (node_of p)) (up_to_itself (length_of (node_of p)))) l.up))
          to_less
      by (side.held up far) =
          let opener : ¬ IsLess (length_of (node_of p)) p.opener = opener_up p there apart in
          let first : ¬ IsLess at (plus (image changes p.from) p.opener) =
          subst (λ q. ¬ IsLess q (plus (image changes p.from) p.opener)) starts
          (subst (λ q. ¬ IsLess (image changes from) q) (inner p there apart p.opener opener)
          (later (plus p.from p.opener) from (pair_out p.opener opener) up)) in
          out p there apart (start_less p there apart at first)
          (up_then at (plus at len) (plus (image changes p.from) (length_of (node_of p))) (from_plus at len) to_less)
