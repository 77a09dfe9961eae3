-- At most as many marks are unsettled as are fresh.
use Rattle.std.proofs.Common.{◌≡◌, ℕ, ◌*◌, ◌≤◌, Bool, true, false, not, ◌&&◌, ◌||◌, List, [], ◌∷◌}
use Rattle.std.proofs.Common.{Option, Some, None, refl, sym, ap, ◌∙◌, arith, append-nil}
use Rattle.std.proofs.lemmas.Bool.Decides.{nat_tests}
use Rattle.std.specs.List.{count_by, list_any, list_all}
use Rattle.text_pos.specs.declared.length.Length.{Length}
use Rattle.text_pos.specs.Lengths.{plus}
use Rattle.pairing_defs.specs.declared.Mark.{Mark}
use Rattle.pairing_defs.specs.declared.Row.{Row}
use Rattle.tree_defs.specs.Tree.{Tree}
use Rattle.tree_defs.specs.Shape.{length_of}
use Rattle.tree_defs.specs.Items.{end, items_of, IsAt}
use Rattle.tree_defs.specs.Ends.{in_lines, IsInLine}
use Rattle.tree_defs.specs.Rows.{start}
use Rattle.tree_defs.proofs.Lengths.{plus_assoc, same_length}
use Rattle.bracket_marks.specs.MarkedLine.{MarkedLine, marks_in, text_end}
use Rattle.change_defs.specs.declared.Change.{Change}
use Rattle.change_defs.specs.declared.Placed.{Placed}
use Rattle.change_defs.specs.Changes.{is_less, placed, back, image}
use Rattle.change_defs.specs.Agreement.{start_of, end_of, is_clear, moved, clear_old, clear_new}
use Rattle.change_defs.specs.FreshMarks.{is_met, met_pairs, fresh}
use Rattle.reuse_defs.specs.Since.{Since, lengths_of}
use Rattle.reuse_defs.specs.Settled.{ClosedPair, closed_pairs, closer_start, end_of_pair, is_unmet, is_same, is_mark_of, settles}
use Rattle.reuse_defs.specs.Settled.{is_settled, is_unsettled}
use Rattle.reuse_defs.specs.Unsettled.{rows_of, has_partner, AllPaired, unsettled, FreshLaw}
use Rattle.fresh_laws.proofs.Each.{all_passing, split_count, filtered_count, mapped_count}
use Rattle.fresh_laws.proofs.Bounds.{HasPartner, Standing, end_bound, bounds}
use Rattle.fresh_laws.proofs.RowsOfMarks.{rows_have_marks}
use Rattle.fresh_laws.proofs.Trees.{AreFair, tree_bound}

-- ---- a pair that meets no change
neither_meets : (a b rest : Bool) → ((not a && not b) || rest) ≡ false → ((a || b) ≡ true) × (rest ≡ false)
neither_meets true b rest h = (refl, h)
neither_meets false true rest h = (refl, h)
neither_meets false false rest h = absurd (cc)

both_true : (a b : Bool) → a ≡ true → b ≡ true → (a && b) ≡ true
both_true a b h k = rw (h, k) refl

unmet_between : (ps : List Placed) (o c : Mark) → is_met ps o c ≡ false
    → list_all (λ p. is_less p.to.old (start_of o) || is_less (end_of c) p.from.old) ps ≡ true
unmet_between [] o c h = refl
unmet_between (p ∷ ps) o c h =
    let n = neither_meets (is_less p.to.old (start_of o)) (is_less (end_of c) p.from.old) (is_met ps o c) h in
    both_true (is_less p.to.old (start_of o) || is_less (end_of c) p.from.old)
    (list_all (λ p. is_less p.to.old (start_of o) || is_less (end_of c) p.from.old) ps) n.0 (unmet_between ps o c n.1)

starts_at : (m : Mark) (at len : Length) → IsAt m at len → start_of m ≡ at
starts_at m at len is = same_length _ _ is.line is.col

ends_at : (m : Mark) (at len : Length) → IsAt m at len → IsInLine len → end_of m ≡ plus at len
ends_at m at len is flat =
    let l = is.line in let t = is.to in let f = flat.0 in
    same_length _ _ (grind (arith, nat_tests, l, f)) (grind (arith, nat_tests, t, f))

pair_ends : (p : ClosedPair) → plus (closer_start p) p.closer ≡ end_of_pair p
pair_ends p = ap (λ l. plus l p.closer) (plus_assoc p.from p.opener (length_of p.inside))
    ∙ plus_assoc p.from (plus p.opener (length_of p.inside)) p.closer

unmet_pair : (ps : List Placed) (p : ClosedPair) (o c : Mark) → IsAt o p.from p.opener
    → IsAt c (closer_start p) p.closer → IsInLine p.closer → is_met ps o c ≡ false → is_unmet ps p ≡ true
unmet_pair ps p o c first last flat h =
    ap (λ l. list_all (λ q. is_less q.to.old l || is_less (end_of_pair p) q.from.old) ps)
    (sym (starts_at o p.from p.opener first))
    ∙ ap (λ l. list_all (λ q. is_less q.to.old (start_of o) || is_less l q.from.old) ps)
    (sym (ends_at c (closer_start p) p.closer last flat ∙ pair_ends p))
    ∙ unmet_between ps o c h

-- ---- its marks are settled
same_itself : (a : Length) → is_same a a ≡ true
same_itself a = grind (arith, nat_tests)

same_places : (a b : Length) → a ≡ b → is_same a b ≡ true
same_places a b h = ap (λ l. is_same a l) (sym h) ∙ same_itself a

or_left : (a b : Bool) → a ≡ true → (a || b) ≡ true
or_left a b h = rw h refl

or_right : (a b : Bool) → b ≡ true → (a || b) ≡ true
or_right true b h = refl
or_right false b h = h

module _ (t : Tree) (changes : List Change) where
  passes : Mark → Bool
  passes m = is_unsettled t changes (moved changes m)

  opener_settled : (p : ClosedPair) (o : Mark) → IsAt o p.from p.opener → is_unmet (placed changes) p ≡ true
      → settles changes (moved changes o) p ≡ true
  opener_settled p o first h = both_true (is_unmet (placed changes) p) (is_mark_of changes (moved changes o) p) h
      (or_left (is_same (start_of (moved changes o)) (image changes p.from)) _
      (same_places (image changes (start_of o)) (image changes p.from) (ap (image changes) (starts_at o p.from p.opener first))))

  closer_settled : (p : ClosedPair) (c : Mark) → IsAt c (closer_start p) p.closer → is_unmet (placed changes) p ≡ true
      → settles changes (moved changes c) p ≡ true
  closer_settled p c last h = both_true (is_unmet (placed changes) p) (is_mark_of changes (moved changes c) p) h
      (or_right (is_same (start_of (moved changes c)) (image changes p.from))
      (is_same (start_of (moved changes c)) (image changes (closer_start p)))
      (same_places (image changes (start_of c)) (image changes (closer_start p))
      (ap (image changes) (starts_at c (closer_start p) p.closer last))))

  -- some pairs of the tree
  AreOfTree : List ClosedPair → Type 0
  AreOfTree pairs = (m : Mark) → list_any (settles changes m) pairs ≡ true → is_settled t changes m ≡ true

  fair : (pairs : List ClosedPair) → AreOfTree pairs → AreFair (placed changes) passes pairs
  unfolding passes AreOfTree
  fair [] of = tt
  fair (p ∷ pairs) of = (
    λ o c first last flat h.
        let unmet = unmet_pair (placed changes) p o c first last flat h in (
          ap not (of (moved changes o) (or_left (settles changes (moved changes o) p) _ (opener_settled p o first unmet))),
          ap not (of (moved changes c) (or_left (settles changes (moved changes c) p) _ (closer_settled p c last unmet))),
        ),
    fair pairs (λ m h. of m (or_right (settles changes m p) (list_any (settles changes m) pairs) h)),
  )

-- ---- rows
is_partner : (o : Option ℕ) → has_partner o ≡ true → o ≡ None → ⊥
is_partner None h e = absurd (cc)
is_partner (Some row) h e = absurd (cc)

module _ (limit : ℕ) (t : Tree) (changes : List Change) (lines : List MarkedLine) (s : Since limit t changes lines)
    (whole : AllPaired limit s.old) where
  rows : List Row
  rows = rows_of limit s.old

  abbrev test : Length → Bool
  test = in_lines (lengths_of s.old)

  standing : Standing rows test (items_of t) start rows
  unfolding rows
  standing = record {
    n = 0;
    es = [];
    front = [];
    back = [];
    are = sym (append-nil (rows_of limit s.old));
    long = refl;
    full = s.stands.rows;
    ends = s.stands.inside;
    partners = all_passing HasPartner (λ r. has_partner r.partner) (λ r h. is_partner r.partner h) (rows_of limit s.old)
        whole.partners;
  }

  -- of the old rows, those whose moved marks are unsettled are at most two for each pair that meets a change
  rows_bound : count_by (λ r. is_unsettled t changes (moved changes r.mark)) rows ≤ 2 * met_pairs rows changes
  unfolding rows passes AreOfTree
  rows_bound = bounds (placed changes) rows test (passes t changes) (items_of t) start
      (tree_bound (placed changes) rows test (passes t changes) t end start
      (fair t changes (closed_pairs t start) (λ m h. h)) s.stands.inside
      (end_bound (placed changes) rows test (passes t changes) (plus start (length_of t)))) rows standing

  -- the new marks that are clear are moved old ones
  clear_unsettled : count_by (is_unsettled t changes) (clear_new changes (marks_in lines)) ≤ 2 * met_pairs rows changes
  unfolding rows
  clear_unsettled =
      let of_old = λ (m : Mark). is_unsettled t changes (moved changes m) in
      let moves : count_by (is_unsettled t changes) (clear_new changes (marks_in lines))
      ≡ count_by of_old (clear_old changes (marks_in s.old)) =
      ap (λ l. count_by (is_unsettled t changes) l) (sym s.agree.same)
      ∙ mapped_count (is_unsettled t changes) (moved changes) (clear_old changes (marks_in s.old)) in
      let fewer = filtered_count of_old (is_clear (placed changes)) (marks_in s.old) in
      let are : count_by of_old (marks_in s.old) ≡ count_by (λ r. of_old r.mark) (rows_of limit s.old) =
      ap (λ l. count_by of_old l) (sym (rows_have_marks limit (text_end s.old) (marks_in s.old) whole.rows))
      ∙ mapped_count of_old (λ (r : Row). r.mark) (rows_of limit s.old) in
      let few = rows_bound in
      omega (arith, moves, fewer, are, few)

  few_unsettled : unsettled t changes lines ≤ fresh (rows_of limit s.old) (marks_in lines) changes
  unfolding rows
  few_unsettled =
      let split = split_count (is_unsettled t changes) (is_clear (back changes)) (marks_in lines) in
      let few = clear_unsettled in
      omega (arith, split, few)

pub fresh_law : FreshLaw
fresh_law limit t changes lines s whole = few_unsettled limit t changes lines s whole
