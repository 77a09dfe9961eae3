-- What a node adds to a list: a text, an opener that is met at the limit, an unexpected closer, and a pair.
use Rattle.std.proofs.Common.{◌≡◌, ℕ, ◌+◌, ◌<◌, ◌≤◌, ◌&&◌, ◌||◌, List, [], ◌∷◌, ◌++◌, Bool, true, false, IsTrue}
use Rattle.std.proofs.Common.{Some, refl, sym, ap, ◌∙◌, subst, arith, append_assoc}
use Rattle.text_pos.specs.declared.length.Length.{Length}
use Rattle.text_pos.specs.declared.kinds.Kinds.{Kinds}
use Rattle.text_pos.specs.KindSet.{has_kind}
use Rattle.text_pos.specs.Lengths.{plus, IsLess}
use Rattle.pairing_defs.specs.declared.Role.TheVariants.{Opener, Closer}
use Rattle.pairing_defs.specs.declared.Mark.{Mark}
use Rattle.bracket_marks.specs.MarkedLine.{MarkedLine}
use Rattle.tree_defs.specs.Tree.{Tree, Text, Lone, Pair}
use Rattle.tree_defs.specs.Shape.{length_of, Fits}
use Rattle.tree_defs.specs.Items.{Items, IsOpener, IsWithin, items_then, behind, missed_in, left_by, unclosed, pair}
use Rattle.tree_defs.specs.Items as items
use Rattle.tree_defs.specs.Ends.{in_lines}
use Rattle.reuse_parser.specs.declared.place.Around.{Around}
use Rattle.reuse_parser.specs.Parsing.{start_of, end_of, size_of, next_start, Follow, Stopped, Fine, role_has, front_has}
use Rattle.reuse_parser.specs.Parsing as parsing
use Rattle.reuse_defs.specs.Since.{lengths_of}
use Rattle.reuse_parser.specs.Reusing.{ahead_of, IsIn, Adds, Fills, InLines}
use Rattle.reuse_parser.proofs.Marks.{size_ends, in_line, is_at, not_less_itself, not_both}
use Rattle.reuse_parser.proofs.Single.{holds_next}
use Rattle.reuse_parser.proofs.Pairs.{stands_within, kind_above, above_kept, none_in}
use Rattle.reuse_parser.proofs.Pairs.{Closed, closed_by, pair_long}
use Rattle.reuse_parser.proofs.AheadOf.{follows, holds_ahead, next_keeps, next_within, mark_less, follow_last}
use Rattle.reuse_parser.proofs.AheadOf.{from_plus, less_by}

-- ---- text
pub text_adds : (lines : List MarkedLine) (a : Around) (at len : Length) → IsIn lines a at → a.level ≤ a.limit
    → IsLess at (next_start a.end (ahead_of lines at)) → plus at len ≡ next_start a.end (ahead_of lines at)
    → Fits (next_start a.end (ahead_of lines at))
    → Adds lines a at (Text len false) (next_start a.end (ahead_of lines at))
text_adds lines a at len i room less long fits = record {
  done = [];
  are = sym (next_keeps lines a at i less);
  long = long;
  shallow = omega (arith, room);
  up_to = next_within at a.end (ahead_of lines at) (follows lines a at i);
  later = less;
  runs = (subst (λ p. Fits p) (sym long) fits, tt);
  leads = λ its ms has stop fine0.
      let fine : Fine a has stop its (plus at len) ms = subst (λ p. Fine a has stop its p ms) (sym long) fine0 in
      record {
        stands = record { cuts = []; more = ms; are = refl; cut_ones = refl; lie = tt; rest = fine.stands };
        ends = fine.ends;
        apart = fine.apart;
        passes = fine.passes;
      };
  ends = λ its ends. (
    subst (λ p. in_lines (lengths_of lines) p ≡ true) (sym long)
        (holds_next (in_lines (lengths_of lines)) a.end (ahead_of lines at) (holds_ahead lines a at i)),
    subst (λ p. InLines lines its p) (sym long) ends,
  );
}

-- ---- one mark
pub record IsMet (lines : List MarkedLine) (a : Around) (m : Mark) : Type 0 where
  pub some : m.at.col < m.to
  pub follow : Follow (end_of m) a.end (ahead_of lines (end_of m))
  pub within : ¬ IsLess a.end (end_of m)
  pub ends : in_lines (lengths_of lines) (end_of m) ≡ true

pub met : (lines : List MarkedLine) (a : Around) (m : Mark) → IsIn lines a (start_of m)
    → ahead_of lines (start_of m) ≡ m ∷ ahead_of lines (end_of m) → IsMet lines a m
met lines a m i is =
    let follow : Follow (start_of m) a.end (m ∷ ahead_of lines (end_of m)) =
    subst (λ l. Follow (start_of m) a.end l) is (follows lines a (start_of m) i) in
    let holds : parsing.HoldsAt (in_lines (lengths_of lines)) a.end (m ∷ ahead_of lines (end_of m)) =
    subst (λ l. parsing.HoldsAt (in_lines (lengths_of lines)) a.end l) is (holds_ahead lines a (start_of m) i) in
    record {
      some = follow.1;
      follow = follow.3;
      within = follow_last (end_of m) a.end (ahead_of lines (end_of m)) follow.3;
      ends = holds.1;
    }

-- an opener that is met at the limit
pub cut_adds : (lines : List MarkedLine) (a : Around) (m : Mark) → IsIn lines a (start_of m)
    → ahead_of lines (start_of m) ≡ m ∷ ahead_of lines (end_of m) → a.level ≤ a.limit → a.limit ≤ a.level
    → IsOpener m.role → Fits (end_of m) → Adds lines a (start_of m) (Text (size_of m) true) (end_of m)
cut_adds lines a m i is room full opener fits =
    let t : IsMet lines a m = met lines a m i is in
    let long = size_ends m t.some in record {
      done = m ∷ [];
      are = is;
      long = long;
      shallow = omega (arith, room);
      up_to = t.within;
      later = mark_less m t.some;
      runs = (subst (λ p. Fits p) (sym long) fits, tt);
      ends = λ its ends. (
        subst (λ p. in_lines (lengths_of lines) p ≡ true) (sym long) t.ends,
        subst (λ p. InLines lines its p) (sym long) ends,
      );
      leads = λ its more has stop fine0.
          let fine : Fine a has stop its (plus (start_of m) (size_of m)) more =
          subst (λ p. Fine a has stop its p more) (sym long) fine0 in
          let within : IsWithin (start_of m) (size_of m) m = record {
            from = not_less_itself (start_of m);
            to = subst (λ p. ¬ IsLess p (end_of m)) (sym long) (not_less_itself (end_of m));
          } in
          record {
            stands = record {
              cuts = m ∷ [];
              more = more;
              are = refl;
              cut_ones = (full, (opener, tt));
              lie = (within, tt);
              rest = fine.stands;
            };
            ends = fine.ends;
            apart = fine.apart;
            passes = fine.passes;
          };
    }

-- an unexpected closer
pub lone_adds : (lines : List MarkedLine) (a : Around) (m : Mark) (kinds : Kinds) → IsIn lines a (start_of m)
    → ahead_of lines (start_of m) ≡ m ∷ ahead_of lines (end_of m) → a.level ≤ a.limit → m.role ≡ Closer kinds
    → ¬ ((k : ℕ) × IsTrue (has_kind kinds k && has_kind a.above k)) → Fits (end_of m)
    → Adds lines a (start_of m) (Lone (size_of m) kinds) (end_of m)
lone_adds lines a m kinds i is room role apart fits =
    let t : IsMet lines a m = met lines a m i is in
    let long = size_ends m t.some in record {
      done = m ∷ [];
      are = is;
      long = long;
      shallow = omega (arith, room);
      up_to = t.within;
      later = mark_less m t.some;
      runs = (subst (λ p. Fits p) (sym long) fits, tt);
      ends = λ its ends. (
        in_line m t.some,
        subst (λ p. in_lines (lengths_of lines) p ≡ true) (sym long) t.ends,
        subst (λ p. InLines lines its p) (sym long) ends,
      );
      leads = λ its more has stop fine0.
          let fine : Fine a has stop its (plus (start_of m) (size_of m)) more =
          subst (λ p. Fine a has stop its p more) (sym long) fine0 in
          record {
            stands = record {
              mark = m;
              more = more;
              are = refl;
              place = is_at m t.some;
              role = role;
              rest = fine.stands;
            };
            ends = fine.ends;
            apart = λ k h. subst (λ b. (b || missed_in its k) ≡ false)
                (sym (not_both (has_kind kinds k) (has_kind a.above k) (λ both. apart (k, both)) h)) (fine.apart k h);
            passes = λ n. fine.passes (n + 1);
          };
    }

-- ---- a pair with its closer
both_false : (x y : Bool) → x ≡ false → y ≡ false → (x || y) ≡ false
both_false false y h k = k
both_false true y h k = cc

pub pair_adds : (lines : List MarkedLine) (a b : Around) (m : Mark) (kind : ℕ) (t : Tree) (to : Length) (c : Mark)
    → IsIn lines a (start_of m) → ahead_of lines (start_of m) ≡ m ∷ ahead_of lines (end_of m)
    → a.level < a.limit → m.role ≡ Opener kind → parsing.IsWithin a kind b → IsIn lines b to
    → Fills lines b (end_of m) t to
    → to ≡ start_of c → ahead_of lines to ≡ c ∷ ahead_of lines (end_of c) → role_has c.role kind ≡ true
    → Fits (end_of c) → Adds lines a (start_of m) (Pair (size_of m) kind t (Some (size_of c))) (end_of c)
pair_adds lines a b m kind t to c i is room role w in_b l at_c is_c has_it fits =
    let x : IsMet lines a m = met lines a m i is in
    let in_c : IsIn lines b (start_of c) = subst (λ p. IsIn lines b p) at_c in_b in
    let y : IsMet lines b c = met lines b c in_c
    (subst (λ p. ahead_of lines p ≡ c ∷ ahead_of lines (end_of c)) at_c is_c) in
    let closed : Closed c kind = closed_by c kind c.role refl has_it in
    let inside = items_then t items.end in
    let begins = size_ends m x.some in
    let long = pair_long m c (length_of t) to x.some y.some l.long at_c in
    let last_at : behind inside (plus (start_of m) (size_of m)) ≡ start_of c =
    ap (λ p. behind inside p) begins ∙ l.fine.ends ∙ at_c in
    let last_ends : plus (behind inside (plus (start_of m) (size_of m))) (size_of c) ≡ end_of c =
    ap (λ p. plus p (size_of c)) last_at ∙ size_ends c y.some in
    record {
      done = m ∷ (l.done ++ c ∷ []);
      are = is ∙ ap (λ ms. m ∷ ms) (l.are ∙ ap (λ ms. l.done ++ ms) is_c
          ∙ sym (append_assoc l.done (c ∷ []) (ahead_of lines (end_of c))));
      long = long;
      shallow = omega (arith, l.shallow, w.level, w.limit);
      up_to = subst (λ p. ¬ IsLess p (end_of c)) w.last y.within;
      later = less_later m c x.some y.some (subst (λ p. ¬ IsLess p (end_of m)) at_c (inner_later m t to l.long));
      runs = (subst (λ p. Fits p) (sym long) fits, tt);
      ends = λ its rest_ends. (
        in_line m x.some,
        subst (λ p. in_lines (lengths_of lines) p ≡ true) (sym begins) x.ends,
        subst (λ p. InLines lines inside p) (sym begins) l.ends,
        in_line c y.some,
        subst (λ p. in_lines (lengths_of lines) p ≡ true) (sym last_ends) y.ends,
        subst (λ p. InLines lines its p) (sym last_ends) rest_ends,
      );
      leads = λ its ms has stop fine0.
          let within : Fine b (front_has (c ∷ ahead_of lines (end_of c))) to inside (plus (start_of m) (size_of m))
          l.done =
          subst (λ p. Fine b (front_has (c ∷ ahead_of lines (end_of c))) to inside p l.done) (sym begins)
          (subst (λ ms2. Fine b (front_has ms2) to inside (end_of m) l.done) is_c l.fine) in
          let fine : Fine a has stop its (plus (behind inside (plus (start_of m) (size_of m))) (size_of c)) ms =
          subst (λ p. Fine a has stop its p ms) (sym last_ends) fine0 in
          record {
            stands = record {
              mark = m;
              within = l.done;
              last = c;
              more = ms;
              kinds = closed.kinds;
              are = ap (λ z. m ∷ z) (append_assoc l.done (c ∷ []) ms);
              place = is_at m x.some;
              role = role;
              room = room;
              held = stands_within a b kind inside (plus (start_of m) (size_of m)) l.done w within.stands;
              not_missed = within.apart kind (kind_above a b kind w);
              last_place = subst (λ p. items.IsAt c p (size_of c)) (sym last_at) (is_at c y.some);
              last_role = closed.role;
              takes = closed.takes;
              passes = λ n. none_in (front_has (c ∷ ahead_of lines (end_of c))) closed.kinds (left_by n inside)
                  (λ k. ap (λ r. role_has r k) closed.role) (within.passes n);
              rest = fine.stands;
            };
            ends = fine.ends;
            apart = λ k h. both_false (missed_in inside k) (missed_in its k)
                (within.apart k (above_kept a b kind k w h)) (fine.apart k h);
            passes = λ n. fine.passes (n + 1 + items.rows_in inside + 1);
          };
    }
  where
    inner_later : (m : Mark) (t : Tree) (to : Length) → plus (end_of m) (length_of t) ≡ to → ¬ IsLess to (end_of m)
    inner_later m t to long = subst (λ p. ¬ IsLess p (end_of m)) long (from_plus (end_of m) (length_of t))

    less_later : (m c : Mark) → m.at.col < m.to → c.at.col < c.to → ¬ IsLess (start_of c) (end_of m)
        → IsLess (start_of m) (end_of c)
    less_later m c some last from = less_by (start_of m) (end_of m) (start_of c) (end_of c) (mark_less m some) from
        (mark_less c last)
