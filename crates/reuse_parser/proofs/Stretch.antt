-- From a place of the new text up to another, with no change between: the marks there are those of the old text, moved.
use Rattle.std.proofs.Common.{◌≡◌, ℕ, ◌+◌, ◌-◌, ◌<◌, ◌&&◌, ◌||◌, not, List, [], ◌∷◌, ◌++◌, map, filter, Bool, true, false}
use Rattle.std.proofs.Common.{Option, Some, None, refl, sym, ap, ◌∙◌, subst, arith, append-nil}
use Rattle.std.specs.List.{list_all}
use Rattle.text_pos.specs.declared.length.Length.{Length}
use Rattle.text_pos.specs.Lengths.{plus, IsLess}
use Rattle.pairing_defs.specs.declared.Mark.{Mark}
use Rattle.mark_source.specs.Source.{is_before, marks_from}
use Rattle.tree_defs.specs.Shape.{no_length}
use Rattle.tree_defs.specs.Rows.{place}
use Rattle.tree_defs.proofs.Lengths.{same_length, plus_none}
use Rattle.tree_defs.proofs.Move.{IsMoved, AreMoved}
use Rattle.change_defs.specs.declared.Change.{Change}
use Rattle.change_defs.specs.declared.Placed.{Placed}
use Rattle.change_defs.specs.Changes.{is_less, rest_of, first_joint, are_in_order, placed, back, is_inside, image}
use Rattle.change_defs.specs.Changes.{before, distance}
use Rattle.change_defs.specs.Agreement.{is_clear, is_clear_of, is_within, is_uncut, moved}
use Rattle.change_laws.specs.Chains.{has_room, is_within_room}
use Rattle.change_laws.proofs.Order.{less_not_back, less_then_up, up_then_less, up_then_up, plus_rest, rest_plus}
use Rattle.change_laws.proofs.Order.{plus_not_less, plus_less}
use Rattle.change_laws.proofs.Chains.{chain_of, nothing_before}
use Rattle.change_laws.proofs.Rooms.{apart, new_apart_there}
use Rattle.change_laws.proofs.PlaceLaws.{images_rise, room_law, old_mark_law, outside_and_origin}
use Rattle.reuse_parser.specs.Parsing.{start_of, end_of, Follow}
use Rattle.reuse_parser.proofs.AheadOf.{from_plus, mark_less}
use Rattle.reuse_parser.proofs.Within.{AllFrom, AllUpTo}
use Rattle.reuse_parser.proofs.Moved.{not_is_less, less_is, ends_before, in_range, range_by, range_splits, kept_twice, Kept}
use Rattle.reuse_parser.proofs.Moved.{kept_no, kept_yes, AllSome, size, and_left, and_right}

-- ---- room
shorter_room : (r : Option Length) (d len : Length) → is_less len d ≡ false → has_room r len ≡ true → has_room r d ≡ true
shorter_room None d len up room = refl
shorter_room (Some r) d len up room = up_then_less d len r up room

within_room : (r : Option Length) (d len : Length) → is_less len d ≡ false → has_room r len ≡ true
    → is_within_room r d ≡ true
within_room None d len up room = refl
within_room (Some r) d len up room = ap (λ b. not b) (less_not_back d r (up_then_less d len r up room))

not_true : (b : Bool) → not b ≡ true → b ≡ false
not_true true h = cc
not_true false h = refl

none_more : (len : Length) → is_less len no_length ≡ false
none_more len = nothing_before len

-- ---- a new mark in such a stretch is clear of all changes
one_clear : (at to : Length) (m : Mark) (p : Placed) → is_less (start_of m) at ≡ false → is_less (start_of m) to ≡ true
    → apart at to p ≡ true → (is_clear_of p m || is_within p m) ≡ true → is_clear_of p m ≡ true
one_clear at to m p from less far uncut =
    by (is_less p.from.old to) (is_less at p.to.old) refl refl
  where
    late : is_less at p.to.old ≡ false → is_clear_of p m ≡ true
    late h = or_right (not (is_less p.from.old (end_of m))) (is_less (start_of m) p.to.old)
        (up_then_up p.to.old at (start_of m) h from)
      where
        or_right : (a b : Bool) → b ≡ false → (a || not b) ≡ true
        or_right true b h = refl
        or_right false true h = cc
        or_right false false h = refl

    early : is_less p.from.old to ≡ false → is_clear_of p m ≡ true
    early h = first_of (is_clear_of p m) (is_less (start_of m) p.from.old) (not (is_less p.to.old (end_of m)))
        (less_then_up (start_of m) to p.from.old less h) uncut
      where
        first_of : (a b c : Bool) → b ≡ true → (a || (not b && c)) ≡ true → a ≡ true
        first_of true b c h k = refl
        first_of false true c h k = cc
        first_of false false c h k = cc

    by : (b c : Bool) → is_less p.from.old to ≡ b → is_less at p.to.old ≡ c → is_clear_of p m ≡ true
    by false c h k = early h
    by true false h k = late k
    by true true h k = absurd (none (is_less p.from.old to) (is_less at p.to.old) h k far)
      where
        none : (b c : Bool) → b ≡ true → c ≡ true → (not b || not c) ≡ true → ⊥
        none true true h k far = cc
        none true false h k far = cc
        none false c h k far = cc

all_clear : (at to : Length) (m : Mark) (ps : List Placed) → is_less (start_of m) at ≡ false
    → is_less (start_of m) to ≡ true → list_all (apart at to) ps ≡ true → is_uncut ps m ≡ true → is_clear ps m ≡ true
all_clear at to m [] from less far uncut = refl
all_clear at to m (p ∷ ps) from less far uncut =
    both (is_clear_of p m) (is_clear ps m)
    (one_clear at to m p from less (and_left (apart at to p) (list_all (apart at to) ps) far)
    (and_left (is_clear_of p m || is_within p m) (is_uncut ps m) uncut))
    (all_clear at to m ps from less (and_right (apart at to p) (list_all (apart at to) ps) far)
    (and_right (is_clear_of p m || is_within p m) (is_uncut ps m) uncut))
  where
    both : (a b : Bool) → a ≡ true → b ≡ true → (a && b) ≡ true
    both true b h k = k
    both false b h k = cc

module _ (cs : List Change) (at o len : Length) (order : are_in_order cs ≡ true) (is : before cs at ≡ Some o)
    (room : has_room (distance cs at) len ≡ true) where
  -- ---- places
  pub image_there : (d : Length) → is_less len d ≡ false → image cs (plus o d) ≡ plus at d
  image_there d up = (room_law cs at o d order is (shorter_room (distance cs at) d len up room)).1

  pub outside_there : (d : Length) → is_less len d ≡ false → is_inside (placed cs) (plus o d) ≡ false
  outside_there d up = (room_law cs at o d order is (shorter_room (distance cs at) d len up room)).0

  image_first : image cs o ≡ at
  image_first = ap (λ p. image cs p) (sym (plus_none o)) ∙ image_there no_length (none_more len) ∙ plus_none at

  len_itself : is_less len len ≡ false
  len_itself = not_is_less len len (λ h. absurd (itself len h))
    where
      itself : (a : Length) → ¬ IsLess a a
      itself a h = grind (arith, h)

  -- ---- the marks before it
  pre_no : (m : Mark) → m.at.col < m.to → ¬ IsLess o (end_of m) → is_clear (placed cs) m ≡ true
      → in_range at (plus at len) (moved cs m) ≡ false
  pre_no m some up clear =
      let ends : is_less at (plus (image cs (start_of m)) (size m)) ≡ false =
      subst (λ p. is_less p (plus (image cs (start_of m)) (size m)) ≡ false) image_first
      (ends_before first_joint (placed cs) m o (chain_of cs order) some (nothing_before (start_of m)) clear
      (not_is_less o (end_of m) up)) in
      let takes : is_less (image cs (start_of m)) (plus (image cs (start_of m)) (size m)) ≡ true =
      ap (λ p. is_less p (plus (image cs (start_of m)) (size m))) (sym (plus_none (image cs (start_of m))))
      ∙ plus_less (image cs (start_of m)) no_length (size m) ∙ less_is no_length (size m) (some_size m some) in
      range_by at (plus at len) (moved cs m) true (is_before (moved cs m).at (place (plus at len)))
      (less_then_up (image cs (start_of m)) (plus (image cs (start_of m)) (size m)) at takes ends) refl
    where
      some_size : (m : Mark) → m.at.col < m.to → IsLess no_length (size m)
      some_size m some = grind (arith, some)

  pre_none : (ms rest : List Mark) → AllUpTo o ms → AllSome ms
      → Kept (in_range at (plus at len)) (is_clear (placed cs)) (moved cs) (ms ++ rest)
      ≡ Kept (in_range at (plus at len)) (is_clear (placed cs)) (moved cs) rest
  pre_none [] rest up some = refl
  pre_none (m ∷ ms) rest up some =
      kept_no (in_range at (plus at len)) (is_clear (placed cs)) (moved cs) m (ms ++ rest)
      (λ clear. pre_no m some.0 up.0 clear) ∙ pre_none ms rest up.1 some.1

  -- ---- those in it
  pub record Mid (m : Mark) : Type 0 where
    pub clear : is_clear (placed cs) m ≡ true
    pub kept : in_range at (plus at len) (moved cs m) ≡ true
    pub goes : IsMoved o at m (moved cs m)

  mid_one : (m : Mark) → m.at.col < m.to → ¬ IsLess (start_of m) o → ¬ IsLess (plus o len) (end_of m) → Mid m
  mid_one m some low high =
      let from = rest_of (start_of m) o in
      let to = rest_of (end_of m) o in
      let s : start_of m ≡ plus o from = sym (plus_rest o (start_of m) (not_is_less (start_of m) o low)) in
      let takes : is_less (start_of m) (end_of m) ≡ true = less_is (start_of m) (end_of m) (mark_less m some) in
      let e : end_of m ≡ plus o to =
      sym (plus_rest o (end_of m) (up_then_up o (start_of m) (end_of m) (not_is_less (start_of m) o low)
      (less_not_back (start_of m) (end_of m) takes))) in
      let less : is_less from to ≡ true =
      sym (plus_less o from to) ∙ ap (λ l. is_less l (plus o to)) (sym s) ∙ ap (λ l. is_less (start_of m) l) (sym e)
      ∙ takes in
      let up : is_less len to ≡ false =
      sym (plus_less o len to) ∙ ap (λ l. is_less (plus o len) l) (sym e) ∙ not_is_less (plus o len) (end_of m) high in
      let law = old_mark_law cs at o from to m order is less (within_room (distance cs at) to len up room) s e in
      let starts : image cs (start_of m) ≡ plus at from = law.1 in
      record {
        clear = law.0;
        kept = range_by at (plus at len) (moved cs m) false true
            (ap (λ l. is_less l at) starts ∙ plus_not_less at from)
            (ap (λ l. is_less l (plus at len)) starts ∙ plus_less at from len ∙ less_then_up from to len less up);
        goes = record {
          same = λ d l ia.
              let there : image cs (start_of m) ≡ plus at d =
              starts ∙ ap (λ p. plus at (rest_of p o)) (same_length (start_of m) (plus o d) ia.line ia.col)
              ∙ ap (λ p. plus at p) (rest_plus o d) in
              let cols : (image cs (start_of m)).cols ≡ (plus at d).cols = ap (λ (p : Length). p.cols) there in
              let to_old = ia.to in let col_old = ia.col in
              record {
                line = ap (λ (p : Length). p.lines) there;
                col = cols;
                to = ends_there (image cs (start_of m)).cols (plus at d).cols m.to m.at.col (plus o d).cols l.cols cols
                    to_old col_old;
              };
          role = refl;
        };
      }
    where
      ends_there : (a b to col c l : ℕ) → a ≡ b → to ≡ c + l → col ≡ c → a + (to - col) ≡ b + l
      ends_there a b to col c l h k j = omega (arith, h, k, j)

  mid_all : (ms rest : List Mark) → AllFrom o ms → AllUpTo (plus o len) ms → AllSome ms
      → Kept (in_range at (plus at len)) (is_clear (placed cs)) (moved cs) (ms ++ rest)
      ≡ map (moved cs) ms ++ Kept (in_range at (plus at len)) (is_clear (placed cs)) (moved cs) rest
  mid_all [] rest low high some = refl
  mid_all (m ∷ ms) rest low high some =
      let x : Mid m = mid_one m some.0 low.0 high.0 in
      kept_yes (in_range at (plus at len)) (is_clear (placed cs)) (moved cs) m (ms ++ rest) x.clear x.kept
      ∙ ap (λ l. moved cs m ∷ l) (mid_all ms rest low.1 high.1 some.1)

  pub mid_moved : (ms : List Mark) → AllFrom o ms → AllUpTo (plus o len) ms → AllSome ms
      → AreMoved o at ms (map (moved cs) ms)
  mid_moved [] low high some = tt
  mid_moved (m ∷ ms) low high some =
      let x : Mid m = mid_one m some.0 low.0 high.0 in (x.goes, mid_moved ms low.1 high.1 some.1)

  -- ---- and those behind it
  post_no : (m : Mark) → ¬ IsLess (start_of m) (plus o len) → in_range at (plus at len) (moved cs m) ≡ false
  post_no m from =
      let up : is_less (image cs (start_of m)) (plus at len) ≡ false =
      subst (λ p. is_less (image cs (start_of m)) p ≡ false) (image_there len len_itself)
      (images_rise cs (plus o len) (start_of m) order (outside_there len len_itself)
      (not_is_less (start_of m) (plus o len) from)) in
      range_by at (plus at len) (moved cs m) (is_before (moved cs m).at (place at)) false refl up
      ∙ and_false (not (is_before (moved cs m).at (place at)))
    where
      and_false : (b : Bool) → (b && false) ≡ false
      and_false true = refl
      and_false false = refl

  post_none : (ms : List Mark) → AllFrom (plus o len) ms
      → Kept (in_range at (plus at len)) (is_clear (placed cs)) (moved cs) ms ≡ []
  post_none [] from = refl
  post_none (m ∷ ms) from =
      kept_no (in_range at (plus at len)) (is_clear (placed cs)) (moved cs) m ms (λ clear. post_no m from.0)
      ∙ post_none ms from.1

  -- ---- all together
  new_clear : (m : Mark) → is_uncut (back cs) m ≡ true → in_range at (plus at len) m ≡ true
      → is_clear (back cs) m ≡ true
  new_clear m uncut there =
      all_clear at (plus at len) m (back cs)
      (not_true (is_less (start_of m) at)
      (and_left (not (is_before m.at (place at))) (is_before m.at (place (plus at len))) there))
      (and_right (not (is_before m.at (place at))) (is_before m.at (place (plus at len))) there)
      (subst (λ p. list_all (apart p (plus at len)) (back cs) ≡ true) (plus_none at)
      (new_apart_there first_joint (placed cs) at no_length len (chain_of cs order) (outside_and_origin cs at o is).0
      (within_room (distance cs at) len len len_itself room)))
      uncut

  pub marks_there : (news olds pre mid post : List Mark) (q last : Length) → Follow q last news
      → list_all (is_uncut (back cs)) news ≡ true
      → map (moved cs) (filter (is_clear (placed cs)) olds) ≡ filter (is_clear (back cs)) news
      → olds ≡ pre ++ (mid ++ post) → AllUpTo o pre → AllSome pre → AllFrom o mid → AllUpTo (plus o len) mid
      → AllSome mid → AllFrom (plus o len) post
      → marks_from (place at) news ≡ map (moved cs) mid ++ marks_from (place (plus at len)) news
  marks_there news olds pre mid post q last follow uncut same are low pre_some from to mid_some high =
      range_splits at (plus at len) q last news follow (from_plus at len)
      ∙ ap (λ l. l ++ marks_from (place (plus at len)) news)
      (kept_twice (in_range at (plus at len)) (is_clear (back cs)) (is_uncut (back cs)) new_clear news uncut
      ∙ ap (λ l. filter (in_range at (plus at len)) l) (sym same)
      ∙ ap (λ l. Kept (in_range at (plus at len)) (is_clear (placed cs)) (moved cs) l) are
      ∙ pre_none pre (mid ++ post) low pre_some
      ∙ mid_all mid post from to mid_some
      ∙ ap (λ l. map (moved cs) mid ++ l) (post_none post high)
      ∙ append-nil (map (moved cs) mid))
