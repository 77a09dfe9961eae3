-- Marks of the old text that lie before the next change, and what they are in the new text.
use Rattle.std.proofs.Common.{◌≡◌, ◌-◌, ◌<◌, ◌&&◌, ◌||◌, not, inl, inr, List, [], ◌∷◌, ◌++◌, map, filter, cond, Bool}
use Rattle.std.proofs.Common.{true, false, refl, sym, ap, ◌∙◌, subst, arith}
use Rattle.std.proofs.lemmas.Bool.Decides.{nat_tests}
use Rattle.std.specs.List.{list_all}
use Rattle.text_pos.specs.declared.length.Length.{Length}
use Rattle.text_pos.specs.Lengths.{plus, IsLess}
use Rattle.pairing_defs.specs.declared.Mark.{Mark}
use Rattle.mark_source.specs.Source.{is_before, marks_from}
use Rattle.mark_source.proofs.Ahead.{kept_by}
use Rattle.tree_defs.specs.Rows.{place}
use Rattle.tree_defs.proofs.Lengths.{same_length}
use Rattle.change_defs.specs.declared.Joint.{Joint}
use Rattle.change_defs.specs.declared.Placed.{Placed}
use Rattle.change_defs.specs.Changes.{is_less, rest_of, carried}
use Rattle.change_defs.specs.Changes.{end_before}
use Rattle.change_defs.specs.Agreement.{is_clear, is_clear_of}
use Rattle.change_laws.specs.Chains.{Chain}
use Rattle.change_laws.proofs.Order.{less_not_back, up_then_up, plus_rest}
use Rattle.change_laws.proofs.Order.{rest_plus}
use Rattle.change_laws.proofs.Chains.{carried_order, is_or, passed}
use Rattle.change_laws.proofs.Chains.{none_passed, image_not_before}
use Rattle.reuse_parser.specs.Parsing.{start_of, end_of, Follow}
use Rattle.reuse_parser.proofs.AheadOf.{all_from, less_up_to, mark_less, up_to, not_less_by}

-- ---- orders
pub not_is_less : (a b : Length) → ¬ IsLess a b → is_less a b ≡ false
not_is_less a b none = by (is_less a b) refl
  where
    by : (x : Bool) → is_less a b ≡ x → is_less a b ≡ false
    by false h = h
    by true h = absurd (none (less h))
      where
        less : is_less a b ≡ true → IsLess a b
        less h = grind (arith, nat_tests)

pub less_is : (a b : Length) → IsLess a b → is_less a b ≡ true
less_is a b (inl h) = grind (arith, nat_tests)
less_is a b (inr h) = let l = h.0 in let c = h.1 in grind (arith, nat_tests)

pub is_less_not : (a b : Length) → is_less a b ≡ false → ¬ IsLess a b
is_less_not a b h = not_less_by a b h

-- ---- a clear mark before a place lies before it when it is moved
-- a mark's length
abbrev pub size : Mark → Length
size m = record { lines = 0; cols = m.to - m.at.col }

mark_ends : (m : Mark) → m.at.col < m.to → plus (start_of m) (size m) ≡ end_of m
mark_ends m some = same_length _ _ refl (omega (arith, some))

-- behind a joint, the end of a mark is carried to where the mark ends that is carried
carried_end : (joint : Joint) (m : Mark) → m.at.col < m.to → is_less (start_of m) joint.old ≡ false
    → carried joint (end_of m) ≡ plus (carried joint (start_of m)) (size m)
carried_end joint m some h =
    let rest : rest_of (end_of m) joint.old ≡ plus (rest_of (start_of m) joint.old) (size m) =
    ap (λ p. rest_of p joint.old) (sym (mark_ends m some))
    ∙ ap (λ p. rest_of (plus p (size m)) joint.old) (sym (plus_rest joint.old (start_of m) h))
    ∙ ap (λ p. rest_of p joint.old) (plus_more joint.old (rest_of (start_of m) joint.old) (size m))
    ∙ rest_plus joint.old (plus (rest_of (start_of m) joint.old) (size m)) in
    ap (λ p. plus joint.new p) rest ∙ sym (plus_more joint.new (rest_of (start_of m) joint.old) (size m))
  where
    plus_more : (a b c : Length) → plus (plus a b) c ≡ plus a (plus b c)
    plus_more a b c = same_length _ _ (grind (arith, nat_tests)) (grind (arith, nat_tests))

pub and_left : (a b : Bool) → (a && b) ≡ true → a ≡ true
and_left true b h = refl
and_left false b h = cc

pub and_right : (a b : Bool) → (a && b) ≡ true → b ≡ true
and_right true b h = h
and_right false b h = cc

early_clear : (a b : Bool) → (not a || not b) ≡ true → b ≡ true → a ≡ false
early_clear true true h k = cc
early_clear true false h k = cc
early_clear false b h k = refl

pub ends_before : (joint : Joint) (ps : List Placed) (m : Mark) (o : Length) → Chain joint ps → m.at.col < m.to
    → is_less (start_of m) joint.old ≡ false → is_clear ps m ≡ true → is_less o (end_of m) ≡ false
    → is_less (carried (end_before joint ps o) o) (plus (carried (end_before joint ps (start_of m)) (start_of m)) (size m))
    ≡ false
ends_before joint [] m o c some from clear up =
    subst (λ p. is_less (carried joint o) p ≡ false) (carried_end joint m some from)
    (carried_order joint o (end_of m) (later joint m o some from up) (end_from joint m some from) ∙ up)
  where
    end_from : (joint : Joint) (m : Mark) → m.at.col < m.to → is_less (start_of m) joint.old ≡ false
        → is_less (end_of m) joint.old ≡ false
    end_from joint m some from = up_then_up joint.old (start_of m) (end_of m) from
        (less_not_back (start_of m) (end_of m) (less_is (start_of m) (end_of m) (mark_less m some)))

    later : (joint : Joint) (m : Mark) (o : Length) → m.at.col < m.to → is_less (start_of m) joint.old ≡ false
        → is_less o (end_of m) ≡ false → is_less o joint.old ≡ false
    later joint m o some from up = up_then_up joint.old (end_of m) o (end_from joint m some from) up
ends_before joint (p ∷ ps) m o c some from clear up = elim (is_or (is_less (start_of m) p.to.old)) [
  | inl early ↦
      let end_early : is_less p.from.old (end_of m) ≡ false =
      early_clear (is_less p.from.old (end_of m)) (is_less (start_of m) p.to.old)
      (and_left (is_clear_of p m) (is_clear ps m) clear) early in
      let mark_behind : is_less (end_of m) (start_of m) ≡ false =
      less_not_back (start_of m) (end_of m) (less_is (start_of m) (end_of m) (mark_less m some)) in
      let end_from : is_less (end_of m) joint.old ≡ false =
      up_then_up joint.old (start_of m) (end_of m) from mark_behind in
      let o_from : is_less o joint.old ≡ false = up_then_up joint.old (end_of m) o end_from up in
      let is : plus (carried (end_before joint (p ∷ ps) (start_of m)) (start_of m)) (size m) ≡ carried joint (end_of m) =
      ap (λ (j : Joint). plus (carried j (start_of m)) (size m)) (none_passed joint p ps (start_of m) c early)
      ∙ sym (carried_end joint m some from) in
      subst (λ q. is_less (carried (end_before joint (p ∷ ps) o) o) q ≡ false) (sym is)
      (elim (is_or (is_less o p.to.old)) [
        | inl o_early ↦ subst (λ (j : Joint). is_less (carried j o) (carried joint (end_of m)) ≡ false)
            (sym (none_passed joint p ps o c o_early))
            (carried_order joint o (end_of m) o_from end_from ∙ up)
        | inr o_late ↦ subst (λ (j : Joint). is_less (carried j o) (carried joint (end_of m)) ≡ false)
            (sym (passed joint p ps o o_late))
            (up_then_up (carried joint (end_of m)) p.to.new (carried (end_before p.to ps o) o)
            (up_then_up (carried joint (end_of m)) p.from.new p.to.new
            (subst (λ q. is_less q (carried joint (end_of m)) ≡ false) (sym c.0.even)
            (carried_order joint p.from.old (end_of m) c.0.old_start end_from ∙ end_early)) c.0.new_end)
            (image_not_before p.to ps o c.1 o_late))
      ])
  | inr late ↦
      let o_late : is_less o p.to.old ≡ false =
      up_then_up p.to.old (end_of m) o
      (up_then_up p.to.old (start_of m) (end_of m) late
      (less_not_back (start_of m) (end_of m) (less_is (start_of m) (end_of m) (mark_less m some)))) up in
      subst (λ (j : Joint). is_less (carried j o)
      (plus (carried (end_before joint (p ∷ ps) (start_of m)) (start_of m)) (size m)) ≡ false)
      (sym (passed joint p ps o o_late))
      (subst (λ (j : Joint). is_less (carried (end_before p.to ps o) o) (plus (carried j (start_of m)) (size m)) ≡ false)
      (sym (passed joint p ps (start_of m) late))
      (ends_before p.to ps m o c.1 some late (and_right (is_clear_of p m) (is_clear ps m) clear) up))
]

-- ---- texts of marks
abbrev pub in_range : Length → Length → Mark → Bool
in_range at to m = not (is_before m.at (place at)) && is_before m.at (place to)

filter_by : (f : Mark → Bool) (m : Mark) (ms : List Mark) (b : Bool) → f m ≡ b
    → filter f (m ∷ ms) ≡ cond b (m ∷ filter f ms) (filter f ms)
filter_by f m ms b h = ap (λ t. cond t (m ∷ filter f ms) (filter f ms)) h

pub range_by : (at to : Length) (m : Mark) (b c : Bool) → is_before m.at (place at) ≡ b → is_before m.at (place to) ≡ c
    → in_range at to m ≡ (not b && c)
range_by at to m b c h k = ap (λ x. not x && is_before m.at (place to)) h ∙ ap (λ x. not b && x) k

-- from a place on there is none before it
none_in_range : (at to : Length) (q last : Length) (ms : List Mark) → Follow q last ms → ¬ IsLess q to
    → filter (in_range at to) ms ≡ []
none_in_range at to q last [] follow up = refl
none_in_range at to q last (m ∷ ms) follow up =
    let from : is_less (start_of m) to ≡ false = not_is_less (start_of m) to (up_to to q (start_of m) up follow.0) in
    filter_by (in_range at to) m ms false (by (is_before m.at (place at)) refl from)
    ∙ none_in_range at to (end_of m) last ms follow.3
    (up_to to (start_of m) (end_of m) (up_to to q (start_of m) up follow.0)
    (less_up_to (start_of m) (end_of m) (mark_less m follow.1)))
  where
    by : (b : Bool) → is_before m.at (place at) ≡ b → is_less (start_of m) to ≡ false → in_range at to m ≡ false
    by true h k = range_by at to m true false h k
    by false h k = range_by at to m false false h k

-- the marks from a place on are those up to another place, and those from there on
pub range_splits : (at to : Length) (q last : Length) (ms : List Mark) → Follow q last ms → ¬ IsLess to at
    → marks_from (place at) ms ≡ filter (in_range at to) ms ++ marks_from (place to) ms
range_splits at to q last [] follow up = refl
range_splits at to q last (m ∷ ms) follow up =
    by (range_splits at to (end_of m) last ms follow.3 up) (is_before m.at (place at)) (is_before m.at (place to)) refl
    refl
  where
    further : is_before m.at (place to) ≡ false → ¬ IsLess (end_of m) to
    further k = up_to to (start_of m) (end_of m) (is_less_not (start_of m) to k)
        (less_up_to (start_of m) (end_of m) (mark_less m follow.1))

    by : marks_from (place at) ms ≡ filter (in_range at to) ms ++ marks_from (place to) ms → (b c : Bool)
        → is_before m.at (place at) ≡ b → is_before m.at (place to) ≡ c
        → marks_from (place at) (m ∷ ms) ≡ filter (in_range at to) (m ∷ ms) ++ marks_from (place to) (m ∷ ms)
    by later true true h k = kept_by m ms (place at) true h ∙ later
        ∙ ap (λ l. l ++ marks_from (place to) ms)
        (sym (filter_by (in_range at to) m ms false (range_by at to m true true h k)))
        ∙ ap (λ l. filter (in_range at to) (m ∷ ms) ++ l) (sym (kept_by m ms (place to) true k))
    by later true false h k = absurd (not_both h k)
      where
        not_both : is_before m.at (place at) ≡ true → is_before m.at (place to) ≡ false → ⊥
        not_both h k = let e = sym h ∙ not_is_less (start_of m) at (up_to at to (start_of m) up
            (is_less_not (start_of m) to k)) in cc
    by later false true h k = kept_by m ms (place at) false h ∙ ap (λ l. m ∷ l) later
        ∙ ap (λ l. l ++ marks_from (place to) ms)
        (sym (filter_by (in_range at to) m ms true (range_by at to m false true h k)))
        ∙ ap (λ l. filter (in_range at to) (m ∷ ms) ++ l) (sym (kept_by m ms (place to) true k))
    by later false false h k = kept_by m ms (place at) false h
        ∙ ap (λ l. m ∷ l) (all_from (end_of m) at last ms follow.3 (up_to at to (end_of m) up (further k)))
        ∙ sym (ap (λ l. l ++ marks_from (place to) (m ∷ ms))
        (filter_by (in_range at to) m ms false (range_by at to m false false h k)
        ∙ none_in_range at to (end_of m) last ms follow.3 (further k))
        ∙ kept_by m ms (place to) false k
        ∙ ap (λ l. m ∷ l) (all_from (end_of m) to last ms follow.3 (further k)))

-- what a test keeps that only passes what another passes
pub kept_twice : (f g h : Mark → Bool) → ((m : Mark) → h m ≡ true → f m ≡ true → g m ≡ true) → (ms : List Mark)
    → list_all h ms ≡ true → filter f ms ≡ filter f (filter g ms)
kept_twice f g h so [] all = refl
kept_twice f g h so (m ∷ ms) all = by (kept_twice f g h so ms (and_right (h m) (list_all h ms) all)) (f m) (g m) refl refl
  where
    by : filter f ms ≡ filter f (filter g ms) → (b c : Bool) → f m ≡ b → g m ≡ c
        → filter f (m ∷ ms) ≡ filter f (filter g (m ∷ ms))
    by later true true x y = filter_by f m ms true x ∙ ap (λ l. m ∷ l) later
        ∙ sym (ap (λ l. filter f l) (filter_by g m ms true y) ∙ filter_by f m (filter g ms) true x)
    by later true false x y = let e = sym (so m (and_left (h m) (list_all h ms) all) x) ∙ y in absurd (cc)
    by later false true x y = filter_by f m ms false x ∙ later
        ∙ sym (ap (λ l. filter f l) (filter_by g m ms true y) ∙ filter_by f m (filter g ms) false x)
    by later false false x y = filter_by f m ms false x ∙ later ∙ sym (ap (λ l. filter f l) (filter_by g m ms false y))

-- ---- marks that are moved, of which a test is asked
abbrev pub Kept : (Mark → Bool) → (Mark → Bool) → (Mark → Mark) → List Mark → List Mark
Kept p c mv ms = filter p (map mv (filter c ms))

pub kept_no : (p c : Mark → Bool) (mv : Mark → Mark) (m : Mark) (ms : List Mark) → (c m ≡ true → p (mv m) ≡ false)
    → Kept p c mv (m ∷ ms) ≡ Kept p c mv ms
kept_no p c mv m ms none = by (c m) refl
  where
    by : (b : Bool) → c m ≡ b → Kept p c mv (m ∷ ms) ≡ Kept p c mv ms
    by true h = ap (λ l. filter p (map mv l)) (filter_by c m ms true h)
        ∙ filter_by p (mv m) (map mv (filter c ms)) false (none h)
    by false h = ap (λ l. filter p (map mv l)) (filter_by c m ms false h)

pub kept_yes : (p c : Mark → Bool) (mv : Mark → Mark) (m : Mark) (ms : List Mark) → c m ≡ true → p (mv m) ≡ true
    → Kept p c mv (m ∷ ms) ≡ mv m ∷ Kept p c mv ms
kept_yes p c mv m ms h k = ap (λ l. filter p (map mv l)) (filter_by c m ms true h)
    ∙ filter_by p (mv m) (map mv (filter c ms)) true k

abbrev pub AllSome : List Mark → Type 0
AllSome [] = Unit {0}
AllSome (m ∷ ms) = (m.at.col < m.to) × AllSome ms

pub some_front : (xs ys : List Mark) → AllSome (xs ++ ys) → AllSome xs
some_front [] ys all = tt
some_front (x ∷ xs) ys all = (all.0, some_front xs ys all.1)

pub some_back : (xs ys : List Mark) → AllSome (xs ++ ys) → AllSome ys
some_back [] ys all = all
some_back (x ∷ xs) ys all = some_back xs ys all.1

pub follow_some : (q last : Length) (ms : List Mark) → Follow q last ms → AllSome ms
follow_some q last [] follow = tt
follow_some q last (m ∷ ms) follow = (follow.1, follow_some (end_of m) last ms follow.3)
