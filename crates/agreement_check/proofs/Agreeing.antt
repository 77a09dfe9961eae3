-- A test of finitely many places shows that all places agree.
use Rattle.std.proofs.Common.{◌≡◌, ℕ, zero, suc, ◌+◌, ◌<◌, ◌≤◌, ◌||◌, ◌^◌, Bool, true, false, List, [], ◌∷◌, length, map, Option, Some, None}
use Rattle.std.proofs.Common.{refl, sym, ap, ◌∙◌, subst, slice_get, arith, inl, inr}
use Rattle.std.specs.List.{list_all}
use Rattle.std.proofs.lemmas.Bool.{and_from}
use Rattle.std.proofs.lemmas.Bool.Decides.{nat_tests}
use Rattle.text_pos.specs.declared.length.Length.{Length}
use Rattle.tree_defs.specs.Ends.{in_lines, reaches, fits}
use Rattle.change_defs.specs.declared.Change.{Change}
use Rattle.change_defs.specs.declared.Joint.{Joint}
use Rattle.change_defs.specs.declared.Placed.{Placed}
use Rattle.change_defs.specs.Changes.{is_less, carried, first_joint, end_before, is_inside, placed, back, turned, are_in_order}
use Rattle.change_defs.specs.Agreement.{Marked, Agree}
use Rattle.tree_defs.proofs.Lengths.{same_length}
use Rattle.change_laws.specs.Chains.{Chain}
use Rattle.change_laws.proofs.Chains.{chain_of, nothing_before, passed, none_passed, is_or, first_outside, others_outside}
use Rattle.change_laws.proofs.Chains.{none_inside, outside_early, outside_late}
use Rattle.change_laws.proofs.Order.{less_not_back, up_then_up}
use Rattle.change_laws.proofs.Placing.{both_true}
use Rattle.bracket_marks.specs.MarkedLine.{MarkedLine}
use Rattle.mark_source.specs.Source.{AreMarked}
use Rattle.agreement_check.specs.Checks.{marked_text, AreAgreed, MayBeReused, last_in, is_behind, line_keeps, lines_keep, places_keep, AgreeBy}
use Rattle.agreement_check.specs.Checks.{has_place, is_narrow}

reaches_less : (o : Option ℕ) (a b : ℕ) → a ≤ b → reaches o b ≡ true → reaches o a ≡ true
reaches_less None a b le h = h
reaches_less (Some len) a b le h = grind (arith, nat_tests)

-- what is in a line, all before it there is too
in_lines_less : (lines : List ℕ) (a b : Length) → a.lines ≡ b.lines → a.cols ≤ b.cols → in_lines lines b ≡ true
    → in_lines lines a ≡ true
in_lines_less lines a b e le h =
    subst (λ k. reaches (slice_get lines k) a.cols ≡ true) (sym e) (reaches_less (slice_get lines b.lines) a.cols b.cols le h)

carried_line : (joint : Joint) (at last : Length) → at.lines ≡ last.lines → is_less at joint.old ≡ false → at.cols ≤ last.cols
    → (carried joint at).lines ≡ (carried joint last).lines
carried_line joint at last e h le = grind (arith, nat_tests)

carried_col : (joint : Joint) (at last : Length) → at.lines ≡ last.lines → is_less at joint.old ≡ false → at.cols ≤ last.cols
    → (carried joint at).cols ≤ (carried joint last).cols
carried_col joint at last e h le = grind (arith, nat_tests)

-- some length is reached
reached : (o : Option ℕ) (col : ℕ) → reaches o col ≡ true → (len : ℕ) × (o ≡ Some len) × (col ≤ len)
reached None col h = absurd (cc)
reached (Some len) col h = (len, refl, grind (arith, nat_tests))

kept_at : (joint : Joint) (next : Option Length) (new : List ℕ) (n k len m : ℕ) (old : List ℕ) → n + k ≡ m
    → lines_keep joint next new n old ≡ true → slice_get old k ≡ Some len → line_keeps joint next new m len ≡ true
kept_at joint next new n k len m [] e h is = absurd (cc)
kept_at joint next new n zero len m (x ∷ xs) e h is =
    let both = both_true (line_keeps joint next new n x) (lines_keep joint next new (n + 1) xs) h in
    let same : x ≡ len = cc in
    let here : n ≡ m = omega (arith, e) in
    subst (λ (a : ℕ). line_keeps joint next new a len ≡ true) here
    (subst (λ (b : ℕ). line_keeps joint next new n b ≡ true) same both.0)
kept_at joint next new n (suc k) len m (x ∷ xs) e h is =
    let both = both_true (line_keeps joint next new n x) (lines_keep joint next new (n + 1) xs) h in
    kept_at joint next new (n + 1) k len m xs (omega (arith, e)) both.1 is

-- a place isn't behind the start of the next change
abbrev UpTo : Option Length → Length → Type 0
UpTo None at = Unit {0}
UpTo (Some start) at = is_less start at ≡ false

last_line : (next : Option Length) (line len : ℕ) → (last_in next line len).lines ≡ line
last_line None line len = refl
last_line (Some start) line len = refl

last_col : (next : Option Length) (at : Length) (len : ℕ) → at.cols ≤ len → UpTo next at
    → at.cols ≤ (last_in next at.lines len).cols
last_col None at len le h = le
last_col (Some start) at len le h = grind (arith, nat_tests)

not_behind : (next : Option Length) (at : Length) → UpTo next at → is_behind next at.lines ≡ false
not_behind None at h = refl
not_behind (Some start) at h = grind (arith, nat_tests)

last_not_before : (joint : Joint) (at last : Length) → at.lines ≡ last.lines → at.cols ≤ last.cols
    → is_less at joint.old ≡ false → is_less last joint.old ≡ false
last_not_before joint at last e le h = grind (arith, nat_tests)

third : (a b c : Bool) → (a || b || c) ≡ true → a ≡ false → b ≡ false → c ≡ true
third true b c h k l = absurd (cc)
third false true c h k l = absurd (cc)
third false false c h k l = h

-- between a joint and the next change
in_stretch : (joint : Joint) (next : Option Length) (old new : List ℕ) (at : Length) → lines_keep joint next new 0 old ≡ true
    → in_lines old at ≡ true → is_less at joint.old ≡ false → UpTo next at → in_lines new (carried joint at) ≡ true
in_stretch joint next old new at h i b u =
    let there = reached (slice_get old at.lines) at.cols i in
    let len = there.0 in
    let last = last_in next at.lines len in
    let kept = kept_at joint next new 0 at.lines len at.lines old (omega arith) h there.1 in
    let line : at.lines ≡ last.lines = sym (last_line next at.lines len) in
    let col : at.cols ≤ last.cols = last_col next at len there.2 u in
    let image : has_place new (carried joint last) ≡ true =
    third (is_less last joint.old) (is_behind next at.lines) (has_place new (carried joint last)) kept
    (last_not_before joint at last line col b) (not_behind next at u) in
    in_lines_less new (carried joint at) (carried joint last) (carried_line joint at last line b col)
    (carried_col joint at last line b col) (both_true (fits (carried joint last)) (in_lines new (carried joint last)) image).1

places : (joint : Joint) (ps : List Placed) (old new : List ℕ) (at : Length) → Chain joint ps → is_less at joint.old ≡ false
    → in_lines old at ≡ true → is_inside ps at ≡ false → places_keep joint old new ps ≡ true
    → in_lines new (carried (end_before joint ps at) at) ≡ true
places joint [] old new at c b i o h = in_stretch joint None old new at h i b tt
places joint (p ∷ ps) old new at c b i o h =
    let both = both_true (lines_keep joint (Some p.from.old) new 0 old) (places_keep p.to old new ps) h in
    elim (is_or (is_less at p.to.old)) [
      | inl early ↦ subst (λ (j : Joint). in_lines new (carried j at) ≡ true) (sym (none_passed joint p ps at c early))
          (in_stretch joint (Some p.from.old) old new at both.0 i b (first_outside p ps at o early))
      | inr late ↦ subst (λ (j : Joint). in_lines new (carried j at) ≡ true) (sym (passed joint p ps at late))
          (places p.to ps old new at c.1 late i (others_outside p ps at o) both.1)
    ]

pub agrees : (cs : List Change) (old new : Marked) → are_in_order cs ≡ true → AgreeBy (placed cs) (back cs) old new
    → Agree cs old new
agrees cs old new order h = record {
  old_uncut = h.old_uncut;
  new_uncut = h.new_uncut;
  same = h.same;
  ends = record {
    old_outside = h.ends.old_outside;
    new_outside = h.ends.new_outside;
    there = h.ends.there;
    back_there = h.ends.back_there;
  };
  places = λ at i o. places first_joint (placed cs) old.lines new.lines at (chain_of cs order) (nothing_before at) i o h.places;
  starts = h.starts;
}

-- ---- what the test finds where the marks agree

-- a place in lines of which each, and whose number, is of 32 bits
narrow_at : (lines : List ℕ) (k len : ℕ) → list_all is_narrow lines ≡ true → slice_get lines k ≡ Some len → len < 2 ^ 32
narrow_at [] k len h is = absurd (cc)
narrow_at (x ∷ xs) zero len h is =
    let same : x ≡ len = cc in
    let here = (both_true (is_narrow x) (list_all is_narrow xs) h).0 in
    subst (λ (n : ℕ). n < 2 ^ 32) same (grind (arith, nat_tests))
narrow_at (x ∷ xs) (suc k) len h is = narrow_at xs k len (both_true (is_narrow x) (list_all is_narrow xs) h).1 is

there_is : (lines : List ℕ) (k len : ℕ) → slice_get lines k ≡ Some len → k < length lines
there_is [] k len is = absurd (cc)
there_is (x ∷ xs) zero len is = omega arith
there_is (x ∷ xs) (suc k) len is = omega (arith, there_is xs k len is)

fits_from : (at : Length) → at.lines < 2 ^ 32 → at.cols < 2 ^ 32 → fits at ≡ true
fits_from at l c = grind (arith, nat_tests)

has_place_from : (lines : List ℕ) (at : Length) → length lines < 2 ^ 32 → list_all is_narrow lines ≡ true
    → in_lines lines at ≡ true → has_place lines at ≡ true
has_place_from lines at few narrow i =
    let there = reached (slice_get lines at.lines) at.cols i in
    let below = there_is lines at.lines there.0 there.1 in
    let short = narrow_at lines at.lines there.0 narrow there.1 in
    and_from (fits at) (in_lines lines at) (fits_from at (omega (arith, few, below)) (omega (arith, short, there.2))) i

-- a stretch keeps its lines if it keeps each
all_kept : (joint : Joint) (next : Option Length) (new : List ℕ) (n : ℕ) (old : List ℕ)
    → ((k m len : ℕ) → n + k ≡ m → slice_get old k ≡ Some len → line_keeps joint next new m len ≡ true)
    → lines_keep joint next new n old ≡ true
all_kept joint next new n [] each = refl
all_kept joint next new n (x ∷ xs) each =
    and_from (line_keeps joint next new n x) (lines_keep joint next new (n + 1) xs)
    (each 0 n x (omega arith) refl)
    (all_kept joint next new (n + 1) xs (λ k m len e is. each (suc k) m len (omega (arith, e)) is))

or_third : (a b c : Bool) → (a ≡ false → b ≡ false → c ≡ true) → (a || b || c) ≡ true
or_third true b c h = refl
or_third false true c h = refl
or_third false false c h = h refl refl

reaches_self : (len : ℕ) → reaches (Some len) len ≡ true
reaches_self len = grind (arith, nat_tests)

reaches_last : (start : Length) (line len : ℕ) → reaches (Some len) (last_in (Some start) line len).cols ≡ true
reaches_last start line len = grind (arith, nat_tests)

last_is_in : (next : Option Length) (old : List ℕ) (line len : ℕ) → slice_get old line ≡ Some len
    → in_lines old (last_in next line len) ≡ true
last_is_in None old line len is = ap (λ o. reaches o len) is ∙ reaches_self len
last_is_in (Some start) old line len is =
    ap (λ o. reaches o (last_in (Some start) line len).cols) is ∙ reaches_last start line len

last_up_to : (start : Length) (line len : ℕ) → is_behind (Some start) line ≡ false
    → is_less start (last_in (Some start) line len) ≡ false
last_up_to start line len h = grind (arith, nat_tests)

-- what is kept between a joint and the next change, if each place there is
stretch_kept : (joint : Joint) (next : Option Length) (old new : List ℕ)
    → ((at : Length) → is_less at joint.old ≡ false → UpTo next at → in_lines old at ≡ true
    → has_place new (carried joint at) ≡ true)
    → lines_keep joint next new 0 old ≡ true
stretch_kept joint None old new each = all_kept joint None new 0 old (λ k m len e is.
    let here : k ≡ m = omega (arith, e) in
    let at = last_in None m len in
    or_third (is_less at joint.old) (is_behind None m) (has_place new (carried joint at))
    (λ b u. each at b tt (last_is_in None old m len (subst (λ (i : ℕ). slice_get old i ≡ Some len) here is))))
stretch_kept joint (Some start) old new each = all_kept joint (Some start) new 0 old (λ k m len e is.
    let here : k ≡ m = omega (arith, e) in
    let at = last_in (Some start) m len in
    or_third (is_less at joint.old) (is_behind (Some start) m) (has_place new (carried joint at))
    (λ b u. each at b (last_up_to start m len u)
    (last_is_in (Some start) old m len (subst (λ (i : ℕ). slice_get old i ≡ Some len) here is))))

-- two places neither of which is less are one
same_place : (a b : Length) → is_less a b ≡ false → is_less b a ≡ false → a ≡ b
same_place a b h k =
    same_length a b (grind (arith, nat_tests)) (grind (arith, nat_tests))

kept_between : (joint : Joint) (p : Placed) (ps : List Placed) (old new : List ℕ) (at : Length) → Chain joint (p ∷ ps)
    → in_lines new p.from.new ≡ true
    → ((at : Length) → is_less at joint.old ≡ false → in_lines old at ≡ true → is_inside (p ∷ ps) at ≡ false
    → in_lines new (carried (end_before joint (p ∷ ps) at) at) ≡ true)
    → is_less at joint.old ≡ false → is_less p.from.old at ≡ false → in_lines old at ≡ true
    → in_lines new (carried joint at) ≡ true
kept_between joint p ps old new at c start each b u i = elim (is_or (is_less at p.to.old)) [
  | inl early ↦ subst (λ (j : Joint). in_lines new (carried j at) ≡ true) (none_passed joint p ps at c early)
      (each at b i (outside_early p ps at u (none_inside p.to ps at c.1 (less_not_back at p.to.old early))))
  | inr late ↦
      let up : is_less at p.from.old ≡ false = up_then_up p.from.old p.to.old at c.0.old_end late in
      subst (λ (l : Length). in_lines new l ≡ true)
      (c.0.even ∙ ap (λ l. carried joint l) (same_place p.from.old at u up)) start
]

pub places_from : (joint : Joint) (ps : List Placed) (old new : List ℕ) → length new < 2 ^ 32
    → list_all is_narrow new ≡ true → Chain joint ps → list_all (λ p. in_lines new p.from.new) ps ≡ true
    → ((at : Length) → is_less at joint.old ≡ false → in_lines old at ≡ true → is_inside ps at ≡ false
    → in_lines new (carried (end_before joint ps at) at) ≡ true)
    → places_keep joint old new ps ≡ true
places_from joint [] old new few narrow c starts each = stretch_kept joint None old new
    (λ at b u i. has_place_from new (carried joint at) few narrow (each at b i refl))
places_from joint (p ∷ ps) old new few narrow c starts each =
    let both = both_true (in_lines new p.from.new) (list_all (λ q. in_lines new q.from.new) ps) starts in
    and_from (lines_keep joint (Some p.from.old) new 0 old) (places_keep p.to old new ps)
    (stretch_kept joint (Some p.from.old) old new
    (λ at b u i. has_place_from new (carried joint at) few narrow (kept_between joint p ps old new at c both.0 each b u i)))
    (places_from p.to ps old new few narrow c.1 both.1
    (λ at b i o. subst (λ (j : Joint). in_lines new (carried j at) ≡ true) (passed joint p ps at b)
    (each at (up_then_up joint.old p.to.old at (up_then_up joint.old p.from.old p.to.old c.0.old_start c.0.old_end) b) i
    (outside_late p ps at b o))))

pub agrees_by : (cs : List Change) (old new : Marked) → are_in_order cs ≡ true → length new.lines < 2 ^ 32
    → list_all is_narrow new.lines ≡ true → Agree cs old new → AgreeBy (placed cs) (back cs) old new
agrees_by cs old new order few narrow h = record {
  old_uncut = h.old_uncut;
  new_uncut = h.new_uncut;
  same = h.same;
  ends = record {
    old_outside = h.ends.old_outside;
    new_outside = h.ends.new_outside;
    there = h.ends.there;
    back_there = h.ends.back_there;
  };
  places = places_from first_joint (placed cs) old.lines new.lines few narrow (chain_of cs order) h.starts
      (λ at b i o. h.places at i o);
  starts = h.starts;
}

pub may_be_reused : (cs : List Change) (old new : List MarkedLine) → AreMarked old → 0 < length old → AreAgreed cs old new
    → MayBeReused cs old new
may_be_reused cs old new marked some a limit t stands = record {
  old = old;
  last = (marked_text old).end;
  new_last = (marked_text new).end;
  marked = marked;
  some = some;
  is_last = refl;
  is_new_last = refl;
  order = a.order;
  stands = stands;
  agree = a.agree;
}

-- what a test that says no tells
pub not_agreed : (cs : List Change) (ps bs : List Placed) (old new o n : Marked) → (AgreeBy ps bs o n → ⊥)
    → ps ≡ placed cs → bs ≡ map turned ps → o ≡ old → n ≡ new → length n.lines < 2 ^ 32
    → list_all is_narrow n.lines ≡ true → are_in_order cs ≡ true → Agree cs old new → ⊥
not_agreed cs ps bs old new o n refused p b e f few narrow order h =
    let short : length new.lines < 2 ^ 32 = subst (λ (t : Marked). length t.lines < 2 ^ 32) f few in
    let thin : list_all is_narrow new.lines ≡ true = subst (λ (t : Marked). list_all is_narrow t.lines ≡ true) f narrow in
    let agree : AgreeBy (placed cs) (back cs) old new = agrees_by cs old new order short thin h in
    let turn : bs ≡ back cs = b ∙ ap (map turned) p in
    refused (subst (λ qs. AgreeBy qs bs o n) (sym p) (subst (λ qs. AgreeBy (placed cs) qs o n) (sym turn)
    (subst (λ t. AgreeBy (placed cs) (back cs) t n) (sym e) (subst (λ t. AgreeBy (placed cs) (back cs) old t) (sym f) agree))))
