-- Nodes at another place.
use Rattle.std.proofs.Common.{◌≡◌, ℕ, ◌+◌, ◌<◌, ◌==◌, ◌⊎◌, List, [], ◌∷◌, ◌++◌, Bool, true}
use Rattle.std.proofs.Common.{false, refl, sym, ap, ◌∙◌, subst, arith, inl, inr}
use Rattle.std.proofs.lemmas.Bool.Decides.{nat_tests, eqb_tells}
use Rattle.text_pos.specs.declared.length.Length.{Length}
use Rattle.text_pos.specs.declared.kinds.Kinds.{Kinds}
use Rattle.text_pos.specs.Lengths.{plus}
use Rattle.pairing_defs.specs.declared.Mark.{Mark}
use Rattle.tree_defs.specs.Items.{Items, end, text, lone, pair, unclosed, stray, cut_in, behind, IsAt, AreCut, Stands}
use Rattle.tree_defs.proofs.Walk.{or_left, or_right}

same_length : (a b : Length) → a.lines ≡ b.lines → a.cols ≡ b.cols → a ≡ b
same_length a b p q = ap (λ x. record { lines = x; cols = a.cols }) p ∙ ap (λ x. record { lines = b.lines; cols = x }) q

-- a piece without line ends, and one with
plus_flat : (a b : Length) → b.lines ≡ 0 → plus a b ≡ record { lines = a.lines; cols = a.cols + b.cols }
plus_flat a b h = rw h refl

plus_down : (a b : Length) → 0 < b.lines → plus a b ≡ record { lines = a.lines + b.lines; cols = b.cols }
plus_down a b h = let t : (b.lines == 0) ≡ false = grind (arith, nat_tests) in rw t refl

zero_or_more : (n : ℕ) → (n ≡ 0) ⊎ (0 < n)
zero_or_more n = elim (eqb_tells n 0) [
  | inl (found, same) ↦ inl same
  | inr (missed, other) ↦ inr (omega arith)
]

pub plus_assoc : (a b c : Length) → plus (plus a b) c ≡ plus a (plus b c)
plus_assoc a b c = elim (zero_or_more c.lines) [
  | inl flat ↦ elim (zero_or_more b.lines) [
    | inl level ↦ rw (plus_flat b c flat, plus_flat (plus a b) c flat, plus_flat a b level)
        (same_length _ _ refl (omega arith) ∙ sym
        (plus_flat a (record { lines = b.lines; cols = b.cols + c.cols }) level))
    | inr down ↦ rw (plus_flat b c flat, plus_flat (plus a b) c flat, plus_down a b down)
        (sym (plus_down a (record { lines = b.lines; cols = b.cols + c.cols }) down))
  ]
  | inr below ↦ elim (zero_or_more b.lines) [
    | inl level ↦ rw (plus_down b c below, plus_down (plus a b) c below, plus_flat a b level)
        (same_length _ _ (omega arith) refl ∙ sym
        (plus_down a (record { lines = b.lines + c.lines; cols = c.cols }) (omega arith)))
    | inr down ↦ rw (plus_down b c below, plus_down (plus a b) c below, plus_down a b down)
        (same_length _ _ (omega arith) refl ∙ sym
        (plus_down a (record { lines = b.lines + c.lines; cols = c.cols }) (omega arith)))
  ]
]

pub behind_plus : (items : Items) (at d : Length) → behind items (plus at d) ≡ plus at (behind items d)
behind_plus end at d = refl
behind_plus (text len cut rest) at d = ap (λ x. behind rest x) (plus_assoc at d len) ∙ behind_plus rest at (plus d len)
behind_plus (lone len kinds rest) at d =
    ap (λ x. behind rest x) (plus_assoc at d len) ∙ behind_plus rest at (plus d len)
behind_plus (pair o k inside c rest) at d =
    ap (λ x. behind rest (plus (behind inside x) c)) (plus_assoc at d o)
    ∙ ap (λ x. behind rest (plus x c)) (behind_plus inside at (plus d o))
    ∙ ap (λ x. behind rest x) (plus_assoc at (behind inside (plus d o)) c)
    ∙ behind_plus rest at (plus (behind inside (plus d o)) c)
behind_plus (unclosed o k inside) at d =
    ap (λ x. behind inside x) (plus_assoc at d o) ∙ behind_plus inside at (plus d o)
behind_plus stray at d = refl

-- a mark, as far behind one place as another mark behind another
pub record IsMoved (at : Length) (to : Length) (m : Mark) (n : Mark) : Type 0 where
  pub same : (d len : Length) → IsAt m (plus at d) len → IsAt n (plus to d) len
  pub role : n.role ≡ m.role

abbrev pub AreMoved : Length → Length → List Mark → List Mark → Type 0
AreMoved at to [] [] = Unit {0}
AreMoved at to [] (n ∷ ns) = ⊥
AreMoved at to (m ∷ ms) [] = ⊥
AreMoved at to (m ∷ ms) (n ∷ ns) = IsMoved at to m n × AreMoved at to ms ns

moved_parts : (at to : Length) (xs ys ns : List Mark) → AreMoved at to (xs ++ ys) ns → (us : List Mark)
    × (vs : List Mark) × (ns ≡ us ++ vs) × AreMoved at to xs us × AreMoved at to ys vs
moved_parts at to [] ys ns are = ([], ns, refl, tt, are)
moved_parts at to (x ∷ xs) ys [] are = absurd are
moved_parts at to (x ∷ xs) ys (n ∷ ns) are = let p =
    moved_parts at to xs ys ns are.1 in (n ∷ p.0, p.1, ap (λ l. n ∷ l) p.2, (are.0, p.3), p.4)

moved_none : (at to : Length) (ns : List Mark) → AreMoved at to [] ns → ns ≡ []
moved_none at to [] are = refl
moved_none at to (n ∷ ns) are = absurd are

pub record First (at : Length) (to : Length) (m : Mark) (ms : List Mark) (ns : List Mark) : Type 0 where
  pub n : Mark
  pub rest : List Mark
  pub are : ns ≡ n ∷ rest
  pub moved : IsMoved at to m n
  pub more : AreMoved at to ms rest

first_of : (at to : Length) (m : Mark) (ms ns : List Mark) → AreMoved at to (m ∷ ms) ns → First at to m ms ns
first_of at to m ms [] are = absurd are
first_of at to m ms (n ∷ ns) are = record { n = n; rest = ns; are = refl; moved = are.0; more = are.1 }

abbrev Moves : ℕ → Items → Type 0
Moves limit items = (level : ℕ) (at to d : Length) (ms ns : List Mark) → cut_in items ≡ false
    → Stands limit level items (plus at d) ms → AreMoved at to ms ns → Stands limit level items (plus to d) ns

lone_moves : (limit : ℕ) (len : Length) (kinds : Kinds) (rest : Items) → Moves limit rest
    → Moves limit (lone len kinds rest)
lone_moves limit len kinds rest moves level at to d ms ns uncut stands are =
    let f : First at to stands.mark stands.more ns =
    first_of at to stands.mark stands.more ns (subst (λ l. AreMoved at to l ns) stands.are are) in
    record {
      mark = f.n;
      more = f.rest;
      are = f.are;
      place = f.moved.same d len stands.place;
      role =
          f.moved.role ∙ stands.role;
      rest = subst (λ x. Stands limit level rest x f.rest) (sym (plus_assoc to d len))
          (moves level at to (plus d len) stands.more f.rest uncut
          (subst (λ x. Stands limit level rest x stands.more) (plus_assoc at d len) stands.rest) f.more);
    }

uncut_moves : (limit level : ℕ) (cut : Bool) (ms : List Mark) → cut ≡ false → AreCut limit level cut ms → ms ≡ []
uncut_moves limit level true ms none are = absurd (cc)
uncut_moves limit level false ms none are = are

uncut_none : (limit level : ℕ) (cut : Bool) → cut ≡ false → AreCut limit level cut []
uncut_none limit level true none = absurd (cc)
uncut_none limit level false none = refl

text_moves : (limit : ℕ) (len : Length) (cut : Bool) (rest : Items) → Moves limit rest → Moves limit (text len cut rest)
text_moves limit len cut rest moves level at to d ms ns uncut stands are =
    let none : stands.cuts ≡ [] = uncut_moves limit level cut stands.cuts (or_left cut (cut_in rest) uncut)
    stands.cut_ones in
    let is : ms ≡ stands.more = stands.are ∙ ap (λ c. c ++ stands.more) none in
    record {
      cuts = [];
      more = ns;
      are = refl;
      cut_ones = uncut_none limit level cut (or_left cut (cut_in rest) uncut);
      lie =
          tt;
      rest = subst (λ x. Stands limit level rest x ns) (sym (plus_assoc to d len))
          (moves level at to (plus d len) stands.more ns (or_right cut (cut_in rest) uncut)
          (subst (λ x. Stands limit level rest x stands.more) (plus_assoc at d len) stands.rest)
          (subst (λ l. AreMoved at to l ns) is are));
    }

-- inside a pair
inside_moves : (limit level : ℕ) (inside : Items) (at to d o : Length) (ms ns : List Mark) → Moves limit inside
    → cut_in inside ≡ false → Stands limit level inside (plus (plus at d) o) ms → AreMoved at to ms ns
    → Stands limit level inside (plus (plus to d) o) ns
inside_moves limit level inside at to d o ms ns moves uncut stands are =
    subst (λ x. Stands limit level inside x ns) (sym (plus_assoc to d o))
    (moves level at to (plus d o) ms ns uncut
    (subst (λ x. Stands limit level inside x ms) (plus_assoc at d o) stands) are)

unclosed_moves : (limit : ℕ) (o : Length) (k : ℕ) (inside : Items) → Moves limit inside
    → Moves limit (unclosed o k inside)
unclosed_moves limit o k inside moves level at to d ms ns uncut stands are =
    let f : First at to stands.mark stands.within ns =
    first_of at to stands.mark stands.within ns (subst (λ l. AreMoved at to l ns) stands.are are) in
    record {
      mark = f.n;
      within = f.rest;
      are = f.are;
      place = f.moved.same d o stands.place;
      role =
          f.moved.role ∙ stands.role;
      room = stands.room;
      not_missed = stands.not_missed;
      held = inside_moves limit (level + 1) inside at to d o stands.within f.rest moves uncut stands.held f.more;
    }

-- where the inside of a pair ends
inside_ends : (inside : Items) (at d o : Length) → behind inside (plus (plus at d) o)
    ≡ plus at (behind inside (plus d o))
inside_ends inside at d o = ap (λ x. behind inside x) (plus_assoc at d o) ∙ behind_plus inside at (plus d o)

pair_moves : (limit : ℕ) (o : Length) (k : ℕ) (inside : Items) (c : Length) (rest : Items) → Moves limit inside
    → Moves limit rest → Moves limit (pair o k inside c rest)
pair_moves limit o k inside c rest moves later level at to d ms ns uncut stands are =
    let f : First at to stands.mark (stands.within ++ stands.last ∷ stands.more) ns =
    first_of at to stands.mark (stands.within ++ stands.last ∷ stands.more) ns
    (subst (λ l. AreMoved at to l ns) stands.are are) in
    let p = moved_parts at to stands.within (stands.last ∷ stands.more) f.rest f.more in
    let us : List Mark = p.0 in
    let l : First at to stands.last stands.more p.1 = first_of at to stands.last stands.more p.1 p.4 in
    let mid : Length = behind inside (plus d o) in
    let behind_old : plus (behind inside (plus (plus at d) o)) c ≡ plus at (plus mid c) =
    ap (λ x. plus x c) (inside_ends inside at d o) ∙ plus_assoc at mid c in
    let behind_new : plus (behind inside (plus (plus to d) o)) c ≡ plus to (plus mid c) =
    ap (λ x. plus x c) (inside_ends inside to d o) ∙ plus_assoc to mid c in
    record {
      mark = f.n;
      within = us;
      last = l.n;
      more = l.rest;
      kinds = stands.kinds;
      are = f.are ∙ ap (λ x. f.n ∷ x) (p.2 ∙ ap (λ x. us ++ x) l.are);
      place = f.moved.same d o stands.place;
      role = f.moved.role ∙ stands.role;
      room = stands.room;
      not_missed =
          stands.not_missed;
      held = inside_moves limit (level + 1) inside at to d o stands.within us moves
          (or_left (cut_in inside) (cut_in rest) uncut) stands.held p.3;
      last_place = subst (λ x. IsAt l.n x c) (sym (inside_ends inside to d o))
          (l.moved.same mid c (subst (λ x. IsAt stands.last x c) (inside_ends inside at d o) stands.last_place));
      last_role = l.moved.role ∙ stands.last_role;
      takes = stands.takes;
      passes = stands.passes;
      rest = subst (λ x. Stands limit level rest x l.rest) (sym behind_new)
          (later level at to (plus mid c) stands.more l.rest (or_right (cut_in inside) (cut_in rest) uncut)
          (subst (λ x. Stands limit level rest x stands.more) behind_old stands.rest) l.more);
    }

-- what has no cut text stands at another place for its marks moved there
pub moves : (limit : ℕ) (items : Items) → Moves limit items
moves limit end = λ level at to d ms ns uncut stands are. moved_none at to ns
    (subst (λ l. AreMoved at to l ns) stands are)
moves limit (text len cut rest) = text_moves limit len cut rest (moves limit rest)
moves limit (lone len kinds rest) = lone_moves limit len kinds rest (moves limit rest)
moves limit (pair o k inside c rest) = pair_moves limit o k inside c rest (moves limit inside) (moves limit rest)
moves limit (unclosed o k inside) = unclosed_moves limit o k inside (moves limit inside)
moves limit stray = λ level at to d ms ns uncut stands are. stands
