-- How a loop over the members of a class stands for their reading.
use Rattle.std.proofs.Common.{◌≡◌, ℕ, zero, suc, ◌+◌, ◌-◌, ◌<◌, ◌≤◌, List, length, drop, Bool, true, false, refl, ap}
use Rattle.std.proofs.Common.{sym, subst, ◌∙◌, arith, Result, Ok, Err, IfOk, IfErr}
use Rattle.std.specs.Prelude.{if◌then◌else◌}
use Rattle.std.proofs.lemmas.List.{drop-drop}
use Rattle.char_sets.specs.Ranges.{IsSetOf}
use Rattle.char_sets.specs.declared.char_set.CharRange.{CharRange}
use Rattle.syntax_defs.specs.declared.class_part.ClassPart.{ClassPart}
use Rattle.syntax_defs.specs.declared.refusal.PatternRefusal.{PatternRefusal}
use Rattle.syntax_defs.specs.declared.refusal.PatternRefusal.TheVariants as refusals
use Rattle.syntax_defs.specs.Reading.{Fault, TooDeep, Read, ◌>>=◌, Fails, FitsRead, Gives}
use Rattle.syntax_defs.specs.Escapes.{complement_if}
use Rattle.syntax_defs.specs.Classes as defs
use Rattle.syntax_defs.specs.Classes.{class_within, members_at, no_members, with_member, class_body_at, by_part}
use Rattle.syntax_defs.specs.Classes.{part_at, SetReader}
use Rattle.syntax_defs.specs.Limits.{most_levels}
use Rattle.syntax_defs.specs.Sights.{begins_with}
use Rattle.onig_class.specs.declared.sides.Sides.{Sides}
use Rattle.onig_class.specs.SidesFit.{IsSides}

-- what reading a class gives
abbrev pub Whole : Type 0
Whole = Result (Read (ℕ → Bool)) Fault

-- what is still to be read of a class at `at` gives the whole
pub record Going (nested : SetReader) (fold : Bool) (text : List ℕ) (sides : Sides) (at : ℕ) (first : Bool)
    (whole : Whole) : Type 0 where
  pub q : defs.Sides
  pub most : ℕ
  pub fits : IsSides sides q
  pub enough : length text < most + at
  pub same : members_at nested fold first most q at (drop at text) ≡ whole

-- the same, once it is known what stands next
pub record Turn (nested : SetReader) (fold : Bool) (text : List ℕ) (sides : Sides) (at : ℕ) (part : ClassPart)
    (whole : Whole) : Type 0 where
  pub q : defs.Sides
  pub fewer : ℕ
  pub fits : IsSides sides q
  pub enough : length text ≤ fewer + at
  pub same : by_part (members_at nested fold false fewer) nested fold q at (drop at text) part ≡ whole

turn_at : (nested : SetReader) (fold first : Bool) (text : List ℕ) (sides : Sides) (at : ℕ) (part : ClassPart)
    (whole : Whole) (q : defs.Sides) (most : ℕ) → IsSides sides q → length text < most + at
    → members_at nested fold first most q at (drop at text) ≡ whole → at ≤ length text → part
    ≡ part_at first (drop at text) → Turn nested fold text sides at part whole
unfolding members_at
turn_at nested fold first text sides at part whole q zero fits enough same h e = absurd (omega arith)
turn_at nested fold first text sides at part whole q (suc fewer) fits enough same h e = record {
  q = q;
  fewer = fewer;
  fits = fits;
  enough = omega arith;
  same = rw e same;
}

pub turn : (nested : SetReader) (fold first : Bool) (text : List ℕ) (sides : Sides) (at : ℕ) (part : ClassPart)
    (whole : Whole) → Going nested fold text sides at first whole → at ≤ length text → part
    ≡ part_at first (drop at text) → Turn nested fold text sides at part whole
turn nested fold first text sides at part whole g h e =
    turn_at nested fold first text sides at part whole g.q g.most g.fits g.enough g.same h e

-- a fault of a part is that of the whole
pub fails_bind : {A B : Type 0} (e : PatternRefusal) (read : Result A Fault) (f : A → Result B Fault)
    (whole : Result B Fault) → Fails e read → (read >>= f) ≡ whole → Fails e whole
fails_bind (refusals.Syntax at) read f whole h same = sym same ∙ ap (λ r. r >>= f) h
fails_bind (refusals.LeftOut at) read f whole h same = sym same ∙ ap (λ r. r >>= f) h
fails_bind (refusals.TooDeep depth) read f whole h same = sym same ∙ ap (λ r. r >>= f) h
fails_bind (refusals.TooLong count) read f whole h same = sym same ∙ ap (λ r. r >>= f) h
fails_bind refusals.Memory read f whole h same = tt

-- what was read of a nested class or another member
pub record Member (text : List ℕ) (set : List CharRange) (next : ℕ) (f : Read (ℕ → Bool) → Whole)
    (whole : Whole) : Type 0 where
  pub p : ℕ → Bool
  pub fits : IsSetOf set p
  pub same : f (record { value = p; place = next; rest = drop next text }) ≡ whole

pub member_of : (text : List ℕ) (set : List CharRange) (next : ℕ) (read f : _) (whole : Whole)
    → FitsRead IsSetOf text set next read → (read >>= f) ≡ whole → Member text set next f whole
member_of text set next (Ok r) f whole fits same = record {
  p = r.value;
  fits = fits.value;
  same = rw (fits.rest, fits.place) same;
}
member_of text set next (Err fault) f whole fits same = absurd fits

-- a set that was made, and the place behind it
pub placed_gives : {E : Type 0} (text : List ℕ) (p : ℕ → Bool) (next : ℕ) (rest : List ℕ)
    (set : Result (List CharRange) E) (result : Result (List CharRange × ℕ) PatternRefusal) (whole : Whole)
    → IfOk set (λ s. IsSetOf s p) → IfOk result (λ found. (found.1 ≡ next) × (set ≡ Ok found.0))
    → IfErr result (λ e. e ≡ refusals.Memory) → drop next text ≡ rest → whole
    ≡ Ok (record { value = p; place = next; rest = rest }) → Gives IsSetOf text result whole
placed_gives text p next rest set (Ok found) whole fits ok err r is =
    let P : Result (List CharRange) _ → Type 0 = λ s. IfOk s (λ v. IsSetOf v p) in
    let made : IsSetOf found.0 p = subst P ok.1 fits in
    rw is (record { value = made; place = ok.0; rest = rw ok.0 r })
placed_gives text p next rest set (Err e) whole fits ok err r is = rw err tt

-- a class with its sign
pub complement_gives : {E : Type 0} (text : List ℕ) (negated : Bool) (set : List CharRange) (next : ℕ) (read : Whole)
    (made : Result (List CharRange) E) (result : Result (List CharRange × ℕ) PatternRefusal)
    → FitsRead IsSetOf text set next read → ((p : ℕ → Bool) → IsSetOf set p
    → IfOk made (λ s. IsSetOf s (complement_if negated p)))
    → IfOk result (λ found. (found.1 ≡ next) × (made ≡ Ok found.0)) → IfErr result (λ e. e ≡ refusals.Memory)
    → Gives IsSetOf text result (read >>= λ x. Ok
    (record { value = complement_if negated x.value; place = x.place; rest = x.rest }))
complement_gives text negated set next (Ok r) made result fits signs ok err =
    placed_gives text (complement_if negated r.value) next r.rest made result _ (signs r.value fits.value) ok err
    fits.rest (rw fits.place refl)
complement_gives text negated set next (Err fault) made result fits signs ok err = absurd fits

pub no_levels : (levels at : ℕ) (fold : Bool) (rest : List ℕ) → levels ≡ 0 → class_within levels fold at rest
    ≡ Err (TooDeep (most_levels + 1))
unfolding class_within
no_levels zero at fold rest e = refl
no_levels (suc levels) at fold rest e = absurd (omega arith)

-- a class whose level may be opened
pub some_levels : (levels at start : ℕ) (fold negated : Bool) (text : List ℕ) → (levels ≡ 0 → ⊥) → negated
    ≡ begins_with 94 (drop (at + 1) text) → start ≡ at + (if negated then 2 else 1)
    → class_within levels fold at (drop at text)
    ≡ (members_at (class_within (levels - 1) fold) fold true (length (drop at text)) no_members start
    (drop start text) >>= λ x. Ok (record { value = complement_if negated x.value; place = x.place; rest = x.rest }))
unfolding class_within
some_levels zero at start fold negated text some n s = absurd (some refl)
some_levels (suc levels) at start fold negated text some n s =
    let e : suc levels - 1 ≡ levels = omega arith in
    rw (drop-drop 1 at text, ← n, drop-drop (if negated then 2 else 1) at text, ← s, e) refl
