-- The open entries before a row are the openers before it that aren't closed off.
use Rattle.std.proofs.Common.{◌≡◌, ℕ, zero, suc, ◌+◌, ◌<◌, ◌≤◌, ◌⊎◌, List, [], ◌∷◌, length, Some, None, refl, ap, ◌∙◌}
use Rattle.std.proofs.Common.{arith, inl, inr, subst}
use Rattle.std.specs.Prelude.{slice_get}
use Rattle.text_pos.specs.declared.kinds.Kinds.{Kinds}
use Rattle.pairing_defs.specs.declared.Role.TheVariants.{Opener, Closer}
use Rattle.pairing_defs.specs.Pairing.{Entry, Open, Placed, of_kind}
use Rattle.bracket_lex.proofs.OpenEntries.{IsStack, IsEntry, stack_more}
use Rattle.bracket_lex.proofs.LastOpeners.{Off}

abbrev pub IsIn : Entry → List Entry → Type 0
IsIn e es = (under : List Entry) × IsEntry e under es

-- the entry is of an opener among the first x rows
pub record IsNew (n : ℕ) (ps : List Placed) (x : ℕ) (e : Entry) : Type 0 where
  pub place : ℕ
  pub number : e.row ≡ n + place
  pub before : place < x
  pub placed : Placed
  pub there : slice_get ps place ≡ Some placed
  pub role : placed.mark.role ≡ Opener e.kind

-- the levels of a row, by the entries that are open before it
pub record HasLevels (q : Placed) (stack : List Entry) : Type 0 where
  pub opener : (kind : ℕ) → q.mark.role ≡ Opener kind → (q.level ≡ length stack) × (q.own ≡ of_kind kind stack)
  pub alone : (kinds : Kinds) → q.mark.role ≡ Closer kinds → q.closes ≡ None → (q.level ≡ length stack) × (q.own ≡ 0)

-- the entries that are open before item x, of which something is so
pub record StackAt (state : Open) (ps : List Placed) (x : ℕ) (Is : List Entry → Type 0) : Type 0 where
  pub stack : List Entry
  pub falls : IsStack (state.rows + x) stack
  pub is : Is stack
  pub from : (e : Entry) → IsIn e stack → IsIn e state.entries ⊎ IsNew state.rows ps x e
  pub stays : (e : Entry) → IsIn e stack → Off state.rows ps x e.row → ⊥
  pub old : (e : Entry) → IsIn e state.entries → Off state.rows ps x e.row ⊎ IsIn e stack
  pub new : (e : Entry) → IsNew state.rows ps x e → Off state.rows ps x e.row ⊎ IsIn e stack

-- the entries before each item, and behind the last
pub record Stacks (state : Open) (ps : List Placed) (last : List Entry) : Type 0 where
  pub before : (x : ℕ) (q : Placed) → slice_get ps x ≡ Some q → StackAt state ps x (HasLevels q)
  pub at_end : StackAt state ps (length ps) (λ stack. stack ≡ last)

-- ---- one row more in front
off_more : (n x c : ℕ) (p : Placed) (ps : List Placed) → Off (n + 1) ps x c → Off n (p ∷ ps) (suc x) c
off_more n x c p ps off =
    let behind = off.behind in
    let before = off.before in
    record {
      place = suc off.place;
      placed = off.placed;
      there = off.there;
      closed = off.closed;
      closes = off.closes;
      around = off.around;
      behind = omega arith;
      before = omega arith;
    }

-- the first row closes row c or one before it
pub record ClosedFirst (n : ℕ) (p : Placed) (c : ℕ) : Type 0 where
  pub closed : ℕ
  pub closes : p.closes ≡ Some closed
  pub around : closed ≤ c
  pub behind : c < n

off_by : (n x c place closed : ℕ) (p r : Placed) (ps : List Placed) → slice_get (p ∷ ps) place ≡ Some r → r.closes
    ≡ Some closed → closed ≤ c → c < n + place → place < suc x
    → ClosedFirst n p c ⊎ Off (n + 1) ps x c
off_by n x c zero closed p r ps there closes around behind before =
    let same : p ≡ r = cc in
    inl (record { closed = closed; closes = ap (λ z. z.closes) same ∙ closes; around = around; behind = omega arith })
off_by n x c (suc place) closed p r ps there closes around behind before =
    inr (record {
      place = place;
      placed = r;
      there = there;
      closed = closed;
      closes = closes;
      around = around;
      behind = omega arith;
      before = omega arith;
    })

off_less : (n x c : ℕ) (p : Placed) (ps : List Placed) → Off n (p ∷ ps) (suc x) c → ClosedFirst n p c
    ⊎ Off (n + 1) ps x c
off_less n x c p ps off = off_by n x c off.place off.closed p off.placed ps off.there off.closes off.around off.behind
    off.before

new_more : (n x : ℕ) (p : Placed) (ps : List Placed) (e : Entry) → IsNew (n + 1) ps x e → IsNew n (p ∷ ps) (suc x) e
new_more n x p ps e new =
    let before = new.before in
    let number = new.number in
    record {
      place = suc new.place;
      number = omega arith;
      before = omega arith;
      placed = new.placed;
      there = new.there;
      role = new.role;
    }

new_by : (n x place : ℕ) (p r : Placed) (ps : List Placed) (e : Entry) → slice_get (p ∷ ps) place ≡ Some r
    → r.mark.role ≡ Opener e.kind → e.row ≡ n + place → place < suc x
    → ((e.row ≡ n) × (p.mark.role ≡ Opener e.kind)) ⊎ IsNew (n + 1) ps x e
new_by n x zero p r ps e there role number before =
    let same : p ≡ r = cc in
    inl (omega arith, ap (λ z. z.mark.role) same ∙ role)
new_by n x (suc place) p r ps e there role number before =
    inr (record { place = place; number = omega arith; before = omega arith; placed = r; there = there; role = role })

new_less : (n x : ℕ) (p : Placed) (ps : List Placed) (e : Entry) → IsNew n (p ∷ ps) (suc x) e
    → ((e.row ≡ n) × (p.mark.role ≡ Opener e.kind)) ⊎ IsNew (n + 1) ps x e
new_less n x p ps e new = new_by n x new.place p new.placed ps e new.there new.role new.number new.before

-- what a row does to the open entries: row n, with these before it and those behind it
pub record Step (n : ℕ) (es next : List Entry) (p : Placed) : Type 0 where
  pub from : (e : Entry) → IsIn e next → IsIn e es ⊎ ((e.row ≡ n) × (p.mark.role ≡ Opener e.kind))
  pub stays : (e : Entry) → IsIn e next → ClosedFirst n p e.row → ⊥
  pub old : (e : Entry) → IsIn e es → ClosedFirst n p e.row ⊎ IsIn e next
  pub new : (e : Entry) → e.row ≡ n → p.mark.role ≡ Opener e.kind → IsIn e next

none_before : {A : Type 0} (x : ℕ) → x < 0 → A
none_before x h = absurd (omega arith)

at_once : (state : Open) (ps : List Placed) (Is : List Entry → Type 0) → IsStack state.rows state.entries
    → Is state.entries → StackAt state ps 0 Is
at_once state ps Is stack is = record {
  stack = state.entries;
  falls = stack_more state.rows (state.rows + 0) state.entries stack (omega arith);
  is = is;
  from = λ e among. inl among;
  stays = λ e among off. none_before off.place off.before;
  old = λ e among. inr among;
  new = λ e new. none_before new.place new.before;
}

off_first : (n x c : ℕ) (p : Placed) (ps : List Placed) → ClosedFirst n p c → Off n (p ∷ ps) (suc x) c
off_first n x c p ps f =
    let behind = f.behind in
    record {
      place = 0;
      placed = p;
      there = refl;
      closed = f.closed;
      closes = f.closes;
      around = f.around;
      behind = omega arith;
      before = omega arith;
    }

carried_on : (state : Open) (p : Placed) (ps : List Placed) (next : List Entry) (x : ℕ) (Is : List Entry → Type 0)
    (t : StackAt (record { rows = state.rows + 1; entries = next }) ps x Is) (e : Entry) → IsIn e next
    → Off state.rows (p ∷ ps) (suc x) e.row ⊎ IsIn e t.stack
carried_on state p ps next x Is t e before = elim (t.old e before) [
  | inl off ↦ inl (off_more state.rows x e.row p ps off)
  | inr among ↦ inr among
]

carried : (state : Open) (p : Placed) (ps : List Placed) (next : List Entry) (x : ℕ) (Is : List Entry → Type 0)
    → Step state.rows state.entries next p
    → StackAt (record { rows = state.rows + 1; entries = next }) ps x Is → StackAt state (p ∷ ps) (suc x) Is
carried state p ps next x Is step t = record {
  stack = t.stack;
  falls = stack_more (state.rows + 1 + x) (state.rows + suc x) t.stack t.falls (omega arith);
  is = t.is;
  from = λ e among. elim (t.from e among) [
    | inl before ↦ elim (step.from e before) [
      | inl old ↦ inl old
      | inr new ↦ inr (record {
        place = 0;
        number = omega (arith, new.0);
        before = omega arith;
        placed = p;
        there = refl;
        role = new.1;
      })
    ]
    | inr new ↦ inr (new_more state.rows x p ps e new)
  ];
  stays = λ e among off. elim (off_less state.rows x e.row p ps off) [
    | inl first ↦ elim (t.from e among) [
      | inl before ↦ step.stays e before first
      | inr new ↦ let behind = first.behind in let number = new.number in absurd (omega arith)
    ]
    | inr later ↦ t.stays e among later
  ];
  old = λ e among. elim (step.old e among) [
    | inl first ↦ inl (off_first state.rows x e.row p ps first)
    | inr before ↦ carried_on state p ps next x Is t e before
  ];
  new = λ e new. elim (new_less state.rows x p ps e new) [
    | inl first ↦ carried_on state p ps next x Is t e (step.new e first.0 first.1)
    | inr later ↦ elim (t.new e later) [
      | inl off ↦ inl (off_more state.rows x e.row p ps off)
      | inr among ↦ inr among
    ]
  ];
}

before_row : (state : Open) (p : Placed) (ps : List Placed) (next last : List Entry)
    → IsStack state.rows state.entries → HasLevels p state.entries → Step state.rows state.entries next p
    → Stacks (record { rows = state.rows + 1; entries = next }) ps last → (x : ℕ) (q : Placed) → slice_get (p ∷ ps) x
    ≡ Some q → StackAt state (p ∷ ps) x (HasLevels q)
before_row state p ps next last stack levels step later zero q there =
    let same : p ≡ q = cc in
    at_once state (p ∷ ps) (HasLevels q) stack (subst (λ z. HasLevels z state.entries) same levels)
before_row state p ps next last stack levels step later (suc x) q there =
    carried state p ps next x (HasLevels q) step (later.before x q there)

pub behind_row : (state : Open) (p : Placed) (ps : List Placed) (next last : List Entry)
    → IsStack state.rows state.entries → HasLevels p state.entries → Step state.rows state.entries next p
    → Stacks (record { rows = state.rows + 1; entries = next }) ps last → Stacks state (p ∷ ps) last
behind_row state p ps next last stack levels step later =
    record {
      before = before_row state p ps next last stack levels step later;
      at_end = carried state p ps next (length ps) (λ entries. entries ≡ last) step later.at_end;
    }

pub no_rows : (state : Open) → IsStack state.rows state.entries → Stacks state [] state.entries
no_rows state stack = record {
  before = λ x q there. absurd (cc);
  at_end = at_once state [] (λ entries. entries ≡ state.entries) stack refl;
}
