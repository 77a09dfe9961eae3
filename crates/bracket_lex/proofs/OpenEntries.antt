-- The open entries: their rows fall, and a closer takes the last of its kinds.
use Rattle.std.proofs.Common.{◌≡◌, ℕ, ◌<◌, ◌≤◌, ◌⊎◌, List, [], ◌∷◌, true, sym, ap, ◌∙◌, arith, inl, inr}
use Rattle.std.proofs.lemmas.Bool.{cases_Bool, true≢false}
use Rattle.text_pos.specs.declared.kinds.Kinds.{Kinds}
use Rattle.text_pos.specs.KindSet.{has_kind}
use Rattle.pairing_defs.specs.Pairing.{Entry, from_last}

-- their rows fall, and are below n
abbrev pub IsStack : ℕ → List Entry → Type 0
IsStack n [] = Unit {0}
IsStack n (e ∷ below) = (e.row < n) × IsStack e.row below

-- the entry is among these, with these below it
abbrev pub IsEntry : Entry → List Entry → List Entry → Type 0
IsEntry entry below [] = ⊥
IsEntry entry below (e ∷ es) = ((e ≡ entry) × (es ≡ below)) ⊎ IsEntry entry below es

pub stack_more : (n m : ℕ) (es : List Entry) → IsStack n es → n ≤ m → IsStack m es
stack_more n m [] stack more = tt
stack_more n m (e ∷ es) stack more = (omega arith, stack.1)

pub entry_below : (n : ℕ) (es : List Entry) (entry : Entry) (below : List Entry) → IsStack n es
    → IsEntry entry below es → entry.row < n
entry_below n [] entry below stack is = absurd is
entry_below n (e ∷ es) entry below stack is = elim is [
  | inl same ↦ let row : e.row ≡ entry.row = ap (λ x. x.row) same.0 in omega arith
  | inr deeper ↦ let under = entry_below e.row es entry below stack.1 deeper in omega arith
]

-- the last entry of some kinds
pub record Last (kinds : Kinds) (n : ℕ) (es : List Entry) (entry : Entry) (below : List Entry) : Type 0 where
  pub is_entry : IsEntry entry below es
  pub kind : has_kind kinds entry.kind ≡ true
  pub stack : IsStack entry.row below
  pub deeper : (e : Entry) (under : List Entry) → IsEntry e under below → IsEntry e under es

pub last_of : (kinds : Kinds) (n : ℕ) (es : List Entry) (entry : Entry) (below : List Entry) → IsStack n es
    → from_last kinds es ≡ entry ∷ below → Last kinds n es entry below
last_of kinds n [] entry below stack is = absurd (cc)
last_of kinds n (e ∷ es) entry below stack is = elim (cases_Bool (has_kind kinds e.kind)) [
  | inl here ↦
      let found : e ∷ es ≡ entry ∷ below = rw here at is in
      let first : e ≡ entry = cc in
      let rest : es ≡ below = cc in
      record {
        is_entry = inl (first, rest);
        kind = rw (← first) here;
        stack = rw (← first, ← rest) stack.1;
        deeper = λ x under h. inr (rw rest h);
      }
  | inr other ↦
      let l : Last kinds e.row es entry below = last_of kinds e.row es entry below stack.1 (rw other at is) in
      record {
        is_entry = inr l.is_entry;
        kind = l.kind;
        stack = l.stack;
        deeper = λ x under h. inr (l.deeper x under h);
      }
]

-- ---- what a closer leaves open
-- where there is no last entry of some kinds, there is none
pub none_of_kinds : (kinds : Kinds) (es : List Entry) (e : Entry) (under : List Entry) → from_last kinds es ≡ []
    → IsEntry e under es → has_kind kinds e.kind ≡ true → ⊥
none_of_kinds kinds [] e under is among kind = among
none_of_kinds kinds (x ∷ es) e under is among kind = elim (cases_Bool (has_kind kinds x.kind)) [
  | inl here ↦ let some : x ∷ es ≡ [] = rw here at is in cc
  | inr other ↦ elim among [
    | inl same ↦ true≢false (sym kind ∙ ap (λ y. has_kind kinds y.kind) (sym same.0) ∙ other)
    | inr deeper ↦ none_of_kinds kinds es e under (rw other at is) deeper kind
  ]
]

-- each entry is left open, or is not below the last of the kinds
pub split_at_last : (kinds : Kinds) (n : ℕ) (es : List Entry) (entry : Entry) (below : List Entry) (e : Entry)
    (under : List Entry) → IsStack n es → from_last kinds es ≡ entry ∷ below → IsEntry e under es
    → IsEntry e under below ⊎ (entry.row ≤ e.row)
split_at_last kinds n [] entry below e under stack is among = absurd among
split_at_last kinds n (x ∷ es) entry below e under stack is among = elim (cases_Bool (has_kind kinds x.kind)) [
  | inl here ↦
      let found : x ∷ es ≡ entry ∷ below = rw here at is in
      let first : x ≡ entry = cc in
      let rest : es ≡ below = cc in
      elim among [
        | inl same ↦ inr (let row : entry.row ≡ e.row = ap (λ y. y.row) (sym first ∙ same.0) in omega arith)
        | inr deeper ↦ inl (rw (← rest) deeper)
      ]
  | inr other ↦
      let l : Last kinds x.row es entry below = last_of kinds x.row es entry below stack.1 (rw other at is) in
      let falls : entry.row < x.row = entry_below x.row es entry below stack.1 l.is_entry in
      elim among [
        | inl same ↦ inr (let row : x.row ≡ e.row = ap (λ y. y.row) same.0 in omega arith)
        | inr deeper ↦ split_at_last kinds x.row es entry below e under stack.1 (rw other at is) deeper
      ]
]

-- an entry of the kinds is the last of them, or below it
pub last_of_kinds : (kinds : Kinds) (n : ℕ) (es : List Entry) (entry : Entry) (below : List Entry) (e : Entry)
    (under : List Entry) → IsStack n es → from_last kinds es ≡ entry ∷ below → IsEntry e under es
    → has_kind kinds e.kind ≡ true → e.row ≤ entry.row
last_of_kinds kinds n [] entry below e under stack is among kind = absurd among
last_of_kinds kinds n (x ∷ es) entry below e under stack is among kind = elim (cases_Bool (has_kind kinds x.kind)) [
  | inl here ↦
      let found : x ∷ es ≡ entry ∷ below = rw here at is in
      let first : x ≡ entry = cc in
      let row : x.row ≡ entry.row = ap (λ y. y.row) first in
      elim among [
        | inl same ↦ let row_too : x.row ≡ e.row = ap (λ y. y.row) same.0 in omega arith
        | inr deeper ↦ let falls = entry_below x.row es e under stack.1 deeper in omega arith
      ]
  | inr other ↦ elim among [
    | inl same ↦ absurd (true≢false (sym kind ∙ ap (λ y. has_kind kinds y.kind) (sym same.0) ∙ other))
    | inr deeper ↦ last_of_kinds kinds x.row es entry below e under stack.1 (rw other at is) deeper kind
  ]
]
