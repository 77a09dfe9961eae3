-- Each closer of a row is the first that closes it, and has its levels.
use Rattle.std.proofs.Common.{◌≡◌, ℕ, zero, suc, ◌+◌, ◌<◌, ◌⊎◌, nat_le, List, [], ◌∷◌, ◌++◌, length, drop, Some, None}
use Rattle.std.proofs.Common.{refl, sym, ap, ◌∙◌, arith, inl, inr}
use Rattle.std.specs.Prelude.{slice_get}
use Rattle.std.proofs.lemmas.Bool.{cases_Bool}
use Rattle.text_pos.specs.declared.kinds.Kinds.{Kinds}
use Rattle.pairing_defs.specs.declared.Role.{Role}
use Rattle.pairing_defs.specs.declared.Role.TheVariants.{Opener, Closer}
use Rattle.pairing_defs.specs.declared.Mark.{Mark}
use Rattle.pairing_defs.specs.Pairing.{Entry, Open, Placed, of_kind, from_last, closer_row, left_open, rows_by}
use Rattle.pairing_defs.specs.Pairing.{open_by, placed_from, removal_of, nothing_open}
use Rattle.bracket_lex.specs.PairLaws.{ClosesKind}
use Rattle.bracket_lex.proofs.OpenEntries.{IsStack, IsEntry, stack_more, entry_below, Last, last_of}
use Rattle.bracket_lex.proofs.RowPlaces.{closes_here, closes_none, closes_above}

-- ---- closers of rows
-- row `at` is the first that closes the row of an open entry, and has the entry's levels
pub record ByEntry (state : Open) (ps : List Placed) (at c : ℕ) (q : Placed) : Type 0 where
  pub entry : Entry
  pub below : List Entry
  pub is_entry : IsEntry entry below state.entries
  pub row : entry.row ≡ c
  pub level : q.level ≡ length below
  pub own : q.own ≡ of_kind entry.kind below
  pub kind : ClosesKind q.mark.role entry.kind
  pub first : removal_of c state.rows ps ≡ Some (record { row = at; start = q.mark.at; closes = c })

-- row `at` is the first that closes an opener that is one of the rows from number n on, and has its levels
pub record ByRow (n : ℕ) (ps : List Placed) (at c : ℕ) (q : Placed) : Type 0 where
  pub place : ℕ
  pub number : c ≡ n + place
  pub opener : Placed
  pub there : slice_get ps place ≡ Some opener
  pub kind : ℕ
  pub role : opener.mark.role ≡ Opener kind
  pub closes : ClosesKind q.mark.role kind
  pub level : q.level ≡ opener.level
  pub own : q.own ≡ opener.own
  pub before : c < at
  pub first : removal_of c (c + 1) (drop (suc place) ps) ≡ Some (record { row = at; start = q.mark.at; closes = c })

abbrev pub EachClosed : Open → List Placed → Type 0
EachClosed state ps = (k at c : ℕ) (q : Placed) → at ≡ state.rows + k → slice_get ps k ≡ Some q → q.closes ≡ Some c
    → ByEntry state ps at c q ⊎ ByRow state.rows ps at c q

shift : (n at c : ℕ) (p : Placed) (ps : List Placed) (q : Placed) → ByRow (n + 1) ps at c q → ByRow n (p ∷ ps) at c q
shift n at c p ps q y = record {
  place = suc y.place;
  number = omega arith;
  opener = y.opener;
  there = y.there;
  kind = y.kind;
  role = y.role;
  closes = y.closes;
  level = y.level;
  own = y.own;
  before = y.before;
  first = y.first;
}

-- a closer of nothing
lone : (state : Open) (p : Placed) (ps : List Placed) → p.closes ≡ None
    → EachClosed (record { rows = state.rows + 1; entries = state.entries }) ps → EachClosed state (p ∷ ps)
lone state p ps none later zero at c q e there closes = absurd (let is : p.closes ≡ Some c = cc in cc)
lone state p ps none later (suc k) at c q e there closes = elim (later k at c q (omega arith) there closes) [
  | inl x ↦ inl (record {
    entry = x.entry;
    below = x.below;
    is_entry = x.is_entry;
    row = x.row;
    level = x.level;
    own = x.own;
    kind = x.kind;
    first = closes_none c state.rows p ps none ∙ x.first;
  })
  | inr y ↦ inr (shift state.rows at c p ps q y)
]

-- an opener
opened : (state : Open) (kind : ℕ) (p : Placed) (ps : List Placed) → p.mark.role ≡ Opener kind → p.level
    ≡ length state.entries → p.own ≡ of_kind kind state.entries → p.closes ≡ None
    → EachClosed (record {
      rows = state.rows + 1;
      entries = record { row = state.rows; kind = kind } ∷ state.entries;
    }) ps → EachClosed state (p ∷ ps)
opened state kind p ps role level own none later zero at c q e there closes =
    absurd (let is : p.closes ≡ Some c = cc in cc)
opened state kind p ps role level own none later (suc k) at c q e there closes =
    elim (later k at c q (omega arith) there closes) [
      | inl x ↦ elim x.is_entry [
        | inl same ↦
            let row : state.rows ≡ x.entry.row = ap (λ e. e.row) same.0 in
            let same_kind : kind ≡ x.entry.kind = ap (λ e. e.kind) same.0 in
            let number : c ≡ state.rows = sym x.row ∙ sym row in
            let is_row = x.row in
            inr (record {
              place = 0;
              number = omega arith;
              opener = p;
              there = refl;
              kind = kind;
              role = role;
              closes = rw same_kind x.kind;
              level = x.level ∙ ap length (sym same.1) ∙ sym level;
              own = x.own ∙ rw (← same.1, ← same_kind) (sym own);
              before = omega arith;
              first = ap (λ n. removal_of c (n + 1) ps) number ∙ x.first;
            })
        | inr deeper ↦ inl (record {
          entry = x.entry;
          below = x.below;
          is_entry = deeper;
          row = x.row;
          level = x.level;
          own = x.own;
          kind = x.kind;
          first = closes_none c state.rows p ps none ∙ x.first;
        })
      ]
      | inr y ↦ inr (shift state.rows at c p ps q y)
    ]

-- a closer of an open entry
closed : (state : Open) (kinds : Kinds) (entry : Entry) (below : List Entry) (p : Placed) (ps : List Placed)
    → IsStack state.rows state.entries → from_last kinds state.entries ≡ entry ∷ below
    → p.mark.role ≡ Closer kinds → p.level ≡ length below → p.own ≡ of_kind entry.kind below → p.closes ≡ Some entry.row
    → EachClosed (record { rows = state.rows + 1; entries = below }) ps → EachClosed state (p ∷ ps)
closed state kinds entry below p ps stack found role level own one later zero at c q e there closes =
    let l : Last kinds state.rows state.entries entry below =
    last_of kinds state.rows state.entries entry below stack found in
    let same : p ≡ q = cc in
    let is : p.closes ≡ Some c = cc in
    let row : entry.row ≡ c = cc in
    let number : state.rows ≡ at = omega arith in
    inl (rw (← same, ← number) (record {
      entry = entry;
      below = below;
      is_entry = l.is_entry;
      row = row;
      level = level;
      own = own;
      kind = rw role l.kind;
      first = closes_here c state.rows c p ps is (omega arith);
    }))
closed state kinds entry below p ps stack found role level own one later (suc k) at c q e there closes =
    let l : Last kinds state.rows state.entries entry below =
    last_of kinds state.rows state.entries entry below stack found in
    elim (later k at c q (omega arith) there closes) [
      | inl x ↦
          let under : x.entry.row < entry.row = entry_below entry.row below x.entry x.below l.stack x.is_entry in
          let is_row = x.row in
          inl (record {
            entry = x.entry;
            below = x.below;
            is_entry = l.deeper x.entry x.below x.is_entry;
            row = x.row;
            level = x.level;
            own = x.own;
            kind = x.kind;
            first = closes_above c state.rows entry.row p ps one (omega arith) ∙ x.first;
          })
      | inr y ↦ inr (shift state.rows at c p ps q y)
    ]

-- ---- each mark
closer_by : (limit : ℕ) (state : Open) (m : Mark) (ms : List Mark) (kinds : Kinds) (found : List Entry) → m.role
    ≡ Closer kinds → from_last kinds state.entries ≡ found → IsStack state.rows state.entries
    → ((s : Open) → IsStack s.rows s.entries → EachClosed s (placed_from limit s ms))
    → EachClosed state (closer_row state m found ∷ placed_from limit
    (record { rows = state.rows + 1; entries = left_open state.entries found }) ms)
closer_by limit state m ms kinds [] role is stack later =
    lone state (closer_row state m []) (placed_from limit (record { rows = state.rows + 1; entries = state.entries })
    ms) refl
    (later (record { rows = state.rows + 1; entries = state.entries })
    (stack_more state.rows (state.rows + 1) state.entries stack (omega arith)))
closer_by limit state m ms kinds (entry ∷ below) role is stack later =
    let l : Last kinds state.rows state.entries entry below =
    last_of kinds state.rows state.entries entry below stack is in
    let under : entry.row < state.rows = entry_below state.rows state.entries entry below stack l.is_entry in
    closed state kinds entry below (closer_row state m (entry ∷ below))
    (placed_from limit (record { rows = state.rows + 1; entries = below }) ms) stack is role refl refl refl
    (later (record { rows = state.rows + 1; entries = below })
    (stack_more entry.row (state.rows + 1) below l.stack (omega arith)))

mark_by : (limit : ℕ) (state : Open) (m : Mark) (ms : List Mark) (role : Role) → m.role ≡ role
    → IsStack state.rows state.entries
    → ((s : Open) → IsStack s.rows s.entries → EachClosed s (placed_from limit s ms))
    → EachClosed state (rows_by limit state m role ++ placed_from limit (open_by limit state role) ms)
mark_by limit state m ms (Opener kind) is stack later = elim (cases_Bool (nat_le limit (length state.entries))) [
  | inl full ↦ rw full (later state stack)
  | inr room ↦ rw room
      (opened state kind (record {
        mark = m;
        level = length state.entries;
        own = of_kind kind state.entries;
        closes = None;
      })
      (placed_from limit (record {
        rows = state.rows + 1;
        entries = record { row = state.rows; kind = kind } ∷ state.entries;
      }) ms) is refl refl refl
      (later (record { rows = state.rows + 1; entries = record { row = state.rows; kind = kind } ∷ state.entries })
      (omega arith, stack)))
]
mark_by limit state m ms (Closer kinds) is stack later =
    closer_by limit state m ms kinds (from_last kinds state.entries) is refl stack later

each_closed : (limit : ℕ) (ms : List Mark) (state : Open) → IsStack state.rows state.entries
    → EachClosed state (placed_from limit state ms)
each_closed limit [] state stack = λ k at c q e there closes. absurd (cc)
each_closed limit (m ∷ ms) state stack =
    mark_by limit state m ms m.role refl stack (λ s s_stack. each_closed limit ms s s_stack)

-- where a row closes another, that one is an opener before it
pub closer_of_row : (limit : ℕ) (ms : List Mark) (i c : ℕ) (q : Placed)
    → slice_get (placed_from limit nothing_open ms) i ≡ Some q → q.closes ≡ Some c
    → ByRow 0 (placed_from limit nothing_open ms) i c q
closer_of_row limit ms i c q there closes =
    elim (each_closed limit ms nothing_open tt i i c q (omega arith) there closes) [
      | inl x ↦ absurd x.is_entry
      | inr y ↦ y
    ]
