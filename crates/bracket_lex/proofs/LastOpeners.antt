-- A closer takes the last opener of its kinds that is still open.
use Rattle.std.proofs.Common.{◌≡◌, ℕ, zero, suc, ◌+◌, ◌<◌, ◌≤◌, ◌⊎◌, nat_le, List, [], ◌∷◌, ◌++◌, length, true, Some}
use Rattle.std.proofs.Common.{None, refl, sym, ap, ◌∙◌, arith, inl, inr}
use Rattle.std.specs.Prelude.{slice_get}
use Rattle.std.proofs.lemmas.Bool.{cases_Bool}
use Rattle.text_pos.specs.declared.kinds.Kinds.{Kinds}
use Rattle.text_pos.specs.KindSet.{has_kind}
use Rattle.pairing_defs.specs.declared.Role.{Role}
use Rattle.pairing_defs.specs.declared.Role.TheVariants.{Opener, Closer}
use Rattle.pairing_defs.specs.declared.Mark.{Mark}
use Rattle.pairing_defs.specs.Pairing.{Entry, Open, Placed, of_kind, from_last, closer_row, left_open, rows_by}
use Rattle.pairing_defs.specs.Pairing.{open_by, placed_from, nothing_open}
use Rattle.bracket_lex.proofs.OpenEntries.{IsStack, IsEntry, stack_more, entry_below, Last, last_of, none_of_kinds}
use Rattle.bracket_lex.proofs.OpenEntries.{split_at_last, last_of_kinds}

-- ---- rows that are closed off
-- a row behind row c, and before item x, closes it or one before it
pub record Off (n : ℕ) (ps : List Placed) (x c : ℕ) : Type 0 where
  pub place : ℕ
  pub placed : Placed
  pub there : slice_get ps place ≡ Some placed
  pub closed : ℕ
  pub closes : placed.closes ≡ Some closed
  pub around : closed ≤ c
  pub behind : c < n + place
  pub before : place < x

pub record AtOrBehind (q : Placed) (c : ℕ) : Type 0 where
  pub closed : ℕ
  pub closes : q.closes ≡ Some closed
  pub within : c ≤ closed

abbrev pub Taken : ℕ → List Placed → ℕ → Placed → ℕ → Type 0
Taken n ps x q c = Off n ps x c ⊎ AtOrBehind q c

-- item x is a closer of these kinds
record IsCloser (ps : List Placed) (x : ℕ) (q : Placed) (kinds : Kinds) : Type 0 where
  there : slice_get ps x ≡ Some q
  role : q.mark.role ≡ Closer kinds

-- item y is an opener of a kind, and its row has number c where that of the first item has number n
record IsOpener (n : ℕ) (ps : List Placed) (y c kind : ℕ) : Type 0 where
  item : Placed
  there : slice_get ps y ≡ Some item
  role : item.mark.role ≡ Opener kind
  number : c ≡ n + y

-- what a closer leaves of the open entries and of the openers before it
record EachTaken (state : Open) (ps : List Placed) : Type 0 where
  entries : (x : ℕ) (q : Placed) (kinds : Kinds) (e : Entry) (under : List Entry) → IsCloser ps x q kinds
      → IsEntry e under state.entries → has_kind kinds e.kind ≡ true → Taken state.rows ps x q e.row
  rows : (x y c kind : ℕ) (q : Placed) (kinds : Kinds) → IsCloser ps x q kinds → IsOpener state.rows ps y c kind
      → y < x → has_kind kinds kind ≡ true → Taken state.rows ps x q c

-- the open entries behind one more row
abbrev behind_row : Open → List Entry → Open
behind_row state entries = record { rows = state.rows + 1; entries = entries }

-- and behind an opener
abbrev opened_behind : Open → ℕ → Open
opened_behind state kind = behind_row state (record { row = state.rows; kind = kind } ∷ state.entries)

-- ---- one more item in front
module _ (p : Placed) (ps : List Placed) where
  later_closer : {x : ℕ} {q : Placed} {kinds : Kinds} → IsCloser (p ∷ ps) (suc x) q kinds → IsCloser ps x q kinds
  later_closer at = record { there = at.there; role = at.role }

  later_opener : {n y c kind : ℕ} → IsOpener n (p ∷ ps) (suc y) c kind → IsOpener (n + 1) ps y c kind
  later_opener at = let number = at.number in
      record { item = at.item; there = at.there; role = at.role; number = omega arith }

  same_kinds : {q : Placed} {own kinds : Kinds} → p.mark.role ≡ Closer own → IsCloser (p ∷ ps) 0 q kinds → own ≡ kinds
  same_kinds {q = q} {own = own} {kinds = kinds} role at =
      let same : p ≡ q = (let there = at.there in cc) in
      let roles : Closer own ≡ Closer kinds = sym role ∙ ap (λ z. z.mark.role) same ∙ at.role in
      cc

  shift : {n x c : ℕ} {q : Placed} → Taken (n + 1) ps x q c → Taken n (p ∷ ps) (suc x) q c
  shift (inl off) =
      let behind = off.behind in
      let before = off.before in
      inl (record {
        place = suc off.place;
        placed = off.placed;
        there = off.there;
        closed = off.closed;
        closes = off.closes;
        around = off.around;
        behind = omega arith;
        before = omega arith;
      })
  shift (inr at) = inr at

-- ---- each mark
module _ (state : Open) (p : Placed) (ps : List Placed) where
  -- a row that is no opener adds no opener
  none_more : (own : Kinds) (es : List Entry) → p.mark.role ≡ Closer own → EachTaken (behind_row state es) ps
      → (x y c kind : ℕ) (q : Placed) (kinds : Kinds) → IsCloser (p ∷ ps) x q kinds
      → IsOpener state.rows (p ∷ ps) y c kind → y < x → has_kind kinds kind ≡ true → Taken state.rows (p ∷ ps) x q c
  none_more own es role later zero y c kind q kinds closer opener order has = absurd (omega arith)
  none_more own es role later (suc x) zero c kind q kinds closer opener order has =
      let same : p ≡ opener.item = (let there = opener.there in cc) in
      let is : Closer own ≡ Opener kind = sym role ∙ ap (λ z. z.mark.role) same ∙ opener.role in
      absurd (cc)
  none_more own es role later (suc x) (suc y) c kind q kinds closer opener order has =
      shift p ps (later.rows x y c kind q kinds (later_closer p ps closer) (later_opener p ps opener) (omega arith) has)

  -- a closer of nothing
  lone_entries : (own : Kinds) → p.mark.role ≡ Closer own → from_last own state.entries ≡ []
      → EachTaken (behind_row state state.entries) ps
      → (x : ℕ) (q : Placed) (kinds : Kinds) (e : Entry) (under : List Entry) → IsCloser (p ∷ ps) x q kinds
      → IsEntry e under state.entries → has_kind kinds e.kind ≡ true → Taken state.rows (p ∷ ps) x q e.row
  lone_entries own role none later zero q kinds e under closer among has =
      let found = ap (λ z. from_last z state.entries) (sym (same_kinds p ps role closer)) ∙ none in
      absurd (none_of_kinds kinds state.entries e under found among has)
  lone_entries own role none later (suc x) q kinds e under closer among has =
      shift p ps (later.entries x q kinds e under (later_closer p ps closer) among has)

  lone : (own : Kinds) → p.mark.role ≡ Closer own → from_last own state.entries ≡ []
      → EachTaken (behind_row state state.entries) ps → EachTaken state (p ∷ ps)
  lone own role none later =
      record { entries = lone_entries own role none later; rows = none_more own state.entries role later }

  -- a closer of an open entry
  module _ (own : Kinds) (entry : Entry) (below : List Entry) (stack : IsStack state.rows state.entries)
      (role : p.mark.role ≡ Closer own) (closes : p.closes ≡ Some entry.row)
      (found : from_last own state.entries ≡ entry ∷ below) where
    closed_entries : EachTaken (behind_row state below) ps
        → (x : ℕ) (q : Placed) (kinds : Kinds) (e : Entry) (under : List Entry) → IsCloser (p ∷ ps) x q kinds
        → IsEntry e under state.entries → has_kind kinds e.kind ≡ true → Taken state.rows (p ∷ ps) x q e.row
    closed_entries later zero q kinds e under closer among has =
        let same : p ≡ q = (let there = closer.there in cc) in
        let here = ap (λ z. from_last z state.entries) (sym (same_kinds p ps role closer)) ∙ found in
        inr (record {
          closed = entry.row;
          closes = ap (λ z. z.closes) (sym same) ∙ closes;
          within = last_of_kinds kinds state.rows state.entries entry below e under stack here among has;
        })
    closed_entries later (suc x) q kinds e under closer among has =
        elim (split_at_last own state.rows state.entries entry below e under stack found among) [
          | inl left ↦ shift p ps (later.entries x q kinds e under (later_closer p ps closer) left has)
          | inr off ↦
              let falls : e.row < state.rows = entry_below state.rows state.entries e under stack among in
              inl (record {
                place = 0;
                placed = p;
                there = refl;
                closed = entry.row;
                closes = closes;
                around = off;
                behind = omega arith;
                before = omega arith;
              })
        ]

    closed : EachTaken (behind_row state below) ps → EachTaken state (p ∷ ps)
    closed later = record { entries = closed_entries later; rows = none_more own below role later }

  -- an opener
  module _ (kind : ℕ) (role : p.mark.role ≡ Opener kind) (later : EachTaken (opened_behind state kind) ps) where
    opened_entries : (x : ℕ) (q : Placed) (kinds : Kinds) (e : Entry) (under : List Entry) → IsCloser (p ∷ ps) x q kinds
        → IsEntry e under state.entries → has_kind kinds e.kind ≡ true → Taken state.rows (p ∷ ps) x q e.row
    opened_entries zero q kinds e under closer among has =
        let same : p ≡ q = (let there = closer.there in cc) in
        let is : Opener kind ≡ Closer kinds = sym role ∙ ap (λ z. z.mark.role) same ∙ closer.role in
        absurd (cc)
    opened_entries (suc x) q kinds e under closer among has =
        shift p ps (later.entries x q kinds e under (later_closer p ps closer) (inr among) has)

    opened_rows : (x y c own : ℕ) (q : Placed) (kinds : Kinds) → IsCloser (p ∷ ps) x q kinds
        → IsOpener state.rows (p ∷ ps) y c own → y < x → has_kind kinds own ≡ true → Taken state.rows (p ∷ ps) x q c
    opened_rows zero y c own q kinds closer opener order has = absurd (omega arith)
    opened_rows (suc x) zero c own q kinds closer opener order has =
        let same : p ≡ opener.item = (let there = opener.there in cc) in
        let roles : Opener kind ≡ Opener own = sym role ∙ ap (λ z. z.mark.role) same ∙ opener.role in
        let this : own ≡ kind = cc in
        let number : c ≡ state.rows = (let is = opener.number in omega arith) in
        let first : Entry = record { row = state.rows; kind = kind } in
        rw number (shift p ps (later.entries x q kinds first state.entries (later_closer p ps closer) (inl (refl, refl))
        (ap (has_kind kinds) (sym this) ∙ has)))
    opened_rows (suc x) (suc y) c own q kinds closer opener order has =
        shift p ps (later.rows x y c own q kinds (later_closer p ps closer) (later_opener p ps opener) (omega arith)
        has)

    opened : EachTaken state (p ∷ ps)
    opened = record { entries = opened_entries; rows = opened_rows }

-- ---- all marks
module _ (limit : ℕ) (state : Open) (m : Mark) (ms : List Mark) (stack : IsStack state.rows state.entries)
    (later : (s : Open) → IsStack s.rows s.entries → EachTaken s (placed_from limit s ms)) where
  closer_by : (kinds : Kinds) (found : List Entry) → m.role ≡ Closer kinds → from_last kinds state.entries ≡ found
      → EachTaken state (closer_row state m found ∷ placed_from limit
      (behind_row state (left_open state.entries found)) ms)
  closer_by kinds [] role is =
      let next = behind_row state state.entries in
      lone state (closer_row state m []) (placed_from limit next ms) kinds role is
      (later next (stack_more state.rows (state.rows + 1) state.entries stack (omega arith)))
  closer_by kinds (entry ∷ below) role is =
      let l : Last kinds state.rows state.entries entry below =
      last_of kinds state.rows state.entries entry below stack is in
      let under : entry.row < state.rows = entry_below state.rows state.entries entry below stack l.is_entry in
      let next = behind_row state below in
      closed state (closer_row state m (entry ∷ below)) (placed_from limit next ms) kinds entry below stack role refl is
      (later next (stack_more entry.row (state.rows + 1) below l.stack (omega arith)))

  mark_by : (role : Role) → m.role ≡ role
      → EachTaken state (rows_by limit state m role ++ placed_from limit (open_by limit state role) ms)
  mark_by (Opener kind) is = elim (cases_Bool (nat_le limit (length state.entries))) [
    | inl full ↦ rw full (later state stack)
    | inr room ↦
        let next = opened_behind state kind in
        let own = of_kind kind state.entries in
        let row : Placed = record { mark = m; level = length state.entries; own = own; closes = None } in
        rw room (opened state row (placed_from limit next ms) kind is (later next (omega arith, stack)))
  ]
  mark_by (Closer kinds) is = closer_by kinds (from_last kinds state.entries) is refl

each_taken : (limit : ℕ) (ms : List Mark) (state : Open) → IsStack state.rows state.entries
    → EachTaken state (placed_from limit state ms)
each_taken limit [] state stack = record {
  entries = λ x q kinds e under closer among has. let there = closer.there in absurd (cc);
  rows = λ x y c kind q kinds closer opener order has. let there = closer.there in absurd (cc);
}
each_taken limit (m ∷ ms) state stack = mark_by limit state m ms stack (each_taken limit ms) m.role refl

-- of a closer and an opener for it, in the rows of a text
pub closer_takes : (limit : ℕ) (ms : List Mark) (i k kind : ℕ) (p q : Placed) (kinds : Kinds)
    → slice_get (placed_from limit nothing_open ms) i ≡ Some q → q.mark.role ≡ Closer kinds
    → slice_get (placed_from limit nothing_open ms) k ≡ Some p → p.mark.role ≡ Opener kind → k < i
    → has_kind kinds kind ≡ true
    → Taken 0 (placed_from limit nothing_open ms) i q k
closer_takes limit ms i k kind p q kinds there closer there_first opener order has =
    let number : k ≡ 0 + k = omega arith in
    (each_taken limit ms nothing_open tt).rows i k k kind q kinds (record { there = there; role = closer })
    (record { item = p; there = there_first; role = opener; number = number }) order has
