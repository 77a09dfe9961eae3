-- Pairs don't cross, and are below the limit.
use Rattle.std.proofs.Common.{◌≡◌, ℕ, zero, suc, ◌+◌, ◌-◌, ◌<◌, ◌≤◌, nat_le, List, [], ◌∷◌, ◌++◌, length, drop}
use Rattle.std.proofs.Common.{Option, Some, None, refl, sym, ap, ◌∙◌, arith, inl, inr}
use Rattle.std.specs.Prelude.{slice_get}
use Rattle.std.proofs.lemmas.Bool.{cases_Bool, cases_eq, leb-false}
use Rattle.text_pos.specs.declared.length.Pos.{Pos}
use Rattle.pairing_defs.specs.declared.Role.{Role}
use Rattle.pairing_defs.specs.declared.Role.TheVariants.{Opener, Closer}
use Rattle.pairing_defs.specs.declared.Mark.{Mark}
use Rattle.pairing_defs.specs.declared.Row.{Row}
use Rattle.pairing_defs.specs.Pairing.{Entry, Open, Placed, Removal, of_kind, from_last, closer_row, rows_by, open_by}
use Rattle.pairing_defs.specs.Pairing.{removal_of, placed_from, nothing_open, row_of, paired}
use Rattle.bracket_lex.specs.PairLaws.{HasPartner, PairsNeverCross, OpenersAreBelowTheLimit, PartnersAreBelowTheLimit}
use Rattle.bracket_lex.proofs.RowPlaces.{slice_get-drop, RowAt, row_at, none_earlier}
use Rattle.bracket_lex.proofs.PairedRows.{Pair, partner_pair, opener_is, closer_is}

-- ---- nesting
pair_before : (limit : ℕ) (end : Pos) (ms : List Mark) (i j : ℕ) (row : Row)
    → HasPartner (paired limit end ms) i row j → i < j → Pair (placed_from limit nothing_open ms) i j
pair_before limit end ms i j row h order = elim (partner_pair limit end ms i j row h) [
  | inl pair ↦ pair
  | inr pair ↦ absurd (let before = pair.before in omega arith)
]

-- the closer of row k comes no later than that of a row before it
ends_inside : (ps : List Placed) (i j k l : ℕ) → Pair ps i j → Pair ps k l → i < k → k < j → l ≤ j
ends_inside ps i j k l outer inner later within =
    let at : suc k + (j - suc k) ≡ j = omega arith in
    let there : slice_get (drop (suc k) ps) (j - suc k) ≡ Some outer.closer =
    slice_get-drop ps (suc k) (j - suc k) ∙ ap (slice_get ps) at ∙ outer.closer_there in
    none_earlier k (k + 1) j i (drop (suc k) ps) (j - suc k) outer.closer
    (record { row = l; start = inner.closer.mark.at; closes = k }) there outer.closes (omega arith) (omega arith)
    inner.first

-- and isn't the same
other_closer : (ps : List Placed) (i j k l : ℕ) → Pair ps i j → Pair ps k l → i < k → l ≡ j → ⊥
other_closer ps i j k l outer inner later same =
    let there : slice_get ps l ≡ Some outer.closer = ap (slice_get ps) same ∙ outer.closer_there in
    let there_too : slice_get ps l ≡ Some inner.closer = inner.closer_there in
    let one : outer.closer ≡ inner.closer = cc in
    let closes : Some i ≡ Some k = sym outer.closes ∙ ap (λ p. p.closes) one ∙ inner.closes in
    let number : i ≡ k = cc in
    omega arith

pub pairs_never_cross : PairsNeverCross
pairs_never_cross limit end ms i j k l outer inner h h_inner later within before =
    let o : Pair (placed_from limit nothing_open ms) i j = pair_before limit end ms i j outer h (omega arith) in
    let n : Pair (placed_from limit nothing_open ms) k l = pair_before limit end ms k l inner h_inner before in
    let no_later : l ≤ j = ends_inside (placed_from limit nothing_open ms) i j k l o n later within in
    elim (cases_eq l j) [
      | inl same ↦ absurd (other_closer (placed_from limit nothing_open ms) i j k l o n later same)
      | inr other ↦ omega (arith, other)
    ]

-- ---- the limit
abbrev OpenersBelow : ℕ → List Placed → Type 0
OpenersBelow limit ps = (k kind : ℕ) (p : Placed) → slice_get ps k ≡ Some p → p.mark.role ≡ Opener kind
    → p.level < limit

one_more : (limit : ℕ) (p : Placed) (ps : List Placed) → ((kind : ℕ) → p.mark.role ≡ Opener kind → p.level < limit)
    → OpenersBelow limit ps → OpenersBelow limit (p ∷ ps)
one_more limit p ps here later zero kind q there role =
    let same : p ≡ q = cc in
    rw (← same) (here kind (ap (λ x. x.mark.role) same ∙ role))
one_more limit p ps here later (suc k) kind q there role = later k kind q there role

not_an_opener : (limit : ℕ) (state : Open) (m : Mark) (found : List Entry) (role : Role) → m.role ≡ role
    → ((kind : ℕ) → role ≡ Opener kind → ⊥)
    → (kind : ℕ) → (closer_row state m found).mark.role ≡ Opener kind → (closer_row state m found).level < limit
not_an_opener limit state m [] role is none kind opens = absurd (none kind (sym is ∙ opens))
not_an_opener limit state m (entry ∷ below) role is none kind opens = absurd (none kind (sym is ∙ opens))

below_by : (limit : ℕ) (state : Open) (m : Mark) (ms : List Mark) (role : Role) → m.role ≡ role
    → ((s : Open) → OpenersBelow limit (placed_from limit s ms))
    → OpenersBelow limit (rows_by limit state m role ++ placed_from limit (open_by limit state role) ms)
below_by limit state m ms (Opener kind) is later = elim (cases_Bool (nat_le limit (length state.entries))) [
  | inl full ↦ rw full (later state)
  | inr room ↦ rw room
      (one_more limit (record {
        mark = m;
        level = length state.entries;
        own = of_kind kind state.entries;
        closes = None;
      })
      (placed_from limit (record {
        rows = state.rows + 1;
        entries = record { row = state.rows; kind = kind } ∷ state.entries;
      }) ms)
      (λ own opens. leb-false limit (length state.entries) room)
      (later (record { rows = state.rows + 1; entries = record { row = state.rows; kind = kind } ∷ state.entries })))
]
below_by limit state m ms (Closer kinds) is later =
    one_more limit (closer_row state m (from_last kinds state.entries))
    (placed_from limit (open_by limit state (Closer kinds)) ms)
    (not_an_opener limit state m (from_last kinds state.entries) (Closer kinds) is (λ kind opens. cc))
    (later (open_by limit state (Closer kinds)))

openers_below : (limit : ℕ) (ms : List Mark) (state : Open) → OpenersBelow limit (placed_from limit state ms)
openers_below limit [] state = λ k kind p there role. absurd (cc)
openers_below limit (m ∷ ms) state = below_by limit state m ms m.role refl (λ s. openers_below limit ms s)

pub row_mark : (end : Pos) (n : ℕ) (p : Placed) (role : Role) (removal : Option Removal)
    → (row_of end n p role removal).mark ≡ p.mark
row_mark end n p (Opener kind) removal = refl
row_mark end n p (Closer kinds) removal = refl

pub row_level : (end : Pos) (n : ℕ) (p : Placed) (role : Role) (removal : Option Removal)
    → (row_of end n p role removal).level ≡ p.level
row_level end n p (Opener kind) removal = refl
row_level end n p (Closer kinds) removal = refl

pub openers_are_below_the_limit : OpenersAreBelowTheLimit
openers_are_below_the_limit limit end ms i kind row there opens =
    let r : RowAt end i (placed_from limit nothing_open ms) i row =
    row_at end (placed_from limit nothing_open ms) i row there in
    let mark : row.mark ≡ r.placed.mark = ap (λ x. x.mark) r.is
    ∙ row_mark end i r.placed r.placed.mark.role
    (removal_of i (i + 1) (drop (suc i) (placed_from limit nothing_open ms))) in
    let level : row.level ≡ r.placed.level =
    ap (λ x. x.level) r.is ∙ row_level end i r.placed r.placed.mark.role
    (removal_of i (i + 1) (drop (suc i) (placed_from limit nothing_open ms))) in
    rw level (openers_below limit ms nothing_open i kind r.placed r.there (ap (λ m. m.role) (sym mark) ∙ opens))

pair_below : (limit : ℕ) (ms : List Mark) (i j : ℕ) (pair : Pair (placed_from limit nothing_open ms) i j)
    → pair.opener.level < limit
pair_below limit ms i j pair = openers_below limit ms nothing_open i pair.kind pair.opener pair.opener_there pair.opens

pub partners_are_below_the_limit : PartnersAreBelowTheLimit
partners_are_below_the_limit limit end ms i j row h = elim (partner_pair limit end ms i j row h) [
  | inl pair ↦ rw (opener_is end (placed_from limit nothing_open ms) i j row pair h.there)
      (pair_below limit ms i j pair)
  | inr pair ↦ rw (closer_is end (placed_from limit nothing_open ms) j i row pair h.there, pair.level)
      (pair_below limit ms j i pair)
]
