-- The rows of two partners.
use Rattle.std.proofs.Common.{◌≡◌, ℕ, suc, ◌+◌, ◌<◌, ◌⊎◌, ◌==◌, ◌%◌, List, drop, Option, Some, None, refl, sym, ap}
use Rattle.std.proofs.Common.{◌∙◌, arith, inl, inr}
use Rattle.std.specs.Prelude.{slice_get}
use Rattle.std.proofs.lemmas.Bool.{cases_Bool, eq-eqb, eqb-true}
use Rattle.text_pos.specs.declared.length.Pos.{Pos}
use Rattle.pairing_defs.specs.declared.TheConstants.{COLOURS}
use Rattle.pairing_defs.specs.declared.Role.{Role}
use Rattle.pairing_defs.specs.declared.Role.TheVariants.{Opener, Closer}
use Rattle.pairing_defs.specs.declared.Mark.{Mark}
use Rattle.pairing_defs.specs.declared.Row.{Row}
use Rattle.pairing_defs.specs.Pairing.{Placed, Removal, removal_of, closer_of, row_by, row_of, rows_from, placed_from}
use Rattle.pairing_defs.specs.Pairing.{nothing_open, paired}
use Rattle.bracket_lex.specs.PairLaws.{HasPartner, ClosesKind, OpensFor, PartnersAreMutual, OpenersComeFirst}
use Rattle.bracket_lex.specs.PairLaws.{PartnersAreAlike, ColoursGoByLevel, TheUnpairedHaveTheColourBehind}
use Rattle.bracket_lex.proofs.RowPlaces.{slice_get-drop, finished, RowAt, row_at, row_made, FirstCloser, first_closer}
use Rattle.bracket_lex.proofs.ClosedRows.{ByRow, closer_of_row}

-- item i is an opener, and item j the first closer behind it that closes it or one before it
pub record Pair (ps : List Placed) (i j : ℕ) : Type 0 where
  pub opener : Placed
  pub closer : Placed
  pub opener_there : slice_get ps i ≡ Some opener
  pub closer_there : slice_get ps j ≡ Some closer
  pub kind : ℕ
  pub opens : opener.mark.role ≡ Opener kind
  pub of_kind : ClosesKind closer.mark.role kind
  pub closes : closer.closes ≡ Some i
  pub level : closer.level ≡ opener.level
  pub own : closer.own ≡ opener.own
  pub before : i < j
  pub first : removal_of i (i + 1) (drop (suc i) ps) ≡ Some (record { row = j; start = closer.mark.at; closes = i })

pub closed_pair : (limit : ℕ) (ms : List Mark) (i j : ℕ) (q : Placed)
    → slice_get (placed_from limit nothing_open ms) j ≡ Some q → q.closes ≡ Some i
    → Pair (placed_from limit nothing_open ms) i j
closed_pair limit ms i j q there closes =
    let y : ByRow 0 (placed_from limit nothing_open ms) j i q = closer_of_row limit ms j i q there closes in
    let same : y.place ≡ i = omega arith in
    record {
      opener = y.opener;
      closer = q;
      opener_there = ap (slice_get (placed_from limit nothing_open ms)) (sym same) ∙ y.there;
      closer_there = there;
      kind = y.kind;
      opens = y.role;
      of_kind = y.closes;
      closes = closes;
      level = y.level;
      own = y.own;
      before = y.before;
      first = ap (λ n. removal_of i (i + 1) (drop (suc n) (placed_from limit nothing_open ms))) (sym same) ∙ y.first;
    }

-- ---- the rows of a pair
row_is : (end : Pos) (ps : List Placed) (i : ℕ) (p : Placed) (row : Row) → slice_get ps i ≡ Some p
    → slice_get (rows_from end 0 ps) i ≡ Some row → row ≡ finished end i ps i p
row_is end ps i p row there h = let made = row_made end ps i p there in cc

closed_row : (end : Pos) (n kind : ℕ) (p : Placed) (role : Role) (removal : Option Removal) → ClosesKind role kind
    → row_of end n p role removal ≡ row_by p p.closes p.mark.at
closed_row end n kind p (Opener own) removal h = absurd h
closed_row end n kind p (Closer kinds) removal h = refl

pub opener_is : (end : Pos) (ps : List Placed) (i j : ℕ) (row : Row) (pair : Pair ps i j)
    → slice_get (rows_from end 0 ps) i ≡ Some row
    → row ≡ row_by pair.opener (Some j) pair.closer.mark.at
opener_is end ps i j row pair h =
    row_is end ps i pair.opener row pair.opener_there h ∙ rw (pair.opens, pair.first, eq-eqb i i refl) refl

pub closer_is : (end : Pos) (ps : List Placed) (i j : ℕ) (row : Row) (pair : Pair ps i j)
    → slice_get (rows_from end 0 ps) j ≡ Some row
    → row ≡ row_by pair.closer (Some i) pair.closer.mark.at
closer_is end ps i j row pair h =
    row_is end ps j pair.closer row pair.closer_there h
    ∙ closed_row end j pair.kind pair.closer pair.closer.mark.role (removal_of j (j + 1) (drop (suc j) ps)) pair.of_kind
    ∙ ap (λ closes. row_by pair.closer closes pair.closer.mark.at) pair.closes

-- ---- a row with a partner is in a pair
opener_pair : (limit : ℕ) (ms : List Mark) (i j : ℕ) (removal : Option Removal) → closer_of i removal ≡ Some j
    → removal_of i (i + 1) (drop (suc i) (placed_from limit nothing_open ms)) ≡ removal
    → Pair (placed_from limit nothing_open ms) i j
opener_pair limit ms i j None is found = absurd (cc)
opener_pair limit ms i j (Some r) is found = elim (cases_Bool (r.closes == i)) [
  | inl this ↦
      let taken : Some r.row ≡ Some j = rw this at is in
      let row : r.row ≡ j = cc in
      let closed : r.closes ≡ i = eqb-true r.closes i this in
      let f : FirstCloser i (i + 1) (drop (suc i) (placed_from limit nothing_open ms)) r =
      first_closer i (i + 1) (drop (suc i) (placed_from limit nothing_open ms)) r found in
      let at : suc i + f.place ≡ j = omega arith in
      let there : slice_get (placed_from limit nothing_open ms) j ≡ Some f.placed =
      ap (slice_get (placed_from limit nothing_open ms)) (sym at)
      ∙ sym (slice_get-drop (placed_from limit nothing_open ms) (suc i) f.place) ∙ f.there in
      closed_pair limit ms i j f.placed there (f.closes ∙ ap (λ n. Some n) closed)
  | inr other ↦ absurd (let none : None ≡ Some j = rw other at is in cc)
]

pair_by : (limit : ℕ) (end : Pos) (ms : List Mark) (i j : ℕ) (p : Placed) (role : Role)
    → slice_get (placed_from limit nothing_open ms) i ≡ Some p
    → (row_of end i p role (removal_of i (i + 1) (drop (suc i) (placed_from limit nothing_open ms)))).partner ≡ Some j
    → Pair (placed_from limit nothing_open ms) i j ⊎ Pair (placed_from limit nothing_open ms) j i
pair_by limit end ms i j p (Opener kind) there is =
    inl (opener_pair limit ms i j (removal_of i (i + 1) (drop (suc i) (placed_from limit nothing_open ms))) is refl)
pair_by limit end ms i j p (Closer kinds) there is = inr (closed_pair limit ms j i p there is)

pub partner_pair : (limit : ℕ) (end : Pos) (ms : List Mark) (i j : ℕ) (row : Row)
    → HasPartner (paired limit end ms) i row j
    → Pair (placed_from limit nothing_open ms) i j ⊎ Pair (placed_from limit nothing_open ms) j i
partner_pair limit end ms i j row h =
    let r : RowAt end i (placed_from limit nothing_open ms) i row =
    row_at end (placed_from limit nothing_open ms) i row h.there in
    pair_by limit end ms i j r.placed r.placed.mark.role r.there (ap (λ x. x.partner) (sym r.is) ∙ h.partner)

-- ---- the laws
pub partners_are_mutual : PartnersAreMutual
partners_are_mutual limit end ms i j row h = elim (partner_pair limit end ms i j row h) [
  | inl pair ↦
      let made = row_made end (placed_from limit nothing_open ms) j pair.closer pair.closer_there in (
        finished end j (placed_from limit nothing_open ms) j pair.closer,
        record {
          there = made;
          partner = ap (λ x. x.partner)
              (closer_is end (placed_from limit nothing_open ms) i j _ pair made);
        },
      )
  | inr pair ↦
      let made = row_made end (placed_from limit nothing_open ms) j pair.opener pair.opener_there in (
        finished end j (placed_from limit nothing_open ms) j pair.opener,
        record {
          there = made;
          partner = ap (λ x. x.partner)
              (opener_is end (placed_from limit nothing_open ms) j i _ pair made);
        },
      )
]

opens_for : (ps : List Placed) (i j : ℕ) (pair : Pair ps i j) → OpensFor pair.opener.mark.role pair.closer.mark.role
opens_for ps i j pair = rw (pair.opens) pair.of_kind

pub openers_come_first : OpenersComeFirst
openers_come_first limit end ms i j row other h = elim (partner_pair limit end ms i j row h.first) [
  | inl pair ↦
      inl (
        pair.before,
        rw (
          opener_is end (placed_from limit nothing_open ms) i j row pair h.first.there,
          closer_is
              end (placed_from limit nothing_open ms) i j other pair h.second,
        )
            (opens_for (placed_from limit nothing_open ms) i j pair),
      )
  | inr pair ↦
      inr (
        pair.before,
        rw (
          opener_is end (placed_from limit nothing_open ms) j i other pair h.second,
          closer_is end
              (placed_from limit nothing_open ms) j i row pair h.first.there,
        )
            (opens_for (placed_from limit nothing_open ms) j i pair),
      )
]

alike : (ps : List Placed) (i j : ℕ) (opener closer : Row) (pair : Pair ps i j) → opener
    ≡ row_by pair.opener (Some j) pair.closer.mark.at → closer ≡ row_by pair.closer (Some i) pair.closer.mark.at
    → (opener.level ≡ closer.level) × (opener.own ≡ closer.own) × (opener.colour ≡ closer.colour)
alike ps i j opener closer pair o c = rw (o, c)
    (sym pair.level, sym pair.own, ap (λ level. level % COLOURS) (sym pair.level))

pub partners_are_alike : PartnersAreAlike
partners_are_alike limit end ms i j row other h = elim (partner_pair limit end ms i j row h.first) [
  | inl pair ↦
      alike (placed_from limit nothing_open ms) i j row other pair
      (opener_is end (placed_from limit nothing_open ms) i j row pair h.first.there)
      (closer_is end (placed_from limit nothing_open ms) i j other pair h.second)
  | inr pair ↦
      let same = alike (placed_from limit nothing_open ms) j i other row pair
      (opener_is end (placed_from limit nothing_open ms) j i other pair h.second)
      (closer_is end (placed_from limit nothing_open ms) j i row pair h.first.there) in
      (sym same.0, sym same.1, sym same.2)
]

pub colours_go_by_level : ColoursGoByLevel
colours_go_by_level limit end ms i j row h = elim (partner_pair limit end ms i j row h) [
  | inl pair ↦ rw (opener_is end (placed_from limit nothing_open ms) i j row pair h.there) refl
  | inr pair ↦ rw (closer_is end (placed_from limit nothing_open ms) j i row pair h.there) refl
]

colour_by : (end : Pos) (n : ℕ) (p : Placed) (role : Role) (removal : Option Removal)
    → (row_of end n p role removal).partner ≡ None → (row_of end n p role removal).colour ≡ COLOURS
colour_by end n p (Opener kind) removal is = rw is refl
colour_by end n p (Closer kinds) removal is = rw is refl

pub the_unpaired_have_the_colour_behind : TheUnpairedHaveTheColourBehind
the_unpaired_have_the_colour_behind limit end ms i row there none =
    let r : RowAt end i (placed_from limit nothing_open ms) i row =
    row_at end (placed_from limit nothing_open ms) i row there in
    ap (λ x. x.colour) r.is
    ∙ colour_by end i r.placed r.placed.mark.role
    (removal_of i (i + 1) (drop (suc i) (placed_from limit nothing_open ms))) (ap (λ x. x.partner) (sym r.is) ∙ none)
