-- The inside of an opener ends with the first closer behind it that closes it off, or with the text.
use Rattle.std.proofs.Common.{◌≡◌, ℕ, suc, ◌+◌, ◌-◌, ◌<◌, ◌≤◌, List, drop, Option, Some, None, refl, sym, ap, ◌∙◌}
use Rattle.std.proofs.Common.{arith, inl, inr}
use Rattle.std.specs.Prelude.{slice_get}
use Rattle.std.proofs.lemmas.Bool.{cases_lt}
use Rattle.text_pos.specs.declared.length.Pos.{Pos}
use Rattle.text_pos.specs.declared.kinds.Kinds.{Kinds}
use Rattle.pairing_defs.specs.declared.Role.{Role}
use Rattle.pairing_defs.specs.declared.Role.TheVariants.{Opener, Closer}
use Rattle.pairing_defs.specs.declared.Mark.{Mark}
use Rattle.pairing_defs.specs.declared.Row.{Row}
use Rattle.pairing_defs.specs.Pairing.{Placed, Removal, removal_of, inner_end, row_of, placed_from, nothing_open}
use Rattle.pairing_defs.specs.Pairing.{paired}
use Rattle.bracket_lex.specs.InsideLaws.{IsOpener, InsidesEndAtTheFirstCloser, OpenInsidesEndWithTheText}
use Rattle.bracket_lex.specs.InsideLaws.{ClosersHaveNoInside}
use Rattle.bracket_lex.proofs.RowPlaces.{slice_get-drop, RowAt, row_at, FirstCloser, first_closer, none_earlier}
use Rattle.bracket_lex.proofs.RowPlaces.{none_closes}
use Rattle.bracket_lex.proofs.PairedRows.{partner_pair, closer_is}
use Rattle.bracket_lex.proofs.NestedPairs.{row_mark}
use Rattle.bracket_lex.proofs.LastOpeners.{Off}
use Rattle.bracket_lex.proofs.TakenOpeners.{closed_off, role_of}

opener_inner : (end : Pos) (n kind : ℕ) (p : Placed) (role : Role) (removal : Option Removal) → role ≡ Opener kind
    → (row_of end n p role removal).inner ≡ inner_end end removal
opener_inner end n kind p (Opener own) removal is = refl
opener_inner end n kind p (Closer kinds) removal is = absurd (cc)

closer_inner : (end : Pos) (n : ℕ) (kinds : Kinds) (p : Placed) (role : Role) (removal : Option Removal) → role
    ≡ Closer kinds → (row_of end n p role removal).inner ≡ p.mark.at
closer_inner end n kinds p (Opener own) removal is = absurd (cc)
closer_inner end n kinds p (Closer own) removal is = refl

inner_is : (limit : ℕ) (end : Pos) (ms : List Mark) (i : ℕ) (row : Row) → IsOpener (paired limit end ms) i row
    → row.inner ≡ inner_end end (removal_of i (i + 1) (drop (suc i) (placed_from limit nothing_open ms)))
inner_is limit end ms i row o =
    let r : RowAt end i (placed_from limit nothing_open ms) i row =
    row_at end (placed_from limit nothing_open ms) i row o.there in
    ap (λ x. x.inner) r.is
    ∙ opener_inner end i o.kind r.placed r.placed.mark.role
    (removal_of i (i + 1) (drop (suc i) (placed_from limit nothing_open ms)))
    (role_of end (placed_from limit nothing_open ms) i row r ∙ o.role)

-- the first closer closes the row off before each later row
off_by_first : (i at : ℕ) (ps : List Placed) (r : Removal) → FirstCloser i (i + 1) (drop (suc i) ps) r → r.row < at
    → Off 0 ps at i
off_by_first i at ps r f later =
    let number = f.number in
    record {
      place = suc i + f.place;
      placed = f.placed;
      there = sym (slice_get-drop ps (suc i) f.place) ∙ f.there;
      closed = r.closes;
      closes = f.closes;
      around = f.within;
      behind = omega arith;
      before = omega arith;
    }

-- where the first closer is row l, it starts there
starts_at : (i l : ℕ) (ps : List Placed) (r : Removal) (q : Placed) → FirstCloser i (i + 1) (drop (suc i) ps) r
    → r.row ≡ l → slice_get ps l ≡ Some q → r.start ≡ q.mark.at
starts_at i l ps r q f is there =
    let number = f.number in
    let at : suc i + f.place ≡ l = omega arith in
    let first : slice_get ps l ≡ Some f.placed =
    ap (slice_get ps) (sym at) ∙ sym (slice_get-drop ps (suc i) f.place) ∙ f.there in
    let same : f.placed ≡ q = cc in
    f.start ∙ ap (λ x. x.mark.at) same

first_by : (end : Pos) (ps : List Placed) (i l m : ℕ) (q : Placed) (removal : Option Removal)
    → removal_of i (i + 1) (drop (suc i) ps) ≡ removal → slice_get ps l ≡ Some q
    → slice_get (drop (suc i) ps) (l - suc i) ≡ Some q → q.closes ≡ Some m → m ≤ i → i < l → (Off 0 ps l i → ⊥)
    → inner_end end removal ≡ q.mark.at
first_by end ps i l m q None is there there_too closes around behind stays =
    absurd (none_closes i (i + 1) m (drop (suc i) ps) (l - suc i) q is there_too closes around)
first_by end ps i l m q (Some r) is there there_too closes around behind stays =
    let f : FirstCloser i (i + 1) (drop (suc i) ps) r = first_closer i (i + 1) (drop (suc i) ps) r is in
    let within : r.row ≤ l = none_earlier i (i + 1) l m (drop (suc i) ps) (l - suc i) q r there_too closes around
    (omega arith) is in
    elim (cases_lt r.row l) [
      | inl before ↦ absurd (stays (off_by_first i l ps r f before))
      | inr not_before ↦ starts_at i l ps r q f (omega arith) there
    ]

first_at : (end : Pos) (ps : List Placed) (i l m : ℕ) (q : Placed) (removal : Option Removal)
    → removal_of i (i + 1) (drop (suc i) ps) ≡ removal → slice_get ps l ≡ Some q → q.closes ≡ Some m → m ≤ i → i < l
    → (Off 0 ps l i → ⊥) → inner_end end removal ≡ q.mark.at
first_at end ps i l m q removal is there closes around behind stays =
    let at : suc i + (l - suc i) ≡ l = omega arith in
    let there_too : slice_get (drop (suc i) ps) (l - suc i) ≡ Some q =
    slice_get-drop ps (suc i) (l - suc i) ∙ ap (slice_get ps) at ∙ there in
    first_by end ps i l m q removal is there there_too closes around behind stays

pub insides_end_at_the_first_closer : InsidesEndAtTheFirstCloser
insides_end_at_the_first_closer limit end ms i l m opener closer o h around behind stays =
    elim (partner_pair limit end ms l m closer h) [
      | inl pair ↦ absurd (let before = pair.before in omega arith)
      | inr pair ↦
          inner_is limit end ms i opener o
          ∙ first_at end (placed_from limit nothing_open ms) i l m pair.closer _ refl pair.closer_there pair.closes
          around
          behind (λ off. stays (closed_off limit end ms i l off))
          ∙ sym (ap (λ x. x.mark.at) (closer_is end (placed_from limit nothing_open ms) m l closer pair h.there))
    ]

with_the_text : (end : Pos) (ps : List Placed) (i : ℕ) (removal : Option Removal)
    → removal_of i (i + 1) (drop (suc i) ps) ≡ removal → ((l : ℕ) → Off 0 ps l i → ⊥) → inner_end end removal ≡ end
with_the_text end ps i None is stays = refl
with_the_text end ps i (Some r) is stays =
    absurd (stays (suc r.row) (off_by_first i (suc r.row) ps r (first_closer i (i + 1) (drop (suc i) ps) r is)
    (omega arith)))

pub open_insides_end_with_the_text : OpenInsidesEndWithTheText
open_insides_end_with_the_text limit end ms i opener o stays =
    inner_is limit end ms i opener o ∙ with_the_text end (placed_from limit nothing_open ms) i _ refl
    (λ l off. stays l (closed_off limit end ms i l off))

pub closers_have_no_inside : ClosersHaveNoInside
closers_have_no_inside limit end ms i kinds closer there is =
    let r : RowAt end i (placed_from limit nothing_open ms) i closer =
    row_at end (placed_from limit nothing_open ms) i closer there in
    let removal : Option Removal = removal_of i (i + 1) (drop (suc i) (placed_from limit nothing_open ms)) in
    ap (λ x. x.inner) r.is
    ∙ closer_inner end i kinds r.placed r.placed.mark.role removal
    (role_of end (placed_from limit nothing_open ms) i closer r ∙ is)
    ∙ sym (ap (λ x. x.mark.at) r.is ∙ ap (λ m. m.at) (row_mark end i r.placed r.placed.mark.role removal))
