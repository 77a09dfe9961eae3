-- Marks rise, and leave no text out.
use Rattle.std.proofs.Common.{◌≡◌, ℕ, zero, suc, ◌+◌, ◌-◌, ◌<◌, ◌≤◌, List, [], ◌∷◌, ◌++◌, length, Option, Some}
use Rattle.std.proofs.Common.{None, refl, sym, ap, ◌∙◌, arith, inl, inr, length-drop}
use Rattle.std.specs.Prelude.{slice_get}
use Rattle.std.proofs.lemmas.Bool.{cases_lt}
use Rattle.pairing_defs.specs.declared.BracketText.{BracketText}
use Rattle.pairing_defs.specs.declared.LineMark.{LineMark}
use Rattle.pairing_defs.specs.Marks.{bracket_at, marked, further, marks_from}
use Rattle.bracket_marks.specs.MarkLaws.{MarksRise, NoTextIsMissed}
use Rattle.bracket_marks.proofs.LongestText.{bracket_fits}
use Rattle.bracket_marks.proofs.TextsThatStand.{LongestOf, some_longest}
use Rattle.bracket_marks.proofs.MarkedColumns.{MarkAt, mark_from, some_mark, marks_short}

-- ---- order
module _ (found : ℕ → Option BracketText) (mark later : LineMark) where
  rise_here : (column left : ℕ) (here : Option BracketText) (k l : ℕ)
      → ((n k l : ℕ) → slice_get (marks_from found n (column + 1) left) k ≡ Some mark
      → slice_get (marks_from found n (column + 1) left) l ≡ Some later → k < l → mark.to ≤ later.from)
      → slice_get (marked column here ++ marks_from found (further here) (column + 1) left) k ≡ Some mark
      → slice_get (marked column here ++ marks_from found (further here) (column + 1) left) l ≡ Some later → k < l
      → mark.to ≤ later.from
  rise_here column left None k l rest there there_later order = rest 0 k l there there_later order
  rise_here column left (Some b) k zero rest there there_later order = absurd (omega arith)
  rise_here column left (Some b) zero (suc l) rest there there_later order =
      let made : record { from = column; to = column + length b.text; role = b.role } ≡ mark = cc in
      let to : column + length b.text ≡ mark.to = ap (λ m. m.to) made in
      let m : MarkAt found later (length b.text - 1) (column + 1) left =
      mark_from found later left (length b.text - 1) (column + 1) l there_later in
      let behind = m.behind in
      omega arith
  rise_here column left (Some b) (suc k) (suc l) rest there there_later order =
      rest (length b.text - 1) k l there there_later (omega arith)

  rise : (left taken column k l : ℕ) → slice_get (marks_from found taken column left) k ≡ Some mark
      → slice_get (marks_from found taken column left) l ≡ Some later → k < l → mark.to ≤ later.from
  rise zero taken column k l there there_later order = absurd (cc)
  rise (suc left) zero column k l there there_later order =
      rise_here column left (found column) k l (λ n i j. rise left n (column + 1) i j) there there_later order
  rise (suc left) (suc taken) column k l there there_later order =
      rise left taken (column + 1) k l there there_later order

pub marks_rise : MarksRise
marks_rise texts long counts line k l mark later there there_later order =
    rise (bracket_at texts counts line) mark later (length line) 0 0 k l (some_mark texts long counts line k mark there)
    (some_mark texts long counts line l later there_later) order

-- ---- nothing is missed
-- a mark has the column
record Covered (marks : List LineMark) (column : ℕ) : Type 0 where
  place : ℕ
  mark : LineMark
  there : slice_get marks place ≡ Some mark
  from : mark.from ≤ column
  to : column < mark.to

more_covered : (front marks : List LineMark) (column : ℕ) → Covered marks column → Covered (front ++ marks) column
more_covered [] marks column r = r
more_covered (m ∷ front) marks column r =
    let more : Covered (front ++ marks) column = more_covered front marks column r in
    record { place = suc more.place; mark = more.mark; there = more.there; from = more.from; to = more.to }

module _ (found : ℕ → Option BracketText) (at : ℕ) (b : BracketText) (is : found at ≡ Some b)
    (some : (column : ℕ) (a : BracketText) → found column ≡ Some a → 0 < length a.text) where
  covered_here : (column left : ℕ) (here : Option BracketText) → found column ≡ here → column ≤ at
      → ((n : ℕ) → column + 1 + n ≤ at → Covered (marks_from found n (column + 1) left) at)
      → Covered (marked column here ++ marks_from found (further here) (column + 1) left) at
  covered_here column left None none low rest = elim (cases_lt column at) [
    | inl behind ↦ rest 0 (omega arith)
    | inr here ↦
        let same : column ≡ at = omega arith in
        let both : None ≡ Some b = sym none ∙ ap found same ∙ is in
        absurd (cc)
  ]
  covered_here column left (Some a) this low rest = elim (cases_lt at (column + length a.text)) [
    | inl within ↦ record {
      place = 0;
      mark = record { from = column; to = column + length a.text; role = a.role };
      there = refl;
      from = omega arith;
      to = omega arith;
    }
    | inr behind ↦
        let long = some column a this in
        more_covered (marked column (Some a)) (marks_from found (length a.text - 1) (column + 1) left) at
        (rest (length a.text - 1) (omega arith))
  ]

  covered : (left taken column : ℕ) → column + taken ≤ at → at < column + left
      → Covered (marks_from found taken column left) at
  covered zero taken column low high = absurd (omega arith)
  covered (suc left) zero column low high =
      covered_here column left (found column) refl (omega arith)
      (λ n behind. covered left n (column + 1) behind (omega arith))
  covered (suc left) (suc taken) column low high = covered left taken (column + 1) (omega arith) (omega arith)

pub no_text_is_missed : NoTextIsMissed
no_text_is_missed texts long counts line column b short listed stands =
    let l : LongestOf _ texts b = some_longest texts counts line column b listed stands in
    let fits = bracket_fits texts counts line column l.text l.is in
    let found = bracket_at texts counts line in
    let within : column < 0 + length line = omega (arith, fits.0, fits.1, length-drop column line) in
    let some = λ (n : ℕ) (a : BracketText) (e : found n ≡ Some a). (bracket_fits texts counts line n a e).0 in
    let r : Covered (marks_from found 0 0 (length line)) column =
    covered found column l.text l.is some (length line) 0 0 (omega arith) within in (
      r.place,
      r.mark,
      ap (λ marks. slice_get marks r.place) (marks_short texts long counts line short) ∙ r.there,
      r.from,
      r.to,
    )
