-- The marks of a line, by their columns.
use Rattle.std.proofs.Common.{◌≡◌, ℕ, zero, suc, ◌+◌, ◌-◌, ◌<◌, ◌≤◌, Bool, List, ◌++◌, length, Option}
use Rattle.std.proofs.Common.{Some, None, refl, sym, ap, ◌∙◌, arith, inl, inr, length-drop}
use Rattle.std.specs.Prelude.{slice_get}
use Rattle.std.proofs.lemmas.Bool.{cases_lt, le-leb, lt-leb}
use Rattle.pairing_defs.specs.declared.BracketText.{BracketText}
use Rattle.pairing_defs.specs.declared.LineMark.{LineMark}
use Rattle.pairing_defs.specs.Marks.{bracket_at, marked, further, marks_from, marks_of}
use Rattle.bracket_marks.specs.MarkLaws.{IsMark, IsMarkOf, MarksAreInTheLine, MarksAreTheLongestTexts}
use Rattle.bracket_marks.specs.MarkLaws.{LongLinesHaveNoMarks}
use Rattle.bracket_marks.proofs.LongestText.{bracket_fits}
use Rattle.bracket_marks.proofs.TextsThatStand.{LongestOf, FirstOf, stands_from, some_longest, found_first}
use Rattle.bracket_marks.proofs.TextsThatStand.{found_stands, slice_from}

-- ---- where a mark is
module _ (found : ℕ → Option BracketText) (mark : LineMark) where
  -- a mark from a column on is the bracket that is found where it begins
  pub record MarkAt (taken column left : ℕ) : Type 0 where
    pub behind : column + taken ≤ mark.from
    pub within : mark.from < column + left
    pub text : BracketText
    pub is : found mark.from ≡ Some text
    pub to : mark.to ≡ mark.from + length text.text
    pub role : mark.role ≡ text.role

  one_further : (taken less column left : ℕ) → MarkAt less (column + 1) left → taken ≤ suc less
      → MarkAt taken column (suc left)
  one_further taken less column left m fewer =
      let behind = m.behind in
      let within = m.within in
      record { behind = omega arith; within = omega arith; text = m.text; is = m.is; to = m.to; role = m.role }

  mark_here : (column left : ℕ) (here : Option BracketText) (k : ℕ) → found column ≡ here
      → ((n l : ℕ) → slice_get (marks_from found n (column + 1) left) l ≡ Some mark → MarkAt n (column + 1) left)
      → slice_get (marked column here ++ marks_from found (further here) (column + 1) left) k ≡ Some mark
      → MarkAt 0 column (suc left)
  mark_here column left None k is later there = one_further 0 0 column left (later 0 k there) (omega arith)
  mark_here column left (Some b) zero is later there =
      let made : record { from = column; to = column + length b.text; role = b.role } ≡ mark = cc in
      let from : column ≡ mark.from = ap (λ m. m.from) made in
      let to : column + length b.text ≡ mark.to = ap (λ m. m.to) made in
      record {
        behind = omega arith;
        within = omega arith;
        text = b;
        is = ap found (sym from) ∙ is;
        to = omega arith;
        role = sym (ap (λ m. m.role) made);
      }
  mark_here column left (Some b) (suc k) is later there =
      one_further 0 (length b.text - 1) column left (later (length b.text - 1) k there) (omega arith)

  pub mark_from : (left taken column k : ℕ) → slice_get (marks_from found taken column left) k ≡ Some mark
      → MarkAt taken column left
  mark_from zero taken column k there = absurd (cc)
  mark_from (suc left) zero column k there =
      mark_here column left (found column) k refl (λ n l h. mark_from left n (column + 1) l h) there
  mark_from (suc left) (suc taken) column k there =
      one_further (suc taken) taken column left (mark_from left taken (column + 1) k there) (omega arith)

-- ---- the marks of a whole line
pub long_lines_have_no_marks : LongLinesHaveNoMarks
long_lines_have_no_marks texts long counts line longer = rw (le-leb long (length line) longer) refl

module _ (texts : List BracketText) (long : ℕ) (counts : ℕ → Bool) (line : List ℕ) where
  -- a line that has marks isn't too long
  pub marks_short : length line < long
      → marks_of texts long counts line ≡ marks_from (bracket_at texts counts line) 0 0 (length line)
  marks_short short = rw (lt-leb long (length line) short) refl

  pub some_mark : (k : ℕ) (mark : LineMark) → IsMark texts long counts line k mark
      → slice_get (marks_from (bracket_at texts counts line) 0 0 (length line)) k ≡ Some mark
  some_mark k mark there = elim (cases_lt (length line) long) [
    | inl short ↦ ap (λ marks. slice_get marks k) (sym (marks_short short)) ∙ there
    | inr longer ↦
        let none : None ≡ Some mark =
        ap (λ marks. slice_get marks k) (sym (long_lines_have_no_marks texts long counts line longer)) ∙ there in
        absurd (cc)
  ]

  mark_of_line : (k : ℕ) (mark : LineMark) → IsMark texts long counts line k mark
      → MarkAt (bracket_at texts counts line) mark 0 0 (length line)
  mark_of_line k mark there = mark_from (bracket_at texts counts line) mark (length line) 0 0 k (some_mark k mark there)

pub marks_are_in_the_line : MarksAreInTheLine
marks_are_in_the_line texts long counts line k mark there =
    let m : MarkAt (bracket_at texts counts line) mark 0 0 (length line) =
    mark_of_line texts long counts line k mark there in
    let fits = bracket_fits texts counts line mark.from m.text m.is in
    let to = m.to in
    let within = m.within in
    (omega (arith, fits.0), omega (arith, fits.1, length-drop mark.from line))

pub marks_are_the_longest_texts : MarksAreTheLongestTexts
marks_are_the_longest_texts texts long counts line k mark there =
    let m : MarkAt (bracket_at texts counts line) mark 0 0 (length line) =
    mark_of_line texts long counts line k mark there in
    let f : FirstOf _ texts m.text = found_first texts counts line mark.from m.text m.is in
    let stands = slice_from counts line mark.from mark.to m.text m.to
    (found_stands texts counts line mark.from m.text m.is) in
    let is_mark : IsMarkOf texts counts line mark m.text = record {
      listed = record { place = f.place; there = f.there };
      text = stands.0;
      counted = stands.1;
      whole_words = stands.2;
      role = m.role;
      longest = λ other listed stands.
          let l : LongestOf _ texts other = some_longest texts counts line mark.from other listed stands in
          let same : m.text ≡ l.text = (let is = l.is in let this = m.is in cc) in
          rw same l.at_least;
      first = λ other o stands as_long. f.first o.place other o.there (stands_from counts line mark.from other stands)
          as_long;
    } in
    (m.text, is_mark)
