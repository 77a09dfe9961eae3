-- Laws of the marks of a line, whatever the texts, the line and the length that is too long. That they hold is this
-- project's own.
use Rattle.std.specs.Prelude.{◌≡◌, ℕ, ◌+◌, ◌<◌, ◌≤◌, List, [], Bool, true, length, Some, slice_get, slice_range}
use Rattle.pairing_defs.specs.declared.BracketText.{BracketText}
use Rattle.pairing_defs.specs.declared.LineMark.{LineMark}
use Rattle.pairing_defs.specs.Marks.{cuts_no_word, marks_of}

-- one of some texts
pub record IsOneOf (b : BracketText) (texts : List BracketText) : Type 0 where
  pub place : ℕ
  pub there : slice_get texts place ≡ Some b

-- each column from `from` on and before `to` counts
abbrev pub EachCounts : (ℕ → Bool) → ℕ → ℕ → Type 0
EachCounts counts from to = (column : ℕ) → from ≤ column → column < to → counts column ≡ true

-- the text stands in the line from this column on, at columns that count, and cuts no word; an empty text stands nowhere
pub record Stands (counts : ℕ → Bool) (line : List ℕ) (column : ℕ) (text : List ℕ) : Type 0 where
  pub some : 0 < length text
  pub is : slice_range line column (column + length text) ≡ text
  pub counted : EachCounts counts column (column + length text)
  pub whole_words : cuts_no_word line column text ≡ true

-- a mark of the line is one of the texts, which stands from its first column to its last. No longer one stands there,
-- and none before it that is as long.
pub record IsMarkOf (texts : List BracketText) (counts : ℕ → Bool) (line : List ℕ) (mark : LineMark) (b : BracketText) : Type 0 where
  pub listed : IsOneOf b texts
  pub text : slice_range line mark.from mark.to ≡ b.text
  pub counted : EachCounts counts mark.from mark.to
  pub whole_words : cuts_no_word line mark.from b.text ≡ true
  pub role : mark.role ≡ b.role
  pub longest : (other : BracketText) → IsOneOf other texts → Stands counts line mark.from other.text
      → length other.text ≤ length b.text
  pub first : (other : BracketText) (o : IsOneOf other texts) → Stands counts line mark.from other.text
      → length other.text ≡ length b.text → listed.place ≤ o.place

-- mark k of the line
abbrev pub IsMark : List BracketText → ℕ → (ℕ → Bool) → List ℕ → ℕ → LineMark → Type 0
IsMark texts long counts line k mark = slice_get (marks_of texts long counts line) k ≡ Some mark

-- a mark isn't empty, and ends in the line
abbrev pub MarksAreInTheLine : Type 0
MarksAreInTheLine = (texts : List BracketText) (long : ℕ) (counts : ℕ → Bool) (line : List ℕ) (k : ℕ) (mark : LineMark)
    → IsMark texts long counts line k mark → (mark.from < mark.to) × (mark.to ≤ length line)

-- each mark ends before the later ones begin
abbrev pub MarksRise : Type 0
MarksRise = (texts : List BracketText) (long : ℕ) (counts : ℕ → Bool) (line : List ℕ) (k l : ℕ) (mark later : LineMark)
    → IsMark texts long counts line k mark → IsMark texts long counts line l later → k < l → mark.to ≤ later.from

-- each mark is the longest of the texts that stand where it begins, and of those the first
abbrev pub MarksAreTheLongestTexts : Type 0
MarksAreTheLongestTexts = (texts : List BracketText) (long : ℕ) (counts : ℕ → Bool) (line : List ℕ) (k : ℕ) (mark : LineMark)
    → IsMark texts long counts line k mark → (b : BracketText) × IsMarkOf texts counts line mark b

-- in a line that isn't too long, each column where a text stands is in a mark
abbrev pub NoTextIsMissed : Type 0
NoTextIsMissed = (texts : List BracketText) (long : ℕ) (counts : ℕ → Bool) (line : List ℕ) (column : ℕ) (b : BracketText)
    → length line < long → IsOneOf b texts → Stands counts line column b.text
    → (k : ℕ) × (mark : LineMark) × IsMark texts long counts line k mark × (mark.from ≤ column) × (column < mark.to)

-- a line that is too long has no marks
abbrev pub LongLinesHaveNoMarks : Type 0
LongLinesHaveNoMarks = (texts : List BracketText) (long : ℕ) (counts : ℕ → Bool) (line : List ℕ) → long ≤ length line
    → marks_of texts long counts line ≡ []
