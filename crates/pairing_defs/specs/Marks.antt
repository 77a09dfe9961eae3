-- The marks of a line. A text is a bracket wherever it stands at columns that count and cuts no word. That the longest
-- text wins, that a very long line has none, and the three built-in pairs are this project's own.
use Rattle.std.specs.Prelude.{ℕ, zero, suc, ◌+◌, ◌-◌, ◌==◌, List, [], ◌∷◌, ◌++◌, length, map, filter, drop, slice_get}
use Rattle.std.specs.Prelude.{Bool, true, false, not, ◌&&◌, nat_eq, nat_lt, nat_le, if◌then◌else◌, Option, Some, None}
use Rattle.std.specs.List.{starts_with, find}
use Rattle.char_sets.specs.Named.{is_word}
use Rattle.scope_defs.specs.declared.types.StdType.{StdType}
use Rattle.scope_defs.specs.declared.types.StdType.TheVariants.{Other, Comment, Text, RegEx}
use Rattle.scope_defs.specs.declared.types.TypeRun.{TypeRun}
use Rattle.text_pos.specs.KindSet.{only}
use Rattle.pairing_defs.specs.declared.Role.TheVariants.{Opener, Closer}
use Rattle.pairing_defs.specs.declared.BracketText.{BracketText}
use Rattle.pairing_defs.specs.declared.LineMark.{LineMark}
use Rattle.pairing_defs.specs.declared.Mark.{Mark}

-- `{` `}`, `[` `]` and `(` `)`, of kinds 0, 1 and 2: the brackets of the usual pairs
abbrev pub usual_texts : List BracketText
usual_texts =
    record { text = 123 ∷ []; role = Opener 0 } ∷ record { text = 91 ∷ []; role = Opener 1 }
    ∷ record { text = 40 ∷ []; role = Opener 2 }
    ∷ record { text = 125 ∷ []; role = Closer (only 0) } ∷ record { text = 93 ∷ []; role = Closer (only 1) }
    ∷ record { text = 41 ∷ []; role = Closer (only 2) } ∷ []

-- Which columns of a line count is told by a test of columns: a text is a bracket only where each of its characters
-- stands at a column that counts.
abbrev pub every_column : ℕ → Bool
every_column column = true

-- The columns of tokens that are no comment, string or regular expression count: a run is the type of the columns up to
-- its end, and the first run that ends behind a column has it. Behind the last run every column counts.
abbrev pub is_other : StdType → Bool
is_other Other = true
is_other Comment = false
is_other Text = false
is_other RegEx = false

abbrev pub counts_by_run : Option TypeRun → Bool
counts_by_run None = true
counts_by_run (Some run) = is_other run.kind

abbrev pub counts_by : List TypeRun → ℕ → Bool
counts_by types column = counts_by_run (find (λ run. nat_lt column run.to) types)

-- whether so many columns count, this one and those behind it
abbrev pub all_count : (ℕ → Bool) → ℕ → ℕ → Bool
all_count counts column zero = true
all_count counts column (suc n) = counts column && all_count counts (column + 1) n

-- the character before a column
abbrev pub char_before : List ℕ → ℕ → Option ℕ
char_before line zero = None
char_before line (suc column) = slice_get line column

-- whether there is a character, and it is one of words: a letter, a mark, a decimal digit or a connector
abbrev pub is_word_char : Option ℕ → Bool
is_word_char None = false
is_word_char (Some c) = is_word c

-- A text cuts no word where no word goes on over its edges: one that begins with a character of words has none right
-- before it, and one that ends with one has none right behind it.
abbrev pub cuts_no_word : List ℕ → ℕ → List ℕ → Bool
cuts_no_word line column text = not (is_word_char (slice_get text 0) && is_word_char (char_before line column))
    && not (is_word_char (char_before text (length text)) && is_word_char (slice_get line (column + length text)))

abbrev pub and_cuts_no_word : Bool → List ℕ → ℕ → List ℕ → Bool
and_cuts_no_word false line column text = false
and_cuts_no_word true line column text = cuts_no_word line column text

-- whether the text stands at a column of the line; an empty text stands nowhere
abbrev pub stands_at : (ℕ → Bool) → List ℕ → ℕ → BracketText → Bool
stands_at counts line column b = if length b.text == 0 then false
    else and_cuts_no_word
    (starts_with nat_eq (drop column line) b.text && all_count counts column (length b.text)) line column b.text

abbrev pub longer : BracketText → Option BracketText → Option BracketText
longer b None = Some b
longer b (Some other) = if nat_lt (length b.text) (length other.text) then Some other else Some b

-- the longest text, and the first of those that are equally long
abbrev pub longest : List BracketText → Option BracketText
longest [] = None
longest (b ∷ bs) = longer b (longest bs)

-- the bracket at a column of the line
abbrev pub bracket_at : List BracketText → (ℕ → Bool) → List ℕ → ℕ → Option BracketText
bracket_at texts counts line column = longest (filter (stands_at counts line column) texts)

-- the mark that a bracket at a column is, and how many further columns it takes
abbrev pub marked : ℕ → Option BracketText → List LineMark
marked column None = []
marked column (Some b) = record { from = column; to = column + length b.text; role = b.role } ∷ []

abbrev pub further : Option BracketText → ℕ
further None = 0
further (Some b) = length b.text - 1

-- the marks from a column on, where `found` says which bracket is at a column: so many columns are left, of which the
-- first `taken` belong to a mark before them
abbrev pub marks_from : (ℕ → Option BracketText) → ℕ → ℕ → ℕ → List LineMark
marks_from found taken column zero = []
marks_from found (suc taken) column (suc left) = marks_from found taken (column + 1) left
marks_from found zero column (suc left) =
    marked column (found column) ++ marks_from found (further (found column)) (column + 1) left

-- the marks of a line, which has none where it has `long` or more characters
abbrev pub marks_of : List BracketText → ℕ → (ℕ → Bool) → List ℕ → List LineMark
marks_of texts long counts line = if nat_le long (length line) then []
    else marks_from (bracket_at texts counts line) 0 0 (length line)

-- a mark of line n
abbrev pub on_line : ℕ → LineMark → Mark
on_line n m = record { at = record { line = n; col = m.from }; to = m.to; role = m.role }

-- the marks of the lines from line n on, in order
abbrev pub marks_of_lines : ℕ → List (List LineMark) → List Mark
marks_of_lines n [] = []
marks_of_lines n (ms ∷ lines) = map (on_line n) ms ++ marks_of_lines (n + 1) lines

-- the marks of a text, given by its lines, where every column counts
abbrev pub text_marks : List BracketText → ℕ → List (List ℕ) → List Mark
text_marks texts long lines = marks_of_lines 0 (map (marks_of texts long every_column) lines)
