-- A text is one list of characters, given by their codes. It has no objects for lines: its lines are the
-- pieces between line feeds. Which ends count, and that a leading U+FEFF falls away, is this project's own.
use Rattle.std.specs.Prelude.{ℕ, zero, suc, ◌==◌, ◌&&◌, nat_le, Bool, false, List, [], ◌∷◌, length, if◌then◌else◌}
use Rattle.std.specs.Str.{chars}
use Rattle.std.specs.Str.Lossy.{utf8_valid_len}
use Rattle.text_defs.specs.declared.limits.TheConstants.{MOST_CHARS, MOST_LINES, MOST_LINE_BYTES}

-- whether the list begins with this item
abbrev pub begins_with : ℕ → List ℕ → Bool
begins_with c [] = false
begins_with c (d ∷ ds) = d == c

-- the character c, with `next` behind it in the file and `rest` behind it in the text: a CR before an LF
-- falls away, any other CR is an LF
abbrev pub end_normalised : ℕ → List ℕ → List ℕ → List ℕ
end_normalised c next rest = if c == 13 then (if begins_with 10 next then rest else 10 ∷ rest) else c ∷ rest

-- the characters with one LF for each CR LF and for each other CR
abbrev pub norm : List ℕ → List ℕ
norm [] = []
norm (c ∷ cs) = end_normalised c cs (norm cs)

-- the list without a first U+FEFF
abbrev pub without_bom : List ℕ → List ℕ
without_bom [] = []
without_bom (c ∷ cs) = if c == 65279 then cs else c ∷ cs

-- whether the bytes are UTF-8: the first utf8_valid_len of them are whole characters, and at the byte behind these,
-- where there is one, none begins
abbrev pub is_utf8 : List ℕ → Bool
is_utf8 bytes = utf8_valid_len bytes == length bytes

-- the text that a file of UTF-8 stands for
abbrev pub text_of : List ℕ → List ℕ
text_of bytes = norm (without_bom (chars bytes))

-- c in front of the first of the lines
abbrev pub onto_first : ℕ → List (List ℕ) → List (List ℕ)
onto_first c [] = (c ∷ []) ∷ []
onto_first c (line ∷ lines) = (c ∷ line) ∷ lines

-- c, which may be an LF, in front of the lines
abbrev pub before_lines : ℕ → List (List ℕ) → List (List ℕ)
before_lines c lines = if c == 10 then [] ∷ lines else onto_first c lines

-- the pieces between the LFs, so one more than there are LFs; of characters or of bytes
abbrev pub lines_of : List ℕ → List (List ℕ)
lines_of [] = [] ∷ []
lines_of (c ∷ cs) = before_lines c (lines_of cs)

-- line n, and no characters behind the last line
abbrev pub line_in : List (List ℕ) → ℕ → List ℕ
line_in [] n = []
line_in (line ∷ lines) zero = line
line_in (line ∷ lines) (suc n) = line_in lines n

abbrev pub line_of : List ℕ → ℕ → List ℕ
line_of text n = line_in (lines_of text) n

abbrev pub line_count : List ℕ → ℕ
line_count text = length (lines_of text)

-- the largest text
abbrev pub most_chars : ℕ
most_chars = MOST_CHARS

abbrev pub most_lines : ℕ
most_lines = MOST_LINES

-- all of the list but its last item
abbrev pub all_but_last : {A : Type 0} → List A → List A
all_but_last [] = []
all_but_last (a ∷ []) = []
all_but_last (a ∷ b ∷ rest) = a ∷ all_but_last (b ∷ rest)

-- the last line
abbrev pub last_line : List (List ℕ) → List ℕ
last_line [] = []
last_line (line ∷ []) = line
last_line (line ∷ next ∷ rest) = last_line (next ∷ rest)

-- the lines of these bytes that an LF ends, and what follows the last LF
abbrev pub whole_lines : List ℕ → List (List ℕ)
whole_lines bytes = all_but_last (lines_of bytes)

abbrev pub unfinished : List ℕ → List ℕ
unfinished bytes = last_line (lines_of bytes)

-- the most bytes that a line of a script may have
abbrev pub most_line_bytes : ℕ
most_line_bytes = MOST_LINE_BYTES

-- whether a file's bytes are a text that is small enough
abbrev pub is_text : List ℕ → Bool
is_text bytes = is_utf8 bytes && (nat_le (length (text_of bytes)) most_chars && nat_le (line_count (text_of bytes)) most_lines)
