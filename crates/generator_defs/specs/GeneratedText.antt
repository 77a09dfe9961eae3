-- The text that the generator makes of a number n, and the edits that it makes then, one after the other, each of the text
-- at hand. All of it is this project's own.
use Rattle.std.specs.Prelude.{ℕ, zero, suc, ◌+◌, ◌*◌, ◌%◌, ◌==◌, ◌&&◌, Bool, nat_lt, if◌then◌else◌, List, [], ◌∷◌, length, map, codes, slice_index}
use Rattle.std.specs.List.{join_with_byte, range_with_len}
use Rattle.text_pos.specs.declared.length.Pos.{Pos}
use Rattle.text_defs.specs.Text.{line_count, line_of}
use Rattle.text_defs.specs.Batch.{TextEdit, edited}
use Rattle.generator_defs.specs.declared.TheConstants.{PIECES_OF_A_LINE}

-- ---- the text

-- three openers, their closers, a letter and a space
abbrev pub pieces : List ℕ
pieces = codes "([{)]}a "

-- the piece of a number, modulo 8
unfoldable pub piece : ℕ → ℕ
piece k = slice_index pieces (k % 8)

-- line i of the text of n lines
unfoldable pub generated_line : (n i : ℕ) → List ℕ
generated_line n i = map (λ p. piece (3 * i + 5 * p + i * p + n)) (range_with_len 0 PIECES_OF_A_LINE)

-- n lines, with an LF between each two
unfoldable pub generated_text : ℕ → List ℕ
generated_text n = join_with_byte 10 (map (generated_line n) (range_with_len 0 n))

-- ---- edits

-- where edit j is made in a text: the line and the column go on by fixed steps, and from the end again at the start
abbrev pub edit_line : ℕ → List ℕ → ℕ
edit_line j text = (37 * j) % line_count text

abbrev pub edit_column : ℕ → List ℕ → ℕ
edit_column j line = (11 * j) % (length line + 1)

-- each fourth edit deletes, where there is a character
abbrev pub is_deletion : ℕ → List ℕ → Bool
is_deletion j line = j % 4 == 0 && nat_lt (edit_column j line) (length line)

-- what any other inserts: each eighth an LF, and the others a piece
abbrev pub inserted : ℕ → ℕ → ℕ
inserted n j = if j % 8 == 7 then 10 else piece (5 * j + n)

-- the edit by which the character at a place goes
abbrev pub deletion : Pos → TextEdit
deletion at = record { span = record { from = at; to = record { line = at.line; col = at.col + 1 } }; text = [] }

-- the edit by which a character comes to a place
abbrev pub insertion : Pos → ℕ → TextEdit
insertion at c = record { span = record { from = at; to = at }; text = c ∷ [] }

abbrev pub edit_at : ℕ → ℕ → ℕ → List ℕ → TextEdit
edit_at n j row line = if is_deletion j line then deletion (record { line = row; col = edit_column j line })
    else insertion (record { line = row; col = edit_column j line }) (inserted n j)

-- edit j of a text
unfoldable pub generated_edit : (n j : ℕ) → List ℕ → TextEdit
generated_edit n j text = edit_at n j (edit_line j text) (line_of text (edit_line j text))

-- a text after edit j of it
abbrev pub after_edit : (n j : ℕ) → List ℕ → List ℕ
after_edit n j text = edited text (generated_edit n j text ∷ [])

-- the text of n lines after so many edits
unfoldable pub text_after : (n edits : ℕ) → List ℕ
text_after n zero = generated_text n
text_after n (suc j) = after_edit n (suc j) (text_after n j)
