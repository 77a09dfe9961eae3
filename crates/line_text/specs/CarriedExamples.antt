-- What some batches carry: worked examples.
use Rattle.std.specs.Prelude.{◌≡◌, ℕ, List, [], ◌∷◌, refl}
use Rattle.text_defs.specs.Batch.{TextEdit, edited}
use Rattle.line_text.specs.declared.carry.Run.{Run}
use Rattle.line_text.specs.Carried.{carried}

abbrev edit : ℕ → ℕ → ℕ → ℕ → List ℕ → TextEdit
edit from_line from_col to_line to_col text = record { span = record { from = record { line = from_line; col = from_col }; to = record { line = to_line; col = to_col } }; text = text }

abbrev run : ℕ → ℕ → ℕ → Run
run old new count = record { old = old; new = new; count = count }

-- the lines `a` to `e`
abbrev five : List ℕ
five = 97 ∷ 10 ∷ 98 ∷ 10 ∷ 99 ∷ 10 ∷ 100 ∷ 10 ∷ 101 ∷ []

-- an empty batch carries all
all_lines : carried five [] ≡ run 0 0 5 ∷ []
all_lines = refl

-- a line is touched though only an end is put before it
line_before : carried (97 ∷ 10 ∷ 98 ∷ []) (edit 0 0 0 0 (10 ∷ []) ∷ []) ≡ run 1 2 1 ∷ []
line_before = refl

-- so is the line behind a joined one
joined_lines : carried five (edit 1 1 2 0 [] ∷ []) ≡ run 0 0 1 ∷ run 3 2 2 ∷ []
joined_lines = refl

-- between two edits on neighbouring lines nothing is carried
neighbours : carried five (edit 1 0 1 0 [] ∷ edit 2 0 2 0 [] ∷ []) ≡ run 0 0 1 ∷ run 3 3 2 ∷ []
neighbours = refl

-- a CR LF in an edit's text is one end
normalised : carried five (edit 0 0 0 0 (13 ∷ 10 ∷ 13 ∷ []) ∷ []) ≡ run 1 3 4 ∷ []
normalised = refl

-- several edits on one line
on_one_line : carried five (edit 2 0 2 0 (10 ∷ []) ∷ edit 2 1 2 1 (10 ∷ []) ∷ []) ≡ run 0 0 2 ∷ run 3 5 2 ∷ []
on_one_line = refl

-- lines removed before and ends added behind
both_ways : carried five (edit 0 1 1 1 [] ∷ edit 3 0 3 1 (10 ∷ 10 ∷ []) ∷ []) ≡ run 2 1 1 ∷ run 4 5 1 ∷ []
both_ways = refl

-- an edit that holds all lines
nothing : carried five (edit 0 0 4 1 [] ∷ []) ≡ []
nothing = refl

-- and the text that it leaves
emptied : edited five (edit 0 0 4 1 [] ∷ []) ≡ []
emptied = refl
