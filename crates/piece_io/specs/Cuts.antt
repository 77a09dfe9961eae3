-- The lines of a stream of bytes, as a cutter hands them out: without their LFs, and without the bytes of a
-- line that is too long. The rules are this project's own.
use Rattle.std.specs.Prelude.{◌≡◌, ℕ, List, [], ◌∷◌, ◌++◌, length, map, nat_lt, Bool, true, false, if◌then◌else◌, Option, Some, None}
use Rattle.text_defs.specs.Text.{lines_of, whole_lines, unfinished, most_line_bytes}
use Rattle.piece_io.specs.declared.line_cutter.Cut.{Cut}
use Rattle.piece_io.specs.declared.line_cutter.Cut.TheVariants.{Line, TooLong}

-- what is handed out for a line
abbrev pub cut_of : List ℕ → Cut
cut_of line = if nat_lt most_line_bytes (length line) then TooLong else Line line

-- what is handed out for each line of these bytes; the last one is what follows the last LF, and may be empty
abbrev pub cuts_of : List ℕ → List Cut
cuts_of bytes = map cut_of (lines_of bytes)

-- what is handed out for a line that no LF ends: nothing where it has no byte
abbrev pub cut_if_any : List ℕ → List Cut
cut_if_any [] = []
cut_if_any (b ∷ bytes) = cut_of (b ∷ bytes) ∷ []

-- what is handed out for these bytes while more may come, and once nothing more comes
abbrev pub whole_cuts : List ℕ → List Cut
whole_cuts bytes = map cut_of (whole_lines bytes)

abbrev pub all_cuts : List ℕ → List Cut
all_cuts bytes = whole_cuts bytes ++ cut_if_any (unfinished bytes)

-- what a cutter still has: what it will hand out for each line, of which the last is unfinished, and whether
-- nothing more comes
pub record Cutting : Type 0 where
  pub cuts : List Cut
  pub ended : Bool

-- the unfinished line is handed out once nothing more comes, if it has a byte, and then an empty one is left
abbrev pub last_cut : Cut → Bool → Option (Cut × Cutting)
last_cut cut false = None
last_cut TooLong true = Some (TooLong, record { cuts = Line [] ∷ []; ended = true })
last_cut (Line []) true = None
last_cut (Line (b ∷ bytes)) true = Some (Line (b ∷ bytes), record { cuts = Line [] ∷ []; ended = true })

-- the first of these lines that is handed out, and what is left then
abbrev pub first_cut : List Cut → Bool → Option (Cut × Cutting)
first_cut [] ended = None
first_cut (cut ∷ []) ended = last_cut cut ended
first_cut (cut ∷ next ∷ later) ended = Some (cut, record { cuts = next ∷ later; ended = ended })

-- the next line that is handed out, and what is left then
abbrev pub next_cut : Cutting → Option (Cut × Cutting)
next_cut c = first_cut c.cuts c.ended

-- once nothing more comes
abbrev pub ended : Cutting → Cutting
ended c = record { cuts = c.cuts; ended = true }

-- a piece was fed: what was handed out before and what is left are the lines of all bytes fed, as they were
abbrev pub Feeds : Cutting → List ℕ → Cutting → Type 0
Feeds old piece new =
    (handed_out : List Cut) (bytes : List ℕ) → handed_out ++ old.cuts ≡ cuts_of bytes → handed_out ++ new.cuts ≡ cuts_of (bytes ++ piece)

-- what is handed out from here on, one line after another, where nothing more is fed
abbrev pub last_to_come : Option (Cut × Cutting) → List Cut
last_to_come None = []
last_to_come (Some next) = next.0 ∷ []

abbrev pub to_come_of : List Cut → Bool → List Cut
to_come_of [] ended = []
to_come_of (cut ∷ []) ended = last_to_come (last_cut cut ended)
to_come_of (cut ∷ next ∷ later) ended = cut ∷ to_come_of (next ∷ later) ended

abbrev pub to_come : Cutting → List Cut
to_come c = to_come_of c.cuts c.ended
