-- Lines as they are cut off the script, and what they mean.
use Rattle.std.specs.Prelude.{List, [], ◌∷◌, Bool, true, false}
use Rattle.piece_io.specs.declared.line_cutter.Cut.{Cut}
use Rattle.piece_io.specs.declared.line_cutter.Cut.TheVariants.{Line, TooLong}
use Rattle.piece_io.specs.Cuts.{Cutting}
use Rattle.script_words.specs.declared.refusal.Refusal.TheVariants as refusal
use Rattle.script_words.specs.Script.{Reading, refused, meaning_of}

-- what a line means that was cut off the script
abbrev pub cut_reading : Cut → Reading
cut_reading TooLong = refused refusal.Long
cut_reading (Line line) = meaning_of line

-- the unfinished line is handed out at the script's end, where it has a byte
abbrev pub last_given : Cut → Bool → List Cut
last_given cut false = []
last_given TooLong true = TooLong ∷ []
last_given (Line []) true = []
last_given (Line (b ∷ bytes)) true = Line (b ∷ bytes) ∷ []

-- the lines that will be handed out with nothing more fed
abbrev pub lines_given : List Cut → Bool → List Cut
lines_given [] ended = []
lines_given (cut ∷ []) ended = last_given cut ended
lines_given (cut ∷ next ∷ later) ended = cut ∷ lines_given (next ∷ later) ended

abbrev pub given : Cutting → List Cut
given c = lines_given c.cuts c.ended

-- the last of the lines, alone
abbrev pub last_of : List Cut → List Cut
last_of [] = []
last_of (cut ∷ []) = cut ∷ []
last_of (cut ∷ next ∷ later) = last_of (next ∷ later)
