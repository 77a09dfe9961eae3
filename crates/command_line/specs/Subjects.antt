-- The text that is asked for, as the program holds it.
use Rattle.std.specs.Prelude.{◌≤◌}
use Rattle.generator_defs.specs.declared.TheConstants.{MOST_GENERATED_LINES}
use Rattle.session_defs.specs.Words.{Subject as Asked, text_file, generated}
use Rattle.command_line.specs.declared.words.Subject.{Subject}
use Rattle.command_line.specs.declared.words.Subject.TheVariants.{TextFile, Generated}

abbrev pub subject_in : Subject → Asked
subject_in (TextFile name) = text_file name.now
subject_in (Generated lines) = generated lines

-- a text that is made has at least one line, and no more than it may have
abbrev pub IsInRange : Asked → Type 0
IsInRange (text_file name) = Unit {0}
IsInRange (generated lines) = (1 ≤ lines) × (lines ≤ MOST_GENERATED_LINES)
