-- A file as it is read, and why bytes are no file of a kind.
use Rattle.std.specs.Prelude.{◌≡◌, ℕ, ◌≤◌, List, length, false}
use Rattle.piece_io.specs.Told.{Told}
use Rattle.session_defs.specs.declared.file_kind.FileKind.{FileKind}
use Rattle.session_defs.specs.Opening.{is_of_kind, most_file_bytes}
use Rattle.bracket_program.specs.Run.{Reads, refusal_of}
use Rattle.bracket_program.specs.declared.status.Status.{Status}
use Rattle.bracket_program.specs.declared.status.Status.TheVariants as status

-- these are the file's bytes, so far as it is told of, and it isn't too large
pub record ReadsFile (told : Told) (bytes : List ℕ) : Type 0 where
  pub reads : Reads told bytes
  pub few : length bytes ≤ most_file_bytes

-- why bytes are no file of a kind
abbrev pub IsKindEnd : FileKind → List ℕ → Status → Type 0
IsKindEnd kind bytes status.Memory = Unit {0}
IsKindEnd kind bytes s = (s ≡ refusal_of kind) × (is_of_kind kind bytes ≡ false)
