-- While a script is answered: what was taken of it, and that each whole line of that has its reply.
use Rattle.std.specs.Prelude.{◌≡◌, ℕ, List, length, map, false}
use Rattle.text_defs.specs.Text.{whole_lines, unfinished}
use Rattle.piece_io.specs.Told.{appended}
use Rattle.piece_io.specs.Cuts.{Cutting, cuts_of}
use Rattle.session_defs.specs.Opening.{Session}
use Rattle.script_words.specs.Script.{reading_of}
use Rattle.session_defs.specs.Session.{text_behind}
use Rattle.session_defs.specs.Output.{written_for}
use Rattle.bracket_program.specs.Ends.{Outside, Takes}

-- the cutter has what follows the last whole line, and the text is what the whole lines left
pub record Serving (before now : Outside) (session : Session) (text : List ℕ) (cutter : Cutting) (taken : ℕ) : Type 0 where
  pub script : List ℕ
  pub count : length script ≡ taken
  pub takes : Takes before.left now.left script
  pub writes : now.held ≡ appended before.held (written_for session (whole_lines script))
  pub answers : text ≡ text_behind session.settings session.text (map reading_of (whole_lines script))
  pub pending : cutter.cuts ≡ cuts_of (unfinished script)
  pub going : cutter.ended ≡ false
  pub reads_stand : now.reads ≡ before.reads
  pub writes_stand : now.writes ≡ before.writes
