-- All that the program writes for the words, the files that they name and a script.
use Rattle.std.specs.Prelude.{ℕ, List, [], ◌∷◌, ◌++◌, map}
use Rattle.text_defs.specs.Text.{whole_lines, unfinished}
use Rattle.script_words.specs.ReplyText.{reply_text}
use Rattle.script_words.specs.Script.{reading_of}
use Rattle.session_defs.specs.declared.limits.TheConstants.{MOST_SCRIPT_BYTES}
use Rattle.session_defs.specs.Words.{Subject, text_file, generated, Request}
use Rattle.session_defs.specs.Opening.{Inputs, Session, session_of}
use Rattle.session_defs.specs.Session.{replies_to, opened}
use Rattle.session_defs.specs.MadeOutput.{made_output}

-- as many bytes of script as are taken at most
abbrev pub most_script_bytes : ℕ
most_script_bytes = MOST_SCRIPT_BYTES

-- bytes that end with no LF are a line where there are any
abbrev pub line_if_any : List ℕ → List (List ℕ)
line_if_any [] = []
line_if_any (b ∷ bs) = (b ∷ bs) ∷ []

-- the lines of a whole script
abbrev pub script_lines : List ℕ → List (List ℕ)
script_lines script = whole_lines script ++ line_if_any (unfinished script)

-- the open reply, and the replies to these lines
abbrev pub written_for : Session → List (List ℕ) → List ℕ
written_for session lines =
    reply_text (opened session) ++ replies_to session.settings session.text (map reading_of lines)

-- what is written where a script is read to its end; of a text that is made, the summaries, for which none is read
abbrev pub output_for : Subject → Session → (script : List ℕ) → List ℕ
output_for (text_file name) session script = written_for session (script_lines script)
output_for (generated lines) session script = made_output session.settings lines

abbrev pub output_of : Request → Inputs → (script : List ℕ) → List ℕ
output_of r inputs script = output_for r.subject (session_of r inputs) script

-- what is written for these bytes of a script, of which more may come: each whole line has its reply
abbrev pub written_so_far : Request → Inputs → List ℕ → List ℕ
written_so_far r inputs taken = written_for (session_of r inputs) (whole_lines taken)
