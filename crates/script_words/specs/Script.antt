-- What a script line means. The commands are this project's own; JSON is read as serde_json reads it.
use Rattle.std.specs.Prelude.{ℕ, ◌&&◌, List, [], ◌∷◌, length, codes, Bool, nat_lt, nat_le, if◌then◌else◌, Option, Some, None, option_and_then, option_map}
use Rattle.std.specs.Str.{bytes_eq, chars}
use Rattle.serde_json.specs.Data.{Data, null, boolean, number, string, array, object, Items, no_items, item, Members, no_members, member}
use Rattle.serde_json.specs.Read.{read}
use Rattle.serde_json.specs.Find.{as_array, as_number, as_str, as_u64}
use Rattle.script_words.specs.declared.command.Command.{Command}
use Rattle.script_words.specs.declared.command.Command.TheVariants.{Edit, Turn, Ask}
use Rattle.text_defs.specs.Text.{is_utf8, most_line_bytes, most_lines}
use Rattle.text_defs.specs.Batch.{TextEdit}
use Rattle.text_pos.specs.declared.length.Pos.{Pos}
use Rattle.answer_defs.specs.declared.answer.Question.{Question}
use Rattle.answer_defs.specs.declared.answer.Question.TheVariants as question
use Rattle.script_words.specs.declared.refusal.Refusal.{Refusal}
use Rattle.script_words.specs.declared.refusal.Refusal.TheVariants as refusal

-- what a line means: a command, or the first refusal that fits
pub data Reading : Type 0 where
  refused : Refusal → Reading
  command : Command → Reading

abbrev pub up_to : ℕ → ℕ → Option ℕ
up_to most n = if nat_le n most then Some n else None

-- a whole number from 0 to 4,294,967,295
abbrev pub number_in : Data → Option ℕ
number_in d = option_and_then (up_to 4294967295) (option_and_then as_u64 (as_number d))

abbrev pub both : {A B : Type 0} → Option A → Option B → Option (A × B)
both a b = option_and_then (λ x. option_map (λ y. (x, y)) b) a

-- a list of two numbers
abbrev pub pair_of_items : Items → Option (ℕ × ℕ)
pair_of_items no_items = None
pair_of_items (item a no_items) = None
pair_of_items (item a (item b no_items)) = both (number_in a) (number_in b)
pair_of_items (item a (item b (item c more))) = None

abbrev pub pair_in : Data → Option (ℕ × ℕ)
pair_in null = None
pair_in (boolean b) = None
pair_in (number n) = None
pair_in (string s) = None
pair_in (array ds) = pair_of_items ds
pair_in (object ms) = None

-- a string's characters
abbrev pub text_in : Data → Option (List ℕ)
text_in d = option_map chars (as_str d)

-- the edit from one line and column to another
abbrev pub edit_of : ℕ × ℕ → ℕ × ℕ → List ℕ → TextEdit
edit_of from to text = record { span = record { from = record { line = from.0; col = from.1 }; to = record { line = to.0; col = to.1 } }; text = text }

-- a list of four numbers and a string: the lines and columns of the span, and the text that takes its place
abbrev pub edit_of_items : Items → Option TextEdit
edit_of_items no_items = None
edit_of_items (item a no_items) = None
edit_of_items (item a (item b no_items)) = None
edit_of_items (item a (item b (item c no_items))) = None
edit_of_items (item a (item b (item c (item d no_items)))) = None
edit_of_items (item a (item b (item c (item d (item t no_items))))) =
    option_map (λ e. edit_of e.0.0 e.0.1 e.1) (both (both (both (number_in a) (number_in b)) (both (number_in c) (number_in d))) (text_in t))
edit_of_items (item a (item b (item c (item d (item t (item u more)))))) = None

abbrev pub edit_in : Data → Option TextEdit
edit_in d = option_and_then edit_of_items (as_array d)

-- an edit in front of a batch, where both are there
abbrev pub first_edit : Option TextEdit → Option (List TextEdit) → Option (List TextEdit)
first_edit e es = option_map (λ b. b.0 ∷ b.1) (both e es)

-- a batch, where each item is an edit
abbrev pub edits_of_items : Items → Option (List TextEdit)
edits_of_items no_items = Some []
edits_of_items (item d ds) = first_edit (edit_in d) (edits_of_items ds)

abbrev pub edits_in : Data → Option (List TextEdit)
edits_in d = option_and_then edits_of_items (as_array d)

-- an object's one member
abbrev pub only_of_members : Members → Option (List ℕ × Data)
only_of_members no_members = None
only_of_members (member k d no_members) = Some (k, d)
only_of_members (member k d (member l e more)) = None

abbrev pub only_member : Data → Option (List ℕ × Data)
only_member null = None
only_member (boolean b) = None
only_member (number n) = None
only_member (string s) = None
only_member (array ds) = None
only_member (object ms) = only_of_members ms

-- a turn does at most as many lines as a text may have
abbrev pub is_turn : ℕ → Bool
is_turn k = nat_lt 0 k && nat_le k most_lines

abbrev pub turn_of : ℕ → Option Command
turn_of k = if is_turn k then Some (Turn k) else None

-- a question about a place
abbrev pub place_question : List ℕ → Pos → Option Question
place_question key at =
    if bytes_eq key (codes "match") then Some (question.Match at)
    else (if bytes_eq key (codes "around") then Some (question.Around at)
    else (if bytes_eq key (codes "jump") then Some (question.Jump at)
    else (if bytes_eq key (codes "level") then Some (question.Level at) else None)))

-- a question with two numbers: the first and the last line of a range, or the line and the column of a place
abbrev pub pair_question : List ℕ → ℕ × ℕ → Option Question
pair_question key p =
    if bytes_eq key (codes "brackets") then Some (question.Brackets p.0 p.1)
    else (if bytes_eq key (codes "pairs") then Some (question.Pairs p.0 p.1)
    else (if bytes_eq key (codes "guides") then Some (question.Guides p.0 p.1)
    else place_question key (record { line = p.0; col = p.1 })))

-- a question, or a turn
abbrev pub numbers_command : List ℕ → Data → Option Command
numbers_command key d =
    if bytes_eq key (codes "line") then option_map (λ n. Ask (question.Line n)) (number_in d)
    else (if bytes_eq key (codes "tokens") then option_map (λ n. Ask (question.Tokens n)) (number_in d)
    else (if bytes_eq key (codes "turn") then option_and_then turn_of (number_in d)
    else option_map Ask (option_and_then (pair_question key) (pair_in d))))

-- the command of an object with this one member
abbrev pub member_command : List ℕ → Data → Option Command
member_command key d = if bytes_eq key (codes "edit") then option_map Edit (edits_in d) else numbers_command key d

abbrev pub command_in : Data → Option Command
command_in d = option_and_then (λ m. member_command m.0 m.1) (only_member d)

-- the JSON value of a line
abbrev pub json_of : List ℕ → Option Data
json_of line = if is_utf8 line then read line else None

abbrev pub reading_of_command : Option Command → Reading
reading_of_command None = refused refusal.Command
reading_of_command (Some c) = command c

abbrev pub reading_of_json : Option Data → Reading
reading_of_json None = refused refusal.Json
reading_of_json (Some d) = reading_of_command (command_in d)

-- what a line means that isn't too long
abbrev pub meaning_of : List ℕ → Reading
meaning_of line = reading_of_json (json_of line)

-- what a line means: its length is the first test
abbrev pub reading_of : List ℕ → Reading
reading_of line = if nat_lt most_line_bytes (length line) then refused refusal.Long else meaning_of line
