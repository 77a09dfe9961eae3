-- Worked examples of script lines, replies, command lines and whole sessions. Each holds by computing alone,
-- but for the one on lines that are too long, of which no list of that length is written out.
use Rattle.std.specs.Prelude.{◌≡◌, ℕ, List, [], ◌∷◌, ◌++◌, length, map, replicate, nat_lt, true, false}
use Rattle.std.specs.Prelude.{if◌then◌else◌, codes, refl, Some, None, is_some, option_map}
use Prim.Native.String.{String}
use Rattle.std.proofs.Common.{ap}
use Rattle.std.specs.Str.{chars, is_utf8}
use Rattle.std.specs.Fmt.{digits}
use Rattle.std.specs.Str.Lossy.{utf8_valid_len}
use lib.Utf8.{encode}
use Rattle.serde_json.proofs.OnLiterals.{serde_json_on_literals}
use Rattle.pairing_defs.specs.OnLiterals.{words_on_literals}
use Rattle.answer_defs.specs.declared.answer.BracketRow.{BracketRow}
use Rattle.answer_defs.specs.declared.answer.Answer.TheVariants as answer
use Rattle.answer_defs.specs.declared.answer.Question.TheVariants as question
use Rattle.script_words.specs.declared.refusal.Refusal.TheVariants as refusal
use Rattle.script_words.specs.declared.reply.Reply.TheVariants as reply
use Rattle.script_words.specs.declared.command.Command.TheVariants.{Ask, Turn}
use Rattle.script_words.specs.Script.{refused, command, meaning_of, reading_of}
use Rattle.answer_defs.specs.Answers.{is_range}
use Rattle.pairing_defs.specs.Marks.{usual_texts}
use Rattle.document_defs.specs.TextRows.{Settings, rows_of}
use Rattle.answer_defs.specs.TokenAnswers.{tokens_in}
use Rattle.script_words.specs.ReplyText.{reply_text}
use Rattle.text_pos.specs.declared.limits.Limits.{Limits}
use Rattle.session_defs.specs.declared.file_kind.FileKind.TheVariants as kind
use Rattle.session_defs.specs.Words.{text_file, generated, request_of, limits_with, text_alone}
use Rattle.session_defs.specs.Opening.{Inputs, settings_for, is_accepted, session_of}
use Rattle.session_defs.specs.OnLiterals.{runs_on_literals}
use Rattle.session_defs.specs.Output.{output_of, written_so_far}

-- a text and its LF
abbrev pub line : String → List ℕ
line text = codes text ++ 10 ∷ []

abbrev pub row : ℕ → ℕ → ℕ → ℕ → ℕ → ℕ → BracketRow
row l f t level own colour = record { at = record { line = l; from = f; to = t }; level = level; own = own; colour = colour }

-- a text without a grammar and a bracket file
abbrev pub alone : List ℕ → Inputs
alone text = record { text = Some text; grammar = None; brackets = None }

abbrev pub plain : Limits → Settings
plain limits = settings_for limits None usual_texts

-- ---- script lines

-- the commands, at the ends of their ranges
pub commands : map reading_of
    (codes "{\"brackets\":[0,1]}" ∷ codes "{\"line\":4294967295}" ∷ codes "{\"turn\":1}" ∷ codes "{\"turn\":262144}" ∷ [])
    ≡ command (Ask (question.Brackets 0 1)) ∷ command (Ask (question.Line 4294967295)) ∷ command (Turn 1) ∷ command (Turn 262144) ∷ []
unfolding serde_json_on_literals chars is_utf8 utf8_valid_len encode
commands = refl

-- a question for the tokens of a line, at the ends of its range and past them
pub question_for_tokens : map reading_of
    (codes "{\"tokens\":0}" ∷ codes "{\"tokens\":4294967295}" ∷ codes "{\"tokens\":4294967296}" ∷ [])
    ≡ command (Ask (question.Tokens 0)) ∷ command (Ask (question.Tokens 4294967295)) ∷ refused refusal.Command ∷ []
unfolding serde_json_on_literals chars is_utf8 utf8_valid_len encode
question_for_tokens = refl

-- white space counts nothing, a CR at the end too, and a key may be written with escapes
pub white_space_and_escapes : map reading_of
    ((codes " { \"line\" : 3 } " ++ 13 ∷ []) ∷ codes "{\"l\\u0069ne\":3}" ∷ [])
    ≡ command (Ask (question.Line 3)) ∷ command (Ask (question.Line 3)) ∷ []
unfolding serde_json_on_literals chars is_utf8 utf8_valid_len encode
white_space_and_escapes = refl

-- of equal keys the last one counts, so this is one member
pub last_of_equal_keys_counts : reading_of (codes "{\"line\":0,\"line\":1}") ≡ command (Ask (question.Line 1))
unfolding serde_json_on_literals chars is_utf8 utf8_valid_len encode
last_of_equal_keys_counts = refl

-- what is no JSON: a word, an empty line, blanks alone, a value with more behind it, a number with leading
-- zeros, a single surrogate, a U+FEFF before the value, and a byte that is no UTF-8
pub lines_that_are_no_json : map reading_of
    (codes "x" ∷ [] ∷ codes "  " ∷ codes "{\"line\":0}}" ∷ codes "{\"line\":00}" ∷ codes "\"\\ud800\""
    ∷ (0xEF ∷ 0xBB ∷ 0xBF ∷ codes "{\"line\":0}") ∷ (34 ∷ 255 ∷ 34 ∷ []) ∷ [])
    ≡ replicate 8 (refused refusal.Json)
unfolding serde_json_on_literals chars is_utf8 utf8_valid_len encode
lines_that_are_no_json = refl

-- lists may nest 127 deep and no deeper
pub nesting_of_json : map reading_of ((replicate 127 91 ++ replicate 127 93) ∷ (replicate 128 91 ++ replicate 128 93) ∷ [])
    ≡ refused refusal.Command ∷ refused refusal.Json ∷ []
unfolding serde_json_on_literals chars is_utf8 utf8_valid_len encode
nesting_of_json = refl

-- JSON that is no command: no object, no member, two members, an unknown key, a key of another case
pub json_that_is_no_command : map reading_of
    (codes "[]" ∷ codes "7" ∷ codes "{}" ∷ codes "{\"line\":0,\"turn\":1}" ∷ codes "{\"level\":[0,-1]}" ∷ codes "{\"Line\":0}" ∷ [])
    ≡ replicate 6 (refused refusal.Command)
unfolding serde_json_on_literals chars is_utf8 utf8_valid_len encode
json_that_is_no_command = refl

-- numbers that no command has: a turn of none and of too many, below 0, with a sign, a point or an exponent,
-- and above 4,294,967,295
pub numbers_of_no_command : map reading_of
    (codes "{\"turn\":0}" ∷ codes "{\"turn\":262145}" ∷ codes "{\"line\":-1}" ∷ codes "{\"line\":-0}" ∷ codes "{\"line\":1.0}" ∷ codes "{\"line\":1e0}"
    ∷ codes "{\"line\":4294967296}" ∷ codes "{\"line\":18446744073709551616}" ∷ codes "{\"brackets\":[0,4294967296]}" ∷ [])
    ≡ replicate 9 (refused refusal.Command)
unfolding serde_json_on_literals chars is_utf8 utf8_valid_len encode
numbers_of_no_command = refl

-- values of a wrong shape: not two numbers, and not one
pub values_of_no_command : map reading_of
    (codes "{\"brackets\":[0]}" ∷ codes "{\"brackets\":[0,1,2]}" ∷ codes "{\"brackets\":0}" ∷ codes "{\"brackets\":[0,\"1\"]}" ∷ codes "{\"line\":[0]}" ∷ codes "{\"line\":null}" ∷ [])
    ≡ replicate 6 (refused refusal.Command)
unfolding serde_json_on_literals chars is_utf8 utf8_valid_len encode
values_of_no_command = refl

-- a number too large for a float is no JSON
pub number_out_of_range_is_no_json : reading_of (codes "{\"line\":1e999}") ≡ refused refusal.Json
unfolding serde_json_on_literals chars is_utf8 utf8_valid_len encode
number_out_of_range_is_no_json = refl

-- a line of more than 1,048,576 bytes is refused as that, whatever it says, and no other is
pub line_that_is_too_long : (bytes : List ℕ) →
    (nat_lt 1048576 (length bytes) ≡ true → reading_of bytes ≡ refused refusal.Long)
    × (nat_lt 1048576 (length bytes) ≡ false → reading_of bytes ≡ meaning_of bytes)
line_that_is_too_long bytes =
    ((λ h. ap (λ b. if b then refused refusal.Long else meaning_of bytes) h), (λ h. ap (λ b. if b then refused refusal.Long else meaning_of bytes) h))

-- ---- replies

-- rows are lists of line, first column, column behind the last, level, kind level and colour
pub reply_of_brackets :
    reply_text (reply.Answered (answer.Brackets (row 0 0 1 0 0 0 ∷ row 0 1 2 1 0 6 ∷ row 0 2 3 0 0 0 ∷ row 0 3 4 0 0 6 ∷ [])))
    ≡ line "{\"brackets\":[[0,0,1,0,0,0],[0,1,2,1,0,6],[0,2,3,0,0,0],[0,3,4,0,0,6]]}"
unfolding serde_json_on_literals encode digits
reply_of_brackets = refl

-- a token of no scopes, and one of two, where a name is written as a JSON string and the last one sets the type
pub reply_of_tokens :
    reply_text (reply.Answered (answer.Tokens (tokens_in
    (record { from = 0; to = 2; scopes = [] } ∷ record { from = 2; to = 7; scopes = codes "s" ∷ codes "string.\"" ∷ [] } ∷ []))))
    ≡ line "{\"tokens\":[[0,2,[],0],[2,7,[\"s\",\"string.\\\"\"],2]]}"
unfolding serde_json_on_literals digits
reply_of_tokens = refl

-- the other replies
pub other_replies :
    map reply_text (reply.Opened 262144 0 ∷ reply.Edited 2 ∷ reply.Turned ∷ reply.Refused refusal.Command ∷ reply.Answered (answer.Brackets []) ∷ [])
    ≡ line "{\"opened\":262144,\"unread\":0}" ∷ line "{\"edited\":2}" ∷ line "{\"turned\":true}" ∷ line "{\"refused\":\"command\"}" ∷ line "{\"brackets\":[]}" ∷ []
unfolding serde_json_on_literals encode digits
other_replies = refl

-- a line's characters are escaped as serde_json does: a quote, a backslash, a tab, U+0001 and e acute
pub reply_of_a_line :
    reply_text (reply.Answered (answer.Line (34 ∷ 92 ∷ 9 ∷ 1 ∷ 0xE9 ∷ [])))
    ≡ codes "{\"line\":\"\\\"\\\\\\t\\u0001" ++ 0xC3 ∷ 0xA9 ∷ line "\"}"
unfolding serde_json_on_literals encode digits
reply_of_a_line = refl

-- ---- command lines

-- a file's name, which may be `-`, alone or with a nesting limit, which may have leading zeros
pub command_lines : map request_of
    ((codes "brackets" ∷ codes "t" ∷ []) ∷ (codes "brackets" ∷ codes "-" ∷ []) ∷ (codes "brackets" ∷ codes "t" ∷ codes "--nesting" ∷ codes "0200" ∷ [])
    ∷ (codes "brackets" ∷ codes "t" ∷ codes "--nesting" ∷ codes "1" ∷ []) ∷ (codes "brackets" ∷ codes "t" ∷ codes "--nesting" ∷ codes "0000000300" ∷ []) ∷ [])
    ≡ Some (text_alone (codes "t") 200) ∷ Some (text_alone (codes "-") 200) ∷ Some (text_alone (codes "t") 200)
    ∷ Some (text_alone (codes "t") 1) ∷ Some (text_alone (codes "t") 300) ∷ []
command_lines = refl

-- all options, in another order than they are listed in; a file may be `-` here too
pub all_options : request_of
    (codes "brackets" ∷ codes "t" ∷ codes "--tab" ∷ codes "8" ∷ codes "--grammar" ∷ codes "g" ∷ codes "--steps" ∷ codes "100" ∷ codes "--brackets" ∷ codes "-"
    ∷ codes "--nesting" ∷ codes "7" ∷ codes "--long" ∷ codes "1000000" ∷ [])
    ≡ Some (record {
      subject = text_file (codes "t");
      grammar = Some (codes "g");
      brackets = Some (codes "-");
      limits = record { nesting = 7; budget = 100; long = 1000000; tab = 8 };
    })
all_options = refl

-- options before the name, values behind `=`, and a name behind `--`, which may begin with `-`
pub other_forms : map request_of
    ((codes "brackets" ∷ codes "--nesting" ∷ codes "0200" ∷ codes "--" ∷ codes "-t" ∷ []) ∷ (codes "brackets" ∷ codes "--nesting=7" ∷ codes "t" ∷ [])
    ∷ (codes "brackets" ∷ codes "t" ∷ codes "--nesting=7" ∷ codes "--" ∷ []) ∷ [])
    ≡ Some (text_alone (codes "-t") 200) ∷ Some (text_alone (codes "t") 7) ∷ Some (text_alone (codes "t") 7) ∷ []
other_forms = refl

-- behind `=` a name may begin with `-`, and a second `=` is part of it
pub names_behind_an_equals_sign : map (option_map (λ r. r.grammar))
    (map request_of ((codes "brackets" ∷ codes "t" ∷ codes "--grammar=-g" ∷ []) ∷ (codes "brackets" ∷ codes "--grammar=a=b" ∷ codes "t" ∷ []) ∷ []))
    ≡ Some (Some (codes "-g")) ∷ Some (Some (codes "a=b")) ∷ []
names_behind_an_equals_sign = refl

-- an option twice, even with one value; an unknown one; one without a value; a file that begins with `-`, and an empty one
pub options_that_are_refused : map request_of
    ((codes "brackets" ∷ codes "t" ∷ codes "--tab" ∷ codes "4" ∷ codes "--tab" ∷ codes "4" ∷ [])
    ∷ (codes "brackets" ∷ codes "t" ∷ codes "--colour" ∷ codes "4" ∷ []) ∷ (codes "brackets" ∷ codes "t" ∷ codes "--grammar" ∷ [])
    ∷ (codes "brackets" ∷ codes "t" ∷ codes "--grammar" ∷ codes "-g" ∷ []) ∷ (codes "brackets" ∷ codes "t" ∷ codes "--brackets" ∷ [] ∷ [])
    ∷ (codes "brackets" ∷ codes "t" ∷ codes "--grammar" ∷ codes "g" ∷ codes "u" ∷ []) ∷ [])
    ≡ replicate 6 None
options_that_are_refused = refl

-- the ends of the ranges, and what lies behind them
pub ranges_of_options : map (λ w. is_some (request_of (codes "brackets" ∷ codes "t" ∷ w)))
    ((codes "--steps" ∷ codes "99" ∷ []) ∷ (codes "--steps" ∷ codes "1000001" ∷ []) ∷ (codes "--long" ∷ codes "0" ∷ [])
    ∷ (codes "--long" ∷ codes "1000001" ∷ []) ∷ (codes "--tab" ∷ codes "0" ∷ []) ∷ (codes "--tab" ∷ codes "33" ∷ [])
    ∷ (codes "--steps" ∷ codes "1000000" ∷ []) ∷ (codes "--long" ∷ codes "1" ∷ []) ∷ (codes "--tab" ∷ codes "32" ∷ []) ∷ [])
    ≡ replicate 6 false ++ replicate 3 true
ranges_of_options = refl

-- the other limits: 100,000 visits, 20,000 characters of a line and 4 columns of a tab
pub limits_that_no_word_names : limits_with 200 ≡ record { nesting = 200; budget = 100000; long = 20000; tab = 4 }
limits_that_no_word_names = refl

-- no words, no file, an empty name, an option or `--` for a name, and two names
pub words_without_a_name : map request_of
    ([] ∷ (codes "brackets" ∷ []) ∷ (codes "brackets" ∷ [] ∷ []) ∷ (codes "brackets" ∷ codes "--nesting" ∷ []) ∷ (codes "brackets" ∷ codes "--" ∷ [])
    ∷ (codes "brackets" ∷ codes "t" ∷ codes "u" ∷ []) ∷ [])
    ≡ replicate 6 None
words_without_a_name = refl

-- limits of 0, 301, of no digits, of other characters and of eleven digits, no limit, and options with nothing behind `=`
pub words_without_a_limit : map request_of
    ((codes "brackets" ∷ codes "t" ∷ codes "--nesting" ∷ codes "0" ∷ []) ∷ (codes "brackets" ∷ codes "t" ∷ codes "--nesting" ∷ codes "301" ∷ [])
    ∷ (codes "brackets" ∷ codes "t" ∷ codes "--nesting" ∷ [] ∷ []) ∷ (codes "brackets" ∷ codes "t" ∷ codes "--nesting" ∷ codes "+5" ∷ [])
    ∷ (codes "brackets" ∷ codes "t" ∷ codes "--nesting" ∷ codes "00000000200" ∷ []) ∷ (codes "brackets" ∷ codes "t" ∷ codes "--nesting" ∷ [])
    ∷ (codes "brackets" ∷ codes "t" ∷ codes "--nesting=" ∷ []) ∷ (codes "brackets" ∷ codes "t" ∷ codes "--grammar=" ∷ []) ∷ [])
    ≡ replicate 8 None
words_without_a_limit = refl

-- a text that is made, of up to 100,000 lines, with the options of any other text; a file that is named before or behind
-- that is named in vain
pub texts_that_are_made : map (option_map (λ r. r.subject)) (map request_of
    ((codes "brackets" ∷ codes "--make" ∷ codes "1" ∷ []) ∷ (codes "brackets" ∷ codes "--make=0100000" ∷ codes "--tab" ∷ codes "2" ∷ [])
    ∷ (codes "brackets" ∷ codes "--grammar" ∷ codes "g" ∷ codes "--make" ∷ codes "7" ∷ codes "--" ∷ [])
    ∷ (codes "brackets" ∷ codes "t" ∷ codes "--make" ∷ codes "1" ∷ []) ∷ (codes "brackets" ∷ codes "--make=1" ∷ codes "--" ∷ codes "t" ∷ []) ∷ []))
    ≡ Some (generated 1) ∷ Some (generated 100000) ∷ Some (generated 7) ∷ Some (generated 1) ∷ Some (generated 1) ∷ []
texts_that_are_made = refl

-- a text of no lines, of too many, of a number that is none; a made text twice; and a made text beside an empty name or
-- two names
pub texts_that_are_not_made : map request_of
    ((codes "brackets" ∷ codes "--make" ∷ codes "0" ∷ []) ∷ (codes "brackets" ∷ codes "--make" ∷ codes "100001" ∷ [])
    ∷ (codes "brackets" ∷ codes "--make" ∷ codes "x" ∷ []) ∷ (codes "brackets" ∷ codes "--make=" ∷ [])
    ∷ (codes "brackets" ∷ codes "--make" ∷ []) ∷ (codes "brackets" ∷ codes "--make=1" ∷ codes "--make=1" ∷ [])
    ∷ (codes "brackets" ∷ [] ∷ codes "--make" ∷ codes "1" ∷ []) ∷ (codes "brackets" ∷ codes "t" ∷ codes "--make=1" ∷ codes "u" ∷ []) ∷ [])
    ≡ replicate 8 None
texts_that_are_not_made = refl

-- ---- sessions

-- a closer takes the last opener of its kind, and the opener between has no partner
pub session_of_crossing_brackets :
    output_of (text_alone (codes "t") 200) (alone (codes "([)]")) (line "{\"brackets\":[0,0]}")
    ≡ line "{\"opened\":1,\"unread\":0}" ++ line "{\"brackets\":[[0,0,1,0,0,0],[0,1,2,1,0,6],[0,2,3,0,0,0],[0,3,4,0,0,6]]}"
unfolding serde_json_on_literals chars is_utf8 utf8_valid_len encode digits words_on_literals runs_on_literals
session_of_crossing_brackets = refl

-- an empty file has one line and no brackets; without a script there is the open reply alone
pub session_of_an_empty_file :
    (output_of (text_alone (codes "t") 200) (alone []) (line "{\"brackets\":[0,0]}") ≡ line "{\"opened\":1,\"unread\":0}" ++ line "{\"brackets\":[]}")
    × (output_of (text_alone (codes "t") 200) (alone []) [] ≡ line "{\"opened\":1,\"unread\":0}")
unfolding serde_json_on_literals chars is_utf8 utf8_valid_len encode digits words_on_literals runs_on_literals
session_of_an_empty_file = (refl, refl)

-- an unexpected closer has colour 6; a range may hold a part of the lines; a turn changes nothing
pub session_of_an_unexpected_closer :
    output_of (text_alone (codes "t") 200) (alone (10 ∷ codes "a ) b")) (line "{\"brackets\":[0,1]}" ++ line "{\"turn\":5}" ++ line "{\"brackets\":[0,0]}")
    ≡ line "{\"opened\":2,\"unread\":0}" ++ line "{\"brackets\":[[1,2,3,0,0,6]]}" ++ line "{\"turned\":true}" ++ line "{\"brackets\":[]}"
unfolding serde_json_on_literals chars is_utf8 utf8_valid_len encode digits words_on_literals runs_on_literals
session_of_an_unexpected_closer = refl

-- an opener at the nesting limit has no row, and the closer that it would have had closes another
pub session_at_the_nesting_limit :
    output_of (text_alone (codes "t") 2) (alone (codes "((()))")) (line "{\"brackets\":[0,0]}")
    ≡ line "{\"opened\":1,\"unread\":0}" ++ line "{\"brackets\":[[0,0,1,0,0,0],[0,1,2,1,1,1],[0,3,4,1,1,1],[0,4,5,0,0,0],[0,5,6,0,0,6]]}"
unfolding serde_json_on_literals chars is_utf8 utf8_valid_len encode digits words_on_literals runs_on_literals
session_at_the_nesting_limit = refl

-- each line end ends a line; a refusal changes nothing; an empty line of the script has a reply, and so have
-- bytes behind the last LF
pub session_of_four_lines :
    output_of (text_alone (codes "t") 200) (alone (97 ∷ 13 ∷ 10 ∷ 98 ∷ 13 ∷ 99 ∷ 10 ∷ 100 ∷ [])) (line "{\"line\":4}" ++ line "" ++ line "[]" ++ codes "{\"line\":1}")
    ≡ line "{\"opened\":4,\"unread\":0}" ++ line "{\"refused\":\"line\"}" ++ line "{\"refused\":\"json\"}" ++ line "{\"refused\":\"command\"}" ++ line "{\"line\":\"b\"}"
unfolding serde_json_on_literals chars is_utf8 utf8_valid_len encode digits words_on_literals runs_on_literals
session_of_four_lines = refl

-- while more may come, bytes behind the last LF have no reply; of blanks without an LF there is the open reply alone
pub unfinished_line_has_no_reply :
    (written_so_far (text_alone (codes "t") 200) (alone (codes "a")) (line "{\"line\":0}" ++ codes "{\"line\":0}") ≡ line "{\"opened\":1,\"unread\":0}" ++ line "{\"line\":\"a\"}")
    × (written_so_far (text_alone (codes "t") 200) (alone (codes "a")) (replicate 100 32) ≡ line "{\"opened\":1,\"unread\":0}")
unfolding serde_json_on_literals chars is_utf8 utf8_valid_len encode digits words_on_literals runs_on_literals
unfinished_line_has_no_reply = (refl, refl)

-- a range is refused where it ends before it begins or past the last line
pub ranges_that_are_refused :
    output_of (text_alone (codes "t") 200) (alone (line "(")) (line "{\"brackets\":[1,0]}" ++ line "{\"brackets\":[0,2]}" ++ line "{\"brackets\":[0,1]}")
    ≡ line "{\"opened\":2,\"unread\":0}" ++ line "{\"refused\":\"line\"}" ++ line "{\"refused\":\"line\"}" ++ line "{\"brackets\":[[0,0,1,0,0,6]]}"
unfolding serde_json_on_literals chars is_utf8 utf8_valid_len encode digits words_on_literals runs_on_literals
ranges_that_are_refused = refl

-- a range has at most 4,096 lines, ends at its start or later, and within the text
pub ranges : (is_range 5000 0 4095 ∷ is_range 5000 0 4096 ∷ is_range 5000 904 4999 ∷ is_range 5000 4999 5000 ∷ is_range 5000 7 7 ∷ is_range 5000 7 6 ∷ [])
    ≡ true ∷ false ∷ true ∷ false ∷ true ∷ false ∷ []
ranges = refl

-- partners, and where insides end: at the closer that removed the opener, or at the text's end
pub partners_and_inner_ends :
    (map (λ r. r.partner) (rows_of (plain (limits_with 200)) (codes "([)]{")) ≡ Some 2 ∷ None ∷ Some 0 ∷ None ∷ None ∷ [])
    × (map (λ r. r.inner.col) (rows_of (plain (limits_with 200)) (codes "([)]{")) ≡ 2 ∷ 2 ∷ 2 ∷ 3 ∷ 5 ∷ [])
unfolding words_on_literals runs_on_literals
partners_and_inner_ends = (refl, refl)

-- an opener at the limit has no row's number, so the closer behind it is row 1
pub partners_at_the_nesting_limit : map (λ r. r.partner) (rows_of (plain (limits_with 1)) (codes "([)]")) ≡ Some 1 ∷ Some 0 ∷ None ∷ []
unfolding words_on_literals runs_on_literals
partners_at_the_nesting_limit = refl

-- a line of as many characters as the limit has no brackets; one with a character less has
pub session_of_a_long_line :
    output_of (record (text_alone (codes "t") 200) { limits = record { nesting = 200; budget = 100000; long = 4; tab = 4 } }) (alone (line "(aa" ++ codes ")aaa")) (line "{\"brackets\":[0,1]}")
    ≡ line "{\"opened\":2,\"unread\":0}" ++ line "{\"brackets\":[[0,0,1,0,0,6]]}"
unfolding serde_json_on_literals chars is_utf8 utf8_valid_len encode digits words_on_literals runs_on_literals
session_of_a_long_line = refl

-- the byte 255 is no text, an empty file is one
pub files_that_are_accepted : map (is_accepted kind.Text) ((255 ∷ []) ∷ [] ∷ codes "a" ∷ []) ≡ false ∷ true ∷ true ∷ []
unfolding chars is_utf8 utf8_valid_len encode
files_that_are_accepted = refl

-- an edit in a session: both spans of a batch are places of the text before it, and a refused batch changes nothing
pub edits_of_a_session :
    output_of (text_alone (codes "t") 200) (alone (codes "abc")) (line "{\"edit\":[[0,0,0,1,\"x\"],[0,2,0,3,\"yy\"]]}" ++ line "{\"edit\":[[0,2,0,3,\"q\"],[0,0,0,1,\"q\"]]}" ++ line "{\"edit\":[]}" ++ line "{\"line\":0}")
    ≡ line "{\"opened\":1,\"unread\":0}" ++ line "{\"edited\":1}" ++ line "{\"refused\":\"order\"}" ++ line "{\"edited\":1}" ++ line "{\"line\":\"xbyy\"}"
unfolding serde_json_on_literals chars is_utf8 utf8_valid_len encode digits words_on_literals runs_on_literals
edits_of_a_session = refl

-- the bracket at a place, the pair around it and where to jump; a place behind its line and a line that isn't there
pub session_of_places :
    output_of (text_alone (codes "t") 200) (alone (codes "()"))
    (line "{\"match\":[0,1]}" ++ line "{\"around\":[0,1]}" ++ line "{\"jump\":[0,2]}" ++ line "{\"around\":[0,0]}" ++ line "{\"level\":[0,1]}"
    ++ line "{\"level\":[0,3]}" ++ line "{\"match\":[1,9]}")
    ≡ line "{\"opened\":1,\"unread\":0}" ++ line "{\"match\":[[0,1,2],[0,0,1]]}" ++ line "{\"around\":[[0,0,1],[0,1,2]]}" ++ line "{\"jump\":[0,0]}"
    ++ line "{\"around\":null}" ++ line "{\"level\":1}" ++ line "{\"refused\":\"place\"}" ++ line "{\"refused\":\"line\"}"
unfolding serde_json_on_literals chars is_utf8 utf8_valid_len encode digits words_on_literals runs_on_literals
session_of_places = refl

-- pairs that reach into a line, the last without closer, and guides
pub session_of_pairs_and_guides :
    output_of (text_alone (codes "t") 200) (alone (line "{" ++ line "  (a" ++ line "  )[" ++ codes "}"))
    (line "{\"pairs\":[2,2]}" ++ line "{\"guides\":[0,3]}" ++ line "{\"pairs\":[2,1]}" ++ line "{\"jump\":[3,1]}")
    ≡ line "{\"opened\":4,\"unread\":0}"
    ++ line "{\"pairs\":[[[0,0,1],[3,0,1],0,0],[[1,2,3],[2,2,3],1,0],[[2,3,4],null,1,0]]}"
    ++ line "{\"guides\":[[1,0,0],[2,0,0],[2,2,1],[3,0,0]]}" ++ line "{\"refused\":\"line\"}" ++ line "{\"jump\":[0,0]}"
unfolding serde_json_on_literals chars is_utf8 utf8_valid_len encode digits words_on_literals runs_on_literals
session_of_pairs_and_guides = refl
