-- Further worked examples of command lines, files and whole sessions, each named by what it shows.
use Rattle.std.specs.Prelude.{◌≡◌, ℕ, List, [], ◌∷◌, ◌++◌, map, replicate, true, false, codes, refl, Some, None}
use Rattle.std.specs.Prelude.{option_map}
use Rattle.std.specs.Str.{chars, is_utf8}
use Rattle.std.specs.Fmt.{digits}
use Rattle.std.specs.Str.Lossy.{utf8_valid_len}
use lib.Utf8.{encode}
use Rattle.serde_json.proofs.OnLiterals.{serde_json_on_literals}
use Rattle.pairing_defs.specs.OnLiterals.{words_on_literals}
use Rattle.text_defs.specs.Batch.{range, order, too_many_chars, too_many_lines}
use Rattle.syntax_defs.specs.PatternSyntax.{body_at, steps}
use Rattle.pattern_defs.specs.Attempt.{go_on}
use Rattle.generator_defs.specs.GeneratedText.{piece, generated_line, generated_text, generated_edit, text_after}
use Rattle.generator_defs.specs.Summary.{summary}
use Rattle.script_words.specs.declared.refusal.Refusal.TheVariants as refusal
use Rattle.script_words.specs.Script.{reading_of}
use Rattle.session_defs.specs.declared.file_kind.FileKind.TheVariants as kind
use Rattle.session_defs.specs.Words.{text_file, generated, request_of, limits_with, text_alone}
use Rattle.session_defs.specs.Opening.{is_accepted, files_of, session_of}
use Rattle.session_defs.specs.Session.{refusal_of_batch, text_behind}
use Rattle.session_defs.specs.Output.{output_of, most_script_bytes}
use Rattle.session_defs.specs.MadeOutput.{summaries}
use Rattle.session_defs.specs.OnLiterals.{runs_on_literals}
use Rattle.session_defs.specs.SessionExamples.{line, alone, plain}

-- ---- command lines

pub the_least_tab_has_one_column : map (option_map (λ r. r.limits.tab)) (map request_of
    ((codes "brackets" ∷ codes "t" ∷ codes "--tab" ∷ codes "1" ∷ []) ∷ (codes "brackets" ∷ codes "t" ∷ codes "--tab=01" ∷ []) ∷ []))
    ≡ Some 1 ∷ Some 1 ∷ []
the_least_tab_has_one_column = refl

-- all ten digits, and the characters before `0` and behind `9`
pub all_ten_digits_are_digits : map (option_map (λ r. r.limits.nesting)) (map request_of
    ((codes "brackets" ∷ codes "t" ∷ codes "--nesting" ∷ codes "199" ∷ []) ∷ (codes "brackets" ∷ codes "t" ∷ codes "--nesting" ∷ codes "268" ∷ [])
    ∷ (codes "brackets" ∷ codes "t" ∷ codes "--nesting" ∷ codes "045" ∷ []) ∷ (codes "brackets" ∷ codes "t" ∷ codes "--nesting" ∷ codes "37" ∷ [])
    ∷ (codes "brackets" ∷ codes "t" ∷ codes "--nesting" ∷ codes "1/" ∷ []) ∷ (codes "brackets" ∷ codes "t" ∷ codes "--nesting" ∷ codes "1:" ∷ []) ∷ []))
    ≡ Some 199 ∷ Some 268 ∷ Some 45 ∷ Some 37 ∷ None ∷ None ∷ []
all_ten_digits_are_digits = refl

-- each option twice, with one value and with two
pub no_option_may_come_twice : map (λ w. request_of (codes "brackets" ∷ codes "t" ∷ w))
    ((codes "--grammar" ∷ codes "g" ∷ codes "--grammar" ∷ codes "h" ∷ []) ∷ (codes "--brackets=b" ∷ codes "--brackets=b" ∷ [])
    ∷ (codes "--nesting" ∷ codes "7" ∷ codes "--nesting=8" ∷ []) ∷ (codes "--steps=100" ∷ codes "--steps" ∷ codes "100" ∷ [])
    ∷ (codes "--long=7" ∷ codes "--long=8" ∷ []) ∷ (codes "--tab=7" ∷ codes "--tab=8" ∷ []) ∷ (codes "--make=7" ∷ codes "--make=8" ∷ []) ∷ [])
    ≡ replicate 7 None
no_option_may_come_twice = refl

-- two names, of which one or both stand behind `--`, and an empty one; then an option and `--` as names
pub behind_two_minus_signs_each_word_is_a_name : map request_of
    ((codes "brackets" ∷ codes "--" ∷ codes "t" ∷ codes "u" ∷ []) ∷ (codes "brackets" ∷ codes "t" ∷ codes "--" ∷ codes "u" ∷ [])
    ∷ (codes "brackets" ∷ codes "--" ∷ codes "t" ∷ codes "--nesting=7" ∷ []) ∷ (codes "brackets" ∷ codes "--" ∷ [] ∷ [])
    ∷ (codes "brackets" ∷ codes "--" ∷ codes "--nesting=7" ∷ []) ∷ (codes "brackets" ∷ codes "--" ∷ codes "--" ∷ []) ∷ [])
    ≡ None ∷ None ∷ None ∷ None ∷ Some (text_alone (codes "--nesting=7") 200) ∷ Some (text_alone (codes "--") 200) ∷ []
behind_two_minus_signs_each_word_is_a_name = refl

-- ---- files

-- a text with both other files, and a text that is made
pub files_in_the_order_in_which_they_are_opened :
    (files_of (record { subject = text_file (codes "t"); grammar = Some (codes "g"); brackets = Some (codes "b"); limits = limits_with 200 })
    ≡ record { kind = kind.Text; name = codes "t" } ∷ record { kind = kind.Grammar; name = codes "g" } ∷ record { kind = kind.Brackets; name = codes "b" } ∷ [])
    × (files_of (record { subject = generated 7; grammar = Some (codes "g"); brackets = Some (codes "b"); limits = limits_with 200 })
    ≡ record { kind = kind.Grammar; name = codes "g" } ∷ record { kind = kind.Brackets; name = codes "b" } ∷ [])
files_in_the_order_in_which_they_are_opened = (refl, refl)

-- the words `begin` and `end` as a pair
abbrev words_file : List ℕ
words_file = codes "{\"brackets\":[[\"begin\",\"end\"]]}"

-- each line is a comment; a second rule has a pattern that isn't closed
abbrev comments_file : List ℕ
comments_file = codes "{\"scopeName\":\"s\",\"patterns\":[{\"name\":\"comment\",\"begin\":\"^\",\"end\":\"$\"},{\"match\":\"(\"}]}"

-- A pair of one text, and one with a text of 33 characters, are no bracket file. What has no scope name is no grammar.
pub grammars_and_bracket_files_that_are_accepted :
    (map (is_accepted kind.Brackets)
    (words_file ∷ codes "{\"brackets\":[[\"(\"]]}" ∷ (codes "{\"brackets\":[[\"(\",\"" ++ (replicate 33 41 ++ codes "\"]]}"))
    ∷ (codes "{\"brackets\":[[\"(\",\"" ++ (replicate 32 41 ++ codes "\"]]}")) ∷ codes "[" ∷ [])
    ≡ true ∷ false ∷ false ∷ true ∷ false ∷ [])
    × (map (is_accepted kind.Grammar) (words_file ∷ codes "{\"scopeName\":\"s\",\"patterns\":[]}" ∷ codes "[" ∷ []) ≡ false ∷ true ∷ false ∷ [])
unfolding serde_json_on_literals chars is_utf8 utf8_valid_len encode body_at steps
grammars_and_bracket_files_that_are_accepted = (refl, refl)

-- ---- sessions

-- the parenthesis is no bracket
pub session_with_a_bracket_file :
    output_of (record (text_alone (codes "t") 200) { brackets = Some (codes "b") })
    (record { text = Some (codes "begin ( end"); grammar = None; brackets = Some words_file })
    (line "{\"brackets\":[0,0]}" ++ line "{\"match\":[0,3]}")
    ≡ line "{\"opened\":1,\"unread\":0}" ++ line "{\"brackets\":[[0,0,5,0,0,0],[0,8,11,0,0,0]]}" ++ line "{\"match\":[[0,0,5],[0,8,11]]}"
unfolding serde_json_on_literals chars is_utf8 utf8_valid_len encode digits words_on_literals runs_on_literals
session_with_a_bracket_file = refl

-- one pattern can't be read; the brackets of both lines are in comments
pub session_with_a_grammar :
    output_of (record (text_alone (codes "t") 200) { grammar = Some (codes "g") })
    (record { text = Some (line "(a" ++ codes ")"); grammar = Some comments_file; brackets = None })
    (line "{\"tokens\":0}" ++ line "{\"tokens\":1}" ++ line "{\"brackets\":[0,1]}")
    ≡ line "{\"opened\":2,\"unread\":1}" ++ line "{\"tokens\":[[0,2,[\"s\",\"comment\"],1]]}"
    ++ line "{\"tokens\":[[0,1,[\"s\",\"comment\"],1]]}" ++ line "{\"brackets\":[]}"
unfolding serde_json_on_literals chars is_utf8 utf8_valid_len encode digits words_on_literals runs_on_literals body_at steps go_on
session_with_a_grammar = refl

-- an LF is put in and taken out again; a place that isn't there
pub edits_that_add_and_take_lines :
    output_of (text_alone (codes "t") 200) (alone (codes "ab"))
    (line "{\"edit\":[[0,1,0,1,\"\\n\"]]}" ++ line "{\"edit\":[[0,2,0,2,\"\"]]}" ++ line "{\"line\":1}" ++ line "{\"edit\":[[0,1,1,0,\"\"]]}" ++ line "{\"line\":0}")
    ≡ line "{\"opened\":1,\"unread\":0}" ++ line "{\"edited\":2}" ++ line "{\"refused\":\"range\"}" ++ line "{\"line\":\"b\"}" ++ line "{\"edited\":1}" ++ line "{\"line\":\"ab\"}"
unfolding serde_json_on_literals chars is_utf8 utf8_valid_len encode digits words_on_literals runs_on_literals
edits_that_add_and_take_lines = refl

pub words_for_refused_batches : map refusal_of_batch (range 0 ∷ order 1 ∷ too_many_chars 5 ∷ too_many_lines 5 ∷ [])
    ≡ refusal.Range ∷ refusal.Order ∷ refusal.Chars ∷ refusal.Lines ∷ []
words_for_refused_batches = refl

-- the second edit is made of what the first one left; the third is refused
pub the_text_behind_two_edits : text_behind (plain (limits_with 200)) (codes "ab") (map reading_of
    (codes "{\"edit\":[[0,1,0,1,\"x\"]]}" ∷ codes "{\"edit\":[[0,2,0,2,\"y\"]]}" ∷ codes "{\"edit\":[[0,9,0,9,\"z\"]]}" ∷ []))
    ≡ codes "axyb"
unfolding serde_json_on_literals chars is_utf8 utf8_valid_len encode
the_text_behind_two_edits = refl

-- ---- a text that is made

-- a file that is named beside it isn't read
pub a_made_text_is_open_at_first :
    (session_of (record (text_alone [] 200) { subject = generated 1 }) (record { text = Some (codes "x"); grammar = None; brackets = None })).text
    ≡ codes "[a)(}{ ][a)("
unfolding piece generated_line generated_text
a_made_text_is_open_at_first = refl

-- the summaries are written, and the script isn't answered
pub a_made_text_has_summaries_and_no_replies :
    output_of (record (text_alone [] 200) { subject = generated 1 }) (record { text = None; grammar = None; brackets = None }) (line "{\"line\":0}")
    ≡ line "{\"made\":[1,9,7,3]}" ++ line "{\"made\":[7,21,13,7]}" ++ line "{\"made\":[13,35,15,10]}" ++ line "{\"made\":[19,52,22,14]}" ++ line "{\"made\":[26,61,27,18]}"
unfolding serde_json_on_literals digits words_on_literals runs_on_literals piece generated_line generated_text generated_edit text_after summary summaries
a_made_text_has_summaries_and_no_replies = refl

-- 2^32
pub the_longest_script : most_script_bytes ≡ 4294967296
the_longest_script = refl
