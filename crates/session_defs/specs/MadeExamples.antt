-- Worked examples of what is written of a generated text. Each holds by computing alone.
use Rattle.std.specs.Prelude.{◌≡◌, [], ◌∷◌, ◌++◌, map, refl}
use Rattle.std.specs.Fmt.{digits}
use Rattle.serde_json.proofs.OnLiterals.{serde_json_on_literals}
use Rattle.pairing_defs.specs.OnLiterals.{words_on_literals}
use Rattle.generator_defs.specs.GeneratedText.{piece, generated_line, generated_text, generated_edit, text_after}
use Rattle.generator_defs.specs.Summary.{summary}
use Rattle.script_words.specs.declared.reply.Reply.TheVariants as reply
use Rattle.script_words.specs.ReplyText.{reply_text}
use Rattle.session_defs.specs.Words.{limits_with}
use Rattle.session_defs.specs.OnLiterals.{runs_on_literals}
use Rattle.session_defs.specs.SessionExamples.{line, plain}
use Rattle.session_defs.specs.MadeOutput.{made_output, summaries, summary_count}

pub line_of_a_summary : reply_text (reply.Made (record { lines = 7; rows = 21; bad = 13; deepest = 0 })) ≡ line "{\"made\":[7,21,13,0]}"
unfolding serde_json_on_literals digits
line_of_a_summary = refl

pub five_summaries : summary_count ≡ 5
five_summaries = refl

-- the texts of one, two and three lines at first
pub first_summaries : map (λ n. summaries (plain (limits_with 200)) n 1) (1 ∷ 2 ∷ 3 ∷ [])
    ≡ line "{\"made\":[1,9,7,3]}" ∷ line "{\"made\":[2,18,14,3]}" ∷ line "{\"made\":[3,27,21,10]}" ∷ []
unfolding serde_json_on_literals digits words_on_literals runs_on_literals piece generated_line generated_text text_after summary summaries
first_summaries = refl

-- a summary after edits
pub summaries_of_one_line : summaries (plain (limits_with 200)) 1 2 ≡ line "{\"made\":[1,9,7,3]}" ++ line "{\"made\":[7,21,13,7]}"
unfolding serde_json_on_literals digits words_on_literals runs_on_literals piece generated_line generated_text generated_edit text_after summary summaries
summaries_of_one_line = refl

-- all that is written for one line, and for two
pub output_of_one_line : made_output (plain (limits_with 200)) 1
    ≡ line "{\"made\":[1,9,7,3]}" ++ line "{\"made\":[7,21,13,7]}" ++ line "{\"made\":[13,35,15,10]}" ++ line "{\"made\":[19,52,22,14]}" ++ line "{\"made\":[26,61,27,18]}"
unfolding serde_json_on_literals digits words_on_literals runs_on_literals piece generated_line generated_text generated_edit text_after summary summaries
output_of_one_line = refl

-- at a nesting limit of 2 a text has fewer rows
pub output_at_a_nesting_limit : summaries (plain (limits_with 2)) 1 2 ≡ line "{\"made\":[1,8,6,3]}" ++ line "{\"made\":[7,13,7,3]}"
unfolding serde_json_on_literals digits words_on_literals runs_on_literals piece generated_line generated_text generated_edit text_after summary summaries
output_at_a_nesting_limit = refl
