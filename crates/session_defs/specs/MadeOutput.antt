-- What is written where a text is generated: no text file and no script is read, and what is told of the text is written at
-- first and behind each fiftieth of its edits. This is this project's own.
use Rattle.std.specs.Prelude.{ℕ, ◌+◌, ◌*◌, ◌/◌, List, map}
use Rattle.std.specs.List.{concat, range_with_len}
use Rattle.text_defs.specs.Text.{line_count}
use Rattle.document_defs.specs.TextRows.{Settings, rows_of}
use Rattle.generator_defs.specs.declared.TheConstants.{GENERATED_EDITS, EDITS_OF_A_SUMMARY}
use Rattle.generator_defs.specs.declared.Made.{Made}
use Rattle.generator_defs.specs.GeneratedText.{text_after}
use Rattle.generator_defs.specs.Summary.{summary}
use Rattle.script_words.specs.declared.reply.Reply.TheVariants as reply
use Rattle.script_words.specs.ReplyText.{reply_text}

-- what is told of a text
abbrev pub summary_of_text : Settings → List ℕ → Made
summary_of_text settings text = summary (line_count text) (rows_of settings text)

-- the line of it, with its LF
abbrev pub summary_line : Settings → List ℕ → List ℕ
summary_line settings text = reply_text (reply.Made (summary_of_text settings text))

-- the text of n lines at the summary of this number, from 0
abbrev pub text_at_summary : ℕ → ℕ → List ℕ
text_at_summary n k = text_after n (EDITS_OF_A_SUMMARY * k)

-- the summaries from the first on, so many of them
unfoldable pub summaries : Settings → (n count : ℕ) → List ℕ
summaries settings n count = concat (map (λ k. summary_line settings (text_at_summary n k)) (range_with_len 0 count))

-- one at first, and one for each fifty edits
abbrev pub summary_count : ℕ
summary_count = GENERATED_EDITS / EDITS_OF_A_SUMMARY + 1

-- all that is written for a text of n lines
abbrev pub made_output : Settings → ℕ → List ℕ
made_output settings n = summaries settings n summary_count
