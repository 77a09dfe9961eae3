-- A session: each line of the script has one reply, and what it leaves is a text. This is this project's own.
use Rattle.std.specs.Prelude.{ℕ, List, [], ◌∷◌, ◌++◌, Option, Some, None}
use Rattle.text_defs.specs.Text.{line_count}
use Rattle.text_defs.specs.Batch.{BatchRefusal, range, order, too_many_chars, too_many_lines, batch_refusal, edited}
use Rattle.answer_defs.specs.declared.answer.Question.{Question}
use Rattle.answer_defs.specs.declared.refusal.QuestionRefusal.{QuestionRefusal}
use Rattle.answer_defs.specs.declared.refusal.QuestionRefusal.TheVariants as cause
use Rattle.script_words.specs.declared.refusal.Refusal.{Refusal}
use Rattle.script_words.specs.declared.refusal.Refusal.TheVariants as refusal
use Rattle.script_words.specs.declared.reply.Reply.{Reply}
use Rattle.script_words.specs.declared.reply.Reply.TheVariants as reply
use Rattle.answer_defs.specs.Answers.{question_refusal}
use Rattle.document_defs.specs.TextRows.{Settings}
use Rattle.document_defs.specs.DocumentAnswers.{answer_of}
use Rattle.session_defs.specs.Opening.{Session}
use Rattle.script_words.specs.ReplyText.{reply_text}
use Rattle.script_words.specs.Script.{Reading, refused, command, reading_of}
use Rattle.script_words.specs.declared.command.Command.{Command}
use Rattle.script_words.specs.declared.command.Command.TheVariants.{Edit, Turn, Ask}

-- a reply, and the text that there is after it
pub record Step : Type 0 where
  pub reply : Reply
  pub text : List ℕ

-- the word for why a question is refused
abbrev pub refusal_of_question : QuestionRefusal → Refusal
refusal_of_question (cause.Line lines) = refusal.Line
refusal_of_question (cause.Place length) = refusal.Place

abbrev pub answered : Settings → List ℕ → Question → Option QuestionRefusal → Reply
answered settings text q None = reply.Answered (answer_of settings text q)
answered settings text q (Some why) = reply.Refused (refusal_of_question why)

-- the word for why a batch is refused
abbrev pub refusal_of_batch : BatchRefusal → Refusal
refusal_of_batch (range index) = refusal.Range
refusal_of_batch (order index) = refusal.Order
refusal_of_batch (too_many_chars count) = refusal.Chars
refusal_of_batch (too_many_lines count) = refusal.Lines

-- a refused batch changes nothing
abbrev pub edit_step : List ℕ → List ℕ → Option BatchRefusal → Step
edit_step text changed None = record { reply = reply.Edited (line_count changed); text = changed }
edit_step text changed (Some why) = record { reply = reply.Refused (refusal_of_batch why); text = text }

-- a turn changes no answer
abbrev pub command_step : Settings → List ℕ → Command → Step
command_step settings text (Edit es) = edit_step text (edited text es) (batch_refusal text es)
command_step settings text (Turn k) = record { reply = reply.Turned; text = text }
command_step settings text (Ask q) = record { reply = answered settings text q (question_refusal text q); text = text }

abbrev pub reading_step : Settings → List ℕ → Reading → Step
reading_step settings text (refused why) = record { reply = reply.Refused why; text = text }
reading_step settings text (command c) = command_step settings text c

-- what a line of the script does
abbrev pub step : Settings → List ℕ → List ℕ → Step
step settings text line = reading_step settings text (reading_of line)

-- the replies to readings, one after another, and the text behind them
abbrev pub replies_to : Settings → List ℕ → List Reading → List ℕ
replies_to settings text [] = []
replies_to settings text (r ∷ rs) = reply_text (reading_step settings text r).reply ++ replies_to settings (reading_step settings text r).text rs

abbrev pub text_behind : Settings → List ℕ → List Reading → List ℕ
text_behind settings text [] = text
text_behind settings text (r ∷ rs) = text_behind settings (reading_step settings text r).text rs

-- the open reply
abbrev pub opened : Session → Reply
opened session = reply.Opened (line_count session.text) session.unread
