-- The text of a reply: compact JSON as serde_json writes it, and one LF. The members are this project's own.
use Rattle.std.specs.Prelude.{ℕ, List, [], ◌∷◌, ◌++◌, map, codes, true, Option, Some, None}
use Rattle.std.specs.Str.{encode_utf8_all}
use Rattle.serde_json.specs.Data.{unsigned, Data, null, boolean, number, string, array, object, no_members, member}
use Rattle.serde_json.specs.View.{items_of}
use Rattle.serde_json.specs.Written.{compact_text}
use Rattle.text_pos.specs.declared.length.Pos.{Pos}
use Rattle.text_pos.specs.declared.length.Span.{Span}
use Rattle.answer_defs.specs.declared.answer.MarkAt.{MarkAt}
use Rattle.answer_defs.specs.declared.pair_answer.PairRow.{PairRow}
use Rattle.answer_defs.specs.declared.pair_answer.GuideRow.{GuideRow}
use Rattle.answer_defs.specs.declared.pair_answer.Twin.{Twin}
use Rattle.answer_defs.specs.declared.answer.BracketRow.{BracketRow}
use Rattle.answer_defs.specs.TokenAnswers.{AnsweredToken}
use Rattle.answer_defs.specs.declared.answer.Answer.{Answer}
use Rattle.answer_defs.specs.declared.answer.Answer.TheVariants as answer
use Rattle.scope_defs.specs.Scopes.{Scopes}
use Rattle.generator_defs.specs.declared.Made.{Made}
use Rattle.script_words.specs.declared.refusal.Refusal.{Refusal}
use Rattle.script_words.specs.declared.refusal.Refusal.TheVariants as refusal
use Rattle.script_words.specs.declared.reply.Reply.{Reply}
use Rattle.script_words.specs.declared.reply.Reply.TheVariants as reply

abbrev pub word_of : Refusal → List ℕ
word_of refusal.Long = codes "long"
word_of refusal.Json = codes "json"
word_of refusal.Command = codes "command"
word_of refusal.Range = codes "range"
word_of refusal.Order = codes "order"
word_of refusal.Chars = codes "chars"
word_of refusal.Lines = codes "lines"
word_of refusal.Line = codes "line"
word_of refusal.Place = codes "place"

-- an object of one member
abbrev pub only : List ℕ → Data → Data
only key d = object (member key d no_members)

abbrev pub whole_number : ℕ → Data
whole_number n = number (unsigned n)

abbrev pub row_data : BracketRow → Data
row_data r = array (items_of (map whole_number (r.at.line ∷ r.at.from ∷ r.at.to ∷ r.level ∷ r.own ∷ r.colour ∷ [])))

abbrev pub rows_data : List BracketRow → Data
rows_data rows = array (items_of (map row_data rows))

abbrev pub chars_data : List ℕ → Data
chars_data chars = string (encode_utf8_all chars)

-- whole numbers in a list
abbrev pub numbers_data : List ℕ → Data
numbers_data numbers = array (items_of (map whole_number numbers))

-- a value, and `null` where there is none
abbrev pub or_null : {A : Type 0} → (A → Data) → Option A → Data
or_null shown None = null
or_null shown (Some a) = shown a

-- a bracket: its line, its first column and the column behind its last
abbrev pub mark_data : MarkAt → Data
mark_data m = numbers_data (m.line ∷ m.from ∷ m.to ∷ [])

abbrev pub span_data : Span → Data
span_data s = numbers_data (s.from.line ∷ s.from.col ∷ s.to.col ∷ [])

abbrev pub twin_data : Twin → Data
twin_data t = array (items_of (span_data t.first ∷ span_data t.second ∷ []))

abbrev pub place_data : Pos → Data
place_data p = numbers_data (p.line ∷ p.col ∷ [])

abbrev pub pair_data : PairRow → Data
pair_data p = array (items_of (mark_data p.opener ∷ or_null mark_data p.closer ∷ whole_number p.level ∷ whole_number p.own ∷ []))

abbrev pub pairs_data : List PairRow → Data
pairs_data pairs = array (items_of (map pair_data pairs))

abbrev pub guide_data : GuideRow → Data
guide_data g = numbers_data (g.line ∷ g.column ∷ g.level ∷ [])

abbrev pub guides_data : List GuideRow → Data
guides_data guides = array (items_of (map guide_data guides))

-- the names of scopes, which are their UTF-8 bytes
abbrev pub scopes_data : Scopes → Data
scopes_data scopes = array (items_of (map string scopes))

-- a token: its first column, the column behind its last, its scopes and the number of its type
abbrev pub token_data : AnsweredToken → Data
token_data t = array (items_of (whole_number t.from ∷ whole_number t.to ∷ scopes_data t.scopes ∷ whole_number t.kind ∷ []))

abbrev pub tokens_data : List AnsweredToken → Data
tokens_data tokens = array (items_of (map token_data tokens))

abbrev pub answer_data : Answer → Data
answer_data (answer.Brackets rows) = only (codes "brackets") (rows_data rows)
answer_data (answer.Pairs pairs) = only (codes "pairs") (pairs_data pairs)
answer_data (answer.Guides guides) = only (codes "guides") (guides_data guides)
answer_data (answer.Tokens tokens) = only (codes "tokens") (tokens_data tokens)
answer_data (answer.Line chars) = only (codes "line") (chars_data chars)
answer_data (answer.Match twin) = only (codes "match") (or_null twin_data twin)
answer_data (answer.Around twin) = only (codes "around") (or_null twin_data twin)
answer_data (answer.Jump place) = only (codes "jump") (or_null place_data place)
answer_data (answer.Level level) = only (codes "level") (whole_number level)

-- lines, rows, rows without partner, and one more than the greatest level
abbrev pub made_data : Made → Data
made_data m = numbers_data (m.lines ∷ m.rows ∷ m.bad ∷ m.deepest ∷ [])

abbrev pub reply_data : Reply → Data
reply_data (reply.Opened lines unread) = object (member (codes "opened") (whole_number lines) (member (codes "unread") (whole_number unread) no_members))
reply_data (reply.Edited lines) = only (codes "edited") (whole_number lines)
reply_data reply.Turned = only (codes "turned") (boolean true)
reply_data (reply.Refused why) = only (codes "refused") (string (word_of why))
reply_data (reply.Answered a) = answer_data a
reply_data (reply.Made m) = only (codes "made") (made_data m)

-- the reply's line, with its LF
abbrev pub reply_text : Reply → List ℕ
reply_text r = compact_text (reply_data r) ++ 10 ∷ []
