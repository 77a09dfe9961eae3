-- A reply has whole numbers alone.
use Rattle.std.proofs.Common.{◌≡◌, List, [], ◌∷◌, map, refl, ap, ◌∙◌, false, ◌||◌}
use Rattle.std.specs.Prelude.{Option, Some, None}
use Rattle.text_pos.specs.declared.length.Pos.{Pos}
use Rattle.answer_defs.specs.declared.answer.MarkAt.{MarkAt}
use Rattle.answer_defs.specs.declared.pair_answer.PairRow.{PairRow}
use Rattle.answer_defs.specs.declared.pair_answer.GuideRow.{GuideRow}
use Rattle.answer_defs.specs.declared.pair_answer.Twin.{Twin}
use Rattle.serde_json.specs.View.{items_of}
use Rattle.serde_json.specs.Written.{has_float, items_have_float}
use Rattle.answer_defs.specs.declared.answer.BracketRow.{BracketRow}
use Rattle.answer_defs.specs.TokenAnswers.{AnsweredToken}
use Rattle.answer_defs.specs.declared.answer.Answer.{Answer}
use Rattle.answer_defs.specs.declared.answer.Answer.TheVariants as answer
use Rattle.scope_defs.specs.Scopes.{Scopes}
use Rattle.script_words.specs.declared.reply.Reply.{Reply}
use Rattle.script_words.specs.declared.reply.Reply.TheVariants as reply
use Rattle.script_words.specs.ReplyText.{answer_data, guide_data, mark_data, or_null, pair_data, place_data}
use Rattle.script_words.specs.ReplyText.{reply_data, row_data, scopes_data, token_data, twin_data}

has_float-rows : (rows : List BracketRow) → items_have_float (items_of (map row_data rows)) ≡ false
has_float-rows [] = refl
has_float-rows (r ∷ rs) = has_float-rows rs

has_float-mark : (m : Option MarkAt) → has_float (or_null mark_data m) ≡ false
has_float-mark None = refl
has_float-mark (Some m) = refl

has_float-pair : (p : PairRow) → has_float (pair_data p) ≡ false
has_float-pair p = ap (λ b. b || false) (has_float-mark p.closer)

has_float-pairs : (pairs : List PairRow) → items_have_float (items_of (map pair_data pairs)) ≡ false
has_float-pairs [] = refl
has_float-pairs (p ∷ ps) =
    ap (λ b. b || items_have_float (items_of (map pair_data ps))) (has_float-pair p) ∙ has_float-pairs ps

has_float-guides : (guides : List GuideRow) → items_have_float (items_of (map guide_data guides)) ≡ false
has_float-guides [] = refl
has_float-guides (g ∷ gs) = has_float-guides gs

has_float-scopes : (scopes : Scopes) → has_float (scopes_data scopes) ≡ false
has_float-scopes [] = refl
has_float-scopes (s ∷ ss) = has_float-scopes ss

has_float-token : (t : AnsweredToken) → has_float (token_data t) ≡ false
has_float-token t = ap (λ b. b || false) (has_float-scopes t.scopes)

has_float-tokens : (tokens : List AnsweredToken) → items_have_float (items_of (map token_data tokens)) ≡ false
has_float-tokens [] = refl
has_float-tokens (t ∷ ts) =
    ap (λ b. b || items_have_float (items_of (map token_data ts))) (has_float-token t) ∙ has_float-tokens ts

has_float-twin : (t : Option Twin) → has_float (or_null twin_data t) ≡ false
has_float-twin None = refl
has_float-twin (Some t) = refl

has_float-place : (p : Option Pos) → has_float (or_null place_data p) ≡ false
has_float-place None = refl
has_float-place (Some p) = refl

has_float-answer : (a : Answer) → has_float (answer_data a) ≡ false
has_float-answer (answer.Brackets rows) = ap (λ b. b || false) (has_float-rows rows)
has_float-answer (answer.Pairs pairs) = ap (λ b. b || false) (has_float-pairs pairs)
has_float-answer (answer.Guides guides) = ap (λ b. b || false) (has_float-guides guides)
has_float-answer (answer.Tokens tokens) = ap (λ b. b || false) (has_float-tokens tokens)
has_float-answer (answer.Line chars) = refl
has_float-answer (answer.Match twin) = ap (λ b. b || false) (has_float-twin twin)
has_float-answer (answer.Around twin) = ap (λ b. b || false) (has_float-twin twin)
has_float-answer (answer.Jump place) = ap (λ b. b || false) (has_float-place place)
has_float-answer (answer.Level level) = refl

pub has_float-reply : (r : Reply) → has_float (reply_data r) ≡ false
has_float-reply (reply.Opened lines unread) = refl
has_float-reply (reply.Edited lines) = refl
has_float-reply reply.Turned = refl
has_float-reply (reply.Refused why) = refl
has_float-reply (reply.Answered a) = has_float-answer a
has_float-reply (reply.Made m) = refl
