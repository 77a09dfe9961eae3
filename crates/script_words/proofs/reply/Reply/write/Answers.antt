use Rattle.std.proofs.Common.{◌≡◌, ◌∙◌, ap, lit<, [], ◌∷◌, ◌++◌, false}
use Rattle.std.specs.Prelude.{string_bytes}
use Rattle.serde_json.specs.View.{view}
use Rattle.serde_json.specs.Written.{compact_text, has_float}
use Rattle.script_words.proofs.ReplyLemmas.{has_float-reply}
use Rattle.script_words.proofs.reply.Reply.write.Goals as goal

pub returns : goal.returns
returns c =
    let whole : has_float (view c.in_ok-value.field-0) ≡ false =
    ap has_float c.in_ok-value.ensures ∙ has_float-reply c.args.self.now in
    let written = c.in_ok-line.ensures.text whole ∙ ap compact_text c.in_ok-value.ensures in
    c.in_ok-bytes.ensures ∙ (c.as_bytes.ensures.value
    ∙ (c.in_ok-push.ensures.bytes ∙ (ap (λ e. string_bytes c.in_ok-line.line ++ e)
    (c.in_ok-push.ensures.ascii (lit< tt)) ∙ ap (λ bs. bs ++ 10 ∷ []) written)))
