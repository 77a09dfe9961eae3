-- Text is UTF-8 by std's count of its bytes.
use Rattle.std.proofs.Common.{◌≡◌, ◌∙◌, sym, eq-eqb, ap, true}
use Rattle.std.specs.Prelude.{if◌then◌else◌, None}
use Rattle.std.proofs.lemmas.Str.{utf8_valid_len-IsUtf8}
use Rattle.serde_json.specs.Read.{read}
use Rattle.text_defs.specs.Text.{is_utf8}
use Rattle.grammar_json.proofs.json.parse.Goals as goal

pub returns-in-Ok-from_str : goal.returns-in-Ok-from_str
returns-in-Ok-from_str c =
    let text : is_utf8 c.args.bytes.now ≡ true = eq-eqb _ _ (utf8_valid_len-IsUtf8 _ c.in-Ok.ensures.cases.1) in
    sym (ap (λ b. if b then read c.args.bytes.now else None) text
    ∙ (ap read (sym c.in-Ok.ensures.cases.0) ∙ c.in-Ok-from_str.ensures.ok))
