-- Text is UTF-8 by std's count of its bytes.
use Rattle.std.proofs.Common.{◌≡◌, ◌∙◌, sym, eq-eqb, ap, true}
use Rattle.std.specs.Prelude.{if◌then◌else◌, None}
use Rattle.std.proofs.lemmas.Str.{utf8_valid_len-IsUtf8}
use Rattle.serde_json.specs.Read.{read}
use Rattle.text_defs.specs.Text.{is_utf8}
use Rattle.script_words.proofs.command.read_json.Goals as goal

pub returns-in-Ok-from_str-clause-ok : goal.returns-in-Ok-from_str-clause-ok
returns-in-Ok-from_str-clause-ok c =
    let text : is_utf8 c.args.line.now ≡ true = eq-eqb _ _ (utf8_valid_len-IsUtf8 _ c.in-Ok.ensures.cases.1) in
    ap (λ b. if b then read c.args.line.now else None) text
    ∙ (ap read (sym c.in-Ok.ensures.cases.0) ∙ c.in-Ok-from_str.ensures.ok)
