use Rattle.std.proofs.Common.{◌≡◌, ap, ◌∙◌, true}
use Rattle.std.proofs.lemmas.Bool.{true_from_ne_false, both_ways}
use Rattle.text_defs.specs.Text.{is_text, text_of}
use Rattle.generator_defs.specs.GeneratedText.{generated_text}
use Rattle.text_maker.proofs.GeneratedTexts.{text_of-generated_text, is_text-generated_text}
use Rattle.text_maker.proofs.texts.make_text.Goals as goal

pub returns-in-Ok : goal.returns-in-Ok
returns-in-Ok c =
    let bytes : c.as_slice.result.now ≡ generated_text c.args.n = c.as_slice.ensures.value ∙ c.in_ok-bytes.ensures in
    c.in-Ok.ensures.ok ∙ ap text_of bytes ∙ text_of-generated_text c.args.n

pub want_of_memory-requires : goal.want_of_memory-requires
want_of_memory-requires c =
    let bytes : c.as_slice.result.now ≡ generated_text c.args.n = c.as_slice.ensures.value ∙ c.in_ok-bytes.ensures in
    let fits : is_text c.as_slice.result.now ≡ true =
    ap is_text bytes ∙ is_text-generated_text c.args.n c.requires.some c.requires.few in
    true_from_ne_false _ (λ other. both_ways _ (c.in-Err.ensures.refused other) fits)
