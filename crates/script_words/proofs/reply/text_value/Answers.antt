use Rattle.std.proofs.Common.{◌≡◌, ◌<◌, ℕ, List, sym, ◌∙◌, ap, [], ◌∷◌, ◌++◌, ◌+◌, take, length, get_or, append-nil}
use Rattle.std.specs.Prelude.{encode_utf8, encode_utf8_all}
use Rattle.std.proofs.lemmas.List.{take_more}
use Rattle.std.proofs.lemmas.Str.{encodes-append}
use Rattle.script_words.proofs.reply.text_value.Goals as goal

-- one character more is its bytes more
encode_utf8_all-take_more : (xs : List ℕ) (i c : ℕ) → i < length xs → c ≡ get_or xs i c
    → encode_utf8_all (take i xs) ++ encode_utf8 c ≡ encode_utf8_all (take (i + 1) xs)
encode_utf8_all-take_more xs i c h is =
    ap (λ x. encode_utf8_all (take i xs) ++ encode_utf8 x) is
    ∙ (ap (λ e. encode_utf8_all (take i xs) ++ e) (sym (append-nil (encode_utf8 (get_or xs i c))))
    ∙ (sym (encodes-append (take i xs) (get_or xs i c ∷ [])) ∙ ap encode_utf8_all (sym (take_more xs i c h))))

pub loop-c-preserved : goal.loop-c-preserved
loop-c-preserved c =
    c.in_ok-push.ensures.bytes
    ∙ (ap (λ bs. bs ++ encode_utf8 c.c-item.result) c.loop-c.invariant
    ∙ encode_utf8_all-take_more c.args.chars.now c.loop-c.c-index c.c-item.result c.loop-c-test.true c.c-item.is)
