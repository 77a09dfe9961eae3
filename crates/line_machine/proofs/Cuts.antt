-- The last token of a line.
use Rattle.std.proofs.Common.{◌≡◌, ◌≢◌, ℕ, ◌+◌, ◌<◌, List, [], ◌∷◌, ◌++◌, length}
use Rattle.std.proofs.Common.{drop, get_or, map, refl, ap, sym, ◌∙◌, append_assoc, append-nil, arith}
use Rattle.std.specs.Prelude.{◌==◌, true, false}
use Rattle.std.proofs.lemmas.Bool.Decides.{nat_tests}
use Rattle.std.proofs.lemmas.List.{at_drop_more}
use Rattle.scope_defs.specs.Frames.{Token}
use Rattle.line_defs.specs.Tokens.{last_token, within_line}
use Rattle.line_machine.specs.Cut.{cut_at}

pub within-last : (end : ℕ) (front : List Token) (last : Token)
    → within_line end (front ++ last ∷ []) ≡ map (cut_at end) front ++ last_token (last.from == end) end last
within-last end [] last = refl
within-last end (t ∷ []) last = refl
within-last end (t ∷ u ∷ ts) last = ap (λ rest. cut_at end t ∷ rest) (within-last end (u ∷ ts) last)

pub cut-more : (end : ℕ) (old new tokens : List Token) (i : ℕ) (token cut : Token) → i < length tokens
    → token ≡ get_or tokens i token → cut ≡ cut_at end token → new ≡ old ++ cut ∷ []
    → new ++ map (cut_at end) (drop (i + 1) tokens) ≡ old ++ map (cut_at end) (drop i tokens)
cut-more end old new tokens i token cut inside is cut-is e =
    rw (e, cut-is)
    (append_assoc old (cut_at end token ∷ []) (map (cut_at end) (drop (i + 1) tokens))
    ∙ ap (λ rest. old ++ rest)
    (ap (λ one. cut_at end one ∷ map (cut_at end) (drop (i + 1) tokens)) is
    ∙ sym (at_drop_more (map (cut_at end)) tokens i token inside)))

pub within-drop : (end : ℕ) (tokens front : List Token) (last : Token) (all : List Token)
    → tokens ≡ front ++ last ∷ [] → all ≡ map (cut_at end) front → last.from ≡ end → all ≡ within_line end tokens
within-drop end tokens front last all is all-is at =
    let here : (last.from == end) ≡ true = grind (arith, nat_tests) in
    all-is ∙ sym (append-nil (map (cut_at end) front))
    ∙ ap (λ b. map (cut_at end) front ++ last_token b end last) (sym here)
    ∙ sym (within-last end front last) ∙ ap (within_line end) (sym is)

pub within-keep : (end : ℕ) (tokens front : List Token) (last : Token) (all new : List Token)
    → tokens ≡ front ++ last ∷ [] → all ≡ map (cut_at end) front → last.from ≢ end
    → new ≡ all ++ cut_at end last ∷ [] → new ≡ within_line end tokens
within-keep end tokens front last all new is all-is before e =
    let here : (last.from == end) ≡ false = grind (arith, nat_tests) in
    e ∙ ap (λ ts. ts ++ cut_at end last ∷ []) all-is
    ∙ ap (λ b. map (cut_at end) front ++ last_token b end last) (sym here)
    ∙ sym (within-last end front last) ∙ ap (within_line end) (sym is)
