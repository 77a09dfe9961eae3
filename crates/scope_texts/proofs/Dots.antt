-- The dots at the front of a text.
use Rattle.std.proofs.Common.{◌≡◌, ℕ, List, [], ◌∷◌, drop, ◌+◌, refl}
use Rattle.std.proofs.Math.Numerals.{one-add}
use Rattle.std.specs.Prelude.{true, false, cond, nat_eq}
use Rattle.std.specs.List.{prefix_len}
use Rattle.line_defs.specs.ScopeTexts.{without_dots}

pub drop-dots : (text : List ℕ) → drop (prefix_len (λ c. nat_eq c 46) text) text ≡ without_dots text
drop-dots [] = refl
drop-dots (c ∷ cs) =
    elim (nat_eq c 46) as (λ b. drop (cond b (1 + prefix_len (λ d. nat_eq d 46) cs) 0) (c ∷ cs)
    ≡ cond b (without_dots cs) (c ∷ cs)) [
      | true ↦ rw one-add (drop-dots cs)
      | false ↦ refl
    ]
