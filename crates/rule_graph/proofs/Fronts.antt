-- What stands behind a front of a text.
use Rattle.std.proofs.Common.{◌≡◌, ◌≢◌, ℕ, List, [], ◌∷◌, ◌++◌, refl, ap, ◌∙◌}
use Rattle.std.proofs.lemmas.Bool.{eq-eqb}
use Rattle.std.proofs.lemmas.Bool.Decides.{eqb_tells}
use Rattle.std.proofs.Common.{inl, inr, sym}
use Rattle.std.specs.Prelude.{Option, Some, None, option_map, MatchOption}
use Rattle.std.specs.Borrow.{Bor}
use Rattle.graph_defs.specs.Includes.{behind}

pub behind-front : (front rest : List ℕ) → behind front (front ++ rest) ≡ Some rest
behind-front [] rest = refl
behind-front (c ∷ front) rest = rw (eq-eqb c c refl) (behind-front front rest)

pub behind-other : (front text : List ℕ) → ((rest : List ℕ) → text ≢ front ++ rest) → behind front text ≡ None
behind-other [] text other = absurd (other text refl)
behind-other (c ∷ front) [] other = refl
behind-other (c ∷ front) (d ∷ text) other = elim (eqb_tells c d) [
  | inl same ↦ rw (same.0) (behind-other front text (λ rest is. other rest (ap (λ cs. d ∷ cs) is
      ∙ ap (λ x. x ∷ (front ++ rest)) (sym same.1))))
  | inr differ ↦ rw (differ.0) refl
]

-- what is found is what stands behind the front
pub found-behind : (front text : List ℕ) (found : Option (Bor (List ℕ)))
    → MatchOption found ((rest : List ℕ) → text ≢ front ++ rest) (λ x. text ≡ front ++ x.now)
    → option_map (λ part. part.now) found ≡ behind front text
found-behind front text None other = sym (behind-other front text other)
found-behind front text (Some x) is = sym (ap (behind front) is ∙ behind-front front x.now)
