-- Sets that stand for their union.
use Rattle.std.proofs.Common.{◌≡◌, ℕ, Bool, true, false, ◌||◌, List, [], ◌∷◌, ◌++◌, refl, sym, ap}
use Rattle.std.proofs.Common.{◌∙◌}
use Rattle.std.proofs.Math.Bool.{or-false}
use Rattle.std.proofs.lemmas.List.Folds.{list_any-append}
use Rattle.char_sets.specs.Ranges.{in_set}
use Rattle.char_sets.specs.declared.char_set.CharRange.{CharRange}
use Rattle.char_sets.specs.Named.{in_named, in_named_if}
use Rattle.char_sets.specs.declared.named.NamedSet.{NamedSet}
use Rattle.syntax_defs.specs.Escapes.{complement_if}
use Rattle.onig_class.specs.SidesFit.{in_some}

or-assoc : (a b c : Bool) → (a || (b || c)) ≡ ((a || b) || c)
or-assoc true b c = refl
or-assoc false b c = refl

-- one set more at the end
pub in_some-push : (sets : List (List CharRange)) (set : List CharRange) (c : ℕ) → in_some (sets ++ set ∷ []) c
    ≡ (in_some sets c || in_set set c)
in_some-push sets set c =
    list_any-append (λ s. in_set s c) sets (set ∷ []) ∙ ap (λ b. in_some sets c || b) (or-false (in_set set c))

-- the last set joined with another
pub in_some-joined : (sets : List (List CharRange)) (last set joined : List CharRange) (c : ℕ) → in_set joined c
    ≡ (in_set last c || in_set set c) → (in_some sets c || in_set joined c)
    ≡ (in_some (sets ++ last ∷ []) c || in_set set c)
in_some-joined sets last set joined c is =
    ap (λ b. in_some sets c || b) is
    ∙ or-assoc (in_some sets c) (in_set last c) (in_set set c)
    ∙ ap (λ b. b || in_set set c) (sym (in_some-push sets last c))

pub named-complement : (negated : Bool) (name : NamedSet) (c : ℕ) → in_named_if negated name c
    ≡ complement_if negated (in_named name) c
named-complement true name c = refl
named-complement false name c = refl
