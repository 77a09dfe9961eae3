-- What escapes and names are, in the cases that the code tells apart.
use Rattle.std.proofs.Common.{◌≡◌, ℕ, ◌<◌, ◌≤◌, List, [], ◌∷◌, length, get_or, refl, arith}
use Rattle.std.specs.Option.{option_map, option_or}
use Rattle.char_sets.specs.declared.named.NamedSet.TheVariants as sets
use Rattle.syntax_defs.specs.Escapes.{by_plain_name, category_by, group_by_word, named_bracket}

pub two_letters : (name : List ℕ) (a b : ℕ) → 2 ≤ length name → length name < 3 → a ≡ get_or name 0 a → b
    ≡ get_or name 1 b → by_plain_name name ≡ option_map sets.Category (category_by a b)
unfolding by_plain_name
two_letters [] a b long short e f = absurd (omega arith)
two_letters (x ∷ []) a b long short e f = absurd (omega arith)
two_letters (x ∷ y ∷ []) a b long short e f = rw (e, f) refl
two_letters (x ∷ y ∷ z ∷ name) a b long short e f = absurd (omega arith)

pub longer_name : (name : List ℕ) → 3 ≤ length name → by_plain_name name
    ≡ option_or (named_bracket name) (option_map sets.Group (group_by_word name))
unfolding by_plain_name
longer_name [] long = absurd (omega arith)
longer_name (x ∷ []) long = absurd (omega arith)
longer_name (x ∷ y ∷ []) long = absurd (omega arith)
longer_name (x ∷ y ∷ z ∷ name) long = refl
