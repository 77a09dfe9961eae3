-- When the sides of a class are what the definitions say, and how many characters its parts take.
use Rattle.std.specs.Prelude.{◌≡◌, ◌<◌, ℕ, Bool, true, List, Option, Some, None}
use Rattle.std.specs.List.{list_any}
use Rattle.char_sets.specs.Ranges.{in_set, IsSetOf}
use Rattle.char_sets.specs.declared.char_set.CharRange.{CharRange}
use Rattle.syntax_defs.specs.Classes as defs
use Rattle.syntax_defs.specs.declared.class_part.ClassPart.{ClassPart}
use Rattle.syntax_defs.specs.declared.class_part.ClassPart.TheVariants.{End, Close, And, Class, Member}
use Rattle.onig_class.specs.declared.sides.Sides.{Sides}

-- the character is in one of the sets
abbrev pub in_some : List (List CharRange) → ℕ → Bool
in_some sets c = list_any (λ set. in_set set c) sets

-- what stands before the last `&&`; where there is none, it leaves out no character
abbrev pub IsBefore : Option (List CharRange) → (ℕ → Bool) → Type 0
IsBefore None p = (c : ℕ) → c < 1_114_112 → p c ≡ true
IsBefore (Some set) p = IsSetOf set p

pub record IsSides (sides : Sides) (q : defs.Sides) : Type 0 where
  pub before : IsBefore sides.before q.before
  pub here : (c : ℕ) → c < 1_114_112 → in_some sides.here.items c ≡ q.here c

-- a part takes at least so many characters
abbrev pub needs : ClassPart → ℕ
needs End = 0
needs Close = 1
needs And = 2
needs Class = 1
needs Member = 1
