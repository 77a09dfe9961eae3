-- What reading gives: items that name only lists before theirs, and groups that are there.
use Rattle.std.specs.Prelude.{ℕ, ◌+◌, ◌<◌, ◌≤◌, List, [], ◌∷◌, length, drop, Bool, Result, Ok, Err}
use Rattle.pattern_defs.specs.Patterns.{AllIds, RiseFrom, AreBounds}
use Rattle.syntax_defs.specs.Limits.{most_levels}
use Rattle.syntax_defs.specs.declared.items.GroupName.{GroupName}
use Rattle.syntax_defs.specs.declared.items.Options.{Options}
use Rattle.syntax_defs.specs.declared.items.Item.{Item}
use Rattle.syntax_defs.specs.declared.items.Item.TheVariants.{One, At, Choice, Group, Repeat, Ahead, Behind, Atomic}
use Rattle.syntax_defs.specs.declared.items.Item.TheVariants.{Back}
use Rattle.syntax_defs.specs.Reading.{Fault, Read}
use Rattle.syntax_defs.specs.Singles.{single_at}
use Rattle.syntax_defs.specs.PatternSyntax.{Parsed}

abbrev pub IsRead : Result (Read (ℕ → Bool)) Fault → Type 0
IsRead (Ok read) = Unit {0}
IsRead (Err fault) = ⊥

-- a single item stands at a place of the text, inside so many forms
pub record IsSingle (text : List ℕ) (at : ℕ) (options : Options) (forms : ℕ) : Type 0 where
  pub place : at ≤ length text
  pub depth : forms ≤ most_levels
  pub read : IsRead (single_at options forms at (drop at text))

-- The item names only lists with numbers below n, and groups from 1 to the number of groups. A back reference may name
-- any: the whole text shows whether it is there.
abbrev pub IsItem : List ℕ → ℕ → ℕ → Item → Type 0
IsItem text n groups (One at options depth) = IsSingle text at options depth
IsItem text n groups (At anchor) = Unit {0}
IsItem text n groups (Choice ids) = AllIds n ids × RiseFrom 0 ids
IsItem text n groups (Group number body) = (0 < number) × (number ≤ groups) × (body.0 < n)
IsItem text n groups (Repeat body least most greedy) = AreBounds least most × (body.0 < n)
IsItem text n groups (Ahead body wanted) = body.0 < n
IsItem text n groups (Behind at arms wanted) = AllIds n arms
IsItem text n groups (Atomic body) = body.0 < n
IsItem text n groups (Back at target fold) = Unit {0}

abbrev pub AreItems : List ℕ → ℕ → ℕ → List Item → Type 0
AreItems text n groups [] = Unit {0}
AreItems text n groups (item ∷ items) = IsItem text n groups item × AreItems text n groups items

-- each list names only lists before it, the first of which has the number n
abbrev pub AreItemLists : List ℕ → ℕ → ℕ → List (List Item) → Type 0
AreItemLists text n groups [] = Unit {0}
AreItemLists text n groups (items ∷ lists) = AreItems text n groups items × AreItemLists text (n + 1) groups lists

-- each name is that of a group from 1 to the number of groups
abbrev pub AreNames : ℕ → List GroupName → Type 0
AreNames groups [] = Unit {0}
AreNames groups (known ∷ names) = (0 < known.number) × (known.number ≤ groups) × AreNames groups names

pub record IsFormed (text : List ℕ) (parsed : Parsed) : Type 0 where
  pub lists : AreItemLists text 0 parsed.groups parsed.lists
  pub top : parsed.top.0 < length parsed.lists
  pub names : AreNames parsed.groups parsed.names
