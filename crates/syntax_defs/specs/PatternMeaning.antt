-- When a pattern stands for what is read from a text: list by list and item by item.
use Rattle.std.specs.Prelude.{◌≡◌, ℕ, List, [], ◌∷◌, map, drop, Option, Some, unwrap_or, Bool, Result, Ok, Err}
use Rattle.char_sets.specs.Ranges.{IsSetOf}
use Rattle.char_sets.specs.declared.char_set.CharRange.{CharRange}
use Rattle.pattern_defs.specs.declared.nodes.ListId.{ListId}
use Rattle.pattern_defs.specs.declared.nodes.Arm.{Arm}
use Rattle.pattern_defs.specs.declared.nodes.PatNode.{PatNode}
use Rattle.pattern_defs.specs.declared.nodes.PatNode.TheVariants as nodes
use Rattle.pattern_defs.specs.Patterns.{NodeLists, Tree}
use Rattle.syntax_defs.specs.declared.items.Item.{Item}
use Rattle.syntax_defs.specs.declared.items.Item.TheVariants.{One, At, Choice, Group, Repeat, Ahead, Behind, Atomic}
use Rattle.syntax_defs.specs.declared.items.Item.TheVariants.{Back}
use Rattle.syntax_defs.specs.Reading.{Fault, Read}
use Rattle.syntax_defs.specs.Singles.{single_at}
use Rattle.syntax_defs.specs.PatternSyntax.{Parsed}
use Rattle.syntax_defs.specs.Lengths.{length_of, lengths_of, group_of}

-- a set with the characters of the single item that is read
abbrev pub IsSetRead : List CharRange → Result (Read (ℕ → Bool)) Fault → Type 0
IsSetRead set (Ok read) = IsSetOf set read.value
IsSetRead set (Err fault) = ⊥

-- an alternative of a lookbehind, with its length
abbrev pub arm_of : List (Option ℕ) → ListId → Arm
arm_of lengths id = record { length = unwrap_or (length_of lengths id) 0; body = id }

-- the node stands for the item of a text, whose lists have lengths
abbrev pub FitsItem : List ℕ → Parsed → List (Option ℕ) → PatNode → Item → Type 0
FitsItem text parsed lengths (nodes.One set) (One at options depth) =
    IsSetRead set (single_at options depth at (drop at text))
FitsItem text parsed lengths (nodes.At anchor) (At wanted) = anchor ≡ wanted
FitsItem text parsed lengths (nodes.Choice ids) (Choice wanted) = ids ≡ wanted
FitsItem text parsed lengths (nodes.Group number body) (Group n id) = (number ≡ n) × (body ≡ id)
FitsItem text parsed lengths (nodes.Repeat body least most greedy) (Repeat id m n g) =
    (body ≡ id) × (least ≡ m) × (most ≡ n) × (greedy ≡ g)
FitsItem text parsed lengths (nodes.Ahead body wanted) (Ahead id w) = (body ≡ id) × (wanted ≡ w)
FitsItem text parsed lengths (nodes.Behind arms wanted) (Behind at ids w) =
    (arms ≡ map (arm_of lengths) ids) × (wanted ≡ w)
FitsItem text parsed lengths (nodes.Atomic body) (Atomic id) = body ≡ id
FitsItem text parsed lengths (nodes.Back number fold) (Back at target f) =
    (group_of text parsed target ≡ Some number) × (fold ≡ f)
FitsItem text parsed lengths _ _ = ⊥

abbrev pub FitsItems : List ℕ → Parsed → List (Option ℕ) → List PatNode → List Item → Type 0
FitsItems text parsed lengths [] [] = Unit {0}
FitsItems text parsed lengths [] (item ∷ items) = ⊥
FitsItems text parsed lengths (node ∷ nodes) [] = ⊥
FitsItems text parsed lengths (node ∷ nodes) (item ∷ items) =
    FitsItem text parsed lengths node item × FitsItems text parsed lengths nodes items

abbrev pub FitsLists : List ℕ → Parsed → List (Option ℕ) → NodeLists → List (List Item) → Type 0
FitsLists text parsed lengths [] [] = Unit {0}
FitsLists text parsed lengths [] (items ∷ lists) = ⊥
FitsLists text parsed lengths (nodes ∷ trees) [] = ⊥
FitsLists text parsed lengths (nodes ∷ trees) (items ∷ lists) =
    FitsItems text parsed lengths nodes items × FitsLists text parsed lengths trees lists

-- the pattern stands for what is read from the text
pub record StandsFor (text : List ℕ) (tree : Tree) (parsed : Parsed) : Type 0 where
  pub lists : FitsLists text parsed (lengths_of parsed.lists) tree.lists parsed.lists
  pub top : tree.top ≡ parsed.top
  pub groups : tree.groups ≡ parsed.groups

abbrev pub IsReadAs : List ℕ → Tree → Result Parsed Fault → Type 0
IsReadAs text tree (Ok parsed) = StandsFor text tree parsed
IsReadAs text tree (Err fault) = ⊥
