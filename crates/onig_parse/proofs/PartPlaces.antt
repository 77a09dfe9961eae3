-- What is read so far ends in the text, and its items have places in it.
use Rattle.std.proofs.Common.{◌≡◌, ℕ, ◌+◌, ◌<◌, ◌≤◌, List, [], ◌∷◌, ◌++◌, length, Bool, true, false, arith}
use Rattle.syntax_defs.specs.declared.items.Item.{Item}
use Rattle.syntax_defs.specs.declared.items.Item.TheVariants.{One, At, Choice, Group, Repeat, Ahead, Behind, Atomic}
use Rattle.syntax_defs.specs.declared.items.Item.TheVariants.{Back}
use Rattle.syntax_defs.specs.PatternSyntax.{Seen, Body, Stepped, at_place, with_list, open_items, with_item}

-- a text of so many characters, and what is asked of the places of its items
pub record Extent : Type 1 where
  pub end : ℕ
  pub IsPlace : ℕ → Type 0
  pub inside : (at : ℕ) → at ≤ end → IsPlace at

-- what is asked of the place of an item, where it has one
abbrev pub IsPlaced : Extent → Item → Type 0
IsPlaced t (One at options depth) = t.IsPlace at
IsPlaced t (At anchor) = Unit {0}
IsPlaced t (Choice ids) = Unit {0}
IsPlaced t (Group number body) = Unit {0}
IsPlaced t (Repeat body least most greedy) = Unit {0}
IsPlaced t (Ahead body wanted) = Unit {0}
IsPlaced t (Behind at arms wanted) = t.IsPlace at
IsPlaced t (Atomic body) = Unit {0}
IsPlaced t (Back at target fold) = t.IsPlace at

abbrev pub ArePlaced : Extent → List Item → Type 0
ArePlaced t [] = Unit {0}
ArePlaced t (item ∷ items) = IsPlaced t item × ArePlaced t items

abbrev pub ListsPlaced : Extent → List (List Item) → Type 0
ListsPlaced t [] = Unit {0}
ListsPlaced t (items ∷ lists) = ArePlaced t items × ListsPlaced t lists

ArePlaced-append : (t : Extent) (items later : List Item) → ArePlaced t items → ArePlaced t later
    → ArePlaced t (items ++ later)
ArePlaced-append t [] later are more = more
ArePlaced-append t (item ∷ items) later are more = (are.0, ArePlaced-append t items later are.1 more)

ListsPlaced-push : (t : Extent) (lists : List (List Item)) (items : List Item) → ListsPlaced t lists
    → ArePlaced t items → ListsPlaced t (lists ++ items ∷ [])
ListsPlaced-push t [] items are new = (new, tt)
ListsPlaced-push t (first ∷ lists) items are new = (are.0, ListsPlaced-push t lists items are.1 new)

-- how far the text is read, of so many characters
pub record PlacedSeen (t : Extent) (s : Seen) : Type 0 where
  pub whole : length s.text ≡ t.end
  pub place : s.place ≤ t.end
  pub lists : ListsPlaced t s.lists

pub record PlacedBody (t : Extent) (b : Body) : Type 0 where
  pub done : ArePlaced t b.done
  pub last : ArePlaced t b.last

-- a body that is read on from a place
pub record PlacedPart (t : Extent) (begin : ℕ) (b : Body) (s : Seen) : Type 0 where
  pub seen : PlacedSeen t s
  pub body : PlacedBody t b
  pub on : begin ≤ s.place

-- how far the text is read, at least to a place
pub record SeenFrom (t : Extent) (from : ℕ) (s : Seen) : Type 0 where
  pub seen : PlacedSeen t s
  pub on : from ≤ s.place

-- items that are read, at least to a place
pub record PlacedItems (t : Extent) (from : ℕ) (items : List Item) (s : Seen) : Type 0 where
  pub seen : PlacedSeen t s
  pub placed : ArePlaced t items
  pub on : from ≤ s.place

-- a step takes a character, where the body goes on
abbrev pub GoesOn : (more : Bool) → (begin next : ℕ) → Type 0
GoesOn true begin next = begin < next
GoesOn false begin next = begin ≤ next

pub record PlacedStep (t : Extent) (begin : ℕ) (r : Stepped) : Type 0 where
  pub seen : PlacedSeen t r.seen
  pub body : PlacedBody t r.body
  pub on : GoesOn r.more begin r.seen.place

pub at_place-placed : (t : Extent) (place : ℕ) (s : Seen) → PlacedSeen t s → PlacedSeen t (at_place place s)
at_place-placed t place s seen = record {
  whole = seen.whole;
  place = let whole = seen.whole in omega arith;
  lists = seen.lists;
}

-- further on, behind a place before the text's end
pub at_place-from : (t : Extent) (begin place : ℕ) (s : Seen) → PlacedSeen t s → begin < t.end → begin < place
    → SeenFrom t (begin + 1) (at_place place s)
at_place-from t begin place s seen h on =
    record { seen = at_place-placed t place s seen; on = let whole = seen.whole in omega arith }

pub with_list-placed : (t : Extent) (items : List Item) (s : Seen) → PlacedSeen t s → ArePlaced t items
    → PlacedSeen t (with_list items s)
with_list-placed t items s seen are =
    record { whole = seen.whole; place = seen.place; lists = ListsPlaced-push t s.lists items seen.lists are }

pub open_items-placed : (t : Extent) (b : Body) → PlacedBody t b → ArePlaced t (open_items b)
open_items-placed t b body = ArePlaced-append t b.done b.last body.done body.last

pub with_item-placed : (t : Extent) (items : List Item) (b : Body) → PlacedBody t b → ArePlaced t items
    → PlacedBody t (with_item items b)
with_item-placed t items b body are = record { done = open_items-placed t b body; last = are }
