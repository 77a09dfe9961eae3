-- What a parse of marks keeps: marks in order from a place on, where a list of nodes ends, and what a node and what
-- stands behind it are together.
use Rattle.std.specs.Prelude.{◌≡◌, ℕ, zero, suc, ◌+◌, ◌-◌, ◌*◌, ◌<◌, ◌≤◌, ◌==◌, ◌&&◌, ◌||◌, nat_lt, if◌then◌else◌, List, [], ◌∷◌}
use Rattle.std.specs.Prelude.{◌++◌, length, Bool, true, false, IsTrue}
use Rattle.text_pos.specs.declared.length.Length.{Length}
use Rattle.text_pos.specs.KindSet.{has_kind}
use Rattle.text_pos.specs.Lengths.{plus, IsLess}
use Rattle.pairing_defs.specs.declared.Role.{Role}
use Rattle.pairing_defs.specs.declared.Role.TheVariants.{Opener, Closer}
use Rattle.pairing_defs.specs.declared.Mark.{Mark}
use Rattle.pairing_defs.specs.Pairing.{Entry}
use Rattle.tree_defs.specs.Tree as tree
use Rattle.tree_defs.specs.Shape.{length_of, leaves_of}
use Rattle.tree_defs.specs.Items.{Items, items_then, behind, missed_in, left_by, Stands}
use Rattle.tree_defs.specs.Items as items
use Rattle.tree_defs.specs.Ends.{EndAt, fits}
use Rattle.text_pos.specs.declared.length.Pos.{Pos}
use Rattle.mark_source.specs.Source as source
use Rattle.mark_source.specs.Source.{IsRole}
use Rattle.reuse_parser.specs.declared.place.Around.{Around}

-- ---- marks and their places

abbrev pub start_of : Mark → Length
start_of m = record { lines = m.at.line; cols = m.at.col }

abbrev pub end_of : Mark → Length
end_of m = record { lines = m.at.line; cols = m.to }

abbrev pub size_of : Mark → Length
size_of m = record { lines = 0; cols = m.to - m.at.col }

-- where the next mark starts, or else where the text ends
abbrev pub next_start : Length → List Mark → Length
next_start last [] = last
next_start last (m ∷ ms) = start_of m

-- each mark starts at or behind a place and takes some columns, the next at or behind its end, and the text ends at or
-- behind the end of the last
abbrev pub Follow : Length → Length → List Mark → Type 0
Follow at last [] = ¬ IsLess last at
Follow at last (m ∷ ms) = (¬ IsLess (start_of m) at) × (m.at.col < m.to) × IsRole m.role × Follow (end_of m) last ms

-- a test holds of the places where marks start and end, and of the text's end
abbrev pub HoldsAt : (Length → Bool) → Length → List Mark → Type 0
HoldsAt test last [] = test last ≡ true
HoldsAt test last (m ∷ ms) = (test (start_of m) ≡ true) × (test (end_of m) ≡ true) × HoldsAt test last ms

-- the places where marks start and end are of 32 bits
abbrev pub AllFit : List Mark → Type 0
AllFit [] = Unit {0}
AllFit (m ∷ ms) = (fits (start_of m) ≡ true) × (fits (end_of m) ≡ true) × AllFit ms

-- a source's count after so many marks more
abbrev pub given_after : ℕ → ℕ → ℕ
given_after zero count = count
given_after (suc n) count = source.risen (given_after n count)

-- where the last of some marks ends, or else the place before them
abbrev pub last_place : Pos → List Mark → Pos
last_place p [] = p
last_place p (m ∷ ms) = last_place (source.end_of m) ms

abbrev pub role_has : Role → ℕ → Bool
role_has (Opener kind) k = false
role_has (Closer kinds) k = has_kind kinds k

-- whether the first mark closes the kind
abbrev pub front_has : List Mark → ℕ → Bool
front_has [] k = false
front_has (m ∷ ms) k = role_has m.role k

-- the first mark is a closer of the kind
pub record IsFront (kind : ℕ) (ms : List Mark) (m : Mark) (rest : List Mark) : Type 0 where
  pub are : ms ≡ m ∷ rest
  pub has : role_has m.role kind ≡ true

-- ---- lists of nodes

-- what is around a list can be
pub record IsAround (a : Around) : Type 0 where
  pub room : a.level ≤ a.limit
  pub few : a.limit ≤ 300

-- what is around the inside of a pair of this kind
pub record IsWithin (a : Around) (kind : ℕ) (inside : Around) : Type 0 where
  pub above : (k : ℕ) → has_kind inside.above k ≡ (has_kind a.above k || k == kind)
  pub level : inside.level ≡ a.level + 1
  pub limit : inside.limit ≡ a.limit
  pub last : inside.end ≡ a.end

-- a list ends at the text's end, and before a closer of a kind that is open around it
abbrev pub Stopped : Around → Length → List Mark → Type 0
Stopped a at [] = at ≡ a.end
Stopped a at (m ∷ ms) = (at ≡ start_of m) × ((k : ℕ) × IsTrue (role_has m.role k && has_kind a.above k))

-- none of the entries is of such a kind
abbrev pub NoneBy : (ℕ → Bool) → List Entry → Type 0
NoneBy has [] = Unit {0}
NoneBy has (e ∷ es) = (has e.kind ≡ false) × NoneBy has es

-- items stand for marks up to a place, none of their unexpected closers closes a kind that is open around them, and
-- none that they leave open is of such a kind
pub record Fine (a : Around) (has : ℕ → Bool) (stop : Length) (its : Items) (at : Length)
    (ms : List Mark) : Type 0 where
  pub stands : Stands a.limit a.level its at ms
  pub ends : behind its at ≡ stop
  pub apart : (k : ℕ) → IsTrue (has_kind a.above k) → missed_in its k ≡ false
  pub passes : (n : ℕ) → NoneBy has (left_by n its)

-- nothing more is in a list that is stopped
pub record Nothing (its : Items) (ms : List Mark) (has : ℕ → Bool) (rest : List Mark) : Type 0 where
  pub no_item : its ≡ items.end
  pub no_mark : ms ≡ []
  pub front : (k : ℕ) → has k ≡ front_has rest k

-- nodes from a place on lead to another place and to what is left of the marks: whatever stands there, stands with them
abbrev pub Leads : Around → (Items → Items) → Length → List Mark → Length → List Mark → Type 0
Leads a before at done to rest = (its : Items) (ms : List Mark) (has : ℕ → Bool) (stop : Length)
    → (Stopped a to rest → Nothing its ms has rest) → Fine a has stop its to ms
    → Fine a has stop (before its) at (done ++ ms)

-- where a test holds of the places of all marks, it does so of those that are left
abbrev pub Still : Around → List Mark → List Mark → Type 0
Still a ms rest = (test : Length → Bool) → HoldsAt test a.end ms → HoldsAt test a.end rest

-- and of where nodes end that are put before others
abbrev pub Ends : Around → (Items → Items) → Length → List Mark → Length → List Mark → Type 0
Ends a before at ms to rest = (test : Length → Bool) (its : Items) → HoldsAt test a.end ms
    → (Stopped a to rest → its ≡ items.end) → EndAt test its to → EndAt test (before its) at

-- twice the marks that are left, and one for a text before them
abbrev pub work : Length → Length → List Mark → ℕ
work last at ms =
    let next = next_start last ms in
    2 * length ms + (if nat_lt at.lines next.lines || (at.lines == next.lines && nat_lt at.cols next.cols) then 1 else
    0)

pub record Grows (a : Around) (at : Length) (ms : List Mark) (node : tree.Tree) (to : Length) (rest : List Mark) : Type
    0 where
  pub more : ¬ Stopped a at ms
  pub done : List Mark
  pub are : ms ≡ done ++ rest
  pub leaf : leaves_of node ≡ node ∷ []
  pub long : plus at (length_of node) ≡ to
  pub shallow : tree.depth node + a.level ≤ a.limit
  pub follow : Follow to a.end rest
  pub less : work a.end to rest < work a.end at ms
  pub leads : Leads a (items_then node) at done to rest
  pub still : Still a ms rest
  pub ends : Ends a (items_then node) at ms to rest

pub record Listed (a : Around) (at : Length) (ms : List Mark) (t : tree.Tree) (to : Length) (rest : List Mark) : Type
    0 where
  pub done : List Mark
  pub are : ms ≡ done ++ rest
  pub long : plus at (length_of t) ≡ to
  pub shallow : tree.depth t + a.level ≤ a.limit
  pub follow : Follow to a.end rest
  pub stopped : Stopped a to rest
  pub fine : Fine a (front_has rest) to (items_then t items.end) at done
  pub still : Still a ms rest
  pub ends : (test : Length → Bool) → HoldsAt test a.end ms → EndAt test (items_then t items.end) at
