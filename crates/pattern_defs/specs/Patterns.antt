-- A pattern: its nodes stand in numbered lists, and a node names the lists that stand in it by their numbers.
-- The forms are those of Oniguruma's RE with Ruby syntax; that they are kept so is this project's own.
use Rattle.std.specs.Prelude.{ℕ, ◌+◌, ◌<◌, ◌≤◌, Bool, true, false, List, [], ◌∷◌, length, sum_by, Option, Some, None, unwrap_or, slice_get}
use Rattle.std.specs.List.{list_all}
use Rattle.pattern_defs.specs.declared.nodes.ListId.{ListId}
use Rattle.pattern_defs.specs.declared.nodes.Arm.{Arm}
use Rattle.pattern_defs.specs.declared.nodes.PatNode.{PatNode}
use Rattle.pattern_defs.specs.declared.nodes.PatNode.TheVariants.{One, At, Choice, Group, Repeat, Ahead, Behind, Atomic, Back}

abbrev pub NodeLists : Type 0
NodeLists = List (List PatNode)

-- a pattern: its lists, the list that is the whole, and how many numbered groups it has
pub record Tree : Type 0 where
  pub lists : NodeLists
  pub top : ListId
  pub groups : ℕ

-- the nodes of a list
abbrev pub nodes_of : NodeLists → ListId → List PatNode
nodes_of lists id = unwrap_or (slice_get lists id.0) []

abbrev pub AllIds : ℕ → List ListId → Type 0
AllIds n [] = Unit {0}
AllIds n (id ∷ ids) = (id.0 < n) × AllIds n ids

-- the numbers rise, so that no list stands twice in one choice
abbrev pub RiseFrom : ℕ → List ListId → Type 0
RiseFrom low [] = Unit {0}
RiseFrom low (id ∷ ids) = (low ≤ id.0) × RiseFrom (id.0 + 1) ids

abbrev pub AllArms : ℕ → List Arm → Type 0
AllArms n [] = Unit {0}
AllArms n (arm ∷ arms) = (arm.body.0 < n) × AllArms n arms

-- a repeat's bounds: the greatest number, where there is one, isn't below the least
abbrev pub AreBounds : ℕ → Option ℕ → Type 0
AreBounds least None = Unit {0}
AreBounds least (Some most) = least ≤ most

-- the node names only lists with numbers below n, and groups from 1 to the number of groups
abbrev pub IsNode : ℕ → ℕ → PatNode → Type 0
IsNode n groups (One set) = Unit {0}
IsNode n groups (At anchor) = Unit {0}
IsNode n groups (Choice ids) = AllIds n ids × RiseFrom 0 ids
IsNode n groups (Group number body) = (0 < number) × (number ≤ groups) × (body.0 < n)
IsNode n groups (Repeat body least most greedy) = AreBounds least most × (body.0 < n)
IsNode n groups (Ahead body wanted) = body.0 < n
IsNode n groups (Behind arms wanted) = AllArms n arms
IsNode n groups (Atomic body) = body.0 < n
IsNode n groups (Back number fold) = (0 < number) × (number ≤ groups)

abbrev pub AreNodes : ℕ → ℕ → List PatNode → Type 0
AreNodes n groups [] = Unit {0}
AreNodes n groups (node ∷ nodes) = IsNode n groups node × AreNodes n groups nodes

-- each list names only lists before it, the first of which has the number n
abbrev pub AreLists : ℕ → ℕ → NodeLists → Type 0
AreLists n groups [] = Unit {0}
AreLists n groups (nodes ∷ lists) = AreNodes n groups nodes × AreLists (n + 1) groups lists

-- how many nodes a pattern has
abbrev pub size_of : Tree → ℕ
size_of tree = sum_by length tree.lists

-- a single character or an anchor
abbrev pub is_plain : PatNode → Bool
is_plain (One set) = true
is_plain (At anchor) = true
is_plain _ = false

-- alternatives of plain nodes alone
abbrev pub is_flat_choice : NodeLists → List PatNode → Bool
is_flat_choice lists (Choice ids ∷ []) = list_all (λ id. list_all is_plain (nodes_of lists id)) ids
is_flat_choice lists nodes = list_all is_plain nodes

-- a list of single characters and anchors, or one set of alternatives of such lists
abbrev pub is_flat : Tree → Bool
is_flat tree = is_flat_choice tree.lists (nodes_of tree.lists tree.top)
