-- What pairs and lists are made of.
use Rattle.std.specs.Prelude.{◌≡◌, ℕ, ◌≤◌, ◌^◌, List, [], ◌∷◌, Option, Some, None}
use Rattle.std.specs.Borrow.{Bor}
use Rattle.text_pos.specs.declared.length.Length.{Length}
use Rattle.tree_defs.specs.Tree.{Tree, Nothing, Bracket, Pair, Two, Three}
use Rattle.tree_defs.specs.Shape.{length_of, height, IsNode, IsEven, Fits, room_in}

abbrev pub or_nothing : Option Tree → Tree
or_nothing None = Nothing
or_nothing (Some t) = t

abbrev pub closer_length : Option Tree → Option Length
closer_length None = None
closer_length (Some t) = Some (length_of t)

abbrev pub pair_of : Tree → Option Tree → Option Tree → Tree
pair_of (Bracket len kind) inside closer = Pair len kind (or_nothing inside) (closer_length closer)
pair_of _ inside closer = Nothing

abbrev pub list_of : List Tree → Tree
list_of (a ∷ b ∷ []) = Two a b
list_of (a ∷ b ∷ c ∷ []) = Three a b c
list_of _ = Nothing

-- ---- what the parts are
abbrev pub IsBracket : ℕ → Tree → Type 0
IsBracket kind (Bracket len other) = other ≡ kind
IsBracket kind _ = ⊥

abbrev pub IsInside : Option Tree → Type 0
IsInside None = Unit {0}
IsInside (Some t) = IsNode t

abbrev pub IsCloser : ℕ → Option Tree → Type 0
IsCloser kind None = Unit {0}
IsCloser kind (Some t) = IsBracket kind t

abbrev pub IsPair : Tree → Option Tree → Option Tree → Type 0
IsPair (Bracket len kind) inside closer = IsInside inside × IsCloser kind closer
IsPair _ inside closer = ⊥

-- brackets of one kind
abbrev pub ArePair : Tree → Option Tree → Option Tree → Type 0
ArePair (Bracket len kind) inside closer = IsCloser kind closer
ArePair _ inside closer = ⊥

abbrev pub IsList : List Tree → Type 0
IsList (a ∷ b ∷ []) = IsNode a × IsNode b × (height a ≡ height b)
IsList (a ∷ b ∷ c ∷ []) = IsNode a × IsNode b × IsNode c × (height a ≡ height b) × (height a ≡ height c)
IsList _ = ⊥

-- what references point to
abbrev pub nows : Option (Bor Tree) → Option Tree
nows None = None
nows (Some t) = Some t.now

abbrev pub list_tree : Tree → Tree → Option Tree → Tree
list_tree a b None = Two a b
list_tree a b (Some c) = Three a b c

abbrev pub IsAsHigh : Tree → Option Tree → Type 0
IsAsHigh a None = Unit {0}
IsAsHigh a (Some b) = height a ≡ height b

-- ---- parts of a tree
abbrev pub children_of : Tree → List Tree
children_of (Two a b) = a ∷ b ∷ []
children_of (Three a b c) = a ∷ b ∷ c ∷ []
children_of _ = []

abbrev pub IsBracketTree : Tree → Type 0
IsBracketTree (Bracket len kind) = Unit {0}
IsBracketTree _ = ⊥

abbrev pub kind_of : Tree → ℕ
kind_of (Bracket len kind) = kind
kind_of _ = 0

abbrev pub IsPairTree : Tree → Type 0
IsPairTree (Pair opener kind inside closer) = Unit {0}
IsPairTree _ = ⊥

abbrev pub opener_of : Tree → Tree
opener_of (Pair opener kind inside closer) = Bracket opener kind
opener_of _ = Nothing

abbrev pub no_nothing : Tree → Option Tree
no_nothing Nothing = None
no_nothing t = Some t

abbrev pub inside_of : Tree → Option Tree
inside_of (Pair opener kind inside closer) = no_nothing inside
inside_of _ = None

abbrev pub closer_of : Tree → Option Tree
closer_of (Pair opener kind inside (Some closer)) = Some (Bracket closer kind)
closer_of _ = None

-- what holds of each tree that is a node's
pub record Sound (t : Tree) : Type 0 where
  pub node : IsNode t
  pub even : IsEven t
  pub tall : 2 ^ height t ≤ room_in (length_of t)
  pub fits : Fits (length_of t)

abbrev pub SoundInside : Option Tree → Type 0
SoundInside None = Unit {0}
SoundInside (Some t) = Sound t
