-- Lengths and heights of a tree, its lists opened, and when a list is even.
use Rattle.std.specs.Prelude.{◌≡◌, ℕ, ◌+◌, ◌*◌, ◌<◌, ◌^◌, ◌==◌, if◌then◌else◌, List, [], ◌∷◌, ◌++◌, Option, Some}
use Rattle.std.specs.Prelude.{None}
use Rattle.text_pos.specs.declared.length.Length.{Length}
use Rattle.text_pos.specs.Lengths.{plus}
use Rattle.tree_defs.specs.Items.{Items, items_then}
use Rattle.tree_defs.specs.Tree.{Tree, Nothing, Text, Bracket, Lone, Pair, Two, Three}

abbrev pub no_length : Length
no_length = record { lines = 0; cols = 0 }

abbrev pub and_closer : Length → Option Length → Length
and_closer len None = len
and_closer len (Some closer) = plus len closer

abbrev pub length_of : Tree → Length
length_of Nothing = no_length
length_of (Text len cut) = len
length_of (Bracket len kind) = len
length_of (Lone len kinds) = len
length_of (Pair opener kind inside closer) = and_closer (plus opener (length_of inside)) closer
length_of (Two a b) = plus (length_of a) (length_of b)
length_of (Three a b c) = plus (plus (length_of a) (length_of b)) (length_of c)

-- how many lists lie one in the other: a node that is no list has height 0
abbrev pub height : Tree → ℕ
height Nothing = 0
height (Text len cut) = 0
height (Bracket len kind) = 0
height (Lone len kinds) = 0
height (Pair opener kind inside closer) = 0
height (Two a b) = height a + 1
height (Three a b c) = height a + 1

abbrev pub IsNode : Tree → Type 0
IsNode Nothing = ⊥
IsNode (Text len cut) = Unit {0}
IsNode (Bracket len kind) = Unit {0}
IsNode (Lone len kinds) = Unit {0}
IsNode (Pair opener kind inside closer) = Unit {0}
IsNode (Two a b) = Unit {0}
IsNode (Three a b c) = Unit {0}

-- the children of each list are nodes of one height
abbrev pub IsEven : Tree → Type 0
IsEven Nothing = Unit {0}
IsEven (Text len cut) = Unit {0}
IsEven (Bracket len kind) = Unit {0}
IsEven (Lone len kinds) = Unit {0}
IsEven (Pair opener kind inside closer) = IsEven inside
IsEven (Two a b) = IsNode a × IsNode b × (height a ≡ height b) × IsEven a × IsEven b
IsEven (Three a b c) = IsNode a × IsNode b × IsNode c × (height a ≡ height b) × (height a ≡ height c) × IsEven a
    × IsEven b × IsEven c

-- the nodes of a tree with its lists opened, in order
abbrev pub leaves_of : Tree → List Tree
leaves_of Nothing = []
leaves_of (Text len cut) = Text len cut ∷ []
leaves_of (Bracket len kind) = Bracket len kind ∷ []
leaves_of (Lone len kinds) = Lone len kinds ∷ []
leaves_of (Pair opener kind inside closer) = Pair opener kind inside closer ∷ []
leaves_of (Two a b) = leaves_of a ++ leaves_of b
leaves_of (Three a b c) = leaves_of a ++ (leaves_of b ++ leaves_of c)

-- trees one behind the other, with their lists opened
abbrev pub all_leaves : List Tree → List Tree
all_leaves [] = []
all_leaves (t ∷ ts) = leaves_of t ++ all_leaves ts

-- the length of trees one behind the other
abbrev pub total : List Tree → Length
total [] = no_length
total (t ∷ ts) = plus (length_of t) (total ts)

abbrev pub Fits : Length → Type 0
Fits len = (len.lines < 2 ^ 32) × (len.cols < 2 ^ 32)

-- each run of neighbours has a length of which both parts are below 2 ^ 32
abbrev pub RunsFit : List Tree → Type 0
RunsFit ts = (before run rest : List Tree) → ts ≡ before ++ (run ++ rest) → Fits (total run)

-- each tree of some that stand one behind the other from a place on ends at a place of which both parts are below 2 ^
-- 32
abbrev pub EndsFit : Length → List Tree → Type 0
EndsFit at [] = Unit {0}
EndsFit at (t ∷ ts) = Fits (plus at (length_of t)) × EndsFit (plus at (length_of t)) ts

-- the items of trees one behind the other, and then others
abbrev pub all_items : List Tree → Items → Items
all_items [] rest = rest
all_items (t ∷ ts) rest = items_then t (all_items ts rest)

abbrev pub IsSome : Length → Type 0
IsSome len = 0 < len.lines + len.cols

-- how high a node of this length may be: 2 to its height is at most its columns where it lies in one line, and at most
-- 2 ^ 33 times its lines in any other case
abbrev pub room_in : Length → ℕ
room_in len = if len.lines == 0 then len.cols else 2 ^ 33 * len.lines
