-- An attempt: whether a pattern matches at a place, by what is still to match there. The order in which ways are
-- tried is that of Oniguruma's RE; where the end anchors hold is vscode-textmate's. The budget of visits, that an
-- iteration that takes nothing ends its repeat, that anchors and lookaround may be repeated, and what a back
-- reference takes in its own group are this project's own.
use Rattle.std.specs.Prelude.{ℕ, zero, suc, ◌+◌, ◌-◌, ◌==◌, nat_lt, nat_le, nat_eq, List, [], ◌∷◌, ◌++◌, length, map, drop, replicate, Bool, true, false, ◌&&◌, ◌||◌, not, Option, Some, None, option_and_then, slice_get, slice_set, slice_range}
use Rattle.std.specs.Char.{to_ascii_lowercase}
use Rattle.std.specs.List.{starts_with}
use Rattle.char_sets.specs.Named.{is_word}
use Rattle.char_sets.specs.Ranges.{in_set}
use Rattle.pattern_defs.specs.declared.nodes.ListId.{ListId}
use Rattle.pattern_defs.specs.declared.nodes.Arm.{Arm}
use Rattle.pattern_defs.specs.declared.nodes.Anchor.{Anchor}
use Rattle.pattern_defs.specs.declared.nodes.Anchor.TheVariants.{LineStart, LineEnd, First, Mark, End, LastEnd, WordEdge, NoWordEdge}
use Rattle.pattern_defs.specs.declared.nodes.PatNode.{PatNode}
use Rattle.pattern_defs.specs.declared.nodes.PatNode.TheVariants.{One, At, Choice, Group, Repeat, Ahead, Behind, Atomic, Back}
use Rattle.pattern_defs.specs.declared.outcomes.Flags.{Flags}
use Rattle.pattern_defs.specs.declared.outcomes.Outcome.{Outcome}
use Rattle.pattern_defs.specs.declared.outcomes.Outcome.TheVariants as outcomes
use Rattle.pattern_defs.specs.declared.outcomes.Place.{Place}
use Rattle.pattern_defs.specs.Patterns.{NodeLists, Tree, nodes_of}

-- what is searched: the lists of a pattern, the text, and what is known of the text
pub record Subject : Type 0 where
  pub lists : NodeLists
  pub text : List ℕ
  pub flags : Flags

-- what the groups took so far, by their numbers; number 0 is the whole match
abbrev pub Captures : Type 0
Captures = List (Option Place)

-- what is still to match: nodes, the ends of groups that began at a place, and repeats that were done some times,
-- the last time begun at a place
pub data Todo : Type 0 where
  Node : PatNode → Todo
  Close : (number from : ℕ) → Todo
  Again : (body : ListId) (least : ℕ) (most : Option ℕ) (greedy : Bool) (count begun : ℕ) → Todo

-- how an attempt ends, and how many visits are left: at a place with captures, or nowhere, or by its budget
pub data Ran : Type 0 where
  Hit : (at : ℕ) (captures : Captures) (left : ℕ) → Ran
  Miss : (left : ℕ) → Ran
  Spent : Ran

-- an attempt, given what is still to match, a place, captures and the visits that are left
abbrev pub Going : Type 0
Going = List Todo → ℕ → Captures → ℕ → Ran

-- what one attempt gives or, where it finds nothing, the next with the visits that it left
abbrev pub or_else : Ran → (ℕ → Ran) → Ran
or_else (Hit at captures left) next = Hit at captures left
or_else (Miss left) next = next left
or_else Spent next = Spent

-- going on where something holds
abbrev pub where_holds : Bool → Going → Going
where_holds true go todo at captures left = go todo at captures left
where_holds false go todo at captures left = Miss left

-- several ways on from one place, in order
abbrev pub tries : Going → List (List Todo) → ℕ → Captures → ℕ → Ran
tries go [] at captures left = Miss left
tries go (todo ∷ ways) at captures left = or_else (go todo at captures left) (λ rest. tries go ways at captures rest)

-- the nodes of a list, before what is still to match behind them
abbrev pub before : NodeLists → ListId → List Todo → List Todo
before lists id rest = map Node (nodes_of lists id) ++ rest

-- single characters and anchors

abbrev pub char_before : List ℕ → ℕ → Option ℕ
char_before text zero = None
char_before text (suc at) = slice_get text at

abbrev pub is_char : (ℕ → Bool) → Option ℕ → Bool
is_char p None = false
is_char p (Some c) = p c

abbrev pub is_line_feed : Option ℕ → Bool
is_line_feed c = is_char (λ n. n == 10) c

-- `\b` holds where exactly one of the two neighbours is a word character
abbrev pub is_word_edge : Bool → Bool → Bool
is_word_edge true next = not next
is_word_edge false next = next

abbrev pub holds_at : Anchor → Subject → ℕ → Bool
holds_at LineStart s at = (at == 0) || (is_line_feed (char_before s.text at) && nat_lt at (length s.text))
holds_at LineEnd s at = (at == length s.text) || is_line_feed (slice_get s.text at)
holds_at First s at = (at == 0) && s.flags.first
holds_at Mark s at = is_char (λ n. n == at) s.flags.anchor
holds_at End s at = (at == length s.text) && not (is_line_feed (char_before s.text at))
holds_at LastEnd s at = (at == length s.text) || ((at + 1 == length s.text) && is_line_feed (slice_get s.text at))
holds_at WordEdge s at = is_word_edge (is_char is_word (char_before s.text at)) (is_char is_word (slice_get s.text at))
holds_at NoWordEdge s at = not (is_word_edge (is_char is_word (char_before s.text at)) (is_char is_word (slice_get s.text at)))

-- repeats

-- whether as many iterations were done as may be
abbrev pub is_greatest : Option ℕ → ℕ → Bool
is_greatest None count = false
is_greatest (Some most) count = most == count

-- one iteration more or the rest: both, in the order of the repeat's kind
abbrev pub in_order : Bool → List Todo → List Todo → List (List Todo)
in_order true more rest = more ∷ rest ∷ []
in_order false more rest = rest ∷ more ∷ []

-- The ways on from a repeat. Whether it is stuck, below its least number or at its greatest is asked in this order.
abbrev pub repeat_ways : (stuck below greatest greedy : Bool) → (more rest : List Todo) → List (List Todo)
repeat_ways true below greatest greedy more rest = rest ∷ []
repeat_ways false true greatest greedy more rest = more ∷ []
repeat_ways false false true greedy more rest = rest ∷ []
repeat_ways false false false greedy more rest = in_order greedy more rest

abbrev pub repeats : Subject → Going → ListId → ℕ → Option ℕ → Bool → ℕ → ℕ → List Todo → ℕ → Captures → ℕ → Ran
repeats s go body least most greedy count begun rest at captures left =
    tries go
    (repeat_ways (nat_lt 0 count && (at == begun)) (nat_lt count least) (is_greatest most count) greedy
    (before s.lists body (Again body least most greedy (count + 1) at ∷ rest)) rest)
    at captures left

-- attempts of their own within an attempt

-- going on behind a lookaround, where what it saw is as wanted; what was captured stays after a wanted hit alone
abbrev pub looked : Bool → Ran → Going → List Todo → ℕ → Captures → Ran
looked true (Hit end seen left) go rest at captures = go rest at seen left
looked true (Miss left) go rest at captures = Miss left
looked false (Hit end seen left) go rest at captures = Miss left
looked false (Miss left) go rest at captures = go rest at captures left
looked true Spent go rest at captures = Spent
looked false Spent go rest at captures = Spent

-- the arms of a lookbehind in order, each begun so far back as it is long; one that is longer than the place is left out
abbrev pub arms_run : Subject → Going → List Arm → ℕ → Captures → ℕ → Ran
arms_run s go [] at captures left = Miss left
arms_run s go (arm ∷ arms) at captures left =
    or_else (where_holds (nat_le arm.length at) go (before s.lists arm.body []) (at - arm.length) captures left)
    (λ rest. arms_run s go arms at captures rest)

-- going on behind an atomic group, at its end and with its captures
abbrev pub kept_whole : Ran → Going → List Todo → Ran
kept_whole (Hit end seen left) go rest = go rest end seen left
kept_whole (Miss left) go rest = Miss left
kept_whole Spent go rest = Spent

-- back references

-- what a group took, if it is set
abbrev pub capture_of : Captures → ℕ → Option Place
capture_of captures number = option_and_then (λ taken. taken) (slice_get captures number)

abbrev pub folded : Bool → List ℕ → List ℕ
folded true cs = map to_ascii_lowercase cs
folded false cs = cs

-- whether what stands at one place stands at another
abbrev pub stands_again : Bool → List ℕ → Place → ℕ → Bool
stands_again fold text taken at =
    starts_with nat_eq (folded fold (drop at text)) (folded fold (slice_range text taken.from taken.to))

abbrev pub backs : Subject → Going → Option Place → Bool → List Todo → ℕ → Captures → ℕ → Ran
backs s go None fold rest at captures left = Miss left
backs s go (Some taken) fold rest at captures left =
    where_holds (stands_again fold s.text taken at) go rest (at + (taken.to - taken.from)) captures left

-- What is done at the first of what is still to match. One visit was taken for it.
abbrev pub act : Subject → Going → Todo → List Todo → ℕ → Captures → ℕ → Ran
act s go (Node (One set)) rest at captures left =
    where_holds (is_char (in_set set) (slice_get s.text at)) go rest (at + 1) captures left
act s go (Node (At anchor)) rest at captures left = where_holds (holds_at anchor s at) go rest at captures left
act s go (Node (Choice ids)) rest at captures left = tries go (map (λ id. before s.lists id rest) ids) at captures left
act s go (Node (Group number body)) rest at captures left = go (before s.lists body (Close number at ∷ rest)) at captures left
act s go (Node (Repeat body least most greedy)) rest at captures left = repeats s go body least most greedy 0 at rest at captures left
act s go (Node (Ahead body wanted)) rest at captures left = looked wanted (go (before s.lists body []) at captures left) go rest at captures
act s go (Node (Behind arms wanted)) rest at captures left = looked wanted (arms_run s go arms at captures left) go rest at captures
act s go (Node (Atomic body)) rest at captures left = kept_whole (go (before s.lists body []) at captures left) go rest
act s go (Node (Back number fold)) rest at captures left = backs s go (capture_of captures number) fold rest at captures left
act s go (Close number from) rest at captures left = go rest at (slice_set captures number (Some (record { from = from; to = at }))) left
act s go (Again body least most greedy count begun) rest at captures left = repeats s go body least most greedy count begun rest at captures left

-- One look at the list: it takes a visit, also where the list is empty.
abbrev pub look : Subject → Going → Going
look s go todo at captures zero = Spent
look s go [] at captures (suc left) = Hit at captures left
look s go (first ∷ rest) at captures (suc left) = act s go first rest at captures left

-- An attempt of a list. The first number bounds how deep the definition goes; it is at least the visits that are left.
unfoldable pub go_on : Subject → ℕ → Going
go_on s zero todo at captures left = Spent
go_on s (suc fuel) todo at captures left = look s (go_on s fuel) todo at captures left

-- the whole match, beside what its groups took
abbrev pub with_whole : ℕ → Ran → Ran
with_whole from (Hit at captures left) = Hit at (slice_set captures 0 (Some (record { from = from; to = at }))) left
with_whole from (Miss left) = Miss left
with_whole from Spent = Spent

-- an attempt of a pattern at a place of a text, within a budget of visits
abbrev pub attempt : Tree → List ℕ → ℕ → Flags → ℕ → Ran
attempt tree text at flags budget =
    with_whole at
    (go_on (record { lists = tree.lists; text = text; flags = flags }) budget (before tree.lists tree.top [])
    at (replicate (tree.groups + 1) None) budget)

abbrev pub outcome_of : Ran → Outcome
outcome_of (Hit at captures left) = outcomes.Hit
outcome_of (Miss left) = outcomes.Miss
outcome_of Spent = outcomes.Spent

-- the captures of the last hit, after an attempt that ends so: its own at a hit, and else those of before
abbrev pub last_hit_captures : Ran → Captures → Captures
last_hit_captures (Hit at captures left) last = captures
last_hit_captures (Miss left) last = last
last_hit_captures Spent last = last
