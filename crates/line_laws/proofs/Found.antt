-- What a search finds lies in its text, from the place of the search on, and is the end of a frame only where the
-- frame's
-- rule has one.
use Rattle.std.proofs.Common.{◌≡◌, ℕ, zero, suc, ◌+◌, ◌-◌, ◌≤◌, List, [], ◌∷◌, ◌++◌, length, map, replicate, refl}
use Rattle.std.proofs.Common.{subst, arith}
use Rattle.std.specs.Prelude.{Bool, true, false, ◌==◌, Option, Some, None, IfSome, IsSomeAnd, slice_get, find}
use Rattle.std.specs.Prelude.{flat_map, cond}
use Rattle.pattern_defs.specs.declared.outcomes.Flags.{Flags}
use Rattle.pattern_defs.specs.declared.outcomes.Outcome.TheVariants as outcomes
use Rattle.pattern_defs.specs.Patterns.{Tree}
use Rattle.pattern_defs.specs.Attempt.{Ran, Hit, Miss, Spent, attempt, before, go_on, with_whole, outcome_of}
use Rattle.pattern_defs.specs.Attempt.{last_hit_captures, capture_of}
use Rattle.pattern_defs.specs.FirstMatch.{Pair, pairs_at, places, pairs, tried, is_no_miss, first_pair}
use Rattle.onig_match.proofs.Parts.{captured_parts, captured_whole}
use Rattle.scope_defs.specs.Scopes.{Scopes}
use Rattle.scope_defs.specs.Frames.{Frame}
use Rattle.rule_defs.specs.Rules.{Kind, Match, BeginEnd, BeginWhile, Group, Injection}
use Rattle.line_defs.specs.Machine.{Machine, rule_at}
use Rattle.line_defs.specs.Runs.{State}
use Rattle.line_defs.specs.Search.{Of, OfEnd, OfRule, Choice, Matched, Found, Nothing, OutOfBudget, At, Sight}
use Rattle.line_defs.specs.Search.{choice_of, rule_choices, finish_of, finish_choice, in_order, with_end, choices}
use Rattle.line_defs.specs.Search.{found_as, found_of, found_by, scan, sight, ordinary, pattern_of}
use Rattle.line_defs.specs.Search.{while_found}
use Rattle.line_defs.specs.Injections.{Kept, Injected, InjectedSpent, Keeps, is_earlier, kept_then, weighed}
use Rattle.line_laws.specs.Matches.{AreParts, LiesIn}
use Rattle.line_defs.specs.Injections.{after_one, scan_where, injected, wins, decided, with_injections, search}

-- ---- one attempt

-- a hit ends at a place or behind it, in a text of so many characters, and its groups took parts of that
abbrev pub EndsIn : (from chars : ℕ) → Ran → Type 0
EndsIn from chars (Hit to captures left) = (from ≤ to) × (to ≤ chars) × AreParts chars captures
EndsIn from chars (Miss left) = Unit {0}
EndsIn from chars Spent = Unit {0}

with_whole-ends : (from chars : ℕ) (ran : Ran) →
    (outcomes.Hit ≡ outcome_of (with_whole from ran) → AreParts chars (last_hit_captures (with_whole from ran) [])) →
    (outcomes.Hit ≡ outcome_of (with_whole from ran)
    → IsSomeAnd (capture_of (last_hit_captures (with_whole from ran) []) 0) (λ place. place.from ≡ from)) →
    EndsIn from chars (with_whole from ran)
with_whole-ends from chars (Hit to [] left) parts whole = elim (whole refl) [ ]
with_whole-ends from chars (Hit to (x ∷ xs) left) parts whole = ((parts refl 0).0, (parts refl 0).1, parts refl)
with_whole-ends from chars (Miss left) parts whole = tt
with_whole-ends from chars Spent parts whole = tt

pub attempt-ends : (tree : Tree) (text : List ℕ) (at : ℕ) (flags : Flags) (budget : ℕ) → at ≤ length text →
    EndsIn at (length text) (attempt tree text at flags budget)
attempt-ends tree text at flags budget there =
    with_whole-ends at (length text)
    (go_on (record { lists = tree.lists; text = text; flags = flags }) budget
    (before tree.lists tree.top []) at (replicate (tree.groups + 1) None) budget)
    (λ hit. captured_parts tree text at flags budget [] there hit)
    (λ hit. captured_whole tree text at flags budget [] there hit)

-- ---- the first of some pairs

-- the places of some pairs lie from one to another
abbrev pub AreFrom : (from chars : ℕ) → List Pair → Type 0
AreFrom from chars [] = Unit {0}
AreFrom from chars (pair ∷ pairs) = (from ≤ pair.place) × (pair.place ≤ chars) × AreFrom from chars pairs

AreFrom-append : (from chars : ℕ) (some others : List Pair) → AreFrom from chars some → AreFrom from chars others →
    AreFrom from chars (some ++ others)
AreFrom-append from chars [] others are too = too
AreFrom-append from chars (pair ∷ some) others are too = (are.0, are.1, AreFrom-append from chars some others are.2 too)

pairs_at-from : (from chars index : ℕ) (trees : List Tree) (place : ℕ) → from ≤ place → place ≤ chars →
    AreFrom from chars (pairs_at index trees place)
pairs_at-from from chars index [] place above below = tt
pairs_at-from from chars index (tree ∷ trees) place above below =
    (above, below, pairs_at-from from chars (index + 1) trees place above below)

flat_map-from : (from chars : ℕ) (trees : List Tree) (place count : ℕ) → from ≤ place → place + count ≤ chars + 1 →
    AreFrom from chars (flat_map (pairs_at 0 trees) (places place count))
flat_map-from from chars trees place zero above below = tt
flat_map-from from chars trees place (suc count) above below =
    AreFrom-append from chars (pairs_at 0 trees place) (flat_map (pairs_at 0 trees) (places (place + 1) count))
    (pairs_at-from from chars 0 trees place above (omega arith))
    (flat_map-from from chars trees (place + 1) count (omega arith) (omega arith))

pairs-from : (trees : List Tree) (text : List ℕ) (from : ℕ) → from ≤ length text
    → AreFrom from (length text) (pairs trees text from)
pairs-from trees text from there =
    flat_map-from from (length text) trees from (length text + 1 - from) (omega arith) (omega arith)

IsFrom : (from chars : ℕ) → Pair → Type 0
IsFrom from chars pair = (from ≤ pair.place) × (pair.place ≤ chars)

find-from : (from chars : ℕ) (p : Pair → Bool) (pairs : List Pair) → AreFrom from chars pairs
    → IfSome (find p pairs) (IsFrom from chars)
unfolding IsFrom
find-from from chars p [] are = tt
find-from from chars p (pair ∷ pairs) are =
    elim (p pair) as (λ b. IfSome (cond b (Some pair) (find p pairs)) (IsFrom from chars)) [
      | true ↦ (are.0, are.1)
      | false ↦ find-from from chars p pairs are.2
    ]

-- ---- one scan

-- the end of a frame is found only where the frame's rule is a begin/end rule
abbrev pub MayBe : Kind → Of → Type 0
MayBe BeginEnd OfEnd = Unit {0}
MayBe Match OfEnd = ⊥
MayBe BeginWhile OfEnd = ⊥
MayBe Group OfEnd = ⊥
MayBe Match (OfRule number) = Unit {0}
MayBe BeginEnd (OfRule number) = Unit {0}
MayBe BeginWhile (OfRule number) = Unit {0}
MayBe Group (OfRule number) = Unit {0}

MayBe-rule : (kind : Kind) (number : ℕ) → MayBe kind (OfRule number)
MayBe-rule Match number = tt
MayBe-rule BeginEnd number = tt
MayBe-rule BeginWhile number = tt
MayBe-rule Group number = tt

pub record IsThere (kind : Kind) (place chars : ℕ) (m : Matched) : Type 0 where
  pub of : MayBe kind m.of
  pub begins : place ≤ m.from
  pub goes : m.from ≤ m.to
  pub ends : m.to ≤ chars
  pub parts : AreParts chars m.captures

abbrev pub IfAt : Kind → (place chars : ℕ) → Found → Type 0
IfAt kind place chars Nothing = Unit {0}
IfAt kind place chars OutOfBudget = Unit {0}
IfAt kind place chars (At m) = IsThere kind place chars m

abbrev pub AllMayBe : Kind → List Choice → Type 0
AllMayBe kind [] = Unit {0}
AllMayBe kind (choice ∷ choices) = MayBe kind choice.of × AllMayBe kind choices

AllMayBe-append : (kind : Kind) (some others : List Choice) → AllMayBe kind some → AllMayBe kind others
    → AllMayBe kind (some ++ others)
AllMayBe-append kind [] others all too = too
AllMayBe-append kind (choice ∷ some) others all too = (all.0, AllMayBe-append kind some others all.1 too)

slice_get-may_be : (kind : Kind) (choices : List Choice) (n : ℕ) → AllMayBe kind choices
    → IfSome (slice_get choices n) (λ choice. MayBe kind choice.of)
slice_get-may_be kind [] n all = tt
slice_get-may_be kind (choice ∷ choices) zero all = all.0
slice_get-may_be kind (choice ∷ choices) (suc n) all = slice_get-may_be kind choices n all.1

found_as-there : (kind : Kind) (place chars : ℕ) (of : Of) (from : ℕ) (ran : Ran) → MayBe kind of → place ≤ from
    → EndsIn from chars ran →
    IfAt kind place chars (found_as of from ran)
found_as-there kind place chars of from (Hit to captures left) may begins ends =
    record { of = may; begins = begins; goes = ends.0; ends = ends.1; parts = ends.2 }
found_as-there kind place chars of from (Miss left) may begins ends = tt
found_as-there kind place chars of from Spent may begins ends = tt

found_of-there : (kind : Kind) (s : Sight) (pair : Pair) (choice : Option Choice)
    → IfSome choice (λ c. MayBe kind c.of) →
    IsFrom s.place (length s.text) pair → IfAt kind s.place (length s.text) (found_of s pair choice)
unfolding IsFrom
found_of-there kind s pair None may is = tt
found_of-there kind s pair (Some choice) may is =
    found_as-there kind s.place (length s.text) choice.of pair.place (tried s.text s.flags s.budget pair) may is.0
    (attempt-ends pair.tree s.text pair.place s.flags s.budget is.1)

found_by-there : (kind : Kind) (s : Sight) (choices : List Choice) (pair : Option Pair) → AllMayBe kind choices →
    IfSome pair (IsFrom s.place (length s.text)) → IfAt kind s.place (length s.text) (found_by s choices pair)
found_by-there kind s choices None all is = tt
found_by-there kind s choices (Some pair) all is =
    found_of-there kind s pair (slice_get choices pair.index) (slice_get-may_be kind choices pair.index all) is

pub scan-there : (kind : Kind) (s : Sight) (choices : List Choice) → AllMayBe kind choices → s.place ≤ length s.text →
    IfAt kind s.place (length s.text) (scan s choices)
scan-there kind s choices all there =
    found_by-there kind s choices (first_pair (map (λ choice. choice.tree) choices) s.text s.place s.flags s.budget) all
    (find-from s.place (length s.text) (λ pair. is_no_miss (tried s.text s.flags s.budget pair))
    (pairs (map (λ choice. choice.tree) choices) s.text s.place)
    (pairs-from (map (λ choice. choice.tree) choices) s.text s.place there))

-- ---- the patterns of a frame

choice_of-may_be : (kind : Kind) (of : Of) (tree : Option Tree) → MayBe kind of → AllMayBe kind (choice_of of tree)
choice_of-may_be kind of None may = tt
choice_of-may_be kind of (Some tree) may = (may, tt)

pub rule_choices-may_be : (kind : Kind) (machine : Machine) (numbers : List ℕ)
    → AllMayBe kind (rule_choices machine numbers)
rule_choices-may_be kind machine [] = tt
rule_choices-may_be kind machine (number ∷ numbers) =
    AllMayBe-append kind (choice_of (OfRule number) (pattern_of (rule_at machine number).start))
    (rule_choices machine numbers)
    (choice_of-may_be kind (OfRule number) (pattern_of (rule_at machine number).start) (MayBe-rule kind number))
    (rule_choices-may_be kind machine numbers)

in_order-may_be : (kind : Kind) (last : Bool) (end inside : List Choice) → AllMayBe kind end → AllMayBe kind inside
    → AllMayBe kind (in_order last end inside)
in_order-may_be kind true end inside may too = AllMayBe-append kind inside end too may
in_order-may_be kind false end inside may too = AllMayBe-append kind end inside may too

with_end-may_be : (machine : Machine) (kind : Kind) (last : Bool) (frame : Frame) (inside : List Choice)
    → AllMayBe kind inside →
    AllMayBe kind (with_end machine kind last frame inside)
with_end-may_be machine BeginEnd last frame inside all =
    in_order-may_be BeginEnd last (finish_choice machine frame) inside
    (choice_of-may_be BeginEnd OfEnd (finish_of machine (rule_at machine frame.rule).finish frame.end_text) tt) all
with_end-may_be machine Match last frame inside all = all
with_end-may_be machine BeginWhile last frame inside all = all
with_end-may_be machine Group last frame inside all = all

pub choices-may_be : (machine : Machine) (frame : Frame)
    → AllMayBe (rule_at machine frame.rule).kind (choices machine frame)
choices-may_be machine frame =
    with_end-may_be machine (rule_at machine frame.rule).kind (rule_at machine frame.rule).finish_last frame
    (rule_choices machine (rule_at machine frame.rule).active)
    (rule_choices-may_be (rule_at machine frame.rule).kind machine (rule_at machine frame.rule).active)

-- what the while pattern of a frame finds
pub while-there : (machine : Machine) (text : List ℕ) (state : State) (frame : Frame) → state.place ≤ length text →
    IfAt BeginEnd state.place (length text) (while_found machine text state frame)
while-there machine text state frame there =
    scan-there BeginEnd (sight machine text state) (finish_choice machine frame)
    (choice_of-may_be BeginEnd OfEnd (finish_of machine (rule_at machine frame.rule).finish frame.end_text) tt) there

-- ---- injections

abbrev pub IfKept : Kind → (place chars : ℕ) → Option Kept → Type 0
IfKept kind place chars None = Unit {0}
IfKept kind place chars (Some kept) = IsThere kind place chars kept.matched

abbrev pub IfKeeps : Kind → (place chars : ℕ) → Injected → Type 0
IfKeeps kind place chars InjectedSpent = Unit {0}
IfKeeps kind place chars (Keeps kept) = IfKept kind place chars kept

module _ (kind : Kind) (place chars : ℕ) where
  kept_then-there : (here : Bool) (kept : Option Kept) (next : Option Kept → Injected) → IfKept kind place chars kept →
      ((k : Option Kept) → IfKept kind place chars k → IfKeeps kind place chars (next k))
      → IfKeeps kind place chars (kept_then here kept next)
  kept_then-there true kept next is goes = is
  kept_then-there false kept next is goes = goes kept is

  weighed-there : (earlier : Bool) (at : ℕ) (first : Bool) (m : Matched) (kept : Option Kept)
      (next : Option Kept → Injected) →
      IsThere kind place chars m → IfKept kind place chars kept →
      ((k : Option Kept) → IfKept kind place chars k → IfKeeps kind place chars (next k))
      → IfKeeps kind place chars (weighed earlier at first m kept next)
  weighed-there true at first m kept next there is goes =
      kept_then-there (m.from == at) (Some (record { matched = m; goes_first = first })) next there goes
  weighed-there false at first m kept next there is goes = goes kept is

  after_one-there : (s : Sight) (found : Found) (first : Bool) (kept : Option Kept) (next : Option Kept → Injected) →
      IfAt kind place chars found → IfKept kind place chars kept →
      ((k : Option Kept) → IfKept kind place chars k → IfKeeps kind place chars (next k))
      → IfKeeps kind place chars (after_one s found first kept next)
  after_one-there s Nothing first kept next there is goes = goes kept is
  after_one-there s OutOfBudget first kept next there is goes = tt
  after_one-there s (At m) first kept next there is goes =
      weighed-there (is_earlier m kept) s.place first m kept next there is goes

  decided-there : (found : Found) (injected : Injected) → IfAt kind place chars found
      → IfKeeps kind place chars injected →
      IfAt kind place chars (decided found injected)
  decided-there Nothing InjectedSpent there is = tt
  decided-there OutOfBudget InjectedSpent there is = tt
  decided-there (At m) InjectedSpent there is = tt
  decided-there Nothing (Keeps None) there is = tt
  decided-there OutOfBudget (Keeps None) there is = tt
  decided-there (At m) (Keeps None) there is = there
  decided-there Nothing (Keeps (Some kept)) there is = is
  decided-there OutOfBudget (Keeps (Some kept)) there is = is
  decided-there (At m) (Keeps (Some kept)) there is =
      elim (wins kept m) as (λ b. IfAt kind place chars (cond b (At kept.matched) (At m))) [ true ↦ is | false ↦ there ]

scan_where-there : (kind : Kind) (holds : Bool) (machine : Machine) (s : Sight) (numbers : List ℕ)
    → s.place ≤ length s.text →
    IfAt kind s.place (length s.text) (scan_where holds machine s numbers)
scan_where-there kind true machine s numbers there =
    scan-there kind s (rule_choices machine numbers) (rule_choices-may_be kind machine numbers) there
scan_where-there kind false machine s numbers there = tt

injected-there : (kind : Kind) (machine : Machine) (s : Sight) (scopes : Scopes) (is : List Injection)
    (kept : Option Kept) →
    s.place ≤ length s.text → IfKept kind s.place (length s.text) kept
    → IfKeeps kind s.place (length s.text) (injected machine s scopes is kept)
injected-there kind machine s scopes [] kept there k = k
injected-there kind machine s scopes (i ∷ is) kept there k =
    after_one-there kind s.place (length s.text) s (scan_where (i.holds scopes) machine s i.rules) i.goes_first kept
    (injected machine s scopes is)
    (scan_where-there kind (i.holds scopes) machine s i.rules there) k
    (λ next is_next. injected-there kind machine s scopes is next there is_next)

with_injections-there : (kind : Kind) (machine : Machine) (s : Sight) (scopes : Scopes) (found : Found)
    → s.place ≤ length s.text →
    IfAt kind s.place (length s.text) found → IfAt kind s.place (length s.text) (with_injections machine s scopes found)
with_injections-there kind machine s scopes OutOfBudget there is = tt
with_injections-there kind machine s scopes Nothing there is =
    decided-there kind s.place (length s.text) Nothing (injected machine s scopes machine.injections None) is
    (injected-there kind machine s scopes machine.injections None there tt)
with_injections-there kind machine s scopes (At m) there is =
    decided-there kind s.place (length s.text) (At m) (injected machine s scopes machine.injections None) is
    (injected-there kind machine s scopes machine.injections None there tt)

-- what a turn's search finds
pub search-there : (machine : Machine) (text : List ℕ) (state : State) → state.place ≤ length text →
    IfAt (rule_at machine state.stack.top.rule).kind state.place (length text) (search machine text state)
search-there machine text state there =
    let kind : Kind = (rule_at machine state.stack.top.rule).kind in
    with_injections-there kind machine (sight machine text state) state.stack.top.content
    (ordinary machine text state) there
    (scan-there kind (sight machine text state) (choices machine state.stack.top)
    (choices-may_be machine state.stack.top) there)

-- ---- where a match lies

lies-there : (kind : Kind) (place chars : ℕ) (m : Matched) (found : Found) → found ≡ At m →
    IfAt kind place chars found → LiesIn place chars m
lies-there kind place chars m found e there = by_match (subst (IfAt kind place chars) e there)
  where
    by_match : IsThere kind place chars m → LiesIn place chars m
    by_match is = record { begins = is.begins; goes = is.goes; ends = is.ends; parts = is.parts }

all-may_be : (choices : List Choice) → AllMayBe BeginEnd choices
all-may_be [] = tt
all-may_be (choice ∷ choices) = (any-may_be choice.of, all-may_be choices)
  where
    any-may_be : (of : Of) → MayBe BeginEnd of
    any-may_be OfEnd = tt
    any-may_be (OfRule number) = tt

pub scan-lies : (s : Sight) (choices : List Choice) (m : Matched) → s.place ≤ length s.text → scan s choices ≡ At m →
    LiesIn s.place (length s.text) m
scan-lies s choices m there e =
    lies-there BeginEnd s.place (length s.text) m (scan s choices) e
    (scan-there BeginEnd s choices (all-may_be choices) there)

pub search-lies : (machine : Machine) (text : List ℕ) (state : State) (m : Matched) → state.place ≤ length text →
    search machine text state ≡ At m → LiesIn state.place (length text) m
search-lies machine text state m there e =
    lies-there (rule_at machine state.stack.top.rule).kind state.place (length text) m (search machine text state) e
    (search-there machine text state there)
