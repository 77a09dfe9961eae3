-- What groups take are parts of the text: an attempt ends where it begins or behind that, so a group that is still to
-- end began at the present place or before it.
use Rattle.std.proofs.Common.{◌≡◌, ℕ, zero, suc, ◌+◌, ◌-◌, ◌≤◌, List, [], ◌∷◌, ◌++◌, length, map, replicate, refl}
use Rattle.std.proofs.Common.{arith}
use Rattle.std.specs.Prelude.{Bool, true, false, ◌&&◌, ◌==◌, Option, Some, None, IfSome, IsSomeAnd, nat_lt, nat_le}
use Rattle.std.specs.Prelude.{slice_get, slice_set}
use Rattle.std.proofs.lemmas.List.{length-replicate, length-set}
use Rattle.char_sets.specs.Ranges.{in_set}
use Rattle.pattern_defs.specs.declared.nodes.ListId.{ListId}
use Rattle.pattern_defs.specs.declared.nodes.Arm.{Arm}
use Rattle.pattern_defs.specs.declared.nodes.PatNode.{PatNode}
use Rattle.pattern_defs.specs.declared.nodes.PatNode.TheVariants.{One, At, Choice, Group, Repeat, Ahead, Behind}
use Rattle.pattern_defs.specs.declared.nodes.PatNode.TheVariants.{Atomic, Back}
use Rattle.pattern_defs.specs.declared.outcomes.Flags.{Flags}
use Rattle.pattern_defs.specs.declared.outcomes.Outcome.TheVariants as outcomes
use Rattle.pattern_defs.specs.declared.outcomes.Place.{Place}
use Rattle.pattern_defs.specs.Patterns.{NodeLists, Tree, nodes_of}
use Rattle.pattern_defs.specs.Attempt.{Subject, Captures, Todo, Node, Close, Again, Ran, Hit, Miss, Spent, Going}
use Rattle.pattern_defs.specs.Attempt.{before, or_else, where_holds, tries, is_char, holds_at, is_greatest, in_order}
use Rattle.pattern_defs.specs.Attempt.{repeat_ways, looked, arms_run, kept_whole, capture_of, stands_again, backs}
use Rattle.pattern_defs.specs.Attempt.{act, look, go_on, with_whole, attempt, outcome_of, last_hit_captures}
use Rattle.onig_match.specs.Works.{IsPart}
use Rattle.onig_match.proofs.NodeSteps.{is_char_within, stands_within}

-- each group that is set took a part of a text of so many characters
abbrev pub AreParts : ℕ → Captures → Type 0
AreParts chars [] = Unit {0}
AreParts chars (taken ∷ captures) = IfSome taken (IsPart chars) × AreParts chars captures

pub record IsKept (chars groups : ℕ) (captures : Captures) : Type 0 where
  pub count : length captures ≡ groups
  pub parts : AreParts chars captures

-- an attempt that hits ends at a place or behind it, with such captures
abbrev pub EndsWell : ℕ → ℕ → ℕ → Ran → Type 0
EndsWell chars groups from (Hit at captures left) = (from ≤ at) × (at ≤ chars) × IsKept chars groups captures
EndsWell chars groups from (Miss left) = Unit {0}
EndsWell chars groups from Spent = Unit {0}

-- the groups that are still to end began at this place or before it
abbrev pub IsOpen : ℕ → Todo → Type 0
IsOpen at (Node node) = Unit {0}
IsOpen at (Close number from) = from ≤ at
IsOpen at (Again body least most greedy count begun) = Unit {0}

abbrev pub AreOpen : ℕ → List Todo → Type 0
AreOpen at [] = Unit {0}
AreOpen at (first ∷ rest) = IsOpen at first × AreOpen at rest

abbrev pub AllOpen : ℕ → List (List Todo) → Type 0
AllOpen at [] = Unit {0}
AllOpen at (todo ∷ ways) = AreOpen at todo × AllOpen at ways

-- a way to go on that ends so from wherever it may begin
record Keeps (s : Subject) (groups : ℕ) (go : Going) : Type 0 where
  keeps : (todo : List Todo) (at : ℕ) (captures : Captures) (left : ℕ) → at ≤ length s.text → AreOpen at todo →
      IsKept (length s.text) groups captures → EndsWell (length s.text) groups at (go todo at captures left)

-- captures

AreParts-set : (chars : ℕ) (captures : Captures) (n : ℕ) (taken : Place) → AreParts chars captures
    → IsPart chars taken →
    AreParts chars (slice_set captures n (Some taken))
AreParts-set chars [] n taken are is = tt
AreParts-set chars (x ∷ xs) zero taken are is = (is, are.1)
AreParts-set chars (x ∷ xs) (suc n) taken are is = (are.0, AreParts-set chars xs n taken are.1 is)

AreParts-capture : (chars : ℕ) (captures : Captures) (n : ℕ) → AreParts chars captures →
    IfSome (capture_of captures n) (IsPart chars)
AreParts-capture chars [] n are = tt
AreParts-capture chars (x ∷ xs) zero are = are.0
AreParts-capture chars (x ∷ xs) (suc n) are = AreParts-capture chars xs n are.1

AreParts-none : (chars n : ℕ) → AreParts chars (replicate n None)
AreParts-none chars zero = tt
AreParts-none chars (suc n) = (tt, AreParts-none chars n)

IsKept-set : (chars groups : ℕ) (captures : Captures) (n : ℕ) (taken : Place) → IsKept chars groups captures →
    IsPart chars taken → IsKept chars groups (slice_set captures n (Some taken))
IsKept-set chars groups captures n taken kept is = record {
  count = rw (length-set captures n (Some taken)) kept.count;
  parts = AreParts-set chars captures n taken kept.parts is;
}

-- what is still to match

IsOpen-later : (a b : ℕ) (first : Todo) → a ≤ b → IsOpen a first → IsOpen b first
IsOpen-later a b (Node node) h is = tt
IsOpen-later a b (Close number from) h is = omega arith
IsOpen-later a b (Again body least most greedy count begun) h is = tt

AreOpen-later : (a b : ℕ) (todo : List Todo) → a ≤ b → AreOpen a todo → AreOpen b todo
AreOpen-later a b [] h are = tt
AreOpen-later a b (first ∷ rest) h are = (IsOpen-later a b first h are.0, AreOpen-later a b rest h are.1)

AreOpen-nodes : (at : ℕ) (nodes : List PatNode) (rest : List Todo) → AreOpen at rest
    → AreOpen at (map Node nodes ++ rest)
AreOpen-nodes at [] rest are = are
AreOpen-nodes at (node ∷ nodes) rest are = (tt, AreOpen-nodes at nodes rest are)

AreOpen-before : (at : ℕ) (lists : NodeLists) (id : ListId) (rest : List Todo) → AreOpen at rest →
    AreOpen at (before lists id rest)
AreOpen-before at lists id rest are = AreOpen-nodes at (nodes_of lists id) rest are

AllOpen-choice : (at : ℕ) (lists : NodeLists) (ids : List ListId) (rest : List Todo) → AreOpen at rest →
    AllOpen at (map (λ id. before lists id rest) ids)
AllOpen-choice at lists [] rest are = tt
AllOpen-choice at lists (id ∷ ids) rest are =
    (AreOpen-before at lists id rest are, AllOpen-choice at lists ids rest are)

AllOpen-order : (at : ℕ) (greedy : Bool) (more rest : List Todo) → AreOpen at more → AreOpen at rest →
    AllOpen at (in_order greedy more rest)
AllOpen-order at true more rest m r = (m, (r, tt))
AllOpen-order at false more rest m r = (r, (m, tt))

AllOpen-repeat : (at : ℕ) (stuck below greatest greedy : Bool) (more rest : List Todo) → AreOpen at more →
    AreOpen at rest → AllOpen at (repeat_ways stuck below greatest greedy more rest)
AllOpen-repeat at true below greatest greedy more rest m r = (r, tt)
AllOpen-repeat at false true greatest greedy more rest m r = (m, tt)
AllOpen-repeat at false false true greedy more rest m r = (r, tt)
AllOpen-repeat at false false false greedy more rest m r = AllOpen-order at greedy more rest m r

-- how an attempt ends, by what is done in it

EndsWell-later : (chars groups a b : ℕ) (ran : Ran) → a ≤ b → EndsWell chars groups b ran → EndsWell chars groups a ran
EndsWell-later chars groups a b (Hit at captures left) h w = (omega (arith, w.0), w.1, w.2)
EndsWell-later chars groups a b (Miss left) h w = tt
EndsWell-later chars groups a b Spent h w = tt

or_else-keeps : (chars groups from : ℕ) (ran : Ran) (next : ℕ → Ran) → EndsWell chars groups from ran →
    ((left : ℕ) → EndsWell chars groups from (next left)) → EndsWell chars groups from (or_else ran next)
or_else-keeps chars groups from (Hit at captures left) next w more = w
or_else-keeps chars groups from (Miss left) next w more = more left
or_else-keeps chars groups from Spent next w more = tt

where_holds-keeps : (chars groups from : ℕ) (b : Bool) (go : Going) (todo : List Todo) (at : ℕ) (captures : Captures)
    (left : ℕ) →
    (b ≡ true → EndsWell chars groups from (go todo at captures left)) →
    EndsWell chars groups from (where_holds b go todo at captures left)
where_holds-keeps chars groups from true go todo at captures left w = w refl
where_holds-keeps chars groups from false go todo at captures left w = tt

tries-keeps : (s : Subject) (groups : ℕ) (go : Going) (ways : List (List Todo)) (at : ℕ) (captures : Captures)
    (left : ℕ) →
    Keeps s groups go → at ≤ length s.text → AllOpen at ways → IsKept (length s.text) groups captures →
    EndsWell (length s.text) groups at (tries go ways at captures left)
tries-keeps s groups go [] at captures left k there are kept = tt
tries-keeps s groups go (todo ∷ ways) at captures left k there are kept =
    or_else-keeps (length s.text) groups at (go todo at captures left) (λ rest. tries go ways at captures rest)
    (k.keeps todo at captures left there are.0 kept)
    (λ rest. tries-keeps s groups go ways at captures rest k there are.1 kept)

arms_run-keeps : (s : Subject) (groups : ℕ) (go : Going) (arms : List Arm) (at : ℕ) (captures : Captures) (left : ℕ) →
    Keeps s groups go → at ≤ length s.text → IsKept (length s.text) groups captures →
    EndsWell (length s.text) groups 0 (arms_run s go arms at captures left)
arms_run-keeps s groups go [] at captures left k there kept = tt
arms_run-keeps s groups go (arm ∷ arms) at captures left k there kept =
    or_else-keeps (length s.text) groups 0
    (where_holds (nat_le arm.length at) go (before s.lists arm.body []) (at - arm.length) captures left)
    (λ rest. arms_run s go arms at captures rest)
    (where_holds-keeps (length s.text) groups 0 (nat_le arm.length at) go (before s.lists arm.body [])
    (at - arm.length) captures left
    (λ _. EndsWell-later (length s.text) groups 0 (at - arm.length)
    (go (before s.lists arm.body []) (at - arm.length) captures left) (omega arith)
    (k.keeps (before s.lists arm.body []) (at - arm.length) captures left (omega arith)
    (AreOpen-before (at - arm.length) s.lists arm.body [] tt) kept)))
    (λ rest. arms_run-keeps s groups go arms at captures rest k there kept)

looked-keeps : (s : Subject) (groups : ℕ) (wanted : Bool) (ran : Ran) (go : Going) (rest : List Todo) (at : ℕ)
    (captures : Captures) →
    Keeps s groups go → EndsWell (length s.text) groups 0 ran → at ≤ length s.text → AreOpen at rest →
    IsKept (length s.text) groups captures → EndsWell (length s.text) groups at (looked wanted ran go rest at captures)
looked-keeps s groups true (Hit end seen left) go rest at captures k w there are kept =
    k.keeps rest at seen left there are w.2
looked-keeps s groups true (Miss left) go rest at captures k w there are kept = tt
looked-keeps s groups true Spent go rest at captures k w there are kept = tt
looked-keeps s groups false (Hit end seen left) go rest at captures k w there are kept = tt
looked-keeps s groups false (Miss left) go rest at captures k w there are kept =
    k.keeps rest at captures left there are kept
looked-keeps s groups false Spent go rest at captures k w there are kept = tt

kept_whole-keeps : (s : Subject) (groups : ℕ) (ran : Ran) (go : Going) (rest : List Todo) (at : ℕ) →
    Keeps s groups go → EndsWell (length s.text) groups at ran → AreOpen at rest →
    EndsWell (length s.text) groups at (kept_whole ran go rest)
kept_whole-keeps s groups (Hit end seen left) go rest at k w are =
    EndsWell-later (length s.text) groups at end (go rest end seen left) w.0
    (k.keeps rest end seen left w.1 (AreOpen-later at end rest w.0 are) w.2)
kept_whole-keeps s groups (Miss left) go rest at k w are = tt
kept_whole-keeps s groups Spent go rest at k w are = tt

-- going on at a place behind this one
goes_later : (s : Subject) (groups : ℕ) (go : Going) (rest : List Todo) (at to : ℕ) (captures : Captures) (left : ℕ) →
    Keeps s groups go → at ≤ to → to ≤ length s.text → AreOpen at rest → IsKept (length s.text) groups captures →
    EndsWell (length s.text) groups at (go rest to captures left)
goes_later s groups go rest at to captures left k h there are kept =
    EndsWell-later (length s.text) groups at to (go rest to captures left) h
    (k.keeps rest to captures left there (AreOpen-later at to rest h are) kept)

backs-keeps : (s : Subject) (groups : ℕ) (go : Going) (taken : Option Place) (fold : Bool) (rest : List Todo) (at : ℕ)
    (captures : Captures) (left : ℕ) →
    Keeps s groups go → at ≤ length s.text → AreOpen at rest → IsKept (length s.text) groups captures →
    IfSome taken (IsPart (length s.text)) →
    EndsWell (length s.text) groups at (backs s go taken fold rest at captures left)
backs-keeps s groups go None fold rest at captures left k there are kept is = tt
backs-keeps s groups go (Some taken) fold rest at captures left k there are kept is =
    where_holds-keeps (length s.text) groups at (stands_again fold s.text taken at) go rest
    (at + (taken.to - taken.from)) captures left
    (λ stands. goes_later s groups go rest at (at + (taken.to - taken.from)) captures left k (omega arith)
    (stands_within fold s.text taken at is.1 there stands) are kept)

act-keeps : (s : Subject) (groups : ℕ) (go : Going) (first : Todo) (rest : List Todo) (at : ℕ) (captures : Captures)
    (left : ℕ) →
    Keeps s groups go → at ≤ length s.text → IsOpen at first → AreOpen at rest
    → IsKept (length s.text) groups captures →
    EndsWell (length s.text) groups at (act s go first rest at captures left)
act-keeps s groups go (Node (One set)) rest at captures left k there is are kept =
    where_holds-keeps (length s.text) groups at (is_char (in_set set) (slice_get s.text at)) go rest (at + 1) captures
    left
    (λ e. goes_later s groups go rest at (at + 1) captures left k (omega arith)
    (is_char_within (in_set set) s.text at e) are kept)
act-keeps s groups go (Node (At anchor)) rest at captures left k there is are kept =
    where_holds-keeps (length s.text) groups at (holds_at anchor s at) go rest at captures left
    (λ _. k.keeps rest at captures left there are kept)
act-keeps s groups go (Node (Choice ids)) rest at captures left k there is are kept =
    tries-keeps s groups go (map (λ id. before s.lists id rest) ids) at captures left k there
    (AllOpen-choice at s.lists ids rest are) kept
act-keeps s groups go (Node (Group number body)) rest at captures left k there is are kept =
    k.keeps (before s.lists body (Close number at ∷ rest)) at captures left there
    (AreOpen-before at s.lists body (Close number at ∷ rest) (omega arith, are)) kept
act-keeps s groups go (Node (Repeat body least most greedy)) rest at captures left k there is are kept =
    tries-keeps s groups go _ at captures left k there
    (AllOpen-repeat at (nat_lt 0 0 && (at == at)) (nat_lt 0 least) (is_greatest most 0) greedy
    (before s.lists body (Again body least most greedy (0 + 1) at ∷ rest)) rest
    (AreOpen-before at s.lists body (Again body least most greedy (0 + 1) at ∷ rest) (tt, are)) are) kept
act-keeps s groups go (Node (Ahead body wanted)) rest at captures left k there is are kept =
    looked-keeps s groups wanted (go (before s.lists body []) at captures left) go rest at captures k
    (EndsWell-later (length s.text) groups 0 at (go (before s.lists body []) at captures left) (omega arith)
    (k.keeps (before s.lists body []) at captures left there (AreOpen-before at s.lists body [] tt) kept))
    there are kept
act-keeps s groups go (Node (Behind arms wanted)) rest at captures left k there is are kept =
    looked-keeps s groups wanted (arms_run s go arms at captures left) go rest at captures k
    (arms_run-keeps s groups go arms at captures left k there kept) there are kept
act-keeps s groups go (Node (Atomic body)) rest at captures left k there is are kept =
    kept_whole-keeps s groups (go (before s.lists body []) at captures left) go rest at k
    (k.keeps (before s.lists body []) at captures left there (AreOpen-before at s.lists body [] tt) kept) are
act-keeps s groups go (Node (Back number fold)) rest at captures left k there is are kept =
    backs-keeps s groups go (capture_of captures number) fold rest at captures left k there are kept
    (AreParts-capture (length s.text) captures number kept.parts)
act-keeps s groups go (Close number from) rest at captures left k there is are kept =
    k.keeps rest at (slice_set captures number (Some (record { from = from; to = at }))) left there are
    (IsKept-set (length s.text) groups captures number (record { from = from; to = at }) kept (is, there))
act-keeps s groups go (Again body least most greedy count begun) rest at captures left k there is are kept =
    tries-keeps s groups go _ at captures left k there
    (AllOpen-repeat at (nat_lt 0 count && (at == begun)) (nat_lt count least) (is_greatest most count) greedy
    (before s.lists body (Again body least most greedy (count + 1) at ∷ rest)) rest
    (AreOpen-before at s.lists body (Again body least most greedy (count + 1) at ∷ rest) (tt, are)) are) kept

look-keeps : (s : Subject) (groups : ℕ) (go : Going) (todo : List Todo) (at : ℕ) (captures : Captures) (left : ℕ) →
    Keeps s groups go → at ≤ length s.text → AreOpen at todo → IsKept (length s.text) groups captures →
    EndsWell (length s.text) groups at (look s go todo at captures left)
look-keeps s groups go todo at captures zero k there are kept = tt
look-keeps s groups go [] at captures (suc left) k there are kept = (omega arith, there, kept)
look-keeps s groups go (first ∷ rest) at captures (suc left) k there are kept =
    act-keeps s groups go first rest at captures left k there are.0 are.1 kept

go_on-keeps : (s : Subject) (groups fuel : ℕ) → Keeps s groups (go_on s fuel)
unfolding go_on
go_on-keeps s groups zero = record { keeps = λ todo at captures left there are kept. tt }
go_on-keeps s groups (suc fuel) = record {
  keeps = λ todo at captures left there are kept. look-keeps s groups (go_on s fuel) todo at captures left
      (go_on-keeps s groups fuel) there are kept;
}

-- the whole attempt

whole-keeps : (chars groups at : ℕ) (ran : Ran) → EndsWell chars groups at ran
    → EndsWell chars groups at (with_whole at ran)
whole-keeps chars groups at (Hit end captures left) w =
    (w.0, w.1, IsKept-set chars groups captures 0 (record { from = at; to = end }) w.2 (w.0, w.1))
whole-keeps chars groups at (Miss left) w = tt
whole-keeps chars groups at Spent w = tt

-- an attempt, before its whole match is set
abbrev begun : Tree → List ℕ → ℕ → Flags → ℕ → Ran
begun tree text at flags budget =
    go_on (record { lists = tree.lists; text = text; flags = flags }) budget (before tree.lists tree.top []) at
    (replicate (tree.groups + 1) None) budget

begun-keeps : (tree : Tree) (text : List ℕ) (at : ℕ) (flags : Flags) (budget : ℕ) → at ≤ length text →
    EndsWell (length text) (tree.groups + 1) at (begun tree text at flags budget)
begun-keeps tree text at flags budget there =
    let s : Subject = record { lists = tree.lists; text = text; flags = flags } in
    let none : IsKept (length text) (tree.groups + 1) (replicate (tree.groups + 1) None) = record {
      count = length-replicate {A = Option Place} (tree.groups + 1) None;
      parts = AreParts-none (length text) (tree.groups + 1);
    } in
    (go_on-keeps s (tree.groups + 1) budget).keeps
    (before tree.lists tree.top []) at (replicate (tree.groups + 1) None) budget there
    (AreOpen-before at tree.lists tree.top [] tt) none

hit_parts : (chars groups from : ℕ) (ran : Ran) (last : Captures) (n : ℕ) → EndsWell chars groups from ran →
    outcomes.Hit ≡ outcome_of ran → IfSome (capture_of (last_hit_captures ran last) n) (IsPart chars)
hit_parts chars groups from (Hit at captures left) last n w e = AreParts-capture chars captures n w.2.parts
hit_parts chars groups from (Miss left) last n w e = absurd (cc)
hit_parts chars groups from Spent last n w e = absurd (cc)

-- what each group took in a hit is a part of the text
pub captured_parts : (tree : Tree) (text : List ℕ) (at : ℕ) (flags : Flags) (budget : ℕ) (last : Captures)
    → at ≤ length text →
    outcomes.Hit ≡ outcome_of (attempt tree text at flags budget) → (n : ℕ) →
    IfSome (capture_of (last_hit_captures (attempt tree text at flags budget) last) n) (IsPart (length text))
captured_parts tree text at flags budget last there e n =
    hit_parts (length text) (tree.groups + 1) at (attempt tree text at flags budget) last n
    (whole-keeps (length text) (tree.groups + 1) at (begun tree text at flags budget)
    (begun-keeps tree text at flags budget there)) e

hit_begins : (chars groups at : ℕ) (ran : Ran) (last : Captures) → EndsWell chars (groups + 1) at ran →
    outcomes.Hit ≡ outcome_of (with_whole at ran) →
    IsSomeAnd (capture_of (last_hit_captures (with_whole at ran) last) 0) (λ place. place.from ≡ at)
hit_begins chars groups at (Hit end [] left) last w e = let none : 0 ≡ groups + 1 = w.2.count in absurd (omega arith)
hit_begins chars groups at (Hit end (x ∷ xs) left) last w e = refl
hit_begins chars groups at (Miss left) last w e = absurd (cc)
hit_begins chars groups at Spent last w e = absurd (cc)

-- the whole match of a hit begins at the place
pub captured_whole : (tree : Tree) (text : List ℕ) (at : ℕ) (flags : Flags) (budget : ℕ) (last : Captures)
    → at ≤ length text →
    outcomes.Hit ≡ outcome_of (attempt tree text at flags budget) →
    IsSomeAnd (capture_of (last_hit_captures (attempt tree text at flags budget) last) 0) (λ place. place.from ≡ at)
captured_whole tree text at flags budget last there e =
    hit_begins (length text) tree.groups at (begun tree text at flags budget) last
    (begun-keeps tree text at flags budget there) e
