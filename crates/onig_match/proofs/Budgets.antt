-- An attempt that isn't spent ends the same with more visits, and then has as many more left.
use Rattle.std.proofs.Common.{◌≡◌, ◌≢◌, ℕ, zero, suc, ◌+◌, ◌-◌, ◌≤◌, List, [], ◌∷◌, map, replicate, refl, arith}
use Rattle.std.specs.Prelude.{Bool, true, false, Option, Some, None, nat_le, slice_get, slice_set}
use Rattle.char_sets.specs.Ranges.{in_set}
use Rattle.pattern_defs.specs.declared.nodes.Arm.{Arm}
use Rattle.pattern_defs.specs.declared.nodes.PatNode.TheVariants.{One, At, Choice, Group, Repeat, Ahead, Behind}
use Rattle.pattern_defs.specs.declared.nodes.PatNode.TheVariants.{Atomic, Back}
use Rattle.pattern_defs.specs.declared.outcomes.Flags.{Flags}
use Rattle.pattern_defs.specs.declared.outcomes.Outcome.TheVariants as outcomes
use Rattle.pattern_defs.specs.declared.outcomes.Place.{Place}
use Rattle.pattern_defs.specs.Patterns.{Tree}
use Rattle.pattern_defs.specs.Attempt.{Subject, Captures, Todo, Node, Close, Again, Ran, Hit, Miss, Spent, Going}
use Rattle.pattern_defs.specs.Attempt.{before, or_else, where_holds, tries, is_char, holds_at, looked, arms_run}
use Rattle.pattern_defs.specs.Attempt.{kept_whole, capture_of, stands_again, backs, act, go_on, with_whole, attempt}
use Rattle.pattern_defs.specs.Attempt.{outcome_of, last_hit_captures}
use Rattle.onig_match.proofs.VisitCounts.{left_of, Lowers, where_holds-lowers, arms_run-lowers, go_on-lowers}

-- the other ends the same with so many more left, unless the one is spent
abbrev pub IsSameWith : ℕ → Ran → Ran → Type 0
IsSameWith more (Hit at captures left) other = other ≡ Hit at captures (left + more)
IsSameWith more (Miss left) other = other ≡ Miss (left + more)
IsSameWith more Spent other = Unit {0}

-- two ways to go on end so, where the one has so many visits left at most and the other so many more
record Widens (go other : Going) (more most : ℕ) : Type 0 where
  widens : (todo : List Todo) (at : ℕ) (captures : Captures) (left : ℕ) → left ≤ most →
      IsSameWith more (go todo at captures left) (other todo at captures (left + more))

or_else-wide : (more most : ℕ) (ran other : Ran) (next next' : ℕ → Ran) → IsSameWith more ran other
    → left_of ran ≤ most →
    ((left : ℕ) → left ≤ most → IsSameWith more (next left) (next' (left + more))) →
    IsSameWith more (or_else ran next) (or_else other next')
or_else-wide more most (Hit at captures left) other next next' e h same = rw e refl
or_else-wide more most (Miss left) other next next' e h same = rw e (same left h)
or_else-wide more most Spent other next next' e h same = tt

where_holds-wide : (more most : ℕ) (b : Bool) (go other : Going) (todo : List Todo) (at : ℕ) (captures : Captures)
    (left : ℕ) →
    Widens go other more most → left ≤ most →
    IsSameWith more (where_holds b go todo at captures left) (where_holds b other todo at captures (left + more))
where_holds-wide more most true go other todo at captures left w h = w.widens todo at captures left h
where_holds-wide more most false go other todo at captures left w h = refl

tries-wide : (more most : ℕ) (go other : Going) (ways : List (List Todo)) (at : ℕ) (captures : Captures) (left : ℕ) →
    Widens go other more most → Lowers go → left ≤ most →
    IsSameWith more (tries go ways at captures left) (tries other ways at captures (left + more))
tries-wide more most go other [] at captures left w l h = refl
tries-wide more most go other (todo ∷ ways) at captures left w l h =
    or_else-wide more most (go todo at captures left) (other todo at captures (left + more))
    (λ rest. tries go ways at captures rest) (λ rest. tries other ways at captures rest)
    (w.widens todo at captures left h) (omega (arith, l.lowers todo at captures left))
    (λ rest k. tries-wide more most go other ways at captures rest w l k)

arms_run-wide : (s : Subject) (more most : ℕ) (go other : Going) (arms : List Arm) (at : ℕ) (captures : Captures)
    (left : ℕ) →
    Widens go other more most → Lowers go → left ≤ most →
    IsSameWith more (arms_run s go arms at captures left) (arms_run s other arms at captures (left + more))
arms_run-wide s more most go other [] at captures left w l h = refl
arms_run-wide s more most go other (arm ∷ arms) at captures left w l h =
    or_else-wide more most
    (where_holds (nat_le arm.length at) go (before s.lists arm.body []) (at - arm.length) captures left)
    (where_holds (nat_le arm.length at) other (before s.lists arm.body []) (at - arm.length) captures (left + more))
    (λ rest. arms_run s go arms at captures rest) (λ rest. arms_run s other arms at captures rest)
    (where_holds-wide more most (nat_le arm.length at) go other (before s.lists arm.body []) (at - arm.length)
    captures left w h)
    (omega (
      arith,
      where_holds-lowers (nat_le arm.length at) go (before s.lists arm.body []) (at - arm.length)
          captures left l,
    ))
    (λ rest k. arms_run-wide s more most go other arms at captures rest w l k)

looked-wide : (more most : ℕ) (wanted : Bool) (ran other_ran : Ran) (go other : Going) (rest : List Todo) (at : ℕ)
    (captures : Captures) →
    Widens go other more most → IsSameWith more ran other_ran → left_of ran ≤ most →
    IsSameWith more (looked wanted ran go rest at captures) (looked wanted other_ran other rest at captures)
looked-wide more most true (Hit end seen left) other_ran go other rest at captures w e h =
    rw e (w.widens rest at seen left h)
looked-wide more most true (Miss left) other_ran go other rest at captures w e h = rw e refl
looked-wide more most true Spent other_ran go other rest at captures w e h = tt
looked-wide more most false (Hit end seen left) other_ran go other rest at captures w e h = rw e refl
looked-wide more most false (Miss left) other_ran go other rest at captures w e h =
    rw e (w.widens rest at captures left h)
looked-wide more most false Spent other_ran go other rest at captures w e h = tt

kept_whole-wide : (more most : ℕ) (ran other_ran : Ran) (go other : Going) (rest : List Todo) →
    Widens go other more most → IsSameWith more ran other_ran → left_of ran ≤ most →
    IsSameWith more (kept_whole ran go rest) (kept_whole other_ran other rest)
kept_whole-wide more most (Hit end seen left) other_ran go other rest w e h = rw e (w.widens rest end seen left h)
kept_whole-wide more most (Miss left) other_ran go other rest w e h = rw e refl
kept_whole-wide more most Spent other_ran go other rest w e h = tt

backs-wide : (s : Subject) (more most : ℕ) (go other : Going) (taken : Option Place) (fold : Bool) (rest : List Todo)
    (at : ℕ) (captures : Captures) (left : ℕ) →
    Widens go other more most → left ≤ most →
    IsSameWith more (backs s go taken fold rest at captures left)
    (backs s other taken fold rest at captures (left + more))
backs-wide s more most go other None fold rest at captures left w h = refl
backs-wide s more most go other (Some taken) fold rest at captures left w h =
    where_holds-wide more most (stands_again fold s.text taken at) go other rest (at + (taken.to - taken.from))
    captures left w h

act-wide : (s : Subject) (more : ℕ) (go other : Going) (first : Todo) (rest : List Todo) (at : ℕ)
    (captures : Captures) (left : ℕ) →
    Widens go other more left → Lowers go →
    IsSameWith more (act s go first rest at captures left) (act s other first rest at captures (left + more))
act-wide s more go other (Node (One set)) rest at captures left w l =
    where_holds-wide more left (is_char (in_set set) (slice_get s.text at)) go other rest (at + 1) captures left w
    (omega arith)
act-wide s more go other (Node (At anchor)) rest at captures left w l =
    where_holds-wide more left (holds_at anchor s at) go other rest at captures left w (omega arith)
act-wide s more go other (Node (Choice ids)) rest at captures left w l =
    tries-wide more left go other (map (λ id. before s.lists id rest) ids) at captures left w l (omega arith)
act-wide s more go other (Node (Group number body)) rest at captures left w l =
    w.widens (before s.lists body (Close number at ∷ rest)) at captures left (omega arith)
act-wide s more go other (Node (Repeat body least most greedy)) rest at captures left w l =
    tries-wide more left go other _ at captures left w l (omega arith)
act-wide s more go other (Node (Ahead body wanted)) rest at captures left w l =
    looked-wide more left wanted (go (before s.lists body []) at captures left)
    (other (before s.lists body []) at captures (left + more)) go other rest at captures
    w (w.widens (before s.lists body []) at captures left (omega arith))
    (l.lowers (before s.lists body []) at captures left)
act-wide s more go other (Node (Behind arms wanted)) rest at captures left w l =
    looked-wide more left wanted (arms_run s go arms at captures left)
    (arms_run s other arms at captures (left + more)) go other rest at captures
    w (arms_run-wide s more left go other arms at captures left w l (omega arith))
    (arms_run-lowers s go arms at captures left l)
act-wide s more go other (Node (Atomic body)) rest at captures left w l =
    kept_whole-wide more left (go (before s.lists body []) at captures left)
    (other (before s.lists body []) at captures (left + more)) go other rest
    w (w.widens (before s.lists body []) at captures left (omega arith))
    (l.lowers (before s.lists body []) at captures left)
act-wide s more go other (Node (Back number fold)) rest at captures left w l =
    backs-wide s more left go other (capture_of captures number) fold rest at captures left w (omega arith)
act-wide s more go other (Close number from) rest at captures left w l =
    w.widens rest at (slice_set captures number (Some (record { from = from; to = at }))) left (omega arith)
act-wide s more go other (Again body least most greedy count begun) rest at captures left w l =
    tries-wide more left go other _ at captures left w l (omega arith)

go_on-wide : (s : Subject) (f g more : ℕ) (todo : List Todo) (at : ℕ) (captures : Captures) (left : ℕ)
    → left + more ≤ g →
    IsSameWith more (go_on s f todo at captures left) (go_on s g todo at captures (left + more))
unfolding go_on
go_on-wide s zero g more todo at captures left h = tt
go_on-wide s (suc f) g more todo at captures zero h = tt
go_on-wide s (suc f) zero more todo at captures (suc left) h = absurd (omega arith)
go_on-wide s (suc f) (suc g) more [] at captures (suc left) h =
    let next : suc left + more ≡ suc (left + more) = omega arith in
    rw next refl
go_on-wide s (suc f) (suc g) more (first ∷ rest) at captures (suc left) h =
    let next : suc left + more ≡ suc (left + more) = omega arith in
    rw next (act-wide s more (go_on s f) (go_on s g) first rest at captures left
    (record { widens = λ todo at' captures' left' low. go_on-wide s f g more todo at' captures' left' (omega arith) })
    (go_on-lowers s f))

-- the whole attempt

whole-wide : (more at : ℕ) (ran other : Ran) → IsSameWith more ran other
    → IsSameWith more (with_whole at ran) (with_whole at other)
whole-wide more at (Hit end captures left) other e = rw e refl
whole-wide more at (Miss left) other e = rw e refl
whole-wide more at Spent other e = tt

pub attempt-wide : (tree : Tree) (text : List ℕ) (at : ℕ) (flags : Flags) (budget more : ℕ) →
    IsSameWith more (attempt tree text at flags budget) (attempt tree text at flags (budget + more))
attempt-wide tree text at flags budget more =
    let s : Subject = record { lists = tree.lists; text = text; flags = flags } in
    whole-wide more at (go_on s budget (before tree.lists tree.top []) at (replicate (tree.groups + 1) None) budget)
    (go_on s (budget + more) (before tree.lists tree.top []) at (replicate (tree.groups + 1) None) (budget + more))
    (go_on-wide s budget (budget + more) more (before tree.lists tree.top []) at (replicate (tree.groups + 1) None)
    budget (omega arith))

pub same_outcome : (more : ℕ) (ran other : Ran) → IsSameWith more ran other → outcome_of ran ≢ outcomes.Spent →
    outcome_of other ≡ outcome_of ran
same_outcome more (Hit at captures left) other e told = rw e refl
same_outcome more (Miss left) other e told = rw e refl
same_outcome more Spent other e told = absurd (told refl)

pub same_captures : (more : ℕ) (ran other : Ran) (last : Captures) → IsSameWith more ran other →
    outcome_of ran ≢ outcomes.Spent → last_hit_captures other last ≡ last_hit_captures ran last
same_captures more (Hit at captures left) other last e told = rw e refl
same_captures more (Miss left) other last e told = rw e refl
same_captures more Spent other last e told = absurd (told refl)
