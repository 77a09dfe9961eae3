-- An attempt takes at least a visit for each step, so that what bounds how deep it goes shows nowhere.
use Rattle.std.proofs.Common.{◌≡◌, ℕ, zero, suc, ◌+◌, ◌-◌, ◌≤◌, List, [], ◌∷◌, map, refl, sym, ◌∙◌, arith}
use Rattle.std.specs.Prelude.{Bool, true, false, Option, Some, None, nat_le, slice_get, slice_set}
use Rattle.char_sets.specs.Ranges.{in_set}
use Rattle.pattern_defs.specs.declared.nodes.Arm.{Arm}
use Rattle.pattern_defs.specs.declared.nodes.PatNode.TheVariants.{One, At, Choice, Group, Repeat, Ahead, Behind}
use Rattle.pattern_defs.specs.declared.nodes.PatNode.TheVariants.{Atomic, Back}
use Rattle.pattern_defs.specs.declared.outcomes.Place.{Place}
use Rattle.pattern_defs.specs.Attempt.{Subject, Captures, Todo, Node, Close, Again, Ran, Hit, Miss, Spent, Going}
use Rattle.pattern_defs.specs.Attempt.{before, or_else, where_holds, tries, is_char, holds_at, looked, arms_run}
use Rattle.pattern_defs.specs.Attempt.{kept_whole, capture_of, stands_again, backs, act, look, go_on}
use Rattle.onig_match.specs.Goes.{goes}

abbrev pub left_of : Ran → ℕ
left_of (Hit at captures left) = left
left_of (Miss left) = left
left_of Spent = 0

-- no more visits are left after it than before
pub record Lowers (go : Going) : Type 0 where
  pub lowers : (todo : List Todo) (at : ℕ) (captures : Captures) (left : ℕ) → left_of (go todo at captures left) ≤ left

-- two ways to go on are the same where so many visits are left at most
record Agrees (go other : Going) (most : ℕ) : Type 0 where
  same : (todo : List Todo) (at : ℕ) (captures : Captures) (left : ℕ) → left ≤ most → go todo at captures left
      ≡ other todo at captures left

or_else-lowers : (ran : Ran) (next : ℕ → Ran) (most : ℕ) → left_of ran ≤ most → ((left : ℕ) →
    left_of (next left) ≤ left) → left_of (or_else ran next) ≤ most
or_else-lowers (Hit at captures left) next most h lower = h
or_else-lowers (Miss left) next most h lower = omega (arith, lower left)
or_else-lowers Spent next most h lower = omega arith

or_else-same : (ran other : Ran) (next next' : ℕ → Ran) (most : ℕ) → ran ≡ other → left_of ran ≤ most →
    ((left : ℕ) → left ≤ most → next left ≡ next' left) → or_else ran next ≡ or_else other next'
or_else-same (Hit at captures left) other next next' most e h same = rw (← e) refl
or_else-same (Miss left) other next next' most e h same = rw (← e) (same left h)
or_else-same Spent other next next' most e h same = rw (← e) refl

pub where_holds-lowers : (b : Bool) (go : Going) (todo : List Todo) (at : ℕ) (captures : Captures) (left : ℕ) →
    Lowers go → left_of (where_holds b go todo at captures left) ≤ left
where_holds-lowers true go todo at captures left l = l.lowers todo at captures left
where_holds-lowers false go todo at captures left l = omega arith

where_holds-same : (b : Bool) (go other : Going) (most : ℕ) (todo : List Todo) (at : ℕ) (captures : Captures)
    (left : ℕ) → Agrees go other most → left ≤ most → where_holds b go todo at captures left
    ≡ where_holds b other todo at captures left
where_holds-same true go other most todo at captures left a h = a.same todo at captures left h
where_holds-same false go other most todo at captures left a h = refl

tries-lowers : (go : Going) (ways : List (List Todo)) (at : ℕ) (captures : Captures) (left : ℕ) → Lowers go →
    left_of (tries go ways at captures left) ≤ left
tries-lowers go [] at captures left l = omega arith
tries-lowers go (todo ∷ ways) at captures left l =
    or_else-lowers (go todo at captures left) (λ rest. tries go ways at captures rest) left
    (l.lowers todo at captures left)
    (λ rest. tries-lowers go ways at captures rest l)

tries-same : (go other : Going) (most : ℕ) (ways : List (List Todo)) (at : ℕ) (captures : Captures) (left : ℕ) →
    Agrees go other most → Lowers go → left ≤ most →
    tries go ways at captures left ≡ tries other ways at captures left
tries-same go other most [] at captures left a l h = refl
tries-same go other most (todo ∷ ways) at captures left a l h =
    or_else-same (go todo at captures left) (other todo at captures left) (λ rest. tries go ways at captures rest)
    (λ rest. tries other ways at captures rest) most
    (a.same todo at captures left h) (omega (arith, l.lowers todo at captures left))
    (λ rest k. tries-same go other most ways at captures rest a l k)

pub arms_run-lowers : (s : Subject) (go : Going) (arms : List Arm) (at : ℕ) (captures : Captures) (left : ℕ) →
    Lowers go → left_of (arms_run s go arms at captures left) ≤ left
arms_run-lowers s go [] at captures left l = omega arith
arms_run-lowers s go (arm ∷ arms) at captures left l =
    or_else-lowers (where_holds (nat_le arm.length at) go (before s.lists arm.body []) (at - arm.length) captures left)
    (λ rest. arms_run s go arms at captures rest) left
    (where_holds-lowers (nat_le arm.length at) go (before s.lists arm.body []) (at - arm.length) captures left l)
    (λ rest. arms_run-lowers s go arms at captures rest l)

arms_run-same : (s : Subject) (go other : Going) (most : ℕ) (arms : List Arm) (at : ℕ) (captures : Captures)
    (left : ℕ) → Agrees go other most → Lowers go → left ≤ most → arms_run s go arms at captures left
    ≡ arms_run s other arms at captures left
arms_run-same s go other most [] at captures left a l h = refl
arms_run-same s go other most (arm ∷ arms) at captures left a l h =
    or_else-same (where_holds (nat_le arm.length at) go (before s.lists arm.body []) (at - arm.length) captures left)
    (where_holds (nat_le arm.length at) other (before s.lists arm.body []) (at - arm.length) captures left)
    (λ rest. arms_run s go arms at captures rest) (λ rest. arms_run s other arms at captures rest) most
    (where_holds-same (nat_le arm.length at) go other most (before s.lists arm.body []) (at - arm.length) captures
    left a h)
    (omega (
      arith,
      where_holds-lowers (nat_le arm.length at) go (before s.lists arm.body []) (at - arm.length)
          captures left l,
    ))
    (λ rest k. arms_run-same s go other most arms at captures rest a l k)

looked-lowers : (wanted : Bool) (ran : Ran) (go : Going) (rest : List Todo) (at : ℕ) (captures : Captures) (most : ℕ)
    → Lowers go → left_of ran ≤ most → left_of (looked wanted ran go rest at captures) ≤ most
looked-lowers true (Hit end seen left) go rest at captures most l h = omega (arith, l.lowers rest at seen left)
looked-lowers true (Miss left) go rest at captures most l h = h
looked-lowers true Spent go rest at captures most l h = omega arith
looked-lowers false (Hit end seen left) go rest at captures most l h = h
looked-lowers false (Miss left) go rest at captures most l h = omega (arith, l.lowers rest at captures left)
looked-lowers false Spent go rest at captures most l h = omega arith

looked-same : (wanted : Bool) (ran other_ran : Ran) (go other : Going) (most : ℕ) (rest : List Todo) (at : ℕ)
    (captures : Captures) → Agrees go other most → ran ≡ other_ran → left_of ran ≤ most
    → looked wanted ran go rest at captures ≡ looked wanted other_ran other rest at captures
looked-same true (Hit end seen left) other_ran go other most rest at captures a e h =
    rw (← e) (a.same rest at seen left h)
looked-same true (Miss left) other_ran go other most rest at captures a e h = rw (← e) refl
looked-same true Spent other_ran go other most rest at captures a e h = rw (← e) refl
looked-same false (Hit end seen left) other_ran go other most rest at captures a e h = rw (← e) refl
looked-same false (Miss left) other_ran go other most rest at captures a e h = rw (← e) (a.same rest at captures left h)
looked-same false Spent other_ran go other most rest at captures a e h = rw (← e) refl

kept_whole-lowers : (ran : Ran) (go : Going) (rest : List Todo) (most : ℕ) → Lowers go → left_of ran ≤ most →
    left_of (kept_whole ran go rest) ≤ most
kept_whole-lowers (Hit end seen left) go rest most l h = omega (arith, l.lowers rest end seen left)
kept_whole-lowers (Miss left) go rest most l h = h
kept_whole-lowers Spent go rest most l h = omega arith

kept_whole-same : (ran other_ran : Ran) (go other : Going) (most : ℕ) (rest : List Todo) → Agrees go other most →
    ran ≡ other_ran → left_of ran ≤ most → kept_whole ran go rest ≡ kept_whole other_ran other rest
kept_whole-same (Hit end seen left) other_ran go other most rest a e h = rw (← e) (a.same rest end seen left h)
kept_whole-same (Miss left) other_ran go other most rest a e h = rw (← e) refl
kept_whole-same Spent other_ran go other most rest a e h = rw (← e) refl

backs-lowers : (s : Subject) (go : Going) (taken : Option Place) (fold : Bool) (rest : List Todo) (at : ℕ)
    (captures : Captures) (left : ℕ) → Lowers go → left_of (backs s go taken fold rest at captures left) ≤ left
backs-lowers s go None fold rest at captures left l = omega arith
backs-lowers s go (Some taken) fold rest at captures left l =
    where_holds-lowers (stands_again fold s.text taken at) go rest (at + (taken.to - taken.from)) captures left l

backs-same : (s : Subject) (go other : Going) (most : ℕ) (taken : Option Place) (fold : Bool) (rest : List Todo)
    (at : ℕ) (captures : Captures) (left : ℕ) → Agrees go other most → left ≤ most
    → backs s go taken fold rest at captures left ≡ backs s other taken fold rest at captures left
backs-same s go other most None fold rest at captures left a h = refl
backs-same s go other most (Some taken) fold rest at captures left a h =
    where_holds-same (stands_again fold s.text taken at) go other most rest (at + (taken.to - taken.from)) captures
    left a h

act-lowers : (s : Subject) (go : Going) (first : Todo) (rest : List Todo) (at : ℕ) (captures : Captures) (left : ℕ)
    → Lowers go → left_of (act s go first rest at captures left) ≤ left
act-lowers s go (Node (One set)) rest at captures left l =
    where_holds-lowers (is_char (in_set set) (slice_get s.text at)) go rest (at + 1) captures left l
act-lowers s go (Node (At anchor)) rest at captures left l =
    where_holds-lowers (holds_at anchor s at) go rest at captures left l
act-lowers s go (Node (Choice ids)) rest at captures left l =
    tries-lowers go (map (λ id. before s.lists id rest) ids) at captures left l
act-lowers s go (Node (Group number body)) rest at captures left l =
    l.lowers (before s.lists body (Close number at ∷ rest)) at captures left
act-lowers s go (Node (Repeat body least most greedy)) rest at captures left l = tries-lowers go _ at captures left l
act-lowers s go (Node (Ahead body wanted)) rest at captures left l =
    looked-lowers wanted (go (before s.lists body []) at captures left) go rest at captures left l
    (l.lowers (before s.lists body []) at captures left)
act-lowers s go (Node (Behind arms wanted)) rest at captures left l =
    looked-lowers wanted (arms_run s go arms at captures left) go rest at captures left l
    (arms_run-lowers s go arms at captures left l)
act-lowers s go (Node (Atomic body)) rest at captures left l =
    kept_whole-lowers (go (before s.lists body []) at captures left) go rest left l
    (l.lowers (before s.lists body []) at captures left)
act-lowers s go (Node (Back number fold)) rest at captures left l =
    backs-lowers s go (capture_of captures number) fold rest at captures left l
act-lowers s go (Close number from) rest at captures left l =
    l.lowers rest at (slice_set captures number (Some (record { from = from; to = at }))) left
act-lowers s go (Again body least most greedy count begun) rest at captures left l =
    tries-lowers go _ at captures left l

act-same : (s : Subject) (go other : Going) (first : Todo) (rest : List Todo) (at : ℕ) (captures : Captures)
    (left : ℕ) → Agrees go other left → Lowers go → act s go first rest at captures left
    ≡ act s other first rest at captures left
act-same s go other (Node (One set)) rest at captures left a l =
    where_holds-same (is_char (in_set set) (slice_get s.text at)) go other left rest (at + 1) captures left a
    (omega arith)
act-same s go other (Node (At anchor)) rest at captures left a l =
    where_holds-same (holds_at anchor s at) go other left rest at captures left a (omega arith)
act-same s go other (Node (Choice ids)) rest at captures left a l =
    tries-same go other left (map (λ id. before s.lists id rest) ids) at captures left a l (omega arith)
act-same s go other (Node (Group number body)) rest at captures left a l =
    a.same (before s.lists body (Close number at ∷ rest)) at captures left (omega arith)
act-same s go other (Node (Repeat body least most greedy)) rest at captures left a l =
    tries-same go other left _ at captures left a l (omega arith)
act-same s go other (Node (Ahead body wanted)) rest at captures left a l =
    looked-same wanted (go (before s.lists body []) at captures left)
    (other (before s.lists body []) at captures left) go other left rest at captures a
    (a.same (before s.lists body []) at captures left (omega arith))
    (l.lowers (before s.lists body []) at captures left)
act-same s go other (Node (Behind arms wanted)) rest at captures left a l =
    looked-same wanted (arms_run s go arms at captures left) (arms_run s other arms at captures left) go other left
    rest at captures a
    (arms_run-same s go other left arms at captures left a l (omega arith))
    (arms_run-lowers s go arms at captures left l)
act-same s go other (Node (Atomic body)) rest at captures left a l =
    kept_whole-same (go (before s.lists body []) at captures left) (other (before s.lists body []) at captures left)
    go other left rest a
    (a.same (before s.lists body []) at captures left (omega arith))
    (l.lowers (before s.lists body []) at captures left)
act-same s go other (Node (Back number fold)) rest at captures left a l =
    backs-same s go other left (capture_of captures number) fold rest at captures left a (omega arith)
act-same s go other (Close number from) rest at captures left a l =
    a.same rest at (slice_set captures number (Some (record { from = from; to = at }))) left (omega arith)
act-same s go other (Again body least most greedy count begun) rest at captures left a l =
    tries-same go other left _ at captures left a l (omega arith)

look-lowers : (s : Subject) (go : Going) (todo : List Todo) (at : ℕ) (captures : Captures) (left : ℕ) → Lowers go →
    left_of (look s go todo at captures left) ≤ left
look-lowers s go todo at captures zero l = omega arith
look-lowers s go [] at captures (suc left) l = omega arith
look-lowers s go (first ∷ rest) at captures (suc left) l = omega (arith, act-lowers s go first rest at captures left l)

pub go_on-lowers : (s : Subject) (fuel : ℕ) → Lowers (go_on s fuel)
unfolding go_on
go_on-lowers s zero = record { lowers = λ todo at captures left. omega arith }
go_on-lowers s (suc fuel) = record {
  lowers =
      λ todo at captures left. look-lowers s (go_on s fuel) todo at captures left (go_on-lowers s fuel);
}

pub go_on-zero : (s : Subject) (fuel : ℕ) (todo : List Todo) (at : ℕ) (captures : Captures) →
    go_on s fuel todo at captures zero ≡ Spent
unfolding go_on
go_on-zero s zero todo at captures = refl
go_on-zero s (suc fuel) todo at captures = refl

pub go_on-same : (s : Subject) (f g : ℕ) (todo : List Todo) (at : ℕ) (captures : Captures) (left : ℕ) → left ≤ f →
    left ≤ g → go_on s f todo at captures left ≡ go_on s g todo at captures left
unfolding go_on
go_on-same s f g todo at captures zero h k = go_on-zero s f todo at captures ∙ sym (go_on-zero s g todo at captures)
go_on-same s zero g todo at captures (suc left) h k = absurd (omega arith)
go_on-same s (suc f) zero todo at captures (suc left) h k = absurd (omega arith)
go_on-same s (suc f) (suc g) [] at captures (suc left) h k = refl
go_on-same s (suc f) (suc g) (first ∷ rest) at captures (suc left) h k =
    act-same s (go_on s f) (go_on s g) first rest at captures left
    (record {
      same = λ todo at' captures' left' low. go_on-same s f g todo at' captures' left' (omega arith)
          (omega arith);
    })
    (go_on-lowers s f)

-- what one visit does

pub goes-zero : (s : Subject) (todo : List Todo) (at : ℕ) (captures : Captures) → goes s todo at captures zero ≡ Spent
unfolding goes
goes-zero s todo at captures = go_on-zero s zero todo at captures

pub goes-none : (s : Subject) (at : ℕ) (captures : Captures) (left : ℕ) →
    goes s [] at captures (suc left) ≡ Hit at captures left
unfolding goes go_on
goes-none s at captures left = refl

pub goes-act : (s : Subject) (first : Todo) (rest : List Todo) (at : ℕ) (captures : Captures) (left : ℕ) →
    goes s (first ∷ rest) at captures (suc left) ≡ act s (goes s) first rest at captures left
unfolding goes go_on
goes-act s first rest at captures left =
    act-same s (go_on s left) (goes s) first rest at captures left
    (record {
      same = λ todo at' captures' left' low. go_on-same s left left' todo at' captures' left' low
          (omega arith);
    })
    (go_on-lowers s left)
