-- How many visits nodes take at most, by cases on the first of them.
use Rattle.std.proofs.Common.{◌≡◌, ℕ, zero, suc, ◌+◌, ◌-◌, ◌<◌, ◌≤◌, Bool, true, false, List, [], ◌∷◌, ◌++◌, length}
use Rattle.std.proofs.Common.{map, get_or, Option, Some, None, sym, subst, arith}
use Rattle.std.proofs.lemmas.Bool.{false≢true}
use Rattle.std.proofs.lemmas.Bool.Decides.{nat_tests}
use Rattle.std.specs.Prelude.{nat_lt, nat_le, slice_get, IfSome, SomeIff, ◌==◌, ◌&&◌}
use Rattle.char_sets.specs.Ranges.{in_set}
use Rattle.char_sets.specs.declared.char_set.CharRange.{CharRange}
use Rattle.pattern_defs.specs.declared.nodes.ListId.{ListId}
use Rattle.pattern_defs.specs.declared.nodes.Arm.{Arm}
use Rattle.pattern_defs.specs.declared.nodes.Anchor.{Anchor}
use Rattle.pattern_defs.specs.declared.nodes.PatNode.{PatNode}
use Rattle.pattern_defs.specs.declared.nodes.PatNode.TheVariants.{One, At, Choice, Group, Repeat, Ahead, Behind}
use Rattle.pattern_defs.specs.declared.nodes.PatNode.TheVariants.{Atomic, Back}
use Rattle.pattern_defs.specs.declared.outcomes.Flags.{Flags}
use Rattle.pattern_defs.specs.declared.outcomes.Place.{Place}
use Rattle.pattern_defs.specs.Patterns.{NodeLists, AllIds, AllArms, nodes_of, AreBounds as IsLeastWithin}
use Rattle.pattern_defs.specs.Attempt.{Subject, Todo, Node, Close, Again, Captures}
use Rattle.pattern_defs.specs.Attempt.{go_on, before, arms_run, backs, capture_of, repeat_ways}
use Rattle.pattern_defs.specs.Attempt.{is_greatest, is_char, stands_again, where_holds}
use Rattle.onig_scan.specs.Runs.{EndsWith, AllEnd, Anywhere}
use Rattle.onig_scan.specs.Bounds.{subject_of, IsBoundOf, IsBound, IsBoundOfTimes, AreBounds, AreArmBounds}
use Rattle.onig_scan.proofs.Runs.{misses_now, at_more, ends_else, ends_where, ends_looked, from_act, ends_empty}
use Rattle.onig_scan.proofs.Runs.{ends_tries, ends_At, ends_Close, ends_Group, ends_Choice, ends_Ahead}
use Rattle.onig_scan.proofs.Runs.{ends_Atomic, ends_Repeat}

everywhere : (at : ℕ) → Anywhere at → Anywhere at
everywhere at here = tt

pub IsBound-nil : (lists : NodeLists) (behind : ℕ) → IsBound lists [] behind behind
IsBound-nil lists behind = record { bound = λ text flags rest is. is }

pub IsBound-cons : (lists : NodeLists) (first : PatNode) (nodes : List PatNode) (behind after cost : ℕ) →
    IsBound lists nodes behind after → IsBound lists (first ∷ []) after cost → IsBound lists (first ∷ nodes) behind cost
IsBound-cons lists first nodes behind after cost others is =
    record {
      bound = λ text flags rest it. is.bound text flags (map Node nodes ++ rest)
          (others.bound text flags rest it);
    }

-- a list that is run by itself
pub own_bound : (lists : NodeLists) (body : ListId) (cost : ℕ) → IsBound lists (nodes_of lists body) 1 cost →
    (text : List ℕ) (flags : Flags) → IsBoundOf (subject_of lists text flags) (before lists body []) cost
own_bound lists body cost is text flags = is.bound text flags [] (ends_empty everywhere)

pub IsBound-One : (lists : NodeLists) (set : List CharRange) (after : ℕ)
    → IsBound lists (One set ∷ []) after (after + 1)
IsBound-One lists set after =
    record {
      bound = λ text flags rest is. from_act (Node (One set)) rest after (λ fuel at captures left here enough fits.
          ends_where (is_char (in_set set) (slice_get text at)) (go_on (subject_of lists text flags) fuel) rest
          (at + 1) captures left after
          (λ _. is.ends fuel (at + 1) captures left tt enough fits));
    }

pub IsBound-At : (lists : NodeLists) (anchor : Anchor) (after : ℕ) → IsBound lists (At anchor ∷ []) after (after + 1)
IsBound-At lists anchor after = record { bound = λ text flags rest is. ends_At anchor rest after is }

pub IsBound-Back : (lists : NodeLists) (number : ℕ) (fold : Bool) (after : ℕ)
    → IsBound lists (Back number fold ∷ []) after (after + 1)
IsBound-Back lists number fold after =
    record {
      bound = λ text flags rest is. from_act (Node (Back number fold)) rest after
          (λ fuel at captures left here enough fits.
          by_taken text flags rest is fuel at captures left (capture_of captures number) enough fits);
    }
  where
    by_taken : (text : List ℕ) (flags : Flags) (rest : List Todo) → IsBoundOf (subject_of lists text flags) rest after →
        (fuel at : ℕ) (captures : Captures) (left : ℕ) (taken : Option Place) → after ≤ left → left ≤ fuel →
        EndsWith Anywhere (backs (subject_of lists text flags) (go_on (subject_of lists text flags) fuel) taken fold
        rest at captures left) left after
    by_taken text flags rest is fuel at captures left None enough fits = misses_now left after
    by_taken text flags rest is fuel at captures left (Some taken) enough fits =
        ends_where (stands_again fold text taken at) (go_on (subject_of lists text flags) fuel) rest
        (at + (taken.to - taken.from)) captures left after
        (λ _. is.ends fuel (at + (taken.to - taken.from)) captures left tt enough fits)

pub IsBound-Group : (lists : NodeLists) (number : ℕ) (body : ListId) (after closed cost : ℕ) → closed ≡ after + 1 →
    IsBound lists (nodes_of lists body) closed cost → IsBound lists (Group number body ∷ []) after (cost + 1)
IsBound-Group lists number body after closed cost close is =
    record {
      bound = λ text flags rest it. ends_Group number body rest cost (λ at.
          let Bound : ℕ → Type 0 = λ c. IsBoundOf (subject_of lists text flags) (Close number at ∷ rest) c in
          is.bound text flags (Close number at ∷ rest) (subst Bound (sym close) (ends_Close number at rest after it)));
    }

pub IsBound-Ahead : (lists : NodeLists) (body : ListId) (wanted : Bool) (after cost : ℕ) →
    IsBound lists (nodes_of lists body) 1 cost → IsBound lists (Ahead body wanted ∷ []) after (cost + after + 1)
IsBound-Ahead lists body wanted after cost is =
    record {
      bound = λ text flags rest it. ends_Ahead body wanted rest cost after
          (own_bound lists body cost is text flags) it;
    }

pub IsBound-Atomic : (lists : NodeLists) (body : ListId) (after cost : ℕ) →
    IsBound lists (nodes_of lists body) 1 cost → IsBound lists (Atomic body ∷ []) after (cost + after + 1)
IsBound-Atomic lists body after cost is =
    record {
      bound = λ text flags rest it. ends_Atomic body rest cost after (λ at to here there. tt)
          (own_bound lists body cost is text flags) it;
    }

all_bound : (lists : NodeLists) (ids : List ListId) (after cost : ℕ) → AreBounds lists ids after cost →
    (text : List ℕ) (flags : Flags) (rest : List Todo) → IsBoundOf (subject_of lists text flags) rest after →
    AllEnd (subject_of lists text flags) Anywhere Anywhere (map (λ id. before lists id rest) ids) cost
all_bound lists [] after cost are text flags rest it = tt
all_bound lists (id ∷ ids) after cost are text flags rest it =
    (are.0, are.1, are.2, (are.3).bound text flags rest it, all_bound lists ids after are.1 are.4 text flags rest it)

pub IsBound-Choice : (lists : NodeLists) (ids : List ListId) (after cost : ℕ) → AreBounds lists ids after cost →
    IsBound lists (Choice ids ∷ []) after (cost + 1)
IsBound-Choice lists ids after cost are =
    record {
      bound = λ text flags rest it. ends_Choice ids rest cost
          (all_bound lists ids after cost are text flags rest it);
    }

pub AreBounds-push : (lists : NodeLists) (ids : List ListId) (id : ListId) (after cost last : ℕ)
    → AreBounds lists ids after cost →
    IsBound lists (nodes_of lists id) after last → AreBounds lists (ids ++ id ∷ []) after (cost + last)
AreBounds-push lists [] id after cost last are is = (last, 0, omega arith, is, tt)
AreBounds-push lists (i ∷ ids) id after cost last are is =
    let sum : are.0 + are.1 ≤ cost = are.2 in
    (are.0, are.1 + last, omega arith, are.3, AreBounds-push lists ids id after are.1 last are.4 is)

pub AreArmBounds-push : (lists : NodeLists) (arms : List Arm) (arm : Arm) (cost last : ℕ)
    → AreArmBounds lists arms cost →
    IsBound lists (nodes_of lists arm.body) 1 last → AreArmBounds lists (arms ++ arm ∷ []) (cost + last)
AreArmBounds-push lists [] arm cost last are is = (last, 0, omega arith, is, tt)
AreArmBounds-push lists (a ∷ arms) arm cost last are is =
    let sum : are.0 + are.1 ≤ cost = are.2 in
    (are.0, are.1 + last, omega arith, are.3, AreArmBounds-push lists arms arm are.1 last are.4 is)

-- the arms of a lookbehind, one after the other
pub arms_bound : (lists : NodeLists) (text : List ℕ) (flags : Flags) (arms : List Arm) (cost fuel at : ℕ)
    (captures : Captures) (left : ℕ) →
    AreArmBounds lists arms cost → cost ≤ left → left ≤ fuel →
    EndsWith Anywhere (arms_run (subject_of lists text flags) (go_on (subject_of lists text flags) fuel)
    arms at captures left) left cost
arms_bound lists text flags [] cost fuel at captures left are enough fits = misses_now left cost
arms_bound lists text flags (arm ∷ arms) cost fuel at captures left are enough fits =
    let first : ℕ = are.0 in
    let others : ℕ = are.1 in
    let sum : first + others ≤ cost = are.2 in
    let s : Subject = subject_of lists text flags in
    at_more _ left (first + others) cost sum
    (ends_else (where_holds (nat_le arm.length at) (go_on s fuel) (before lists arm.body []) (at - arm.length)
    captures left)
    (λ l. arms_run s (go_on s fuel) arms at captures l) left first others (omega arith)
    (ends_where (nat_le arm.length at) (go_on s fuel) (before lists arm.body []) (at - arm.length) captures left first
    (λ _. (own_bound lists arm.body first are.3 text flags).ends fuel (at - arm.length) captures left tt (omega arith)
    fits))
    (λ l enough' below. arms_bound lists text flags arms others fuel at captures l are.4 enough' (omega arith)))

pub IsBound-Behind : (lists : NodeLists) (arms : List Arm) (wanted : Bool) (after cost : ℕ)
    → AreArmBounds lists arms cost →
    IsBound lists (Behind arms wanted ∷ []) after (cost + after + 1)
IsBound-Behind lists arms wanted after cost are =
    record {
      bound = λ text flags rest it. from_act (Node (Behind arms wanted)) rest (cost + after)
          (λ fuel at captures left here enough fits.
          ends_looked wanted _ (go_on (subject_of lists text flags) fuel) rest at captures left cost after enough
          (arms_bound lists text flags arms cost fuel at captures left are (omega arith) fits)
          (λ seen l enough' below. it.ends fuel at seen l tt enough' (omega arith)));
    }

-- repeats of a greatest number

pub IsBoundOfTimes-none : (lists : NodeLists) (body : ListId) (after : ℕ) → IsBoundOfTimes lists body 0 after after
IsBoundOfTimes-none lists body after =
    record {
      ways = λ text flags rest it least most count at stuck greedy few all.
          let above : nat_lt count least ≡ false = le-ltb-false count least (omega (arith, few, all)) in
          let done : is_greatest (Some most) count ≡ true = same most count (omega (arith, all)) in
          by_case (subject_of lists text flags) rest it
          (before lists body (Again body least (Some most) greedy (count + 1) at ∷ rest)) stuck (nat_lt count least)
          (is_greatest (Some most) count) greedy above done;
    }
  where
    le-ltb-false : (n m : ℕ) → m ≤ n → nat_lt n m ≡ false
    le-ltb-false n m h = grind (arith, nat_tests)

    same : (n m : ℕ) → m ≡ n → (n == m) ≡ true
    same n m e = grind (arith, nat_tests)

    by_case : (s : Subject) (rest : List Todo) → IsBoundOf s rest after → (more : List Todo)
        → (stuck below greatest greedy : Bool) → below ≡ false → greatest ≡ true →
        AllEnd s Anywhere Anywhere (repeat_ways stuck below greatest greedy more rest) after
    by_case s rest it more true below greatest greedy above done = (after, 0, omega arith, it, tt)
    by_case s rest it more false true greatest greedy above done = absurd (false≢true (sym above))
    by_case s rest it more false false true greedy above done = (after, 0, omega arith, it, tt)
    by_case s rest it more false false false greedy above done = absurd (false≢true done)

-- an iteration more
pub IsBoundOfTimes-more : (lists : NodeLists) (body : ListId) (times after others again one : ℕ) →
    IsBoundOfTimes lists body times after others → again ≡ others + 1 → IsBound lists (nodes_of lists body) again one
    → IsBoundOfTimes lists body (times + 1) after (one + after)
IsBoundOfTimes-more lists body times after others again one fewer next is =
    record {
      ways = λ text flags rest it least most count at stuck greedy few all.
          let Bound : ℕ → Type 0 = λ c. IsBoundOf (subject_of lists text flags)
          (Again body least (Some most) greedy (count + 1) at ∷ rest) c in
          by_case (subject_of lists text flags) rest it
          (before lists body (Again body least (Some most) greedy (count + 1) at ∷ rest))
          (is.bound text flags (Again body least (Some most) greedy (count + 1) at ∷ rest)
          (subst Bound (sym next) (again_bound text flags rest it least most count at greedy few (omega (arith, all)))))
          stuck (nat_lt count least) (is_greatest (Some most) count) greedy;
    }
  where
    again_bound : (text : List ℕ) (flags : Flags) (rest : List Todo) → IsBoundOf (subject_of lists text flags) rest after
        → (least most count begun : ℕ) (greedy : Bool) → least ≤ most → count + 1 + times ≡ most →
        IsBoundOf (subject_of lists text flags) (Again body least (Some most) greedy (count + 1) begun ∷ rest)
        (others + 1)
    again_bound text flags rest it least most count begun greedy few all =
        from_act (Again body least (Some most) greedy (count + 1) begun) rest others
        (λ fuel at captures left here enough fits.
        ends_tries (subject_of lists text flags) Anywhere Anywhere _ others fuel at captures left
        (fewer.ways text flags rest it least most (count + 1) at (nat_lt 0 (count + 1) && (at == begun)) greedy few all)
        tt enough fits)

    by_case : (s : Subject) (rest : List Todo) → IsBoundOf s rest after → (more : List Todo) → IsBoundOf s more one
        → (stuck below greatest greedy : Bool) →
        AllEnd s Anywhere Anywhere (repeat_ways stuck below greatest greedy more rest) (one + after)
    by_case s rest it more is true below greatest greedy = (after, 0, omega arith, it, tt)
    by_case s rest it more is false true greatest greedy = (one, 0, omega arith, is, tt)
    by_case s rest it more is false false true greedy = (after, 0, omega arith, it, tt)
    by_case s rest it more is false false false true = (one, after, omega arith, is, (after, 0, omega arith, it, tt))
    by_case s rest it more is false false false false = (after, one, omega arith, it, (one, 0, omega arith, is, tt))

pub IsBound-times : (lists : NodeLists) (body : ListId) (least most : ℕ) (greedy : Bool) (after cost : ℕ)
    → IsLeastWithin least (Some most) →
    IsBoundOfTimes lists body most after cost → IsBound lists (Repeat body least (Some most) greedy ∷ []) after (cost + 1)
IsBound-times lists body least most greedy after cost few is =
    record {
      bound = λ text flags rest it. ends_Repeat body least (Some most) greedy rest cost (λ at here.
          is.ways text flags rest it least most 0 at false greedy few (omega arith));
    }

-- a sum, where it fits
pub of_sum : (P : ℕ → Type 0) (Q : Type 0) (v : ℕ) (o : Option ℕ) → SomeIff o Q v → P v → IfSome o P
of_sum P Q v None e p = tt
of_sum P Q v (Some x) e p = subst P (sym e.1) p

pub id_below : (n : ℕ) (ids : List ListId) (k : ℕ) (d : ListId) → AllIds n ids → k < length ids → (get_or ids k d).0 < n
id_below n [] k d all h = absurd (omega arith)
id_below n (id ∷ ids) zero d all h = all.0
id_below n (id ∷ ids) (suc k) d all h = id_below n ids k d all.1 (omega arith)

pub arm_below : (n : ℕ) (arms : List Arm) (k : ℕ) (d : Arm) → AllArms n arms → k < length arms
    → (get_or arms k d).body.0 < n
arm_below n [] k d all h = absurd (omega arith)
arm_below n (arm ∷ arms) zero d all h = all.0
arm_below n (arm ∷ arms) (suc k) d all h = arm_below n arms k d all.1 (omega arith)

pub if_some : (P Q : ℕ → Type 0) (o : Option ℕ) → ((n : ℕ) → P n → Q n) → IfSome o P → IfSome o Q
if_some P Q None f h = tt
if_some P Q (Some n) f h = f n h
