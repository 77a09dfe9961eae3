-- Lists that miss at once, since their first character doesn't stand at the place.
use Rattle.std.proofs.Common.{◌≡◌, ℕ, zero, suc, ◌+◌, ◌<◌, ◌≤◌, ◌==◌, List, [], ◌∷◌, map, ◌++◌, length, refl, sym, ap}
use Rattle.std.proofs.Common.{◌∙◌, arith}
use Rattle.std.specs.Prelude.{Bool, true, false, not, ◌&&◌, nat_lt, Option}
use Rattle.std.proofs.lemmas.Bool.{le-ltb}
use Rattle.pattern_defs.specs.declared.nodes.ListId.{ListId}
use Rattle.pattern_defs.specs.declared.nodes.PatNode.{PatNode}
use Rattle.pattern_defs.specs.declared.nodes.PatNode.TheVariants.{One, Group, Repeat, Ahead}
use Rattle.pattern_defs.specs.Patterns.{nodes_of}
use Rattle.pattern_defs.specs.Attempt.{Subject, Captures, Todo, Node, Close, Again, Ran}
use Rattle.pattern_defs.specs.Attempt.{Spent, before, is_greatest, act}
use Rattle.onig_match.specs.declared.cells.Rest.{Rest}
use Rattle.onig_match.specs.declared.entries.Step.{Step}
use Rattle.onig_match.specs.declared.entries.Step.TheVariants.{Go, Failed}
use Rattle.onig_match.specs.declared.area.Area.{Area}
use Rattle.onig_match.specs.declared.searched.Searched.{Searched}
use Rattle.onig_match.specs.Goes.{goes}
use Rattle.onig_match.specs.Machine.{subject, todo_of, carried, ran_of, acted, step_where}
use Rattle.onig_match.specs.Sound.{IsHere, IsStep, Visits, BeginsElse, MissesEarly}
use Rattle.onig_match.proofs.Ends.{carry-spent}
use Rattle.onig_match.proofs.RunSteps.{leads_wider}
use Rattle.onig_match.proofs.RunVisits.{is_stuck}
use Rattle.onig_match.proofs.Steps.{AddsCell-none, lead_added}
use Rattle.onig_match.proofs.VisitSteps.{or_else_miss}
use Rattle.onig_match.proofs.VisitCounts.{goes-zero, goes-act}

pub misses_one : (s : Subject) (list : ListId) (at : ℕ) → BeginsElse (nodes_of s.lists list) s.text at →
    MissesEarly s list at 1
misses_one s list at else = record {
  misses = λ rest captures left.
      let one : left + 1 ≡ suc left = omega arith in
      rw (one, else.is, goes-act s (Node (One else.set)) (map Node else.more ++ rest) at captures left, else.ends) refl;
  spent = λ rest captures left low.
      let none : left ≡ 0 = omega arith in
      rw none (goes-zero s (before s.lists list rest) at captures);
}

pub misses_group : (s : Subject) (list : ListId) (at number : ℕ) (body : ListId) (more : List PatNode) →
    nodes_of s.lists list ≡ Group number body ∷ more → BeginsElse (nodes_of s.lists body) s.text at →
    MissesEarly s list at 2
misses_group s list at number body more is else =
    let inner : MissesEarly s body at 1 = misses_one s body at else in
    record {
      misses = λ rest captures left.
          let two : left + 2 ≡ suc (left + 1) = omega arith in
          rw (two, is, goes-act s (Node (Group number body)) (map Node more ++ rest) at captures (left + 1))
          (inner.misses (Close number at ∷ (map Node more ++ rest)) captures left);
      spent = λ rest captures left low. early_spent rest captures left low;
    }
  where
    early_spent : (rest : List Todo) (captures : Captures) (left : ℕ) → left < 2 →
        goes s (before s.lists list rest) at captures left ≡ Spent
    early_spent rest captures zero low = goes-zero s (before s.lists list rest) at captures
    early_spent rest captures (suc left) low =
        rw (is, goes-act s (Node (Group number body)) (map Node more ++ rest) at captures left)
        ((misses_one s body at else).spent (Close number at ∷ (map Node more ++ rest)) captures left (omega arith))

-- what is done where the first thing that is tried misses at once

early_on : (on : Searched) (old : Area) (first : Todo) (rest : Rest) (at more : ℕ) (step : Step) →
    IsHere on old rest at → IsStep on (length old.cells.items) step →
    ((left : ℕ) → act (subject on) (goes (subject on)) first (todo_of on.pattern.now.lists old.cells.items rest) at
    old.captures.items (left + more) ≡ ran_of (subject on) old step left) →
    ((left : ℕ) → left < more → act (subject on) (goes (subject on)) first
    (todo_of on.pattern.now.lists old.cells.items rest) at old.captures.items left ≡ Spent) →
    Visits on old (acted on old first rest at) old (record { step = step; more = more })
early_on on old first rest at more step here is ends spends = record {
  leads = leads_wider on more old (λ left. acted on old first rest at (left + more)) old step
      (lead_added on old old (λ left. acted on old first rest at (left + more)) step
      (AddsCell-none on old here.sound) is
      (λ left. ap (λ (ran : Ran). carried (subject on) old ran) (sym (ends left))));
  spent = λ left low. ap (λ (ran : Ran). carried (subject on) old ran) (spends left low)
      ∙ carry-spent (subject on) old.cells.items old.trail.items old.captures.items old.entries.items;
}

other_place : (at begun : ℕ) → (begun ≡ at → ⊥) → (at == begun) ≡ false
other_place at begun other = grind arith

never : (b : Bool) → (b && false) ≡ false
never true = refl
never false = refl

-- the last iteration took something
pub not_stuck : (count begun at : ℕ) → (begun ≡ at → ⊥) → is_stuck count begun at ≡ false
not_stuck count begun at other = rw (other_place at begun other) (never (nat_lt 0 count))

pub early_repeat : (on : Searched) (old : Area) (body : ListId) (least : ℕ) (most : Option ℕ) (count begun : ℕ)
    (rest : Rest) (at more : ℕ) → IsHere on old rest at → is_stuck count begun at ≡ false → least ≤ count →
    is_greatest most count ≡ false → MissesEarly (subject on) body at more →
    Visits on old (acted on old (Again body least most true count begun) rest at) old
    (record { step = Go (record { rest = rest; at = at }); more = more })
early_repeat on old body least most count begun rest at more here free low may early =
    let later : List Todo = todo_of on.pattern.now.lists old.cells.items rest in
    let again : List Todo = Again body least most true (count + 1) at ∷ later in
    early_on on old (Again body least most true count begun) rest at more (Go (record { rest = rest; at = at })) here
    (here.inside, here.there)
    (λ left. rw (free, le-ltb count least low, may, early.misses again old.captures.items left) (or_else_miss _))
    (λ left few. rw (free, le-ltb count least low, may, early.spent again old.captures.items left few) refl)

-- the same before the first iteration
pub early_start : (on : Searched) (old : Area) (body : ListId) (least : ℕ) (most : Option ℕ) (rest : Rest)
    (at more : ℕ) → IsHere on old rest at → least ≤ 0 → is_greatest most 0 ≡ false →
    MissesEarly (subject on) body at more →
    Visits on old (acted on old (Node (Repeat body least most true)) rest at) old
    (record { step = Go (record { rest = rest; at = at }); more = more })
early_start on old body least most rest at more here low may early =
    early_repeat on old body least most 0 at rest at more here refl low may early

pub early_ahead : (on : Searched) (old : Area) (body : ListId) (wanted : Bool) (rest : Rest) (at more : ℕ) →
    IsHere on old rest at → MissesEarly (subject on) body at more →
    Visits on old (acted on old (Node (Ahead body wanted)) rest at) old
    (record { step = step_where (not wanted) rest at; more = more })
early_ahead on old body true rest at more here early =
    early_on on old (Node (Ahead body true)) rest at more Failed here tt
    (λ left. rw (early.misses [] old.captures.items left) refl)
    (λ left few. rw (early.spent [] old.captures.items left few) refl)
early_ahead on old body false rest at more here early =
    early_on on old (Node (Ahead body false)) rest at more (Go (record { rest = rest; at = at })) here
    (here.inside, here.there)
    (λ left. rw (early.misses [] old.captures.items left) refl)
    (λ left few. rw (early.spent [] old.captures.items left few) refl)
