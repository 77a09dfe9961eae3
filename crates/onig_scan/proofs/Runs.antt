-- How runs end, by what they do at the first of what is still to match.
use Rattle.std.proofs.Common.{◌≡◌, ℕ, zero, suc, ◌+◌, ◌≤◌, Bool, true, false, List, [], ◌∷◌, map}
use Rattle.std.proofs.Common.{Option, refl, sym, subst, arith}
use Rattle.std.specs.Prelude.{nat_lt, ◌==◌}
use Rattle.pattern_defs.specs.declared.nodes.ListId.{ListId}
use Rattle.pattern_defs.specs.declared.nodes.Anchor.{Anchor}
use Rattle.pattern_defs.specs.declared.nodes.PatNode.TheVariants.{At, Choice, Group, Repeat, Ahead}
use Rattle.pattern_defs.specs.declared.nodes.PatNode.TheVariants.{Atomic}
use Rattle.pattern_defs.specs.Attempt.{Subject, Todo, Node, Close, Again, Captures, Ran, Hit, Miss, Spent, Going, act}
use Rattle.pattern_defs.specs.Attempt.{go_on, tries, or_else, where_holds, before, holds_at, looked}
use Rattle.pattern_defs.specs.Attempt.{kept_whole, repeat_ways, is_greatest}
use Rattle.onig_scan.specs.Runs.{left_of, EndsWith, EndsFrom, AllEnd, Nowhere}

-- a look takes one visit
pub go_on-empty : (s : Subject) (fuel at : ℕ) (captures : Captures) (left : ℕ) →
    go_on s (suc fuel) [] at captures (suc left) ≡ Hit at captures left
unfolding go_on
go_on-empty s fuel at captures left = refl

pub go_on-step : (s : Subject) (fuel : ℕ) (first : Todo) (rest : List Todo) (at : ℕ) (captures : Captures) (left : ℕ) →
    go_on s (suc fuel) (first ∷ rest) at captures (suc left) ≡ act s (go_on s fuel) first rest at captures left
unfolding go_on
go_on-step s fuel first rest at captures left = refl

pub misses_now : {P : ℕ → Type 0} (left cost : ℕ) → EndsWith P (Miss left) left cost
misses_now left cost = record { ends = tt; fewer = omega arith; cheap = omega arith }

pub at_more : {P : ℕ → Type 0} (ran : Ran) (left cost more : ℕ) → cost ≤ more → EndsWith P ran left cost
    → EndsWith P ran left more
at_more ran left cost more fits e = let cheap =
    e.cheap in record { ends = e.ends; fewer = e.fewer; cheap = omega arith }

-- one run, and where it misses another
pub ends_else : {P : ℕ → Type 0} (ran : Ran) (next : ℕ → Ran) (left first others : ℕ) → first + others ≤ left →
    EndsWith P ran left first → ((l : ℕ) → others ≤ l → l ≤ left → EndsWith P (next l) l others) →
    EndsWith P (or_else ran next) left (first + others)
ends_else (Hit to captures l) next left first others enough e later =
    let fewer : l ≤ left = e.fewer in
    let cheap : left ≤ l + first = e.cheap in
    record { ends = e.ends; fewer = fewer; cheap = omega arith }
ends_else {P = P} (Miss l) next left first others enough e later =
    let fewer : l ≤ left = e.fewer in
    let cheap : left ≤ l + first = e.cheap in
    let n : EndsWith P (next l) l others = later l (omega arith) fewer in
    let n_fewer : left_of (next l) ≤ l = n.fewer in
    let n_cheap : l ≤ left_of (next l) + others = n.cheap in
    record { ends = n.ends; fewer = omega arith; cheap = omega arith }
ends_else Spent next left first others enough e later = absurd e.ends

pub ends_where : {P : ℕ → Type 0} (b : Bool) (go : Going) (todo : List Todo) (at : ℕ) (captures : Captures)
    (left cost : ℕ) →
    (b ≡ true → EndsWith P (go todo at captures left) left cost)
    → EndsWith P (where_holds b go todo at captures left) left cost
ends_where true go todo at captures left cost runs = runs refl
ends_where false go todo at captures left cost runs = misses_now left cost

pub ends_looked : {P Q : ℕ → Type 0} (wanted : Bool) (ran : Ran) (go : Going) (rest : List Todo) (at : ℕ)
    (captures : Captures)
    (left first others : ℕ) → first + others ≤ left → EndsWith Q ran left first →
    ((seen : Captures) (l : ℕ) → others ≤ l → l ≤ left → EndsWith P (go rest at seen l) l others) →
    EndsWith P (looked wanted ran go rest at captures) left (first + others)
ends_looked true (Hit to seen l) go rest at captures left first others enough e later =
    ends_else (Miss l) (λ k. go rest at seen k) left first others enough
    (record { ends = tt; fewer = e.fewer; cheap = e.cheap }) (later seen)
ends_looked true (Miss l) go rest at captures left first others enough e later =
    at_more (Miss l) left first (first + others) (omega arith) (record { ends = tt; fewer = e.fewer; cheap = e.cheap })
ends_looked false (Hit to seen l) go rest at captures left first others enough e later =
    at_more (Miss l) left first (first + others) (omega arith) (record { ends = tt; fewer = e.fewer; cheap = e.cheap })
ends_looked false (Miss l) go rest at captures left first others enough e later =
    ends_else (Miss l) (λ k. go rest at captures k) left first others enough
    (record { ends = tt; fewer = e.fewer; cheap = e.cheap }) (later captures)
ends_looked true Spent go rest at captures left first others enough e later = absurd e.ends
ends_looked false Spent go rest at captures left first others enough e later = absurd e.ends

-- what is wanted and misses
pub ends_unseen : {P : ℕ → Type 0} (ran : Ran) (go : Going) (rest : List Todo) (at : ℕ) (captures : Captures)
    (left cost : ℕ) →
    EndsWith Nowhere ran left cost → EndsWith P (looked true ran go rest at captures) left cost
ends_unseen (Hit to seen l) go rest at captures left cost e = absurd e.ends
ends_unseen (Miss l) go rest at captures left cost e = record { ends = tt; fewer = e.fewer; cheap = e.cheap }
ends_unseen Spent go rest at captures left cost e = absurd e.ends

pub ends_kept : {P Q : ℕ → Type 0} (ran : Ran) (go : Going) (rest : List Todo)
    (left first others : ℕ) → first + others ≤ left → EndsWith Q ran left first →
    ((to : ℕ) (seen : Captures) (l : ℕ) → Q to → others ≤ l → l ≤ left → EndsWith P (go rest to seen l) l others) →
    EndsWith P (kept_whole ran go rest) left (first + others)
ends_kept (Hit to seen l) go rest left first others enough e later =
    ends_else (Miss l) (λ k. go rest to seen k) left first others enough
    (record { ends = tt; fewer = e.fewer; cheap = e.cheap }) (λ k. later to seen k e.ends)
ends_kept (Miss l) go rest left first others enough e later =
    at_more (Miss l) left first (first + others) (omega arith) (record { ends = tt; fewer = e.fewer; cheap = e.cheap })
ends_kept Spent go rest left first others enough e later = absurd e.ends

pub ends_unkept : {P : ℕ → Type 0} (ran : Ran) (go : Going) (rest : List Todo) (left cost : ℕ)
    → EndsWith Nowhere ran left cost →
    EndsWith P (kept_whole ran go rest) left cost
ends_unkept (Hit to seen l) go rest left cost e = absurd e.ends
ends_unkept (Miss l) go rest left cost e = record { ends = tt; fewer = e.fewer; cheap = e.cheap }
ends_unkept Spent go rest left cost e = absurd e.ends

pub ends_tries : (s : Subject) (From P : ℕ → Type 0) (ways : List (List Todo)) (cost fuel at : ℕ)
    (captures : Captures) (left : ℕ) →
    AllEnd s From P ways cost → From at → cost ≤ left → left ≤ fuel
    → EndsWith P (tries (go_on s fuel) ways at captures left) left cost
ends_tries s From P [] cost fuel at captures left all from enough fits = misses_now left cost
ends_tries s From P (way ∷ ways) cost fuel at captures left all from enough fits =
    let first : ℕ = all.0 in
    let others : ℕ = all.1 in
    let sum : first + others ≤ cost = all.2 in
    at_more _ left (first + others) cost sum
    (ends_else (go_on s fuel way at captures left) (λ l. tries (go_on s fuel) ways at captures l) left first others
    (omega arith)
    ((all.3).ends fuel at captures left from (omega arith) fits)
    (λ l enough' below. ends_tries s From P ways others fuel at captures l all.4 from enough' (omega arith)))

-- runs from a place, by the first of what is still to match

module _ {s : Subject} {From P : ℕ → Type 0} where
  pub from_act : (first : Todo) (rest : List Todo) (cost : ℕ) →
      ((fuel at : ℕ) (captures : Captures) (left : ℕ) → From at → cost ≤ left → left ≤ fuel →
      EndsWith P (act s (go_on s fuel) first rest at captures left) left cost) →
      EndsFrom s From P (first ∷ rest) (cost + 1)
  from_act first rest cost acts = record { ends = by_visits }
    where
      by_visits : (fuel at : ℕ) (captures : Captures) (left : ℕ) → From at → cost + 1 ≤ left → left ≤ fuel →
          EndsWith P (go_on s fuel (first ∷ rest) at captures left) left (cost + 1)
      by_visits zero at captures left from enough fits = absurd (omega arith)
      by_visits (suc fuel) at captures zero from enough fits = absurd (omega arith)
      by_visits (suc fuel) at captures (suc left) from enough fits =
          let ran : Ran = act s (go_on s fuel) first rest at captures left in
          let acted : EndsWith P ran left cost = acts fuel at captures left from (omega arith) (omega arith) in
          let fewer : left_of ran ≤ left = acted.fewer in
          let cheap : left ≤ left_of ran + cost = acted.cheap in
          let Ends : Ran → Type 0 = λ r. EndsWith P r (suc left) (cost + 1) in
          let one_more : Ends ran = record { ends = acted.ends; fewer = omega arith; cheap = omega arith } in
          subst Ends (sym (go_on-step s fuel first rest at captures left)) one_more

  -- the end of the list
  pub ends_empty : ((at : ℕ) → From at → P at) → EndsFrom s From P [] 1
  ends_empty there = record { ends = by_visits }
    where
      by_visits : (fuel at : ℕ) (captures : Captures) (left : ℕ) → From at → 1 ≤ left → left ≤ fuel →
          EndsWith P (go_on s fuel [] at captures left) left 1
      by_visits zero at captures left from enough fits = absurd (omega arith)
      by_visits (suc fuel) at captures zero from enough fits = absurd (omega arith)
      by_visits (suc fuel) at captures (suc left) from enough fits =
          let Ends : Ran → Type 0 = λ r. EndsWith P r (suc left) 1 in
          let now : Ends (Hit at captures left) = record
          { ends = there at from; fewer = omega arith; cheap = omega arith } in
          subst Ends (sym (go_on-empty s fuel at captures left)) now

  pub ends_At : (anchor : Anchor) (rest : List Todo) (cost : ℕ) → EndsFrom s From P rest cost
      → EndsFrom s From P (Node (At anchor) ∷ rest) (cost + 1)
  ends_At anchor rest cost is =
      from_act (Node (At anchor)) rest cost (λ fuel at captures left from enough fits.
      ends_where (holds_at anchor s at) (go_on s fuel) rest at captures left cost
      (λ _. is.ends fuel at captures left from enough fits))

  pub ends_Close : (number from : ℕ) (rest : List Todo) (cost : ℕ) → EndsFrom s From P rest cost
      → EndsFrom s From P (Close number from ∷ rest) (cost + 1)
  ends_Close number from rest cost is =
      from_act (Close number from) rest cost (λ fuel at captures left here enough fits. is.ends fuel at _ left here
      enough fits)

  pub ends_Group : (number : ℕ) (body : ListId) (rest : List Todo) (cost : ℕ) →
      ((at : ℕ) → EndsFrom s From P (before s.lists body (Close number at ∷ rest)) cost)
      → EndsFrom s From P (Node (Group number body) ∷ rest) (cost + 1)
  ends_Group number body rest cost is =
      from_act (Node (Group number body)) rest cost
      (λ fuel at captures left here enough fits. (is at).ends fuel at captures left here enough fits)

  pub ends_Choice : (ids : List ListId) (rest : List Todo) (cost : ℕ)
      → AllEnd s From P (map (λ id. before s.lists id rest) ids) cost →
      EndsFrom s From P (Node (Choice ids) ∷ rest) (cost + 1)
  ends_Choice ids rest cost all =
      from_act (Node (Choice ids)) rest cost (λ fuel at captures left here enough fits. ends_tries s From P
      (map (λ id. before s.lists id rest) ids) cost fuel at captures left all here enough fits)

  pub ends_Ahead : {Q : ℕ → Type 0} (body : ListId) (wanted : Bool) (rest : List Todo) (first others : ℕ) →
      EndsFrom s From Q (before s.lists body []) first → EndsFrom s From P rest others
      → EndsFrom s From P (Node (Ahead body wanted) ∷ rest) (first + others + 1)
  ends_Ahead body wanted rest first others is after =
      from_act (Node (Ahead body wanted)) rest (first + others) (λ fuel at captures left here enough fits.
      ends_looked wanted _ (go_on s fuel) rest at captures left first others enough
      (is.ends fuel at captures left here (omega arith) fits)
      (λ seen l enough' below. after.ends fuel at seen l here enough' (omega arith)))

  pub ends_needed : (body : ListId) (rest : List Todo) (cost : ℕ) →
      EndsFrom s From Nowhere (before s.lists body []) cost
      → EndsFrom s From P (Node (Ahead body true) ∷ rest) (cost + 1)
  ends_needed body rest cost is =
      from_act (Node (Ahead body true)) rest cost (λ fuel at captures left here enough fits.
      ends_unseen _ (go_on s fuel) rest at captures left cost (is.ends fuel at captures left here enough fits))

  pub ends_whole : (body : ListId) (rest : List Todo) (cost : ℕ) →
      EndsFrom s From Nowhere (before s.lists body []) cost → EndsFrom s From P (Node (Atomic body) ∷ rest) (cost + 1)
  ends_whole body rest cost is =
      from_act (Node (Atomic body)) rest cost (λ fuel at captures left here enough fits.
      ends_unkept _ (go_on s fuel) rest left cost (is.ends fuel at captures left here enough fits))

  pub ends_Atomic : {Q : ℕ → Type 0} (body : ListId) (rest : List Todo) (first others : ℕ)
      → ((at to : ℕ) → From at → Q to → From to) →
      EndsFrom s From Q (before s.lists body []) first → EndsFrom s From P rest others
      → EndsFrom s From P (Node (Atomic body) ∷ rest) (first + others + 1)
  ends_Atomic body rest first others stays is after =
      from_act (Node (Atomic body)) rest (first + others) (λ fuel at captures left here enough fits.
      ends_kept _ (go_on s fuel) rest left first others enough (is.ends fuel at captures left here (omega arith) fits)
      (λ to seen l there enough' below. after.ends fuel to seen l (stays at to here there) enough' (omega arith)))

  pub ends_Repeat : (body : ListId) (least : ℕ) (most : Option ℕ) (greedy : Bool) (rest : List Todo) (cost : ℕ) →
      ((at : ℕ) → From at → AllEnd s From P (repeat_ways false (nat_lt 0 least) (is_greatest most 0) greedy
      (before s.lists body (Again body least most greedy 1 at ∷ rest)) rest) cost) →
      EndsFrom s From P (Node (Repeat body least most greedy) ∷ rest) (cost + 1)
  ends_Repeat body least most greedy rest cost all =
      from_act (Node (Repeat body least most greedy)) rest cost (λ fuel at captures left here enough fits.
      ends_tries s From P _ cost fuel at captures left (all at here) here enough fits)

  -- an iteration that took nothing ends its repeat
  pub ends_stuck : (body : ListId) (least : ℕ) (most : Option ℕ) (greedy : Bool) (begun : ℕ) (rest : List Todo)
      (cost : ℕ) →
      ((at : ℕ) → From at → at ≡ begun) → EndsFrom s From P rest cost →
      EndsFrom s From P (Again body least most greedy 1 begun ∷ rest) (cost + 1)
  ends_stuck body least most greedy begun rest cost same is =
      from_act (Again body least most greedy 1 begun) rest cost (λ fuel at captures left here enough fits.
      let stuck : (at == begun) ≡ true = rw (same at here) (nat_same begun) in
      let more : List Todo = before s.lists body (Again body least most greedy 2 at ∷ rest) in
      let Ends : Bool → Type 0 = λ b. EndsWith P
      (tries (go_on s fuel) (repeat_ways b (nat_lt 1 least) (is_greatest most 1) greedy more rest) at captures
      left) left cost in
      subst Ends (sym stuck) (ends_tries s From P (rest ∷ []) cost fuel at captures left
      (cost, 0, omega arith, is, tt) here enough fits))
    where
      nat_same : (n : ℕ) → (n == n) ≡ true
      nat_same n = grind arith

-- fewer places, and more ends
pub ends_narrow : {s : Subject} {From Other P Q : ℕ → Type 0} (todo : List Todo) (cost : ℕ)
    → ((at : ℕ) → Other at → From at) →
    ((to : ℕ) → P to → Q to) → EndsFrom s From P todo cost → EndsFrom s Other Q todo cost
ends_narrow {s = s} {P = P} {Q = Q} todo cost from to is =
    record {
      ends = λ fuel at captures left here enough fits. wider _ left cost
          (is.ends fuel at captures left (from at here) enough fits);
    }
  where
    wider : (ran : Ran) (left cost : ℕ) → EndsWith P ran left cost → EndsWith Q ran left cost
    wider (Hit at captures l) left cost e = record { ends = to at e.ends; fewer = e.fewer; cheap = e.cheap }
    wider (Miss l) left cost e = record { ends = tt; fewer = e.fewer; cheap = e.cheap }
    wider Spent left cost e = absurd e.ends
