-- How each visit leads on.
use Rattle.std.proofs.Common.{◌≡◌, ℕ, suc, ◌+◌, ◌<◌, ◌≤◌, ◌==◌, List, [], ◌∷◌, length, refl, sym, ap, ◌∙◌, arith}
use Rattle.std.specs.Prelude.{Bool, true, false, nat_lt, ◌&&◌, Option, Some}
use Rattle.std.proofs.lemmas.List.{length-set}
use Rattle.pattern_defs.specs.declared.nodes.ListId.{ListId}
use Rattle.pattern_defs.specs.declared.nodes.PatNode.TheVariants.{Choice, Group, Ahead, Atomic}
use Rattle.pattern_defs.specs.declared.outcomes.Place.{Place}
use Rattle.pattern_defs.specs.Patterns.{NodeLists}
use Rattle.pattern_defs.specs.Attempt.{Todo, Node, Close, Again, Ran, Hit, Miss, Spent, before, or_else}
use Rattle.pattern_defs.specs.Attempt.{repeats, is_greatest}
use Rattle.onig_match.specs.declared.cells.Rest.{Rest}
use Rattle.onig_match.specs.declared.cells.NodeAt.{NodeAt}
use Rattle.onig_match.specs.declared.cells.Repeated.{Repeated}
use Rattle.onig_match.specs.declared.cells.Cell.{Cell}
use Rattle.onig_match.specs.declared.cells.Cell.TheVariants.{GroupEnd, Iteration}
use Rattle.onig_match.specs.declared.entries.Resume.TheVariants.{Other, Alternatives, AfterAhead, AfterAtomic}
use Rattle.onig_match.specs.declared.entries.Step.TheVariants.{Go, Failed}
use Rattle.onig_match.specs.declared.area.Area.{Area}
use Rattle.onig_match.specs.declared.searched.Searched.{Searched}
use Rattle.onig_match.specs.Goes.{goes}
use Rattle.onig_match.specs.Piles.{Piled}
use Rattle.onig_match.specs.Machine.{subject, chain, todo_of, cell_todo, carried, with_entry, acted, ids_at}
use Rattle.onig_match.specs.Sound.{IsSound, IsHere, Leads, AddsCell, Takes}
use Rattle.onig_match.proofs.Carries.{chain-zero, chain-newest, carry-change}
use Rattle.onig_match.proofs.Steps.{IsRest-widen, AreEntries-widen, AreTaken-set, AreTaken-get, AddsCell-none}
use Rattle.onig_match.proofs.Steps.{AddsCell-new, made, lead_added, lead_entered}

pub or_else_miss : (ran : Ran) → or_else ran (λ left. Miss left) ≡ ran
or_else_miss (Hit at captures left) = refl
or_else_miss (Miss left) = refl
or_else_miss Spent = refl

pub or_else_two : (ran : Ran) (next : ℕ → Ran) →
    or_else ran (λ left. or_else (next left) (λ rest. Miss rest)) ≡ or_else ran next
or_else_two (Hit at captures left) next = refl
or_else_two (Miss left) next = or_else_miss (next left)
or_else_two Spent next = refl

-- the start of a list, before a cell that was just added
abbrev pub start : ListId → ℕ → Rest
start list next = record { list = list; next = next; index = 0 }

pub start_todo : (lists : NodeLists) (cell : Cell) (cells : List Cell) (list : ListId) →
    todo_of lists (cell ∷ cells) (start list (suc (length cells))) ≡ before lists list (cell_todo lists cells cell)
start_todo lists cell cells list = rw (chain-newest lists cell cells (suc (length cells)) refl) refl

-- the start of a list alone
pub start_alone : (lists : NodeLists) (cells : List Cell) (list : ListId) →
    todo_of lists cells (start list 0) ≡ before lists list []
start_alone lists cells list = rw (chain-zero lists cells) refl

-- repeats

abbrev pub more_cells : Area → Repeated → ℕ → Rest → ℕ → Piled Cell
more_cells old repeat count rest at = record
    { room = old.cells.room; items = Iteration repeat (count + 1) at rest ∷ old.cells.items }

abbrev pub with_cells : Area → Piled Cell → Area
with_cells old cells = record { captures = old.captures; cells = cells; entries = old.entries; trail = old.trail }

abbrev pub again : Repeated → ℕ → ℕ → Todo
again repeat count begun = Again repeat.body repeat.least repeat.most repeat.greedy count begun

-- for a repeat that goes on, and whose next iteration got a cell
module _ (on : Searched) (old : Area) (repeat : Repeated) (count begun : ℕ) (rest : Rest) (at : ℕ)
    (here : IsHere on old rest at) (body : repeat.body.0 < length on.pattern.now.lists)
    (low : count ≤ length old.cells.items) (stuck : (nat_lt 0 count && (at == begun)) ≡ false) where
  abbrev grown : Area
  grown = with_cells old (more_cells old repeat count rest at)

  -- one iteration more
  abbrev inner : Rest
  inner = start repeat.body (suc (length old.cells.items))

  abbrev later_todo : List Todo
  later_todo = todo_of on.pattern.now.lists old.cells.items rest

  abbrev inner_todo : List Todo
  inner_todo = before on.pattern.now.lists repeat.body (again repeat (count + 1) at ∷ later_todo)

  adds : AddsCell on old grown
  adds = AddsCell-new on old (Iteration repeat (count + 1) at rest) (more_cells old repeat count rest at) here.sound
      (body, omega arith, here.inside) refl

  inner_is : todo_of on.pattern.now.lists grown.cells.items inner ≡ inner_todo
  inner_is = start_todo on.pattern.now.lists (Iteration repeat (count + 1) at rest) old.cells.items repeat.body

  later_is : todo_of on.pattern.now.lists grown.cells.items rest ≡ later_todo
  later_is = adds.stands on.pattern.now.lists rest here.inside

  -- what the definition does at the repeat
  abbrev repeated : ℕ → Ran
  repeated left =
      repeats (subject on) (goes (subject on)) repeat.body repeat.least repeat.most repeat.greedy count begun later_todo
      at old.captures.items left

  abbrev goes_inner : ℕ → Ran
  goes_inner left = goes (subject on) inner_todo at old.captures.items left

  abbrev goes_later : ℕ → Ran
  goes_later left = goes (subject on) later_todo at old.captures.items left

  pub lead_below : nat_lt count repeat.least ≡ true →
      Leads on 1 old (acted on old (again repeat count begun) rest at) grown (Go (record { rest = inner; at = at }))
  lead_below below =
      let same : (left : ℕ) → goes (subject on) (todo_of on.pattern.now.lists grown.cells.items inner) at
      old.captures.items left ≡ repeated left =
      λ left. rw (inner_is, stuck, below) (sym (or_else_miss _)) in
      lead_added on old grown (acted on old (again repeat count begun) rest at) (Go (record { rest = inner; at = at }))
      adds (record { list = body; next = omega arith }, here.there)
      (λ left. adds.carries _ ∙ ap (λ (ran : Ran). carried (subject on) old ran) (same left))

  pub lead_greedy : nat_lt count repeat.least ≡ false → is_greatest repeat.most count ≡ false →
      repeat.greedy ≡ true →
      Leads on 1 old (acted on old (again repeat count begun) rest at) (with_entry grown (made grown (Other rest) at))
      (Go (record { rest = inner; at = at }))
  lead_greedy below most greedy =
      let same : (left : ℕ) → or_else (goes (subject on) (todo_of on.pattern.now.lists grown.cells.items inner) at
      old.captures.items left)
      (λ left'. goes (subject on) (todo_of on.pattern.now.lists grown.cells.items rest) at old.captures.items left')
      ≡ repeated left =
      λ left. rw (inner_is, later_is, stuck, below, most, greedy) (sym (or_else_two _ goes_later)) in
      lead_entered on old grown (acted on old (again repeat count begun) rest at) (Other rest) at
      (Go (record { rest = inner; at = at })) adds here.there
      (IsRest-widen on.pattern.now (length old.cells.items) (length grown.cells.items) rest here.inside (omega arith))
      (record { list = body; next = omega arith }, here.there)
      (λ left. adds.carries _ ∙ ap (λ (ran : Ran). carried (subject on) old ran) (same left))

  pub lead_lazy : nat_lt count repeat.least ≡ false → is_greatest repeat.most count ≡ false →
      repeat.greedy ≡ false →
      Leads on 1 old (acted on old (again repeat count begun) rest at) (with_entry grown (made grown (Other inner) at))
      (Go (record { rest = rest; at = at }))
  lead_lazy below most greedy =
      let same : (left : ℕ) → or_else (goes (subject on) (todo_of on.pattern.now.lists grown.cells.items rest) at
      old.captures.items left)
      (λ left'. goes (subject on) (todo_of on.pattern.now.lists grown.cells.items inner) at old.captures.items left')
      ≡ repeated left =
      λ left. rw (inner_is, later_is, stuck, below, most, greedy) (sym (or_else_two (goes_later left) _)) in
      lead_entered on old grown (acted on old (again repeat count begun) rest at) (Other inner) at
      (Go (record { rest = rest; at = at })) adds here.there (record { list = body; next = omega arith }) (
        IsRest-widen on.pattern.now (length old.cells.items) (length grown.cells.items) rest here.inside (omega arith),
        here.there,
      )
      (λ left. adds.carries _ ∙ ap (λ (ran : Ran). carried (subject on) old ran) (same left))

-- groups

pub lead_group : (on : Searched) (old : Area) (group : ℕ) (list : ListId) (rest : Rest) (at : ℕ) →
    IsHere on old rest at → group ≤ on.pattern.now.groups → list.0 < length on.pattern.now.lists →
    Leads on 1 old (acted on old (Node (Group group list)) rest at)
    (with_cells old (record { room = old.cells.room; items = GroupEnd group at rest ∷ old.cells.items }))
    (Go (record { rest = start list (suc (length old.cells.items)); at = at }))
lead_group on old group list rest at here numbered inside =
    let cell : Cell = GroupEnd group at rest in
    let cells : Piled Cell = record { room = old.cells.room; items = cell ∷ old.cells.items } in
    let adds : AddsCell on old (with_cells old cells) =
    AddsCell-new on old cell cells here.sound (numbered, here.there, here.inside) refl in
    lead_added on old (with_cells old cells) (acted on old (Node (Group group list)) rest at)
    (Go (record { rest = start list (suc (length old.cells.items)); at = at })) adds
    (record { list = inside; next = omega arith }, here.there)
    (λ left. adds.carries _ ∙ rw (start_todo on.pattern.now.lists cell old.cells.items list) refl)

pub lead_taken : (on : Searched) (old new : Area) (group from : ℕ) (rest : Rest) (at : ℕ) → IsHere on old rest at →
    group ≤ on.pattern.now.groups → from ≤ length on.text.now →
    Takes old new group (Some (record { from = from; to = at })) →
    Leads on 1 old (acted on old (Close group from) rest at) new (Go (record { rest = rest; at = at }))
lead_taken on old new group from rest at here numbered early takes =
    let taken : Option Place = Some (record { from = from; to = at }) in
    let was : IsSound on old = here.sound in
    rw takes.now (record {
      ends = λ left. carry-change (subject on) on.pattern.now (length on.text.now) old.cells.items group takes.before
          taken old.trail.items old.captures.items old.entries.items _ was.entries takes.was;
      sound = record {
        groups = length-set old.captures.items group taken ∙ was.groups;
        captures = AreTaken-set (length on.text.now) old.captures.items group taken was.captures (early, here.there);
        cells = was.cells;
        entries = AreEntries-widen on.pattern.now (length on.text.now) (length old.cells.items)
            (length old.cells.items) (length old.trail.items) (suc (length old.trail.items)) old.entries.items
            was.entries (omega arith) (omega arith);
        trail = (
          numbered,
          AreTaken-get (length on.text.now) old.captures.items group takes.before was.captures
              takes.was,
          was.trail,
        );
      };
      step = (here.inside, here.there);
      room = λ left has. record {
        cells = omega (arith, has.cells);
        entries = omega (arith, has.entries);
        trail = omega (arith, has.trail);
        small = has.small;
      };
      rooms = record { captures = refl; cells = refl; entries = refl; trail = refl };
      falls = omega arith;
    })

-- attempts of their own

pub lead_ahead : (on : Searched) (old : Area) (list : ListId) (wanted : Bool) (rest : Rest) (at : ℕ) →
    IsHere on old rest at → list.0 < length on.pattern.now.lists →
    Leads on 1 old (acted on old (Node (Ahead list wanted)) rest at)
    (with_entry old (made old (AfterAhead wanted rest) at)) (Go (record { rest = start list 0; at = at }))
lead_ahead on old list wanted rest at here inside =
    lead_entered on old old (acted on old (Node (Ahead list wanted)) rest at) (AfterAhead wanted rest) at
    (Go (record { rest = start list 0; at = at })) (AddsCell-none on old here.sound) here.there here.inside
    (record { list = inside; next = omega arith }, here.there)
    (λ left. rw (start_alone on.pattern.now.lists old.cells.items list) refl)

pub lead_atomic : (on : Searched) (old : Area) (list : ListId) (rest : Rest) (at : ℕ) → IsHere on old rest at →
    list.0 < length on.pattern.now.lists →
    Leads on 1 old (acted on old (Node (Atomic list)) rest at) (with_entry old (made old (AfterAtomic rest) at))
    (Go (record { rest = start list 0; at = at }))
lead_atomic on old list rest at here inside =
    lead_entered on old old (acted on old (Node (Atomic list)) rest at) (AfterAtomic rest) at
    (Go (record { rest = start list 0; at = at })) (AddsCell-none on old here.sound) here.there here.inside
    (record { list = inside; next = omega arith }, here.there)
    (λ left. rw (start_alone on.pattern.now.lists old.cells.items list) refl)

-- alternatives

pub lead_choice : (on : Searched) (old area : Area) (node : NodeAt) (next : ℕ) (rest : Rest) (at : ℕ) →
    IsHere on old rest at → node.list.0 < length on.pattern.now.lists → AddsCell on old area →
    next ≤ length area.cells.items →
    chain on.pattern.now.lists area.cells.items next ≡ todo_of on.pattern.now.lists old.cells.items rest →
    Leads on 1 old (acted on old (Node (Choice (ids_at on.pattern.now.lists node))) rest at)
    (with_entry area (made area (Alternatives node 0 next) at)) Failed
lead_choice on old area node next rest at here inside adds low stands =
    lead_entered on old area (acted on old (Node (Choice (ids_at on.pattern.now.lists node))) rest at)
    (Alternatives node 0 next) at
    Failed adds here.there (inside, low) tt
    (λ left. adds.carries _ ∙ rw (stands, adds.captures) refl)
