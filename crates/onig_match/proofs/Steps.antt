-- What holds of the stack after each change of it, and how a step leads on.
use Rattle.std.proofs.Common.{◌≡◌, ℕ, zero, suc, ◌+◌, ◌-◌, ◌<◌, ◌≤◌, List, [], ◌∷◌, length, take, drop, refl, sym, ap}
use Rattle.std.proofs.Common.{subst, ◌∙◌, arith}
use Rattle.std.specs.Prelude.{Option, Some, slice_get, slice_set}
use Rattle.std.proofs.lemmas.List.{length-set}
use Rattle.pattern_defs.specs.declared.outcomes.Place.{Place}
use Rattle.pattern_defs.specs.Patterns.{NodeLists, Tree}
use Rattle.pattern_defs.specs.Attempt.{Captures, Todo, Close, Again, Ran}
use Rattle.onig_match.specs.declared.cells.Rest.{Rest}
use Rattle.onig_match.specs.declared.cells.Cell.{Cell}
use Rattle.onig_match.specs.declared.cells.Cell.TheVariants.{Nodes, GroupEnd, Iteration}
use Rattle.onig_match.specs.declared.entries.Change.{Change}
use Rattle.onig_match.specs.declared.entries.Entry.{Entry}
use Rattle.onig_match.specs.declared.entries.Resume.{Resume}
use Rattle.onig_match.specs.declared.entries.Step.{Step}
use Rattle.onig_match.specs.declared.entries.Step.TheVariants.{Go, Found, Failed}
use Rattle.onig_match.specs.declared.area.Area.{Area}
use Rattle.onig_match.specs.declared.searched.Searched.{Searched}
use Rattle.onig_match.specs.Piles.{Piled}
use Rattle.onig_match.specs.Machine.{subject, kept, chain, cell_todo, undone, captures_at, resumed, carried, ran_of}
use Rattle.onig_match.specs.Machine.{with_entry, rank}
use Rattle.onig_match.specs.Sound.{IsRest, IsCell, AreCells, IsResume, AreEntries, IsTaken, AreTaken, AreChanges}
use Rattle.onig_match.specs.Sound.{IsSound, IsStep, HasRoom, SameRooms, Leads, Visits, AddsCell}
use Rattle.onig_match.proofs.Carries.{chain-older, chain-newest, todo_of-older, carry-cell, carry-entry}

-- what holds of the parts

pub IsRest-widen : (tree : Tree) (a b : ℕ) (rest : Rest) → IsRest tree a rest → a ≤ b → IsRest tree b rest
IsRest-widen tree a b rest is h = record { list = is.list; next = omega (arith, is.next) }

pub AreEntries-widen : (tree : Tree) (chars a b c d : ℕ) (entries : List Entry) →
    AreEntries tree chars a c entries → a ≤ b → c ≤ d → AreEntries tree chars b d entries
AreEntries-widen tree chars a b c d [] are h k = tt
AreEntries-widen tree chars a b c d (entry ∷ entries) are h k = (
  record {
    below = omega (arith, are.0.below);
    before = omega (arith, are.0.before);
    at = are.0.at;
    resume =
        are.0.resume;
  },
  are.1,
)

pub AreCells-drop : (tree : Tree) (chars k : ℕ) (cells : List Cell) → AreCells tree chars cells →
    AreCells tree chars (drop k cells)
AreCells-drop tree chars zero cells are = are
AreCells-drop tree chars (suc k) [] are = tt
AreCells-drop tree chars (suc k) (cell ∷ cells) are = AreCells-drop tree chars k cells are.1

pub AreChanges-drop : (tree : Tree) (chars k : ℕ) (trail : List Change) → AreChanges tree chars trail →
    AreChanges tree chars (drop k trail)
AreChanges-drop tree chars zero trail are = are
AreChanges-drop tree chars (suc k) [] are = tt
AreChanges-drop tree chars (suc k) (change ∷ trail) are = AreChanges-drop tree chars k trail are.2

pub AreTaken-set : (chars : ℕ) (captures : Captures) (n : ℕ) (taken : Option Place) → AreTaken chars captures →
    IsTaken chars taken → AreTaken chars (slice_set captures n taken)
AreTaken-set chars [] n taken are is = tt
AreTaken-set chars (x ∷ xs) zero taken are is = (is, are.1)
AreTaken-set chars (x ∷ xs) (suc n) taken are is = (are.0, AreTaken-set chars xs n taken are.1 is)

pub AreTaken-get : (chars : ℕ) (captures : Captures) (n : ℕ) (taken : Option Place) → AreTaken chars captures →
    slice_get captures n ≡ Some taken → IsTaken chars taken
AreTaken-get chars [] n taken are e = cc
AreTaken-get chars (x ∷ xs) zero taken are e = let same : x ≡ taken =
    cc in subst (λ (v : Option Place). IsTaken chars v) same are.0
AreTaken-get chars (x ∷ xs) (suc n) taken are e = AreTaken-get chars xs n taken are.1 e

pub AreTaken-undone : (tree : Tree) (chars k : ℕ) (trail : List Change) (captures : Captures) →
    AreTaken chars captures → AreChanges tree chars trail → AreTaken chars (undone (take k trail) captures)
AreTaken-undone tree chars zero trail captures are changes = are
AreTaken-undone tree chars (suc k) [] captures are changes = are
AreTaken-undone tree chars (suc k) (change ∷ trail) captures are changes =
    AreTaken-undone tree chars k trail (slice_set captures change.number change.old)
    (AreTaken-set chars captures change.number change.old are changes.1) changes.2

pub length-undone : (k : ℕ) (trail : List Change) (captures : Captures) →
    length (undone (take k trail) captures) ≡ length captures
length-undone zero trail captures = refl
length-undone (suc k) [] captures = refl
length-undone (suc k) (change ∷ trail) captures =
    length-undone k trail (slice_set captures change.number change.old) ∙ length-set captures change.number change.old

-- a cell by its number

cell_todo-older : (lists : NodeLists) (tree : Tree) (chars below : ℕ) (newest : Cell) (cells : List Cell)
    (cell : Cell) → IsCell tree chars below cell → below ≤ length cells → cell_todo lists (newest ∷ cells) cell
    ≡ cell_todo lists cells cell
cell_todo-older lists tree chars below newest cells (Nodes rest) is h =
    todo_of-older lists newest cells rest (omega (arith, is.next))
cell_todo-older lists tree chars below newest cells (GroupEnd group from rest) is h =
    ap (λ (todo : List Todo). Close group from ∷ todo)
    (todo_of-older lists newest cells rest (omega (arith, is.2.next)))
cell_todo-older lists tree chars below newest cells (Iteration repeat count begun rest) is h =
    ap (λ (todo : List Todo). Again repeat.body repeat.least repeat.most repeat.greedy count begun ∷ todo)
    (todo_of-older lists newest cells rest (omega (arith, is.2.next)))

-- what a cell that was read stands for
pub record IsRead (lists : NodeLists) (tree : Tree) (chars : ℕ) (cells : List Cell) (number : ℕ) (cell : Cell) : Type
    0 where
  pub stands : chain lists cells number ≡ cell_todo lists cells cell
  pub is : IsCell tree chars (number - 1) cell

cell_read : (lists : NodeLists) (tree : Tree) (chars : ℕ) (cells : List Cell) (k number : ℕ) (cell : Cell) →
    AreCells tree chars cells → slice_get cells k ≡ Some cell → number + k ≡ length cells → 0 < number →
    IsRead lists tree chars cells number cell
cell_read lists tree chars [] k number cell are e many h = cc
cell_read lists tree chars (newest ∷ cells) zero number cell are e many h =
    let same : newest ≡ cell = cc in
    let last : number ≡ suc (length cells) = omega arith in
    let below : length cells ≡ number - 1 = omega arith in
    let is : IsCell tree chars (length cells) newest = are.0 in
    let stands : chain lists (newest ∷ cells) number ≡ cell_todo lists (newest ∷ cells) newest =
    chain-newest lists newest cells number last
    ∙ sym (cell_todo-older lists tree chars (length cells) newest cells newest is (omega arith)) in
    subst (λ (v : Cell). IsRead lists tree chars (newest ∷ cells) number v) same
    (record { stands = stands; is = subst (λ (b : ℕ). IsCell tree chars b newest) below is })
cell_read lists tree chars (newest ∷ cells) (suc k) number cell are e many h =
    let older : IsRead lists tree chars cells number cell =
    cell_read lists tree chars cells k number cell are.1 e (omega arith) h in
    record {
      stands = chain-older lists newest cells number (omega arith) ∙ older.stands
          ∙ sym (cell_todo-older lists tree chars (number - 1) newest cells cell older.is (omega arith));
      is = older.is;
    }

pub cell_at : (lists : NodeLists) (tree : Tree) (chars : ℕ) (cells : List Cell) (number : ℕ) (cell : Cell) →
    AreCells tree chars cells → 0 < number → number ≤ length cells →
    slice_get cells (length cells - number) ≡ Some cell → IsRead lists tree chars cells number cell
cell_at lists tree chars cells number cell are h low e =
    cell_read lists tree chars cells (length cells - number) number cell are e (omega arith) h

-- after a cell is added

pub AddsCell-none : (on : Searched) (area : Area) → IsSound on area → AddsCell on area area
AddsCell-none on area sound = record {
  carries = λ ran. refl;
  sound = sound;
  captures = refl;
  entries = refl;
  trail = refl;
  room = refl;
  grows = omega arith;
  at_most = omega arith;
  stands = λ lists rest is. refl;
}

pub AddsCell-new : (on : Searched) (area : Area) (cell : Cell) (cells : Piled Cell) → IsSound on area →
    IsCell on.pattern.now (length on.text.now) (length area.cells.items) cell →
    cells ≡ record { room = area.cells.room; items = cell ∷ area.cells.items } →
    AddsCell on area (record { captures = area.captures; cells = cells; entries = area.entries; trail = area.trail })
AddsCell-new on area cell cells sound is e =
    rw e (record {
      carries = λ ran. carry-cell (subject on) on.pattern.now (length on.text.now) cell area.cells.items
          area.trail.items area.captures.items area.entries.items ran sound.entries;
      sound = record {
        groups = sound.groups;
        captures = sound.captures;
        cells = (is, sound.cells);
        entries = AreEntries-widen on.pattern.now (length on.text.now) (length area.cells.items)
            (suc (length area.cells.items)) (length area.trail.items) (length area.trail.items) area.entries.items
            sound.entries (omega arith) (omega arith);
        trail = sound.trail;
      };
      captures = refl;
      entries = refl;
      trail = refl;
      room = refl;
      grows = omega arith;
      at_most = omega arith;
      stands = λ lists rest in_range. todo_of-older lists cell area.cells.items rest in_range.next;
    })

-- how a step leads on

pub rank_small : (step : Step) → rank step ≤ 1
rank_small (Go point) = omega arith
rank_small (Found at) = omega arith
rank_small Failed = omega arith

-- the entry that is made at a place
abbrev pub made : Area → Resume → ℕ → Entry
made area resume at = record {
  resume = resume;
  at = at;
  cells = length area.cells.items;
  trail =
      length area.trail.items;
}

pub sound_entered : (on : Searched) (area : Area) (resume : Resume) (at : ℕ) → IsSound on area →
    at ≤ length on.text.now → IsResume on.pattern.now (length area.cells.items) resume →
    IsSound on (with_entry area (made area resume at))
sound_entered on area resume at sound there is = record {
  groups = sound.groups;
  captures = sound.captures;
  cells = sound.cells;
  entries = (record { below = omega arith; before = omega arith; at = there; resume = is }, sound.entries);
  trail = sound.trail;
}

-- how a step leads on where at most a cell was added
module _ (on : Searched) (old area : Area) (answer : ℕ → Ran) where
  -- there is room for a visit less, and for one entry
  fits : AddsCell on old area → (left : ℕ) → HasRoom old (left + 1) →
      HasRoom area left × (length area.entries.items + 1 + left ≤ area.entries.room)
  fits adds left has = (
    record {
      cells = omega (arith, has.cells, adds.at_most, adds.room);
      entries = rw adds.entries (omega (arith, has.entries));
      trail = rw adds.trail (omega (arith, has.trail));
      small = omega (arith, has.small, adds.room);
    },
    rw adds.entries (omega (arith, has.entries)),
  )

  same_rooms : AddsCell on old area → SameRooms old area
  same_rooms adds = record {
    captures = ap (λ (p : Piled (Option Place)). p.room) adds.captures;
    cells = adds.room;
    entries = ap (λ (p : Piled Entry). p.room) adds.entries;
    trail = ap (λ (p : Piled Change). p.room) adds.trail;
  }

  pub lead_added : (result : Step) → AddsCell on old area → IsStep on (length area.cells.items) result →
      ((left : ℕ) → carried (subject on) area (ran_of (subject on) area result left) ≡ answer left) →
      Leads on 1 old answer area result
  lead_added result adds step ends = record {
    ends = ends;
    sound = adds.sound;
    step = step;
    room = λ left has. (fits adds left has).0;
    rooms = same_rooms adds;
    falls = rw adds.entries (omega (arith, rank_small result));
  }

  -- and then an entry was made
  pub lead_entered : (resume : Resume) (at : ℕ) (result : Step) → AddsCell on old area →
      at ≤ length on.text.now → IsResume on.pattern.now (length area.cells.items) resume →
      IsStep on (length area.cells.items) result →
      ((left : ℕ) → carried (subject on) area (resumed (subject on) area.cells.items area.captures.items resume at
      (ran_of (subject on) area result left)) ≡ answer left) →
      Leads on 1 old answer (with_entry area (made area resume at)) result
  lead_entered resume at result adds there is step ends = record {
    ends = λ left.
        carry-entry (subject on) area.cells.items area.trail.items area.captures.items (made area resume at)
        area.entries.items (ran_of (subject on) (with_entry area (made area resume at)) result left) refl refl
        ∙ ends left;
    sound = sound_entered on area resume at adds.sound there is;
    step = step;
    room = λ left has. record {
      cells = (fits adds left has).0.cells;
      entries = omega (arith, (fits adds left has).1);
      trail = (fits adds left has).0.trail;
      small = (fits adds left has).0.small;
    };
    rooms = record {
      captures = (same_rooms adds).captures;
      cells = adds.room;
      entries = (same_rooms adds).entries;
      trail = (same_rooms adds).trail;
    };
    falls = rw adds.entries (omega (arith, rank_small result));
  }

-- a visit with no more of them in the same step
pub visits_once : (on : Searched) (old : Area) (answer : ℕ → Ran) (new : Area) (step : Step) →
    Leads on 1 old answer new step → Visits on old answer new (record { step = step; more = 0 })
visits_once on old answer new step leads =
    let none : (left : ℕ) → left + 0 ≡ left = λ left. omega arith in
    record {
      leads = record {
        ends = λ left. leads.ends left ∙ rw (none left) refl;
        sound = leads.sound;
        step = leads.step;
        room = leads.room;
        rooms = leads.rooms;
        falls = leads.falls;
      };
      spent = λ left low. absurd (omega arith);
    }

-- going back over one change

pub record GoesBack (height : ℕ) (trail older : List Change) (captures : Captures) (change : Change) : Type 0 where
  pub captures_stay : captures_at height older (slice_set captures change.number change.old)
      ≡ captures_at height trail captures
  pub kept_stay : kept height older ≡ kept height trail

pub goes_back : (height : ℕ) (trail older : List Change) (captures : Captures) (change : Change) →
    trail ≡ change ∷ older → height < length trail → GoesBack height trail older captures change
goes_back height trail older captures change e low =
    let many : length trail ≡ suc (length older) = ap length e in
    let further : suc (length older) - height ≡ suc (length older - height) = omega arith in
    rw e (record { captures_stay = rw further refl; kept_stay = rw further refl })
