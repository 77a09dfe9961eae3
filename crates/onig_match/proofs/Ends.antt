-- How an attempt ends when no entry is left, and what each turn of it keeps.
use Rattle.std.proofs.Common.{◌≡◌, ℕ, zero, suc, ◌+◌, ◌-◌, ◌*◌, ◌<◌, ◌≤◌, List, [], ◌∷◌, length, replicate, refl, sym}
use Rattle.std.proofs.Common.{subst, ◌∙◌, arith}
use Rattle.std.specs.Prelude.{true, false, Option, Some, None, slice_set}
use Rattle.std.proofs.lemmas.List.{length-replicate}
use Rattle.pattern_defs.specs.declared.nodes.ListId.{ListId}
use Rattle.pattern_defs.specs.declared.outcomes.Flags.{Flags}
use Rattle.pattern_defs.specs.declared.outcomes.Outcome.TheVariants as outcomes
use Rattle.pattern_defs.specs.declared.outcomes.Place.{Place}
use Rattle.pattern_defs.specs.Patterns.{Tree}
use Rattle.pattern_defs.specs.Attempt.{Subject, Captures, Ran, Hit, Miss, Spent, before, attempt, with_whole}
use Rattle.pattern_defs.specs.Attempt.{outcome_of, last_hit_captures}
use Rattle.onig_match.specs.declared.cells.Rest.{Rest}
use Rattle.onig_match.specs.declared.cells.Cell.{Cell}
use Rattle.onig_match.specs.declared.entries.Change.{Change}
use Rattle.onig_match.specs.declared.entries.End.TheVariants as ends
use Rattle.onig_match.specs.declared.entries.Entry.{Entry}
use Rattle.onig_match.specs.declared.entries.Point.{Point}
use Rattle.onig_match.specs.declared.entries.Resume.{Resume}
use Rattle.onig_match.specs.declared.entries.Resume.TheVariants.{Other, Alternatives, AfterAhead, AfterBehind}
use Rattle.onig_match.specs.declared.entries.Resume.TheVariants.{AfterAtomic, GiveBack}
use Rattle.onig_match.specs.declared.entries.Step.{Step}
use Rattle.onig_match.specs.declared.entries.Step.TheVariants.{Go, Failed}
use Rattle.onig_match.specs.declared.entries.Visited.{Visited}
use Rattle.onig_match.specs.declared.area.Area.{Area}
use Rattle.onig_match.specs.declared.searched.Searched.{Searched}
use Rattle.onig_match.specs.Goes.{goes}
use Rattle.onig_match.specs.Piles.{Piled}
use Rattle.onig_match.specs.Machine.{subject, kept, captures_at, todo_of, resumed, carry, carried, means, with_entry}
use Rattle.onig_match.specs.Machine.{end_of, rank}
use Rattle.onig_match.specs.Sound.{AreTaken, IsSound, IsStep, HasRoom, SameRooms, Leads, Visits}
use Rattle.onig_match.specs.Sound.{Returns}
use Rattle.onig_match.proofs.VisitCounts.{goes-zero}
use Rattle.onig_match.proofs.VisitSteps.{start, start_alone}

pub begins : (on : Searched) (old : Area) (at budget : ℕ) (rest : Rest) (top : ListId) → rest ≡ start top 0 →
    old.entries.items ≡ [] →
    means (subject on) old (Go (record { rest = rest; at = at })) budget
    ≡ goes (subject on) (before on.pattern.now.lists top []) at old.captures.items budget
begins on old at budget rest top e none = rw (e, none, start_alone on.pattern.now.lists old.cells.items top) refl

-- the budget is spent

resumed-spent : (s : Subject) (cells : List Cell) (captures : Captures) (resume : Resume) (at : ℕ) →
    resumed s cells captures resume at Spent ≡ Spent
resumed-spent s cells captures (Other rest) at = refl
resumed-spent s cells captures (Alternatives node way next) at = refl
resumed-spent s cells captures (AfterAhead true rest) at = refl
resumed-spent s cells captures (AfterAhead false rest) at = refl
resumed-spent s cells captures (AfterBehind node arm true rest) at = refl
resumed-spent s cells captures (AfterBehind node arm false rest) at = refl
resumed-spent s cells captures (AfterAtomic rest) at = refl
resumed-spent s cells captures (GiveBack more rest) at = refl

pub carry-spent : (s : Subject) (cells : List Cell) (trail : List Change) (captures : Captures) (entries : List Entry) →
    carry s cells trail captures entries Spent ≡ Spent
carry-spent s cells trail captures [] = refl
carry-spent s cells trail captures (entry ∷ entries) =
    rw (resumed-spent s (kept entry.cells cells) (captures_at entry.trail trail captures) entry.resume entry.at)
    (carry-spent s (kept entry.cells cells) (kept entry.trail trail) (captures_at entry.trail trail captures) entries)

pub spent : (on : Searched) (area : Area) (step : Step) (point : Point) (left : ℕ) (answer : Ran) →
    step ≡ Go point → left ≡ 0 → means (subject on) area step left ≡ answer → answer ≡ Spent
spent on area step point left answer e none is =
    let now : means (subject on) area (Go point) 0 ≡ answer = rw (e, none) at is in
    sym now ∙ rw (goes-zero (subject on) (todo_of on.pattern.now.lists area.cells.items point.rest) point.at
    area.captures.items)
    (carry-spent (subject on) area.cells.items area.trail.items area.captures.items area.entries.items)

-- one turn

pub record Turns (on : Searched) (initial new : Area) (result : Step) (left : ℕ) (answer : Ran) (before_it : ℕ) : Type
    0 where
  pub ends : means (subject on) new result left ≡ answer
  pub sound : IsSound on new
  pub step : IsStep on (length new.cells.items) result
  pub room : HasRoom new left
  pub rooms : SameRooms initial new
  pub falls : 4 * left + 2 * length new.entries.items + rank result < before_it

rooms_join : (a b c : Area) → SameRooms a b → SameRooms b c → SameRooms a c
rooms_join a b c ab bc = record {
  captures = bc.captures ∙ ab.captures;
  cells = bc.cells ∙ ab.cells;
  entries = bc.entries ∙ ab.entries;
  trail = bc.trail ∙ ab.trail;
}

-- the budget ends within the step
pub spent_within : (on : Searched) (self new : Area) (step : Step) (visited : Visited) (point : Point) (left : ℕ)
    (answer : Ran) → step ≡ Go point → (left ≡ 0 → ⊥) → left - 1 < visited.more →
    means (subject on) self step left ≡ answer →
    Visits on self (λ l. means (subject on) self (Go point) (suc l)) new visited → answer ≡ Spent
spent_within on self new step visited point left answer e some low is visits =
    let one : suc (left - 1) ≡ left = omega (arith, some) in
    let now : means (subject on) self (Go point) left ≡ answer = rw e at is in
    sym now ∙ rw one at (visits.spent (left - 1) low)

pub after_visit : (on : Searched) (initial self new : Area) (step : Step) (visited : Visited) (point : Point)
    (left : ℕ) (answer : Ran) → step ≡ Go point → (left ≡ 0 → ⊥) → visited.more ≤ left - 1 →
    means (subject on) self step left ≡ answer → HasRoom self left → SameRooms initial self →
    Visits on self (λ l. means (subject on) self (Go point) (suc l)) new visited →
    Turns on initial new visited.step (left - 1 - visited.more) answer
    (4 * left + 2 * length self.entries.items + rank step)
after_visit on initial self new step visited point left answer e some enough is has rooms visits =
    let one : suc (left - 1 - visited.more + visited.more) ≡ left = omega (arith, some, enough) in
    let more : left - 1 - visited.more + (visited.more + 1) ≡ left = omega (arith, some, enough) in
    let now : means (subject on) self (Go point) left ≡ answer = rw e at is in
    record {
      ends = visits.leads.ends (left - 1 - visited.more) ∙ rw one now;
      sound = visits.leads.sound;
      step = visits.leads.step;
      room = visits.leads.room (left - 1 - visited.more) (rw more has);
      rooms = rooms_join initial self new rooms visits.leads.rooms;
      falls = omega (arith, visits.leads.falls, some, enough);
    }

popped : (self : Area) (rest : Piled Entry) (entry : Entry) → self.entries.items ≡ entry ∷ rest.items →
    rest.room ≡ self.entries.room →
    with_entry (record { captures = self.captures; cells = self.cells; entries = rest; trail = self.trail }) entry
    ≡ self
popped self rest entry items room = rw (room, ← items) refl

pub after_pop : (on : Searched) (initial self new : Area) (rest : Piled Entry) (entry : Entry) (step result : Step)
    (ran : Area → ℕ → Ran) (left : ℕ) (answer : Ran) → self.entries.items ≡ entry ∷ rest.items → rest.room
    ≡ self.entries.room → ((l : ℕ) → means (subject on) self step l ≡ carried (subject on) self (ran self l))
    → rank step ≡ 1 → means (subject on) self step left ≡ answer → HasRoom self left → SameRooms initial self
    → Leads on 0 (with_entry (record {
      captures = self.captures;
      cells = self.cells;
      entries = rest;
      trail =
          self.trail;
    }) entry) (λ l. carried (subject on)
    (with_entry (record {
      captures = self.captures;
      cells = self.cells;
      entries = rest;
      trail =
          self.trail;
    }) entry) (ran (with_entry (record
    { captures = self.captures; cells = self.cells; entries = rest; trail = self.trail }) entry) l))
    new result → Turns on initial new result left answer
    (4 * left + 2 * length self.entries.items + rank step)
after_pop on initial self new rest entry step result ran left answer items room same ended is has rooms led =
    let leads : Leads on 0 self (λ l. carried (subject on) self (ran self l)) new result =
    subst (λ (a : Area). Leads on 0 a (λ l. carried (subject on) a (ran a l)) new result)
    (popped self rest entry items room) led in
    let none : left + 0 ≡ left = omega arith in
    record {
      ends = leads.ends left ∙ sym (same left) ∙ is;
      sound = leads.sound;
      step = leads.step;
      room = leads.room left (rw none has);
      rooms = rooms_join initial self new rooms leads.rooms;
      falls = omega (arith, leads.falls, ended);
    }

-- the same where visits were done on going back

pub spent_back : (on : Searched) (self new : Area) (rest : Piled Entry) (entry : Entry) (back : Visited) (left : ℕ)
    (answer : Ran) → self.entries.items ≡ entry ∷ rest.items → rest.room ≡ self.entries.room → left < back.more →
    means (subject on) self Failed left ≡ answer →
    Returns on (with_entry (record { captures = self.captures; cells = self.cells; entries = rest; trail = self.trail })
    entry) (λ l. carried (subject on)
    (with_entry (record { captures = self.captures; cells = self.cells; entries = rest; trail = self.trail }) entry)
    (Miss l)) new back → answer ≡ Spent
spent_back on self new rest entry back left answer items room low is led =
    let returns : Returns on self (λ l. carried (subject on) self (Miss l)) new back =
    subst (λ (a : Area). Returns on a (λ l. carried (subject on) a (Miss l)) new back)
    (popped self rest entry items room) led in
    sym is ∙ returns.spent left low

pub after_back : (on : Searched) (initial self new : Area) (rest : Piled Entry) (entry : Entry) (back : Visited)
    (left : ℕ) (answer : Ran) → self.entries.items ≡ entry ∷ rest.items → rest.room ≡ self.entries.room →
    back.more ≤ left → means (subject on) self Failed left ≡ answer → HasRoom self left → SameRooms initial self →
    Returns on (with_entry (record { captures = self.captures; cells = self.cells; entries = rest; trail = self.trail })
    entry) (λ l. carried (subject on)
    (with_entry (record { captures = self.captures; cells = self.cells; entries = rest; trail = self.trail }) entry)
    (Miss l)) new back →
    Turns on initial new back.step (left - back.more) answer (4 * left + 2 * length self.entries.items + rank Failed)
after_back on initial self new rest entry back left answer items room enough is has rooms led =
    let returns : Returns on self (λ l. carried (subject on) self (Miss l)) new back =
    subst (λ (a : Area). Returns on a (λ l. carried (subject on) a (Miss l)) new back)
    (popped self rest entry items room) led in
    let whole : left - back.more + back.more ≡ left = omega (arith, enough) in
    record {
      ends = returns.leads.ends (left - back.more) ∙ rw whole is;
      sound = returns.leads.sound;
      step = returns.leads.step;
      room = returns.leads.room (left - back.more) (rw whole has);
      rooms = rooms_join initial self new rooms returns.leads.rooms;
      falls = omega (arith, returns.leads.falls, enough);
    }

-- the end

pub attempt-goes : (tree : Tree) (text : List ℕ) (at : ℕ) (flags : Flags) (budget : ℕ) →
    attempt tree text at flags budget ≡ with_whole at (goes
    (record { lists = tree.lists; text = text; flags = flags })
    (before tree.lists tree.top []) at (replicate (tree.groups + 1) None) budget)
unfolding goes
attempt-goes tree text at flags budget = refl

pub found_outcome : (ran : Ran) (at end : ℕ) → ends.Found end ≡ end_of ran →
    outcomes.Hit ≡ outcome_of (with_whole at ran)
found_outcome (Hit place captures left) at end e = refl
found_outcome (Miss left) at end e = cc
found_outcome Spent at end e = cc

pub found_hit : (ran : Ran) (at end : ℕ) (captures last : Captures) → ends.Found end ≡ end_of ran →
    captures ≡ last_hit_captures ran captures →
    slice_set captures 0 (Some (record { from = at; to = end })) ≡ last_hit_captures (with_whole at ran) last
found_hit (Hit place seen left) at end captures last e is = let same : end ≡ place = cc in rw (same, is) refl
found_hit (Miss left) at end captures last e is = cc
found_hit Spent at end captures last e is = cc

pub failed_outcome : (ran : Ran) (at : ℕ) → ends.Failed ≡ end_of ran → outcomes.Miss ≡ outcome_of (with_whole at ran)
failed_outcome (Hit place captures left) at e = cc
failed_outcome (Miss left) at e = refl
failed_outcome Spent at e = cc

pub failed_hit : (ran : Ran) (at : ℕ) (last : Captures) → ends.Failed ≡ end_of ran →
    last ≡ last_hit_captures (with_whole at ran) last
failed_hit (Hit place captures left) at last e = cc
failed_hit (Miss left) at last e = refl
failed_hit Spent at last e = refl

pub spent_outcome : (ran : Ran) (at : ℕ) → ends.Spent ≡ end_of ran → outcomes.Spent ≡ outcome_of (with_whole at ran)
spent_outcome (Hit place captures left) at e = cc
spent_outcome (Miss left) at e = cc
spent_outcome Spent at e = refl

pub spent_hit : (ran : Ran) (at : ℕ) (last : Captures) → ends.Spent ≡ end_of ran →
    last ≡ last_hit_captures (with_whole at ran) last
spent_hit (Hit place captures left) at last e = cc
spent_hit (Miss left) at last e = refl
spent_hit Spent at last e = refl

-- the start

AreTaken-none : (chars n : ℕ) → AreTaken chars (replicate n None)
AreTaken-none chars zero = tt
AreTaken-none chars (suc n) = (tt, AreTaken-none chars n)

pub sound_empty : (on : Searched) (area : Area) (captures_room cells_room entries_room trail_room : ℕ) →
    area ≡ record {
      captures = record { room = captures_room; items = replicate (on.pattern.now.groups + 1) None };
      cells = record { room = cells_room; items = [] };
      entries =
          record { room = entries_room; items = [] };
      trail = record { room = trail_room; items = [] };
    }
    → IsSound on area
sound_empty on area captures_room cells_room entries_room trail_room e =
    rw e (record {
      groups = length-replicate {A = Option Place} (on.pattern.now.groups + 1) None;
      captures = AreTaken-none (length on.text.now) (on.pattern.now.groups + 1);
      cells = tt;
      entries = tt;
      trail = tt;
    })
