-- How a greedy repeat of a single character leads on, and how going back within it does.
use Rattle.std.proofs.Common.{◌≡◌, ℕ, suc, ◌+◌, ◌-◌, ◌<◌, ◌≤◌, List, [], ◌∷◌, length, refl, sym, ap}
use Rattle.std.proofs.Common.{◌∙◌, arith}
use Rattle.std.specs.Prelude.{true, false, Option}
use Rattle.char_sets.specs.Ranges.{in_set}
use Rattle.char_sets.specs.declared.char_set.CharRange.{CharRange}
use Rattle.pattern_defs.specs.declared.nodes.ListId.{ListId}
use Rattle.pattern_defs.specs.declared.nodes.PatNode.TheVariants.{One, Repeat}
use Rattle.pattern_defs.specs.Patterns.{nodes_of, AreBounds}
use Rattle.pattern_defs.specs.Attempt.{Todo, Node, Ran, Miss, Spent, is_greatest}
use Rattle.onig_match.specs.declared.cells.Rest.{Rest}
use Rattle.onig_match.specs.declared.entries.Resume.TheVariants.{GiveBack}
use Rattle.onig_match.specs.declared.entries.Step.{Step}
use Rattle.onig_match.specs.declared.entries.Step.TheVariants.{Go, Failed}
use Rattle.onig_match.specs.declared.area.Area.{Area}
use Rattle.onig_match.specs.declared.searched.Searched.{Searched}
use Rattle.onig_match.specs.Goes.{goes}
use Rattle.onig_match.specs.Machine.{subject, todo_of, carried, acted, with_entry, given_back}
use Rattle.onig_match.specs.Sound.{IsHere, Leads, Visits, IsRun}
use Rattle.onig_match.proofs.Steps.{AddsCell-none, lead_added, lead_entered, made}
use Rattle.onig_match.proofs.Ends.{carry-spent}
use Rattle.onig_match.proofs.RunVisits.{last_look, not_greatest, runs_first, run-enough, run-few, run-spent}

-- a step that takes room for one visit takes none for more of them
pub leads_wider : (on : Searched) (more : ℕ) (old : Area) (answer : ℕ → Ran) (new : Area) (result : Step) →
    Leads on 1 old answer new result → Leads on (more + 1) old answer new result
leads_wider on more old answer new result leads = record {
  ends = leads.ends;
  sound = leads.sound;
  step = leads.step;
  room = λ left has. leads.room left (record {
    cells = omega (arith, has.cells);
    entries = omega (arith, has.entries);
    trail = omega (arith, has.trail);
    small = has.small;
  });
  rooms = leads.rooms;
  falls = omega (arith, leads.falls);
}

-- for a run at a place
module _ (on : Searched) (old : Area) (set : List CharRange) (body : ListId) (least : ℕ) (most : Option ℕ) (rest : Rest)
    (at taken : ℕ) (here : IsHere on old rest at) (is : nodes_of on.pattern.now.lists body ≡ One set ∷ [])
    (bounds : AreBounds least most) (run : IsRun (in_set set) on.text.now at most taken)
    (within : at + taken ≤ length on.text.now) where
  abbrev more : ℕ
  more = taken + taken + last_look most taken

  abbrev behind : List Todo
  behind = todo_of on.pattern.now.lists old.cells.items rest

  abbrev repeat_ends : ℕ → Ran
  repeat_ends left = acted on old (Node (Repeat body least most true)) rest at left

  same_place : (0 + taken) ≡ taken
  same_place = omega arith

  spends : (left : ℕ) → left < more → repeat_ends left ≡ Spent
  spends left low =
      ap (λ (ran : Ran). carried (subject on) old ran)
      (run-spent (subject on) set body least most behind old.captures.items is taken 0 at at left refl
      (runs_first (in_set set) on.text.now most at taken run) (rw same_place low))
      ∙ carry-spent (subject on) old.cells.items old.trail.items old.captures.items old.entries.items

  abbrev at_place : ℕ → ℕ → Ran
  at_place others left = given_back (goes (subject on)) behind others (at + taken) old.captures.items left

  enough : least ≤ taken → (left : ℕ) → carried (subject on) old (at_place (taken - least) left)
      ≡ repeat_ends (left + more)
  enough low left =
      let fewest : taken - (least - 0) ≡ taken - least = omega arith in
      ap (λ (ran : Ran). carried (subject on) old ran)
      (sym (rw (fewest, same_place) at
      (run-enough (subject on) set body least most behind old.captures.items is taken 0 at at left refl
      (runs_first (in_set set) on.text.now most at taken run) (omega arith))))

  few : taken < least → (left : ℕ) → carried (subject on) old (Miss left) ≡ repeat_ends (left + more)
  few low left =
      let free : is_greatest most taken ≡ false = not_greatest least most taken bounds low in
      let looks : more ≡ taken + taken + 1 = rw free refl in
      ap (λ (ran : Ran). carried (subject on) old ran)
      (sym (rw looks
      (run-few (subject on) set body least most behind old.captures.items is taken 0 at at left refl
      (runs_first (in_set set) on.text.now most at taken run) (omega arith) (rw same_place free))))

  -- how it leads on
  visits_run : (new : Area) (step : Step) → Leads on 1 old (λ left. repeat_ends (left + more)) new step →
      Visits on old repeat_ends new (record { step = step; more = more })
  visits_run new step leads = record {
    leads = leads_wider on more old (λ left. repeat_ends (left + more)) new step leads;
    spent = spends;
  }

  pub visits_few : taken < least → Visits on old repeat_ends old (record { step = Failed; more = more })
  visits_few low =
      visits_run old Failed
      (lead_added on old old (λ left. repeat_ends (left + more)) Failed (AddsCell-none on old here.sound) tt (few low))

  abbrev goes_on : Step
  goes_on = Go (record { rest = rest; at = at + taken })

  pub visits_exact : taken ≡ least → Visits on old repeat_ends old (record { step = goes_on; more = more })
  visits_exact same =
      let none : taken - least ≡ 0 = omega arith in
      visits_run old goes_on
      (lead_added on old old (λ left. repeat_ends (left + more)) goes_on (AddsCell-none on old here.sound)
      (here.inside, within)
      (λ left. rw none at (enough (omega arith) left)))

  pub visits_spare : least < taken →
      Visits on old repeat_ends
      (with_entry old (made old (GiveBack (taken - least - 1) rest) (at + taken - 1)))
      (record { step = goes_on; more = more })
  visits_spare low =
      let spare : taken - least ≡ suc (taken - least - 1) = omega arith in
      visits_run (with_entry old (made old (GiveBack (taken - least - 1) rest) (at + taken - 1))) goes_on
      (lead_entered on old old (λ left. repeat_ends (left + more)) (GiveBack (taken - least - 1) rest) (at + taken - 1)
      goes_on (AddsCell-none on old here.sound) (omega (arith, within)) here.inside (here.inside, within)
      (λ left. rw spare at (enough (omega arith) left)))
