-- Alternatives that miss at once are passed, and going back stays the same.
use Rattle.std.proofs.Common.{◌≡◌, ℕ, ◌+◌, ◌-◌, ◌<◌, ◌≤◌, List, ◌∷◌, map, drop, refl, sym, ap, subst, ◌∙◌, arith}
use Rattle.std.specs.Prelude.{Bool, true, false, nat_lt, Some, slice_get}
use Rattle.std.proofs.lemmas.Bool.{ltb-true, ltb-false}
use Rattle.pattern_defs.specs.declared.nodes.ListId.{ListId}
use Rattle.pattern_defs.specs.Attempt.{Subject, Captures, Todo, Ran, Miss, Spent, before, tries}
use Rattle.onig_match.specs.declared.cells.NodeAt.{NodeAt}
use Rattle.onig_match.specs.declared.entries.Entry.{Entry}
use Rattle.onig_match.specs.declared.entries.Passed.{Passed}
use Rattle.onig_match.specs.declared.entries.Resume.TheVariants.{Alternatives}
use Rattle.onig_match.specs.declared.entries.Step.{Step}
use Rattle.onig_match.specs.declared.area.Area.{Area}
use Rattle.onig_match.specs.declared.searched.Searched.{Searched}
use Rattle.onig_match.specs.Goes.{goes}
use Rattle.onig_match.specs.Machine.{subject, kept, captures_at, chain, ids_at, carry, carried, with_entry}
use Rattle.onig_match.specs.Sound.{IsResume, IsSound, HasRoom, Leads, Returns, MissesEarly, PassesWays, PassesEarly}
use Rattle.onig_match.proofs.Ends.{carry-spent}
use Rattle.onig_match.proofs.ReturnSteps.{drop_some}

pub ways_none : (s : Subject) (ids : List ListId) (at way : ℕ) → PassesWays s ids at way way 0
ways_none s ids at way = record {
  on = λ rest captures left. let same : left + 0 ≡ left = omega arith in rw same refl;
  spent = λ rest captures left low. absurd (omega arith);
}

pub ways_more : (s : Subject) (ids : List ListId) (at way next more few : ℕ) (id : ListId) →
    PassesWays s ids at way next more → slice_get ids next ≡ Some id → MissesEarly s id at few →
    PassesWays s ids at way (next + 1) (more + few)
ways_more s ids at way next more few id passes there early =
    let here : drop next ids ≡ id ∷ drop (next + 1) ids = drop_some ids next id there in
    record {
      on = λ rest captures left.
          let both : left + (more + few) ≡ (left + few) + more = omega arith in
          rw both
          (passes.on rest captures (left + few) ∙ rw (here, early.misses rest captures left) refl);
      spent = λ rest captures left low. ends (nat_lt left more) rest captures left refl low;
    }
  where
    ends : (b : Bool) (rest : List Todo) (captures : Captures) (left : ℕ) → nat_lt left more ≡ b → left < more + few →
        tries (goes s) (map (λ id. before s.lists id rest) (drop way ids)) at captures left ≡ Spent
    ends true rest captures left b low = passes.spent rest captures left (ltb-true left more b)
    ends false rest captures left b low =
        let above : more ≤ left = ltb-false left more b in
        let whole : left ≡ (left - more) + more = omega (arith, above) in
        let here : drop next ids ≡ id ∷ drop (next + 1) ids = drop_some ids next id there in
        rw whole
        (passes.on rest captures (left - more)
        ∙ rw (here, early.spent rest captures (left - more) (omega (arith, low, above))) refl)

pub passes_none : (s : Subject) (entry : Entry) → PassesEarly s entry (record { entry = entry; more = 0 })
passes_none s entry = record {
  resume = entry.resume;
  is = refl;
  sound = λ tree cells is. is;
  on = λ cells captures left. let same : left + 0 ≡ left = omega arith in rw same refl;
  spent = λ cells captures left low. absurd (omega arith);
}

pub passes_ways : (s : Subject) (entry : Entry) (node : NodeAt) (way next to more : ℕ) →
    entry.resume ≡ Alternatives node way next → PassesWays s (ids_at s.lists node) entry.at way to more →
    PassesEarly s entry (record {
      entry = record { resume = Alternatives node to next; at = entry.at; cells = entry.cells; trail = entry.trail };
      more = more;
    })
passes_ways s entry node way next to more e passes = record {
  resume = Alternatives node to next;
  is = refl;
  sound = λ tree cells is.
      let was : IsResume tree cells (Alternatives node way next) = rw e at is in (was.0, was.1);
  on = λ cells captures left. rw e (passes.on (chain s.lists cells next) captures left);
  spent = λ cells captures left low. rw e (passes.spent (chain s.lists cells next) captures left low);
}

-- for an entry that was on top
module _ (on : Searched) (old : Area) (entry : Entry) (passed : Passed)
    (passes : PassesEarly (subject on) entry passed) where
  abbrev later : Entry
  later = record { resume = passes.resume; at = entry.at; cells = entry.cells; trail = entry.trail }

  pub sound_passed : IsSound on (with_entry old entry) → IsSound on (with_entry old passed.entry)
  sound_passed sound =
      rw passes.is (record {
        groups = sound.groups;
        captures = sound.captures;
        cells = sound.cells;
        entries = (
          record {
            below = sound.entries.0.below;
            before = sound.entries.0.before;
            at = sound.entries.0.at;
            resume = passes.sound on.pattern.now entry.cells sound.entries.0.resume;
          },
          sound.entries.1,
        );
        trail = sound.trail;
      })

  pub room_passed : (left : ℕ) → HasRoom (with_entry old entry) left → HasRoom (with_entry old passed.entry) left
  room_passed left has =
      rw passes.is (record {
        cells = has.cells;
        entries = omega (arith, has.entries);
        trail = has.trail;
        small = has.small;
      })

  abbrev missed : ℕ → Ran
  missed left = carried (subject on) (with_entry old entry) (Miss left)

  same_end : (left : ℕ) → carried (subject on) (with_entry old later) (Miss left) ≡ missed (left + passed.more)
  same_end left =
      ap (λ (ran : Ran). carry (subject on) (kept entry.cells old.cells.items) (kept entry.trail old.trail.items)
      (captures_at entry.trail old.trail.items old.captures.items) old.entries.items ran)
      (sym (passes.on (kept entry.cells old.cells.items)
      (captures_at entry.trail old.trail.items old.captures.items) left))

  pub returns_passed : (new : Area) (step : Step) →
      Leads on 0 (with_entry old passed.entry)
      (λ left. carried (subject on) (with_entry old passed.entry) (Miss left)) new step →
      Returns on (with_entry old entry) missed new (record { step = step; more = passed.more })
  returns_passed new step led =
      let leads : Leads on 0 (with_entry old later)
      (λ left. carried (subject on) (with_entry old later) (Miss left)) new step =
      subst (λ (e : Entry). Leads on 0 (with_entry old e)
      (λ left. carried (subject on) (with_entry old e) (Miss left)) new step) passes.is led in
      record {
        leads = record {
          ends = λ left. leads.ends left ∙ same_end left;
          sound = leads.sound;
          step = leads.step;
          room = λ left has. leads.room left (record {
            cells = omega (arith, has.cells);
            entries = omega (arith, has.entries);
            trail = omega (arith, has.trail);
            small = has.small;
          });
          rooms = record {
            captures = leads.rooms.captures;
            cells = leads.rooms.cells;
            entries = leads.rooms.entries;
            trail = leads.rooms.trail;
          };
          falls = omega (arith, leads.falls);
        };
        spent = λ left low.
            ap (λ (ran : Ran). carry (subject on) (kept entry.cells old.cells.items)
            (kept entry.trail old.trail.items) (captures_at entry.trail old.trail.items old.captures.items)
            old.entries.items ran)
            (passes.spent (kept entry.cells old.cells.items)
            (captures_at entry.trail old.trail.items old.captures.items) left low)
            ∙ carry-spent (subject on) (kept entry.cells old.cells.items) (kept entry.trail old.trail.items)
            (captures_at entry.trail old.trail.items old.captures.items) old.entries.items;
      }
