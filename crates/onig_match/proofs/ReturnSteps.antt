-- How going back, and an end of an attempt of its own, lead on.
use Rattle.std.proofs.Common.{◌≡◌, ℕ, zero, suc, ◌+◌, ◌-◌, ◌<◌, ◌≤◌, List, [], ◌∷◌, length, drop, cond, refl, sym, ap}
use Rattle.std.proofs.Common.{subst, ◌∙◌, arith}
use Rattle.std.specs.Prelude.{Bool, true, false, nat_le, filter, Some, None, slice_get}
use Rattle.std.proofs.lemmas.Bool.{le-leb}
use Rattle.pattern_defs.specs.declared.nodes.ListId.{ListId}
use Rattle.pattern_defs.specs.declared.nodes.Arm.{Arm}
use Rattle.pattern_defs.specs.Attempt.{Subject, Captures, Ran, Hit, Miss, Spent, Going, before, or_else, where_holds}
use Rattle.pattern_defs.specs.Attempt.{looked, arms_run}
use Rattle.onig_match.specs.declared.cells.Rest.{Rest}
use Rattle.onig_match.specs.declared.cells.NodeAt.{NodeAt}
use Rattle.onig_match.specs.declared.cells.Cell.{Cell}
use Rattle.onig_match.specs.declared.entries.Entry.{Entry}
use Rattle.onig_match.specs.declared.entries.Resume.{Resume}
use Rattle.onig_match.specs.declared.entries.Resume.TheVariants.{Other, Alternatives, AfterAhead, AfterBehind}
use Rattle.onig_match.specs.declared.entries.Resume.TheVariants.{AfterAtomic, GiveBack}
use Rattle.onig_match.specs.declared.entries.Step.{Step}
use Rattle.onig_match.specs.declared.entries.Step.TheVariants.{Go, Found, Failed}
use Rattle.onig_match.specs.declared.area.Area.{Area}
use Rattle.onig_match.specs.declared.searched.Searched.{Searched}
use Rattle.onig_match.specs.Goes.{goes}
use Rattle.onig_match.specs.Machine.{subject, kept, todo_of, captures_at, resumed, carried, ran_of, with_entry}
use Rattle.onig_match.specs.Machine.{ids_at, arms_at, rank}
use Rattle.onig_match.specs.Sound.{IsResume, IsSound, IsStep, HasRoom, Leads, IsNextArm}
use Rattle.onig_match.proofs.Carries.{length-kept, carry-entry, carry-skip}
use Rattle.onig_match.proofs.Steps.{AreEntries-widen, AreCells-drop, AreChanges-drop, AreTaken-undone, length-undone}
use Rattle.onig_match.proofs.Steps.{made, sound_entered, rank_small}
use Rattle.onig_match.proofs.VisitSteps.{start, start_alone, with_cells}

-- everything as it was at the entry
abbrev pub rewound : Area → Entry → Area
rewound old entry = record {
  captures = record { room = old.captures.room; items = captures_at entry.trail old.trail.items old.captures.items };
  cells = record { room = old.cells.room; items = kept entry.cells old.cells.items };
  entries = old.entries;
  trail = record { room = old.trail.room; items = kept entry.trail old.trail.items };
}

-- only the cells as they were
abbrev pub cut : Area → Entry → Area
cut old entry = with_cells old (record { room = old.cells.room; items = kept entry.cells old.cells.items })

pub drop_some : {A : Type 0} (xs : List A) (k : ℕ) (x : A) → slice_get xs k ≡ Some x → drop k xs ≡ x ∷ drop (k + 1) xs
drop_some [] k x e = cc
drop_some (y ∷ ys) zero x e = let same : y ≡ x = cc in rw same refl
drop_some (y ∷ ys) (suc k) x e = let more : suc k + 1 ≡ suc (k + 1) = omega arith in rw more (drop_some ys k x e)

drop_none : {A : Type 0} (xs : List A) (k : ℕ) → slice_get xs k ≡ None → drop k xs ≡ []
drop_none [] zero e = refl
drop_none [] (suc k) e = refl
drop_none (y ∷ ys) zero e = cc
drop_none (y ∷ ys) (suc k) e = drop_none ys k e

-- arms

pub or_else-next : (ran : Ran) (f g : ℕ → Ran) → ((left : ℕ) → f left ≡ g left) → or_else ran f ≡ or_else ran g
or_else-next (Hit at captures left) f g same = refl
or_else-next (Miss left) f g same = same left
or_else-next Spent f g same = refl

arms_run-within : (s : Subject) (go : Going) (arms : List Arm) (at : ℕ) (captures : Captures) (left : ℕ) →
    arms_run s go (filter (λ a. nat_le a.length at) arms) at captures left ≡ arms_run s go arms at captures left
arms_run-within s go [] at captures left = refl
arms_run-within s go (arm ∷ arms) at captures left =
    by_length s go arm arms at captures left (nat_le arm.length at) refl (arms_run-within s go arms at captures)
  where
    by_length : (s : Subject) (go : Going) (arm : Arm) (arms : List Arm) (at : ℕ) (captures : Captures) (left : ℕ)
        (b : Bool) → nat_le arm.length at ≡ b → ((left' : ℕ)
        → arms_run s go (filter (λ a. nat_le a.length at) arms) at captures left'
        ≡ arms_run s go arms at captures left') → arms_run s go
        (cond b (arm ∷ filter (λ a. nat_le a.length at) arms)
        (filter (λ a. nat_le a.length at) arms)) at captures left
        ≡ or_else (where_holds b go (before s.lists arm.body []) (at - arm.length) captures left)
        (λ rest. arms_run s go arms at captures rest)
    by_length s go arm arms at captures left true e same =
        rw e (or_else-next (go (before s.lists arm.body []) (at - arm.length) captures left)
        (λ rest. arms_run s go (filter (λ a. nat_le a.length at) arms) at captures rest)
        (λ rest. arms_run s go arms at captures rest) same)
    by_length s go arm arms at captures left false e same = same left

arms_run-next : (s : Subject) (go : Going) (arms : List Arm) (arm k : ℕ) (one : Arm) (at : ℕ) (captures : Captures)
    (left : ℕ) → IsNextArm arms arm at (Some (k, one))
    → or_else (go (before s.lists one.body []) (at - one.length) captures left)
    (λ rest. arms_run s go (drop (k + 1) arms) at captures rest) ≡ arms_run s go (drop arm arms) at captures left
arms_run-next s go arms arm k one at captures left is =
    let short : nat_le one.length at ≡ true = le-leb _ _ is.1 in
    let found : arms_run s go (one ∷ filter (λ a. nat_le a.length at) (drop (k + 1) arms)) at captures left
    ≡ arms_run s go (drop arm arms) at captures left =
    ap (λ (rest : List Arm). arms_run s go rest at captures left) (sym is.0)
    ∙ arms_run-within s go (drop arm arms) at captures left in
    let tried : or_else (go (before s.lists one.body []) (at - one.length) captures left)
    (λ rest. arms_run s go (filter (λ a. nat_le a.length at) (drop (k + 1) arms)) at captures rest)
    ≡ arms_run s go (drop arm arms) at captures left = rw short at found in
    or_else-next (go (before s.lists one.body []) (at - one.length) captures left)
    (λ rest. arms_run s go (drop (k + 1) arms) at captures rest)
    (λ rest. arms_run s go (filter (λ a. nat_le a.length at) (drop (k + 1) arms)) at captures rest)
    (λ rest. sym (arms_run-within s go (drop (k + 1) arms) at captures rest))
    ∙ tried

arms_run-none : (s : Subject) (go : Going) (arms : List Arm) (arm at : ℕ) (captures : Captures) (left : ℕ) →
    IsNextArm arms arm at None → Miss left ≡ arms_run s go (drop arm arms) at captures left
arms_run-none s go arms arm at captures left is =
    ap (λ (rest : List Arm). arms_run s go rest at captures left) (sym is)
    ∙ arms_run-within s go (drop arm arms) at captures left

-- for an entry that was on top
module _ (on : Searched) (old : Area) (entry : Entry) where
  -- the cells and captures of when it was made
  abbrev cells_back : List Cell
  cells_back = kept entry.cells old.cells.items

  abbrev captures_back : Captures
  captures_back = captures_at entry.trail old.trail.items old.captures.items

  pub sound_below : IsSound on (with_entry old entry) → IsSound on old
  sound_below sound = record {
    groups = sound.groups;
    captures = sound.captures;
    cells = sound.cells;
    entries = AreEntries-widen on.pattern.now (length on.text.now) entry.cells (length old.cells.items) entry.trail
        (length old.trail.items) old.entries.items sound.entries.1 sound.entries.0.below sound.entries.0.before;
    trail = sound.trail;
  }

  cells_kept : IsSound on (with_entry old entry) →
      length cells_back ≡ entry.cells
  cells_kept sound = length-kept entry.cells old.cells.items sound.entries.0.below

  trail_kept : IsSound on (with_entry old entry) →
      length (kept entry.trail old.trail.items) ≡ entry.trail
  trail_kept sound = length-kept entry.trail old.trail.items sound.entries.0.before

  pub sound_rewound : IsSound on (with_entry old entry) →
      IsSound on (rewound old entry)
  sound_rewound sound = record {
    groups = length-undone (length old.trail.items - entry.trail) old.trail.items old.captures.items ∙ sound.groups;
    captures = AreTaken-undone on.pattern.now (length on.text.now) (length old.trail.items - entry.trail)
        old.trail.items old.captures.items sound.captures sound.trail;
    cells = AreCells-drop on.pattern.now (length on.text.now) (length old.cells.items - entry.cells) old.cells.items
        sound.cells;
    entries = AreEntries-widen on.pattern.now (length on.text.now) entry.cells
        (length cells_back) entry.trail (length (kept entry.trail old.trail.items))
        old.entries.items sound.entries.1
        (omega (arith, cells_kept sound)) (omega (arith, trail_kept sound));
    trail = AreChanges-drop on.pattern.now (length on.text.now) (length old.trail.items - entry.trail) old.trail.items
        sound.trail;
  }

  pub sound_cut : IsSound on (with_entry old entry) →
      IsSound on (cut old entry)
  sound_cut sound = record {
    groups = sound.groups;
    captures = sound.captures;
    cells = AreCells-drop on.pattern.now (length on.text.now) (length old.cells.items - entry.cells) old.cells.items
        sound.cells;
    entries = AreEntries-widen on.pattern.now (length on.text.now) entry.cells
        (length cells_back) entry.trail (length old.trail.items) old.entries.items sound.entries.1
        (omega (arith, cells_kept sound)) sound.entries.0.before;
    trail = sound.trail;
  }

  -- the way on of an entry, over the cells that stay
  resume_kept : (resume : Resume) → IsSound on (with_entry old entry) →
      entry.resume ≡ resume → IsResume on.pattern.now (length cells_back) resume
  resume_kept resume sound e =
      let is : IsResume on.pattern.now entry.cells resume =
      subst (λ (r : Resume). IsResume on.pattern.now entry.cells r) e sound.entries.0.resume in
      subst (λ (n : ℕ). IsResume on.pattern.now n resume) (sym (cells_kept sound)) is

  abbrev missed : ℕ → Ran
  missed left = carried (subject on) (with_entry old entry) (Miss left)

  abbrev hits : ℕ → ℕ → Ran
  hits end left = carried (subject on) (with_entry old entry) (Hit end old.captures.items left)

  room_kept : IsSound on (with_entry old entry) → (left : ℕ) →
      HasRoom (with_entry old entry) (left + 0) → HasRoom (rewound old entry) left
  room_kept sound left has = record {
    cells = omega (arith, has.cells, cells_kept sound, sound.entries.0.below);
    entries = omega (arith, has.entries);
    trail = omega (arith, has.trail, trail_kept sound, sound.entries.0.before);
    small = has.small;
  }

  lead_rewound : (result : Step) → IsSound on (with_entry old entry) →
      IsStep on (length cells_back) result → ((left : ℕ) →
      ran_of (subject on) (rewound old entry) result left
      ≡ resumed (subject on) cells_back
      captures_back entry.resume entry.at (Miss left))
      → Leads on 0 (with_entry old entry) (missed) (rewound old entry) result
  lead_rewound result sound step ends = record {
    ends = λ left. ap (λ (ran : Ran). carried (subject on) (rewound old entry) ran) (ends left);
    sound = sound_rewound sound;
    step = step;
    room = room_kept sound;
    rooms = record { captures = refl; cells = refl; entries = refl; trail = refl };
    falls = omega (arith, rank_small result);
  }

  lead_reentered : (resume : Resume) (to : ℕ) (result : Step) → rank result ≡ 0 → to ≤ length on.text.now →
      IsSound on (with_entry old entry) → IsResume on.pattern.now (length cells_back) resume →
      IsStep on (length cells_back) result → ((left : ℕ) →
      resumed (subject on) cells_back
      captures_back resume to
      (ran_of (subject on) (rewound old entry) result left)
      ≡ resumed (subject on) cells_back
      captures_back entry.resume entry.at (Miss left))
      → Leads on 0 (with_entry old entry) (missed)
      (with_entry (rewound old entry) (made (rewound old entry) resume to)) result
  lead_reentered resume to result goes_on low sound is step ends = record {
    ends = λ left.
        carry-entry (subject on) (rewound old entry).cells.items (rewound old entry).trail.items
        (rewound old entry).captures.items (made (rewound old entry) resume to) old.entries.items
        (ran_of (subject on) (rewound old entry) result left) refl refl
        ∙ ap (λ (ran : Ran). carried (subject on) (rewound old entry) ran) (ends left);
    sound = sound_entered on (rewound old entry) resume to (sound_rewound sound) low is;
    step = step;
    room = λ left has. record {
      cells = (room_kept sound left has).cells;
      entries = omega (arith, has.entries);
      trail = (room_kept sound left has).trail;
      small = has.small;
    };
    rooms = record { captures = refl; cells = refl; entries = refl; trail = refl };
    falls = omega (arith, goes_on);
  }

  lead_cut : (end : ℕ) (result : Step) →
      IsSound on (with_entry old entry) → IsStep on (length cells_back) result → ((left : ℕ) →
      ran_of (subject on) (cut old entry) result left
      ≡ resumed (subject on) cells_back
      captures_back entry.resume entry.at
      (Hit end old.captures.items left)) → Leads on 0 (with_entry old entry) (hits end)
      (cut old entry) result
  lead_cut end result sound step ends = record {
    ends = λ left.
        ap (λ (ran : Ran). carried (subject on) (cut old entry) ran) (ends left)
        ∙ sym (carry-skip (subject on) on.pattern.now (length on.text.now) cells_back
        entry.trail old.trail.items old.captures.items old.entries.items _
        (AreEntries-widen on.pattern.now (length on.text.now) entry.cells (length cells_back)
        entry.trail entry.trail old.entries.items sound.entries.1
        (omega (arith, cells_kept sound)) (omega arith))
        sound.entries.0.before);
    sound = sound_cut sound;
    step = step;
    room = λ left has. record {
      cells = (room_kept sound left has).cells;
      entries = omega (arith, has.entries);
      trail = omega (arith, has.trail);
      small = has.small;
    };
    rooms = record { captures = refl; cells = refl; entries = refl; trail = refl };
    falls = omega (arith, rank_small result);
  }

  -- at a miss

  pub miss_other : (rest : Rest) → IsSound on (with_entry old entry) →
      entry.resume ≡ Other rest →
      Leads on 0 (with_entry old entry) (missed) (rewound old entry)
      (Go (record { rest = rest; at = entry.at }))
  miss_other rest sound e =
      lead_rewound (Go (record { rest = rest; at = entry.at })) sound
      (resume_kept (Other rest) sound e, sound.entries.0.at) (λ left. rw e refl)

  pub miss_alternative : (node : NodeAt) (way next : ℕ) (id : ListId) →
      IsSound on (with_entry old entry) → entry.resume ≡ Alternatives node way next →
      Some id ≡ slice_get (ids_at on.pattern.now.lists node) way → id.0 < length on.pattern.now.lists →
      Leads on 0 (with_entry old entry) (missed)
      (with_entry (rewound old entry) (made (rewound old entry) (Alternatives node (way + 1) next) entry.at))
      (Go (record { rest = start id next; at = entry.at }))
  miss_alternative node way next id sound e there inside =
      let ways : drop way (ids_at on.pattern.now.lists node) ≡ id ∷ drop (way + 1) (ids_at on.pattern.now.lists node) =
      drop_some (ids_at on.pattern.now.lists node) way id (sym there) in
      let is : IsResume on.pattern.now (length cells_back) (Alternatives node way next) =
      resume_kept (Alternatives node way next) sound e in
      lead_reentered (Alternatives node (way + 1) next) entry.at
      (Go (record { rest = start id next; at = entry.at })) refl sound.entries.0.at sound is
      (record { list = inside; next = is.1 }, sound.entries.0.at)
      (λ left. rw (e, ways) refl)

  pub miss_alternatives : (node : NodeAt) (way next : ℕ) →
      IsSound on (with_entry old entry) → entry.resume ≡ Alternatives node way next →
      None ≡ slice_get (ids_at on.pattern.now.lists node) way →
      Leads on 0 (with_entry old entry) (missed) (rewound old entry) Failed
  miss_alternatives node way next sound e there =
      let ways : drop way (ids_at on.pattern.now.lists node) ≡ [] =
      drop_none (ids_at on.pattern.now.lists node) way (sym there) in
      lead_rewound Failed sound tt (λ left. rw (e, ways) refl)

  pub miss_last_place : (rest : Rest) → IsSound on (with_entry old entry) → entry.resume ≡ GiveBack 0 rest →
      Leads on 0 (with_entry old entry) (missed) (rewound old entry)
      (Go (record { rest = rest; at = entry.at }))
  miss_last_place rest sound e =
      lead_rewound (Go (record { rest = rest; at = entry.at })) sound
      (resume_kept (GiveBack 0 rest) sound e, sound.entries.0.at) (λ left. rw e refl)

  pub miss_place : (more : ℕ) (rest : Rest) → IsSound on (with_entry old entry) →
      entry.resume ≡ GiveBack (suc more) rest →
      Leads on 0 (with_entry old entry) (missed)
      (with_entry (rewound old entry) (made (rewound old entry) (GiveBack more rest) (entry.at - 1)))
      (Go (record { rest = rest; at = entry.at }))
  miss_place more rest sound e =
      let is : IsResume on.pattern.now (length cells_back) (GiveBack (suc more) rest) =
      resume_kept (GiveBack (suc more) rest) sound e in
      let early : entry.at ≤ length on.text.now = sound.entries.0.at in
      lead_reentered (GiveBack more rest) (entry.at - 1) (Go (record { rest = rest; at = entry.at })) refl
      (omega arith) sound is (is, early) (λ left. rw e refl)

  pub miss_ahead : (rest : Rest) → IsSound on (with_entry old entry) →
      entry.resume ≡ AfterAhead true rest →
      Leads on 0 (with_entry old entry) (missed) (rewound old entry) Failed
  miss_ahead rest sound e = lead_rewound Failed sound tt (λ left. rw e refl)

  pub miss_not_ahead : (rest : Rest) →
      IsSound on (with_entry old entry) → entry.resume ≡ AfterAhead false rest →
      Leads on 0 (with_entry old entry) (missed) (rewound old entry)
      (Go (record { rest = rest; at = entry.at }))
  miss_not_ahead rest sound e =
      lead_rewound (Go (record { rest = rest; at = entry.at })) sound
      (resume_kept (AfterAhead false rest) sound e, sound.entries.0.at) (λ left. rw e refl)

  pub miss_atomic : (rest : Rest) → IsSound on (with_entry old entry) →
      entry.resume ≡ AfterAtomic rest →
      Leads on 0 (with_entry old entry) (missed) (rewound old entry) Failed
  miss_atomic rest sound e = lead_rewound Failed sound tt (λ left. rw e refl)

  pub miss_arm : (node : NodeAt) (arm k : ℕ) (one : Arm) (wanted : Bool)
      (rest : Rest) → IsSound on (with_entry old entry) → entry.resume ≡ AfterBehind node arm wanted rest
      → IsNextArm (arms_at on.pattern.now.lists node) arm entry.at (Some (k, one))
      → one.body.0 < length on.pattern.now.lists
      → Leads on 0 (with_entry old entry) (missed)
      (with_entry (rewound old entry) (made (rewound old entry) (AfterBehind node (k + 1) wanted rest) entry.at))
      (Go (record { rest = start one.body 0; at = entry.at - one.length }))
  miss_arm node arm k one wanted rest sound e next inside =
      let s : Subject = subject on in
      let cells : List Cell = cells_back in
      let captures : Captures = captures_back in
      let is : IsResume on.pattern.now (length cells) (AfterBehind node arm wanted rest) =
      resume_kept (AfterBehind node arm wanted rest) sound e in
      let early : entry.at ≤ length on.text.now = sound.entries.0.at in
      lead_reentered (AfterBehind node (k + 1) wanted rest) entry.at
      (Go (record { rest = start one.body 0; at = entry.at - one.length })) refl early sound is
      (record { list = inside; next = omega arith }, omega arith)
      (λ left. rw (e, start_alone on.pattern.now.lists cells one.body)
      (ap (λ (ran : Ran). looked wanted ran (goes s) (todo_of on.pattern.now.lists cells rest) entry.at captures)
      (arms_run-next s (goes s) (arms_at on.pattern.now.lists node) arm k one entry.at captures left next)))

  pub miss_behind : (node : NodeAt) (arm : ℕ) (rest : Rest) →
      IsSound on (with_entry old entry) → entry.resume ≡ AfterBehind node arm true rest →
      IsNextArm (arms_at on.pattern.now.lists node) arm entry.at None →
      Leads on 0 (with_entry old entry) (missed) (rewound old entry) Failed
  miss_behind node arm rest sound e next =
      let s : Subject = subject on in
      let cells : List Cell = cells_back in
      let captures : Captures = captures_back in
      lead_rewound Failed sound tt
      (λ left. rw e (ap (λ (ran : Ran). looked true ran (goes s) (todo_of on.pattern.now.lists cells rest) entry.at
      captures)
      (arms_run-none s (goes s) (arms_at on.pattern.now.lists node) arm entry.at captures left next)))

  pub miss_not_behind : (node : NodeAt) (arm : ℕ) (rest : Rest) →
      IsSound on (with_entry old entry) → entry.resume ≡ AfterBehind node arm false rest →
      IsNextArm (arms_at on.pattern.now.lists node) arm entry.at None →
      Leads on 0 (with_entry old entry) (missed) (rewound old entry)
      (Go (record { rest = rest; at = entry.at }))
  miss_not_behind node arm rest sound e next =
      let s : Subject = subject on in
      let cells : List Cell = cells_back in
      let captures : Captures = captures_back in
      let is : IsResume on.pattern.now (length cells) (AfterBehind node arm false rest) =
      resume_kept (AfterBehind node arm false rest) sound e in
      lead_rewound (Go (record { rest = rest; at = entry.at })) sound (is.1, sound.entries.0.at)
      (λ left. rw e (ap (λ (ran : Ran). looked false ran (goes s) (todo_of on.pattern.now.lists cells rest) entry.at
      captures)
      (arms_run-none s (goes s) (arms_at on.pattern.now.lists node) arm entry.at captures left next)))

  -- at a hit

  pub hit_other : (rest : Rest) (end : ℕ) →
      IsSound on (with_entry old entry) → end ≤ length on.text.now → entry.resume ≡ Other rest →
      Leads on 0 (with_entry old entry) (hits end) (cut old entry) (Found end)
  hit_other rest end sound low e = lead_cut end (Found end) sound low (λ left. rw e refl)

  pub hit_alternatives : (node : NodeAt) (way next end : ℕ) →
      IsSound on (with_entry old entry) → end ≤ length on.text.now → entry.resume ≡ Alternatives node way next →
      Leads on 0 (with_entry old entry) (hits end) (cut old entry) (Found end)
  hit_alternatives node way next end sound low e =
      lead_cut end (Found end) sound low (λ left. rw e refl)

  pub hit_place : (more : ℕ) (rest : Rest) (end : ℕ) →
      IsSound on (with_entry old entry) → end ≤ length on.text.now → entry.resume ≡ GiveBack more rest →
      Leads on 0 (with_entry old entry) (hits end) (cut old entry) (Found end)
  hit_place more rest end sound low e = lead_cut end (Found end) sound low (λ left. rw e refl)

  pub hit_ahead : (rest : Rest) (end : ℕ) →
      IsSound on (with_entry old entry) → entry.resume ≡ AfterAhead true rest →
      Leads on 0 (with_entry old entry) (hits end) (cut old entry)
      (Go (record { rest = rest; at = entry.at }))
  hit_ahead rest end sound e =
      lead_cut end (Go (record { rest = rest; at = entry.at })) sound
      (resume_kept (AfterAhead true rest) sound e, sound.entries.0.at) (λ left. rw e refl)

  pub hit_not_ahead : (rest : Rest) (end : ℕ) →
      IsSound on (with_entry old entry) → entry.resume ≡ AfterAhead false rest →
      Leads on 0 (with_entry old entry) (hits end) (cut old entry) Failed
  hit_not_ahead rest end sound e = lead_cut end Failed sound tt (λ left. rw e refl)

  pub hit_behind : (node : NodeAt) (arm : ℕ) (rest : Rest) (end : ℕ) →
      IsSound on (with_entry old entry) → entry.resume ≡ AfterBehind node arm true rest →
      Leads on 0 (with_entry old entry) (hits end) (cut old entry)
      (Go (record { rest = rest; at = entry.at }))
  hit_behind node arm rest end sound e =
      let is : IsResume on.pattern.now (length cells_back) (AfterBehind node arm true rest) =
      resume_kept (AfterBehind node arm true rest) sound e in
      lead_cut end (Go (record { rest = rest; at = entry.at })) sound (is.1, sound.entries.0.at)
      (λ left. rw e refl)

  pub hit_not_behind : (node : NodeAt) (arm : ℕ) (rest : Rest) (end : ℕ)
      → IsSound on (with_entry old entry) → entry.resume ≡ AfterBehind node arm false rest
      → Leads on 0 (with_entry old entry) (hits end) (cut old entry) Failed
  hit_not_behind node arm rest end sound e = lead_cut end Failed sound tt (λ left. rw e refl)

  pub hit_atomic : (rest : Rest) (end : ℕ) →
      IsSound on (with_entry old entry) → end ≤ length on.text.now → entry.resume ≡ AfterAtomic rest →
      Leads on 0 (with_entry old entry) (hits end) (cut old entry) (Go (record { rest = rest; at = end }))
  hit_atomic rest end sound low e =
      lead_cut end (Go (record { rest = rest; at = end })) sound
      (resume_kept (AfterAtomic rest) sound e, low) (λ left. rw e refl)
