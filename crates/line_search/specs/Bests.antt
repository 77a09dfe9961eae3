-- The best match of injections so far.
use Rattle.std.specs.Prelude.{◌≡◌, ℕ, ◌<◌, ◌≤◌, ◌==◌, nat_lt, List, length, Bool, true, ◌&&◌, ◌||◌, Option, Some, None}
use Rattle.std.specs.Prelude.{if◌then◌else◌}
use Rattle.line_defs.specs.Search.{Found, Nothing, OutOfBudget, At, Sight, Matched, scan}
use Rattle.line_defs.specs.Injections.{Kept, Injected, InjectedSpent, Keeps}
use Rattle.line_search.specs.Finds.{owner_of}
use Rattle.line_search.specs.Prepared.{Prepared, prepared_at}
use Rattle.line_search.specs.declared.find.Match.{Match}
use Rattle.line_search.specs.declared.find.Find.{Find}
use Rattle.line_search.specs.declared.find.Find.TheVariants as find
use Rattle.line_search.specs.declared.injected.Best.{Best}
use Rattle.line_search.specs.declared.injected.Step.{Step}
use Rattle.line_search.specs.declared.injected.Step.TheVariants as step
use Rattle.line_search.specs.declared.injected.Bests.{Bests}
use Rattle.line_search.specs.declared.injected.Bests.TheVariants as bests

-- what is kept of what patterns find
abbrev pub kept_at : (first : Bool) → Found → Option Kept
kept_at first Nothing = None
kept_at first OutOfBudget = None
kept_at first (At m) = Some (record { matched = m; goes_first = first })

abbrev pub kept_of : Sight → List Prepared → Option Best → Option Kept
kept_of s all None = None
kept_of s all (Some best) =
    kept_at (prepared_at all best.number).first (scan s (prepared_at all best.number).choices)

abbrev pub injected_of : Sight → List Prepared → Bests → Injected
injected_of s all bests.Spent = InjectedSpent
injected_of s all (bests.Kept best) = Keeps (kept_of s all best)

-- a match as it is found, but for its captures
pub record IsMatch (m : Match) (of : Matched) : Type 0 where
  pub owner : of.of ≡ owner_of m.of
  pub from : of.from ≡ m.from
  pub to : of.to ≡ m.to

abbrev pub IsFound : Match → Found → Type 0
IsFound m Nothing = ⊥
IsFound m OutOfBudget = ⊥
IsFound m (At of) = IsMatch m of

-- the best is one of some, and what its patterns find
pub record IsBest (s : Sight) (all : List Prepared) (best : Best) : Type 0 where
  pub number : best.number < length all
  pub begins : s.place ≤ best.m.from
  pub ends : best.m.from ≤ length s.text
  pub found : IsFound best.m (scan s (prepared_at all best.number).choices)

abbrev pub IfSomeBest : Option Best → (Best → Type 0) → Type 0
IfSomeBest None P = Unit {0}
IfSomeBest (Some best) P = P best

abbrev pub IfBest : Bests → (Best → Type 0) → Type 0
IfBest bests.Spent P = Unit {0}
IfBest (bests.Kept best) P = IfSomeBest best P

abbrev pub IfNoBest : Option Best → Type 0 → Type 0
IfNoBest None P = P
IfNoBest (Some best) P = Unit {0}

abbrev pub IfNone : Bests → Type 0 → Type 0
IfNone bests.Spent P = Unit {0}
IfNone (bests.Kept best) P = IfNoBest best P

-- how the search goes on behind one injection
abbrev pub step_by : Sight → List Prepared → Step → (next : Option Kept → Injected) → Injected
step_by s all step.Spent next = InjectedSpent
step_by s all (step.Done best) next = Keeps (kept_of s all (Some best))
step_by s all (step.Next best) next = next (kept_of s all best)

-- behind a new best
abbrev pub beaten : (number : ℕ) → Match → (place : ℕ) → Step
beaten number m place = if m.from == place then step.Done (record { number = number; m = m })
    else step.Next (Some (record { number = number; m = m }))

abbrev pub IfStep : Step → (Best → Type 0) → Type 0
IfStep step.Spent P = Unit {0}
IfStep (step.Done best) P = P best
IfStep (step.Next best) P = IfSomeBest best P

-- a fact where the search goes on with no match yet
abbrev pub IfNext : Step → Type 0 → Type 0
IfNext (step.Next None) P = P
IfNext _ P = Unit {0}

abbrev pub starts_earlier : Match → Option Best → Bool
starts_earlier m None = true
starts_earlier m (Some best) = nat_lt m.from best.m.from

abbrev pub wins_over : (first : Bool) → Match → Find → Bool
wins_over first best (find.At m) = nat_lt best.from m.from || (first && (best.from == m.from))
wins_over first best _ = true
