-- What turns and matches of code stand for.
use Rattle.std.specs.Prelude.{◌≡◌, ℕ, ◌≤◌, ◌<◌, List, length}
use Rattle.pattern_defs.specs.Attempt.{Captures}
use Rattle.line_defs.specs.Runs.{State, Turned, GoesOn, Stops}
use Rattle.line_defs.specs.Search.{Matched}
use Rattle.line_search.specs.declared.find.Match.{Match}
use Rattle.line_search.specs.Finds.{owner_of}
use Rattle.line_turns.specs.declared.turns.Then.{Then}
use Rattle.line_turns.specs.declared.turns.Then.TheVariants as then
use Rattle.line_output.specs.declared.taken.Taken.{Taken}

abbrev pub turned_of : Then → State → Turned
turned_of then.GoesOn state = GoesOn state
turned_of then.Stops state = Stops state

abbrev pub matched_of : Match → (hit : Captures) → Matched
matched_of m hit = record { of = owner_of m.of; from = m.from; to = m.to; captures = hit }

-- a capture that lies in a text of so many characters
abbrev pub IsInside : (chars : ℕ) → Taken → Type 0
IsInside chars taken = (taken.place.from ≤ taken.place.to) × (taken.place.to ≤ chars)
