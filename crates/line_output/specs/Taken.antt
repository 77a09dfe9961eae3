-- The captures of a match that are told: those that take something, in the order of the entries, with their names.
use Rattle.std.specs.Prelude.{ℕ, ◌==◌, List, [], ◌∷◌, Bool, true, false, Option, Some, None}
use Rattle.std.specs.List.{flat_map}
use Rattle.pattern_defs.specs.declared.outcomes.Place.{Place}
use Rattle.pattern_defs.specs.Attempt.{Captures, capture_of}
use Rattle.rule_table.specs.declared.rule.RuleCapture.{RuleCapture}
use Rattle.line_output.specs.declared.taken.Taken.{Taken}
use Rattle.line_output.specs.Names.{names_in}

-- what an entry takes at a place
abbrev pub taken_at : (text : List ℕ) → Captures → RuleCapture → Place → Taken
taken_at text captures entry place = record {
  place = place;
  name = names_in text captures entry.name;
  content = names_in text captures entry.content;
  inner = entry.inner;
}

abbrev pub taken_where : (empty : Bool) → Taken → List Taken
taken_where true taken = []
taken_where false taken = taken ∷ []

abbrev pub taken_in : (text : List ℕ) → Captures → RuleCapture → Option Place → List Taken
taken_in text captures entry None = []
taken_in text captures entry (Some place) = taken_where (place.from == place.to) (taken_at text captures entry place)

-- what an entry takes, where its group is set and not empty
abbrev pub taken_by : (text : List ℕ) → Captures → RuleCapture → List Taken
taken_by text captures entry = taken_in text captures entry (capture_of captures entry.number)

abbrev pub takens_of : (text : List ℕ) → Captures → List RuleCapture → List Taken
takens_of text captures entries = flat_map (taken_by text captures) entries
