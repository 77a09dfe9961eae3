-- What a search of code stands for.
use Rattle.std.specs.Prelude.{◌≡◌, ℕ, ◌<◌, ◌≤◌, Some, IfSome}
use Rattle.pattern_defs.specs.Attempt.{Captures, capture_of}
use Rattle.onig_match.specs.Works.{IsPart}
use Rattle.line_defs.specs.Search.{Found, Nothing, OutOfBudget, At, OfEnd, OfRule}
use Rattle.line_defs.specs.Search.{Of as Owner}
use Rattle.line_search.specs.declared.find.Of.{Of}
use Rattle.line_search.specs.declared.find.Of.TheVariants as of
use Rattle.line_search.specs.declared.find.Match.{Match}
use Rattle.line_search.specs.declared.find.Find.{Find}
use Rattle.line_search.specs.declared.find.Find.TheVariants as find

abbrev pub owner_of : Of → Owner
owner_of of.End = OfEnd
owner_of (of.Rule id) = OfRule id.0

-- what is found, where the last hit captured so
abbrev pub found_of : Find → (hit : Captures) → Found
found_of find.Nothing hit = Nothing
found_of find.Spent hit = OutOfBudget
found_of (find.At m) hit = At (record { of = owner_of m.of; from = m.from; to = m.to; captures = hit })

-- the end of a frame, or one of so many rules
abbrev pub IsBelow : (rules : ℕ) → Owner → Type 0
IsBelow rules OfEnd = Unit {0}
IsBelow rules (OfRule number) = number < rules

abbrev pub IsOwner : (rules : ℕ) → Of → Type 0
IsOwner rules of = IsBelow rules (owner_of of)

-- A match in a text of so many characters: from a place or behind it, and within the text. Its captures are parts of
-- the text, and the first is the whole.
pub record IsPartFrom (from chars : ℕ) (hit : Captures) (m : Match) : Type 0 where
  pub begins : from ≤ m.from
  pub goes : m.from ≤ m.to
  pub ends : m.to ≤ chars
  pub whole : capture_of hit 0 ≡ Some (record { from = m.from; to = m.to })
  pub parts : (n : ℕ) → IfSome (capture_of hit n) (IsPart chars)

-- a fact of the match, if there is one
abbrev pub IfAt : Find → (Match → Type 0) → Type 0
IfAt find.Nothing P = Unit {0}
IfAt find.Spent P = Unit {0}
IfAt (find.At m) P = P m

-- a fact where nothing is found
abbrev pub IfNothing : Find → Type 0 → Type 0
IfNothing find.Nothing P = P
IfNothing find.Spent P = Unit {0}
IfNothing (find.At m) P = Unit {0}
