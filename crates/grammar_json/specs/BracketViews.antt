-- What an answer says of a bracket file.
use Rattle.std.specs.Prelude.{◌≡◌, List, Result, Ok, Err, ⊤}
use Rattle.pairing_defs.specs.declared.PairText.{PairText}
use Rattle.grammar_defs.specs.BracketShape.{BracketReading, no_json, wrong_kind, pairs}
use Rattle.grammar_json.specs.declared.brackets.PairRefusal.{PairRefusal}
use Rattle.grammar_json.specs.declared.brackets.PairRefusal.TheVariants.{Json, Shape, Memory}

-- the answer is what the file is read as; want of memory says nothing of it
abbrev pub GivesPairs : Result (List PairText) PairRefusal → BracketReading → Type 0
GivesPairs (Ok ps) reading = reading ≡ pairs ps
GivesPairs (Err Json) reading = reading ≡ no_json
GivesPairs (Err (Shape path)) reading = reading ≡ wrong_kind path
GivesPairs (Err Memory) reading = ⊤
