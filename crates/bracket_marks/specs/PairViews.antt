-- What an answer says of pairs.
use Rattle.std.specs.Prelude.{◌≡◌, List, Result, Ok, Err, ⊤}
use Rattle.pairing_defs.specs.declared.BracketText.{BracketText}
use Rattle.pairing_defs.specs.BracketTexts.{BracketsOfPairs, too_many_kinds, too_long, brackets}
use Rattle.bracket_marks.specs.declared.brackets.BracketRefusal.{BracketRefusal}
use Rattle.bracket_marks.specs.declared.brackets.BracketRefusal.TheVariants.{TooManyKinds, TextLength, Memory}

-- the answer is what the pairs stand for; want of memory says nothing of them
abbrev pub GivesBrackets : Result (List BracketText) BracketRefusal → BracketsOfPairs → Type 0
GivesBrackets (Ok texts) reading = reading ≡ brackets texts
GivesBrackets (Err (TooManyKinds count)) reading = reading ≡ too_many_kinds count
GivesBrackets (Err (TextLength index count)) reading = reading ≡ too_long (record { index = index; count = count })
GivesBrackets (Err Memory) reading = ⊤
