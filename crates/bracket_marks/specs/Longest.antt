-- The longest text so far.
use Rattle.std.specs.Prelude.{length, nat_lt, if◌then◌else◌, Option, Some, None}
use Rattle.pairing_defs.specs.declared.BracketText.{BracketText}

-- the longest of some texts, with one more behind them
abbrev pub or_longer : Option BracketText → BracketText → Option BracketText
or_longer None b = Some b
or_longer (Some a) b = if nat_lt (length a.text) (length b.text) then Some b else Some a
