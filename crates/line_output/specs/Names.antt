-- The names that scope texts stand for after a match.
use Rattle.std.specs.Prelude.{ℕ, List, chars, encode_utf8_all, option_map, Option, Some, None}
use Rattle.pattern_defs.specs.Attempt.{Captures}
use Rattle.scope_defs.specs.Scopes.{Scopes, pieces, with_names}
use Rattle.line_defs.specs.ScopeTexts.{filled}

abbrev pub names_of : (text : List ℕ) → Captures → (name : List ℕ) → Scopes
names_of text captures name = pieces (encode_utf8_all (filled text captures (chars name)))

abbrev pub names_in : (text : List ℕ) → Captures → (name : Option (List ℕ)) → Option Scopes
names_in text captures name = option_map (names_of text captures) name

-- scopes with names pushed, which may be missing
abbrev pub with_pieces : Scopes → Option Scopes → Scopes
with_pieces scopes None = scopes
with_pieces scopes (Some names) = with_names scopes names
