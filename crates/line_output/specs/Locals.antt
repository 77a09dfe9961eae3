-- How the open captures of a match are kept: the outermost first.
use Rattle.std.specs.Prelude.{List, map, reverse}
use Rattle.line_defs.specs.Captures.{Local}
use Rattle.line_output.specs.declared.locals.Local.{Local as Kept}

abbrev pub local_of : Kept → Local
local_of kept = record { scopes = kept.scopes; end = kept.end }

abbrev pub innermost_first : List Kept → List Local
innermost_first kept = reverse (map local_of kept)
