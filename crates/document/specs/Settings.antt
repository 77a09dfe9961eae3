-- What stays the same while a text is open, by what an object tells that gives the tokens of lines.
use Rattle.std.specs.Prelude.{List}
use Rattle.text_pos.specs.declared.limits.Limits.{Limits}
use Rattle.scope_defs.specs.Frames.{bare}
use Rattle.line_runs.specs.Runs.{Runs}
use Rattle.pairing_defs.specs.declared.BracketText.{BracketText}
use Rattle.document_defs.specs.TextRows.{Settings}

abbrev pub settings_by : Runs → List BracketText → Limits → Settings
settings_by runs texts limits =
    record { start = bare runs.start; line = runs.line; texts = texts; limits = limits }
