-- The tokens, the marks and the rows of a text: each line starts from where the line before it ended, and the rows are
-- those of one pass from the first line, over the marks of all lines. What stays the same while a text is open is this
-- project's own.
use Rattle.std.specs.Prelude.{ℕ, List, [], ◌∷◌, length, map}
use Rattle.text_pos.specs.declared.limits.Limits.{Limits}
use Rattle.text_defs.specs.Text.{lines_of}
use Rattle.text_defs.specs.Place.{place_of}
use Rattle.scope_defs.specs.declared.types.TypeRun.{TypeRun}
use Rattle.scope_defs.specs.StandardType.{type_of}
use Rattle.scope_defs.specs.Frames.{Start, Token}
use Rattle.line_defs.specs.Line.{LineResult}
use Rattle.pairing_defs.specs.declared.BracketText.{BracketText}
use Rattle.pairing_defs.specs.declared.LineMark.{LineMark}
use Rattle.pairing_defs.specs.declared.Mark.{Mark}
use Rattle.pairing_defs.specs.declared.Row.{Row}
use Rattle.pairing_defs.specs.Marks.{counts_by, marks_of, marks_of_lines}
use Rattle.pairing_defs.specs.Pairing.{paired}

-- What stays the same while a text is open: what its first line starts from and what each line gives from a start, which
-- texts are brackets, and the limits.
pub record Settings : Type 0 where
  pub start : Start
  pub line : Start → List ℕ → LineResult
  pub texts : List BracketText
  pub limits : Limits

-- ---- tokens

-- what lines give, of which the first starts from a start
abbrev pub results_from : Settings → Start → List (List ℕ) → List LineResult
results_from settings start [] = []
results_from settings start (line ∷ lines) =
    settings.line start line ∷ results_from settings (settings.line start line).end lines

-- the tokens of each line of a text
abbrev pub tokens_of : Settings → List ℕ → List (List Token)
tokens_of settings text = map (λ result. result.tokens) (results_from settings settings.start (lines_of text))

-- ---- marks

-- the types of tokens: each holds up to where its token ends
abbrev pub type_run : Token → TypeRun
type_run token = record { to = token.to; kind = type_of token.scopes }

abbrev pub types_of : List Token → List TypeRun
types_of tokens = map type_run tokens

-- the marks of a line with these tokens
abbrev pub line_marks : Settings → List Token → List ℕ → List LineMark
line_marks settings tokens line = marks_of settings.texts settings.limits.long (counts_by (types_of tokens)) line

-- the marks of each line, of which the first starts from a start
abbrev pub marks_from : Settings → Start → List (List ℕ) → List (List LineMark)
marks_from settings start [] = []
marks_from settings start (line ∷ lines) =
    line_marks settings (settings.line start line).tokens line ∷ marks_from settings (settings.line start line).end lines

-- the marks of a text
abbrev pub marks_in_text : Settings → List ℕ → List Mark
marks_in_text settings text = marks_of_lines 0 (marks_from settings settings.start (lines_of text))

-- ---- rows

-- the rows of a text
abbrev pub rows_of : Settings → List ℕ → List Row
rows_of settings text = paired settings.limits.nesting (place_of text (length text)) (marks_in_text settings text)
