-- The object that gives each line as one token.
use Rattle.std.specs.Prelude.{ℕ, List, [], length, false}
use Rattle.text_pos.specs.declared.limits.Limits.{Limits}
use Rattle.scope_defs.specs.Frames.{Start}
use Rattle.line_defs.specs.Tokens.{whole}
use Rattle.line_defs.specs.Line.{LineResult}
use Rattle.line_runs.specs.Runs.{Runs}

pub record WholeState : Type 0 where
  pub limits : Limits
  pub start : Start
  pub runs : ℕ

abbrev pub whole_line : Start → List ℕ → LineResult
whole_line start line = record {
  tokens = whole (length line) [];
  end = record { first = false; stack = start.stack };
  stopped = false;
}

abbrev pub told : WholeState → Runs
told w = record { start = w.start; groups = 0; limits = w.limits; line = whole_line }
