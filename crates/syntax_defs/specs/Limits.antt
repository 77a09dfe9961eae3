-- The limits of a pattern text, which are this project's own.
use Rattle.std.specs.Prelude.{ℕ}
use Rattle.syntax_defs.specs.declared.limits.TheConstants.{MOST_COUNT, MOST_LENGTH, MOST_LEVELS, MOST_PATTERN_CHARS}
use Rattle.syntax_defs.specs.declared.limits.TheConstants.{MOST_REPEATS, GREATER_COUNT}

-- the characters of a text
abbrev pub most_pattern_chars : ℕ
most_pattern_chars = MOST_PATTERN_CHARS

-- forms in parentheses and classes, one in another
abbrev pub most_levels : ℕ
most_levels = MOST_LEVELS

-- repeats on one item
abbrev pub most_repeats : ℕ
most_repeats = MOST_REPEATS

-- a number of an interval
abbrev pub most_count : ℕ
most_count = MOST_COUNT

-- what stands for each number of an interval that is greater
abbrev pub greater_count : ℕ
greater_count = GREATER_COUNT

-- how far a lookbehind sees, in characters
abbrev pub most_length : ℕ
most_length = MOST_LENGTH
