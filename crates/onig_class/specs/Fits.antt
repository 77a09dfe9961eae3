-- When what the code has read is what the definitions say.
use Rattle.std.specs.Prelude.{◌≡◌, ℕ, List, Option, Some, None}
use Rattle.char_sets.specs.Named.{in_named}
use Rattle.char_sets.specs.Ranges.{IsSetOf}
use Rattle.syntax_defs.specs.Reading.{Read, Fitting}
use Rattle.syntax_defs.specs.Escapes.{Char, Set, complement_if}
use Rattle.syntax_defs.specs.Escapes as defs
use Rattle.onig_class.specs.declared.escape.Escape.{Escape}
use Rattle.onig_class.specs.declared.escape.Escape.TheVariants as escapes
use Rattle.onig_class.specs.declared.escape.Escaped.{Escaped}
use Rattle.onig_class.specs.declared.escape.Escaped.TheVariants as values

-- an escape, with its set by name
abbrev pub IsEscape : Escape → defs.Escaped → Type 0
IsEscape (escapes.Char c) e = e ≡ Char c
IsEscape (escapes.Set set negated) e = e ≡ Set (complement_if negated (in_named set))

-- an escape, with its set as ranges
abbrev pub IsEscaped : Escaped → defs.Escaped → Type 0
IsEscaped (values.Char c) (Char d) = c ≡ d
IsEscaped (values.Set set) (Set p) = IsSetOf set p
IsEscaped _ _ = ⊥

-- a single character and the place behind it, if there is one
abbrev pub IsSingle : List ℕ → Option (ℕ × ℕ) → Option (Read ℕ) → Type 0
IsSingle text None single = single ≡ None
IsSingle text (Some found) None = ⊥
IsSingle text (Some found) (Some read) = Fitting (λ c d. c ≡ d) text found.0 found.1 read
