-- Scope texts that stand for themselves.
use Rattle.std.specs.Prelude.{ℕ, ◌==◌, List, Bool, Option, Some, None, if◌then◌else◌}
use Rattle.std.specs.List.{list_any}
use Rattle.scope_defs.specs.Scopes.{Scopes, pieces}

-- whether a text has a `$`
abbrev pub has_dollar : List ℕ → Bool
has_dollar text = list_any (λ c. c == 36) text

-- the names of a text that has none
abbrev pub fixed_of : List ℕ → Option Scopes
fixed_of text = if has_dollar text then None else Some (pieces text)
