-- Numbers that are made of names and lists, so that most unequal ones are told apart at once. They are computed as the
-- hash FNV-1a is, with a sum in place of an exclusive or.
use Rattle.std.specs.Prelude.{ℕ, ◌+◌, ◌*◌, ◌%◌, ◌^◌, fold}
use Rattle.scope_names.specs.declared.numbers.TheConstants.{FACTOR, SEED}
use Rattle.scope_defs.specs.Scopes.{Name, Scopes}

-- the number of a list with one more part, of the numbers of both
abbrev pub mixed : ℕ → ℕ → ℕ
mixed number part = (number * FACTOR % 2 ^ 64 + part) % 2 ^ 64

abbrev pub name_number : Name → ℕ
name_number name = fold mixed SEED name

abbrev pub scopes_number : Scopes → ℕ
scopes_number scopes = fold (λ number name. mixed number (name_number name)) SEED scopes
