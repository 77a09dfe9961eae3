-- Sets of kinds. A set is a number whose bit k says whether kind k is in it.
use Rattle.std.specs.Prelude.{ℕ, ◌^◌, Bool, ◌==◌}
use Rattle.std.specs.Int.{bit_at}
use Rattle.text_pos.specs.declared.kinds.Kinds.{Kinds}

-- whether bit k of a number is 1
abbrev pub is_set : ℕ → ℕ → Bool
is_set n k = bit_at n k == 1

abbrev pub has_kind : Kinds → ℕ → Bool
has_kind kinds k = is_set kinds.bits k

-- the set of one kind
abbrev pub only : ℕ → Kinds
only k = record { bits = 2 ^ k }
