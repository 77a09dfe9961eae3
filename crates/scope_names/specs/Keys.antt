-- Numbers of the first part and of the first two parts of names, and bits that are kept of both for a list, so that most
-- names which it doesn't have are told without looking at its own.
use Rattle.std.specs.Prelude.{◌≡◌, ℕ, ◌*◌, ◌/◌, ◌%◌, ◌^◌, ◌==◌, ◌&&◌, Bool, true, false, [], ◌∷◌, fold, bit_or}
use Rattle.std.specs.Prelude.{if◌then◌else◌}
use Rattle.std.specs.Int.{bit_at}
use Rattle.scope_defs.specs.Scopes.{Name, Scopes}
use Rattle.scope_names.specs.Numbers.{mixed}
use Rattle.scope_names.specs.declared.numbers.TheConstants.{SEED}
use Rattle.scope_names.specs.declared.keys.KeyBits.{KeyBits}

-- the number of what stands before the second dot, where a dot was met or not
abbrev pub key_from : ℕ → Bool → Name → ℕ
key_from number dotted [] = number
key_from number dotted (c ∷ cs) =
    if c == 46 then (if dotted then number else key_from (mixed number c) true cs)
    else key_from (mixed number c) dotted cs

abbrev pub key_of : Name → ℕ
key_of name = key_from SEED false name

-- the number of what stands before the first dot
abbrev pub first_key : Name → ℕ
first_key name = key_from SEED true name

-- neither of these of a name of the list is this key
abbrev pub HasNoKey : ℕ → Scopes → Type 0
HasNoKey key [] = Unit {0}
HasNoKey key (name ∷ names) = (key_of name ≡ key → ⊥) × (first_key name ≡ key → ⊥) × HasNoKey key names

-- ---- the bits of a list

abbrev pub with_bit : (word bit : ℕ) → ℕ
with_bit word bit = bit_or word (1 * 2 ^ bit % 2 ^ 64)

abbrev pub has_bit : (word bit : ℕ) → Bool
has_bit word bit = bit_at word bit == 1

abbrev pub no_keys : KeyBits
no_keys = record { low = 0; middle = 0; high = 0 }

abbrev pub with_key : KeyBits → ℕ → KeyBits
with_key keys key = record {
  low = with_bit keys.low (key % 64);
  middle = with_bit keys.middle (key / 2 ^ 16 % 64);
  high = with_bit keys.high (key / 2 ^ 32 % 64);
}

abbrev pub may_have : KeyBits → ℕ → Bool
may_have keys key =
    has_bit keys.low (key % 64) && (has_bit keys.middle (key / 2 ^ 16 % 64) && has_bit keys.high (key / 2 ^ 32 % 64))

abbrev pub with_name : KeyBits → Name → KeyBits
with_name keys name = with_key (with_key keys (first_key name)) (key_of name)

abbrev pub keys_of : Scopes → KeyBits
keys_of scopes = fold with_name no_keys scopes
