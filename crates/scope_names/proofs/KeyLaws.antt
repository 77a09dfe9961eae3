-- A key whose bits a list hasn't is that of none of its names.
use Rattle.std.proofs.Common.{◌≡◌, ℕ, ◌*◌, ◌/◌, ◌%◌, ◌^◌, ◌<◌, true, false, [], ◌∷◌, fold, subst}
use Rattle.std.proofs.Common.{arith, w64}
use Rattle.std.specs.Int.{bit_at}
use Rattle.std.proofs.lemmas.Nat.Bits.{bit_at_or, bit_at_set_same, bit_at-lt}
use Rattle.scope_defs.specs.Scopes.{Name, Scopes}
use Rattle.scope_names.specs.Keys.{HasNoKey, key_of, first_key, keys_of, with_key, with_name, with_bit, may_have, no_keys}
use Rattle.scope_names.specs.declared.keys.KeyBits.{KeyBits}

-- the bits of a key are there
pub record HasBits (keys : KeyBits) (key : ℕ) : Type 0 where
  pub low : bit_at keys.low (key % 64) ≡ 1
  pub middle : bit_at keys.middle (key / 2 ^ 16 % 64) ≡ 1
  pub high : bit_at keys.high (key / 2 ^ 32 % 64) ≡ 1

bit_stays : (word more bit : ℕ) → bit_at word bit ≡ 1 → bit_at (with_bit word more) bit ≡ 1
bit_stays word more bit is =
    let both = bit_at_or word (1 * 2 ^ more % 2 ^ 64) bit in
    let few = bit_at-lt (1 * 2 ^ more % 2 ^ 64) bit in
    omega (arith, both, few)

bit_set : (word bit : ℕ) → bit < 64 → bit_at (with_bit word bit) bit ≡ 1
bit_set word bit low = bit_at_set_same w64 word bit low

key_stays : (keys : KeyBits) (more key : ℕ) → HasBits keys key → HasBits (with_key keys more) key
key_stays keys more key has = record {
  low = bit_stays keys.low (more % 64) (key % 64) has.low;
  middle = bit_stays keys.middle (more / 2 ^ 16 % 64) (key / 2 ^ 16 % 64) has.middle;
  high = bit_stays keys.high (more / 2 ^ 32 % 64) (key / 2 ^ 32 % 64) has.high;
}

key_set : (keys : KeyBits) (key : ℕ) → HasBits (with_key keys key) key
key_set keys key = record {
  low = bit_set keys.low (key % 64) (omega arith);
  middle = bit_set keys.middle (key / 2 ^ 16 % 64) (omega arith);
  high = bit_set keys.high (key / 2 ^ 32 % 64) (omega arith);
}

name_stays : (keys : KeyBits) (name : Name) (key : ℕ) → HasBits keys key → HasBits (with_name keys name) key
name_stays keys name key has =
    key_stays (with_key keys (first_key name)) (key_of name) key (key_stays keys (first_key name) key has)

first_set : (keys : KeyBits) (name : Name) → HasBits (with_name keys name) (first_key name)
first_set keys name =
    key_stays (with_key keys (first_key name)) (key_of name) (first_key name) (key_set keys (first_key name))

both_set : (keys : KeyBits) (name : Name) → HasBits (with_name keys name) (key_of name)
both_set keys name = key_set (with_key keys (first_key name)) (key_of name)

abbrev behind : KeyBits → Scopes → KeyBits
behind keys names = fold with_name keys names

stays_behind : (keys : KeyBits) (names : Scopes) (key : ℕ) → HasBits keys key → HasBits (behind keys names) key
stays_behind keys [] key has = has
stays_behind keys (name ∷ names) key has = stays_behind (with_name keys name) names key (name_stays keys name key has)

bits_absurd : (keys : KeyBits) (key : ℕ) → HasBits keys key → may_have keys key ≡ false → ⊥
bits_absurd keys key has not =
    let yes : may_have keys key ≡ true = rw (has.low, has.middle, has.high) in
    cc

none_behind : (keys : KeyBits) (names : Scopes) (key : ℕ) → may_have (behind keys names) key ≡ false → HasNoKey key names
none_behind keys [] key not = tt
none_behind keys (name ∷ names) key not =
    let set : (k : ℕ) → HasBits (with_name keys name) k → k ≡ key → ⊥ =
    λ k has is. bits_absurd (behind keys (name ∷ names)) key
    (stays_behind (with_name keys name) names key (subst (HasBits (with_name keys name)) is has)) not in (
      set (key_of name) (both_set keys name),
      set (first_key name) (first_set keys name),
      none_behind (with_name keys name) names key not,
    )

pub no_key : (names : Scopes) (key : ℕ) → may_have (keys_of names) key ≡ false → HasNoKey key names
no_key names key not = none_behind no_keys names key not
