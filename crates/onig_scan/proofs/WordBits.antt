-- The bits of the words of rows.
use Rattle.std.proofs.Common.{◌≡◌, ◌≢◌, ℕ, zero, suc, ◌+◌, ◌*◌, ◌/◌, ◌%◌, ◌^◌, ◌<◌, ◌≤◌, Bool, true, false, List}
use Rattle.std.proofs.Common.{length, refl, sym, ap, ◌∙◌, arith, w64, pow-add}
use Rattle.std.proofs.lemmas.Bool.{ltb-true, ltb-false}
use Rattle.std.proofs.lemmas.Nat.{div-mul-add, mod-mul-add}
use Rattle.std.proofs.lemmas.Nat.Bits.{bit_at_above, bit_at-suc, bit_at-trailing_zeros, bit_at_set_same, bit_at_and}
use Rattle.std.proofs.lemmas.Nat.Bits.{bit_at_set_other}
use Rattle.std.proofs.Math.Nat.{div-div-eq-div-mul, mul-le-mul_right}
use Rattle.std.specs.Int.{bit_at, trailing_zeros}
use Rattle.std.specs.Prelude.{slice_get, IfSome, nat_lt, bit_or, bit_and, min, Option, Some, None}
use borrow.Author.Count.{below_more}
use Rattle.pattern_defs.specs.Patterns.{Tree}
use Rattle.onig_scan.specs.declared.rows.TheConstants.{ROWS}
use Rattle.onig_scan.specs.Rows.{AreScalars, HasRow, IsMissed, IsSpared, IsWord, IsWordHere, AreRows, IsRow}

-- a bit behind a shift
bit_at-shifted : (n s j : ℕ) → bit_at (n / 2 ^ s) j ≡ bit_at n (s + j)
bit_at-shifted n s j = ap (λ m. m % 2) (div-div-eq-div-mul n (2 ^ s) (2 ^ j) ∙ ap (λ m. n / m) (sym (pow-add 2 s j)))

-- what is left of a word from its place `from` on, up to its lowest bit
pub record LowestBit (word from left lowest : ℕ) : Type 0 where
  pub within : from + lowest < 64
  pub zeros : (j : ℕ) → j < lowest → bit_at word (from + j) ≡ 0
  pub behind : (j : ℕ) → bit_at (left / 2 ^ lowest / 2) j ≡ bit_at word (from + lowest + 1 + j)

pub lowest_bit : (word from left : ℕ) → (left ≡ 0 → ⊥) → left < 2 ^ 64 → word < 2 ^ 64 →
    ((j : ℕ) → bit_at left j ≡ bit_at word (from + j)) → LowestBit word from left (trailing_zeros w64 left)
lowest_bit word from left some fits small bits =
    let low : ℕ = trailing_zeros w64 left in
    let positive : 0 < left = omega (arith, some) in
    let is = bit_at-trailing_zeros w64 left positive fits in
    let set : bit_at word (from + low) ≡ 1 = sym (bits low) ∙ is.1 in
    record {
      within = by_test (nat_lt (from + low) 64) refl set;
      zeros = λ j below. sym (bits j) ∙ is.2 j below;
      behind = λ j.
          sym (bit_at-suc (left / 2 ^ low) j) ∙ bit_at-shifted left low (suc j) ∙ bits (low + suc j)
          ∙ (let e : from + (low + suc j) ≡ from + low + 1 + j = omega arith in ap (bit_at word) e);
    }
  where
    by_test : (b : Bool) → nat_lt (from + trailing_zeros w64 left) 64 ≡ b
        → bit_at word (from + trailing_zeros w64 left) ≡ 1 →
        from + trailing_zeros w64 left < 64
    by_test true e set = ltb-true (from + trailing_zeros w64 left) 64 e
    by_test false e set =
        let none : bit_at word (from + trailing_zeros w64 left) ≡ 0 =
        bit_at_above word 64 (from + trailing_zeros w64 left) small (ltb-false (from + trailing_zeros w64 left) 64 e) in
        absurd (omega (arith, none, set))

-- one bit more of a word that is made
pub bits_more : (trees : List Tree) (row first cost k old new : ℕ) (may : Bool) → k < 64 →
    (may ≡ true → new ≡ bit_or old (1 * 2 ^ k % 2 ^ 64)) → (may ≡ false → new ≡ old) →
    ((j : ℕ) → j < k → bit_at old j ≡ 0 → IfSome (slice_get trees (first + j)) (λ tree. IsSpared tree row cost)) →
    (may ≡ false → IfSome (slice_get trees (first + k)) (λ tree. IsSpared tree row cost)) →
    (j : ℕ) → j < k + 1 → bit_at new j ≡ 0 → IfSome (slice_get trees (first + j)) (λ tree. IsSpared tree row cost)
bits_more trees row first cost k old new true within set same before here =
    let set' : new ≡ bit_or old (1 * 2 ^ k % 2 ^ 64) = set refl in
    below_more (λ j. bit_at new j ≡ 0 → IfSome (slice_get trees (first + j)) (λ tree. IsSpared tree row cost)) k
    (λ j low zero.
    let ne : j ≢ k = omega arith in
    before j low (sym (bit_at_set_other w64 old k within j ne) ∙ (rw set' at zero)))
    (λ zero.
    let one : bit_at (bit_or old (1 * 2 ^ k % 2 ^ 64)) k ≡ 1 = bit_at_set_same w64 old k within in
    let none : bit_at (bit_or old (1 * 2 ^ k % 2 ^ 64)) k ≡ 0 = rw set' at zero in
    absurd (omega (arith, one, none)))
bits_more trees row first cost k old new false within set same before here =
    let same' : new ≡ old = same refl in
    below_more (λ j. bit_at new j ≡ 0 → IfSome (slice_get trees (first + j)) (λ tree. IsSpared tree row cost)) k
    (λ j low zero. before j low (rw same' at zero)) (λ zero. here refl)

-- the words of a row among all words
pub row_of_rows : (trees : List Tree) (words cost row : ℕ) (rows : List ℕ) → row < ROWS → length rows ≡ ROWS * words
    → AreRows trees words cost rows →
    IsRow trees row cost rows (row * words) words
row_of_rows trees words cost row rows low size are =
    record {
      is = λ k within.
          let most : (row + 1) * words ≤ ROWS * words = mul-le-mul_right words (omega arith) in
          let fits : row * words + k < length rows = omega (arith, most, size) in
          let one : IsWord trees ((row * words + k) / words) (64 * ((row * words + k) % words)) cost _ =
          are.is (row * words + k) fits in
          rw (div-mul-add row words k within, mod-mul-add row words k within) at one;
    }

-- a bit that isn't set in both words is of a pattern that misses by the one row or the other
pub word_here : (trees : List Tree) (row past first at : ℕ) (text : List ℕ) (cost here before : ℕ) →
    AreScalars text at → HasRow text at row → HasRow text at past → IsWord trees row first cost here
    → IsWord trees past first cost before → IsWordHere trees text at first cost (bit_and here before)
word_here trees row past first at text cost here before scalars has has' one other =
    record {
      spares = λ j low zero.
          let least : min (bit_at here j) (bit_at before j) ≡ 0 = sym (bit_at_and here before j) ∙ zero in
          by_bits j low (bit_at here j) (bit_at before j) refl refl least;
    }
  where
    missed : (r j : ℕ) → HasRow text at r → IfSome (slice_get trees (first + j)) (λ tree. IsSpared tree r cost)
        → IfSome (slice_get trees (first + j)) (λ tree. IsMissed tree text at cost)
    missed r j has spared = by_tree (slice_get trees (first + j)) spared
      where
        by_tree : (o : Option Tree) → IfSome o (λ tree. IsSpared tree r cost) → IfSome o (λ tree. IsMissed tree text at cost)
        by_tree None spared = tt
        by_tree (Some tree) spared =
            record { misses = λ flags budget enough. spared.misses text at flags budget scalars has enough }

    by_bits : (j : ℕ) → j < 64 → (a b : ℕ) → bit_at here j ≡ a → bit_at before j ≡ b → min a b ≡ 0
        → IfSome (slice_get trees (first + j)) (λ tree. IsMissed tree text at cost)
    by_bits j low zero b is is' least = missed row j has (one.spares j low is)
    by_bits j low (suc a) zero is is' least = missed past j has' (other.spares j low is')
    by_bits j low (suc a) (suc b) is is' least = absurd (omega (arith, least))
