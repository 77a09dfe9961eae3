-- The set of the kinds that a list of tests tells, one for each kind.
use Rattle.std.proofs.Common.{◌≡◌, ℕ, zero, suc, ◌+◌, ◌*◌, ◌/◌, ◌%◌, ◌<◌, ◌==◌, ◌||◌, Bool, true, false}
use Rattle.std.proofs.Common.{if◌then◌else◌, List, [], ◌∷◌, ◌++◌, length, map, take, get_or, refl, sym, ap, ◌∙◌, arith}
use Rattle.std.specs.Int.{bit_at}
use Rattle.std.proofs.lemmas.Bool.Decides.{nat_tests}
use Rattle.std.proofs.lemmas.List.{take_more, map-append, length-map}
use Rattle.std.proofs.lemmas.List.{length-take}
use Rattle.std.proofs.lemmas.Nat.Bits.{bit_at_lowest, bit_at-suc, bit_at-zero, bit_at-lt, same_from_bits}
use Rattle.text_pos.specs.declared.kinds.Kinds.{Kinds}
use Rattle.text_pos.specs.KindSet.{has_kind, is_set}
use Rattle.pairing_defs.specs.BracketTexts.{number_of}

-- what the list tells of kind k
abbrev pub is_at : List Bool → ℕ → Bool
is_at [] k = false
is_at (bit ∷ bits) zero = bit
is_at (bit ∷ bits) (suc k) = is_at bits k

lowest : (bit : Bool) (n : ℕ) → (((if bit then 1 else 0) + 2 * n) % 2 == 1) ≡ bit
lowest true n = grind (arith, nat_tests)
lowest false n = grind (arith, nat_tests)

halved : (bit : Bool) (n : ℕ) → ((if bit then 1 else 0) + 2 * n) / 2 ≡ n
halved true n = omega arith
halved false n = omega arith

set_of_number : (bits : List Bool) (k : ℕ) → is_set (number_of bits) k ≡ is_at bits k
set_of_number [] k = rw (bit_at-zero k) refl
set_of_number (bit ∷ bits) zero =
    rw (bit_at_lowest ((if bit then 1 else 0) + 2 * number_of bits)) (lowest bit (number_of bits))
set_of_number (bit ∷ bits) (suc k) =
    rw (bit_at-suc ((if bit then 1 else 0) + 2 * number_of bits) k, halved bit (number_of bits)) (set_of_number bits k)

-- a set is told by its kinds
same_bit : (x y : ℕ) → x < 2 → y < 2 → (x == 1) ≡ (y == 1) → x ≡ y
same_bit x y p q e = grind (arith, nat_tests)

same_set : (a b : Kinds) → ((k : ℕ) → has_kind a k ≡ has_kind b k) → a ≡ b
same_set a b same =
    let bits : a.bits ≡ b.bits = same_from_bits a.bits b.bits
    (λ k. same_bit (bit_at a.bits k) (bit_at b.bits k) (bit_at-lt a.bits k) (bit_at-lt b.bits k) (same k)) in
    rw bits refl

pub set_by : (a : Kinds) (bits : List Bool) → ((k : ℕ) → has_kind a k ≡ is_at bits k)
    → a ≡ record { bits = number_of bits }
set_by a bits same = same_set a (record { bits = number_of bits }) (λ k. same k ∙ sym (set_of_number bits k))

-- one test more
or_false : (b : Bool) → b ≡ (b || false)
or_false true = refl
or_false false = refl

zero_is_behind : (n : ℕ) → (0 == suc n) ≡ false
zero_is_behind n = grind (arith, nat_tests)

one_behind : (k n : ℕ) → (suc k == suc n) ≡ (k == n)
one_behind k n = grind (arith, nat_tests)

at_first : (bit : Bool) (k : ℕ) → is_at (bit ∷ []) k ≡ (if bit then k == 0 else false)
at_first true zero = refl
at_first false zero = refl
at_first true (suc k) = grind (arith, nat_tests)
at_first false (suc k) = refl

if_zero : (bit b : Bool) (n : ℕ) → b ≡ (b || (if bit then 0 == suc n else false))
if_zero true b n = or_false b ∙ ap (λ x. b || x) (sym (zero_is_behind n))
if_zero false b n = or_false b

is_at-more : (bits : List Bool) (bit : Bool) (k n : ℕ) → n ≡ length bits → is_at (bits ++ bit ∷ []) k
    ≡ (is_at bits k || (if bit then k == n else false))
is_at-more [] bit k n e = at_first bit k ∙ ap (λ n. if bit then k == n else false) (sym e)
is_at-more (b ∷ bits) bit zero n e =
    if_zero bit b (length bits)
    ∙ ap (λ n. b || (if bit then 0 == n else false)) (let same : suc (length bits) ≡ n = omega arith in same)
is_at-more (b ∷ bits) bit (suc k) n e =
    is_at-more bits bit k (length bits) refl
    ∙ ap (λ x. is_at bits k || (if bit then x else false)) (sym (one_behind k (length bits)))
    ∙ ap (λ n. is_at bits k || (if bit then suc k == n else false))
    (let same : suc (length bits) ≡ n = omega arith in same)

pub taken_more : (test : List ℕ → Bool) (xs : List (List ℕ)) (n : ℕ) (x : List ℕ) → n < length xs → x ≡ get_or xs n x
    → (k : ℕ) → is_at (map test (take (n + 1) xs)) k
    ≡ (is_at (map test (take n xs)) k || (if test x then k == n else false))
taken_more test xs n x below is k =
    let more : take (n + 1) xs ≡ take n xs ++ x ∷ [] =
    take_more xs n x below ∙ ap (λ y. take n xs ++ y ∷ []) (sym is) in
    let many : n ≡ length (map test (take n xs)) = omega (arith, length-map (take n xs) test, length-take n xs) in
    ap (λ ys. is_at (map test ys) k) more
    ∙ ap (λ bits. is_at bits k) (map-append test (take n xs) (x ∷ []))
    ∙ is_at-more (map test (take n xs)) (test x) k n many
