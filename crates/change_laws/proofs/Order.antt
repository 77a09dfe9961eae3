-- Lengths in order, and what is left of them behind their fronts.
use Rattle.std.proofs.Common.{◌≡◌, true, false, arith}
use Rattle.std.proofs.lemmas.Bool.Decides.{nat_tests}
use Rattle.text_pos.specs.declared.length.Length.{Length}
use Rattle.text_pos.specs.Lengths.{plus}
use Rattle.tree_defs.proofs.Lengths.{same_length}
use Rattle.change_defs.specs.Changes.{is_less, rest_of}

pub less_not_back : (a b : Length) → is_less a b ≡ true → is_less b a ≡ false
less_not_back a b h = grind (arith, nat_tests)

pub less_then_less : (a b c : Length) → is_less a b ≡ true → is_less b c ≡ true → is_less a c ≡ true
less_then_less a b c h k = grind (arith, nat_tests)

-- a < b ≤ c
pub less_then_up : (a b c : Length) → is_less a b ≡ true → is_less c b ≡ false → is_less a c ≡ true
less_then_up a b c h k = grind (arith, nat_tests)

-- a ≤ b < c
pub up_then_less : (a b c : Length) → is_less b a ≡ false → is_less b c ≡ true → is_less a c ≡ true
up_then_less a b c h k = grind (arith, nat_tests)

-- a ≤ b ≤ c
pub up_then_up : (a b c : Length) → is_less b a ≡ false → is_less c b ≡ false → is_less c a ≡ false
up_then_up a b c h k = grind (arith, nat_tests)

pub not_less_itself : (a : Length) → is_less a a ≡ false
not_less_itself a = grind (arith, nat_tests)

pub same_from_order : (a b : Length) → is_less a b ≡ false → is_less b a ≡ false → a ≡ b
same_from_order a b h k = same_length a b (grind (arith, nat_tests)) (grind (arith, nat_tests))

-- ---- sums
pub plus_rest : (front whole : Length) → is_less whole front ≡ false → plus front (rest_of whole front) ≡ whole
plus_rest front whole h = same_length _ _ (grind (arith, nat_tests)) (grind (arith, nat_tests))

pub rest_plus : (front rest : Length) → rest_of (plus front rest) front ≡ rest
rest_plus front rest = same_length _ _ (grind (arith, nat_tests)) (grind (arith, nat_tests))

pub plus_not_less : (front rest : Length) → is_less (plus front rest) front ≡ false
plus_not_less front rest = grind (arith, nat_tests)

pub plus_less : (front a b : Length) → is_less (plus front a) (plus front b) ≡ is_less a b
plus_less front a b = grind (arith, nat_tests)
