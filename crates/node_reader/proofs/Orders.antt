-- Lengths in order.
use Rattle.std.proofs.Common.{◌≡◌, ◌==◌, ◌&&◌, ◌||◌, nat_lt, Bool, true, false, sym, ap, ◌∙◌, arith}
use Rattle.std.proofs.Common.{inl, inr}
use Rattle.std.proofs.lemmas.Bool.{cases_Bool, true≢false}
use Rattle.std.proofs.lemmas.Bool.Decides.{nat_tests}
use Rattle.text_pos.specs.declared.length.Length.{Length}
use Rattle.text_pos.specs.Lengths.{plus, IsLess}
use Rattle.tree_defs.specs.Shape.{no_length, IsSome, Fits}
use Rattle.tree_defs.proofs.Lengths.{same_length}
use Rattle.node_reader.specs.Starts.{is_same, is_some}

abbrev pub is_less : Length → Length → Bool
is_less a b = nat_lt a.lines b.lines || (a.lines == b.lines && nat_lt a.cols b.cols)

pub less_is : (a b : Length) → IsLess a b → is_less a b ≡ true
less_is a b (inl h) = grind (arith, nat_tests)
less_is a b (inr h) = let lines = h.0 in let cols = h.1 in grind (arith, nat_tests)

pub is_to_less : (a b : Length) → is_less a b ≡ true → IsLess a b
is_to_less a b h = grind (arith, nat_tests)

pub not_less_is : (a b : Length) → ¬ IsLess a b → is_less a b ≡ false
not_less_is a b h = elim (cases_Bool (is_less a b)) [
  | inl is ↦ absurd (h (is_to_less a b is))
  | inr isnt ↦ isnt
]

pub not_less : (a b : Length) → is_less a b ≡ false → ¬ IsLess a b
not_less a b h less = true≢false (sym (less_is a b less) ∙ h)

-- ---- order
pub not_itself : (a : Length) → is_less a a ≡ false
not_itself a = grind (arith, nat_tests)

pub plus_up : (a b : Length) → is_less (plus a b) a ≡ false
plus_up a b = grind (arith, nat_tests)

pub less_plus : (a b : Length) → is_some b ≡ true → is_less a (plus a b) ≡ true
less_plus a b h = grind (arith, nat_tests)

-- from a up to b, and from b up to c
pub up_trans : (a b c : Length) → is_less b a ≡ false → is_less c b ≡ false → is_less c a ≡ false
up_trans a b c h k = grind (arith, nat_tests)

pub less_up : (a b c : Length) → is_less a b ≡ true → is_less c b ≡ false → is_less a c ≡ true
less_up a b c h k = grind (arith, nat_tests)

pub up_less : (a b c : Length) → is_less b a ≡ false → is_less b c ≡ true → is_less a c ≡ true
up_less a b c h k = grind (arith, nat_tests)

pub not_after : (a b : Length) → is_less a b ≡ true → is_less b a ≡ false
not_after a b h = grind (arith, nat_tests)

pub less_same : (a b : Length) → is_less a b ≡ true → is_same b a ≡ false
less_same a b h = grind (arith, nat_tests)

pub less_same_2 : (a b : Length) → is_less a b ≡ true → is_same a b ≡ false
less_same_2 a b h = grind (arith, nat_tests)

pub same_itself : (a : Length) → is_same a a ≡ true
same_itself a = grind (arith, nat_tests)

pub same_is : (a b : Length) → is_same a b ≡ true → a ≡ b
same_is a b h = same_length a b (grind (arith, nat_tests)) (grind (arith, nat_tests))

-- ---- behind a front
pub plus_same : (s a b : Length) → is_same (plus s a) (plus s b) ≡ is_same a b
plus_same s a b = grind (arith, nat_tests)

pub plus_less : (s a b : Length) → is_less (plus s a) (plus s b) ≡ is_less a b
plus_less s a b = grind (arith, nat_tests)

-- ---- some length
pub some_is : (a : Length) → IsSome a → is_some a ≡ true
some_is a h = grind (arith, nat_tests)

pub is_to_some : (a : Length) → is_some a ≡ true → IsSome a
is_to_some a h = grind (arith, nat_tests)

pub some_behind : (a b : Length) → is_some b ≡ true → is_some (plus a b) ≡ true
some_behind a b h = grind (arith, nat_tests)

pub some_before : (a b : Length) → is_some a ≡ true → is_some (plus a b) ≡ true
some_before a b h = grind (arith, nat_tests)

pub some_not_none : (a : Length) → is_some a ≡ true → is_same no_length a ≡ false
some_not_none a h = grind (arith, nat_tests)

pub less_some : (a b : Length) → is_less a b ≡ true → is_some b ≡ true
less_some a b h = grind (arith, nat_tests)

-- ---- what lies behind something fits where both fit together
pub fits_behind : (at len : Length) → Fits (plus at len) → Fits len
fits_behind at len fits = grind (arith, nat_tests)

pub none_of_both : (a b : Length) → plus a b ≡ no_length → b ≡ no_length
none_of_both a b h =
    let lines : (plus a b).lines ≡ 0 = ap (λ l. l.lines) h in
    let cols : (plus a b).cols ≡ 0 = ap (λ l. l.cols) h in
    same_length b no_length (grind (arith, nat_tests)) (grind (arith, nat_tests))

pub zero_is : (a : Length) → a.lines ≡ 0 → a.cols ≡ 0 → a ≡ no_length
zero_is a lines cols = same_length a no_length lines cols

pub plus_behind : (a b : Length) → is_less (plus a b) b ≡ false
plus_behind a b = grind (arith, nat_tests)
