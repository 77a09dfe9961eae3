-- Marks, their places and what is around them.
use Rattle.std.proofs.Common.{◌≡◌, ℕ, ◌+◌, ◌*◌, ◌<◌, ◌≤◌, ◌==◌, ◌&&◌, ◌||◌, nat_lt, if◌then◌else◌, inl, inr, List}
use Rattle.std.proofs.Common.{length}
use Rattle.std.proofs.Common.{Bool, true, false, IsTrue, refl, arith}
use Rattle.std.proofs.lemmas.Bool.Decides.{nat_tests}
use Rattle.text_pos.specs.declared.length.Length.{Length}
use Rattle.text_pos.specs.Lengths.{plus, IsLess}
use Rattle.pairing_defs.specs.declared.Mark.{Mark}
use Rattle.tree_defs.specs.Items.{IsAt}
use Rattle.tree_defs.specs.Ends.{IsInLine}
use Rattle.tree_defs.proofs.Lengths.{same_length}
use Rattle.reuse_parser.specs.Parsing.{start_of, end_of, size_of, next_start, work}

pub size_ends : (m : Mark) → m.at.col < m.to → plus (start_of m) (size_of m) ≡ end_of m
size_ends m some = same_length _ _ refl (omega (arith, some))

pub in_line : (m : Mark) → m.at.col < m.to → IsInLine (size_of m)
in_line m some = (refl, omega (arith, some))

pub is_at : (m : Mark) → m.at.col < m.to → IsAt m (start_of m) (size_of m)
is_at m some = record { line = refl; col = refl; to = omega (arith, some) }

pub not_less_itself : (a : Length) → ¬ IsLess a a
not_less_itself a (inl h) = omega (arith, h)
not_less_itself a (inr h) = omega (arith, h.1)

pub same_place : (a b : Length) → ¬ IsLess a b → ¬ IsLess b a → a ≡ b
same_place a b h k = same_length a b (grind arith) (grind arith)

one_or_none : (b : Bool) → (if b then 1 else 0) ≤ 1
one_or_none true = omega arith
one_or_none false = omega arith

-- where a mark is taken, less is left
pub less_behind : (last at to : Length) (ms rest : List Mark) → length rest < length ms
    → work last to rest < work last at ms
less_behind last at to ms rest fewer =
    let next = next_start last rest in
    let h = one_or_none (nat_lt to.lines next.lines || (to.lines == next.lines && nat_lt to.cols next.cols)) in
    omega (arith, h, fewer)

-- where a text is taken, less is left
pub less_at_next : (n : ℕ) (at next : Length) → IsLess at next
    → 2 * n + (if nat_lt next.lines next.lines || (next.lines == next.lines && nat_lt next.cols next.cols) then 1 else
    0)
    < 2 * n + (if nat_lt at.lines next.lines || (at.lines == next.lines && nat_lt at.cols next.cols) then 1 else 0)
less_at_next n at next (inl h) = grind (arith, nat_tests)
less_at_next n at next (inr (h, k)) = grind (arith, nat_tests)

pub not_both : (b c : Bool) → ¬ IsTrue (b && c) → IsTrue c → b ≡ false
not_both false c none t = refl
not_both true c none t = absurd (none t)
