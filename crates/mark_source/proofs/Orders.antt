-- Places in order.
use Rattle.std.proofs.Common.{◌≡◌, ◌<◌, ◌≤◌, true, false, arith}
use Rattle.std.proofs.lemmas.Bool.Decides.{nat_tests}
use Rattle.text_pos.specs.declared.length.Pos.{Pos}
use Rattle.mark_source.specs.Source.{is_before}

pub before_by_line : (p q : Pos) → p.line < q.line → is_before p q ≡ true
before_by_line p q h = grind (arith, nat_tests)

pub not_before_by_line : (p q : Pos) → q.line < p.line → is_before p q ≡ false
not_before_by_line p q h = grind (arith, nat_tests)

pub before_by_col : (p q : Pos) → p.line ≡ q.line → p.col < q.col → is_before p q ≡ true
before_by_col p q e h = grind (arith, nat_tests)

pub not_before_by_col : (p q : Pos) → p.line ≡ q.line → q.col ≤ p.col → is_before p q ≡ false
not_before_by_col p q e h = grind (arith, nat_tests)

-- from one place to another and on to a third
pub before_up_to : (p q r : Pos) → is_before p q ≡ true → is_before r q ≡ false → is_before p r ≡ true
before_up_to p q r h k = grind (arith, nat_tests)

pub not_before_up_to : (p q r : Pos) → is_before p q ≡ false → is_before q r ≡ false → is_before p r ≡ false
not_before_up_to p q r h k = grind (arith, nat_tests)

pub before_is_not_behind : (p q : Pos) → is_before p q ≡ true → is_before q p ≡ false
before_is_not_behind p q h = grind (arith, nat_tests)
