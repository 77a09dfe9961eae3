-- The marks of a line, from one column to the next mark's end.
use Rattle.std.proofs.Common.{◌≡◌, ℕ, zero, suc, ◌+◌, ◌-◌, ◌<◌, List, [], ◌∷◌, ◌++◌, length, take, drop, Some, None}
use Rattle.std.proofs.Common.{refl, ◌∙◌, arith, append_assoc, add-zero, length-drop, Option}
use Rattle.std.proofs.lemmas.List.{take_all}
use Rattle.pairing_defs.specs.declared.BracketText.{BracketText}
use Rattle.pairing_defs.specs.declared.LineMark.{LineMark}
use Rattle.pairing_defs.specs.Marks.{marked, further, marks_from}

-- what is left of a line, as the code slices it
pub rest_is : (column : ℕ) (line : List ℕ) → take (length line - column) (drop column line) ≡ drop column line
rest_is column line = take_all (length line - column) (drop column line) (omega (arith, length-drop column line))

module _ (found : ℕ → Option BracketText) where
  -- the columns that a mark takes are passed over
  passed_over : (taken column left : ℕ)
      → marks_from found taken column left ≡ marks_from found 0 (column + taken) (left - taken)
  passed_over zero column left = (let none : left - 0 ≡ left = omega arith in rw (add-zero column, none) refl)
  passed_over (suc taken) column zero = (let none : 0 - suc taken ≡ 0 = omega arith in rw none refl)
  passed_over (suc taken) column (suc left) =
      let at : column + 1 + taken ≡ column + suc taken = omega arith in
      let rest : left - taken ≡ suc left - suc taken = omega arith in
      passed_over taken (column + 1) left ∙ rw (at, rest) refl

  here : (column n : ℕ) → column < n → marks_from found 0 column (n - column)
      ≡ marked column (found column) ++ marks_from found (further (found column)) (column + 1) (n - (column + 1))
  here column n below = let left : n - column ≡ suc (n - (column + 1)) = omega arith in rw left refl

  pub no_mark : (column n : ℕ) → column < n → found column ≡ None
      → marks_from found 0 (column + 1) (n - (column + 1)) ≡ marks_from found 0 column (n - column)
  no_mark column n below none = rw (here column n below, none) refl

  pub one_mark : (column len n : ℕ) (b : BracketText) (old new : List LineMark) → column < n
      → found column ≡ Some b → length b.text ≡ len → 0 < len
      → new ≡ old ++ record { from = column; to = column + len; role = b.role } ∷ []
      → new ++ marks_from found 0 (column + len) (n - (column + len)) ≡ old ++ marks_from found 0 column (n - column)
  one_mark column len n b old new below is same some added =
      let at : column + 1 + (len - 1) ≡ column + len = omega arith in
      let left : (n - (column + 1)) - (len - 1) ≡ n - (column + len) = omega arith in
      let rest : marks_from found (len - 1) (column + 1) (n - (column + 1))
      ≡ marks_from found 0 (column + len) (n - (column + len)) =
      passed_over (len - 1) (column + 1) (n - (column + 1)) ∙ rw (at, left) refl in
      rw (added, here column n below, is, same, rest) (append_assoc old _ _)
