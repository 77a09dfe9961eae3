-- Parts of a text.
use Rattle.std.proofs.Common.{◌≡◌, ℕ, ◌-◌, List, length, take, drop, min, inl, inr, sym, ap, ◌∙◌, arith}
use Rattle.std.proofs.lemmas.Bool.{cases_lt}
use Rattle.std.proofs.lemmas.List.{drop_all, take_all, length-drop}

pub drop-min : (n m : ℕ) (xs : List ℕ) → m ≡ min n (length xs) → drop m xs ≡ drop n xs
drop-min n m xs e =
    elim (cases_lt n (length xs)) [
      | inl h ↦ let same : m ≡ n = omega arith in ap (λ k. drop k xs) same
      | inr h ↦ drop_all m xs (omega arith) ∙ sym (drop_all n xs h)
    ]

pub take-drop-min : (n m : ℕ) (xs : List ℕ) → m ≡ min n (length xs) → take (length xs - m) (drop m xs) ≡ drop n xs
take-drop-min n m xs e = take_all (length xs - m) (drop m xs) (omega (arith, length-drop m xs)) ∙ drop-min n m xs e
