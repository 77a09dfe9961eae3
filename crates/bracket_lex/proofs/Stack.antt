-- Lists that are walked from their end.
use Rattle.std.proofs.Common.{◌≡◌, ℕ, suc, ◌+◌, ◌<◌, ◌==◌, cond, List, [], ◌∷◌, ◌++◌, length, reverse, take, get_or}
use Rattle.std.proofs.Common.{refl, arith}
use Rattle.std.specs.List.{sum_by}
use Rattle.std.proofs.lemmas.List.{reverse-append}
use Rattle.std.proofs.lemmas.List.Sums.{sum_by-append}
use Rattle.std.proofs.Math.Seq.{take-suc}
use Rattle.pairing_defs.specs.Pairing.{Entry, of_kind}

-- the front of a list with one more item, from its end
pub reverse-take-suc : {A : Type 0} (xs : List A) (k : ℕ) (d : A) → k < length xs → reverse (take (suc k) xs)
    ≡ get_or xs k d ∷ reverse (take k xs)
reverse-take-suc xs k d h = rw (take-suc xs k d h) (reverse-append (take k xs) (get_or xs k d ∷ []))

pub sum_by-reverse : {A : Type 0} (f : A → ℕ) (xs : List A) → sum_by f (reverse xs) ≡ sum_by f xs
sum_by-reverse f [] = refl
sum_by-reverse f (x ∷ xs) =
    let turned : reverse (x ∷ xs) ≡ reverse xs ++ x ∷ [] = reverse-append (x ∷ []) xs in
    let split : sum_by f (reverse xs ++ x ∷ []) ≡ sum_by f (reverse xs) + sum_by f (x ∷ []) =
    sum_by-append f (reverse xs) (x ∷ []) in
    let front : sum_by f (x ∷ xs) ≡ sum_by f (x ∷ []) + sum_by f xs = sum_by-append f (x ∷ []) xs in
    rw (turned, split, sum_by-reverse f xs) (omega (arith, front))

pub of_kind-reverse : (kind : ℕ) (xs : List Entry) → of_kind kind (reverse xs) ≡ of_kind kind xs
of_kind-reverse kind xs = sum_by-reverse (λ e. cond (e.kind == kind) 1 0) xs
