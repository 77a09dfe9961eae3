-- Lists of characters and of arms, item by item.
use Rattle.std.proofs.Common.{◌≡◌, ℕ, zero, suc, ◌<◌, List, [], ◌∷◌, length, drop, map, get_or, cond, refl, arith}
use Rattle.std.specs.Prelude.{Bool, true, false, ◌&&◌, nat_eq, filter}
use Rattle.std.specs.List.{starts_with}
use Rattle.std.specs.Char.{to_ascii_lowercase}

abbrev pub lower : List ℕ → List ℕ
lower cs = map to_ascii_lowercase cs

and_false : (b : Bool) → (b && false) ≡ false
and_false true = refl
and_false false = refl

pub starts_with-drop : (text part : List ℕ) (k : ℕ) → k < length part → k < length text →
    starts_with nat_eq (lower (drop k text)) (lower (drop k part))
    ≡ (nat_eq (to_ascii_lowercase (get_or part k 0)) (to_ascii_lowercase (get_or text k 0)) && starts_with nat_eq
    (lower (drop (suc k) text)) (lower (drop (suc k) part)))
starts_with-drop text [] k h e = absurd (omega arith)
starts_with-drop [] (x ∷ xs) k h e = absurd (omega arith)
starts_with-drop (y ∷ ys) (x ∷ xs) zero h e = refl
starts_with-drop (y ∷ ys) (x ∷ xs) (suc k) h e = starts_with-drop ys xs k (omega arith) (omega arith)

pub starts_with_longer : (text part : List ℕ) → length text < length part → starts_with nat_eq text part ≡ false
starts_with_longer text [] h = absurd (omega arith)
starts_with_longer [] (x ∷ xs) h = refl
starts_with_longer (y ∷ ys) (x ∷ xs) h = rw (starts_with_longer ys xs (omega arith)) (and_false (nat_eq x y))

pub filter-drop : {A : Type 0} (p : A → Bool) (xs : List A) (k : ℕ) (d : A) → k < length xs →
    filter p (drop k xs) ≡ cond (p (get_or xs k d)) (get_or xs k d ∷ filter p (drop (suc k) xs))
    (filter p (drop (suc k) xs))
filter-drop p [] k d h = absurd (omega arith)
filter-drop p (x ∷ xs) zero d h = refl
filter-drop p (x ∷ xs) (suc k) d h = filter-drop p xs k d (omega arith)
