-- What holds of each item of a list, and how many pass a test.
use Rattle.std.proofs.Common.{◌≡◌, ℕ, ◌+◌, ◌≤◌, Bool, true, false, not, cond, ◌&&◌, List, [], ◌∷◌, ◌++◌, map, filter}
use Rattle.std.proofs.Common.{refl, sym, ap, ◌∙◌, arith}
use Rattle.std.specs.List.{count_by, list_all, AllByRecursion}
use Rattle.std.proofs.lemmas.List.Sums.{sum_by-cons}

module _ {X : Type 0} (P : X → Type 0) where
  pub all_front : (xs ys : List X) → AllByRecursion P (xs ++ ys) → AllByRecursion P xs
  all_front [] ys a = tt
  all_front (x ∷ xs) ys a = (a.0, all_front xs ys a.1)

  pub all_back : (xs ys : List X) → AllByRecursion P (xs ++ ys) → AllByRecursion P ys
  all_back [] ys a = a
  all_back (x ∷ xs) ys a = all_back xs ys a.1

  both : (a b : Bool) → (a && b) ≡ true → (a ≡ true) × (b ≡ true)
  both true b h = (refl, h)
  both false b h = absurd (cc)

  pub all_passing : (p : X → Bool) → ((x : X) → p x ≡ true → P x) → (xs : List X) → list_all p xs ≡ true
      → AllByRecursion P xs
  all_passing p f [] h = tt
  all_passing p f (x ∷ xs) h = let b = both (p x) (list_all p xs) h in (f x b.0, all_passing p f xs b.1)

-- ---- counts
module _ {X : Type 0} (u : X → Bool) where
  abbrev one : X → ℕ
  one x = cond (u x) 1 0

  counted : (x : X) (xs : List X) → count_by u (x ∷ xs) ≡ one x + count_by u xs
  counted x xs = sum_by-cons one x xs

  split_one : (b : Bool) (x : X) (xs ys : List X) (n : ℕ) → count_by u xs ≤ n + count_by u ys
      → one x + count_by u xs ≤ (cond (not b) 1 0 + n) + count_by u (cond b (x ∷ ys) ys)
  split_one true x xs ys n h = rw (counted x ys) (omega (arith, h))
  split_one false x xs ys n h = let k = at_most_one (u x) in omega (arith, h, k)
    where
      at_most_one : (b : Bool) → cond b 1 0 ≤ 1
      at_most_one true = omega arith
      at_most_one false = omega arith

  -- those that pass are among those that fail another test and those of the others that pass
  pub split_count : (p : X → Bool) (xs : List X) → count_by u xs ≤ count_by (λ x. not (p x)) xs + count_by u (filter p xs)
  split_count p [] = omega arith
  split_count p (x ∷ xs) = rw (counted x xs, sum_by-cons (λ y. cond (not (p y)) 1 0) x xs)
      (split_one (p x) x xs (filter p xs) (count_by (λ y. not (p y)) xs) (split_count p xs))

  fewer_one : (b : Bool) (x : X) (xs ys : List X) → count_by u xs ≤ count_by u ys
      → count_by u (cond b (x ∷ xs) xs) ≤ one x + count_by u ys
  fewer_one true x xs ys h = rw (counted x xs) (omega (arith, h))
  fewer_one false x xs ys h = omega (arith, h)

  pub filtered_count : (p : X → Bool) (xs : List X) → count_by u (filter p xs) ≤ count_by u xs
  filtered_count p [] = omega arith
  filtered_count p (x ∷ xs) = rw (counted x xs) (fewer_one (p x) x (filter p xs) xs (filtered_count p xs))

pub mapped_count : {X Y : Type 0} (u : Y → Bool) (f : X → Y) (xs : List X)
    → count_by u (map f xs) ≡ count_by (λ x. u (f x)) xs
mapped_count u f [] = refl
mapped_count u f (x ∷ xs) = counted u (f x) (map f xs)
    ∙ ap (λ n. cond (u (f x)) 1 0 + n) (mapped_count u f xs) ∙ sym (counted (λ y. u (f y)) x xs)
