-- Parts of two lists, one behind the other.
use Rattle.std.proofs.Common.{◌≡◌, ℕ, suc, ◌+◌, ◌-◌, ◌<◌, ◌≤◌, List, [], ◌∷◌, ◌++◌, length, take, drop, set}
use Rattle.std.proofs.Common.{min, max, sym, ap, ◌∙◌, refl, inl, inr, arith, length-drop}
use Rattle.std.proofs.lemmas.List.{take-append-le, drop-append-le, take_rest, append-nil, set_split}
use Rattle.std.proofs.lemmas.Bool.{cases_lt}
use Rattle.std.proofs.Math.Seq.{drop-append-add, take-append-add}

module _ {X : Type 0} (P R : List X) where
  -- behind the first list
  pub drop_past : (n j : ℕ) → n ≡ length P + j → drop n (P ++ R) ≡ drop j R
  drop_past n j is = ap (λ k. drop k (P ++ R)) is ∙ drop-append-add P R j

  -- `count` items from item `from` on: m of the first list, from its item a on, and k of the second, from its item i on
  record AreParts (from count a m i k : ℕ) : Type 0 where
    start : a ≡ min from (length P)
    end : a + m ≡ min (from + count) (length P)
    start_behind : i ≡ max from (length P) - length P
    end_behind : i + k ≡ max (from + count) (length P) - length P

  both_parts : (from count a m i k : ℕ) → AreParts from count a m i k
      → take m (drop a P) ++ take k (drop i R) ≡ take count (drop from (P ++ R))
  both_parts from count a m i k are = elim (cases_lt from (length P)) [
    | inl below ↦
        let at : a ≡ from = omega arith in
        let first : drop from (P ++ R) ≡ drop from P ++ R = drop-append-le from P R (omega arith) in
        let left : length (drop from P) ≡ length P - from = length-drop from P in
        elim (cases_lt (from + count) (length P)) [
          | inl within ↦
              let all : m ≡ count = omega arith in
              let none : k ≡ 0 = omega arith in
              let one : take m (drop a P) ++ take k (drop i R) ≡ take count (drop from P) ++ [] =
              rw (at, all, none) refl in
              one ∙ append-nil (take count (drop from P)) ∙ sym (take-append-le count (drop from P) R (omega arith))
              ∙ ap (take count) (sym first)
          | inr past ↦
              let rest : m ≡ length P - from = omega arith in
              let begins : i ≡ 0 = omega arith in
              let sum : count ≡ length (drop from P) + k = omega arith in
              let both : take m (drop a P) ++ take k (drop i R) ≡ drop from P ++ take k R =
              rw (at, rest, begins, take_rest P from) refl in
              both ∙ sym (take-append-add (drop from P) R k) ∙ ap (λ n. take n (drop from P ++ R)) (sym sum)
              ∙ ap (take count) (sym first)
        ]
    | inr past ↦
        let none : m ≡ 0 = omega arith in
        let all : k ≡ count = omega arith in
        let only : take m (drop a P) ++ take k (drop i R) ≡ take count (drop i R) = rw (none, all) refl in
        only ∙ ap (take count) (sym (drop_past from i (omega arith)))
  ]

  -- the same, of which `front` and what is cut at it are numbers that the code has
  pub windows : (from count front first last low high : ℕ) → front ≡ length P → first ≡ min from front → last
      ≡ min (from + count) front
      → low ≡ max from front → high ≡ max (from + count) front → from + count ≤ length P + length R
      → take (last - first) (drop first P) ++ take ((high - front) - (low - front)) (drop (low - front) R)
      ≡ take count (drop from (P ++ R))
  windows from count front first last low high at start end start_behind end_behind within =
      both_parts from count first (last - first) (low - front) ((high - front) - (low - front))
      (record { start = omega arith; end = omega arith; start_behind = omega arith; end_behind = omega arith })

module _ {X : Type 0} where
  -- one item in the place of another
  pub put_at : (xs : List X) (n : ℕ) (x : X) → n < length xs → take n xs ++ x ∷ drop (n + 1) xs ≡ set xs n x
  put_at xs n x h = let one : n + 1 ≡ suc n = omega arith in
      ap (λ k. take n xs ++ x ∷ drop k xs) one ∙ sym (set_split xs n x h)
