-- The first and the last item that meets a test.
use Rattle.std.proofs.Common.{◌≡◌, ℕ, zero, suc, ◌<◌, Bool, true, false, List, [], ◌∷◌, reverse, refl, sym, ap}
use Rattle.std.proofs.Common.{◌∙◌, arith, inl, inr}
use Rattle.std.specs.Prelude.{Option, Some, None, slice_get, if◌then◌else◌}
use Rattle.std.specs.List.{find}
use Rattle.std.specs.Option.{option_or}
use Rattle.std.proofs.lemmas.Bool.{cases_Bool, true≢false}
use Rattle.std.proofs.lemmas.List.{reverse-append}
use Rattle.std.proofs.lemmas.List.Folds.{find-append}

module _ {X : Type 0} (test : X → Bool) where
  -- what is found is an item that passes
  pub record Found (xs : List X) (x : X) : Type 0 where
    pub place : ℕ
    pub there : slice_get xs place ≡ Some x
    pub passes : test x ≡ true

  one_more : (y : X) (xs : List X) (x : X) → Found xs x → Found (y ∷ xs) x
  one_more y xs x f = record { place = suc f.place; there = f.there; passes = f.passes }

  pub found : (xs : List X) (x : X) → find test xs ≡ Some x → Found xs x
  found [] x e = cc
  found (y ∷ xs) x e = elim (cases_Bool (test y)) [
    | inl passes ↦
        let here : Some y ≡ Some x = rw passes at e in
        let same : y ≡ x = cc in
        record { place = 0; there = here; passes = ap test (sym same) ∙ passes }
    | inr fails ↦ one_more y xs x (found xs x (rw fails at e))
  ]

  -- where an item passes one is found
  pub record Finds (xs : List X) : Type 0 where
    pub item : X
    pub is : find test xs ≡ Some item

  not_first : (y : X) (xs : List X) (k : ℕ) (x : X) → slice_get (y ∷ xs) k ≡ Some x → test x ≡ true → test y ≡ false
      → ((k : ℕ) → slice_get xs k ≡ Some x → Finds xs) → Finds (y ∷ xs)
  not_first y xs zero x there passes fails rest =
      let same : y ≡ x = cc in
      let both : true ≡ false = sym passes ∙ ap test (sym same) ∙ fails in
      absurd (true≢false both)
  not_first y xs (suc k) x there passes fails rest =
      let later : Finds xs = rest k there in
      record { item = later.item; is = rw fails later.is }

  pub finds : (xs : List X) (k : ℕ) (x : X) → slice_get xs k ≡ Some x → test x ≡ true → Finds xs
  finds [] k x there passes = absurd (grind (arith, there))
  finds (y ∷ xs) k x there passes = elim (cases_Bool (test y)) [
    | inl here ↦ record { item = y; is = rw here refl }
    | inr fails ↦ not_first y xs k x there passes fails (λ n h. finds xs n x h passes)
  ]

  -- the last item that passes, and none behind it does
  pub record Last (xs : List X) (x : X) : Type 0 where
    pub place : ℕ
    pub there : slice_get xs place ≡ Some x
    pub passes : test x ≡ true
    pub last : (k : ℕ) (y : X) → place < k → slice_get xs k ≡ Some y → test y ≡ false

  -- looked for from behind, the first item comes last
  from_behind : (y : X) (xs : List X) → find test (reverse (y ∷ xs))
      ≡ option_or (find test (reverse xs)) (find test (y ∷ []))
  from_behind y xs = ap (find test) (reverse-append (y ∷ []) xs) ∙ find-append test (reverse xs) (y ∷ [])

  none_first : (o : Option X) (b : Bool) (y : X) → option_or o (if b then Some y else None) ≡ None
      → (o ≡ None) × (b ≡ false)
  none_first None false y e = (refl, refl)
  none_first None true y e = absurd (grind (arith, e))
  none_first (Some x) b y e = absurd (grind (arith, e))

  none_passes : (xs : List X) → find test (reverse xs) ≡ None → (k : ℕ) (y : X) → slice_get xs k ≡ Some y
      → test y ≡ false
  none_passes [] none k y there = absurd (grind (arith, there))
  none_passes (x ∷ xs) none zero y there =
      let both = none_first (find test (reverse xs)) (test x) x (sym (from_behind x xs) ∙ none) in
      let same : x ≡ y = cc in
      ap test (sym same) ∙ both.1
  none_passes (x ∷ xs) none (suc k) y there =
      let both = none_first (find test (reverse xs)) (test x) x (sym (from_behind x xs) ∙ none) in
      none_passes xs both.0 k y there

  one_before : (y : X) (xs : List X) (x : X) → Last xs x → Last (y ∷ xs) x
  one_before y xs x l = record {
    place = suc l.place;
    there = l.there;
    passes = l.passes;
    last = behind l.place l.last;
  }
    where
      behind : (place : ℕ) → ((k : ℕ) (z : X) → place < k → slice_get xs k ≡ Some z → test z ≡ false)
          → (k : ℕ) (z : X) → suc place < k → slice_get (y ∷ xs) k ≡ Some z → test z ≡ false
      behind place last zero z less there = absurd (omega arith)
      behind place last (suc k) z less there = last k z (omega arith) there

  -- no later item passes, so the first is the last that does
  only_first : (y : X) (xs : List X) (b : Bool) (x : X) → test y ≡ b → (if b then Some y else None) ≡ Some x
      → ((k : ℕ) (z : X) → slice_get xs k ≡ Some z → test z ≡ false) → Last (y ∷ xs) x
  only_first y xs false x is e none = absurd (grind (arith, e))
  only_first y xs true x is e none =
      let same : y ≡ x = cc in
      record { place = 0; there = e; passes = ap test (sym same) ∙ is; last = behind none }
    where
      behind : ((k : ℕ) (z : X) → slice_get xs k ≡ Some z → test z ≡ false)
          → (k : ℕ) (z : X) → 0 < k → slice_get (y ∷ xs) k ≡ Some z → test z ≡ false
      behind none zero z less there = absurd (omega arith)
      behind none (suc k) z less there = none k z there

  last_by : (y : X) (xs : List X) (o : Option X) (x : X) → find test (reverse xs) ≡ o
      → option_or o (find test (y ∷ [])) ≡ Some x → ((z : X) → find test (reverse xs) ≡ Some z → Last xs z)
      → Last (y ∷ xs) x
  last_by y xs None x is e rest = only_first y xs (test y) x refl e (none_passes xs is)
  last_by y xs (Some z) x is e rest =
      let same : z ≡ x = cc in one_before y xs x (rest x (is ∙ ap Some same))

  pub last_found : (xs : List X) (x : X) → find test (reverse xs) ≡ Some x → Last xs x
  last_found [] x e = absurd (grind (arith, e))
  last_found (y ∷ xs) x e =
      last_by y xs (find test (reverse xs)) x refl (sym (from_behind y xs) ∙ e) (last_found xs)
