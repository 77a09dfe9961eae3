-- Each guide is that of a pair and of a line in it.
use Rattle.std.proofs.Common.{◌≡◌, ℕ, zero, suc, ◌+◌, ◌-◌, ◌<◌, ◌≤◌, ◌&&◌, ◌⊎◌, Bool, true, List, [], ◌∷◌, ◌++◌}
use Rattle.std.proofs.Common.{filter, refl, sym, ap, ◌∙◌, arith, inl, inr}
use Rattle.std.specs.Prelude.{Option, Some, None, slice_get, nat_le, nat_lt}
use Rattle.std.specs.List.{flat_map, range_with_len}
use Rattle.std.specs.Option.{is_some, option_map}
use Rattle.std.proofs.lemmas.Bool.{cases_Bool, and_parts}
use Rattle.std.proofs.lemmas.Bool.Decides.{nat_tests}
use Rattle.std.proofs.lemmas.Option.{slice_get-map}
use Rattle.pairing_defs.specs.declared.Row.{Row}
use Rattle.answer_defs.specs.declared.pair_answer.GuideRow.{GuideRow}
use Rattle.answer_defs.specs.PairAnswers.{is_opener, has_guide, guide_row, guides_of_line}
use Rattle.answer_laws.specs.GuideLaws.{LiesInPair, GuidesLieInPairs}

-- an item of a filtered list is one of the list, and passes
record Kept (test : Row → Bool) (rows : List Row) (r : Row) : Type 0 where
  place : ℕ
  there : slice_get rows place ≡ Some r
  passes : test r ≡ true

kept_behind : (test : Row → Bool) (x : Row) (rows : List Row) (r : Row) → Kept test rows r → Kept test (x ∷ rows) r
kept_behind test x rows r k = record { place = suc k.place; there = k.there; passes = k.passes }

kept_first : (test : Row → Bool) (x : Row) (rows : List Row) (k : ℕ) (r : Row) → test x ≡ true
    → slice_get (x ∷ filter test rows) k ≡ Some r
    → ((k : ℕ) → slice_get (filter test rows) k ≡ Some r → Kept test rows r) → Kept test (x ∷ rows) r
kept_first test x rows zero r passes there rest =
    let same : x ≡ r = cc in record { place = 0; there = there; passes = ap test (sym same) ∙ passes }
kept_first test x rows (suc k) r passes there rest = kept_behind test x rows r (rest k there)

kept : (test : Row → Bool) (rows : List Row) (k : ℕ) (r : Row) → slice_get (filter test rows) k ≡ Some r
    → Kept test rows r
kept test [] k r there = absurd (grind (arith, there))
kept test (x ∷ rows) k r there = elim (cases_Bool (test x)) [
  | inl passes ↦ kept_first test x rows k r passes (rw passes at there) (λ n h. kept test rows n r h)
  | inr fails ↦ kept_behind test x rows r (kept test rows k r (rw fails at there))
]

-- an item of two lists is one of either
of_two : {X : Type 0} (xs ys : List X) (k : ℕ) (x : X) → slice_get (xs ++ ys) k ≡ Some x
    → ((n : ℕ) × (slice_get xs n ≡ Some x)) ⊎ ((n : ℕ) × (slice_get ys n ≡ Some x))
of_two [] ys k x there = inr (k, there)
of_two (y ∷ xs) ys zero x there = inl (0, there)
of_two (y ∷ xs) ys (suc k) x there = elim (of_two xs ys k x there) [
  | inl here ↦ inl (suc here.0, here.1)
  | inr later ↦ inr later
]

less : (m n : ℕ) → nat_lt m n ≡ true → m < n
less m n h = grind (arith, nat_tests)

no_more : (m n : ℕ) → nat_le m n ≡ true → m ≤ n
no_more m n h = grind (arith, nat_tests)

module _ (tab : ℕ) (lines : List (List ℕ)) (rows : List Row) (a b : ℕ) where
  of_row : (n : ℕ) (o : Option Row) (g : GuideRow) → a ≤ n → n ≤ b → option_map (guide_row tab lines n) o ≡ Some g
      → ((r : Row) → o ≡ Some r → Kept (has_guide n) rows r) → LiesInPair rows a b g
  of_row n None g low high e found = cc
  of_row n (Some r) g low high e found =
      let k : Kept (has_guide n) rows r = found r refl in
      let made : guide_row tab lines n r ≡ g = cc in
      let line : n ≡ g.line = ap (λ g. g.line) made in
      let one = and_parts (is_opener r) (is_some r.partner && (nat_lt r.mark.at.line n && nat_le n r.inner.line))
      k.passes in
      let two = and_parts (is_some r.partner) (nat_lt r.mark.at.line n && nat_le n r.inner.line) one.1 in
      let three = and_parts (nat_lt r.mark.at.line n) (nat_le n r.inner.line) two.1 in
      let behind = less r.mark.at.line n three.0 in
      let within = no_more n r.inner.line three.1 in
      record {
        place = k.place;
        opener = r;
        there = k.there;
        opens = one.0;
        closed = two.0;
        behind = omega arith;
        within = omega arith;
        from = omega arith;
        to = omega arith;
        level = sym (ap (λ g. g.level) made);
      }

  of_line : (n k : ℕ) (g : GuideRow) → a ≤ n → n ≤ b → slice_get (guides_of_line tab lines rows n) k ≡ Some g
      → LiesInPair rows a b g
  of_line n k g low high there =
      of_row n (slice_get (filter (has_guide n) rows) k) g low high
      (sym (slice_get-map (guide_row tab lines n) (filter (has_guide n) rows) k) ∙ there)
      (λ r e. kept (has_guide n) rows k r e)

  of_lines : (n many k : ℕ) (g : GuideRow) → a ≤ n → n + many ≤ suc b
      → slice_get (flat_map (guides_of_line tab lines rows) (range_with_len n many)) k ≡ Some g → LiesInPair rows a b g
  of_lines n zero k g low high there = absurd (grind (arith, there))
  of_lines n (suc many) k g low high there =
      elim (of_two (guides_of_line tab lines rows n)
      (flat_map (guides_of_line tab lines rows) (range_with_len (n + 1) many)) k g there) [
        | inl here ↦ of_line n here.0 g low (omega arith) here.1
        | inr later ↦ of_lines (n + 1) many later.0 g (omega arith) (omega arith) later.1
      ]

no_lines : (tab : ℕ) (lines : List (List ℕ)) (rows : List Row) (a b k many : ℕ) (g : GuideRow) → suc b - a ≡ many
    → slice_get (flat_map (guides_of_line tab lines rows) (range_with_len a many)) k ≡ Some g → LiesInPair rows a b g
no_lines tab lines rows a b k zero g is there = absurd (grind (arith, there))
no_lines tab lines rows a b k (suc many) g is there =
    of_lines tab lines rows a b a (suc many) k g (omega arith) (omega arith) there

pub guides_lie_in_pairs : GuidesLieInPairs
guides_lie_in_pairs tab lines rows a b k g there = no_lines tab lines rows a b k (suc b - a) g refl there
