-- A pair around a place reaches into its line.
use Rattle.std.proofs.Common.{◌≡◌, ◌&&◌, Bool, true, List, [], ◌∷◌, length, filter}
use Rattle.std.proofs.Common.{refl, ap, arith, inl, inr}
use Rattle.std.specs.Prelude.{nat_le}
use Rattle.std.proofs.lemmas.Bool.{cases_Bool, and_parts}
use Rattle.std.proofs.lemmas.Bool.Decides.{nat_tests}
use Rattle.text_pos.specs.declared.length.Pos.{Pos}
use Rattle.pairing_defs.specs.declared.Row.{Row}
use Rattle.answer_defs.specs.PairAnswers.{encloses, reaches_lines, is_opener, is_up_to, end_of}
use Rattle.answer_laws.specs.PlaceLaws.{LevelsCountThePairs}

lines_rise : (a b : Pos) → is_up_to a b ≡ true → nat_le a.line b.line ≡ true
lines_rise a b h = grind (arith, nat_tests)

reaches : (at : Pos) (r : Row) → encloses at r ≡ true → reaches_lines at.line at.line r ≡ true
reaches at r h =
    let parts = and_parts (is_opener r) (is_up_to (end_of r) at && is_up_to at r.inner) h in
    let ends = and_parts (is_up_to (end_of r) at) (is_up_to at r.inner) parts.1 in
    rw (parts.0, lines_rise (end_of r) at ends.0, lines_rise at r.inner ends.1) refl

module _ (p q : Row → Bool) (implies : (r : Row) → p r ≡ true → q r ≡ true) where
  kept : (rows : List Row) → filter p rows ≡ filter p (filter q rows)
  kept [] = refl
  kept (r ∷ rows) = elim (cases_Bool (p r)) [
    | inl passes ↦ rw (implies r passes, passes) (ap (λ rest. r ∷ rest) (kept rows))
    | inr fails ↦ elim (cases_Bool (q r)) [
      | inl listed ↦ rw (listed, fails) (kept rows)
      | inr not_listed ↦ rw (not_listed, fails) (kept rows)
    ]
  ]

pub levels_count_the_pairs : LevelsCountThePairs
levels_count_the_pairs rows at = ap length (kept (encloses at) (reaches_lines at.line at.line) (reaches at) rows)
