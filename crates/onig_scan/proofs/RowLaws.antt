-- Which attempts are spared at the places of a row.
use Rattle.std.proofs.Common.{◌≡◌, ℕ, ◌+◌, ◌-◌, ◌*◌, ◌<◌, ◌≤◌, Bool, true, false, List, Option, Some, None, refl, arith, inl, inr}
use Rattle.pattern_defs.specs.Attempt.{char_before}
use Rattle.std.specs.Prelude.{cond, slice_get}
use Rattle.char_sets.specs.declared.char_set.CharRange.{CharRange}
use Rattle.std.proofs.lemmas.Bool.{false≢true}
use Rattle.pattern_defs.specs.declared.outcomes.Flags.{Flags}
use Rattle.pattern_defs.specs.Attempt.{Miss, attempt}
use Rattle.pattern_defs.specs.Patterns.{Tree}
use Rattle.onig_scan.specs.Fronts.{IsFrontOfAll}
use Rattle.onig_scan.specs.Pasts.{IsPastOfAll, is_inside}
use Rattle.onig_scan.specs.declared.front.Front.{Front}
use Rattle.onig_scan.specs.declared.rows.TheConstants.{CLASSES}
use Rattle.onig_scan.specs.Rows.{class_of, AreScalars, HasRow, HasNone, HasNoneBefore, IsSpared, IsSparedAt, IsSparedPast}

-- by the characters of a front
pub spared_by_front : (tree : Tree) (ranges : List CharRange) (class cost more : ℕ) → cost ≤ more
    → HasNone ranges class → IsFrontOfAll tree ranges cost →
    IsSparedAt tree class more
spared_by_front tree ranges class cost more fits none is =
    record {
      misses = λ text at flags budget scalar here enough.
          is.misses text at flags budget (record {
            scalar = scalar;
            without =
                none.none (slice_get text at) scalar here;
          }) (omega arith);
    }

pub spared_by_past : (inside : Bool) (tree : Tree) (f : Front) (class more : ℕ) → f.cost ≤ more
    → HasNoneBefore f.set f.stays class → IsPastOfAll inside tree f → IsSparedPast inside tree class more
spared_by_past inside tree f class more fits none is =
    record {
      misses = λ text at flags budget scalars here asked enough.
          is.misses text at flags budget (record {
            scalar = scalars.past;
            unfit = none.none (char_before text at) scalars.past here;
            asked = asked;
          }) (omega arith);
    }

-- the rows of a place

small_class : (o : Option ℕ) → class_of o < CLASSES
small_class None = omega arith
small_class (Some c) = grind (arith)

pub row_here : (tree : Tree) (row cost : ℕ) → row < CLASSES → IsSparedAt tree row cost → IsSpared tree row cost
row_here tree row cost low is =
    record {
      misses = λ text at flags budget scalars has enough. by_row text at flags budget scalars enough has;
    }
  where
    by_row : (text : List ℕ) (at : ℕ) (flags : Flags) (budget : ℕ) → AreScalars text at → cost ≤ budget
        → HasRow text at row → (rest : ℕ) × (attempt tree text at flags budget ≡ Miss rest)
    by_row text at flags budget scalars enough (inl here) = is.misses text at flags budget scalars.here here enough
    by_row text at flags budget scalars enough (inr past) = absurd (omega (arith, past))

pub row_past : (tree : Tree) (row cost : ℕ) → CLASSES ≤ row → row < 2 * CLASSES
    → IsSparedPast false tree (row - CLASSES) cost → IsSpared tree row cost
row_past tree row cost high low is =
    record {
      misses = λ text at flags budget scalars has enough. by_row text at flags budget scalars enough has;
    }
  where
    by_row : (text : List ℕ) (at : ℕ) (flags : Flags) (budget : ℕ) → AreScalars text at → cost ≤ budget
        → HasRow text at row → (rest : ℕ) × (attempt tree text at flags budget ≡ Miss rest)
    by_row text at flags budget scalars enough (inl here) =
        let small = small_class (slice_get text at) in
        absurd (omega (arith, here, small))
    by_row text at flags budget scalars enough (inr past) = by_inside (is_inside text at) past
      where
        by_inside : (b : Bool) → CLASSES + class_of (char_before text at) + cond b CLASSES 0 ≡ row
            → (rest : ℕ) × (attempt tree text at flags budget ≡ Miss rest)
        by_inside true e = absurd (omega (arith, e))
        by_inside false e =
            is.misses text at flags budget scalars (omega (arith, e)) (λ no. absurd (false≢true no)) enough

pub row_inside : (tree : Tree) (row cost : ℕ) → 2 * CLASSES ≤ row
    → IsSparedPast true tree (row - 2 * CLASSES) cost → IsSpared tree row cost
row_inside tree row cost high is =
    record {
      misses = λ text at flags budget scalars has enough. by_row text at flags budget scalars enough has;
    }
  where
    by_row : (text : List ℕ) (at : ℕ) (flags : Flags) (budget : ℕ) → AreScalars text at → cost ≤ budget
        → HasRow text at row → (rest : ℕ) × (attempt tree text at flags budget ≡ Miss rest)
    by_row text at flags budget scalars enough (inl here) =
        let small = small_class (slice_get text at) in
        absurd (omega (arith, here, small))
    by_row text at flags budget scalars enough (inr past) = by_inside (is_inside text at) refl past
      where
        by_inside : (b : Bool) → is_inside text at ≡ b → CLASSES + class_of (char_before text at) + cond b CLASSES 0 ≡ row
            → (rest : ℕ) × (attempt tree text at flags budget ≡ Miss rest)
        by_inside true is_in e = is.misses text at flags budget scalars (omega (arith, e)) (λ asked. is_in) enough
        by_inside false is_in e =
            let small = small_class (char_before text at) in
            absurd (omega (arith, e, small))
