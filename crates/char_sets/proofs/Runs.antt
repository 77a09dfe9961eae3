-- A table of runs, gone over run by run.
use Rattle.std.proofs.Common.{◌≡◌, ℕ, ◌+◌, ◌/◌, ◌%◌, ◌<◌, ◌≤◌, true, nat_lt, List, [], ◌∷◌, map, length, drop}
use Rattle.std.proofs.Common.{slice_index, subst, ◌∙◌, arith, eqb-true, ltb-true, drop_of_length-le}
use Rattle.std.proofs.lemmas.Bool.{and_parts}
use Rattle.ucd_table.specs.Steps.{unpack, run_value, ends_rise}
use Rattle.ucd_table.proofs.StepsLemmas.{step_value-here, run_value-drop}
use Rattle.ucd_table.proofs.RunsLemmas.{IsAt}

-- within a run each code has its value
pub run-stretch : (runs : List ℕ) (i at c : ℕ) → IsAt runs i at → i < length runs → at ≤ c
    → c < slice_index runs i / 2048 → run_value runs c ≡ slice_index runs i % 2048
run-stretch runs i at c h lt from to =
    h.values c from ∙ run_value-drop runs i c lt
    ∙ step_value-here 0 (unpack (slice_index runs i)) (map unpack (drop (i + 1) runs)) c to

ends_rise-within : (n : ℕ) (runs : List ℕ) → ends_rise n runs ≡ true → n ≤ 1_114_112
unfolding ends_rise
ends_rise-within n [] h =
    let same : n ≡ 1_114_112 = eqb-true n 1_114_112 h in
    omega arith
ends_rise-within n (run ∷ runs) h =
    let parts = and_parts (nat_lt n (run / 2048)) (ends_rise (run / 2048) runs) h in
    let below = ltb-true n (run / 2048) parts.0 in
    let later = ends_rise-within (run / 2048) runs parts.1 in
    omega arith

-- a run starts within all codes
pub run-within : (runs : List ℕ) (i at : ℕ) → IsAt runs i at → at ≤ 1_114_112
run-within runs i at h = ends_rise-within at (drop i runs) h.rising

ends_rise-nil : (n : ℕ) → ends_rise n [] ≡ true → n ≡ 1_114_112
unfolding ends_rise
ends_rise-nil n h = eqb-true n 1_114_112 h

-- the last run ends where all codes do
pub run-end : (runs : List ℕ) (i at : ℕ) → IsAt runs i at → length runs ≤ i → 1_114_112 ≤ at
run-end runs i at h past =
    let none : ends_rise at [] ≡ true = subst (λ l. ends_rise at l ≡ true) (drop_of_length-le runs past) h.rising in
    let same = ends_rise-nil at none in
    omega arith
