-- From one place among ranges that rise to the next.
use Rattle.std.proofs.Common.{◌≡◌, ℕ, zero, suc, ◌+◌, ◌<◌, ◌≤◌, true, List, [], ◌∷◌, length, get_or, refl, add-one}
use Rattle.std.proofs.Common.{arith, not-suc-le-zero, le_of_suc-le-suc}
use Rattle.std.proofs.lemmas.List.{get_or_default}
use Rattle.char_sets.specs.Places.{IsReached}
use Rattle.char_sets.specs.Ranges.{rises}
use Rattle.char_sets.specs.declared.char_set.CharRange.{CharRange}
use Rattle.char_sets.proofs.Rising.{rises-parts, last-above, in_set-beyond}

next-above : (n : ℕ) (rs : List CharRange) (k : ℕ) (d : CharRange) → rises n rs ≡ true → suc k < length rs
    → (get_or rs k d).last + 1 ≤ (get_or rs (suc k) d).last
next-above n [] k d h lt = absurd (not-suc-le-zero lt)
next-above n (r ∷ rs) zero d h lt =
    last-above (r.last + 1) rs 0 d (rises-parts n r rs h).rest (le_of_suc-le-suc lt)
next-above n (r ∷ rs) (suc k) d h lt = next-above (r.last + 1) rs k d (rises-parts n r rs h).rest (le_of_suc-le-suc lt)

pub IsReached-start : (rs : List CharRange) → IsReached rs 0 0
IsReached-start rs = record { within = omega arith; before = λ c h. refl; reaches = λ d lt. omega arith }

-- a code that the range at the place reaches as well
pub IsReached-same : (rs : List CharRange) (k from code : ℕ) (d : CharRange) → IsReached rs k from → from ≤ code
    → (k < length rs → code ≤ (get_or rs k d).last) → IsReached rs k code
IsReached-same rs k from code d h le enough = record {
  within = h.within;
  before = λ c above. h.before c (omega arith);
  reaches = λ e lt. rw (get_or_default rs k e d lt) (enough lt);
}

-- a code just behind the range at the place
pub IsReached-next : (rs : List CharRange) (k code : ℕ) (d : CharRange) → rises 0 rs ≡ true → k < length rs
    → (get_or rs k d).last < code → code ≤ (get_or rs k d).last + 1 → IsReached rs (k + 1) code
IsReached-next rs k code d h lt passed near = record {
  within = omega arith;
  before = λ c above. in_set-beyond rs k c d h lt (omega arith);
  reaches = λ e there.
      let later : suc k < length rs = omega arith in
      let far : (get_or rs k e).last + 1 ≤ (get_or rs (k + 1) e).last = rw (add-one k) (next-above 0 rs k e h later) in
      let same : (get_or rs k e).last ≡ (get_or rs k d).last = rw (get_or_default rs k e d lt) refl in
      omega arith;
}
