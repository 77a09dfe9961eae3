-- Places at which no pattern may match, where a row is one word.
use Rattle.std.proofs.Common.{◌≡◌, ℕ, ◌+◌, ◌*◌, ◌<◌, ◌≤◌, List, length, None, sym, ◌∙◌, arith, inl, inr}
use Rattle.std.specs.Prelude.{slice_index, slice_get, bit_and}
use Rattle.std.proofs.lemmas.Nat.Bits.{bit_at-zero}
use Rattle.pattern_defs.specs.declared.outcomes.Flags.{Flags}
use Rattle.pattern_defs.specs.Patterns.{Tree}
use Rattle.pattern_defs.specs.FirstMatch.{pairs_at, first_of}
use Rattle.onig_scan.specs.declared.rows.TheConstants.{ROWS, ROW_VISITS}
use Rattle.onig_scan.specs.Rows.{class_of, past_row, AreScalars, IsWord, IsWordHere, AreRows, IsRow}
use Rattle.onig_scan.proofs.Places.{spared_bits, none_from}
use Rattle.onig_scan.proofs.WordBits.{row_of_rows, word_here}

pub idle_place : (trees : List Tree) (words row past at : ℕ) (rows : List ℕ) (text : List ℕ) (flags : Flags)
    (budget : ℕ) → row < ROWS → past < ROWS → length rows ≡ ROWS * words → AreRows trees words ROW_VISITS rows
    → words ≡ 1 → length trees ≤ 64 * words → AreScalars text at → class_of (slice_get text at) ≡ row
    → past_row text at ≡ past → ROW_VISITS ≤ budget →
    bit_and (slice_index rows row) (slice_index rows past) ≡ 0 → first_of (pairs_at 0 trees at) text flags budget ≡ None
idle_place trees words row past at rows text flags budget low low' size are one few scalars here before enough zero =
    let word : IsWordHere trees text at 0 ROW_VISITS (bit_and (slice_index rows row) (slice_index rows past)) =
    word_here trees row past 0 at text ROW_VISITS (slice_index rows row) (slice_index rows past) scalars (inl here)
    (inr before) (first row low) (first past low') in
    sym (spared_bits trees 0 0 64 at text flags budget ROW_VISITS _ enough word (omega arith)
    (λ j low. rw zero (bit_at-zero (0 + j))))
    ∙ none_from trees (0 + 0 + 64) at text flags budget (omega (arith, few, one))
  where
    first : (r : ℕ) → r < ROWS → IsWord trees r 0 ROW_VISITS (slice_index rows r)
    first r low =
        let is : IsRow trees r ROW_VISITS rows (r * words) words = row_of_rows trees words ROW_VISITS r rows low size are
        in
        let e : r * words + 0 ≡ r = rw one (omega arith) in
        rw e at (is.is 0 (rw one (omega arith)))
