-- A line that is one token of type Other: every column counts.
use Rattle.std.proofs.Common.{◌≡◌, ℕ, Bool, true, false, List, [], ◌∷◌, length, if◌then◌else◌, nat_lt, nat_le, refl, ap}
use Rattle.std.specs.Prelude.{Some, None}
use Rattle.scope_defs.specs.declared.types.StdType.TheVariants.{Other}
use Rattle.scope_defs.specs.declared.types.TypeRun.{TypeRun}
use Rattle.pairing_defs.specs.declared.BracketText.{BracketText}
use Rattle.pairing_defs.specs.Marks.{every_column, counts_by, counts_by_run, marks_of}
use Rattle.bracket_marks.proofs.RunColumns.{marks_from-same}

abbrev other_run : ℕ → TypeRun
other_run to = record { to = to; kind = Other }

either : (here : Bool) (run : TypeRun) → counts_by_run (Some run) ≡ true
    → counts_by_run (if here then Some run else None) ≡ true
either true run counts = counts
either false run counts = refl

other_counts : (to column : ℕ) → counts_by (other_run to ∷ []) column ≡ every_column column
other_counts to column = either (nat_lt column to) (other_run to) refl

pub marks_of_other_run : (texts : List BracketText) (long to : ℕ) (line : List ℕ)
    → marks_of texts long (counts_by (other_run to ∷ [])) line ≡ marks_of texts long every_column line
marks_of_other_run texts long to line =
    ap (λ marks. if nat_le long (length line) then [] else marks)
    (marks_from-same (counts_by (other_run to ∷ [])) every_column texts line 0 (length line)
    (λ k low. other_counts to k))
