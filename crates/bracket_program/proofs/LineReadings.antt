-- What is handed out for lines means what the lines mean.
use Rattle.std.proofs.Common.{◌≡◌, ℕ, List, [], ◌∷◌, ◌++◌, length, map, refl, sym, ap, ◌∙◌, Bool, true, false}
use Rattle.std.specs.Prelude.{None, nat_lt, if◌then◌else◌}
use Rattle.text_defs.specs.Text.{lines_of, all_but_last, last_line, whole_lines, unfinished, most_line_bytes}
use Rattle.piece_io.specs.declared.line_cutter.Cut.{Cut}
use Rattle.piece_io.specs.declared.line_cutter.Cut.TheVariants.{Line, TooLong}
use Rattle.piece_io.specs.Cuts.{Cutting, cut_of, cuts_of, next_cut, first_cut}
use Rattle.piece_io.specs.CutLaws.{lines_of-split, unfinished-line, unfinished-append}
use Rattle.script_words.specs.declared.refusal.Refusal.TheVariants as refusal
use Rattle.script_words.specs.Script.{refused, meaning_of, reading_of}
use Rattle.session_defs.specs.Output.{line_if_any}
use Rattle.bracket_program.specs.Lines.{cut_reading, lines_given, last_given, last_of}

cut_reading-by : (b : Bool) (line : List ℕ) → cut_reading (if b then TooLong else Line line)
    ≡ (if b then refused refusal.Long else meaning_of line)
cut_reading-by true line = refl
cut_reading-by false line = refl

cut_reading-cut_of : (line : List ℕ) → cut_reading (cut_of line) ≡ reading_of line
cut_reading-cut_of line = cut_reading-by (nat_lt most_line_bytes (length line)) line

pub readings_of_cuts : (lines : List (List ℕ)) → map cut_reading (map cut_of lines) ≡ map reading_of lines
readings_of_cuts [] = refl
readings_of_cuts (line ∷ lines) = ap (λ r. r ∷ map cut_reading (map cut_of lines)) (cut_reading-cut_of line)
    ∙ ap (λ rs. reading_of line ∷ rs) (readings_of_cuts lines)

given-lines : (lines : List (List ℕ)) → lines_given (map cut_of lines) false ≡ map cut_of (all_but_last lines)
given-lines [] = refl
given-lines (line ∷ []) = refl
given-lines (line ∷ next ∷ later) = ap (λ cuts. cut_of line ∷ cuts) (given-lines (next ∷ later))

-- while more may come, the whole lines are handed out
pub readings_given-going : (cuts : List Cut) (ended : Bool) (bytes : List ℕ) → cuts ≡ cuts_of bytes → ended ≡ false
    → map cut_reading (lines_given cuts ended) ≡ map reading_of (whole_lines bytes)
readings_given-going cuts ended bytes e f =
    ap (λ cs. map cut_reading (lines_given cs ended)) e
    ∙ (ap (λ b. map cut_reading (lines_given (cuts_of bytes) b)) f
    ∙ (ap (map cut_reading) (given-lines (lines_of bytes)) ∙ readings_of_cuts (whole_lines bytes)))

last_given-by : (b : Bool) (c : ℕ) (line : List ℕ) → last_given (if b then TooLong else Line (c ∷ line)) true
    ≡ (if b then TooLong else Line (c ∷ line)) ∷ []
last_given-by true c line = refl
last_given-by false c line = refl

last_given-line : (line : List ℕ) → last_given (cut_of line) true ≡ map cut_of (line_if_any line)
last_given-line [] = refl
last_given-line (c ∷ line) = last_given-by (nat_lt most_line_bytes (length (c ∷ line))) c line

-- when nothing more comes, the unfinished line is handed out too
pub readings_given-ended : (cuts : List Cut) (ended : Bool) (script : List ℕ) → cuts ≡ cuts_of (unfinished script)
    → ended ≡ true
    → map cut_reading (lines_given cuts ended) ≡ map reading_of (line_if_any (unfinished script))
readings_given-ended cuts ended script e f =
    ap (λ cs. map cut_reading (lines_given cs ended)) (e ∙ ap (map cut_of) (unfinished-line script))
    ∙ (ap (λ b. map cut_reading (lines_given (cut_of (unfinished script) ∷ []) b)) f
    ∙ (ap (map cut_reading) (last_given-line (unfinished script)) ∙ readings_of_cuts (line_if_any (unfinished script))))

last-lines : (lines : List (List ℕ)) (line : List ℕ) → last_of (map cut_of (line ∷ lines))
    ≡ cut_of (last_line (line ∷ lines)) ∷ []
last-lines [] line = refl
last-lines (next ∷ later) line = last-lines later next

last-some : (lines front : List (List ℕ)) (line : List ℕ) → lines ≡ front ++ line ∷ [] → last_of (map cut_of lines)
    ≡ cut_of (last_line lines) ∷ []
last-some [] [] line e = cc
last-some [] (x ∷ front) line e = cc
last-some (x ∷ lines) front line e = last-lines lines x

none-alone : (cuts : List Cut) → first_cut cuts false ≡ None → cuts ≡ last_of cuts
none-alone [] e = refl
none-alone (x ∷ []) e = refl
none-alone (x ∷ y ∷ later) e = cc

-- what is left when each whole line was handed out
pub pending-left : (cutter : Cutting) (before : List Cut) (script piece : List ℕ) → next_cut cutter ≡ None
    → cutter.ended ≡ false
    → last_of cutter.cuts ≡ last_of before → before ≡ cuts_of (unfinished script ++ piece) → cutter.cuts
    ≡ cuts_of (unfinished (script ++ piece))
pending-left cutter before script piece n f l e =
    let bytes = unfinished script ++ piece in
    none-alone cutter.cuts (ap (first_cut cutter.cuts) (sym f) ∙ n)
    ∙ (l ∙ (ap last_of e ∙ (last-some (lines_of bytes) (whole_lines bytes) (unfinished bytes) (lines_of-split bytes)
    ∙ (ap (map cut_of) (sym (unfinished-line bytes)) ∙ ap cuts_of (sym (unfinished-append script piece))))))
