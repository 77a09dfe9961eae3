-- What the marks of one line add to the rows of a text.
use Rattle.std.proofs.Common.{◌≡◌, ℕ, ◌+◌, List, [], ◌∷◌, ◌++◌, length, map, refl, sym, append_assoc, length-append}
use Rattle.std.proofs.lemmas.List.{length-map}
use Rattle.pairing_defs.specs.declared.LineMark.{LineMark}
use Rattle.pairing_defs.specs.declared.Mark.{Mark}
use Rattle.pairing_defs.specs.Marks.{on_line, marks_of_lines}
use Rattle.pairing_defs.specs.Pairing.{Open, rows_by, open_by, placed_from, open_after}
use Rattle.bracket_marks.specs.MarkedLine.{MarkedLine}
use Rattle.bracket_lex.specs.Pairing.{Progress, open_in}

pub placed_from-append : (limit : ℕ) (state : Open) (xs ys : List Mark)
    → placed_from limit state (xs ++ ys) ≡ placed_from limit state xs ++ placed_from limit (open_after limit state xs)
    ys
placed_from-append limit state [] ys = refl
placed_from-append limit state (x ∷ xs) ys =
    rw (placed_from-append limit (open_by limit state x.role) xs ys)
    (sym (append_assoc (rows_by limit state x x.role) _ _))

-- one more line is paired, and those behind it are left
pub text_rows : (limit n : ℕ) (old new : Progress) (lines rest : List MarkedLine) (line : MarkedLine)
    (marks : List LineMark)
    → lines ≡ line ∷ rest → marks ≡ line.marks
    → new.rows ≡ old.rows ++ placed_from limit (open_in old) (map (on_line n) marks)
    → open_in new ≡ open_after limit (open_in old) (map (on_line n) marks)
    → new.rows ++ placed_from limit (open_in new) (marks_of_lines (n + 1) (map (λ line. line.marks) rest))
    ≡ old.rows ++ placed_from limit (open_in old) (marks_of_lines n (map (λ line. line.marks) lines))
text_rows limit n old new lines rest line marks at is rows opened =
    rw (at, ← is, placed_from-append limit (open_in old) (map (on_line n) marks) _, opened, rows)
    (append_assoc old.rows _ _)

pub text_bound : (n : ℕ) (lines rest : List MarkedLine) (line : MarkedLine) (marks : List LineMark)
    → lines ≡ line ∷ rest → marks ≡ line.marks
    → length (marks_of_lines n (map (λ line. line.marks) lines))
    ≡ length marks + length (marks_of_lines (n + 1) (map (λ line. line.marks) rest))
text_bound n lines rest line marks at is =
    rw (at, ← is, length-append (map (on_line n) marks) _, length-map marks (on_line n)) refl
