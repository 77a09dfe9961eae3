-- The marks of lines from a place on.
use Rattle.std.proofs.Common.{◌≡◌, ℕ, zero, suc, ◌+◌, ◌<◌, ◌≤◌, List, [], ◌∷◌, ◌++◌, length, map, drop, true, false}
use Rattle.std.proofs.Common.{refl, sym, ap, ◌∙◌, arith, nat_lt, unwrap_or, slice_get}
use Rattle.std.proofs.lemmas.Bool.{ltb-true, ltb-false}
use Rattle.std.specs.List.{slice_index_or}
use Rattle.std.specs.List.Sorted.{IsNonDecreasingBy, IsPartitionPoint}
use Rattle.text_pos.specs.declared.length.Pos.{Pos}
use Rattle.pairing_defs.specs.declared.LineMark.{LineMark}
use Rattle.pairing_defs.specs.declared.Mark.{Mark}
use Rattle.pairing_defs.specs.Marks.{on_line, marks_of_lines}
use Rattle.bracket_marks.specs.MarkedLine.{MarkedLine, marks_in}
use Rattle.mark_source.specs.Source.{marks_from, RiseIn, AreMarked}
use Rattle.mark_source.specs.Reading.{later, marks_at}
use Rattle.mark_source.proofs.Orders.{before_by_line, before_by_col, not_before_by_col, not_before_by_line}
use Rattle.mark_source.proofs.Spots.{later_at, later_end}
use Rattle.mark_source.proofs.Ahead.{InOrder, InOrder-earlier, kept_by, all_ahead, line_in_order, lines_in_order}

-- no mark of a line before the place is from it on
line_before : (n : ℕ) (ms : List LineMark) (p : Pos) (rest : List Mark) → n < p.line
    → marks_from p (map (on_line n) ms ++ rest) ≡ marks_from p rest
line_before n [] p rest h = refl
line_before n (m ∷ ms) p rest h =
    kept_by (on_line n m) (map (on_line n) ms ++ rest) p true (before_by_line (on_line n m).at p h)
    ∙ line_before n ms p rest h

-- so lines before it may be left out
lines_before : (p : Pos) (n k : ℕ) (lines : List MarkedLine) → n + k ≡ p.line
    → marks_from p (marks_of_lines n (map (λ line. line.marks) lines))
    ≡ marks_from p (marks_of_lines p.line (map (λ line. line.marks) (drop k lines)))
lines_before p n zero lines e =
    ap (λ l. marks_from p (marks_of_lines l (map (λ line. line.marks) lines))) (omega (arith, e))
lines_before p n (suc k) [] e = refl
lines_before p n (suc k) (line ∷ lines) e =
    line_before n line.marks p (marks_of_lines (n + 1) (map (λ l. l.marks) lines)) (omega (arith, e))
    ∙ lines_before p (n + 1) k lines (omega (arith, e))

pub from_its_line : (p : Pos) (lines : List MarkedLine) → marks_from p (marks_in lines) ≡ marks_from p (later p.line lines)
from_its_line p lines = lines_before p 0 p.line lines (omega arith)

-- in the line of the place, those from its column on
from_its_column : (p : Pos) (from end : ℕ) (ms : List LineMark) (k : ℕ) (rest : List Mark) → RiseIn from end ms
    → ((j : ℕ) (d : LineMark) → j < k → (slice_index_or ms j d).from < p.col)
    → ((j : ℕ) (d : LineMark) → k ≤ j → j < length ms → p.col ≤ (slice_index_or ms j d).from) → k ≤ length ms
    → InOrder (record { line = p.line + 1; col = 0 }) rest
    → marks_from p (map (on_line p.line) ms ++ rest) ≡ drop k (map (on_line p.line) ms ++ rest)
from_its_column p from end [] zero rest rise low high h are = all_ahead p rest
    (InOrder-earlier p (record { line = p.line + 1; col = 0 }) rest
    (not_before_by_line (record { line = p.line + 1; col = 0 }) p (omega arith)) are)
from_its_column p from end [] (suc k) rest rise low high h are = absurd (omega (arith, h))
from_its_column p from end (m ∷ ms) zero rest rise low high h are =
    let at_col : p.col ≤ m.from = high 0 m (omega arith) (omega arith) in
    all_ahead p (map (on_line p.line) (m ∷ ms) ++ rest)
    (line_in_order p.line m.from end (m ∷ ms) p rest (omega arith, rise.1, rise.2, rise.3)
    (not_before_by_col (record { line = p.line; col = m.from }) p refl at_col) are)
from_its_column p from end (m ∷ ms) (suc k) rest rise low high h are =
    kept_by (on_line p.line m) (map (on_line p.line) ms ++ rest) p true
    (before_by_col (on_line p.line m).at p refl (low 0 m (omega arith)))
    ∙ from_its_column p m.to end ms k rest rise.3 (λ j d lt. low (suc j) d (omega (arith, lt)))
    (λ j d le lt. high (suc j) d (omega (arith, le)) (omega (arith, lt))) (omega (arith, h)) are

-- marks that rise in a line start at columns that don't fall
rise_from : (from end : ℕ) (ms : List LineMark) (j : ℕ) (d : LineMark) → RiseIn from end ms → j < length ms
    → from ≤ (slice_index_or ms j d).from
rise_from from end [] j d rise h = absurd (omega (arith, h))
rise_from from end (m ∷ ms) zero d rise h = rise.0
rise_from from end (m ∷ ms) (suc j) d rise h =
    let k = rise_from m.to end ms j d rise.3 (omega (arith, h)) in omega (arith, k, rise.0, rise.1)

pub rising : (from end : ℕ) (ms : List LineMark) → RiseIn from end ms → IsNonDecreasingBy (λ m. m.from) ms
rising from end [] rise i j d le h = absurd (omega (arith, h))
rising from end (m ∷ ms) rise zero zero d le h = omega arith
rising from end (m ∷ ms) rise zero (suc j) d le h =
    let k = rise_from m.to end ms j d rise.3 (omega (arith, h)) in omega (arith, k, rise.1)
rising from end (m ∷ ms) rise (suc i) zero d le h = absurd (omega (arith, le))
rising from end (m ∷ ms) rise (suc i) (suc j) d le h =
    rising m.to end ms rise.3 i j d (omega (arith, le)) (omega (arith, h))

-- a line of marked lines, and those behind it

abbrev pub line_at : List MarkedLine → ℕ → MarkedLine
line_at lines n = unwrap_or (slice_get lines n) (record { marks = []; length = 0 })

pub line_is_marked : (lines : List MarkedLine) (n : ℕ) → AreMarked lines → n < length lines
    → RiseIn 0 (line_at lines n).length (marks_at lines n)
line_is_marked [] n are h = absurd (omega (arith, h))
line_is_marked (line ∷ lines) zero are h = are.0
line_is_marked (line ∷ lines) (suc n) are h = line_is_marked lines n are.1 (omega (arith, h))

behind_are_marked : (lines : List MarkedLine) (n : ℕ) → AreMarked lines → AreMarked (drop n lines)
behind_are_marked lines zero are = are
behind_are_marked [] (suc n) are = tt
behind_are_marked (line ∷ lines) (suc n) are = behind_are_marked lines n are.1

pub behind_in_order : (lines : List MarkedLine) (n : ℕ) → AreMarked lines
    → InOrder (record { line = n; col = 0 }) (later n lines)
behind_in_order lines n are = lines_in_order n (drop n lines) (behind_are_marked lines n are)

pub all_in_order : (lines : List MarkedLine) → AreMarked lines → InOrder (record { line = 0; col = 0 }) (marks_in lines)
all_in_order lines are = lines_in_order 0 lines are

-- the marks from a place on, where so many of its line start before its column
pub from_place : (p : Pos) (lines : List MarkedLine) (k : ℕ) → AreMarked lines → p.line < length lines
    → k ≤ length (marks_at lines p.line)
    → IsPartitionPoint (λ (m : LineMark). nat_lt m.from p.col ≡ true) (λ m. nat_lt m.from p.col ≡ false)
    (marks_at lines p.line) k
    → drop k (later p.line lines) ≡ marks_from p (marks_in lines)
from_place p lines k are h within point =
    ap (drop k) (later_at lines p.line h)
    ∙ (sym (from_its_column p 0 (line_at lines p.line).length (marks_at lines p.line) k (later (p.line + 1) lines)
    (line_is_marked lines p.line are h)
    (λ j d lt. ltb-true (slice_index_or (marks_at lines p.line) j d).from p.col (point.0 j d (omega arith) lt))
    (λ j d le lt. ltb-false (slice_index_or (marks_at lines p.line) j d).from p.col (point.1 j d le lt)) within
    (behind_in_order lines (p.line + 1) are))
    ∙ (sym (ap (marks_from p) (later_at lines p.line h)) ∙ sym (from_its_line p lines)))

-- behind the last line there are no marks
pub from_behind : (p : Pos) (lines : List MarkedLine) → length lines ≤ p.line
    → later (length lines) lines ≡ marks_from p (marks_in lines)
from_behind p lines h = later_end lines (length lines) (omega arith)
    ∙ (sym (ap (marks_from p) (later_end lines p.line h)) ∙ sym (from_its_line p lines))
