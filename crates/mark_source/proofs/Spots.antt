-- Spots among the marks of lines.
use Rattle.std.proofs.Common.{◌≡◌, inl, inr, ℕ, zero, suc, ◌+◌, ◌<◌, ◌≤◌, List, [], ◌∷◌, ◌++◌, length, map}
use Rattle.std.proofs.Common.{drop, get_or, Some, None, refl, sym, ap, ◌∙◌, arith, unwrap_or, slice_get}
use Rattle.std.specs.List.{slice_index_or}
use Rattle.std.proofs.lemmas.Option.{unwrap_or-slice_get}
use Rattle.std.proofs.Math.Seq.{drop-cons}
use Rattle.std.proofs.lemmas.List.{drop_all}
use Rattle.pairing_defs.specs.declared.LineMark.{LineMark}
use Rattle.pairing_defs.specs.declared.Mark.{Mark}
use Rattle.pairing_defs.specs.Marks.{on_line, marks_of_lines}
use Rattle.bracket_marks.specs.MarkedLine.{MarkedLine}
use Rattle.mark_source.specs.Source.{first}
use Rattle.mark_source.specs.Reading.{later, from_spot, marks_at, IsSpot}
use Rattle.mark_source.specs.declared.spot.Spot.{Spot}

abbrev no_marks : MarkedLine
no_marks = record { marks = []; length = 0 }

one_more : (n : ℕ) → suc n ≡ n + 1
one_more n = omega arith

-- a line and those behind it
pub later_at : (lines : List MarkedLine) (n : ℕ) → n < length lines
    → later n lines ≡ map (on_line n) (marks_at lines n) ++ later (n + 1) lines
later_at lines n h =
    ap (λ ls. marks_of_lines n (map (λ line. line.marks) ls)) (drop-cons lines n no_marks h)
    ∙ (ap (λ k. map (on_line n) (get_or lines n no_marks).marks ++ marks_of_lines (n + 1)
    (map (λ line. line.marks) (drop k lines))) (one_more n)
    ∙ ap (λ line. map (on_line n) line.marks ++ later (n + 1) lines) (sym (unwrap_or-slice_get lines n no_marks)))

-- the marks of a line that is asked for
pub marks_got : (lines : List MarkedLine) (n : ℕ) (line : MarkedLine) → n < length lines
    → line ≡ slice_index_or lines n line → line.marks ≡ marks_at lines n
marks_got lines n line h e = ap (λ l. l.marks) (e ∙ got lines n h)
  where
    got : (lines : List MarkedLine) (n : ℕ) → n < length lines
        → slice_index_or lines n line ≡ unwrap_or (slice_get lines n) no_marks
    got [] n h = absurd (omega (arith, h))
    got (l ∷ lines) zero h = refl
    got (l ∷ lines) (suc n) h = got lines n (omega (arith, h))

-- no line is behind the last
pub later_end : (lines : List MarkedLine) (n : ℕ) → length lines ≤ n → later n lines ≡ []
later_end lines n h = ap (λ ls. marks_of_lines n (map (λ line. line.marks) ls)) (drop_all n lines h)

-- behind the marks of a line stand those of the next
pub next_line : (lines : List MarkedLine) (n k : ℕ) → n < length lines → k ≡ length (marks_at lines n)
    → drop k (later n lines) ≡ later (n + 1) lines
next_line lines n k h e = ap (drop k) (later_at lines n h)
    ∙ (ap (λ j. drop j (map (on_line n) (marks_at lines n) ++ later (n + 1) lines)) e
    ∙ behind_all (marks_at lines n))
  where
    behind_all : (ms : List LineMark) → drop (length ms) (map (on_line n) ms ++ later (n + 1) lines) ≡ later (n + 1) lines
    behind_all [] = refl
    behind_all (m ∷ ms) = behind_all ms

-- the mark at a spot, and those behind it
pub at_spot : (lines : List MarkedLine) (n k : ℕ) (d : LineMark) → n < length lines → k < length (marks_at lines n)
    → drop k (later n lines) ≡ on_line n (get_or (marks_at lines n) k d) ∷ drop (suc k) (later n lines)
at_spot lines n k d h lt = ap (drop k) (later_at lines n h)
    ∙ (in_line (marks_at lines n) k lt ∙ ap (λ ms. on_line n (get_or (marks_at lines n) k d) ∷ drop (suc k) ms) (sym (later_at lines n h)))
  where
    in_line : (ms : List LineMark) (k : ℕ) → k < length ms
        → drop k (map (on_line n) ms ++ later (n + 1) lines)
        ≡ on_line n (get_or ms k d) ∷ drop (suc k) (map (on_line n) ms ++ later (n + 1) lines)
    in_line [] k lt = absurd (omega (arith, lt))
    in_line (m ∷ ms) zero lt = refl
    in_line (m ∷ ms) (suc k) lt = in_line ms k (omega (arith, lt))

-- a spot in the lines is a mark
pub is_mark : (lines : List MarkedLine) (spot : Spot) → IsSpot lines spot → spot.line < length lines
    → spot.index < length (marks_at lines spot.line)
is_mark lines spot (inl is) h = is.1
is_mark lines spot (inr is) h = absurd (omega (arith, h, is.0))

pub first_is : (lines : List MarkedLine) (spot : Spot) (ms : List LineMark) (d : LineMark) → IsSpot lines spot
    → spot.line < length lines → ms ≡ marks_at lines spot.line
    → Some (on_line spot.line (slice_index_or ms spot.index d)) ≡ first (from_spot lines spot)
first_is lines spot ms d is h e =
    ap (λ xs. Some (on_line spot.line (slice_index_or xs spot.index d))) e
    ∙ sym (ap first (at_spot lines spot.line spot.index d h (is_mark lines spot is h)))

-- behind the lines there is none
pub none_is : (lines : List MarkedLine) (spot : Spot) → length lines ≤ spot.line → first (from_spot lines spot) ≡ None
none_is lines spot h = ap (λ ms. first (drop spot.index ms)) (later_end lines spot.line h) ∙ nothing spot.index
  where
    nothing : (k : ℕ) → first (drop k []) ≡ None
    nothing zero = refl
    nothing (suc k) = refl

some_is : {x y : Mark} → Some x ≡ Some y → x ≡ y
some_is e = cc

-- where there is a first mark, the others stand behind it
pub taken : (lines : List MarkedLine) (spot : Spot) (m : Mark) → first (from_spot lines spot) ≡ Some m
    → from_spot lines spot ≡ m ∷ drop (suc spot.index) (later spot.line lines)
taken lines spot m e = front (later spot.line lines) spot.index e
  where
    front : (ms : List Mark) (k : ℕ) → first (drop k ms) ≡ Some m → drop k ms ≡ m ∷ drop (suc k) ms
    front [] zero e = cc
    front [] (suc k) e = cc
    front (x ∷ ms) zero e = ap (λ y. y ∷ ms) (some_is e)
    front (x ∷ ms) (suc k) e = front ms k e
