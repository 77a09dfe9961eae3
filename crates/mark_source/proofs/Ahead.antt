-- The marks from a place on, of marks that stand in order.
use Rattle.std.proofs.Common.{◌≡◌, ℕ, ◌+◌, List, [], ◌∷◌, ◌++◌, map, Bool, true, false, not}
use Rattle.std.proofs.Common.{refl, sym, ap, ◌∙◌, subst, arith, cond, if◌then◌else◌}
use Rattle.text_pos.specs.declared.length.Pos.{Pos}
use Rattle.pairing_defs.specs.declared.LineMark.{LineMark}
use Rattle.pairing_defs.specs.declared.Mark.{Mark}
use Rattle.pairing_defs.specs.Marks.{on_line, marks_of_lines}
use Rattle.bracket_marks.specs.MarkedLine.{MarkedLine}
use Rattle.mark_source.specs.Source.{is_before, marks_from, end_of, first, RiseIn, AreMarked}
use Rattle.mark_source.specs.Reading.{is_passed}
use Rattle.mark_source.proofs.Orders.{before_by_col, not_before_by_col, not_before_by_line, before_up_to}
use Rattle.mark_source.proofs.Orders.{not_before_up_to, before_is_not_behind}

-- each mark starts at or behind the end of the one before it, the first at or behind a place
abbrev pub InOrder : Pos → List Mark → Type 0
InOrder p [] = Unit {0}
InOrder p (m ∷ ms) = (is_before m.at p ≡ false) × (is_before m.at (end_of m) ≡ true) × InOrder (end_of m) ms

pub InOrder-earlier : (p q : Pos) (ms : List Mark) → is_before q p ≡ false → InOrder q ms → InOrder p ms
InOrder-earlier p q [] h are = tt
InOrder-earlier p q (m ∷ ms) h are = (not_before_up_to m.at q p are.0 h, are.1, are.2)

-- a test that is told
pub kept_by : (m : Mark) (ms : List Mark) (p : Pos) (b : Bool) → is_before m.at p ≡ b
    → marks_from p (m ∷ ms) ≡ (if b then marks_from p ms else m ∷ marks_from p ms)
kept_by m ms p b e = ap (λ t. cond (not t) (m ∷ marks_from p ms) (marks_from p ms)) e ∙ at b
  where
    at : (b : Bool) → cond (not b) (m ∷ marks_from p ms) (marks_from p ms)
        ≡ (if b then marks_from p ms else m ∷ marks_from p ms)
    at true = refl
    at false = refl

-- all marks that stand behind a place are from it on
pub all_ahead : (p : Pos) (ms : List Mark) → InOrder p ms → marks_from p ms ≡ ms
all_ahead p [] are = refl
all_ahead p (m ∷ ms) are =
    kept_by m ms p false are.0
    ∙ ap (λ rest. m ∷ rest) (all_ahead p ms (InOrder-earlier p (end_of m) ms
    (not_before_up_to (end_of m) m.at p (before_is_not_behind m.at (end_of m) are.1) are.0) are.2))

head_of : {x y : Mark} {xs ys : List Mark} → x ∷ xs ≡ y ∷ ys → x ≡ y
head_of e = cc

tail_of : {x y : Mark} {xs ys : List Mark} → x ∷ xs ≡ y ∷ ys → xs ≡ ys
tail_of e = cc

-- the first mark from a place on isn't before it, and takes some columns
record IsNext (p : Pos) (m : Mark) : Type 0 where
  pub behind : is_before m.at p ≡ false
  pub some : is_before m.at (end_of m) ≡ true

next_is : (p q : Pos) (ms rest : List Mark) (m : Mark) → InOrder q ms → marks_from p ms ≡ m ∷ rest → IsNext p m
next_is p q [] rest m are e = cc
next_is p q (x ∷ ms) rest m are e = by (next_is p (end_of x) ms rest m are.2) (is_before x.at p) refl
  where
    by : (marks_from p ms ≡ m ∷ rest → IsNext p m) → (b : Bool) → is_before x.at p ≡ b → IsNext p m
    by later true h = later (sym (kept_by x ms p true h) ∙ e)
    by later false h = subst (IsNext p) (head_of (sym (kept_by x ms p false h) ∙ e)) (record { behind = h; some = are.1 })

-- behind the first mark from a place on stand the others that are from it on
pub next_ahead : (p q : Pos) (ms rest : List Mark) (m : Mark) → InOrder q ms → marks_from p ms ≡ m ∷ rest
    → marks_from (end_of m) ms ≡ rest
next_ahead p q [] rest m are e = cc
next_ahead p q (x ∷ ms) rest m are e = by (next_ahead p (end_of x) ms rest m are.2) (is_before x.at p) refl
  where
    skipped : (marks_from p ms ≡ m ∷ rest → marks_from (end_of m) ms ≡ rest) → is_before x.at p ≡ true
        → marks_from (end_of m) (x ∷ ms) ≡ rest
    skipped later h = let e' : marks_from p ms ≡ m ∷ rest = sym (kept_by x ms p true h) ∙ e in
        let next = next_is p (end_of x) ms rest m are.2 e' in
        kept_by x ms (end_of m) true (before_up_to x.at m.at (end_of m) (before_up_to x.at p m.at h next.behind)
        (before_is_not_behind m.at (end_of m) next.some))
        ∙ later e'

    found : is_before x.at p ≡ false → marks_from (end_of m) (x ∷ ms) ≡ rest
    found h = let e' : x ∷ marks_from p ms ≡ m ∷ rest = sym (kept_by x ms p false h) ∙ e in
        subst (λ y. marks_from (end_of y) (x ∷ ms) ≡ rest) (head_of e')
        (kept_by x ms (end_of x) true are.1 ∙ (all_ahead (end_of x) ms are.2 ∙ (sym (all_ahead p ms
        (InOrder-earlier p (end_of x) ms (not_before_up_to (end_of x) x.at p (before_is_not_behind x.at (end_of x) are.1) h) are.2)) ∙ tail_of e')))

    by : (marks_from p ms ≡ m ∷ rest → marks_from (end_of m) ms ≡ rest) → (b : Bool) → is_before x.at p ≡ b
        → marks_from (end_of m) (x ∷ ms) ≡ rest
    by later true h = skipped later h
    by later false h = found h

-- where the first mark from a place on isn't before another place behind it, the same marks are from that on
pub same_ahead : (p q r : Pos) (ms : List Mark) → InOrder r ms → is_before q p ≡ false
    → is_passed (first (marks_from p ms)) q ≡ false → marks_from q ms ≡ marks_from p ms
same_ahead p q r [] are up none = refl
same_ahead p q r (x ∷ ms) are up none = by (same_ahead p q (end_of x) ms are.2 up) (is_before x.at p) refl
  where
    by : (is_passed (first (marks_from p ms)) q ≡ false → marks_from q ms ≡ marks_from p ms) → (b : Bool) → is_before x.at p ≡ b → marks_from q (x ∷ ms) ≡ marks_from p (x ∷ ms)
    by later true h = kept_by x ms q true (before_up_to x.at p q h up)
        ∙ (later (sym (ap (λ rest. is_passed (first rest) q) (kept_by x ms p true h)) ∙ none)
        ∙ sym (kept_by x ms p true h))
    by later false h = let e = kept_by x ms p false h in
        let here : is_before x.at q ≡ false = sym (ap (λ rest. is_passed (first rest) q) e) ∙ none in
        let behind : is_before (end_of x) x.at ≡ false = before_is_not_behind x.at (end_of x) are.1 in
        kept_by x ms q false here
        ∙ (ap (λ rest. x ∷ rest) (all_ahead q ms (InOrder-earlier q (end_of x) ms (not_before_up_to (end_of x) x.at q behind here) are.2)
        ∙ sym (all_ahead p ms (InOrder-earlier p (end_of x) ms (not_before_up_to (end_of x) x.at p behind h) are.2)))
        ∙ sym e)

-- the marks of lines stand in order
pub line_in_order : (n from end : ℕ) (ms : List LineMark) (p : Pos) (rest : List Mark) → RiseIn from end ms
    → is_before (record { line = n; col = from }) p ≡ false → InOrder (record { line = n + 1; col = 0 }) rest
    → InOrder p (map (on_line n) ms ++ rest)
line_in_order n from end [] p rest rise h are =
    InOrder-earlier p (record { line = n + 1; col = 0 }) rest
    (not_before_up_to (record { line = n + 1; col = 0 }) (record { line = n; col = from }) p
    (not_before_by_line (record { line = n + 1; col = 0 }) (record { line = n; col = from }) (omega arith)) h) are
line_in_order n from end (m ∷ ms) p rest rise h are = (
  not_before_up_to (record { line = n; col = m.from }) (record { line = n; col = from }) p
      (not_before_by_col (record { line = n; col = m.from }) (record { line = n; col = from }) refl rise.0) h,
  before_by_col (record { line = n; col = m.from }) (record { line = n; col = m.to }) refl rise.1,
  line_in_order n m.to end ms (record { line = n; col = m.to }) rest rise.3
      (not_before_by_col (record { line = n; col = m.to }) (record { line = n; col = m.to }) refl (omega arith)) are,
)

pub lines_in_order : (n : ℕ) (lines : List MarkedLine) → AreMarked lines
    → InOrder (record { line = n; col = 0 }) (marks_of_lines n (map (λ line. line.marks) lines))
lines_in_order n [] are = tt
lines_in_order n (line ∷ lines) are =
    line_in_order n 0 line.length line.marks (record { line = n; col = 0 })
    (marks_of_lines (n + 1) (map (λ l. l.marks) lines)) are.0
    (not_before_by_col (record { line = n; col = 0 }) (record { line = n; col = 0 }) refl (omega arith))
    (lines_in_order (n + 1) lines are.1)
