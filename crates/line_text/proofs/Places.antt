-- What lies between two places of a text.
use Rattle.std.proofs.Common.{◌≡◌, ◌≢◌, ℕ, zero, suc, ◌+◌, ◌-◌, ◌<◌, ◌≤◌, inl, inr, List, [], ◌∷◌, ◌++◌, length, take}
use Rattle.std.proofs.Common.{drop, Bool, true, false, cond, refl, ap, sym, ◌∙◌, arith, append_assoc, eqb, add-one}
use Rattle.std.proofs.Common.{zero-add}
use Rattle.std.specs.Prelude.{sum_by}
use Rattle.std.proofs.lemmas.Bool.{ltb-true, ltb-false, leb-true, and_parts, or_parts, and_cases, eqb-false, le-ltb}
use Rattle.std.proofs.lemmas.Bool.{cases_lt, or_from, and_right}
use Rattle.std.proofs.lemmas.Bool.Decides.{nat_tests}
use Rattle.std.proofs.lemmas.List.{length-append, length-drop, append-nil, take_all, take-append-le, drop-append-le}
use Rattle.std.proofs.lemmas.List.Sums.{sum_by-cons}
use Rattle.std.proofs.Math.Seq.{take-append-add, drop-append-add}
use Rattle.text_pos.specs.declared.length.Pos.{Pos}
use Rattle.text_defs.specs.Text.{lines_of, line_of, line_in, line_count, onto_first}
use Rattle.text_defs.specs.Place.{holds, is_before}
use Rattle.line_text.specs.Lines.{joined, behind_lf, ended, HaveNoLf}
use Rattle.line_text.proofs.CountedSizes.{line_count-pos}
use Rattle.line_text.proofs.JoinedLines.{lines_of-append, lines_of-behind, all_onto-cons, line_in-HasNoLf, HasNoLf-drop}

-- a text is its lines, joined

joined-onto_first : (c : ℕ) (lines : List (List ℕ)) → 0 < length lines → joined (onto_first c lines) ≡ c ∷ joined lines
joined-onto_first c [] h = absurd (omega arith)
joined-onto_first c (line ∷ lines) h = refl

behind_lf-joined : (lines : List (List ℕ)) → 0 < length lines → behind_lf lines ≡ 10 ∷ joined lines
behind_lf-joined [] h = absurd (omega arith)
behind_lf-joined (line ∷ lines) h = refl

joined-before_lines : (c : ℕ) (lines : List (List ℕ)) (b : Bool) → 0 < length lines → eqb c 10 ≡ b
    → joined (cond b ([] ∷ lines) (onto_first c lines)) ≡ c ∷ joined lines
joined-before_lines c lines true h e = behind_lf-joined lines h
    ∙ ap (λ (x : ℕ). x ∷ joined lines) (sym (grind (arith, nat_tests)))
joined-before_lines c lines false h e = joined-onto_first c lines h

pub joined-lines_of : (text : List ℕ) → joined (lines_of text) ≡ text
joined-lines_of [] = refl
joined-lines_of (c ∷ cs) = joined-before_lines c (lines_of cs) (eqb c 10) (line_count-pos cs) refl
    ∙ ap (λ (xs : List ℕ). c ∷ xs) (joined-lines_of cs)

HaveNoLf-onto_first : (c : ℕ) (lines : List (List ℕ)) → c ≢ 10 → HaveNoLf lines → HaveNoLf (onto_first c lines)
HaveNoLf-onto_first c [] n h = ((n, tt), tt)
HaveNoLf-onto_first c (line ∷ lines) n h = ((n, h.0), h.1)

HaveNoLf-before_lines : (c : ℕ) (lines : List (List ℕ)) (b : Bool) → eqb c 10 ≡ b → HaveNoLf lines
    → HaveNoLf (cond b ([] ∷ lines) (onto_first c lines))
HaveNoLf-before_lines c lines true e h = (tt, h)
HaveNoLf-before_lines c lines false e h = HaveNoLf-onto_first c lines (eqb-false c 10 e) h

pub HaveNoLf-lines_of : (text : List ℕ) → HaveNoLf (lines_of text)
HaveNoLf-lines_of [] = (tt, tt)
HaveNoLf-lines_of (c ∷ cs) = HaveNoLf-before_lines c (lines_of cs) (eqb c 10) refl (HaveNoLf-lines_of cs)

-- the offset at which a line starts

abbrev pub start : List (List ℕ) → ℕ → ℕ
start lines n = sum_by (λ line. length line + 1) (take n lines)

pub start_cons : (line : List ℕ) (lines : List (List ℕ)) (n : ℕ) → start (line ∷ lines) (suc n)
    ≡ length line + 1 + start lines n
start_cons line lines n = sum_by-cons (λ x. length x + 1) line (take n lines)

pub start_step : (lines : List (List ℕ)) (n : ℕ) → n < length lines → start lines (suc n)
    ≡ start lines n + length (line_in lines n) + 1
start_step [] n h = absurd (omega arith)
start_step (line ∷ lines) zero h = omega arith
start_step (line ∷ lines) (suc n) h = omega
    (arith, start_step lines n (omega arith), start_cons line lines n, start_cons line lines (suc n))

pub start_mono : (lines : List (List ℕ)) (m n : ℕ) → m ≤ n → start lines m ≤ start lines n
start_mono lines zero n h = omega arith
start_mono lines (suc m) zero h = absurd (omega arith)
start_mono [] (suc m) (suc n) h = omega arith
start_mono (line ∷ lines) (suc m) (suc n) h =
    omega (arith, start_mono lines m n (omega arith), start_cons line lines m, start_cons line lines n)

-- the text from a place on
pub drop_place : (lines : List (List ℕ)) (n col : ℕ) → n < length lines → col ≤ length (line_in lines n)
    → drop (start lines n + col) (joined lines) ≡ drop col (line_in lines n) ++ behind_lf (drop (suc n) lines)
drop_place [] n col h i = absurd (omega arith)
drop_place (line ∷ lines) zero col h i = rw zero-add (drop-append-le col line (behind_lf lines) i)
drop_place (line ∷ []) (suc n) col h i = absurd (omega arith)
drop_place (line ∷ next ∷ lines) (suc n) col h i =
    let e : start (line ∷ next ∷ lines) (suc n) + col ≡ length line + suc (start (next ∷ lines) n + col) =
    omega (arith, start_cons line (next ∷ lines) n) in
    rw e (drop-append-add line (10 ∷ joined (next ∷ lines)) (suc (start (next ∷ lines) n + col))
    ∙ drop_place (next ∷ lines) n col (omega arith) i)

-- the characters from one place to another
abbrev pub piece : List (List ℕ) → ℕ → ℕ → ℕ → List ℕ
piece lines n col end = take (end - (start lines n + col)) (drop (start lines n + col) (joined lines))

-- on one line
pub piece_part : (lines : List (List ℕ)) (n col to : ℕ) → n < length lines → col ≤ to → to ≤ length (line_in lines n)
    → piece lines n col (start lines n + to) ≡ take (to - col) (drop col (line_in lines n))
piece_part lines n col to h i j =
    let e : (start lines n + to) - (start lines n + col) ≡ to - col = omega arith in
    rw (drop_place lines n col h (omega arith), e)
    (take-append-le (to - col) (drop col (line_in lines n)) (behind_lf (drop (suc n) lines))
    (omega (arith, length-drop col (line_in lines n))))

pub drop_line : (lines : List (List ℕ)) (n : ℕ) → n < length lines → drop n lines ≡ line_in lines n ∷ drop (suc n) lines
drop_line [] n h = absurd (omega arith)
drop_line (line ∷ lines) zero h = refl
drop_line (line ∷ lines) (suc n) h = drop_line lines n (omega arith)

-- the text from the start of a line on, and the LF before it
behind_lf-drop : (lines : List (List ℕ)) (n : ℕ) → n < length lines → behind_lf (drop n lines)
    ≡ 10 ∷ drop (start lines n + 0) (joined lines)
behind_lf-drop lines n h = rw (drop_place lines n 0 h (omega arith)) (ap behind_lf (drop_line lines n h))

-- the rest of a line, its end, and what follows
pub piece_line : (lines : List (List ℕ)) (n col end : ℕ) → suc n < length lines → col ≤ length (line_in lines n)
    → start lines (suc n) ≤ end → piece lines n col end ≡ drop col (line_in lines n) ++ 10 ∷ piece lines (suc n) 0 end
piece_line lines n col end h i j =
    let rest = drop col (line_in lines n) in
    let e : end - (start lines n + col) ≡ length rest + suc (end - (start lines (suc n) + 0)) =
    omega (arith, start_step lines n (omega arith), length-drop col (line_in lines n)) in
    rw (drop_place lines n col (omega arith) i, behind_lf-drop lines (suc n) h, e)
    (take-append-add rest (10 ∷ drop (start lines (suc n) + 0) (joined lines))
    (suc (end - (start lines (suc n) + 0))))

-- places that are there

pub record IsPlace (lines : List (List ℕ)) (at : Pos) : Type 0 where
  pub line : at.line < length lines
  pub col : at.col ≤ length (line_in lines at.line)

-- a place is at or behind another
pub data IsFrom (a b : Pos) : Type 0 where
  later_line : a.line < b.line → IsFrom a b
  same_line : a.line ≡ b.line → a.col ≤ b.col → IsFrom a b

pub IsPlace-holds : (text : List ℕ) (at : Pos) → holds text at ≡ true → IsPlace (lines_of text) at
IsPlace-holds text at h =
    let parts = and_parts _ _ h in
    record { line = ltb-true _ _ parts.0; col = leb-true _ _ parts.1 }

pub IsFrom-is_before : (a b : Pos) → is_before b a ≡ false → IsFrom a b
IsFrom-is_before a b h =
    let parts = or_parts _ _ h in
    let lines_rise = ltb-false b.line a.line parts.0 in
    elim (cases_lt a.line b.line) [
      | inl l ↦ later_line l
      | inr l ↦ let e : a.line ≡ b.line = omega arith in
          elim (and_cases _ _ parts.1) [
            | inl n ↦ absurd (eqb-false b.line a.line n (sym e))
            | inr c ↦ same_line e (ltb-false b.col a.col c)
          ]
    ]

pub offset_le : (lines : List (List ℕ)) (a b : Pos) → IsPlace lines a → IsPlace lines b → IsFrom a b
    → start lines a.line + a.col ≤ start lines b.line + b.col
offset_le lines a b p q (later_line l) =
    omega (arith, p.col, start_step lines a.line p.line, start_mono lines (suc a.line) b.line (omega arith))
offset_le lines a b p q (same_line e l) = omega (arith, ap (start lines) e)

start_all : (lines : List (List ℕ)) (n : ℕ) → start lines n ≤ length (joined lines) + 1
start_all lines zero = omega arith
start_all [] (suc n) = omega arith
start_all (line ∷ []) (suc zero) = omega (arith, start_cons line [] zero, length-append line [])
start_all (line ∷ []) (suc (suc n)) = omega (arith, start_cons line [] (suc n), length-append line [])
start_all (line ∷ next ∷ lines) (suc n) =
    omega (
      arith,
      start_cons line (next ∷ lines) n,
      start_all (next ∷ lines) n,
      length-append line
          (10 ∷ joined (next ∷ lines)),
    )

-- an offset is within the text
pub offset_within : (lines : List (List ℕ)) (a : Pos) → IsPlace lines a
    → start lines a.line + a.col ≤ length (joined lines)
offset_within lines a p = omega (arith, p.col, start_step lines a.line p.line, start_all lines (suc a.line))

pub HaveNoLf-drop : (n : ℕ) (lines : List (List ℕ)) → HaveNoLf lines → HaveNoLf (drop n lines)
HaveNoLf-drop zero lines h = h
HaveNoLf-drop (suc n) [] h = tt
HaveNoLf-drop (suc n) (line ∷ lines) h = HaveNoLf-drop n lines h.1

pub IsFrom-lines : (a b : Pos) → IsFrom a b → a.line ≤ b.line
IsFrom-lines a b (later_line l) = omega arith
IsFrom-lines a b (same_line e l) = omega arith

pub IsFrom-cols : (a b : Pos) → IsFrom a b → b.line - a.line ≡ 0 → a.col ≤ b.col
IsFrom-cols a b (later_line l) z = absurd (omega arith)
IsFrom-cols a b (same_line e l) z = l

-- the lines from a place on
pub lines_of-drop_place : (lines : List (List ℕ)) (n col : ℕ) → HaveNoLf lines → n < length lines
    → col ≤ length (line_in lines n) → lines_of (drop (start lines n + col) (joined lines))
    ≡ drop col (line_in lines n) ∷ drop (suc n) lines
lines_of-drop_place lines n col h i j =
    let front = drop col (line_in lines n) in
    let rest = drop (suc n) lines in
    rw (
      drop_place lines n col i j,
      lines_of-append front (behind_lf rest)
          (HasNoLf-drop col (line_in lines n) (line_in-HasNoLf lines n h)),
      lines_of-behind rest
          (HaveNoLf-drop (suc n) lines h),
    )
    (all_onto-cons front [] rest ∙ ap (λ (l : List ℕ). l ∷ rest) (append-nil front))

-- the same at the next line of a loop
pub start_next : (lines : List (List ℕ)) (n : ℕ) → n < length lines → start lines (n + 1)
    ≡ start lines n + length (line_in lines n) + 1
start_next lines n h = rw add-one (start_step lines n h)

pub piece_next : (lines : List (List ℕ)) (n col : ℕ) (to : Pos) → IsPlace lines to → n < to.line
    → col ≤ length (line_in lines n) → piece lines n col (start lines to.line + to.col)
    ≡ drop col (line_in lines n) ++ 10 ∷ piece lines (n + 1) 0 (start lines to.line + to.col)
piece_next lines n col to p l i =
    rw add-one (piece_line lines n col (start lines to.line + to.col) (omega (arith, p.line)) i
    (omega (arith, start_mono lines (suc n) to.line (omega arith))))

-- a line was copied from a column on, and its end
pub copied_line : (lines : List (List ℕ)) (n col len : ℕ) (to : Pos) (line before part after whole : List ℕ)
    → IsPlace lines to → n < to.line → col ≤ length (line_in lines n) → line ≡ line_in lines n → len ≡ length line
    → part ≡ before ++ take (len - col) (drop col line) → after ≡ part ++ 10 ∷ []
    → before ++ piece lines n col (start lines to.line + to.col) ≡ whole
    → after ++ piece lines (n + 1) 0 (start lines to.line + to.col) ≡ whole
copied_line lines n col len to line before part after whole p l i is_line is_len is_part is_after h =
    let rest = drop col line in
    let next = piece lines (n + 1) 0 (start lines to.line + to.col) in
    let all : take (len - col) rest ≡ rest = take_all (len - col) rest (omega (arith, length-drop col line)) in
    let left : after ≡ (before ++ rest) ++ 10 ∷ [] =
    is_after ∙ ap (λ (cs : List ℕ). cs ++ 10 ∷ []) (is_part ∙ ap (λ (cs : List ℕ). before ++ cs) all) in
    let right : piece lines n col (start lines to.line + to.col) ≡ rest ++ 10 ∷ next =
    rw is_line (piece_next lines n col to p l i) in
    ap (λ (cs : List ℕ). cs ++ next) left ∙ append_assoc (before ++ rest) (10 ∷ []) next
    ∙ append_assoc before rest (10 ∷ next) ∙ ap (λ (cs : List ℕ). before ++ cs) (sym right) ∙ h

-- the last part was copied
pub copied_part : (lines : List (List ℕ)) (n col : ℕ) (to : Pos) (line before after whole : List ℕ) → IsPlace lines to
    → n ≡ to.line → col ≤ to.col → line ≡ line_in lines to.line
    → after ≡ before ++ take (to.col - col) (drop col line)
    → before ++ piece lines n col (start lines to.line + to.col) ≡ whole → after ≡ whole
copied_part lines n col to line before after whole p e l is_line is_after h =
    is_after ∙ ap (λ (cs : List ℕ). before ++ cs)
    (rw (is_line) (sym (piece_part lines to.line col to.col p.line l p.col))
    ∙ ap (λ (m : ℕ). piece lines m col (start lines to.line + to.col)) (sym e)) ∙ h

-- whole lines, and a part of the one behind them
pub piece_lines : (lines : List (List ℕ)) (n count to : ℕ) → n + count < length lines
    → to ≤ length (line_in lines (n + count))
    → piece lines n 0 (start lines (n + count) + to)
    ≡ ended (take count (drop n lines)) ++ take to (line_in lines (n + count))
piece_lines lines n zero to there within =
    let none : n + 0 ≡ n = omega arith in
    let part = piece_part lines n 0 to (rw none at there) (omega arith) (rw none at within) in
    rw none (part ∙ ap (λ (k : ℕ). take k (line_in lines n)) (omega arith))
piece_lines lines n (suc count) to there within =
    let end : ℕ = start lines (n + suc count) + to in
    let next : n + suc count ≡ suc n + count = omega arith in
    let first = piece_line lines n 0 end (omega arith) (omega arith)
    (omega (arith, start_mono lines (suc n) (n + suc count) (omega arith))) in
    let rest = piece_lines lines (suc n) count to (omega arith) (rw next at within) in
    let line = line_in lines n in
    let runs : ended (take (suc count) (drop n lines)) ≡ line ++ 10 ∷ ended (take count (drop (suc n) lines)) =
    ap (λ (ls : List (List ℕ)). ended (take (suc count) ls)) (drop_line lines n (omega arith)) in
    let last = take to (line_in lines (suc n + count)) in
    let behind : piece lines (suc n) 0 end ≡ ended (take count (drop (suc n) lines)) ++ last =
    ap (λ (k : ℕ). piece lines (suc n) 0 (start lines k + to)) next ∙ rest in
    first ∙ ap (λ (cs : List ℕ). line ++ 10 ∷ cs) behind
    ∙ sym (append_assoc line (10 ∷ ended (take count (drop (suc n) lines))) last)
    ∙ ap (λ (cs : List ℕ). cs ++ last) (sym runs)
    ∙ ap (λ (k : ℕ). ended (take (suc count) (drop n lines)) ++ take to (line_in lines k)) (sym next)

-- the rest of a line, whole lines, and a part of the last line were copied
pub copied_lines : (lines : List (List ℕ)) (n col len count : ℕ) (to : Pos)
    (line last before part end run after : List ℕ)
    → IsPlace lines to → (n + 1) + count ≡ to.line → col ≤ length (line_in lines n) → line ≡ line_in lines n → len
    ≡ length line
    → last ≡ line_in lines to.line → part ≡ before ++ take (len - col) (drop col line) → end ≡ part ++ 10 ∷ []
    → run ≡ end ++ ended (take count (drop (n + 1) lines)) → after ≡ run ++ take (to.col - 0) (drop 0 last)
    → after ≡ before ++ piece lines n col (start lines to.line + to.col)
copied_lines lines n col len count to line last before part end run after p at i is_line is_len is_last is_part is_end
    is_run is_after =
    let whole = before ++ piece lines n col (start lines to.line + to.col) in
    let lines_run = ended (take count (drop (n + 1) lines)) in
    let first : end ++ piece lines (n + 1) 0 (start lines to.line + to.col) ≡ whole =
    copied_line lines n col len to line before part end whole p (omega arith) i is_line is_len is_part is_end refl in
    let left : piece lines (n + 1) 0 (start lines to.line + to.col) ≡ lines_run ++ take to.col (line_in lines to.line) =
    rw (← at) (piece_lines lines (n + 1) count to.col (omega (arith, p.line)) (rw (← at) at p.col)) in
    let part_of_last : take (to.col - 0) last ≡ take to.col (line_in lines to.line) =
    ap (λ (k : ℕ). take k last) (omega arith) ∙ ap (take to.col) is_last in
    is_after ∙ ap (λ (cs : List ℕ). run ++ cs) part_of_last
    ∙ ap (λ (cs : List ℕ). cs ++ take to.col (line_in lines to.line)) is_run
    ∙ append_assoc end lines_run (take to.col (line_in lines to.line)) ∙ ap (λ (cs : List ℕ). end ++ cs) (sym left)
    ∙ first

start_total : (lines : List (List ℕ)) → 0 < length lines → start lines (length lines) ≡ length (joined lines) + 1
start_total [] h = absurd (omega arith)
start_total (line ∷ []) h = omega (arith, start_cons line [] zero, length-append line [])
start_total (line ∷ next ∷ lines) h = omega (
  arith,
  start_cons line (next ∷ lines) (suc (length lines)),
  start_total (next ∷ lines) (omega arith),
  length-append line (10 ∷ joined (next ∷ lines)),
)

-- the offset of the last line's end
pub offset_end : (text : List ℕ) (n : ℕ) → n + 1 ≡ line_count text → start (lines_of text) n + length (line_of text n)
    ≡ length text
offset_end text n e =
    let lines = lines_of text in
    omega (
      arith,
      start_next lines n (omega arith),
      start_total lines (line_count-pos text),
      ap (start lines) e,
      ap
          length (joined-lines_of text),
    )

pub is_before-origin : (at : Pos) → is_before at (record { line = 0; col = 0 }) ≡ false
is_before-origin at = or_from _ _ (le-ltb at.line 0 (omega arith)) (and_right _ _ (le-ltb at.col 0 (omega arith)))
