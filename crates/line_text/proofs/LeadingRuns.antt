-- The runs that a batch carries lead from the lines before it to the lines after it.
use Rattle.std.proofs.Common.{◌≡◌, ℕ, zero, suc, ◌+◌, ◌-◌, ◌<◌, ◌≤◌, ◌⊎◌, inl, inr, None, List, [], ◌∷◌, ◌++◌, length}
use Rattle.std.proofs.Common.{take, drop, Bool, true, false, cond, eqb, refl, ap, subst, sym, ◌∙◌, arith}
use Rattle.std.proofs.Common.{append_assoc}
use Rattle.std.proofs.lemmas.Bool.{lt-ltb, le-ltb, cases_lt}
use Rattle.std.proofs.lemmas.List.{length-append, length-take-le, length-drop, drop-drop, take_at, drop_at, take_rest}
use Rattle.std.proofs.lemmas.List.{append-nil}
use Rattle.text_pos.specs.declared.length.Pos.{Pos}
use Rattle.text_defs.specs.Text.{norm, lines_of, line_in, line_count, onto_first}
use Rattle.text_defs.specs.Batch.{TextEdit, edit_fault, replaced, edited}
use Rattle.line_text.specs.declared.carry.Run.{Run}
use Rattle.line_text.specs.Carried.{IsGap, LeadsOn, LeadsFrom, carried}
use Rattle.line_text.specs.Runs.{run_between}
use Rattle.line_text.specs.Lines.{HasNoLf, HaveNoLf}
use Rattle.line_text.proofs.JoinedLines.{lines_of-append, all_onto, all_onto-cons, line_in-HasNoLf, HasNoLf-take}
use Rattle.line_text.proofs.JoinedLines.{HasNoLf-drop}
use Rattle.line_text.proofs.CountedSizes.{line_count-pos, line_count-cons, line_count-append}
use Rattle.line_text.proofs.Places.{start, start_mono, piece, piece_part, piece_line, drop_line, IsPlace}
use Rattle.line_text.proofs.Places.{IsFrom-lines, IsFrom-cols, joined-lines_of, HaveNoLf-lines_of}
use Rattle.line_text.proofs.Places.{lines_of-drop_place}
use Rattle.line_text.proofs.ValidBatches.{IsNext, AreValid, AreValid-origin, origin, IsPlace-origin, offset}
use Rattle.line_text.proofs.ValidBatches.{line_count-line}
use Rattle.line_text.proofs.CarriedRuns.{gaps, gaps-carried}

-- lines of texts that are put together

-- what stands on a line before a text changes only its first line
drop-all_onto : (line : List ℕ) (lines : List (List ℕ)) (n : ℕ) → 0 < length lines
    → drop (suc n) (all_onto line lines) ≡ drop (suc n) lines
drop-all_onto line [] n h = absurd (omega arith)
drop-all_onto line (first ∷ lines) n h = rw (all_onto-cons line first lines) refl

drop-line : (line rest : List ℕ) (n : ℕ) → HasNoLf line → drop (suc n) (lines_of (line ++ rest))
    ≡ drop (suc n) (lines_of rest)
drop-line line rest n h = rw (lines_of-append line rest h) (drop-all_onto line (lines_of rest) n (line_count-pos rest))

lines_of-line_end : (line rest : List ℕ) → HasNoLf line → lines_of (line ++ 10 ∷ rest) ≡ line ∷ lines_of rest
lines_of-line_end line rest h =
    lines_of-append line (10 ∷ rest) h ∙ all_onto-cons line [] (lines_of rest)
    ∙ ap (λ (l : List ℕ). l ∷ lines_of rest) (append-nil line)

drop-onto_first : (c : ℕ) (lines : List (List ℕ)) (n : ℕ) → 0 < length lines → drop (suc n) (onto_first c lines)
    ≡ drop (suc n) lines
drop-onto_first c [] n h = absurd (omega arith)
drop-onto_first c (line ∷ lines) n h = refl

drop-before_lines : (b : Bool) (c count n : ℕ) (lines : List (List ℕ)) → 0 < length lines → 0 < count → n
    ≡ cond b 1 0 + count → drop n (cond b ([] ∷ lines) (onto_first c lines)) ≡ drop count lines
drop-before_lines true c count n lines h l e = let next : n ≡ suc count = omega arith in rw next refl
drop-before_lines false c zero n lines h l e = absurd (omega arith)
drop-before_lines false c (suc k) n lines h l e = let next : n ≡ suc k =
    omega arith in rw next (drop-onto_first c lines k h)

-- behind the line on which a front ends
drop-front : (front rest : List ℕ) → drop (line_count front) (lines_of (front ++ rest)) ≡ drop 1 (lines_of rest)
drop-front [] rest = refl
drop-front (c ∷ cs) rest =
    drop-before_lines (eqb c 10) c (line_count cs) (line_count (c ∷ cs)) (lines_of (cs ++ rest))
    (line_count-pos (cs ++ rest)) (line_count-pos cs) (line_count-cons c cs) ∙ drop-front cs rest

-- the lines from a place to the end of a text that is put behind a piece
lines_of-piece : (lines : List (List ℕ)) (gap n m to : ℕ) (rest : List ℕ) → HaveNoLf lines → n + gap ≡ m
    → m < length lines → to ≤ length (line_in lines m)
    → lines_of (piece lines n 0 (start lines m + to) ++ rest)
    ≡ take gap (drop n lines) ++ lines_of (take to (line_in lines m) ++ rest)
lines_of-piece lines zero n m to rest h e l i =
    let q : m ≡ n = omega arith in
    let i' : to ≤ length (line_in lines n) = omega (arith, ap (λ (x : ℕ). length (line_in lines x)) q) in
    let all : to - 0 ≡ to = omega arith in
    rw q (ap (λ (xs : List ℕ). lines_of (xs ++ rest))
    (piece_part lines n 0 to (omega arith) (omega arith) i' ∙ ap (λ (k : ℕ). take k (line_in lines n)) all))
lines_of-piece lines (suc gap) n m to rest h e l i =
    let line = line_in lines n in
    let next = piece lines (suc n) 0 (start lines m + to) in
    let split = piece_line lines n 0 (start lines m + to) (omega arith) (omega arith)
    (omega (arith, start_mono lines (suc n) m (omega arith))) in
    ap (λ (xs : List ℕ). lines_of (xs ++ rest)) split ∙ ap lines_of (append_assoc line (10 ∷ next) rest)
    ∙ lines_of-line_end line (next ++ rest) (line_in-HasNoLf lines n h)
    ∙ ap (λ (ls : List (List ℕ)). line ∷ ls) (lines_of-piece lines gap (suc n) m to rest h (omega arith) l i)
    ∙ ap (λ (ls : List (List ℕ)). take (suc gap) ls ++ lines_of (take to (line_in lines m) ++ rest))
    (sym (drop_line lines n (omega arith)))

-- the same from a column on, without the line of that place
drop-piece : (lines : List (List ℕ)) (n col m to : ℕ) (rest : List ℕ) → HaveNoLf lines → n < m → m < length lines
    → col ≤ length (line_in lines n) → to ≤ length (line_in lines m)
    → drop 1 (lines_of (piece lines n col (start lines m + to) ++ rest))
    ≡ take (m - suc n) (drop (suc n) lines) ++ lines_of (take to (line_in lines m) ++ rest)
drop-piece lines n col m to rest h l k i j =
    let line = drop col (line_in lines n) in
    let next = piece lines (suc n) 0 (start lines m + to) in
    let split = piece_line lines n col (start lines m + to) (omega arith) i
    (omega (arith, start_mono lines (suc n) m (omega arith))) in
    ap (λ (xs : List ℕ). drop 1 (lines_of (xs ++ rest))) split
    ∙ ap (λ (xs : List ℕ). drop 1 (lines_of xs)) (append_assoc line (10 ∷ next) rest)
    ∙ ap (drop 1) (lines_of-line_end line (next ++ rest)
    (HasNoLf-drop col (line_in lines n) (line_in-HasNoLf lines n h)))
    ∙ lines_of-piece lines (m - suc n) (suc n) m to rest h (omega arith) k j

drop-piece_part : (lines : List (List ℕ)) (n col to : ℕ) (rest : List ℕ) → HaveNoLf lines → n < length lines
    → col ≤ to → to ≤ length (line_in lines n)
    → drop 1 (lines_of (piece lines n col (start lines n + to) ++ rest))
    ≡ drop 1 (lines_of (take to (line_in lines n) ++ rest))
drop-piece_part lines n col to rest h l i j =
    let line = line_in lines n in
    let is_line = line_in-HasNoLf lines n h in
    ap (λ (xs : List ℕ). drop 1 (lines_of (xs ++ rest))) (piece_part lines n col to l i j)
    ∙ drop-line (take (to - col) (drop col line)) rest zero
    (HasNoLf-take (to - col) (drop col line) (HasNoLf-drop col line is_line))
    ∙ sym (drop-line (take to line) rest zero (HasNoLf-take to line is_line))

-- where a loop from span to span stands: the new lines that are still to come
abbrev pub IsBehind : List ℕ → Pos → List TextEdit → ℕ → List (List ℕ) → Type 0
IsBehind text at es old rest =
    ((old ≡ 0) × (at ≡ origin) × (rest ≡ lines_of (replaced text (offset (lines_of text) at) es)))
    ⊎ ((old ≡ suc at.line) × (rest ≡ drop 1 (lines_of (replaced text (offset (lines_of text) at) es))))

-- the lines from an edit's first line on
abbrev edit_lines : List ℕ → TextEdit → List TextEdit → List (List ℕ)
edit_lines text e es = lines_of (take e.span.from.col (line_in (lines_of text) e.span.from.line)
    ++ (norm e.text ++ replaced text (offset (lines_of text) e.span.to) es))

-- behind the lines of an edit
drop-edit_lines : (text : List ℕ) (e : TextEdit) (es : List TextEdit)
    → drop (line_count (norm e.text)) (edit_lines text e es)
    ≡ drop 1 (lines_of (replaced text (offset (lines_of text) e.span.to) es))
drop-edit_lines text e es =
    let lines = lines_of text in
    let line = line_in lines e.span.from.line in
    let front = take e.span.from.col line in
    let rest = replaced text (offset lines e.span.to) es in
    let is_line = HasNoLf-take e.span.from.col line (line_in-HasNoLf lines e.span.from.line (HaveNoLf-lines_of text)) in
    rw (← line_count-line front (norm e.text) is_line, ← append_assoc front (norm e.text) rest)
    (drop-front (front ++ norm e.text) rest)

-- the lines before the edit's first one, and those from there on
behind_cons : (text : List ℕ) (at : Pos) (e : TextEdit) (es : List TextEdit) (old : ℕ) (rest : List (List ℕ))
    → IsPlace (lines_of text) at → IsNext (lines_of text) at e → IsBehind text at (e ∷ es) old rest
    → old ≤ e.span.from.line
    → rest ≡ take (e.span.from.line - old) (drop old (lines_of text)) ++ edit_lines text e es
behind_cons text at e es old rest p v (inl b) l =
    let lines = lines_of text in
    let from = e.span.from in
    let left = norm e.text ++ replaced text (offset lines e.span.to) es in
    let all : from.line ≡ from.line - 0 = omega arith in
    rw (b.0) (b.2 ∙ ap (λ (a : Pos). lines_of (replaced text (offset lines a) (e ∷ es))) b.1
    ∙ ap (λ (xs : List ℕ). lines_of (take (offset lines from - 0) (drop 0 xs) ++ left)) (sym (joined-lines_of text))
    ∙ lines_of-piece lines from.line 0 from.line from.col left (HaveNoLf-lines_of text) (omega arith) v.from.line
    v.from.col
    ∙ ap (λ (n : ℕ). take n lines ++ edit_lines text e es) all)
behind_cons text at e es old rest p v (inr b) l =
    let lines = lines_of text in
    let from = e.span.from in
    let left = norm e.text ++ replaced text (offset lines e.span.to) es in
    rw (b.0) (b.1
    ∙ ap (λ (xs : List ℕ). drop 1 (lines_of (take (offset lines from - offset lines at) (drop (offset lines at) xs)
    ++ left))) (sym (joined-lines_of text))
    ∙ drop-piece lines at.line at.col from.line from.col left (HaveNoLf-lines_of text) (omega (arith, b.0))
    v.from.line p.col v.from.col)

-- an edit on the line where the one before it ends
behind_same : (text : List ℕ) (at : Pos) (e : TextEdit) (es : List TextEdit) (old : ℕ) (rest : List (List ℕ))
    → IsPlace (lines_of text) at → IsNext (lines_of text) at e → IsBehind text at (e ∷ es) old rest
    → e.span.from.line < old
    → rest ≡ drop 1 (edit_lines text e es)
behind_same text at e es old rest p v (inl b) l = absurd (omega (arith, b.0))
behind_same text at e es old rest p v (inr b) l =
    let lines = lines_of text in
    let from = e.span.from in
    let left = norm e.text ++ replaced text (offset lines e.span.to) es in
    let same : at.line ≡ from.line = omega (arith, b.0, IsFrom-lines at from v.behind) in
    b.1 ∙ ap (λ (xs : List ℕ). drop 1 (lines_of
    (take (offset lines from - offset lines at) (drop (offset lines at) xs) ++ left))) (sym (joined-lines_of text))
    ∙ ap (λ (n : ℕ). drop 1 (lines_of (piece lines n at.col (offset lines from) ++ left))) same
    ∙ drop-piece_part lines from.line at.col from.col left (HaveNoLf-lines_of text) v.from.line
    (IsFrom-cols at from v.behind (omega arith)) v.from.col

length-edit_lines : (text : List ℕ) (e : TextEdit) (es : List TextEdit)
    → line_count (norm e.text) ≤ length (edit_lines text e es)
length-edit_lines text e es =
    let lines = lines_of text in
    let line = line_in lines e.span.from.line in
    let front = take e.span.from.col line in
    let rest = replaced text (offset lines e.span.to) es in
    let is_line = HasNoLf-take e.span.from.col line (line_in-HasNoLf lines e.span.from.line (HaveNoLf-lines_of text)) in
    omega (
      arith,
      line_count-line front (norm e.text ++ rest) is_line,
      line_count-append (norm e.text) rest,
      line_count-pos rest,
    )

-- the new lines behind an edit
record IsNextBehind (text : List ℕ) (new : List (List ℕ)) (e : TextEdit) (es : List TextEdit) (old number : ℕ) : Type
    0 where
  rest : drop (number + e.span.from.line - old + line_count (norm e.text)) new
      ≡ drop 1 (lines_of (replaced text (offset (lines_of text) e.span.to) es))
  within : number + e.span.from.line - old + line_count (norm e.text) ≤ length new
  before : number + (e.span.from.line - old) ≤ length new

next_later : (text : List ℕ) (new : List (List ℕ)) (e : TextEdit) (es : List TextEdit) (old number : ℕ)
    → e.span.from.line < length (lines_of text)
    → drop number new ≡ take (e.span.from.line - old) (drop old (lines_of text)) ++ edit_lines text e es
    → old ≤ e.span.from.line → IsNextBehind text new e es old number
next_later text new e es old number p d l =
    let k = e.span.from.line - old in
    let count = line_count (norm e.text) in
    let front = take k (drop old (lines_of text)) in
    let own = edit_lines text e es in
    let front_length : length front ≡ k = length-take-le k (drop old (lines_of text))
    (omega (arith, length-drop old (lines_of text))) in
    let e1 : number + e.span.from.line - old + count ≡ number + (k + count) = omega arith in
    let sizes = ap (length {A = List ℕ}) d in
    record {
      rest = ap (λ (m : ℕ). drop m new) e1 ∙ sym (drop-drop (k + count) number new) ∙ ap (drop (k + count)) d
          ∙ sym (drop-drop count k (front ++ own)) ∙ ap (drop count) (drop_at front own k front_length)
          ∙ drop-edit_lines text e es;
      within = omega (
        arith,
        sizes,
        length-drop number new,
        length-append front own,
        front_length,
        length-edit_lines
            text e es,
        line_count-pos (norm e.text),
      );
      before = omega (
        arith,
        sizes,
        length-drop number new,
        length-append front own,
        front_length,
        length-edit_lines
            text e es,
        line_count-pos (norm e.text),
      );
    }

next_same : (text : List ℕ) (new : List (List ℕ)) (e : TextEdit) (es : List TextEdit) (old number : ℕ)
    → number ≤ length new → 0 < number
    → drop number new ≡ drop 1 (edit_lines text e es) → old ≡ e.span.from.line + 1
    → IsNextBehind text new e es old number
next_same text new e es old number p s d l =
    let count = line_count (norm e.text) in
    let own = edit_lines text e es in
    let some = line_count-pos (norm e.text) in
    let e1 : number + e.span.from.line - old + count ≡ number + (count - 1) = omega arith in
    let e2 : 1 + (count - 1) ≡ count = omega arith in
    let sizes = ap (length {A = List ℕ}) d in
    record {
      rest = ap (λ (m : ℕ). drop m new) e1 ∙ sym (drop-drop (count - 1) number new) ∙ ap (drop (count - 1)) d
          ∙ drop-drop (count - 1) 1 own ∙ ap (λ (m : ℕ). drop m own) e2 ∙ drop-edit_lines text e es;
      within = omega (arith, sizes, length-drop number new, length-drop 1 own, length-edit_lines text e es);
      before = omega arith;
    }

-- the lines behind the last edit are those of the text before
behind_last : (text : List ℕ) (at : Pos) (old : ℕ) (rest : List (List ℕ)) → IsPlace (lines_of text) at
    → IsBehind text at [] old rest → rest ≡ drop old (lines_of text)
behind_last text at old rest p (inl b) =
    rw (b.0) (b.2 ∙ ap (λ (a : Pos). lines_of (drop (offset (lines_of text) a) text)) b.1)
behind_last text at old rest p (inr b) =
    let lines = lines_of text in
    rw (b.0) (b.1 ∙ ap (λ (xs : List ℕ). drop 1 (lines_of (drop (offset lines at) xs))) (sym (joined-lines_of text))
    ∙ ap (drop 1) (lines_of-drop_place lines at.line at.col (HaveNoLf-lines_of text) p.line p.col))

-- before a run: both lists have a line there, or neither has
abbrev BothOrStart : ℕ → ℕ → ℕ → ℕ → Type 0
BothOrStart i old j new = ((i < old) × (j < new)) ⊎ ((i ≡ old) × (j ≡ new))

IsGap-from : (i old j new : ℕ) → BothOrStart i old j new → IsGap i old j new
IsGap-from i old j new (inl b) = record {
  old_rises = omega (arith, b.0);
  new_rises = omega (arith, b.1);
  both_or_neither = (λ l. b.1, λ l. b.0);
}
IsGap-from i old j new (inr b) = record {
  old_rises = omega (arith, b.0);
  new_rises = omega (arith, b.1);
  both_or_neither = (λ l. absurd (omega (arith, b.0)), λ l. absurd (omega (arith, b.1)));
}

-- a run of lines that both lists have, in front of more runs
leads_run : (lines new : List (List ℕ)) (i j old end number : ℕ) (own : List (List ℕ)) (runs : List Run)
    → BothOrStart i old j number → old < end → end ≤ length lines → number + (end - old) ≤ length new
    → drop number new ≡ take (end - old) (drop old lines) ++ own → LeadsOn lines new end (number + (end - old)) runs
    → LeadsOn lines new i j (run_between old end number ++ runs)
leads_run lines new i j old end number own runs b l p q d h =
    let k = end - old in
    let len : length (take k (drop old lines)) ≡ k =
    length-take-le k (drop old lines) (omega (arith, length-drop old lines)) in
    let same : take k (drop number new) ≡ take k (drop old lines) =
    ap (take k) d ∙ take_at (take k (drop old lines)) own k len in
    let end_is : old + k ≡ end = omega arith in
    rw (lt-ltb old end l) (
      IsGap-from i old j number b,
      record
          { some = omega arith; in_old = omega arith; in_new = q; same = sym same },
      subst
          (λ (m : ℕ). LeadsOn lines new m (number + k) runs) (sym end_is) h,
    )

no_run : (lines new : List (List ℕ)) (i j old end number : ℕ) (runs : List Run) → end ≤ old
    → LeadsOn lines new i j runs → LeadsOn lines new i j (run_between old end number ++ runs)
no_run lines new i j old end number runs l h = rw (le-ltb old end l) h

-- what is left when the last run is found
leads_last : (lines new : List (List ℕ)) (i j old number : ℕ) → drop number new ≡ drop old lines → number ≤ length new
    → old ≤ length lines → BothOrStart i old j number → LeadsOn lines new i j (run_between old (length lines) number)
leads_last lines new i j old number d w l g =
    let count = length lines in
    let sizes = ap (length {A = List ℕ}) d in
    let same = run_between old count number in
    subst (λ (runs : List Run). LeadsOn lines new i j runs) (append-nil same)
    (elim (cases_lt old count) [
      | inl m ↦ let last : BothOrStart count count (number + (count - old)) (length new) =
          inr (refl, omega (arith, sizes, length-drop number new, length-drop old lines)) in
          leads_run lines new i j old count number [] [] g m (omega arith)
          (omega (arith, sizes, length-drop number new, length-drop old lines))
          (d ∙ sym (append-nil (take (count - old) (drop old lines)) ∙ take_rest lines old))
          (IsGap-from count count (number + (count - old)) (length new) last)
      | inr m ↦ let old_is : old ≡ count = omega arith in
          let number_is : number ≡ length new = omega (arith, sizes, length-drop number new, length-drop old lines) in
          no_run lines new i j old count number [] m (rw (← old_is, ← number_is) (IsGap-from i old j number g))
    ])

both_later : (i old j number old' number' : ℕ) → BothOrStart i old j number → old < old' → number < number'
    → BothOrStart i old' j number'
both_later i old j number old' number' (inl g) l m = inl (omega (arith, g.0), omega (arith, g.1))
both_later i old j number old' number' (inr g) l m = inl (omega (arith, g.0), omega (arith, g.1))

both_same : (i old j number old' number' : ℕ) → BothOrStart i old j number → (i ≡ old → old ≡ 0) → 0 < old
    → old ≤ old' → number ≤ number' → BothOrStart i old' j number'
both_same i old j number old' number' (inl g) z p l m = inl (omega (arith, g.0), omega (arith, g.1))
both_same i old j number old' number' (inr g) z p l m = absurd (omega (arith, z g.0))

both_below : (i old j number : ℕ) → BothOrStart i old j number → i ≤ old
both_below i old j number (inl g) = omega (arith, g.0)
both_below i old j number (inr g) = omega (arith, g.0)

leads_on : (text : List ℕ) (new : List (List ℕ)) (at : Pos) (es : List TextEdit) (i j old number : ℕ)
    → IsPlace (lines_of text) at → AreValid (lines_of text) at es → IsBehind text at es old (drop number new)
    → number ≤ length new → old ≤ at.line + 1 → (0 < old → 0 < number) → BothOrStart i old j number
    → (i ≡ old → old ≡ 0) → LeadsOn (lines_of text) new i j (gaps (line_count text) old number es)
leads_on text new at [] i j old number p v b w l s g z =
    leads_last (lines_of text) new i j old number (behind_last text at old (drop number new) p b) w
    (omega (arith, p.line)) g
leads_on text new at (e ∷ es) i j old number p v b w l s g z =
    let lines = lines_of text in
    let from = e.span.from.line in
    let to = e.span.to.line in
    let rises = IsFrom-lines at e.span.from v.0.behind in
    let forward = IsFrom-lines e.span.from e.span.to v.0.forward in
    let count = line_count (norm e.text) in
    let some = line_count-pos (norm e.text) in
    let number' = number + from - old + count in
    let runs = gaps (line_count text) (to + 1) number' es in
    let low = both_below i old j number g in
    elim (cases_lt from old) [
      | inl m ↦
          let old_is : old ≡ from + 1 = omega arith in
          let next = next_same text new e es old number w (s (omega arith))
          (behind_same text at e es old (drop number new) p v.0 b m) old_is in
          let later : number ≤ number' = omega arith in
          no_run lines new i j old from number runs (omega arith)
          (leads_on text new e.span.to es i j (to + 1) number' v.0.to v.1 (inr (omega arith, next.rest)) next.within
          (omega arith) (λ x. omega arith)
          (both_same i old j number (to + 1) number' g z (omega arith) (omega arith) later)
          (λ x. absurd (omega (arith, z (omega arith)))))
      | inr m ↦
          let d = behind_cons text at e es old (drop number new) p v.0 b m in
          let next = next_later text new e es old number v.0.from.line d m in
          elim (cases_lt old from) [
            | inl n ↦
                let after : BothOrStart from (to + 1) (number + (from - old)) number' =
                inl (omega arith, omega arith) in
                leads_run lines new i j old from number (edit_lines text e es) runs g n (omega (arith, v.0.from.line))
                next.before d
                (leads_on text new e.span.to es from (number + (from - old)) (to + 1) number' v.0.to v.1
                (inr (omega arith, next.rest)) next.within (omega arith) (λ x. omega arith) after
                (λ x. absurd (omega arith)))
            | inr n ↦
                no_run lines new i j old from number runs n
                (leads_on text new e.span.to es i j (to + 1) number' v.0.to v.1 (inr (omega arith, next.rest))
                next.within (omega arith) (λ x. omega arith)
                (both_later i old j number (to + 1) number' g (omega arith) (omega arith)) (λ x. absurd (omega arith)))
          ]
    ]

-- the runs that a batch carries lead from the old lines to the new ones
pub LeadsFrom-carried : (text : List ℕ) (es : List TextEdit) → edit_fault text None 0 es ≡ None
    → LeadsFrom (lines_of text) (lines_of (edited text es)) (carried text es)
LeadsFrom-carried text es h =
    let new = lines_of (edited text es) in
    subst (λ (runs : List Run). LeadsOn (lines_of text) new 0 0 runs) (gaps-carried text es h)
    (leads_on text new origin es 0 0 0 0 (IsPlace-origin text) (AreValid-origin text 0 es h) (inl (refl, refl, refl))
    (omega arith) (omega arith) (λ l. l) (inr (refl, refl)) (λ x. refl))
