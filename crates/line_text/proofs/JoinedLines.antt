-- The lines of joined lines are those lines again.
use Rattle.std.proofs.Common.{◌≡◌, ℕ, zero, suc, ◌<◌, ◌≤◌, List, [], ◌∷◌, ◌++◌, length, get_or, take, drop, refl, ap}
use Rattle.std.proofs.Common.{sym, ◌∙◌, arith, ◌+◌, ◌-◌}
use Rattle.std.proofs.lemmas.Bool.{ne_eqb}
use Rattle.std.proofs.lemmas.List.{length-append, length-drop, append-nil, append_assoc, take_all, take_more}
use Rattle.std.proofs.lemmas.List.{get_or-drop}
use Rattle.text_defs.specs.Text.{lines_of, line_in, onto_first}
use Rattle.line_text.specs.Lines.{HasNoLf, joined, behind_lf, ended, HaveNoLf}

-- the characters in front of the first of the lines
abbrev pub all_onto : List ℕ → List (List ℕ) → List (List ℕ)
all_onto [] lines = lines
all_onto (c ∷ cs) lines = onto_first c (all_onto cs lines)

pub lines_of-append : (line rest : List ℕ) → HasNoLf line → lines_of (line ++ rest) ≡ all_onto line (lines_of rest)
lines_of-append [] rest h = refl
lines_of-append (c ∷ cs) rest h = rw (ne_eqb c 10 h.0) (ap (onto_first c) (lines_of-append cs rest h.1))

pub all_onto-cons : (line first : List ℕ) (lines : List (List ℕ)) → all_onto line (first ∷ lines)
    ≡ (line ++ first) ∷ lines
all_onto-cons [] first lines = refl
all_onto-cons (c ∷ cs) first lines = ap (onto_first c) (all_onto-cons cs first lines)

pub lines_of-behind : (lines : List (List ℕ)) → HaveNoLf lines → lines_of (behind_lf lines) ≡ [] ∷ lines
lines_of-behind [] h = refl
lines_of-behind (line ∷ lines) h = ap (λ (ls : List (List ℕ)). [] ∷ ls)
    (lines_of-append line (behind_lf lines) h.0 ∙ ap (all_onto line) (lines_of-behind lines h.1)
    ∙ all_onto-cons line [] lines ∙ ap (λ (l : List ℕ). l ∷ lines) (append-nil line))

pub lines_of-joined : (lines : List (List ℕ)) → 0 < length lines → HaveNoLf lines → lines_of (joined lines) ≡ lines
lines_of-joined [] some h = absurd (omega arith)
lines_of-joined (line ∷ lines) some h = lines_of-append line (behind_lf lines) h.0
    ∙ ap (all_onto line) (lines_of-behind lines h.1) ∙ all_onto-cons line [] lines
    ∙ ap (λ (l : List ℕ). l ∷ lines) (append-nil line)

pub line_in-get_or : (lines : List (List ℕ)) (n : ℕ) (d : List ℕ) → n < length lines → get_or lines n d
    ≡ line_in lines n
line_in-get_or [] n d h = absurd (omega arith)
line_in-get_or (line ∷ lines) zero d h = refl
line_in-get_or (line ∷ lines) (suc n) d h = line_in-get_or lines n d (omega arith)

pub line_in-HasNoLf : (lines : List (List ℕ)) (n : ℕ) → HaveNoLf lines → HasNoLf (line_in lines n)
line_in-HasNoLf [] n h = tt
line_in-HasNoLf (line ∷ lines) zero h = h.0
line_in-HasNoLf (line ∷ lines) (suc n) h = line_in-HasNoLf lines n h.1

pub length-line_in-behind : (lines : List (List ℕ)) (n : ℕ) → length (line_in lines n) ≤ length (behind_lf lines)
length-line_in-behind [] n = omega arith
length-line_in-behind (line ∷ lines) zero = omega (arith, length-append line (behind_lf lines))
length-line_in-behind (line ∷ lines) (suc n) =
    omega (arith, length-append line (behind_lf lines), length-line_in-behind lines n)

pub length-line_in : (lines : List (List ℕ)) (n : ℕ) → length (line_in lines n) ≤ length (joined lines)
length-line_in [] n = omega arith
length-line_in (line ∷ lines) zero = omega (arith, length-append line (behind_lf lines))
length-line_in (line ∷ lines) (suc n) = omega
    (arith, length-append line (behind_lf lines), length-line_in-behind lines n)

-- one line more, and its end
pub ended-push : (lines : List (List ℕ)) (line : List ℕ) → ended (lines ++ line ∷ []) ≡ (ended lines ++ line) ++ 10 ∷ []
ended-push [] line = refl
ended-push (first ∷ lines) line = ap (λ (cs : List ℕ). first ++ 10 ∷ cs) (ended-push lines line)
    ∙ grind (arith, append_assoc)

-- two runs of lines
pub ended-append : (xs ys : List (List ℕ)) → ended (xs ++ ys) ≡ ended xs ++ ended ys
ended-append [] ys = refl
ended-append (line ∷ xs) ys =
    ap (λ (cs : List ℕ). line ++ 10 ∷ cs) (ended-append xs ys) ∙ sym (append_assoc line (10 ∷ ended xs) (ended ys))

behind_lf-push : (lines : List (List ℕ)) (line : List ℕ) → behind_lf (lines ++ line ∷ []) ≡ 10 ∷ (ended lines ++ line)
behind_lf-push [] line = ap (λ (cs : List ℕ). 10 ∷ cs) (append-nil line)
behind_lf-push (first ∷ lines) line = rw (behind_lf-push lines line)
    (ap (λ (cs : List ℕ). 10 ∷ cs) (sym (append_assoc first (10 ∷ ended lines) line)))

-- the last line has no end
pub joined-push : (lines : List (List ℕ)) (line : List ℕ) → joined (lines ++ line ∷ []) ≡ ended lines ++ line
joined-push [] line = append-nil line
joined-push (first ∷ lines) line = rw (behind_lf-push lines line) (sym (append_assoc first (10 ∷ ended lines) line))

pub HasNoLf-drop : (n : ℕ) (line : List ℕ) → HasNoLf line → HasNoLf (drop n line)
HasNoLf-drop zero line h = h
HasNoLf-drop (suc n) [] h = tt
HasNoLf-drop (suc n) (c ∷ cs) h = HasNoLf-drop n cs h.1

pub HasNoLf-take : (n : ℕ) (line : List ℕ) → HasNoLf line → HasNoLf (take n line)
HasNoLf-take zero line h = tt
HasNoLf-take (suc n) [] h = tt
HasNoLf-take (suc n) (c ∷ cs) h = (h.0, HasNoLf-take n cs h.1)

-- a run of whole lines was added behind an LF, where `rest` is what stands behind the last LF
pub run_added : (done all run : List (List ℕ)) (rest old : List ℕ) → all ≡ done ++ run → rest ≡ []
    → ended done ++ rest ≡ old
    → ended all ++ rest ≡ old ++ ended run
run_added done all run rest old is none was =
    let before : old ≡ ended done = sym was ∙ ap (λ (cs : List ℕ). ended done ++ cs) none ∙ append-nil (ended done) in
    ap (λ (cs : List ℕ). ended all ++ cs) none ∙ append-nil (ended all) ∙ ap ended is ∙ ended-append done run
    ∙ ap (λ (cs : List ℕ). cs ++ ended run) (sym before)

-- one whole line was added, and its end
pub line_added : (lines : List (List ℕ)) (from n len : ℕ) (line old before part after : List ℕ)
    → from + n < length lines
    → line ≡ get_or lines (from + n) line → len ≡ length line → before ≡ old ++ ended (take n (drop from lines))
    → part ≡ before ++ take (len - 0) (drop 0 line) → after ≡ part ++ 10 ∷ []
    → after ≡ old ++ ended (take (n + 1) (drop from lines))
line_added lines from n len line old before part after there is counted was copied ends =
    let front = take n (drop from lines) in
    let whole : take (len - 0) line ≡ line = take_all (len - 0) line (omega arith) in
    let inside : n < length (drop from lines) = omega (arith, length-drop from lines) in
    let next : get_or (drop from lines) n line ≡ line = get_or-drop from lines n line ∙ sym is in
    let more : take (n + 1) (drop from lines) ≡ front ++ line ∷ [] =
    take_more (drop from lines) n line inside ∙ ap (λ (x : List ℕ). front ++ x ∷ []) next in
    let sum : ended (take (n + 1) (drop from lines)) ≡ (ended front ++ line) ++ 10 ∷ [] =
    ap ended more ∙ ended-push front line in
    let left : part ≡ (old ++ ended front) ++ line =
    copied ∙ ap (λ (cs : List ℕ). before ++ cs) whole ∙ ap (λ (cs : List ℕ). cs ++ line) was in
    ends ∙ ap (λ (cs : List ℕ). cs ++ 10 ∷ []) (left ∙ append_assoc old (ended front) line)
    ∙ append_assoc old (ended front ++ line) (10 ∷ []) ∙ ap (λ (cs : List ℕ). old ++ cs) (sym sum)
