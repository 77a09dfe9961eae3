-- Lines that are kept hold neither LF nor CR, and parts of them don't.
use Rattle.std.proofs.Common.{◌≢◌, ℕ, zero, suc, List, [], ◌∷◌, ◌++◌, All, take, drop, Bool, true, false, cond, arith}
use Rattle.text_defs.specs.Text.{line_in}
use Rattle.line_text.specs.Lines.{HasNoLf, HaveNoLf, IsPlain, ArePlain}

pub IsPlain-line : (line : List ℕ) → IsPlain line → HasNoLf line
IsPlain-line [] h = tt
IsPlain-line (c ∷ cs) h = (h.0, IsPlain-line cs h.2)

pub ArePlain-lines : (lines : List (List ℕ)) → ArePlain lines → HaveNoLf lines
ArePlain-lines [] h = tt
ArePlain-lines (line ∷ lines) h = (IsPlain-line line h.0, ArePlain-lines lines h.1)

pub no_lf : (line : List ℕ) → IsPlain line → All (λ c. c ≢ 10) line
no_lf [] h k d l = absurd (omega arith)
no_lf (c ∷ cs) h zero d l = h.0
no_lf (c ∷ cs) h (suc k) d l = no_lf cs h.2 k d (omega arith)

pub no_cr : (line : List ℕ) → IsPlain line → All (λ c. c ≢ 13) line
no_cr [] h k d l = absurd (omega arith)
no_cr (c ∷ cs) h zero d l = h.1
no_cr (c ∷ cs) h (suc k) d l = no_cr cs h.2 k d (omega arith)

pub line_in-IsPlain : (lines : List (List ℕ)) (n : ℕ) → ArePlain lines → IsPlain (line_in lines n)
line_in-IsPlain [] n h = tt
line_in-IsPlain (line ∷ lines) zero h = h.0
line_in-IsPlain (line ∷ lines) (suc n) h = line_in-IsPlain lines n h.1

pub ArePlain-push : (lines : List (List ℕ)) (line : List ℕ) → ArePlain lines → IsPlain line
    → ArePlain (lines ++ line ∷ [])
ArePlain-push [] line h i = (i, tt)
ArePlain-push (first ∷ lines) line h i = (h.0, ArePlain-push lines line h.1 i)

pub IsPlain-append : (xs ys : List ℕ) → IsPlain xs → IsPlain ys → IsPlain (xs ++ ys)
IsPlain-append [] ys h i = i
IsPlain-append (x ∷ xs) ys h i = (h.0, h.1, IsPlain-append xs ys h.2 i)

pub IsPlain-drop : (n : ℕ) (line : List ℕ) → IsPlain line → IsPlain (drop n line)
IsPlain-drop zero line h = h
IsPlain-drop (suc n) [] h = tt
IsPlain-drop (suc n) (c ∷ cs) h = IsPlain-drop n cs h.2

pub IsPlain-take : (n : ℕ) (line : List ℕ) → IsPlain line → IsPlain (take n line)
IsPlain-take zero line h = tt
IsPlain-take (suc n) [] h = tt
IsPlain-take (suc n) (c ∷ cs) h = (h.0, h.1, IsPlain-take n cs h.2)

-- what a call that may have failed leaves
pub IsPlain-cond : (b : Bool) (xs ys : List ℕ) → IsPlain xs → IsPlain ys → IsPlain (cond b (xs ++ ys) xs)
IsPlain-cond true xs ys h i = IsPlain-append xs ys h i
IsPlain-cond false xs ys h i = h

pub ArePlain-append : (xs ys : List (List ℕ)) → ArePlain xs → ArePlain ys → ArePlain (xs ++ ys)
ArePlain-append [] ys h i = i
ArePlain-append (line ∷ xs) ys h i = (h.0, ArePlain-append xs ys h.1 i)

pub ArePlain-drop : (n : ℕ) (lines : List (List ℕ)) → ArePlain lines → ArePlain (drop n lines)
ArePlain-drop zero lines h = h
ArePlain-drop (suc n) [] h = tt
ArePlain-drop (suc n) (line ∷ lines) h = ArePlain-drop n lines h.1

pub ArePlain-take : (n : ℕ) (lines : List (List ℕ)) → ArePlain lines → ArePlain (take n lines)
ArePlain-take zero lines h = tt
ArePlain-take (suc n) [] h = tt
ArePlain-take (suc n) (line ∷ lines) h = (h.0, ArePlain-take n lines h.1)
