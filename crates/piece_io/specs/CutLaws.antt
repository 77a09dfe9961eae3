-- Laws of lines and of what is handed out for them, for those who take a text piece by piece.
use Rattle.std.specs.Prelude.{◌≡◌, ℕ, ◌==◌, List, [], ◌∷◌, ◌++◌, length, map, Bool, true, false, refl, if◌then◌else◌, nat_lt, None, MatchOption}
use Rattle.std.proofs.Common.{sym, ◌∙◌, ap}
use Rattle.std.proofs.lemmas.List.{append-nil, map-append}
use Rattle.text_defs.specs.Text.{lines_of, onto_first, before_lines, all_but_last, last_line, whole_lines, unfinished, most_line_bytes}
use Rattle.piece_io.specs.Cuts.{Cutting, cut_of, cuts_of, whole_cuts, all_cuts, cut_if_any, last_cut, first_cut, next_cut, last_to_come, to_come_of, to_come}
use Rattle.piece_io.specs.declared.line_cutter.Cut.{Cut}
use Rattle.piece_io.specs.declared.line_cutter.Cut.TheVariants.{Line, TooLong}

-- the lines of two texts, one behind the other: the last of the first goes on as the first of the second
abbrev pub joined : List (List ℕ) → List (List ℕ) → List (List ℕ)
joined [] later = later
joined (line ∷ []) [] = line ∷ []
joined (line ∷ []) (more ∷ later) = (line ++ more) ∷ later
joined (line ∷ next ∷ rest) later = line ∷ joined (next ∷ rest) later

-- there is a line
abbrev pub HasLine : List (List ℕ) → Type 0
HasLine [] = ⊥
HasLine (line ∷ rest) = Unit {0}

onto_first-has : (c : ℕ) (lines : List (List ℕ)) → HasLine (onto_first c lines)
onto_first-has c [] = tt
onto_first-has c (line ∷ rest) = tt

before-has : (b : Bool) (c : ℕ) (lines : List (List ℕ)) → HasLine (if b then [] ∷ lines else onto_first c lines)
before-has true c lines = tt
before-has false c lines = onto_first-has c lines

pub lines_of-has : (bytes : List ℕ) → HasLine (lines_of bytes)
lines_of-has [] = tt
lines_of-has (c ∷ cs) = before-has (c == 10) c (lines_of cs)

joined-before : (b : Bool) (c : ℕ) (lines later : List (List ℕ)) → HasLine lines → HasLine later
    → joined (if b then [] ∷ lines else onto_first c lines) later ≡ (if b then [] ∷ joined lines later else onto_first c (joined lines later))
joined-before b c [] later h h' = absurd h
joined-before true c (line ∷ rest) later h h' = refl
joined-before false c (line ∷ []) [] h h' = absurd h'
joined-before false c (line ∷ []) (more ∷ later) h h' = refl
joined-before false c (line ∷ next ∷ rest) later h h' = refl

joined-empty : (later : List (List ℕ)) → HasLine later → later ≡ joined ([] ∷ []) later
joined-empty [] h = absurd h
joined-empty (line ∷ rest) h = refl

-- the lines of two texts, one behind the other
pub lines_of-append : (xs ys : List ℕ) → lines_of (xs ++ ys) ≡ joined (lines_of xs) (lines_of ys)
lines_of-append [] ys = joined-empty (lines_of ys) (lines_of-has ys)
lines_of-append (c ∷ cs) ys =
    ap (before_lines c) (lines_of-append cs ys) ∙ sym (joined-before (c == 10) c (lines_of cs) (lines_of ys) (lines_of-has cs) (lines_of-has ys))

-- a text whose lines are one: it has no LF
abbrev pub IsLine : List ℕ → Type 0
IsLine line = lines_of line ≡ line ∷ []

-- the last line has no LF
onto_first-last : (c : ℕ) (lines : List (List ℕ)) → HasLine lines → (c == 10) ≡ false → IsLine (last_line lines)
    → IsLine (last_line (onto_first c lines))
onto_first-last c [] h other l = absurd h
onto_first-last c (line ∷ []) h other l = ap (λ b. if b then [] ∷ lines_of line else onto_first c (lines_of line)) other ∙ ap (onto_first c) l
onto_first-last c (line ∷ next ∷ rest) h other l = l

before-last : (b : Bool) (c : ℕ) (lines : List (List ℕ)) → HasLine lines → (c == 10) ≡ b → IsLine (last_line lines)
    → IsLine (last_line (if b then [] ∷ lines else onto_first c lines))
before-last b c [] h is l = absurd h
before-last true c (line ∷ rest) h is l = l
before-last false c (line ∷ rest) h is l = onto_first-last c (line ∷ rest) h is l

pub unfinished-line : (xs : List ℕ) → IsLine (unfinished xs)
unfinished-line [] = refl
unfinished-line (c ∷ cs) = before-last (c == 10) c (lines_of cs) (lines_of-has cs) refl (unfinished-line cs)

-- the lines are those that an LF ends, and the unfinished one
split-last : (lines : List (List ℕ)) → HasLine lines → lines ≡ all_but_last lines ++ last_line lines ∷ []
split-last [] h = absurd h
split-last (line ∷ []) h = refl
split-last (line ∷ next ∷ rest) h = ap (λ lines. line ∷ lines) (split-last (next ∷ rest) tt)

pub lines_of-split : (xs : List ℕ) → lines_of xs ≡ whole_lines xs ++ unfinished xs ∷ []
lines_of-split xs = split-last (lines_of xs) (lines_of-has xs)

-- what follows goes on in the unfinished line
joined-split : (lines later : List (List ℕ)) → HasLine lines → joined lines later ≡ all_but_last lines ++ joined (last_line lines ∷ []) later
joined-split [] later h = absurd h
joined-split (line ∷ []) later h = refl
joined-split (line ∷ next ∷ rest) later h = ap (λ lines. line ∷ lines) (joined-split (next ∷ rest) later tt)

pub lines_of-more : (xs ys : List ℕ) → lines_of (xs ++ ys) ≡ whole_lines xs ++ lines_of (unfinished xs ++ ys)
lines_of-more xs ys =
    lines_of-append xs ys ∙ joined-split (lines_of xs) (lines_of ys) (lines_of-has xs)
    ∙ ap (λ lines. whole_lines xs ++ joined lines (lines_of ys)) (sym (unfinished-line xs))
    ∙ ap (λ lines. whole_lines xs ++ lines) (sym (lines_of-append (unfinished xs) ys))

all_but_last-append : (front lines : List (List ℕ)) → HasLine lines → all_but_last (front ++ lines) ≡ front ++ all_but_last lines
all_but_last-append [] lines h = refl
all_but_last-append (line ∷ []) [] h = absurd h
all_but_last-append (line ∷ []) (more ∷ later) h = refl
all_but_last-append (line ∷ next ∷ rest) lines h = ap (λ lines. line ∷ lines) (all_but_last-append (next ∷ rest) lines h)

last_line-append : (front lines : List (List ℕ)) → HasLine lines → last_line (front ++ lines) ≡ last_line lines
last_line-append [] lines h = refl
last_line-append (line ∷ []) [] h = absurd h
last_line-append (line ∷ []) (more ∷ later) h = refl
last_line-append (line ∷ next ∷ rest) lines h = last_line-append (next ∷ rest) lines h

pub whole_lines-append : (xs ys : List ℕ) → whole_lines (xs ++ ys) ≡ whole_lines xs ++ whole_lines (unfinished xs ++ ys)
whole_lines-append xs ys =
    ap all_but_last (lines_of-more xs ys) ∙ all_but_last-append (whole_lines xs) (lines_of (unfinished xs ++ ys)) (lines_of-has (unfinished xs ++ ys))

pub unfinished-append : (xs ys : List ℕ) → unfinished (xs ++ ys) ≡ unfinished (unfinished xs ++ ys)
unfinished-append xs ys =
    ap last_line (lines_of-more xs ys) ∙ last_line-append (whole_lines xs) (lines_of (unfinished xs ++ ys)) (lines_of-has (unfinished xs ++ ys))

-- there is a line that is not handed out, the unfinished one
abbrev pub HasCut : List Cut → Type 0
HasCut [] = ⊥
HasCut (cut ∷ rest) = Unit {0}

pub cuts_of-split : (bytes : List ℕ) → cuts_of bytes ≡ whole_cuts bytes ++ cut_of (unfinished bytes) ∷ []
cuts_of-split bytes = ap (map cut_of) (lines_of-split bytes) ∙ map-append cut_of (whole_lines bytes) (unfinished bytes ∷ [])

to_come-append : (front cuts : List Cut) (ended : Bool) → HasCut cuts → to_come_of (front ++ cuts) ended ≡ front ++ to_come_of cuts ended
to_come-append [] cuts ended h = refl
to_come-append (cut ∷ []) [] ended h = absurd h
to_come-append (cut ∷ []) (next ∷ later) ended h = refl
to_come-append (cut ∷ next ∷ rest) cuts ended h = ap (λ cuts. cut ∷ cuts) (to_come-append (next ∷ rest) cuts ended h)

-- the unfinished line is not handed out while more may come
last_cut-open : (cut : Cut) → last_cut cut false ≡ None
last_cut-open TooLong = refl
last_cut-open (Line []) = refl
last_cut-open (Line (b ∷ bytes)) = refl

-- once nothing more comes it is, if it has a byte
last_cut-by : (b : Bool) (byte : ℕ) (bytes : List ℕ)
    → last_to_come (last_cut (if b then TooLong else Line (byte ∷ bytes)) true) ≡ (if b then TooLong else Line (byte ∷ bytes)) ∷ []
last_cut-by true byte bytes = refl
last_cut-by false byte bytes = refl

last_cut-ended : (line : List ℕ) → last_to_come (last_cut (cut_of line) true) ≡ cut_if_any line
last_cut-ended [] = refl
last_cut-ended (byte ∷ bytes) = last_cut-by (nat_lt most_line_bytes (length (byte ∷ bytes))) byte bytes

-- what was handed out, and what is to come, while more may come
pub to_come-open : (handed_out cuts : List Cut) (bytes : List ℕ) → HasCut cuts → handed_out ++ cuts ≡ cuts_of bytes
    → handed_out ++ to_come_of cuts false ≡ whole_cuts bytes
to_come-open handed_out cuts bytes h is =
    sym (to_come-append handed_out cuts false h) ∙ ap (λ cuts. to_come_of cuts false) (is ∙ cuts_of-split bytes)
    ∙ to_come-append (whole_cuts bytes) (cut_of (unfinished bytes) ∷ []) false tt
    ∙ ap (λ last. whole_cuts bytes ++ last_to_come last) (last_cut-open (cut_of (unfinished bytes)))
    ∙ append-nil (whole_cuts bytes)

-- what was handed out, and what is to come, once nothing more comes
pub to_come-ended : (handed_out cuts : List Cut) (bytes : List ℕ) → HasCut cuts → handed_out ++ cuts ≡ cuts_of bytes
    → handed_out ++ to_come_of cuts true ≡ all_cuts bytes
to_come-ended handed_out cuts bytes h is =
    sym (to_come-append handed_out cuts true h) ∙ ap (λ cuts. to_come_of cuts true) (is ∙ cuts_of-split bytes)
    ∙ to_come-append (whole_cuts bytes) (cut_of (unfinished bytes) ∷ []) true tt
    ∙ ap (λ last. whole_cuts bytes ++ last) (last_cut-ended (unfinished bytes))

-- the next line is the first of those to come
next-to_come : (cuts : List Cut) (ended : Bool)
    → MatchOption (first_cut cuts ended) (to_come_of cuts ended ≡ []) (λ next. to_come_of cuts ended ≡ next.0 ∷ to_come next.1)
next-to_come [] ended = refl
next-to_come (TooLong ∷ []) false = refl
next-to_come (TooLong ∷ []) true = refl
next-to_come (Line [] ∷ []) false = refl
next-to_come (Line [] ∷ []) true = refl
next-to_come (Line (b ∷ bytes) ∷ []) false = refl
next-to_come (Line (b ∷ bytes) ∷ []) true = refl
next-to_come (cut ∷ next ∷ later) ended = refl

pub to_come-next : (c : Cutting) → MatchOption (next_cut c) (to_come c ≡ []) (λ next. to_come c ≡ next.0 ∷ to_come next.1)
to_come-next c = next-to_come c.cuts c.ended
