-- The lines of a text and their marks.
use Rattle.std.proofs.Common.{◌≡◌, ℕ, zero, suc, ◌+◌, ◌-◌, ◌<◌, ◌≤◌, ◌==◌, Bool, true, false, if◌then◌else◌, nat_le}
use Rattle.std.proofs.Common.{List, [], ◌∷◌, ◌++◌, length, map, take, get_or, refl, ap, sym, ◌∙◌, arith}
use Rattle.std.proofs.Common.{length-append, add-one, Option, Some, None}
use Rattle.std.specs.List.{sum_by}
use Rattle.std.proofs.lemmas.List.{length-map, map-append, take_all}
use Rattle.std.proofs.lemmas.List.Sums.{sum_by-cons}
use Rattle.std.proofs.Math.Seq.{take-suc, take-length}
use Rattle.text_defs.specs.Text.{lines_of, line_in, onto_first, all_but_last, last_line}
use Rattle.text_defs.specs.Place.{place_of}
use Rattle.pairing_defs.specs.declared.BracketText.{BracketText}
use Rattle.pairing_defs.specs.declared.LineMark.{LineMark}
use Rattle.pairing_defs.specs.Marks.{every_column, bracket_at, marked, further, marks_from, marks_of, on_line}
use Rattle.pairing_defs.specs.Marks.{marks_of_lines}
use Rattle.pairing_defs.specs.Marks.{text_marks}
use Rattle.bracket_marks.specs.MarkedLine.{MarkedLine, last_length, text_end, marks_in, marked_line}

-- ---- one more line
pub line_in-get_or : (lines : List (List ℕ)) (n : ℕ) (d : List ℕ) → n < length lines → line_in lines n ≡ get_or lines n d
line_in-get_or [] n d h = absurd (omega arith)
line_in-get_or (line ∷ lines) zero d h = refl
line_in-get_or (line ∷ lines) (suc n) d h = line_in-get_or lines n d (omega arith)

same_line : (a b : List LineMark) (m n : ℕ) → a ≡ b → m ≡ n
    → ◌≡◌ {A = MarkedLine} (record { marks = a; length = m }) (record { marks = b; length = n })
same_line a b m n e f = rw (e, f) refl

pub lines_more : (texts : List BracketText) (long n : ℕ) (lines : List (List ℕ)) (old new : List MarkedLine)
    (line : MarkedLine) → n < length lines
    → old ≡ map (marked_line texts long) (take n lines)
    → line.marks ≡ marks_of texts long every_column (line_in lines n) → line.length ≡ length (line_in lines n)
    → new ≡ old ++ line ∷ []
    → new ≡ map (marked_line texts long) (take (n + 1) lines)
lines_more texts long n lines old new line below before marks len is =
    let here : line ≡ marked_line texts long (line_in lines n) =
    same_line line.marks (marks_of texts long every_column (line_in lines n)) line.length (length (line_in lines n))
    marks len in
    rw (
      is,
      before,
      here,
      add-one n,
      take-suc lines n [] below,
      line_in-get_or lines n [] below,
      map-append
          (marked_line texts long) (take n lines) (get_or lines n [] ∷ []),
    ) refl

-- ---- the whole text
pub lines_all : (texts : List BracketText) (long n : ℕ) (lines : List (List ℕ)) (new : List MarkedLine)
    → length lines ≤ n
    → new ≡ map (marked_line texts long) (take n lines) → new ≡ map (marked_line texts long) lines
lines_all texts long n lines new all is = is ∙ ap (map (marked_line texts long)) (take_all n lines all)

marks_only : (texts : List BracketText) (long : ℕ) (lines : List (List ℕ))
    → map (λ line. line.marks) (map (marked_line texts long) lines) ≡ map (marks_of texts long every_column) lines
marks_only texts long [] = refl
marks_only texts long (line ∷ lines) = ap (λ rest. marks_of texts long every_column line ∷ rest)
    (marks_only texts long lines)

pub marks_in-marked : (texts : List BracketText) (long : ℕ) (lines : List (List ℕ))
    → marks_in (map (marked_line texts long) lines) ≡ text_marks texts long lines
marks_in-marked texts long lines = ap (marks_of_lines 0) (marks_only texts long lines)

lengths_only : (texts : List BracketText) (long : ℕ) (lines : List (List ℕ))
    → map (λ line. line.length) (map (marked_line texts long) lines) ≡ map length lines
lengths_only texts long [] = refl
lengths_only texts long (line ∷ lines) = ap (λ rest. length line ∷ rest) (lengths_only texts long lines)

-- the last of some lengths
abbrev last_of : List ℕ → ℕ
last_of [] = 0
last_of (n ∷ []) = n
last_of (n ∷ next ∷ rest) = last_of (next ∷ rest)

last_length-last : (lines : List MarkedLine) → last_length lines ≡ last_of (map (λ line. line.length) lines)
last_length-last [] = refl
last_length-last (line ∷ []) = refl
last_length-last (line ∷ next ∷ rest) = last_length-last (next ∷ rest)

last_line-last : (lines : List (List ℕ)) → length (last_line lines) ≡ last_of (map length lines)
last_line-last [] = refl
last_line-last (line ∷ []) = refl
last_line-last (line ∷ next ∷ rest) = last_line-last (next ∷ rest)

length-all_but_last : (lines : List (List ℕ)) → length (all_but_last lines) ≡ length lines - 1
length-all_but_last [] = refl
length-all_but_last (line ∷ []) = refl
length-all_but_last (line ∷ next ∷ rest) = let before = length-all_but_last (next ∷ rest) in omega arith

-- lines with the lengths of a text's lines end where the text ends
pub text_end_is : (text : List ℕ) (lines : List MarkedLine) → map (λ line. line.length) lines ≡ map length (lines_of text)
    → text_end lines ≡ place_of text (length text)
text_end_is text lines is =
    let count : length lines ≡ length (lines_of text) =
    sym (length-map lines (λ line. line.length)) ∙ ap length is ∙ length-map (lines_of text) length in
    let last : last_length lines ≡ length (last_line (lines_of text)) =
    last_length-last lines ∙ ap last_of is ∙ sym (last_line-last (lines_of text)) in
    rw (take-length text, count, last, length-all_but_last (lines_of text)) refl

pub text_end-marked : (texts : List BracketText) (long : ℕ) (text : List ℕ)
    → text_end (map (marked_line texts long) (lines_of text)) ≡ place_of text (length text)
text_end-marked texts long text =
    text_end_is text (map (marked_line texts long) (lines_of text)) (lengths_only texts long (lines_of text))

-- ---- no more marks than characters
one_more : (column : ℕ) (found : Option BracketText) (rest : List LineMark) (n : ℕ) → length rest ≤ n
    → length (marked column found ++ rest) ≤ suc n
one_more column None rest n h = omega arith
one_more column (Some b) rest n h = omega arith

marked_few : (found : ℕ → Option BracketText) (left taken column : ℕ)
    → length (marks_from found taken column left) ≤ left
marked_few found zero taken column = omega arith
marked_few found (suc left) (suc taken) column = let rest = marked_few found left taken (column + 1) in omega arith
marked_few found (suc left) zero column =
    one_more column (found column) (marks_from found (further (found column)) (column + 1) left) left
    (marked_few found left (further (found column)) (column + 1))

unless_long : (long : Bool) (marks : List LineMark) (n : ℕ) → length marks ≤ n → length (if long then [] else marks) ≤ n
unless_long true marks n h = omega arith
unless_long false marks n h = h

pub marks_few : (texts : List BracketText) (long : ℕ) (counts : ℕ → Bool) (line : List ℕ)
    → length (marks_of texts long counts line) ≤ length line
marks_few texts long counts line =
    let found = bracket_at texts counts line in
    unless_long (nat_le long (length line)) (marks_from found 0 0 (length line)) (length line)
    (marked_few found (length line) 0 0)

lines_few : (texts : List BracketText) (long n : ℕ) (lines : List (List ℕ))
    → length (marks_of_lines n (map (marks_of texts long every_column) lines)) ≤ sum_by length lines
lines_few texts long n [] = omega arith
lines_few texts long n (line ∷ lines) =
    let here = marks_few texts long every_column line in
    let rest = lines_few texts long (n + 1) lines in
    let total = length-append (map (on_line n) (marks_of texts long every_column line))
    (marks_of_lines (n + 1) (map (marks_of texts long every_column) lines)) in
    omega (arith, total, length-map (marks_of texts long every_column line) (on_line n), sum_by-cons length line lines)

onto_few : (c : ℕ) (lines : List (List ℕ)) → sum_by length (onto_first c lines) ≤ suc (sum_by length lines)
onto_few c [] = omega arith
onto_few c (line ∷ lines) = omega (arith, sum_by-cons length (c ∷ line) lines, sum_by-cons length line lines)

before_few : (lf : Bool) (c : ℕ) (lines : List (List ℕ))
    → sum_by length (if lf then ([] ∷ lines) else onto_first c lines) ≤ suc (sum_by length lines)
before_few true c lines = omega (arith, sum_by-cons {X = List ℕ} length [] lines)
before_few false c lines = onto_few c lines

pub chars_few : (text : List ℕ) → sum_by length (lines_of text) ≤ length text
chars_few [] = omega arith
chars_few (c ∷ cs) = let rest = chars_few cs in let here = before_few (c == 10) c (lines_of cs) in omega arith

pub text_few : (texts : List BracketText) (long : ℕ) (text : List ℕ)
    → length (text_marks texts long (lines_of text)) ≤ length text
text_few texts long text = let marks = lines_few texts long 0 (lines_of text) in let chars =
    chars_few text in omega arith
