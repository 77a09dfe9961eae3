-- How large the text of a file can be.
use Rattle.std.proofs.Common.{◌≡◌, ℕ, ◌+◌, ◌^◌, ◌<◌, ◌≤◌, List, [], ◌∷◌, Bool, true, false, length, ap, arith, eqb}
use Rattle.std.proofs.Common.{cond}
use Rattle.std.specs.Str.{chars, IsUtf8}
use Rattle.std.proofs.lemmas.Str.{length-le-encodes, encodes-chars, utf8_valid_len-IsUtf8}
use Rattle.std.proofs.lemmas.Bool.{eq-eqb, le-leb, and_from}
use Rattle.text_defs.specs.Text.{norm, begins_with, without_bom, text_of, is_utf8, is_text, line_count, most_chars}
use Rattle.text_defs.specs.Text.{most_lines}
use Rattle.line_text.specs.declared.size.Size.{Size}
use Rattle.line_text.specs.Sizes.{IsSizeOf}
use Rattle.line_text.proofs.CountedSizes.{line_count-cons}

length-end_normalised : (cr before_lf : Bool) (c : ℕ) (rest : List ℕ)
    → length (cond cr (cond before_lf rest (10 ∷ rest)) (c ∷ rest)) ≤ length rest + 1
length-end_normalised true true c rest = omega arith
length-end_normalised true false c rest = omega arith
length-end_normalised false before_lf c rest = omega arith

pub length-norm : (cs : List ℕ) → length (norm cs) ≤ length cs
length-norm [] = omega arith
length-norm (c ∷ cs) = omega (arith, length-end_normalised (eqb c 13) (begins_with 10 cs) c (norm cs), length-norm cs)

length-cond : (b : Bool) (xs ys : List ℕ) (n : ℕ) → length xs ≤ n → length ys ≤ n → length (cond b xs ys) ≤ n
length-cond true xs ys n h i = h
length-cond false xs ys n h i = i

length-without_bom : (cs : List ℕ) → length (without_bom cs) ≤ length cs
length-without_bom [] = omega arith
length-without_bom (c ∷ cs) = length-cond (eqb c 65279) cs (c ∷ cs) (length (c ∷ cs)) (omega arith) (omega arith)

pub length-text_of : (bytes : List ℕ) → IsUtf8 bytes → length (text_of bytes) ≤ length bytes
length-text_of bytes u =
    omega (
      arith,
      length-norm (without_bom (chars bytes)),
      length-without_bom (chars bytes),
      length-le-encodes
          (chars bytes),
      ap length (encodes-chars bytes u),
    )

ends_line_le : (b : Bool) → cond b 1 0 ≤ 1
ends_line_le true = omega arith
ends_line_le false = omega arith

pub line_count_le : (cs : List ℕ) → line_count cs ≤ length cs + 1
line_count_le [] = omega arith
line_count_le (c ∷ cs) = omega (arith, line_count-cons c cs, ends_line_le (eqb c 10), line_count_le cs)

pub is_utf8-true : (bytes : List ℕ) → IsUtf8 bytes → is_utf8 bytes ≡ true
is_utf8-true bytes u = eq-eqb _ _ (utf8_valid_len-IsUtf8 bytes u)

pub has_too_many_chars : (bytes : List ℕ) (size : Size) → IsUtf8 bytes → length bytes < 2 ^ 64
    → IsSizeOf (text_of bytes) size → most_chars < size.chars → (is_utf8 bytes ≡ true)
    × (size.chars ≡ length (text_of bytes)) × (most_chars < size.chars)
has_too_many_chars bytes size u fits counts many =
    (is_utf8-true bytes u, omega (arith, length-text_of bytes u, counts.chars), many)

pub has_too_many_lines : (bytes : List ℕ) (size : Size) → IsUtf8 bytes → IsSizeOf (text_of bytes) size
    → size.chars ≤ most_chars → most_lines < size.lines → (is_utf8 bytes ≡ true)
    × (length (text_of bytes) ≤ most_chars) × (size.lines ≡ line_count (text_of bytes)) × (most_lines < size.lines)
has_too_many_lines bytes size u counts few many =
    let fits : length (text_of bytes) ≤ most_chars = omega (arith, counts.chars) in
    (is_utf8-true bytes u, fits, omega (arith, counts.lines, line_count_le (text_of bytes)), many)

pub has_text : (bytes : List ℕ) (size : Size) → IsUtf8 bytes → IsSizeOf (text_of bytes) size → size.chars ≤ most_chars
    → size.lines ≤ most_lines → is_text bytes ≡ true
has_text bytes size u counts few_chars few_lines =
    let chars_fit : length (text_of bytes) ≤ most_chars = omega (arith, counts.chars) in
    let lines_fit : line_count (text_of bytes) ≤ most_lines = omega (arith, counts.lines) in
    and_from _ _ (is_utf8-true bytes u) (and_from _ _ (le-leb _ _ chars_fit) (le-leb _ _ lines_fit))

-- the lines of what bytes add to a text
pub line_count-norm : (bytes cs : List ℕ) → IsUtf8 bytes → chars bytes ≡ cs → line_count (norm cs) ≤ length bytes + 1
line_count-norm bytes cs u e =
    omega (
      arith,
      line_count_le (norm cs),
      length-norm cs,
      length-le-encodes (chars bytes),
      ap length
          (encodes-chars bytes u),
      ap (length {A = ℕ}) e,
    )
