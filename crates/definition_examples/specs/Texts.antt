-- Further worked examples of texts, files and batches, each named by what it shows. No text of the most characters is
-- written out: what holds of it is told of each text of so many.
use Rattle.std.specs.Prelude.{◌≡◌, ℕ, List, [], ◌∷◌, ◌&&◌, length, map, min, replicate, nat_le, nat_lt, Bool, true, false}
use Rattle.std.specs.Prelude.{if◌then◌else◌, codes, refl, Option, Some, None}
use Rattle.std.proofs.Common.{ap, ◌∙◌}
use Rattle.std.specs.Str.{chars}
use Rattle.text_defs.specs.Text.{is_utf8, text_of, lines_of, is_text}
use Rattle.text_defs.specs.Batch.{BatchRefusal, range, order, too_many_chars, too_many_lines, counted, size_fault, batch_refusal}
use Rattle.session_defs.specs.declared.file_kind.FileKind.{FileKind}
use Rattle.session_defs.specs.Opening.{is_accepted, is_of_kind}
use Rattle.session_defs.specs.TextExamples.{edit, two_lines}

-- ---- texts

-- a vertical tab, a form feed, U+0085 and U+2028 end no line
pub other_separators_are_characters_of_a_line :
    lines_of (text_of (97 ∷ 11 ∷ 12 ∷ 0xC2 ∷ 0x85 ∷ 0xE2 ∷ 0x80 ∷ 0xA8 ∷ 98 ∷ []))
    ≡ (97 ∷ 11 ∷ 12 ∷ 0x85 ∷ 0x2028 ∷ 98 ∷ []) ∷ []
unfolding chars
other_separators_are_characters_of_a_line = refl

-- ---- limits

pub counts_stay_at_the_largest_of_64_bits : map counted (18446744073709551614 ∷ 18446744073709551615 ∷ 18446744073709551616 ∷ [])
    ≡ 18446744073709551614 ∷ 18446744073709551615 ∷ 18446744073709551615 ∷ []
counts_stay_at_the_largest_of_64_bits = refl

-- what is told of so many characters and lines, where these are too many or not
abbrev told : (many_chars many_lines : Bool) → (text : List ℕ) → Option BatchRefusal
told many_chars many_lines text = if many_chars then Some (too_many_chars (counted (length text)))
    else (if many_lines then Some (too_many_lines (counted (length (lines_of text)))) else None)

-- a text of more characters is refused with their number, however many lines it has; any other by its lines alone
pub a_text_has_at_most_4194304_characters : (text : List ℕ) →
    (nat_lt 4194304 (length text) ≡ true
    → size_fault text ≡ Some (too_many_chars (min (length text) 18446744073709551615)))
    × ((nat_lt 4194304 (length text) ≡ false → nat_lt 262144 (length (lines_of text)) ≡ true
    → size_fault text ≡ Some (too_many_lines (min (length (lines_of text)) 18446744073709551615)))
    × (nat_lt 4194304 (length text) ≡ false → nat_lt 262144 (length (lines_of text)) ≡ false → size_fault text ≡ None))
a_text_has_at_most_4194304_characters text = (
  λ h. ap (λ b. told b (nat_lt 262144 (length (lines_of text))) text) h,
  (
    λ h l. ap (λ b. told b (nat_lt 262144 (length (lines_of text))) text) h ∙ ap (λ b. told false b text) l,
    λ h l. ap (λ b. told b (nat_lt 262144 (length (lines_of text))) text) h ∙ ap (λ b. told false b text) l,
  ),
)

-- the characters of its text count, and not its bytes
pub a_file_has_at_most_4194304_characters : (bytes : List ℕ) → is_utf8 bytes ≡ true →
    (nat_le (length (text_of bytes)) 4194304 ≡ false → is_text bytes ≡ false)
    × (nat_le (length (text_of bytes)) 4194304 ≡ true → is_text bytes ≡ nat_le (length (lines_of (text_of bytes))) 262144)
a_file_has_at_most_4194304_characters bytes u = (
  λ h. ap (λ b. b && (nat_le (length (text_of bytes)) 4194304 && nat_le (length (lines_of (text_of bytes))) 262144)) u
      ∙ ap (λ b. b && nat_le (length (lines_of (text_of bytes))) 262144) h,
  λ h. ap (λ b. b && (nat_le (length (text_of bytes)) 4194304 && nat_le (length (lines_of (text_of bytes))) 262144)) u
      ∙ ap (λ b. b && nat_le (length (lines_of (text_of bytes))) 262144) h,
)

-- the same of files of each kind
pub a_file_has_at_most_16777216_bytes : (kind : FileKind) (bytes : List ℕ) →
    (nat_le (length bytes) 16777216 ≡ false → is_accepted kind bytes ≡ false)
    × (nat_le (length bytes) 16777216 ≡ true → is_accepted kind bytes ≡ is_of_kind kind bytes)
a_file_has_at_most_16777216_bytes kind bytes =
    (λ h. ap (λ b. b && is_of_kind kind bytes) h, λ h. ap (λ b. b && is_of_kind kind bytes) h)

-- ---- batches

-- the end is a place of the second line, but the first has no column 9
pub a_span_may_not_start_behind_its_line : batch_refusal two_lines (edit 0 9 1 0 [] ∷ []) ≡ Some (range 0)
a_span_may_not_start_behind_its_line = refl

-- the second starts inside the first, behind its start
pub overlapping_edits_are_refused : batch_refusal (codes "abc") (edit 0 0 0 2 [] ∷ edit 0 1 0 3 [] ∷ []) ≡ Some (order 1)
overlapping_edits_are_refused = refl

-- 262,143 times LF are 262,144 lines; one more is put in front
pub a_batch_is_refused_by_the_text_that_it_makes :
    batch_refusal (replicate 262143 10) (edit 0 0 0 0 (10 ∷ []) ∷ []) ≡ Some (too_many_lines 262145)
a_batch_is_refused_by_the_text_that_it_makes = refl

-- the same, but the second edit has a place in an empty line that isn't there
pub a_fault_of_an_edit_comes_before_one_of_the_new_text :
    batch_refusal (replicate 262143 10) (edit 0 0 0 0 (10 ∷ []) ∷ edit 0 1 0 1 [] ∷ []) ≡ Some (range 1)
a_fault_of_an_edit_comes_before_one_of_the_new_text = refl
