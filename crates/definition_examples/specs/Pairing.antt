-- Further worked examples of marks and of which texts are brackets, each named by what it shows.
use Rattle.std.specs.Prelude.{◌≡◌, ℕ, List, [], ◌∷◌, map, codes, replicate, nat_lt, Bool, true, false, if◌then◌else◌}
use Rattle.std.specs.Prelude.{Option, Some, None, refl}
use Rattle.std.proofs.Common.{ap, ◌∙◌}
use Rattle.std.specs.List.{concat}
use Rattle.std.specs.Str.{chars}
use lib.Utf8.{encode}
use Rattle.pairing_defs.specs.OnLiterals.{words_on_literals}
use Rattle.pairing_defs.specs.declared.Role.TheVariants.{Opener, Closer}
use Rattle.pairing_defs.specs.declared.PairText.{PairText}
use Rattle.pairing_defs.specs.Marks.{every_column, marks_of}
use Rattle.pairing_defs.specs.BracketTexts.{BracketsOfPairs, too_many_kinds, too_long, brackets, brackets_of, kept_pairs, kind_count}
use Rattle.pairing_defs.specs.BracketTexts.{LongPair, first_long, texts_of, unless_long}
use Rattle.pairing_defs.specs.Examples.{columns}
use Rattle.pairing_defs.specs.BracketTextExamples.{pair}

pub an_empty_text_is_no_mark : map columns (marks_of (record { text = []; role = Opener 0 } ∷ []) 20000 every_column (codes "ab")) ≡ []
unfolding words_on_literals
an_empty_text_is_no_mark = refl

-- ---- limits

pub an_opener_has_at_most_32_characters :
    brackets_of (record { opener = replicate 33 40; closer = codes ")" } ∷ []) ≡ too_long (record { index = 0; count = 33 })
unfolding chars encode
an_opener_has_at_most_32_characters = refl

-- e acute so many times, which is a character of two bytes
abbrev accents : ℕ → PairText
accents n = record { opener = concat (replicate n (195 ∷ 169 ∷ [])); closer = codes ")" }

pub bracket_texts_are_measured_in_characters :
    (brackets_of (accents 32 ∷ [])
    ≡ brackets (record { text = replicate 32 233; role = Opener 0 } ∷ record { text = codes ")"; role = Closer (record { bits = 1 }) } ∷ []))
    × (brackets_of (accents 33 ∷ []) ≡ too_long (record { index = 0; count = 33 }))
unfolding chars encode
bracket_texts_are_measured_in_characters = (refl, refl)

-- what pairs that are kept stand for, where their kinds are too many or not
abbrev told : (too_many : Bool) → Option LongPair → (kept : List PairText) → BracketsOfPairs
told too_many long kept = if too_many then too_many_kinds (kind_count kept) else unless_long long kept

-- More kinds are told with their number, however long a text is; where they are fewer, a text that is too long.
pub there_are_at_most_64_kinds : (pairs : List PairText) →
    (nat_lt 64 (kind_count (kept_pairs pairs)) ≡ true → brackets_of pairs ≡ too_many_kinds (kind_count (kept_pairs pairs)))
    × ((nat_lt 64 (kind_count (kept_pairs pairs)) ≡ false → first_long 0 (kept_pairs pairs) ≡ None
    → brackets_of pairs ≡ brackets (texts_of (kept_pairs pairs)))
    × ((long : LongPair) → nat_lt 64 (kind_count (kept_pairs pairs)) ≡ false → first_long 0 (kept_pairs pairs) ≡ Some long
    → brackets_of pairs ≡ too_long long))
there_are_at_most_64_kinds pairs = (
  λ h. ap (λ b. told b (first_long 0 (kept_pairs pairs)) (kept_pairs pairs)) h,
  (
    λ h l. ap (λ b. told b (first_long 0 (kept_pairs pairs)) (kept_pairs pairs)) h ∙ ap (λ o. told false o (kept_pairs pairs)) l,
    λ long h l. ap (λ b. told b (first_long 0 (kept_pairs pairs)) (kept_pairs pairs)) h ∙ ap (λ o. told false o (kept_pairs pairs)) l,
  ),
)

pub a_pair_that_stands_twice_counts_once : kind_count (pair "(" ")" ∷ pair "(" ")" ∷ []) ≡ 1
a_pair_that_stands_twice_counts_once = refl
