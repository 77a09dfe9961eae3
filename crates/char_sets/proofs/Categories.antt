-- Sets of categories as the bits of their numbers.
use Rattle.std.proofs.Common.{◌≡◌, ℕ, ◌<◌, ◌*◌, ◌%◌, ◌^◌, inl, inr, lt-ltb, ap₂, subst, ◌||◌, ◌&&◌, ◌==◌, nat_lt}
use Rattle.std.proofs.Common.{Bool, refl, sym, ap, ◌∙◌}
use Rattle.std.specs.Bool.{beq}
use Rattle.std.specs.Int.{bit_at}
use Rattle.std.proofs.Math.Bool.{and-false}
use Rattle.std.proofs.lemmas.Bool.Decides.{eqb_tells}
use Rattle.std.proofs.lemmas.Nat.{one_shl}
use Rattle.std.proofs.lemmas.Nat.Bits.{bit_at-pow_same, bit_at-pow_other}
use Rattle.std.specs.Char.{is_ascii_alphanumeric}
use Rattle.ucd_table.proofs.Computing.{tables}
use Rattle.ucd_table.proofs.Stepped.{Stepped, map_stepped}
use Rattle.ucd_table.proofs.Facts.{Stepped-below, same_from_beq}
use Rattle.ucd_category.specs.GeneralCategory.{general_category, general_category_eq}
use Rattle.ucd_category.specs.GeneralCategoryGroup.{in_group}
use Rattle.ucd_category.specs.declared.GeneralCategory.{GeneralCategory}
use Rattle.ucd_category.specs.declared.GeneralCategory.TheVariants.{UppercaseLetter, LowercaseLetter, DecimalNumber}
use Rattle.ucd_category.specs.declared.GeneralCategory.TheVariants.{SpaceSeparator, Control}
use Rattle.ucd_category.specs.declared.GeneralCategoryGroup.TheVariants as group
use Rattle.ucd_category.proofs.GeneralCategoryLemmas.{general_category_stepped}
use Rattle.char_sets.specs.Named.{is_word, is_word_category, is_alpha_category, is_graph_category, has_category}
use Rattle.char_sets.specs.Named.{has_number}

-- the steps of the table, for a proof by computation
unfoldable is_word_stepped : Stepped is_word
unfolding is_word general_category_stepped
is_word_stepped = map_stepped is_word_category general_category general_category_stepped

abbrev is_word_byte : ℕ → Bool
is_word_byte c = is_ascii_alphanumeric c || (c == 95)

-- in ASCII the word characters are the letters, the digits and `_`
pub is_word-ascii : (c : ℕ) → c < 128 → is_word c ≡ (is_ascii_alphanumeric c || (c == 95))
unfolding tables is_word_stepped
is_word-ascii c h =
    same_from_beq _ _ (Stepped-below is_word is_word_stepped (λ x v. beq v (is_word_byte x)) 128 refl c h)

pub word_numbers : (g : GeneralCategory) → has_category 2_559 g ≡ is_word_category g
word_numbers UppercaseLetter = refl
word_numbers _ = refl

pub alpha_numbers : (g : GeneralCategory) → has_category 255 g ≡ is_alpha_category g
alpha_numbers UppercaseLetter = refl
alpha_numbers _ = refl

pub alnum_numbers : (g : GeneralCategory) → has_category 511 g
    ≡ (is_alpha_category g || general_category_eq g DecimalNumber)
alnum_numbers UppercaseLetter = refl
alnum_numbers _ = refl

pub digit_numbers : (g : GeneralCategory) → has_category 256 g ≡ general_category_eq g DecimalNumber
digit_numbers UppercaseLetter = refl
digit_numbers _ = refl

pub upper_numbers : (g : GeneralCategory) → has_category 1 g ≡ general_category_eq g UppercaseLetter
upper_numbers UppercaseLetter = refl
upper_numbers _ = refl

pub lower_numbers : (g : GeneralCategory) → has_category 2 g ≡ general_category_eq g LowercaseLetter
lower_numbers UppercaseLetter = refl
lower_numbers _ = refl

pub separator_numbers : (g : GeneralCategory) → has_category 4_194_304 g ≡ general_category_eq g SpaceSeparator
separator_numbers UppercaseLetter = refl
separator_numbers _ = refl

pub control_numbers : (g : GeneralCategory) → has_category 33_554_432 g ≡ general_category_eq g Control
control_numbers UppercaseLetter = refl
control_numbers _ = refl

pub punctuation_numbers : (g : GeneralCategory) → has_category 260_096 g ≡ in_group group.Punctuation g
punctuation_numbers UppercaseLetter = refl
punctuation_numbers _ = refl

pub graph_numbers : (g : GeneralCategory) → has_category 369_098_751 g ≡ is_graph_category g
graph_numbers UppercaseLetter = refl
graph_numbers _ = refl

-- one number
pub has_number-one : (k n : ℕ) → k < 32 → has_number (1 * 2 ^ k % 2 ^ 32) n ≡ (n == k)
has_number-one k n small =
    ap (λ m. has_number m n) (one_shl k 32 small)
    ∙ elim (eqb_tells n k) [
      | inl w ↦
          ap₂ ◌&&◌ (lt-ltb n 32 (subst (λ m. m < 32) (sym w.1) small))
          (ap (λ b. b == 1) (ap (bit_at (2 ^ k)) w.1 ∙ bit_at-pow_same k)) ∙ sym w.0
      | inr w ↦
          ap (λ b. nat_lt n 32 && (b == 1)) (bit_at-pow_other k n w.1) ∙ and-false (nat_lt n 32) ∙ sym w.0
    ]
