-- The definitions at small cases, each shown by computing it.
use Rattle.std.specs.Prelude.{◌≡◌, true, false, List, [], ◌∷◌, refl}
use Rattle.ucd_table.specs.Rows.{value_in, in_ranges}
use Rattle.ucd_category.specs.GeneralCategory.{general_category}
use Rattle.ucd_category.specs.GeneralCategoryRows.{general_category_rows}
use Rattle.ucd_props.specs.Binary.{is_white_space}
use Rattle.ucd_props.specs.Ranges.{white_space_ranges}
use Rattle.char_sets.specs.Ranges.{in_set, rises}
use Rattle.char_sets.specs.Case.{other_case, in_either_case}
use Rattle.char_sets.specs.Named.{is_word, in_named}
use Rattle.char_sets.specs.declared.char_set.CharRange.{CharRange}
use Rattle.char_sets.specs.declared.named.NamedSet.TheVariants as NamedSet

-- `a` to `c`, and `e`
abbrev pub a_to_c_and_e : List CharRange
a_to_c_and_e = record { first = 97; last = 99 } ∷ record { first = 101; last = 101 } ∷ []

pub a_range_has_its_last : in_set a_to_c_and_e 99 ≡ true
a_range_has_its_last = refl

pub a_code_between_ranges_is_in_none : in_set a_to_c_and_e 100 ≡ false
a_code_between_ranges_is_in_none = refl

pub ranges_that_overlap_do_not_rise : rises 0 (record { first = 97; last = 101 } ∷ a_to_c_and_e) ≡ false
unfolding rises
ranges_that_overlap_do_not_rise = refl

pub an_upper_case_letter_has_a_lower_case : other_case 90 ≡ 122
an_upper_case_letter_has_a_lower_case = refl

pub a_lower_case_letter_has_an_upper_case : other_case 97 ≡ 65
a_lower_case_letter_has_an_upper_case = refl

pub a_sign_beside_the_letters_has_no_other_case : other_case 91 ≡ 91
a_sign_beside_the_letters_has_no_other_case = refl

pub an_upper_case_letter_joins_a_set_of_lower_case : in_either_case a_to_c_and_e 66 ≡ true
an_upper_case_letter_joins_a_set_of_lower_case = refl

pub a_combining_mark_is_a_word_character : is_word 0x0301 ≡ true
unfolding is_word general_category value_in general_category_rows
a_combining_mark_is_a_word_character = refl

pub a_fraction_is_no_word_character : is_word 0x00BD ≡ false
unfolding is_word general_category value_in general_category_rows
a_fraction_is_no_word_character = refl

pub a_private_character_is_shown : in_named NamedSet.Graph 0xE000 ≡ true
unfolding is_white_space in_ranges white_space_ranges general_category value_in general_category_rows
a_private_character_is_shown = refl

pub a_wide_space_is_not_shown : in_named NamedSet.Graph 0x3000 ≡ false
unfolding is_white_space in_ranges white_space_ranges general_category value_in general_category_rows
a_wide_space_is_not_shown = refl

pub a_wide_space_is_printed : in_named NamedSet.Print 0x3000 ≡ true
unfolding is_white_space in_ranges white_space_ranges general_category value_in general_category_rows
a_wide_space_is_printed = refl

pub the_dollar_is_punctuation : in_named NamedSet.Punct 36 ≡ true
unfolding general_category value_in general_category_rows
the_dollar_is_punctuation = refl
