-- Worked examples of escapes, each named by what it shows.
use Rattle.std.specs.Prelude.{◌≡◌, ℕ, List, [], codes, true, false, Some, None, Err, refl}
use Rattle.ucd_category.specs.declared.GeneralCategory.TheVariants.{TitlecaseLetter}
use Rattle.ucd_category.specs.declared.GeneralCategoryGroup.TheVariants.{Separator}
use Rattle.char_sets.specs.declared.named.NamedSet.TheVariants.{Word, Digit, Alpha, Group, Category}
use Rattle.syntax_defs.specs.Reading.{Syntax, LeftOut}
use Rattle.syntax_defs.specs.Escapes.{Escape, escaped_char, escaped_set, escape_at, behind_backslash, escape_by}
use Rattle.syntax_defs.specs.Escapes.{hex_at, byte_at, unicode_at, braced_at, property_at, property_by, by_plain_name}
use Rattle.syntax_defs.specs.Escapes.{named_bracket}

-- one name to unfold where an example reads an escape
unfoldable pub escape_forms : Unit {0}
unfolding behind_backslash escape_by hex_at byte_at unicode_at braced_at property_at property_by by_plain_name
    named_bracket
escape_forms = tt

-- what an escape at the start of a text is
abbrev pub escape_of : List ℕ → Escape
escape_of text = escape_at 0 text

pub a_letter_stands_for_a_control : escape_of (codes "\\tx") ≡ escaped_char 9 2 (codes "x")
unfolding escape_forms
a_letter_stands_for_a_control = refl

pub e_is_the_escape_character : escape_of (codes "\\e") ≡ escaped_char 27 2 []
unfolding escape_forms
e_is_the_escape_character = refl

pub a_sign_stands_for_itself : escape_of (codes "\\.a") ≡ escaped_char 46 2 (codes "a")
unfolding escape_forms
a_sign_stands_for_itself = refl

pub one_digit_is_enough : escape_of (codes "\\x4g") ≡ escaped_char 4 3 (codes "g")
unfolding escape_forms
one_digit_is_enough = refl

pub two_digits_are_read_at_most : escape_of (codes "\\x412") ≡ escaped_char 65 4 (codes "2")
unfolding escape_forms
two_digits_are_read_at_most = refl

pub a_byte_above_7f_is_left_out : escape_of (codes "\\x80") ≡ Err (LeftOut 0)
unfolding escape_forms
a_byte_above_7f_is_left_out = refl

pub without_a_digit_it_is_no_escape : escape_of (codes "\\xg") ≡ Err (Syntax 0)
unfolding escape_forms
without_a_digit_it_is_no_escape = refl

pub braces_hold_up_to_eight_digits : escape_of (codes "\\x{0001F600}") ≡ escaped_char 0x1F600 12 []
unfolding escape_forms
braces_hold_up_to_eight_digits = refl

pub nine_digits_are_left_out : escape_of (codes "\\x{00001F600}") ≡ Err (LeftOut 0)
unfolding escape_forms
nine_digits_are_left_out = refl

pub open_braces_are_refused_at_the_end : escape_of (codes "\\x{41") ≡ Err (Syntax 5)
unfolding escape_forms
open_braces_are_refused_at_the_end = refl

pub a_surrogate_is_no_character : escape_of (codes "\\uD800") ≡ Err (Syntax 0)
unfolding escape_forms
a_surrogate_is_no_character = refl

pub u_has_four_digits : escape_of (codes "\\u12") ≡ Err (LeftOut 0)
unfolding escape_forms
u_has_four_digits = refl

pub d_is_a_set : escape_of (codes "\\d") ≡ escaped_set (Digit, false) 2 []
unfolding escape_forms
d_is_a_set = refl

pub an_upper_case_letter_is_the_complement : escape_of (codes "\\W") ≡ escaped_set (Word, true) 2 []
unfolding escape_forms
an_upper_case_letter_is_the_complement = refl

pub names_of_properties_ignore_case_and_signs : escape_of (codes "\\p{a L-p_h a}") ≡ escaped_set (Alpha, false) 13 []
unfolding escape_forms
names_of_properties_ignore_case_and_signs = refl

pub a_category_has_a_name_of_two_letters : escape_of (codes "\\p{Lt}")
    ≡ escaped_set (Category TitlecaseLetter, false) 6 []
unfolding escape_forms
a_category_has_a_name_of_two_letters = refl

pub a_group_has_a_name_of_one_letter : escape_of (codes "\\p{^z}") ≡ escaped_set (Group Separator, true) 6 []
unfolding escape_forms
a_group_has_a_name_of_one_letter = refl

pub a_property_with_two_signs_is_left_out : escape_of (codes "\\P{^L}") ≡ Err (LeftOut 0)
unfolding escape_forms
a_property_with_two_signs_is_left_out = refl

pub an_unknown_name_is_left_out : escape_of (codes "\\p{LC}") ≡ Err (LeftOut 0)
unfolding escape_forms
an_unknown_name_is_left_out = refl

pub a_property_has_braces : escape_of (codes "\\pL") ≡ Err (LeftOut 0)
unfolding escape_forms
a_property_has_braces = refl

pub any_other_letter_is_left_out : escape_of (codes "\\q") ≡ Err (LeftOut 0)
unfolding escape_forms
any_other_letter_is_left_out = refl

pub a_backslash_at_the_end_is_refused_at_its_place : escape_of (codes "\\") ≡ Err (Syntax 0)
unfolding escape_forms
a_backslash_at_the_end_is_refused_at_its_place = refl

-- names in brackets

pub a_bracket_names_a_set : named_bracket (codes "alpha") ≡ Some Alpha
unfolding named_bracket
a_bracket_names_a_set = refl

pub case_counts_in_brackets : named_bracket (codes "Alpha") ≡ None
unfolding named_bracket
case_counts_in_brackets = refl

pub a_ninth_digit_is_left_out_where_the_text_ends : escape_of (codes "\\x{123456789") ≡ Err (LeftOut 0)
unfolding escape_forms
a_ninth_digit_is_left_out_where_the_text_ends = refl
