-- Worked examples of classes, each named by what it shows.
use Rattle.std.specs.Prelude.{◌≡◌, ℕ, List, codes, Bool, true, false, Option, Some, Result, Err, refl}
use Rattle.std.specs.Option.{option_map}
use Rattle.std.specs.Result.{result_ok}
use Rattle.char_sets.specs.Named.{is_word}
use Rattle.ucd_category.specs.GeneralCategory.{general_category}
use Rattle.ucd_category.specs.GeneralCategoryRows.{general_category_rows}
use Rattle.ucd_table.specs.Rows.{value_in}
use Rattle.syntax_defs.specs.Reading.{Fault, Syntax, LeftOut, TooDeep, Read}
use Rattle.syntax_defs.specs.EscapeExamples.{escape_forms}
use Rattle.syntax_defs.specs.Classes.{class_at, class_within, members_at, part_at, member_at, item_at, range_char_at}
use Rattle.syntax_defs.specs.Classes.{range_end, behind_class_backslash, behind_bracket, bracket_at, behind_colon}

-- one name to unfold where an example reads a class
unfoldable pub class_forms : Unit {0}
unfolding class_within members_at part_at member_at item_at range_char_at range_end behind_class_backslash
    behind_bracket
    bracket_at behind_colon
class_forms = tt

-- the same where it asks for the category of a character
unfoldable pub categories : Unit {0}
unfolding is_word general_category value_in general_category_rows
categories = tt

-- a class at the start of a text
abbrev pub class_of : (fold : Bool) (depth : ℕ) → List ℕ → Result (Read (ℕ → Bool)) Fault
class_of fold depth text = class_at fold depth 0 text

-- whether a character is in it, where it can be read
abbrev pub member : Result (Read (ℕ → Bool)) Fault → ℕ → Option Bool
member read c = option_map (λ x. x.value c) (result_ok read)

pub a_range_has_what_lies_between : member (class_of false 0 (codes "[a-c]")) 98 ≡ Some true
unfolding class_forms escape_forms
a_range_has_what_lies_between = refl

pub a_complement_has_the_others : member (class_of false 0 (codes "[^a-c]")) 98 ≡ Some false
unfolding class_forms escape_forms
a_complement_has_the_others = refl

pub a_bracket_right_after_the_opening_is_itself : member (class_of false 0 (codes "[]a]")) 93 ≡ Some true
unfolding class_forms escape_forms
a_bracket_right_after_the_opening_is_itself = refl

pub a_bracket_right_after_the_circumflex_is_itself : member (class_of false 0 (codes "[^]a]")) 93 ≡ Some false
unfolding class_forms escape_forms
a_bracket_right_after_the_circumflex_is_itself = refl

pub a_circumflex_further_on_is_itself : member (class_of false 0 (codes "[a^]")) 94 ≡ Some true
unfolding class_forms escape_forms
a_circumflex_further_on_is_itself = refl

pub a_dash_behind_a_range_is_itself : member (class_of false 0 (codes "[a-b-d]")) 45 ≡ Some true
unfolding class_forms escape_forms
a_dash_behind_a_range_is_itself = refl

pub behind_a_range_no_second_one_begins : member (class_of false 0 (codes "[a-b-d]")) 99 ≡ Some false
unfolding class_forms escape_forms
behind_a_range_no_second_one_begins = refl

pub a_dash_at_the_end_is_itself : member (class_of false 0 (codes "[a-]")) 45 ≡ Some true
unfolding class_forms escape_forms
a_dash_at_the_end_is_itself = refl

pub a_dash_at_the_start_begins_a_range : member (class_of false 0 (codes "[--a]")) 65 ≡ Some true
unfolding class_forms escape_forms
a_dash_at_the_start_begins_a_range = refl

pub both_sides_must_hold : member (class_of false 0 (codes "[a-z&&[^b]]")) 98 ≡ Some false
unfolding class_forms escape_forms
both_sides_must_hold = refl

pub what_both_sides_have_is_in : member (class_of false 0 (codes "[a-z&&[^b]]")) 99 ≡ Some true
unfolding class_forms escape_forms
what_both_sides_have_is_in = refl

pub an_empty_side_is_the_empty_set : member (class_of false 0 (codes "[a&&]")) 97 ≡ Some false
unfolding class_forms escape_forms
an_empty_side_is_the_empty_set = refl

pub a_dash_before_the_signs_is_itself : member (class_of false 0 (codes "[a-&&+-z]")) 45 ≡ Some true
unfolding class_forms escape_forms
a_dash_before_the_signs_is_itself = refl

pub b_is_the_character_8 : member (class_of false 0 (codes "[\\b]")) 8 ≡ Some true
unfolding class_forms escape_forms
b_is_the_character_8 = refl

pub an_escape_may_end_a_range : member (class_of false 0 (codes "[A-\\x43]")) 66 ≡ Some true
unfolding class_forms escape_forms
an_escape_may_end_a_range = refl

pub a_colon_without_a_name_opens_a_class : member (class_of false 0 (codes "[[::]]")) 58 ≡ Some true
unfolding class_forms escape_forms
a_colon_without_a_name_opens_a_class = refl

pub a_named_bracket_has_its_set : member (class_of false 0 (codes "[[:digit:]]")) 53 ≡ Some true
unfolding class_forms escape_forms categories
a_named_bracket_has_its_set = refl

pub a_circumflex_in_a_bracket_is_its_complement : member (class_of false 0 (codes "[[:^digit:]]")) 53 ≡ Some false
unfolding class_forms escape_forms categories
a_circumflex_in_a_bracket_is_its_complement = refl

pub a_name_without_its_end_opens_a_class : member (class_of false 0 (codes "[[:a]b]")) 98 ≡ Some true
unfolding class_forms escape_forms categories
a_name_without_its_end_opens_a_class = refl

pub a_colon_may_stand_in_a_class : member (class_of false 0 (codes "[[:a]b]")) 58 ≡ Some true
unfolding class_forms escape_forms categories
a_colon_may_stand_in_a_class = refl

pub case_counts_in_a_named_bracket : class_of false 0 (codes "[x[:Alpha:]]") ≡ Err (LeftOut 2)
unfolding class_forms escape_forms categories
case_counts_in_a_named_bracket = refl

pub a_class_not_closed_is_refused_at_the_end : class_of false 0 (codes "[a") ≡ Err (Syntax 2)
unfolding class_forms escape_forms
a_class_not_closed_is_refused_at_the_end = refl

pub a_range_not_ended_is_refused_at_the_end : class_of false 0 (codes "[a-") ≡ Err (Syntax 3)
unfolding class_forms escape_forms
a_range_not_ended_is_refused_at_the_end = refl

pub closing_an_inner_class_is_not_enough : class_of false 0 (codes "[[a]") ≡ Err (Syntax 4)
unfolding class_forms escape_forms
closing_an_inner_class_is_not_enough = refl

pub a_falling_range_is_refused_at_its_start : class_of false 0 (codes "[xz-a]") ≡ Err (Syntax 2)
unfolding class_forms escape_forms
a_falling_range_is_refused_at_its_start = refl

pub what_is_left_out_is_refused_at_its_place : class_of false 0 (codes "[a-\\q]") ≡ Err (LeftOut 3)
unfolding class_forms escape_forms
what_is_left_out_is_refused_at_its_place = refl

pub letters_fold_before_sides_meet : member (class_of true 0 (codes "[B&&b]")) 98 ≡ Some true
unfolding class_forms escape_forms
letters_fold_before_sides_meet = refl

pub letters_fold_before_a_complement : member (class_of true 0 (codes "[^B]")) 98 ≡ Some false
unfolding class_forms escape_forms
letters_fold_before_a_complement = refl

pub the_hundredth_class_is_read : member (class_of false 99 (codes "[a]")) 97 ≡ Some true
unfolding class_forms escape_forms
the_hundredth_class_is_read = refl

pub the_next_one_is_too_deep : class_of false 100 (codes "[a]") ≡ Err (TooDeep 101)
unfolding class_forms escape_forms
the_next_one_is_too_deep = refl
