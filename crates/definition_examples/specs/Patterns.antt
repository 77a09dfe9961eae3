-- Further worked examples of reading a pattern text, each named by what it shows.
use Rattle.std.specs.Prelude.{◌≡◌, ℕ, List, [], ◌∷◌, ◌++◌, codes, map, replicate, true, false, Option, Some, None, Err}
use Rattle.std.specs.Prelude.{refl}
use Rattle.std.specs.Option.{option_map}
use Rattle.std.specs.Result.{result_ok}
use Rattle.pattern_defs.specs.declared.nodes.Anchor.TheVariants as anchors
use Rattle.syntax_defs.specs.declared.items.Options.{Options}
use Rattle.syntax_defs.specs.declared.items.Target.TheVariants as targets
use Rattle.syntax_defs.specs.declared.items.Item.TheVariants.{One, At, Group, Repeat, Behind, Atomic, Back}
use Rattle.syntax_defs.specs.Reading.{Syntax, LeftOut, TooDeep}
use Rattle.syntax_defs.specs.ClassExamples.{categories}
use Rattle.syntax_defs.specs.Lengths.{read_pattern, lengths_of}
use Rattle.syntax_defs.specs.PatternExamples.{pattern_forms, id, options, single, within, parsed, list_count}

-- ---- limits

-- a `)` and 65,535 letters are not too long: they are refused at their first place
pub a_text_of_just_65536_characters_is_read : read_pattern (41 ∷ replicate 65535 97) ≡ Err (Syntax 0)
unfolding pattern_forms
a_text_of_just_65536_characters_is_read = refl

pub a_number_may_be_100000 : read_pattern (codes "a{100000}")
    ≡ parsed ((single 0 ∷ []) ∷ (Repeat (id 0) 100_000 (Some 100_000) true ∷ []) ∷ []) 1 0
unfolding pattern_forms
a_number_may_be_100000 = refl

pub the_second_number_has_the_same_limit : map read_pattern (codes "a{1,100001}" ∷ codes "a{1,100000}" ∷ [])
    ≡ Err (Syntax 1) ∷ parsed ((single 0 ∷ []) ∷ (Repeat (id 0) 1 (Some 100_000) true ∷ []) ∷ []) 1 0 ∷ []
unfolding pattern_forms
the_second_number_has_the_same_limit = refl

-- behind eight repeats: an interval that falls, and one with a number that is too large
pub a_ninth_repeat_goes_before_a_falling_interval : read_pattern (codes "a{1}?{1}?{1}?{1}?{2,1}") ≡ Err (TooDeep 9)
unfolding pattern_forms
a_ninth_repeat_goes_before_a_falling_interval = refl

pub a_number_that_is_too_large_goes_before_a_ninth_repeat : read_pattern (codes "a{1}?{1}?{1}?{1}?{100001}") ≡ Err (Syntax 17)
unfolding pattern_forms
a_number_that_is_too_large_goes_before_a_ninth_repeat = refl

-- 4,096 times 4,096 characters are 2^24
pub a_lookbehind_sees_2_to_the_24_characters_at_most :
    (list_count (read_pattern (codes "(?<=a{4096}{4096})x")) ≡ Some 4)
    × (read_pattern (codes "(?<=a{4096}{4096}b)x") ≡ Err (LeftOut 0))
unfolding pattern_forms
a_lookbehind_sees_2_to_the_24_characters_at_most = (refl, refl)

-- ---- repeats

pub an_interval_may_be_open : read_pattern (codes "a{2,}")
    ≡ parsed ((single 0 ∷ []) ∷ (Repeat (id 0) 2 None true ∷ []) ∷ []) 1 0
unfolding pattern_forms
an_interval_may_be_open = refl

pub braces_without_a_number_are_themselves : map read_pattern (codes "a{}" ∷ codes "a{,}" ∷ [])
    ≡ parsed ((single 0 ∷ single 1 ∷ single 2 ∷ []) ∷ []) 0 0
    ∷ parsed ((single 0 ∷ single 1 ∷ single 2 ∷ single 3 ∷ []) ∷ []) 0 0 ∷ []
unfolding pattern_forms
braces_without_a_number_are_themselves = refl

pub signs_may_be_lazy : map read_pattern (codes "a*?" ∷ codes "a+?" ∷ codes "a??" ∷ [])
    ≡ parsed ((single 0 ∷ []) ∷ (Repeat (id 0) 0 None false ∷ []) ∷ []) 1 0
    ∷ parsed ((single 0 ∷ []) ∷ (Repeat (id 0) 1 None false ∷ []) ∷ []) 1 0
    ∷ parsed ((single 0 ∷ []) ∷ (Repeat (id 0) 0 (Some 1) false ∷ []) ∷ []) 1 0 ∷ []
unfolding pattern_forms
signs_may_be_lazy = refl

pub signs_may_be_possessive : map read_pattern (codes "a++" ∷ codes "a?+" ∷ [])
    ≡ parsed ((single 0 ∷ []) ∷ (Repeat (id 0) 1 None true ∷ []) ∷ (Atomic (id 1) ∷ []) ∷ []) 2 0
    ∷ parsed ((single 0 ∷ []) ∷ (Repeat (id 0) 0 (Some 1) true ∷ []) ∷ (Atomic (id 1) ∷ []) ∷ []) 2 0 ∷ []
unfolding pattern_forms
signs_may_be_possessive = refl

pub a_plus_behind_an_interval_repeats_it : map read_pattern (codes "a{1,2}+" ∷ codes "a{2}+" ∷ [])
    ≡ parsed ((single 0 ∷ []) ∷ (Repeat (id 0) 1 (Some 2) true ∷ []) ∷ (Repeat (id 1) 1 None true ∷ []) ∷ []) 2 0
    ∷ parsed ((single 0 ∷ []) ∷ (Repeat (id 0) 2 (Some 2) true ∷ []) ∷ (Repeat (id 1) 1 None true ∷ []) ∷ []) 2 0 ∷ []
unfolding pattern_forms
a_plus_behind_an_interval_repeats_it = refl

-- ---- forms in parentheses

pub an_atomic_group_is_one_node : read_pattern (codes "(?>a)b")
    ≡ parsed ((within 1 3 ∷ []) ∷ (Atomic (id 0) ∷ single 5 ∷ []) ∷ []) 1 0
unfolding pattern_forms
an_atomic_group_is_one_node = refl

pub a_lookbehind_may_be_negative : read_pattern (codes "(?<!ab|c)x")
    ≡ parsed ((within 1 4 ∷ within 1 5 ∷ []) ∷ (within 1 7 ∷ []) ∷ (Behind 0 (id 0 ∷ id 1 ∷ []) false ∷ single 9 ∷ []) ∷ []) 2 0
unfolding pattern_forms
a_lookbehind_may_be_negative = refl

pub letters_behind_a_minus_switch_off : read_pattern (codes "(?i)a(?-i:b)c")
    ≡ parsed ((One 4 (options true) 1 ∷ One 10 (options false) 2 ∷ One 12 (options true) 1 ∷ []) ∷ []) 0 0
unfolding pattern_forms
letters_behind_a_minus_switch_off = refl

pub what_opens_and_is_not_closed_is_refused_at_the_end : map read_pattern (codes "(?" ∷ codes "(?<" ∷ codes "(?i" ∷ [])
    ≡ Err (Syntax 2) ∷ Err (Syntax 3) ∷ Err (Syntax 3) ∷ []
unfolding pattern_forms
what_opens_and_is_not_closed_is_refused_at_the_end = refl

pub a_name_is_not_empty_and_begins_with_no_digit : map read_pattern (codes "(?<>x)" ∷ codes "(?<1>x)" ∷ [])
    ≡ Err (Syntax 0) ∷ Err (Syntax 0) ∷ []
unfolding pattern_forms categories
a_name_is_not_empty_and_begins_with_no_digit = refl

-- ---- the option `x`

abbrev spaced : Options
spaced = record { any_case = false; dot_all = false; spaced = true }

-- the tab, LF, the form feed, CR and the space are passed over, and the vertical tab isn't
pub five_characters_are_blanks : read_pattern (codes "(?x)" ++ 9 ∷ 10 ∷ 12 ∷ 13 ∷ 32 ∷ 11 ∷ 97 ∷ [])
    ≡ parsed ((One 9 spaced 1 ∷ One 10 spaced 1 ∷ []) ∷ []) 0 0
unfolding pattern_forms
five_characters_are_blanks = refl

pub a_remark_ends_with_its_line : read_pattern (codes "(?x)a#b" ++ 10 ∷ codes "c")
    ≡ parsed ((One 4 spaced 1 ∷ One 8 spaced 1 ∷ []) ∷ []) 0 0
unfolding pattern_forms
a_remark_ends_with_its_line = refl

-- ---- anchors and back references

pub anchors_of_a_backslash : read_pattern (codes "\\A\\G\\Z\\B")
    ≡ parsed ((At anchors.First ∷ At anchors.Mark ∷ At anchors.LastEnd ∷ At anchors.NoWordEdge ∷ []) ∷ []) 0 0
unfolding pattern_forms
anchors_of_a_backslash = refl

pub a_reference_may_name_the_last_group : read_pattern (codes "(a)\\1b")
    ≡ parsed ((within 1 1 ∷ []) ∷ (Group 1 (id 0) ∷ Back 3 (targets.Number 1) false ∷ single 5 ∷ []) ∷ []) 1 1
unfolding pattern_forms
a_reference_may_name_the_last_group = refl

pub a_reference_takes_all_its_digits : read_pattern (codes "(a)\\12") ≡ Err (LeftOut 3)
unfolding pattern_forms
a_reference_takes_all_its_digits = refl

pub a_reference_folds_with_i : read_pattern (codes "(?i)(a)\\1")
    ≡ parsed ((One 5 (options true) 2 ∷ []) ∷ (Group 1 (id 0) ∷ Back 7 (targets.Number 1) true ∷ []) ∷ []) 1 1
unfolding pattern_forms
a_reference_folds_with_i = refl

-- The text has no groups. The list of the second reference ends first.
pub late_faults_are_told_by_place : read_pattern (codes "\\1(?:\\2)*") ≡ Err (LeftOut 0)
unfolding pattern_forms
late_faults_are_told_by_place = refl

-- ---- lengths

-- the lengths of the lists of a pattern text, where it can be read
abbrev lengths : List ℕ → Option (List (Option ℕ))
lengths text = option_map (λ p. lengths_of p.lists) (result_ok (read_pattern text))

pub a_list_is_as_long_as_its_items_and_a_repeat_as_its_product : lengths (codes "(?:ab){2}c") ≡ Some (Some 2 ∷ Some 5 ∷ [])
unfolding pattern_forms
a_list_is_as_long_as_its_items_and_a_repeat_as_its_product = refl

pub anchors_and_lookaround_take_nothing : lengths (codes "^(?=abc)(?<!b)x") ≡ Some (Some 3 ∷ Some 1 ∷ Some 1 ∷ [])
unfolding pattern_forms
anchors_and_lookaround_take_nothing = refl

pub a_group_is_as_long_as_its_body : lengths (codes "(a|b)(?>cd)")
    ≡ Some (Some 1 ∷ Some 1 ∷ Some 1 ∷ Some 2 ∷ Some 3 ∷ [])
unfolding pattern_forms
a_group_is_as_long_as_its_body = refl

pub other_repeats_references_and_unequal_alternatives_are_open :
    map lengths (codes "a?" ∷ codes "(a)\\1" ∷ codes "a|bc" ∷ [])
    ≡ Some (Some 1 ∷ None ∷ []) ∷ Some (Some 1 ∷ None ∷ []) ∷ Some (Some 1 ∷ Some 2 ∷ None ∷ []) ∷ []
unfolding pattern_forms
other_repeats_references_and_unequal_alternatives_are_open = refl
