-- Worked examples of reading a pattern text, each named by what it shows.
use Rattle.std.specs.Prelude.{◌≡◌, ℕ, List, [], ◌∷◌, codes, length, replicate, Bool, true, false, Option, Some, None}
use Rattle.std.specs.Prelude.{Result, Ok, Err, refl}
use Rattle.std.specs.Option.{option_map}
use Rattle.std.specs.Result.{result_ok}
use Rattle.pattern_defs.specs.declared.nodes.ListId.{ListId}
use Rattle.pattern_defs.specs.declared.nodes.Anchor.TheVariants as anchors
use Rattle.syntax_defs.specs.declared.items.Options.{Options}
use Rattle.syntax_defs.specs.declared.items.Target.TheVariants as targets
use Rattle.syntax_defs.specs.declared.items.Item.{Item}
use Rattle.syntax_defs.specs.declared.items.Item.TheVariants.{One, At, Choice, Group, Repeat, Behind, Atomic, Back}
use Rattle.syntax_defs.specs.Reading.{Fault, Syntax, LeftOut, TooDeep, TooLong}
use Rattle.syntax_defs.specs.PatternSyntax.{Parsed, body_at, steps}
use Rattle.syntax_defs.specs.ClassExamples.{categories}
use Rattle.syntax_defs.specs.EscapeExamples.{escape_forms}
use Rattle.syntax_defs.specs.Lengths.{read_pattern}

-- one name to unfold where an example reads a pattern text
unfoldable pub pattern_forms : Unit {0}
unfolding body_at steps
pattern_forms = tt

abbrev pub id : ℕ → ListId
id n = record { 0 = n }

abbrev pub options : Bool → Options
options any_case = record { any_case = any_case; dot_all = false; spaced = false }

-- a single character at a place outside of all groups
abbrev pub single : ℕ → Item
single at = One at (options false) 0

-- the same within so many forms
abbrev pub within : ℕ → ℕ → Item
within depth at = One at (options false) depth

-- a pattern without names, whose last list is the whole
abbrev pub parsed : List (List Item) → ℕ → ℕ → Result Parsed Fault
parsed lists top groups = Ok (record { lists = lists; top = id top; groups = groups; names = [] })

-- how many lists it has, where it can be read
abbrev pub list_count : Result Parsed Fault → Option ℕ
list_count read = option_map (λ p. length p.lists) (result_ok read)

pub an_open_group_is_refused_at_the_end : read_pattern (codes "a(") ≡ Err (Syntax 2)
unfolding pattern_forms
an_open_group_is_refused_at_the_end = refl

pub a_repeat_wants_an_item : read_pattern (codes "*a") ≡ Err (Syntax 0)
unfolding pattern_forms
a_repeat_wants_an_item = refl

pub a_repeat_wants_an_item_in_its_alternative : read_pattern (codes "a|*") ≡ Err (Syntax 2)
unfolding pattern_forms
a_repeat_wants_an_item_in_its_alternative = refl

pub absent_operators_are_left_out : read_pattern (codes "(?~x)") ≡ Err (LeftOut 0)
unfolding pattern_forms
absent_operators_are_left_out = refl

pub a_lookbehind_has_a_length : read_pattern (codes "(?<=a*)x") ≡ Err (LeftOut 0)
unfolding pattern_forms
a_lookbehind_has_a_length = refl

pub a_back_reference_wants_its_group : read_pattern (codes "\\2(a)") ≡ Err (LeftOut 0)
unfolding pattern_forms
a_back_reference_wants_its_group = refl

pub a_close_wants_its_group : read_pattern (codes "a)(") ≡ Err (Syntax 1)
unfolding pattern_forms
a_close_wants_its_group = refl

pub an_interval_does_not_fall : read_pattern (codes "a{2,1}") ≡ Err (LeftOut 1)
unfolding pattern_forms
an_interval_does_not_fall = refl

pub a_number_is_at_most_100000 : read_pattern (codes "a{100001}") ≡ Err (Syntax 1)
unfolding pattern_forms
a_number_is_at_most_100000 = refl

pub a_greater_number_goes_first : read_pattern (codes "a{100001,1}") ≡ Err (Syntax 1)
unfolding pattern_forms
a_greater_number_goes_first = refl

pub a_ninth_repeat_is_refused : read_pattern (codes "a{1}?{1}?{1}?{1}?*") ≡ Err (TooDeep 9)
unfolding pattern_forms
a_ninth_repeat_is_refused = refl

pub eight_repeats_stand_on_one_item : list_count (read_pattern (codes "a{1}?{1}?{1}?{1}?")) ≡ Some 9
unfolding pattern_forms
eight_repeats_stand_on_one_item = refl

pub a_hundred_and_first_group_is_refused : read_pattern (replicate 101 40) ≡ Err (TooDeep 101)
unfolding pattern_forms
a_hundred_and_first_group_is_refused = refl

pub a_hundred_groups_may_open : read_pattern (replicate 100 40) ≡ Err (Syntax 100)
unfolding pattern_forms
a_hundred_groups_may_open = refl

pub a_text_has_at_most_65536_characters : read_pattern (replicate 65537 97) ≡ Err (TooLong 65537)
unfolding pattern_forms
a_text_has_at_most_65536_characters = refl

pub a_comment_is_closed : read_pattern (codes "a(?#\\)") ≡ Err (Syntax 6)
unfolding pattern_forms
a_comment_is_closed = refl

pub a_comment_is_no_item : read_pattern (codes "(?#c)*") ≡ Err (Syntax 5)
unfolding pattern_forms
a_comment_is_no_item = refl

pub a_name_is_closed : read_pattern (codes "(?<name") ≡ Err (Syntax 7)
unfolding pattern_forms categories
a_name_is_closed = refl

pub a_bad_name_goes_before_the_end : read_pattern (codes "(?<n-") ≡ Err (Syntax 0)
unfolding pattern_forms categories
a_bad_name_goes_before_the_end = refl

pub options_are_letters : read_pattern (codes "(?)") ≡ Err (LeftOut 0)
unfolding pattern_forms
options_are_letters = refl

pub a_second_group_of_a_name_is_left_out : read_pattern (codes "(?<a>x)(?<a>y)") ≡ Err (LeftOut 7)
unfolding pattern_forms categories
a_second_group_of_a_name_is_left_out = refl

pub the_first_late_fault_counts : read_pattern (codes "(?<=b*)\\1") ≡ Err (LeftOut 0)
unfolding pattern_forms
the_first_late_fault_counts = refl

pub inner_alternatives_have_equal_lengths : read_pattern (codes "(?<=(?:a|bc))x") ≡ Err (LeftOut 0)
unfolding pattern_forms
inner_alternatives_have_equal_lengths = refl

pub a_lone_brace_is_itself : read_pattern (codes "{") ≡ parsed ((single 0 ∷ []) ∷ []) 0 0
unfolding pattern_forms
a_lone_brace_is_itself = refl

pub alternatives_are_lists : read_pattern (codes "a|b")
    ≡ parsed ((single 0 ∷ []) ∷ (single 2 ∷ []) ∷ (Choice (id 0 ∷ id 1 ∷ []) ∷ []) ∷ []) 2 0
unfolding pattern_forms
alternatives_are_lists = refl

pub an_empty_pattern_is_an_empty_list : read_pattern (codes "") ≡ parsed ([] ∷ []) 0 0
unfolding pattern_forms
an_empty_pattern_is_an_empty_list = refl

pub a_plain_group_is_no_node : read_pattern (codes "a(?:bc)")
    ≡ parsed ((single 0 ∷ within 1 4 ∷ within 1 5 ∷ []) ∷ []) 0 0
unfolding pattern_forms
a_plain_group_is_no_node = refl

pub a_plain_group_is_repeated_whole : read_pattern (codes "(?:bc)*")
    ≡ parsed ((within 1 3 ∷ within 1 4 ∷ []) ∷ (Repeat (id 0) 0 None true ∷ []) ∷ []) 1 0
unfolding pattern_forms
a_plain_group_is_repeated_whole = refl

pub a_repeat_takes_the_last_item : read_pattern (codes "ab*")
    ≡ parsed ((single 1 ∷ []) ∷ (single 0 ∷ Repeat (id 0) 0 None true ∷ []) ∷ []) 1 0
unfolding pattern_forms
a_repeat_takes_the_last_item = refl

pub a_comment_is_passed_over : read_pattern (codes "a(?#c)*")
    ≡ parsed ((single 0 ∷ []) ∷ (Repeat (id 0) 0 None true ∷ []) ∷ []) 1 0
unfolding pattern_forms
a_comment_is_passed_over = refl

pub a_possessive_repeat_is_atomic : read_pattern (codes "a*+")
    ≡ parsed ((single 0 ∷ []) ∷ (Repeat (id 0) 0 None true ∷ []) ∷ (Atomic (id 1) ∷ []) ∷ []) 2 0
unfolding pattern_forms
a_possessive_repeat_is_atomic = refl

pub an_interval_may_begin_with_a_comma : read_pattern (codes "a{,2}")
    ≡ parsed ((single 0 ∷ []) ∷ (Repeat (id 0) 0 (Some 2) true ∷ []) ∷ []) 1 0
unfolding pattern_forms
an_interval_may_begin_with_a_comma = refl

pub an_interval_may_be_lazy : read_pattern (codes "a{1,2}?")
    ≡ parsed ((single 0 ∷ []) ∷ (Repeat (id 0) 1 (Some 2) false ∷ []) ∷ []) 1 0
unfolding pattern_forms
an_interval_may_be_lazy = refl

pub a_count_is_not_lazy_but_optional : read_pattern (codes "a{2}?")
    ≡ parsed ((single 0 ∷ []) ∷ (Repeat (id 0) 2 (Some 2) true ∷ []) ∷ (Repeat (id 1) 0 (Some 1) true ∷ []) ∷ []) 2 0
unfolding pattern_forms
a_count_is_not_lazy_but_optional = refl

-- `a` and `bc` are alternatives of what the options hold for, so of a form inside, and differ in length
pub options_hold_for_all_alternatives_behind_them : read_pattern (codes "(?<=(?i)a|bc)x") ≡ Err (LeftOut 0)
unfolding pattern_forms
options_hold_for_all_alternatives_behind_them = refl

pub no_option_need_change : read_pattern (codes "(?-)a") ≡ parsed ((within 1 4 ∷ []) ∷ []) 0 0
unfolding pattern_forms
no_option_need_change = refl

pub options_have_one_minus : read_pattern (codes "(?i-m-x:a)") ≡ Err (LeftOut 0)
unfolding pattern_forms
options_have_one_minus = refl

pub with_m_the_dot_takes_all : read_pattern (codes "(?m).")
    ≡ parsed ((One 4 (record { any_case = false; dot_all = true; spaced = false }) 1 ∷ []) ∷ []) 0 0
unfolding pattern_forms
with_m_the_dot_takes_all = refl

pub options_reach_to_the_end_of_their_group : read_pattern (codes "((?i)a|b)c")
    ≡ parsed ((One 5 (options true) 2 ∷ []) ∷ (One 7 (options true) 2 ∷ []) ∷ (Choice (id 0 ∷ id 1 ∷ []) ∷ [])
    ∷ (Group 1 (id 2) ∷ single 9 ∷ []) ∷ []) 3 1
unfolding pattern_forms
options_reach_to_the_end_of_their_group = refl

pub groups_are_numbered_by_their_opening : read_pattern (codes "((a)b)")
    ≡ parsed ((within 2 2 ∷ []) ∷ (Group 2 (id 0) ∷ within 1 4 ∷ []) ∷ (Group 1 (id 1) ∷ []) ∷ []) 2 2
unfolding pattern_forms
groups_are_numbered_by_their_opening = refl

pub a_lookbehind_has_arms : read_pattern (codes "(?<=ab|c)x")
    ≡ parsed ((within 1 4 ∷ within 1 5 ∷ []) ∷ (within 1 7 ∷ []) ∷ (Behind 0 (id 0 ∷ id 1 ∷ []) true ∷ single 9 ∷ [])
    ∷ []) 2 0
unfolding pattern_forms
a_lookbehind_has_arms = refl

pub a_name_has_the_number_of_its_group : read_pattern (codes "(?<a>x)\\k<a>")
    ≡ Ok (record {
      lists = (within 1 5 ∷ [])
          ∷ (Group 1 (id 0) ∷ Back 7 (targets.Name (record { from = 10; to = 11 })) false ∷ []) ∷ [];
      top = id 1;
      groups =
          1;
      names = record { name = record { from = 3; to = 4 }; number = 1 } ∷ [];
    })
unfolding pattern_forms categories
a_name_has_the_number_of_its_group = refl

pub names_may_stand_in_quotes : read_pattern (codes "(?'a'x)\\k'a'")
    ≡ Ok (record {
      lists = (within 1 5 ∷ [])
          ∷ (Group 1 (id 0) ∷ Back 7 (targets.Name (record { from = 10; to = 11 })) false ∷ []) ∷ [];
      top = id 1;
      groups =
          1;
      names = record { name = record { from = 3; to = 4 }; number = 1 } ∷ [];
    })
unfolding pattern_forms categories
names_may_stand_in_quotes = refl

pub a_number_has_no_leading_zero : read_pattern (codes "(a)\\k<01>") ≡ Err (Syntax 3)
unfolding pattern_forms categories
a_number_has_no_leading_zero = refl

pub blanks_are_passed_over_with_x : read_pattern (codes "(?x)a #b")
    ≡ parsed ((One 4 (record { any_case = false; dot_all = false; spaced = true }) 1 ∷ []) ∷ []) 0 0
unfolding pattern_forms
blanks_are_passed_over_with_x = refl

pub an_unknown_escape_is_left_out : read_pattern (codes "a\\q") ≡ Err (LeftOut 1)
unfolding pattern_forms escape_forms
an_unknown_escape_is_left_out = refl

pub a_backslash_at_the_end_is_refused_at_its_place : read_pattern (codes "a\\") ≡ Err (Syntax 1)
unfolding pattern_forms escape_forms
a_backslash_at_the_end_is_refused_at_its_place = refl

pub a_word_edge_may_stand_in_a_group : read_pattern (codes "(?:\\b)") ≡ parsed ((At anchors.WordEdge ∷ []) ∷ []) 0 0
unfolding pattern_forms
a_word_edge_may_stand_in_a_group = refl

pub anchors_are_one_node_each : read_pattern (codes "^\\z$")
    ≡ parsed ((At anchors.LineStart ∷ At anchors.End ∷ At anchors.LineEnd ∷ []) ∷ []) 0 0
unfolding pattern_forms
anchors_are_one_node_each = refl

pub a_bad_name_goes_before_the_texts_end : read_pattern (codes "\\k<0") ≡ Err (Syntax 0)
unfolding pattern_forms categories
a_bad_name_goes_before_the_texts_end = refl
