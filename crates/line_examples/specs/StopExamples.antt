-- Turns that take nothing, each named by what it shows.
use Rattle.std.specs.Prelude.{◌≡◌, [], ◌∷◌, refl}
use Rattle.line_defs.specs.Machine.{Machine}
use Rattle.line_examples.specs.Short.{group, single, block, with_content, inside, with_captures, grammar, line, token}
use Rattle.line_examples.specs.Short.{told}

abbrev looking_ahead_inside : Machine
looking_ahead_inside = grammar
    (group (1 ∷ [])
    ∷ block "b" "<" ">" (2 ∷ 3 ∷ [])
    ∷ single "n" "(?=x)"
    ∷ single "y" "y" ∷ [])

pub a_match_that_takes_nothing_pops_a_frame : told looking_ahead_inside ("<yxy>" ∷ "y>" ∷ [])
    ≡ line (token 0 1 "s b" ∷ token 1 2 "s b y" ∷ token 2 5 "s" ∷ []) (0 ∷ [])
    ∷ line (token 0 2 "s" ∷ []) (0 ∷ []) ∷ []
unfolding told
a_match_that_takes_nothing_pops_a_frame = refl

abbrev looking_ahead_in_the_root : Machine
looking_ahead_in_the_root = grammar
    (group (1 ∷ 2 ∷ [])
    ∷ single "n" "(?=x)"
    ∷ single "y" "y" ∷ [])

pub a_match_that_takes_nothing_leaves_the_root : told looking_ahead_in_the_root ("yxy" ∷ "y" ∷ [])
    ≡ line (token 0 1 "s y" ∷ token 1 3 "s" ∷ []) (0 ∷ [])
    ∷ line (token 0 1 "s y" ∷ []) (0 ∷ []) ∷ []
unfolding told
a_match_that_takes_nothing_leaves_the_root = refl

abbrev entered_and_ended_at_one_place : Machine
entered_and_ended_at_one_place = grammar
    (group (1 ∷ [])
    ∷ block "z" "(?=a)" "(?=a)" [] ∷ [])

pub a_frame_that_ends_where_it_was_entered_stands_again : told entered_and_ended_at_one_place ("ba" ∷ "b" ∷ [])
    ≡ line (token 0 1 "s" ∷ token 1 2 "s z" ∷ []) (1 ∷ 0 ∷ [])
    ∷ line (token 0 1 "s z" ∷ []) (1 ∷ 0 ∷ []) ∷ []
unfolding told
a_frame_that_ends_where_it_was_entered_stands_again = refl

abbrev entered_and_ended_with_rules_inside : Machine
entered_and_ended_with_rules_inside = grammar
    (group (1 ∷ [])
    ∷ block "z" "(?=a)" "(?=a)" (2 ∷ [])
    ∷ single "b" "b" ∷ [])

pub such_a_frame_is_open_in_the_next_line : told entered_and_ended_with_rules_inside ("ba" ∷ "ab" ∷ [])
    ≡ line (token 0 1 "s" ∷ token 1 2 "s z" ∷ []) (1 ∷ 0 ∷ [])
    ∷ line (token 0 2 "s z" ∷ []) (1 ∷ 0 ∷ []) ∷ []
unfolding told
such_a_frame_is_open_in_the_next_line = refl

abbrev ended_inside_another : Machine
ended_inside_another = grammar
    (group (1 ∷ [])
    ∷ with_content "in" (block "z" "<" "(?=a)|>" (2 ∷ []))
    ∷ with_content "yin" (block "y" "(?=a)" "(?=a)" []) ∷ [])

pub such_a_frame_stands_with_the_scopes_of_its_whole : told ended_inside_another ("<aa>" ∷ "a>" ∷ [])
    ≡ line (token 0 1 "s z" ∷ token 1 4 "s" ∷ []) (0 ∷ [])
    ∷ line (token 0 2 "s" ∷ []) (0 ∷ []) ∷ []
unfolding told
such_a_frame_stands_with_the_scopes_of_its_whole = refl

abbrev ended_with_an_advance : Machine
ended_with_an_advance = grammar
    (group (1 ∷ 3 ∷ [])
    ∷ block "z" "(?=a)" "a|z" (2 ∷ [])
    ∷ single "b" "b"
    ∷ single "c" "b" ∷ [])

pub a_frame_that_takes_something_as_it_ends_is_popped : told ended_with_an_advance ("bab" ∷ "bz" ∷ [])
    ≡ line (token 0 1 "s c" ∷ token 1 2 "s z" ∷ token 2 3 "s c" ∷ []) (0 ∷ [])
    ∷ line (token 0 1 "s c" ∷ token 1 2 "s" ∷ []) (0 ∷ []) ∷ []
unfolding told
a_frame_that_takes_something_as_it_ends_is_popped = refl

abbrev one_rule_twice : Machine
one_rule_twice = grammar
    (group (1 ∷ [])
    ∷ block "z" "(?=a)" "$" (1 ∷ []) ∷ [])

pub a_frame_on_one_of_its_own_rule_is_popped_where_it_takes_nothing : told one_rule_twice ("ba" ∷ "a" ∷ [])
    ≡ line (token 0 1 "s" ∷ token 1 2 "s z z" ∷ []) (1 ∷ 1 ∷ 0 ∷ [])
    ∷ line (token 0 1 "s z z z" ∷ []) (1 ∷ 1 ∷ 1 ∷ 0 ∷ []) ∷ []
unfolding told
a_frame_on_one_of_its_own_rule_is_popped_where_it_takes_nothing = refl

abbrev two_rules_in_turn : Machine
two_rules_in_turn = grammar
    (group (1 ∷ [])
    ∷ block "x" "(?=a)" "q" (2 ∷ [])
    ∷ block "y" "(?=a)" "r" (1 ∷ []) ∷ [])

pub one_of_its_own_rule_is_looked_for_below_others : told two_rules_in_turn ("ba" ∷ "rq" ∷ [])
    ≡ line (token 0 1 "s" ∷ token 1 2 "s x y x" ∷ []) (1 ∷ 2 ∷ 1 ∷ 0 ∷ [])
    ∷ line (token 0 1 "s x y x" ∷ token 1 2 "s x y x" ∷ []) (2 ∷ 1 ∷ 0 ∷ []) ∷ []
unfolding told
one_of_its_own_rule_is_looked_for_below_others = refl

abbrev ended_elsewhere : Machine
ended_elsewhere = grammar
    (group (1 ∷ [])
    ∷ block "x" "(?=a)" "(?!a)" (2 ∷ [])
    ∷ block "y" "(?=a)" "(?=a)" (3 ∷ [])
    ∷ single "a" "a" ∷ [])

pub a_frame_that_was_entered_elsewhere_may_end_here : told ended_elsewhere ("baab" ∷ "a" ∷ [])
    ≡ line (token 0 1 "s" ∷ token 1 4 "s x y" ∷ []) (2 ∷ 1 ∷ 0 ∷ [])
    ∷ line (token 0 1 "s x y" ∷ []) (2 ∷ 1 ∷ 0 ∷ []) ∷ []
unfolding told
a_frame_that_was_entered_elsewhere_may_end_here = refl

abbrev entered_below_a_capture : Machine
entered_below_a_capture = grammar
    (group (1 ∷ [])
    ∷ with_captures (inside 1 "c" 2 ∷ []) (block "r" "(?=(a))" "b" (3 ∷ []))
    ∷ group (1 ∷ [])
    ∷ single "a" "a" ∷ [])

pub a_frame_below_a_capture_counts_as_entered_here : told entered_below_a_capture ("aab" ∷ "xa" ∷ [])
    ≡ line (token 0 1 "s r c r c r c r c r c r c r c r c r c r c r c r c r c r c r c r c r c" ∷ token 1 2 "s r a"
    ∷ token 2 3 "s r" ∷ []) (0 ∷ [])
    ∷ line (token 0 1 "s" ∷ token 1 2 "s r c r c r c r c r c r c r c r c r c r c r c r c r c r c r c r c r c" ∷ [])
    (1 ∷ 0 ∷ []) ∷ []
unfolding told
a_frame_below_a_capture_counts_as_entered_here = refl

abbrev entered_in_a_capture : Machine
entered_in_a_capture = grammar
    (group (1 ∷ [])
    ∷ with_captures (inside 1 "c" 2 ∷ []) (block "r" "(?=(a+))" "b" (3 ∷ []))
    ∷ group (4 ∷ [])
    ∷ single "a" "a"
    ∷ block "q" "(?=a)" "z" (5 ∷ [])
    ∷ single "k" "a" ∷ [])

pub frames_that_a_capture_entered_are_dropped : told entered_in_a_capture ("aab" ∷ "xa" ∷ [])
    ≡ line (token 0 1 "s r c q k" ∷ token 1 2 "s r c q k" ∷ token 2 3 "s r" ∷ []) (0 ∷ [])
    ∷ line (token 0 1 "s" ∷ token 1 2 "s r c q k" ∷ []) (1 ∷ 0 ∷ []) ∷ []
unfolding told
frames_that_a_capture_entered_are_dropped = refl

abbrev the_same_rule_in_a_capture : Machine
the_same_rule_in_a_capture = grammar
    (group (1 ∷ [])
    ∷ with_captures (inside 1 "c" 2 ∷ []) (block "r" "(?=(a)b|a)" "z" (3 ∷ []))
    ∷ group (1 ∷ [])
    ∷ single "k" "a" ∷ [])

pub a_rule_inside_its_own_begin_capture_stops_the_inner_run_alone : told the_same_rule_in_a_capture ("ab" ∷ "x" ∷ [])
    ≡ line (token 0 1 "s r c" ∷ token 1 2 "s r" ∷ []) (1 ∷ 0 ∷ [])
    ∷ line (token 0 1 "s r" ∷ []) (1 ∷ 0 ∷ []) ∷ []
unfolding told
a_rule_inside_its_own_begin_capture_stops_the_inner_run_alone = refl
