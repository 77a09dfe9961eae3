-- Captures, each example named by what it shows.
use Rattle.std.specs.Prelude.{◌≡◌, [], ◌∷◌, refl}
use Rattle.line_defs.specs.Machine.{Machine}
use Rattle.line_examples.specs.Short.{group, single, block, with_content, capture, inside, inside_with, with_captures}
use Rattle.line_examples.specs.Short.{grammar, with_budget, line, stopped, token, told}

abbrev nested_captures : Machine
nested_captures = grammar
    (group (1 ∷ [])
    ∷ with_captures (capture 0 "w" ∷ capture 1 "x" ∷ capture 2 "y" ∷ capture 3 "z" ∷ capture 4 "u" ∷ capture 5
    "v $5.$4" ∷ []) (single "m" "((a)(b))(c)?(d)") ∷ [])

pub captures_stand_in_one_another : told nested_captures ("abd abcd" ∷ [])
    ≡ line (token 0 1 "s m w x y" ∷ token 1 2 "s m w x z" ∷ token 2 3 "s m w v d." ∷ token 3 4 "s" ∷ token 4 5
    "s m w x y"
    ∷ token 5 6 "s m w x z" ∷ token 6 7 "s m w u" ∷ token 7 8 "s m w v d.c" ∷ []) (0 ∷ []) ∷ []
unfolding told
captures_stand_in_one_another = refl

abbrev captures_that_overlap : Machine
captures_that_overlap = grammar
    (group (1 ∷ [])
    ∷ with_captures (capture 1 "x" ∷ capture 2 "y" ∷ []) (single "m" "a(?=bb(c))(b)") ∷ [])

pub a_capture_that_ends_behind_the_match_is_told_to_its_end : told captures_that_overlap ("abbc" ∷ [])
    ≡ line (token 0 2 "s m" ∷ token 2 4 "s" ∷ []) (0 ∷ []) ∷ []
unfolding told
a_capture_that_ends_behind_the_match_is_told_to_its_end = refl

abbrev captures_behind_the_match : Machine
captures_behind_the_match = grammar
    (group (1 ∷ [])
    ∷ with_captures (capture 1 "x" ∷ capture 2 "y" ∷ []) (single "m" "a(?=b(c)(d))") ∷ [])

pub a_capture_that_starts_behind_the_match_ends_the_captures : told captures_behind_the_match ("abcd" ∷ [])
    ≡ line (token 0 1 "s m" ∷ token 1 4 "s" ∷ []) (0 ∷ []) ∷ []
unfolding told
a_capture_that_starts_behind_the_match_ends_the_captures = refl

abbrev captures_at_the_end : Machine
captures_at_the_end = grammar
    (group (1 ∷ [])
    ∷ with_captures (capture 1 "x" ∷ capture 2 "y" ∷ []) (single "m" "a(?=(b)(c))") ∷ [])

pub a_capture_that_starts_at_the_end_of_the_match_is_told : told captures_at_the_end ("abcd" ∷ [])
    ≡ line (token 0 1 "s m" ∷ token 1 2 "s m x" ∷ token 2 4 "s" ∷ []) (0 ∷ []) ∷ []
unfolding told
a_capture_that_starts_at_the_end_of_the_match_is_told = refl

abbrev captures_before_the_match : Machine
captures_before_the_match = grammar
    (group (1 ∷ [])
    ∷ with_captures (capture 1 "x" ∷ capture 2 "y" ∷ []) (single "m" "(?<=(a))b(c)") ∷ [])

pub a_capture_before_the_match_is_told_where_no_token_is_yet : told captures_before_the_match ("abcd" ∷ [])
    ≡ line (token 0 1 "s" ∷ token 1 2 "s m" ∷ token 2 3 "s m y" ∷ token 3 4 "s" ∷ []) (0 ∷ []) ∷ []
unfolding told
a_capture_before_the_match_is_told_where_no_token_is_yet = refl

abbrev captures_ahead_of_the_next_match : Machine
captures_ahead_of_the_next_match = grammar
    (group (1 ∷ 2 ∷ [])
    ∷ with_captures (capture 1 "x" ∷ []) (single "m" "a(?=(bcd))")
    ∷ with_captures (capture 1 "y" ∷ []) (single "k" "b(c)") ∷ [])

pub what_a_capture_told_ahead_stays_told : told captures_ahead_of_the_next_match ("abcd" ∷ [])
    ≡ line (token 0 1 "s m" ∷ token 1 4 "s m x" ∷ []) (0 ∷ []) ∷ []
unfolding told
what_a_capture_told_ahead_stays_told = refl

abbrev patterns_in_a_capture : Machine
patterns_in_a_capture = grammar
    (group (1 ∷ [])
    ∷ with_captures (inside 1 "cap" 2 ∷ []) (single "m" "a(?=(bc))")
    ∷ group (3 ∷ [])
    ∷ single "in" "c" ∷ [])

pub a_run_over_a_capture_goes_to_its_end : told patterns_in_a_capture ("abcd" ∷ [])
    ≡ line (token 0 1 "s m" ∷ token 1 2 "s m cap" ∷ token 2 3 "s m cap in" ∷ token 3 4 "s" ∷ []) (0 ∷ []) ∷ []
unfolding told
a_run_over_a_capture_goes_to_its_end = refl

abbrev frames_in_a_capture : Machine
frames_in_a_capture = grammar
    (group (1 ∷ [])
    ∷ with_captures (inside 1 "c" 2 ∷ []) (single "t" "<(.*)>")
    ∷ group (3 ∷ 4 ∷ 5 ∷ [])
    ∷ with_content "q" (block "p" "\\(" "\\)" [])
    ∷ single "g" "\\Gx"
    ∷ single "e" "$" ∷ [])

pub a_run_over_a_capture_ends_with_it_and_its_frames_are_dropped : told frames_in_a_capture ("<x(a)x(b>c" ∷ [])
    ≡ line (token 0 1 "s t" ∷ token 1 2 "s t c" ∷ token 2 3 "s t c p" ∷ token 3 4 "s t c p q" ∷ token 4 5 "s t c p"
    ∷ token 5 6 "s t c" ∷ token 6 7 "s t c p" ∷ token 7 8 "s t c p q" ∷ token 8 9 "s t" ∷ token 9 10 "s" ∷ [])
    (0 ∷ []) ∷ []
unfolding told
a_run_over_a_capture_ends_with_it_and_its_frames_are_dropped = refl

abbrev places_in_captures : Machine
places_in_captures = grammar
    (group (1 ∷ [])
    ∷ with_captures (inside 1 "" 2 ∷ inside 2 "" 4 ∷ []) (single "t" "(a)(a)")
    ∷ group (3 ∷ [])
    ∷ single "f" "\\Aa"
    ∷ group (5 ∷ 6 ∷ 7 ∷ [])
    ∷ single "f" "\\Aa"
    ∷ single "g" "\\Ga"
    ∷ single "h" "a$" ∷ [])

pub the_first_place_and_the_anchor_in_captures : told places_in_captures ("aa" ∷ "aa" ∷ [])
    ≡ line (token 0 1 "s t f" ∷ token 1 2 "s t h" ∷ []) (0 ∷ [])
    ∷ line (token 0 1 "s t" ∷ token 1 2 "s t h" ∷ []) (0 ∷ []) ∷ []
unfolding told
the_first_place_and_the_anchor_in_captures = refl

abbrev first_behind_a_capture : Machine
first_behind_a_capture = grammar
    (group (1 ∷ 5 ∷ [])
    ∷ with_captures (inside 2 "" 2 ∷ []) (single "m" "(a)(b)")
    ∷ group (3 ∷ 4 ∷ [])
    ∷ single "f" "(?<=\\Aa)b"
    ∷ single "k" "b"
    ∷ single "g" "(?<=\\Ac)b" ∷ [])

pub the_first_place_holds_only_in_a_capture_at_the_front : told first_behind_a_capture ("abcb" ∷ "ab" ∷ [])
    ≡ line (token 0 1 "s m" ∷ token 1 2 "s m k" ∷ token 2 4 "s" ∷ []) (0 ∷ [])
    ∷ line (token 0 1 "s m" ∷ token 1 2 "s m k" ∷ []) (0 ∷ []) ∷ []
unfolding told
the_first_place_holds_only_in_a_capture_at_the_front = refl

abbrev spent_in_a_capture : Machine
spent_in_a_capture = with_budget 120 (grammar
    (group (1 ∷ [])
    ∷ with_captures (capture 0 "z" ∷ inside 1 "c" 2 ∷ []) (single "t" "<(.*)>")
    ∷ group (3 ∷ 4 ∷ [])
    ∷ single "a" "a"
    ∷ single "k" "(b*)*c" ∷ []))

pub a_spent_attempt_ends_the_run_over_its_capture_alone : told spent_in_a_capture ("<abbbbbbb>a" ∷ "<abc>" ∷ [])
    ≡ stopped (token 0 1 "s t z" ∷ token 1 2 "s t c a" ∷ token 2 9 "s t c" ∷ token 9 10 "s t z" ∷ token 10 11 "s"
    ∷ []) (0 ∷ [])
    ∷ line (token 0 1 "s t z" ∷ token 1 2 "s t c a" ∷ token 2 4 "s t c k" ∷ token 4 5 "s t z" ∷ []) (0 ∷ []) ∷ []
unfolding told
a_spent_attempt_ends_the_run_over_its_capture_alone = refl

abbrev captures_in_captures : Machine
captures_in_captures = grammar
    (group (1 ∷ [])
    ∷ with_captures (inside_with 1 "c" "d" 2 ∷ []) (single "m" "(a)")
    ∷ group (1 ∷ []) ∷ [])

pub runs_over_captures_go_sixteen_deep : told captures_in_captures ("ab" ∷ [])
    ≡ line (token 0 1
    "s m c d m c d m c d m c d m c d m c d m c d m c d m c d m c d m c d m c d m c d m c d m c d m c d m c"
    ∷ token 1 2 "s" ∷ []) (0 ∷ []) ∷ []
unfolding told
runs_over_captures_go_sixteen_deep = refl

abbrev empty_captures : Machine
empty_captures = grammar
    (group (1 ∷ [])
    ∷ with_captures (capture 1 "x" ∷ capture 2 "y" ∷ capture 3 "z" ∷ []) (single "m" "()a(?=bc())(b)") ∷ [])

pub empty_captures_are_skipped_also_behind_the_match : told empty_captures ("abc" ∷ [])
    ≡ line (token 0 1 "s m" ∷ token 1 2 "s m z" ∷ token 2 3 "s" ∷ []) (0 ∷ []) ∷ []
unfolding told
empty_captures_are_skipped_also_behind_the_match = refl

abbrev an_empty_capture_inside : Machine
an_empty_capture_inside = grammar (group (1 ∷ []) ∷ with_captures (capture 1 "x" ∷ []) (single "m" "a()b") ∷ [])

pub an_empty_capture_parts_no_token : told an_empty_capture_inside ("ab" ∷ []) ≡ line (token 0 2 "s m" ∷ []) (0 ∷ []) ∷ []
unfolding told
an_empty_capture_parts_no_token = refl
