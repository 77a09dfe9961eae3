-- Where `\G` and `\A` hold, each example named by what it shows.
use Rattle.std.specs.Prelude.{◌≡◌, [], ◌∷◌, refl}
use Rattle.line_defs.specs.Machine.{Machine}
use Rattle.line_examples.specs.Short.{group, single, block, lasting, grammar, line, token, told}

abbrev begun_over_the_line_end : Machine
begun_over_the_line_end = grammar
    (group (1 ∷ [])
    ∷ block "r" "a\\n" "z" (2 ∷ [])
    ∷ single "g" "\\Gb" ∷ [])

pub a_begin_that_took_the_line_end_anchors_each_later_line : told begun_over_the_line_end ("a" ∷ "b" ∷ "bb" ∷ [])
    ≡ line (token 0 1 "s r" ∷ []) (1 ∷ 0 ∷ [])
    ∷ line (token 0 1 "s r g" ∷ []) (1 ∷ 0 ∷ [])
    ∷ line (token 0 1 "s r g" ∷ token 1 2 "s r" ∷ []) (1 ∷ 0 ∷ []) ∷ []
unfolding told
a_begin_that_took_the_line_end_anchors_each_later_line = refl

abbrev begun_over_the_line_end_and_ended : Machine
begun_over_the_line_end_and_ended = grammar
    (group (1 ∷ [])
    ∷ block "r" "a\\n" "z" (2 ∷ [])
    ∷ single "g" "\\Gb" ∷ [])

pub the_anchor_goes_with_its_frame : told begun_over_the_line_end_and_ended ("a" ∷ "b" ∷ "bb" ∷ "z" ∷ "b" ∷ [])
    ≡ line (token 0 1 "s r" ∷ []) (1 ∷ 0 ∷ [])
    ∷ line (token 0 1 "s r g" ∷ []) (1 ∷ 0 ∷ [])
    ∷ line (token 0 1 "s r g" ∷ token 1 2 "s r" ∷ []) (1 ∷ 0 ∷ [])
    ∷ line (token 0 1 "s r" ∷ []) (0 ∷ [])
    ∷ line (token 0 1 "s" ∷ []) (0 ∷ []) ∷ []
unfolding told
the_anchor_goes_with_its_frame = refl

abbrev anchored_after_an_end : Machine
anchored_after_an_end = grammar
    (group (1 ∷ 2 ∷ 3 ∷ 4 ∷ [])
    ∷ block "z" "<" "(?=x)" []
    ∷ single "g" "\\Gx"
    ∷ single "x" "x"
    ∷ single "y" "y" ∷ [])

pub a_popped_frame_leaves_no_anchor_behind_itself : told anchored_after_an_end ("<x<yx" ∷ "y" ∷ [])
    ≡ line (token 0 1 "s z" ∷ token 1 2 "s x" ∷ token 2 3 "s z" ∷ token 3 4 "s z" ∷ token 4 5 "s x" ∷ []) (0 ∷ [])
    ∷ line (token 0 1 "s y" ∷ []) (0 ∷ []) ∷ []
unfolding told
a_popped_frame_leaves_no_anchor_behind_itself = refl

abbrev first_of_all : Machine
first_of_all = grammar
    (group (1 ∷ 2 ∷ 3 ∷ [])
    ∷ single "f" "\\Aa"
    ∷ single "b" "(?=b)(b)"
    ∷ single "a" "a" ∷ [])

pub the_first_place_is_first_once : told first_of_all ("aa" ∷ "a" ∷ [])
    ≡ line (token 0 1 "s f" ∷ token 1 2 "s a" ∷ []) (0 ∷ [])
    ∷ line (token 0 1 "s a" ∷ []) (0 ∷ []) ∷ []
unfolding told
the_first_place_is_first_once = refl

abbrev seen_from_behind : Machine
seen_from_behind = grammar
    (group (1 ∷ 2 ∷ 3 ∷ [])
    ∷ single "g" "(?<=\\Ac)b"
    ∷ single "c" "c"
    ∷ single "d" "d" ∷ [])

pub what_advances_ends_the_first_place_for_lookbehind_too : told seen_from_behind ("cb" ∷ "cb" ∷ [])
    ≡ line (token 0 1 "s c" ∷ token 1 2 "s" ∷ []) (0 ∷ [])
    ∷ line (token 0 1 "s c" ∷ token 1 2 "s" ∷ []) (0 ∷ []) ∷ []
unfolding told
what_advances_ends_the_first_place_for_lookbehind_too = refl

abbrev first_behind_a_while : Machine
first_behind_a_while = grammar
    (group (1 ∷ [])
    ∷ lasting "w" "q" "^|z" (2 ∷ 3 ∷ [])
    ∷ single "f" "\\Aa"
    ∷ single "a" "a" ∷ [])

pub a_while_that_takes_nothing_keeps_the_first_place : told first_behind_a_while ("qa" ∷ "a" ∷ "a" ∷ [])
    ≡ line (token 0 1 "s w" ∷ token 1 2 "s w a" ∷ []) (1 ∷ 0 ∷ [])
    ∷ line (token 0 1 "s w a" ∷ []) (1 ∷ 0 ∷ [])
    ∷ line (token 0 1 "s w a" ∷ []) (1 ∷ 0 ∷ []) ∷ []
unfolding told
a_while_that_takes_nothing_keeps_the_first_place = refl
