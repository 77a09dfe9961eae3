-- The while pass, each example named by what it shows.
use Rattle.std.specs.Prelude.{◌≡◌, [], ◌∷◌, refl}
use Rattle.line_defs.specs.Machine.{Machine}
use Rattle.line_examples.specs.Short.{group, single, block, lasting, with_content, capture, inside, with_end_captures}
use Rattle.line_examples.specs.Short.{grammar, with_budget, line, stopped, token, told}

abbrev quotes : Machine
quotes = grammar
    (group (1 ∷ [])
    ∷ lasting "string.quote" "^>" "^>" [] ∷ [])

pub a_frame_stays_while_its_pattern_is_found : told quotes ("> (" ∷ "> (" ∷ "> (" ∷ [])
    ≡ line (token 0 1 "s string.quote" ∷ token 1 3 "s string.quote" ∷ []) (1 ∷ 0 ∷ [])
    ∷ line (token 0 1 "s string.quote" ∷ token 1 3 "s string.quote" ∷ []) (1 ∷ 0 ∷ [])
    ∷ line (token 0 1 "s string.quote" ∷ token 1 3 "s string.quote" ∷ []) (1 ∷ 0 ∷ []) ∷ []
unfolding told
a_frame_stays_while_its_pattern_is_found = refl

pub a_frame_goes_where_its_pattern_is_not_found : told quotes ("> (" ∷ " (" ∷ "> (" ∷ [])
    ≡ line (token 0 1 "s string.quote" ∷ token 1 3 "s string.quote" ∷ []) (1 ∷ 0 ∷ [])
    ∷ line (token 0 2 "s" ∷ []) (0 ∷ [])
    ∷ line (token 0 1 "s string.quote" ∷ token 1 3 "s string.quote" ∷ []) (1 ∷ 0 ∷ []) ∷ []
unfolding told
a_frame_goes_where_its_pattern_is_not_found = refl

abbrev quotes_with_captures : Machine
quotes_with_captures = grammar
    (group (1 ∷ 2 ∷ [])
    ∷ with_end_captures (capture 0 "w" ∷ capture 1 "v" ∷ []) (lasting "q" "^>" "^>( ?)" [])
    ∷ single "b" "b" ∷ [])

pub while_captures_are_told_with_the_content_scopes : told quotes_with_captures ("> ab" ∷ "> b" ∷ ">" ∷ "b" ∷ [])
    ≡ line (token 0 1 "s q" ∷ token 1 4 "s q" ∷ []) (1 ∷ 0 ∷ [])
    ∷ line (token 0 1 "s q w" ∷ token 1 2 "s q w v" ∷ token 2 3 "s q" ∷ []) (1 ∷ 0 ∷ [])
    ∷ line (token 0 1 "s q w" ∷ []) (1 ∷ 0 ∷ [])
    ∷ line (token 0 1 "s b" ∷ []) (0 ∷ []) ∷ []
unfolding told
while_captures_are_told_with_the_content_scopes = refl

abbrev lasting_in_one_another : Machine
lasting_in_one_another = grammar
    (group (1 ∷ [])
    ∷ with_content "w2" (lasting "w1" "a" "(?=b)" (2 ∷ []))
    ∷ lasting "w3" "c" "\\Gb" (3 ∷ 4 ∷ [])
    ∷ single "g" "\\G."
    ∷ single "d" "d" ∷ [])

pub the_pass_goes_from_the_outside_in_and_moves_the_anchor : told lasting_in_one_another
    ("ac" ∷ "bd" ∷ "bbd" ∷ "d" ∷ [])
    ≡ line (token 0 1 "s w1" ∷ token 1 2 "s w1 w2 w3" ∷ []) (2 ∷ 1 ∷ 0 ∷ [])
    ∷ line (token 0 1 "s w1 w2 w3" ∷ token 1 2 "s w1 w2 w3 g" ∷ []) (2 ∷ 1 ∷ 0 ∷ [])
    ∷ line (token 0 1 "s w1 w2 w3" ∷ token 1 2 "s w1 w2 w3 g" ∷ token 2 3 "s w1 w2 w3 d" ∷ []) (2 ∷ 1 ∷ 0 ∷ [])
    ∷ line (token 0 1 "s" ∷ []) (0 ∷ []) ∷ []
unfolding told
the_pass_goes_from_the_outside_in_and_moves_the_anchor = refl

abbrev lasting_round_a_block : Machine
lasting_round_a_block = grammar
    (group (1 ∷ [])
    ∷ lasting "w" "a" "^a" (2 ∷ [])
    ∷ block "p" "\\(" "\\)" (3 ∷ [])
    ∷ lasting "v" "b" "^ab" [] ∷ [])

pub what_is_not_found_takes_away_all_frames_above : told lasting_round_a_block ("a(b" ∷ "abx" ∷ "a)" ∷ "ax" ∷ "x" ∷ [])
    ≡ line (token 0 1 "s w" ∷ token 1 2 "s w p" ∷ token 2 3 "s w p v" ∷ []) (3 ∷ 2 ∷ 1 ∷ 0 ∷ [])
    ∷ line (token 0 1 "s w" ∷ token 1 2 "s w p v" ∷ token 2 3 "s w p v" ∷ []) (3 ∷ 2 ∷ 1 ∷ 0 ∷ [])
    ∷ line (token 0 1 "s w" ∷ token 1 2 "s w p" ∷ []) (1 ∷ 0 ∷ [])
    ∷ line (token 0 1 "s w" ∷ token 1 2 "s w" ∷ []) (1 ∷ 0 ∷ [])
    ∷ line (token 0 1 "s" ∷ []) (0 ∷ []) ∷ []
unfolding told
what_is_not_found_takes_away_all_frames_above = refl

abbrev lasting_with_a_reference : Machine
lasting_with_a_reference = grammar
    (group (1 ∷ [])
    ∷ lasting "w" "(.)>" "^\\1" (2 ∷ [])
    ∷ single "g" "\\G." ∷ [])

pub a_while_text_has_what_the_begin_captured : told lasting_with_a_reference ("+>x" ∷ "+y" ∷ "+" ∷ "-" ∷ [])
    ≡ line (token 0 2 "s w" ∷ token 2 3 "s w g" ∷ []) (1 ∷ 0 ∷ [])
    ∷ line (token 0 1 "s w" ∷ token 1 2 "s w g" ∷ []) (1 ∷ 0 ∷ [])
    ∷ line (token 0 1 "s w" ∷ []) (1 ∷ 0 ∷ [])
    ∷ line (token 0 1 "s" ∷ []) (0 ∷ []) ∷ []
unfolding told
a_while_text_has_what_the_begin_captured = refl

abbrev patterns_in_a_while_capture : Machine
patterns_in_a_while_capture = grammar
    (group (1 ∷ [])
    ∷ with_content "c" (with_end_captures (inside 1 "k" 2 ∷ capture 2 "l" ∷ []) (lasting "w" "a" "(a)(b)?" []))
    ∷ group (3 ∷ [])
    ∷ single "inner" "a" ∷ [])

pub a_while_capture_has_a_run_of_its_own : told patterns_in_a_while_capture ("a" ∷ "xab" ∷ "xa" ∷ "y" ∷ [])
    ≡ line (token 0 1 "s w" ∷ []) (1 ∷ 0 ∷ [])
    ∷ line (token 0 1 "s w c" ∷ token 1 2 "s w c k inner" ∷ token 2 3 "s w c l" ∷ []) (1 ∷ 0 ∷ [])
    ∷ line (token 0 1 "s w c" ∷ token 1 2 "s w c k inner" ∷ []) (1 ∷ 0 ∷ [])
    ∷ line (token 0 1 "s" ∷ []) (0 ∷ []) ∷ []
unfolding told
a_while_capture_has_a_run_of_its_own = refl

abbrev spent_in_the_pass : Machine
spent_in_the_pass = with_budget 60 (grammar
    (group (1 ∷ [])
    ∷ lasting "w" "^>" "(a*)*b" [] ∷ []))

pub a_spent_while_keeps_all_frames : told spent_in_the_pass (">" ∷ "aaaaaab" ∷ "aaaaaaa" ∷ "ab" ∷ [])
    ≡ line (token 0 1 "s w" ∷ []) (1 ∷ 0 ∷ [])
    ∷ line (token 0 7 "s w" ∷ []) (1 ∷ 0 ∷ [])
    ∷ stopped (token 0 7 "s w" ∷ []) (1 ∷ 0 ∷ [])
    ∷ line (token 0 2 "s w" ∷ []) (1 ∷ 0 ∷ []) ∷ []
unfolding told
a_spent_while_keeps_all_frames = refl
