-- Injections, each example named by what it shows.
use Rattle.std.specs.Prelude.{◌≡◌, [], ◌∷◌, true, ◌&&◌, ◌||◌, not, refl}
use Rattle.line_defs.specs.Machine.{Machine}
use Rattle.line_examples.specs.Short.{group, single, block, with_content, inside, with_captures, grammar, with_budget}
use Rattle.line_examples.specs.Short.{with_injections, left, right, within, line, stopped, token, told}

abbrev left_and_right : Machine
left_and_right = with_injections (left (λ s. true) (3 ∷ []) ∷ right (λ s. true) (5 ∷ []) ∷ []) (grammar
    (group (1 ∷ [])
    ∷ single "base" "x"
    ∷ group (3 ∷ [])
    ∷ single "left" "x(?=1)"
    ∷ group (5 ∷ [])
    ∷ single "right" "x" ∷ []))

pub at_one_place_only_a_left_injection_goes_before_the_rules : told left_and_right ("x1 x2" ∷ [])
    ≡ line (token 0 1 "s left" ∷ token 1 3 "s" ∷ token 3 4 "s base" ∷ token 4 5 "s" ∷ []) (0 ∷ []) ∷ []
unfolding told
at_one_place_only_a_left_injection_goes_before_the_rules = refl

abbrev three_injections : Machine
three_injections = with_injections (left (within "s") (3 ∷ []) ∷ right (within "s") (6 ∷ []) ∷ right (within "s")
    (5 ∷ []) ∷ []) (grammar
    (group (1 ∷ [])
    ∷ single "base" "x"
    ∷ group (3 ∷ [])
    ∷ single "left" "x(?=1)"
    ∷ group (5 ∷ [])
    ∷ single "right" "x"
    ∷ single "mid" "y" ∷ []))

pub an_injection_that_starts_earlier_wins_whatever_its_priority : told three_injections ("x1 x2yx" ∷ [])
    ≡ line (token 0 1 "s left" ∷ token 1 3 "s" ∷ token 3 4 "s base" ∷ token 4 5 "s" ∷ token 5 6 "s mid" ∷ token 6 7
    "s base" ∷ []) (0 ∷ []) ∷ []
unfolding told
an_injection_that_starts_earlier_wins_whatever_its_priority = refl

abbrev earliest_injection : Machine
earliest_injection = with_injections (left (within "s") (2 ∷ []) ∷ right (within "s") (4 ∷ []) ∷ right (within "s")
    (3 ∷ []) ∷ []) (grammar
    (group (1 ∷ [])
    ∷ single "b" "b"
    ∷ single "l" "(?=b)b"
    ∷ single "r" "ab"
    ∷ single "z" "a" ∷ []))

pub the_earliest_injection_wins_and_of_equal_ones_the_first : told earliest_injection ("cabb" ∷ [])
    ≡ line (token 0 1 "s" ∷ token 1 2 "s z" ∷ token 2 3 "s l" ∷ token 3 4 "s l" ∷ []) (0 ∷ []) ∷ []
unfolding told
the_earliest_injection_wins_and_of_equal_ones_the_first = refl

abbrev selected_injections : Machine
selected_injections = with_injections (left (within "c") (3 ∷ []) ∷ left
    (λ s. (within "s in" s) && (not (within "c" s))) (4 ∷ []) ∷ right
    (λ s. (within "s" s) && (not (((within "c" s)) || ((within "d" s))))) (6 ∷ 7 ∷ []) ∷ []) (grammar
    (group (1 ∷ [])
    ∷ with_content "c" (block "in" "<" ">" (2 ∷ []))
    ∷ single "base" "x"
    ∷ single "l2" "xx?"
    ∷ single "l1" "x"
    ∷ group (6 ∷ 7 ∷ [])
    ∷ single "r" "x"
    ∷ single "gt" ">" ∷ []))

pub a_selector_is_asked_of_the_content_scopes : told selected_injections ("x<xyx>x>" ∷ [])
    ≡ line (token 0 1 "s r" ∷ token 1 2 "s in" ∷ token 2 3 "s in c l2" ∷ token 3 4 "s in c" ∷ token 4 5 "s in c l2"
    ∷ token 5 6 "s in" ∷ token 6 7 "s r" ∷ token 7 8 "s gt" ∷ []) (0 ∷ []) ∷ []
unfolding told
a_selector_is_asked_of_the_content_scopes = refl

abbrev injected_blocks : Machine
injected_blocks = with_injections (left (within "s") (2 ∷ []) ∷ []) (grammar
    (group (1 ∷ [])
    ∷ single "a" "a"
    ∷ with_content "ic" (block "i" "<" ">" (3 ∷ []))
    ∷ single "ia" "a" ∷ []))

pub an_injected_begin_opens_a_frame : told injected_blocks ("a<aa>a" ∷ "<a" ∷ "a>" ∷ [])
    ≡ line (token 0 1 "s a" ∷ token 1 2 "s i" ∷ token 2 3 "s i ic ia" ∷ token 3 4 "s i ic ia" ∷ token 4 5 "s i"
    ∷ token 5 6 "s a" ∷ []) (0 ∷ [])
    ∷ line (token 0 1 "s i" ∷ token 1 2 "s i ic ia" ∷ []) (2 ∷ 0 ∷ [])
    ∷ line (token 0 1 "s i ic ia" ∷ token 1 2 "s i" ∷ []) (0 ∷ []) ∷ []
unfolding told
an_injected_begin_opens_a_frame = refl

abbrev injections_in_captures : Machine
injections_in_captures = with_injections (left (within "c") (4 ∷ []) ∷ []) (grammar
    (group (1 ∷ [])
    ∷ with_captures (inside 1 "c" 2 ∷ []) (single "t" "\\((.*)\\)")
    ∷ group (3 ∷ [])
    ∷ single "x" "x"
    ∷ single "yy" "y" ∷ []))

pub injections_are_searched_inside_captures_too : told injections_in_captures ("y(xyx)y" ∷ [])
    ≡ line (token 0 1 "s" ∷ token 1 2 "s t" ∷ token 2 3 "s t c x" ∷ token 3 4 "s t c yy" ∷ token 4 5 "s t c x" ∷ token
    5 6 "s t"
    ∷ token 6 7 "s" ∷ []) (0 ∷ []) ∷ []
unfolding told
injections_are_searched_inside_captures_too = refl

abbrev spent_injections : Machine
spent_injections = with_budget 80 (with_injections (right (within "s") (2 ∷ []) ∷ []) (grammar
    (group (1 ∷ [])
    ∷ single "a" "a"
    ∷ single "z" "(b*)*c" ∷ [])))

pub a_spent_injection_decides : told spent_injections ("aabbbbbbbbb" ∷ "a" ∷ [])
    ≡ stopped (token 0 11 "s" ∷ []) (0 ∷ [])
    ∷ line (token 0 1 "s a" ∷ []) (0 ∷ []) ∷ []
unfolding told
a_spent_injection_decides = refl
