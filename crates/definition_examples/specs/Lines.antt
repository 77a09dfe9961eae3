-- Further worked examples of the run over a line, each named by what it shows.
use Rattle.std.specs.Prelude.{◌≡◌, ℕ, ◌∷◌, [], codes, map, replicate, true, false, Some, None, refl}
use Rattle.std.proofs.Common.{arith}
use Rattle.ucd_props.specs.Binary.{is_white_space}
use Rattle.ucd_props.specs.Ranges.{white_space_ranges}
use Rattle.ucd_table.specs.Rows.{in_ranges}
use Rattle.pattern_defs.specs.Patterns.{Tree}
use Rattle.line_defs.specs.Machine.{Machine}
use Rattle.line_defs.specs.EndTexts.{needs_backslash}
use Rattle.line_defs.specs.Following.{Follow}
use Rattle.line_defs.specs.Search.{with_groups}
use Rattle.line_examples.specs.Short.{group, single, block, lasting, grammar, with_budget, with_long, with_injections}
use Rattle.line_examples.specs.Short.{right, left, line, stopped, token, told}

-- ---- from line to line

abbrev first_of_all : Machine
first_of_all = with_long 3 (grammar
    (group (1 ∷ [])
    ∷ single "f" "\\Aa" ∷ []))

pub behind_a_long_line_no_place_is_first : told first_of_all ("abc" ∷ "a" ∷ [])
    ≡ line (token 0 3 "s" ∷ []) (0 ∷ [])
    ∷ line (token 0 1 "s" ∷ []) (0 ∷ []) ∷ []
unfolding told
behind_a_long_line_no_place_is_first = refl

abbrev begun_before_the_line_feed : Machine
begun_before_the_line_feed = grammar
    (group (1 ∷ [])
    ∷ block "r" "a" "z" (2 ∷ [])
    ∷ single "g" "\\Gb" ∷ [])

pub a_begin_before_the_line_feed_anchors_no_later_line : told begun_before_the_line_feed ("a" ∷ "b" ∷ [])
    ≡ line (token 0 1 "s r" ∷ []) (1 ∷ 0 ∷ [])
    ∷ line (token 0 1 "s r" ∷ []) (1 ∷ 0 ∷ []) ∷ []
unfolding told
a_begin_before_the_line_feed_anchors_no_later_line = refl

-- `q` keeps the anchor 1 of its first line, and ends at 1 in the next
abbrev anchored_inside : Machine
anchored_inside = grammar
    (group (1 ∷ [])
    ∷ block "p" "\\(" "\\)" (2 ∷ 3 ∷ [])
    ∷ block "q" "<" ">" []
    ∷ single "g" "\\Gy" ∷ [])

pub a_kept_anchor_is_forgotten_with_its_line : told anchored_inside ("(<" ∷ ">y)" ∷ [])
    ≡ line (token 0 1 "s p" ∷ token 1 2 "s p q" ∷ []) (2 ∷ 1 ∷ 0 ∷ [])
    ∷ line (token 0 1 "s p q" ∷ token 1 2 "s p" ∷ token 2 3 "s p" ∷ []) (0 ∷ []) ∷ []
unfolding told
a_kept_anchor_is_forgotten_with_its_line = refl

-- `z` is entered at 0 and ends at 0: in its own line it stands again, in the next one it goes
abbrev begun_before_more : Machine
begun_before_more = grammar
    (group (1 ∷ [])
    ∷ block "z" "(?=ab)" "(?=a)" [] ∷ [])

pub a_place_of_entry_is_forgotten_with_its_line : told begun_before_more ("ab" ∷ "ac" ∷ [])
    ≡ line (token 0 2 "s z" ∷ []) (1 ∷ 0 ∷ [])
    ∷ line (token 0 2 "s" ∷ []) (0 ∷ []) ∷ []
unfolding told
a_place_of_entry_is_forgotten_with_its_line = refl

-- ---- spent attempts

abbrev spent_below_a_block : Machine
spent_below_a_block = with_budget 60 (grammar
    (group (1 ∷ [])
    ∷ lasting "w" "^>" "(a*)*b" (2 ∷ [])
    ∷ block "p" "\\(" "\\)" [] ∷ []))

pub a_spent_while_keeps_the_frames_above_it : told spent_below_a_block (">(" ∷ "aaaaaaa" ∷ [])
    ≡ line (token 0 1 "s w" ∷ token 1 2 "s w p" ∷ []) (2 ∷ 1 ∷ 0 ∷ [])
    ∷ stopped (token 0 7 "s w p" ∷ []) (2 ∷ 1 ∷ 0 ∷ []) ∷ []
unfolding told
a_spent_while_keeps_the_frames_above_it = refl

-- at 0 the first injection matches, and the second would be spent; at 1 it is
abbrev spent_behind_a_match_here : Machine
spent_behind_a_match_here = with_budget 80 (with_injections (right (λ s. true) (2 ∷ []) ∷ right (λ s. true) (3 ∷ []) ∷ [])
    (grammar
    (group (1 ∷ [])
    ∷ single "a" "a"
    ∷ single "i" "x"
    ∷ single "z" "(b*)*c" ∷ [])))

pub an_injection_that_matches_here_ends_the_search : told spent_behind_a_match_here ("xbbbbbbbbb" ∷ [])
    ≡ stopped (token 0 1 "s i" ∷ token 1 10 "s" ∷ []) (0 ∷ []) ∷ []
unfolding told
an_injection_that_matches_here_ends_the_search = refl

abbrev spent_rules : Machine
spent_rules = with_budget 80 (with_injections (left (λ s. true) (2 ∷ []) ∷ []) (grammar
    (group (1 ∷ [])
    ∷ single "z" "(b*)*c"
    ∷ single "i" "b" ∷ [])))

pub a_spent_rule_decides_before_injections : told spent_rules ("bbbbbbbbb" ∷ [])
    ≡ stopped (token 0 9 "s" ∷ []) (0 ∷ []) ∷ []
unfolding told
a_spent_rule_decides_before_injections = refl

-- ---- scope texts

abbrev dotted : Machine
dotted = grammar
    (group (1 ∷ [])
    ∷ single "x.$1" "(\\S+)" ∷ [])

pub only_leading_dots_fall_away : told dotted ("..a.b." ∷ [])
    ≡ line (token 0 6 "s x.a.b." ∷ []) (0 ∷ []) ∷ []
unfolding told
only_leading_dots_fall_away = refl

abbrev both_cases : Machine
both_cases = grammar
    (group (1 ∷ [])
    ∷ single "x.${1:/downcase}.${1:/upcase}" "(\\S+)" ∷ [])

pub both_case_forms_change_letters : told both_cases ("aBc" ∷ [])
    ≡ line (token 0 3 "s x.abc.ABC" ∷ []) (0 ∷ []) ∷ []
unfolding told
both_case_forms_change_letters = refl

abbrev no_forms : Machine
no_forms = grammar
    (group (1 ∷ [])
    ∷ single "x${1}y ${1:/capitalize} ${1:/upcase" "(a)" ∷ [])

pub braces_without_a_case_stay_as_they_are_written : told no_forms ("a" ∷ [])
    ≡ line (token 0 1 "s x${1}y ${1:/capitalize} ${1:/upcase" ∷ []) (0 ∷ []) ∷ []
unfolding told
braces_without_a_case_stay_as_they_are_written = refl

-- ---- end texts

pub seventeen_signs_and_white_space_get_a_backslash :
    (map needs_backslash (codes "-\\{}*+?|^$.,[]()#") ≡ replicate 17 true)
    × (map needs_backslash (9 ∷ 10 ∷ 11 ∷ 12 ∷ 13 ∷ 32 ∷ 0x85 ∷ 0xA0 ∷ 0x1680 ∷ 0x2000 ∷ 0x200A ∷ 0x2028 ∷ 0x2029 ∷ 0x202F ∷ 0x205F
    ∷ 0x3000 ∷ []) ≡ replicate 16 true)
    × (map needs_backslash (codes "aZ09_/<>=!~:;@&%") ≡ replicate 16 false)
    × (map needs_backslash (8 ∷ 14 ∷ 0x200B ∷ 0xFEFF ∷ []) ≡ replicate 4 false)
unfolding is_white_space white_space_ranges in_ranges
seventeen_signs_and_white_space_get_a_backslash = (refl, refl, refl, refl)

-- an end text with the option `x`
abbrev spaced_end : Machine
spaced_end = grammar
    (group (1 ∷ [])
    ∷ block "e" "<(.*)>" "(?x)\\1" [] ∷ [])

pub captured_blanks_and_signs_count_with_x : told spaced_end ("<a #>" ∷ "a" ∷ "a #b" ∷ [])
    ≡ line (token 0 5 "s e" ∷ []) (1 ∷ 0 ∷ [])
    ∷ line (token 0 1 "s e" ∷ []) (1 ∷ 0 ∷ [])
    ∷ line (token 0 3 "s e" ∷ token 3 4 "s" ∷ []) (0 ∷ []) ∷ []
unfolding told
captured_blanks_and_signs_count_with_x = refl

-- a pattern of two groups
abbrev two_groups : Tree
two_groups = record { lists = [] ∷ []; top = record { 0 = 0 }; groups = 2 }

pub a_text_read_later_has_so_many_groups_at_most : map (λ most. with_groups most two_groups) (1 ∷ 2 ∷ 3 ∷ [])
    ≡ None ∷ Some two_groups ∷ Some two_groups ∷ []
a_text_read_later_has_so_many_groups_at_most = refl

-- ---- tokens that cover a line

pub tokens_that_touch_cover_a_line : Follow (token 0 2 "s" ∷ token 2 5 "s x" ∷ []) 5
tokens_that_touch_cover_a_line = (refl, (refl, refl))

pub no_token_covers_no_line : Follow [] 0 → ⊥
no_token_covers_no_line none = none

pub tokens_with_a_gap_cover_none : Follow (token 0 2 "s" ∷ token 3 5 "s x" ∷ []) 5 → ⊥
tokens_with_a_gap_cover_none follow = let gap : ◌≡◌ {A = ℕ} 3 2 = follow.1.0 in omega arith

pub tokens_that_end_before_the_line_cover_none : Follow (token 0 2 "s" ∷ []) 5 → ⊥
tokens_that_end_before_the_line_cover_none follow = let end : ◌≡◌ {A = ℕ} 2 5 = follow.1 in omega arith
