-- Match rules and begin/end rules, each example named by what it shows.
use Rattle.std.specs.Prelude.{◌≡◌, [], ◌∷◌, refl}
use Rattle.line_defs.specs.Machine.{Machine}
use Rattle.line_examples.specs.Short.{group, single, block, with_content, end_last, capture, with_captures}
use Rattle.line_examples.specs.Short.{with_end_captures, grammar, line, token, told}

-- `comment.block` from `/*` to `*/`
abbrev block_comments : Machine
block_comments = grammar
    (group (1 ∷ [])
    ∷ block "comment.block" "/\\*" "\\*/" [] ∷ [])

pub an_end_alone_ends_nothing : told block_comments ("x" ∷ "(" ∷ "*/ )" ∷ [])
    ≡ line (token 0 1 "s" ∷ []) (0 ∷ [])
    ∷ line (token 0 1 "s" ∷ []) (0 ∷ [])
    ∷ line (token 0 4 "s" ∷ []) (0 ∷ []) ∷ []
unfolding told
an_end_alone_ends_nothing = refl

pub a_frame_stays_open_over_lines : told block_comments ("/*x" ∷ "(" ∷ "*/ )" ∷ [])
    ≡ line (token 0 2 "s comment.block" ∷ token 2 3 "s comment.block" ∷ []) (1 ∷ 0 ∷ [])
    ∷ line (token 0 1 "s comment.block" ∷ []) (1 ∷ 0 ∷ [])
    ∷ line (token 0 2 "s comment.block" ∷ token 2 4 "s" ∷ []) (0 ∷ []) ∷ []
unfolding told
a_frame_stays_open_over_lines = refl

-- a grammar of comments and strings with escapes
abbrev comments_and_strings : Machine
comments_and_strings = grammar
    (group (2 ∷ 3 ∷ [])
    ∷ group (2 ∷ 3 ∷ [])
    ∷ single "comment.line.tiny" "//.*$"
    ∷ block "string.quoted.tiny" "\"" "\"" (4 ∷ [])
    ∷ single "constant.character.escape.tiny" "\\\\." ∷ [])

pub the_first_of_two_patterns_at_one_place_wins : told comments_and_strings ("a \"b\\\"c\" // x" ∷ "\"" ∷ "// \"" ∷ [])
    ≡ line (token 0 2 "s" ∷ token 2 3 "s string.quoted.tiny" ∷ token 3 4 "s string.quoted.tiny"
    ∷ token 4 6 "s string.quoted.tiny constant.character.escape.tiny" ∷ token 6 7 "s string.quoted.tiny"
    ∷ token 7 8 "s string.quoted.tiny" ∷ token 8 9 "s" ∷ token 9 13 "s comment.line.tiny" ∷ []) (0 ∷ [])
    ∷ line (token 0 1 "s string.quoted.tiny" ∷ []) (3 ∷ 0 ∷ [])
    ∷ line (token 0 3 "s string.quoted.tiny" ∷ token 3 4 "s string.quoted.tiny" ∷ []) (0 ∷ []) ∷ []
unfolding told
the_first_of_two_patterns_at_one_place_wins = refl

-- an absent operator, and an open group
abbrev unread_patterns : Machine
unread_patterns = grammar
    (group (1 ∷ 2 ∷ [])
    ∷ single "q" "(?~x)"
    ∷ single "q" "(" ∷ [])

pub a_pattern_that_cannot_be_read_never_matches : told unread_patterns ("x" ∷ [])
    ≡ line (token 0 1 "s" ∷ []) (0 ∷ []) ∷ []
unfolding told
a_pattern_that_cannot_be_read_never_matches = refl

abbrev names_and_content : Machine
names_and_content = grammar
    (group (1 ∷ [])
    ∷ with_content "c.$2 d" (with_captures (capture 1 "b1" ∷ capture 2 "b2" ∷ [])
    (with_end_captures (capture 0 "e0" ∷ capture 1 "e1.$1" ∷ []) (block "n.$2" "(a)(.)" "(z)(.)" []))) ∷ [])

pub a_name_holds_of_the_whole_and_a_content_name_inside : told names_and_content ("a.xyz!q" ∷ [])
    ≡ line (token 0 1 "s n. b1" ∷ token 1 2 "s n. b2" ∷ token 2 4 "s n. c. d" ∷ token 4 5 "s n. e0 e1.z" ∷ token 5 6
    "s n. e0"
    ∷ token 6 7 "s" ∷ []) (0 ∷ []) ∷ []
unfolding told
a_name_holds_of_the_whole_and_a_content_name_inside = refl

-- `l` has its end behind the others, `f` before them
abbrev end_before_or_last : Machine
end_before_or_last = grammar
    (group (1 ∷ 3 ∷ [])
    ∷ end_last (block "l" "a" "b" (2 ∷ []))
    ∷ single "k" "b+"
    ∷ block "f" "c" "b" (4 ∷ [])
    ∷ single "k" "b+" ∷ [])

pub an_end_pattern_comes_before_the_others_or_last : told end_before_or_last ("abba" ∷ "b" ∷ "bcbb" ∷ [])
    ≡ line (token 0 1 "s l" ∷ token 1 3 "s l k" ∷ token 3 4 "s l" ∷ []) (1 ∷ 0 ∷ [])
    ∷ line (token 0 1 "s l k" ∷ []) (1 ∷ 0 ∷ [])
    ∷ line (token 0 1 "s l k" ∷ token 1 2 "s l" ∷ token 2 4 "s l k" ∷ []) (1 ∷ 0 ∷ []) ∷ []
unfolding told
an_end_pattern_comes_before_the_others_or_last = refl

abbrev line_feeds : Machine
line_feeds = grammar
    (group (1 ∷ 2 ∷ 3 ∷ [])
    ∷ single "n" "\\n"
    ∷ single "a" "a"
    ∷ single "b" "b\\n" ∷ [])

pub a_token_of_the_line_feed_alone_is_dropped : told line_feeds ("a" ∷ "" ∷ "b" ∷ "c" ∷ [])
    ≡ line (token 0 1 "s a" ∷ []) (0 ∷ [])
    ∷ line (token 0 0 "s" ∷ []) (0 ∷ [])
    ∷ line (token 0 1 "s b" ∷ []) (0 ∷ [])
    ∷ line (token 0 1 "s" ∷ []) (0 ∷ []) ∷ []
unfolding told
a_token_of_the_line_feed_alone_is_dropped = refl

abbrev empty_lines : Machine
empty_lines = grammar
    (group (1 ∷ 2 ∷ [])
    ∷ single "n" "^$"
    ∷ block "b" "x$" "^$" (3 ∷ [])
    ∷ single "d" "." ∷ [])

pub an_empty_line_has_one_token : told empty_lines ("" ∷ "x" ∷ "y" ∷ "" ∷ "x" ∷ [])
    ≡ line (token 0 0 "s" ∷ []) (0 ∷ [])
    ∷ line (token 0 1 "s b" ∷ []) (2 ∷ 0 ∷ [])
    ∷ line (token 0 1 "s b d" ∷ []) (2 ∷ 0 ∷ [])
    ∷ line (token 0 0 "s" ∷ []) (0 ∷ [])
    ∷ line (token 0 1 "s b" ∷ []) (2 ∷ 0 ∷ []) ∷ []
unfolding told
an_empty_line_has_one_token = refl
