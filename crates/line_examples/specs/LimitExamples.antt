-- Budgets, long lines and many frames, each example named by what it shows.
use Rattle.std.specs.Prelude.{◌≡◌, ℕ, [], ◌∷◌, ◌++◌, codes, replicate, false, refl}
use Rattle.scope_defs.specs.Frames.{Frame, Start}
use Rattle.line_defs.specs.Machine.{Machine}
use Rattle.line_defs.specs.Frames.{root, start_of}
use Rattle.line_defs.specs.Line.{no_grammar}
use Rattle.line_examples.specs.Short.{group, single, block, with_content, capture, with_captures, grammar}
use Rattle.line_examples.specs.Short.{with_budget, with_long, line, stopped, token, told, told_from}

abbrev two_stars : Machine
two_stars = with_budget 1000 (grammar
    (group (1 ∷ [])
    ∷ single "k" "(a*)*b" ∷ []))

pub a_spent_attempt_leaves_the_rest_of_the_line : told two_stars
    ("aaaaaaaaaaaaaaaaaaaaaaaaaaaaaaaaaaaaaaaa b" ∷ "a b" ∷ [])
    ≡ stopped (token 0 42 "s" ∷ []) (0 ∷ [])
    ∷ line (token 0 2 "s" ∷ token 2 3 "s k" ∷ []) (0 ∷ []) ∷ []
unfolding told
a_spent_attempt_leaves_the_rest_of_the_line = refl

pub what_was_told_before_a_spent_attempt_stays_told : told two_stars
    ("baaaaaaaaaaaaaaaaaaaaaaaaaaaaaaaaaaaaaaaa b" ∷ "a b" ∷ [])
    ≡ stopped (token 0 1 "s k" ∷ token 1 43 "s" ∷ []) (0 ∷ [])
    ∷ line (token 0 2 "s" ∷ token 2 3 "s k" ∷ []) (0 ∷ []) ∷ []
unfolding told
what_was_told_before_a_spent_attempt_stays_told = refl

abbrev spent_behind_a_match : Machine
spent_behind_a_match = with_budget 80 (grammar
    (group (1 ∷ 2 ∷ [])
    ∷ single "a" "a"
    ∷ single "k" "(b*)*c" ∷ []))

pub a_line_behind_a_spent_one_is_run_anew : told spent_behind_a_match ("abbbbbbba" ∷ "abc" ∷ [])
    ≡ stopped (token 0 1 "s a" ∷ token 1 9 "s" ∷ []) (0 ∷ [])
    ∷ line (token 0 1 "s a" ∷ token 1 3 "s k" ∷ []) (0 ∷ []) ∷ []
unfolding told
a_line_behind_a_spent_one_is_run_anew = refl

abbrev long_lines : Machine
long_lines = with_long 8 (grammar
    (group (1 ∷ [])
    ∷ with_content "c" (block "b" "<" ">" []) ∷ []))

pub a_long_line_is_one_token_and_keeps_the_frames : told long_lines ("<a" ∷ "abcdefgh" ∷ "a>b" ∷ [])
    ≡ line (token 0 1 "s b" ∷ token 1 2 "s b c" ∷ []) (1 ∷ 0 ∷ [])
    ∷ line (token 0 8 "s b c" ∷ []) (1 ∷ 0 ∷ [])
    ∷ line (token 0 1 "s b c" ∷ token 1 2 "s b" ∷ token 2 3 "s" ∷ []) (0 ∷ []) ∷ []
unfolding told
a_long_line_is_one_token_and_keeps_the_frames = refl

abbrev short_lines : Machine
short_lines = with_long 3 (grammar (group (1 ∷ []) ∷ with_content "c" (block "b" "<" ">" []) ∷ []))

pub a_line_of_exactly_so_many_characters_is_long : told short_lines ("<a" ∷ "a>b" ∷ "a>" ∷ [])
    ≡ line (token 0 1 "s b" ∷ token 1 2 "s b c" ∷ []) (1 ∷ 0 ∷ [])
    ∷ line (token 0 3 "s b c" ∷ []) (1 ∷ 0 ∷ [])
    ∷ line (token 0 1 "s b c" ∷ token 1 2 "s b" ∷ []) (0 ∷ []) ∷ []
unfolding told
a_line_of_exactly_so_many_characters_is_long = refl

-- ---- without a grammar

pub without_a_grammar_a_line_is_one_token_without_scopes : told_from (start_of []) (no_grammar 1000 20_000)
    ("a b" ∷ "" ∷ [])
    ≡ line (token 0 3 "" ∷ []) (0 ∷ []) ∷ line (token 0 0 "" ∷ []) (0 ∷ []) ∷ []
unfolding told_from
without_a_grammar_a_line_is_one_token_without_scopes = refl

-- ---- many frames

-- an open frame of rule 1, named `p`, on the root
abbrev open_block : Frame
open_block = record (root (codes "s p")) { rule = 1 }

-- so many of them, and one more
abbrev open_blocks : ℕ → Start
open_blocks below =
    record {
      first = false;
      stack = record {
        top = open_block;
        below =
            replicate below open_block ++ root (codes "s") ∷ [];
      };
    }

abbrev parentheses : Machine
parentheses = grammar
    (group (1 ∷ [])
    ∷ with_captures (capture 1 "one" ∷ []) (block "p" "\\((.)?" "\\)" (1 ∷ 2 ∷ []))
    ∷ single "x" "x" ∷ [])

pub on_999_frames_one_more_is_pushed : told_from (open_blocks 997) parentheses ("((x)x)" ∷ [])
    ≡ line (token 0 1 "s p p" ∷ token 1 2 "s p p one" ∷ token 2 3 "s p p x" ∷ token 3 4 "s p p" ∷ token 4 5 "s p x"
    ∷ token 5 6 "s p" ∷ []) (replicate 997 1 ++ 0 ∷ []) ∷ []
unfolding told_from
on_999_frames_one_more_is_pushed = refl

pub on_1000_frames_none_is_pushed : told_from (open_blocks 998) parentheses ("((a)x)" ∷ [])
    ≡ line (token 0 1 "s p p" ∷ token 1 2 "s p p one" ∷ token 2 3 "s p" ∷ token 3 4 "s p" ∷ token 4 5 "s p x"
    ∷ token 5 6 "s p" ∷ []) (replicate 997 1 ++ 0 ∷ []) ∷ []
unfolding told_from
on_1000_frames_none_is_pushed = refl

pub of_two_begins_on_998_frames_both_are_pushed : told_from (open_blocks 996) parentheses ("((((a))" ∷ [])
    ≡ line (token 0 1 "s p p" ∷ token 1 2 "s p p one" ∷ token 2 3 "s p p p" ∷ token 3 4 "s p p p one"
    ∷ token 4 5 "s p p p" ∷ token 5 6 "s p p p" ∷ token 6 7 "s p p" ∷ []) (replicate 997 1 ++ 0 ∷ []) ∷ []
unfolding told_from
of_two_begins_on_998_frames_both_are_pushed = refl

abbrev looking_ahead : Machine
looking_ahead = grammar
    (group (1 ∷ [])
    ∷ block "p" "\\(" "\\)" (2 ∷ 3 ∷ [])
    ∷ block "q" "(?=x)" "y" []
    ∷ single "z" "z" ∷ [])

pub a_begin_on_1000_frames_that_takes_nothing_leaves_the_rest : told_from (open_blocks 998) looking_ahead ("zxz" ∷ [])
    ≡ line (token 0 1 "s p z" ∷ token 1 3 "s p" ∷ []) (replicate 999 1 ++ 0 ∷ []) ∷ []
unfolding told_from
a_begin_on_1000_frames_that_takes_nothing_leaves_the_rest = refl

abbrev anchored : Machine
anchored = grammar (group (1 ∷ []) ∷ block "p" "\\(" "\\)" (1 ∷ 2 ∷ []) ∷ single "g" "\\Gx" ∷ [])

pub a_begin_that_pushes_nothing_leaves_the_anchor :
    (told_from (open_blocks 998) anchored ("(x" ∷ [])
    ≡ line (token 0 1 "s p p" ∷ token 1 2 "s p" ∷ []) (replicate 999 1 ++ 0 ∷ []) ∷ [])
    × (told_from (open_blocks 997) anchored ("(x" ∷ [])
    ≡ line (token 0 1 "s p p" ∷ token 1 2 "s p p g" ∷ []) (replicate 999 1 ++ 0 ∷ []) ∷ [])
unfolding told_from
a_begin_that_pushes_nothing_leaves_the_anchor = (refl, refl)
