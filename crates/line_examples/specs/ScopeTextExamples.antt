-- Scope texts and end texts, each example named by what it shows.
use Rattle.std.specs.Prelude.{◌≡◌, [], ◌∷◌, refl}
use Rattle.line_defs.specs.Machine.{Machine}
use Rattle.line_examples.specs.Short.{group, single, block, capture, with_end_captures, grammar, line, token, told}

abbrev forms : Machine
forms = grammar
    (group (1 ∷ [])
    ∷ single "x.$1k${1:/upcase} y.$7" "(\\.a)|b" ∷ [])

pub a_form_stands_for_a_captured_text_without_its_dots : told forms (".ab" ∷ [])
    ≡ line (token 0 2 "s x.akA y.$7" ∷ token 2 3 "s x.k y.$7" ∷ []) (0 ∷ []) ∷ []
unfolding told
a_form_stands_for_a_captured_text_without_its_dots = refl

abbrev more_forms : Machine
more_forms = grammar
    (group (1 ∷ [])
    ∷ single "a$2b $2 $1$2 $3 ${11:/downcase} $01 $ 1 ${}" "(\\S+) (\\S*)" ∷ [])

pub a_form_of_no_group_stays_as_it_is_written : told more_forms ("..A " ∷ "a .q" ∷ [])
    ≡ line (token 0 4 "s ab A $3 ${11:/downcase} A $ 1 ${}" ∷ []) (0 ∷ [])
    ∷ line (token 0 4 "s aqb q aq $3 ${11:/downcase} a $ 1 ${}" ∷ []) (0 ∷ []) ∷ []
unfolding told
a_form_of_no_group_stays_as_it_is_written = refl

abbrev names_with_spaces : Machine
names_with_spaces = grammar
    (group (1 ∷ [])
    ∷ single "  x$1y   $1 " "(a b)" ∷ [])

pub spaces_part_names_also_in_a_captured_text : told names_with_spaces ("a b" ∷ [])
    ≡ line (token 0 3 "s xa by a b" ∷ []) (0 ∷ []) ∷ []
unfolding told
spaces_part_names_also_in_a_captured_text = refl

abbrev here_documents : Machine
here_documents = grammar
    (group (1 ∷ [])
    ∷ block "string.here" "<<(\\w+)" "^\\1$" [] ∷ [])

pub an_end_text_has_what_the_begin_captured : told here_documents ("<<AB" ∷ "(" ∷ "AB" ∷ "(" ∷ [])
    ≡ line (token 0 4 "s string.here" ∷ []) (1 ∷ 0 ∷ [])
    ∷ line (token 0 1 "s string.here" ∷ []) (1 ∷ 0 ∷ [])
    ∷ line (token 0 2 "s string.here" ∷ []) (0 ∷ [])
    ∷ line (token 0 1 "s" ∷ []) (0 ∷ []) ∷ []
unfolding told
an_end_text_has_what_the_begin_captured = refl

pub another_word_ends_another_text : told here_documents ("<<A" ∷ "(" ∷ "AB" ∷ "(" ∷ [])
    ≡ line (token 0 3 "s string.here" ∷ []) (1 ∷ 0 ∷ [])
    ∷ line (token 0 1 "s string.here" ∷ []) (1 ∷ 0 ∷ [])
    ∷ line (token 0 2 "s string.here" ∷ []) (1 ∷ 0 ∷ [])
    ∷ line (token 0 1 "s string.here" ∷ []) (1 ∷ 0 ∷ []) ∷ []
unfolding told
another_word_ends_another_text = refl

-- the number behind a backslash has all its digits
abbrev references : Machine
references = grammar
    (group (1 ∷ [])
    ∷ block "e" "<(.)(x)?(.)(.)" "\\1\\2\\4\\9\\12" [] ∷ [])

pub references_to_unset_and_missing_groups_are_empty : told references ("<-x. a" ∷ "-x a" ∷ "- a" ∷ "-  " ∷ "- " ∷ [])
    ≡ line (token 0 5 "s e" ∷ token 5 6 "s e" ∷ []) (1 ∷ 0 ∷ [])
    ∷ line (token 0 3 "s e" ∷ token 3 4 "s" ∷ []) (0 ∷ [])
    ∷ line (token 0 3 "s" ∷ []) (0 ∷ [])
    ∷ line (token 0 3 "s" ∷ []) (0 ∷ [])
    ∷ line (token 0 2 "s" ∷ []) (0 ∷ []) ∷ []
unfolding told
references_to_unset_and_missing_groups_are_empty = refl

abbrev signs : Machine
signs = grammar
    (group (1 ∷ [])
    ∷ block "e" "<(.*)>$" "\\1" [] ∷ [])

pub signs_of_a_captured_text_mean_themselves : told signs ("<[a]{b}(c)*+?|^$.,-#\\>" ∷ "[a]{b}(c)*+?|^$.,-#\\ z" ∷ [])
    ≡ line (token 0 22 "s e" ∷ []) (1 ∷ 0 ∷ [])
    ∷ line (token 0 20 "s e" ∷ token 20 22 "s" ∷ []) (0 ∷ []) ∷ []
unfolding told
signs_of_a_captured_text_mean_themselves = refl

abbrev a_backslash_before_a_reference : Machine
a_backslash_before_a_reference = grammar
    (group (1 ∷ [])
    ∷ block "e" "<(.)>" "\\\\1\\2x" [] ∷ [])

pub a_backslash_before_a_backslash_and_a_digit_starts_no_escape : told a_backslash_before_a_reference
    ("<(>" ∷ "(x" ∷ "\\(x" ∷ "\\1" ∷ [])
    ≡ line (token 0 3 "s e" ∷ []) (1 ∷ 0 ∷ [])
    ∷ line (token 0 2 "s e" ∷ []) (1 ∷ 0 ∷ [])
    ∷ line (token 0 3 "s e" ∷ []) (1 ∷ 0 ∷ [])
    ∷ line (token 0 2 "s e" ∷ []) (1 ∷ 0 ∷ []) ∷ []
unfolding told
a_backslash_before_a_backslash_and_a_digit_starts_no_escape = refl

abbrev groups_in_an_end_text : Machine
groups_in_an_end_text = grammar
    (group (1 ∷ [])
    ∷ with_end_captures (capture 1 "one" ∷ capture 2 "two" ∷ []) (block "e" "<(\\w)>" "(\\1)(\\1)?" []) ∷ [])

pub the_groups_of_an_end_text_are_told : told groups_in_an_end_text ("<b>abb" ∷ [])
    ≡ line (token 0 3 "s e" ∷ token 3 4 "s e" ∷ token 4 5 "s e one" ∷ token 5 6 "s e two" ∷ []) (0 ∷ []) ∷ []
unfolding told
the_groups_of_an_end_text_are_told = refl
