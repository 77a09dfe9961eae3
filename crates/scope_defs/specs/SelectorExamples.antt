-- Worked examples of reading selectors and of what they hold of, each named by what it shows.
use Rattle.std.specs.Prelude.{◌≡◌, ℕ, List, [], ◌∷◌, ◌++◌, codes, map, replicate, Bool, true, false, Option, Some}
use Rattle.std.specs.Prelude.{None, Ok, Err, ℤ, pos, negsuc, refl}
use Rattle.std.specs.Option.{option_map}
use Rattle.std.specs.Result.{result_ok}
use Rattle.scope_defs.specs.Scopes.{Scopes}
use Rattle.scope_defs.specs.Selectors.{Matcher, Path, Not, Both, Either, Entry, holds}
use Rattle.scope_defs.specs.SelectorSyntax.{read_selector}

abbrev pub path : List ℕ → Matcher
path name = Path (name ∷ [])

abbrev pub entry : ℤ → Matcher → Entry
entry priority matcher = record { priority = priority; matcher = matcher }

-- the matchers of a selector, where the text is one
abbrev pub matchers : List ℕ → Option (List Matcher)
matchers text = option_map (map (λ e. e.matcher)) (result_ok (read_selector text))

-- its priorities
abbrev pub priorities : List ℕ → Option (List ℤ)
priorities text = option_map (map (λ e. e.priority)) (result_ok (read_selector text))

abbrev pub first_holds_of : Scopes → List Entry → Option Bool
first_holds_of scopes [] = None
first_holds_of scopes (e ∷ entries) = Some (holds e.matcher scopes)

abbrev pub holds_of : Scopes → Option (List Entry) → Option Bool
holds_of scopes None = None
holds_of scopes (Some entries) = first_holds_of scopes entries

-- whether the first entry of a selector holds of scopes, where the text is one
abbrev pub first_holds : List ℕ → Scopes → Option Bool
first_holds text scopes = holds_of scopes (result_ok (read_selector text))

pub a_path_an_operand_that_must_not_hold_and_an_entry_that_goes_first : read_selector (codes "a b - c, L:d")
    ≡ Ok (entry (pos 0) (Both (Path (codes "a" ∷ codes "b" ∷ [])) (Not (path (codes "c")))) ∷ entry (negsuc 0)
    (path (codes "d")) ∷ [])
a_path_an_operand_that_must_not_hold_and_an_entry_that_goes_first = refl

pub it_holds_of_scopes_with_others_between : first_holds (codes "a b - c, L:d")
    (codes "a.x" ∷ codes "q" ∷ codes "b" ∷ []) ≡ Some true
it_holds_of_scopes_with_others_between = refl

pub it_does_not_hold_of_scopes_with_the_other : first_holds (codes "a b - c, L:d")
    (codes "a" ∷ codes "b" ∷ codes "c" ∷ []) ≡ Some false
it_does_not_hold_of_scopes_with_the_other = refl

pub a_text_of_nothing_is_refused_at_its_end : read_selector [] ≡ Err 0
a_text_of_nothing_is_refused_at_its_end = refl

pub a_priority_wants_an_operand : read_selector (codes "L:") ≡ Err 2
a_priority_wants_an_operand = refl

pub a_bar_outside_parentheses_is_refused : read_selector (codes "a |") ≡ Err 2
a_bar_outside_parentheses_is_refused = refl

pub a_minus_wants_an_operand : read_selector (codes "a -") ≡ Err 3
a_minus_wants_an_operand = refl

pub a_parenthesis_wants_its_end : read_selector (codes "(a") ≡ Err 2
a_parenthesis_wants_its_end = refl

pub a_parenthesis_wants_an_operand : read_selector (codes "a ()") ≡ Err 3
a_parenthesis_wants_an_operand = refl

pub a_parenthesis_that_opens_nothing_is_refused : read_selector (codes "a )") ≡ Err 2
a_parenthesis_that_opens_nothing_is_refused = refl

pub a_comma_wants_an_entry : read_selector (codes "a, ") ≡ Err 3
a_comma_wants_an_entry = refl

pub a_tab_is_no_space : read_selector (97 ∷ 9 ∷ 98 ∷ []) ≡ Err 1
a_tab_is_no_space = refl

pub an_operand_in_a_hundred_parentheses_is_read : matchers (replicate 100 40 ++ 97 ∷ replicate 100 41)
    ≡ Some (path (codes "a") ∷ [])
an_operand_in_a_hundred_parentheses_is_read = refl

pub an_operand_in_more_is_refused_at_its_place : read_selector (replicate 101 40 ++ 97 ∷ replicate 101 41) ≡ Err 101
an_operand_in_more_is_refused_at_its_place = refl

pub minus_signs_count_as_parentheses_do : read_selector (replicate 60 45 ++ replicate 41 40 ++ 97 ∷ []) ≡ Err 101
minus_signs_count_as_parentheses_do = refl

pub the_place_before_a_deep_operand_counts : read_selector (replicate 100 40 ++ 41 ∷ []) ≡ Err 100
the_place_before_a_deep_operand_counts = refl

pub a_minus_in_a_name_is_its_character : matchers (codes "a-b -c")
    ≡ Some (Both (path (codes "a-b")) (Not (path (codes "c"))) ∷ [])
a_minus_in_a_name_is_its_character = refl

pub two_minus_signs_say_what_one_operand_says : matchers (codes "--a") ≡ Some (Not (Not (path (codes "a"))) ∷ [])
two_minus_signs_say_what_one_operand_says = refl

pub a_minus_binds_the_path_behind_it : matchers (codes "-a b(c)")
    ≡ Some (Both (Not (Path (codes "a" ∷ codes "b" ∷ []))) (path (codes "c")) ∷ [])
a_minus_binds_the_path_behind_it = refl

pub commas_and_bars_part_alternatives_in_parentheses : matchers (codes "(a|b c,d) e")
    ≡ Some (Both (Either (Either (path (codes "a")) (Path (codes "b" ∷ codes "c" ∷ []))) (path (codes "d")))
    (path (codes "e")) ∷ [])
commas_and_bars_part_alternatives_in_parentheses = refl

pub a_priority_stands_at_the_front_of_its_entry_alone : read_selector (codes " R:L:a, b L:c")
    ≡ Ok (entry (pos 1) (path (codes "L:a")) ∷ entry (pos 0) (Path (codes "b" ∷ codes "L:c" ∷ [])) ∷ [])
a_priority_stands_at_the_front_of_its_entry_alone = refl

pub in_parentheses_and_behind_a_minus_it_is_a_name : read_selector (codes "(L:a) - R:b")
    ≡ Ok (entry (pos 0) (Both (path (codes "L:a")) (Not (path (codes "R:b")))) ∷ [])
in_parentheses_and_behind_a_minus_it_is_a_name = refl

pub a_space_parts_a_letter_from_its_colon : priorities (codes "L :") ≡ Some (pos 0 ∷ [])
a_space_parts_a_letter_from_its_colon = refl
