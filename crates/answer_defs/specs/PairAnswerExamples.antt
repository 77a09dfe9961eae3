-- Worked examples of answers about pairs, each named by what it shows. Each holds by computing alone.
use Rattle.std.specs.Prelude.{◌≡◌, ℕ, ◌+◌, List, [], ◌∷◌, map, codes, Option, Some, None, refl}
use Prim.Native.String.{String}
use Rattle.pairing_defs.specs.OnLiterals.{words_on_literals}
use Rattle.text_pos.specs.declared.length.Pos.{Pos}
use Rattle.pairing_defs.specs.declared.Row.{Row}
use Rattle.pairing_defs.specs.Examples.{rows_at}
use Rattle.answer_defs.specs.declared.answer.MarkAt.{MarkAt}
use Rattle.answer_defs.specs.declared.pair_answer.GuideRow.{GuideRow}
use Rattle.answer_defs.specs.declared.pair_answer.Twin.{Twin}
use Rattle.answer_defs.specs.PairAnswers.{match_in, around_in, jump_in, level_in, pairs_in, guides_in, indentation}

abbrev pub rows : List String → List Row
rows lines = rows_at 200 (map codes lines)

abbrev pub at : ℕ → ℕ → Pos
at line col = record { line = line; col = col }

abbrev pub mark : ℕ → ℕ → ℕ → MarkAt
mark line from to = record { line = line; from = from; to = to }

-- partners of one character each, by where they start
abbrev pub twins : Pos → Pos → Option Twin
twins a b = Some (record {
  first = record { from = a; to = record { line = a.line; col = a.col + 1 } };
  second = record { from = b; to = record { line = b.line; col = b.col + 1 } };
})

abbrev pub guide : ℕ → ℕ → ℕ → GuideRow
guide line column level = record { line = line; column = column; level = level }

-- a function with two pairs of lines, one in the other, and a bracket that nothing closes
abbrev pub program : List String
program = "function f(a) {" ∷ "  if (a[0] > 1) {" ∷ "    g(a);" ∷ "  }" ∷ "}" ∷ "(" ∷ []

-- ---- the bracket at a place

pub between_two_brackets_the_one_behind_the_place_is_touched : match_in (rows ("()" ∷ [])) (at 0 1) ≡ twins (at 0 1) (at 0 0)
unfolding words_on_literals
between_two_brackets_the_one_behind_the_place_is_touched = refl

pub at_the_end_of_a_bracket_it_is_touched : match_in (rows ("()" ∷ [])) (at 0 2) ≡ twins (at 0 1) (at 0 0)
unfolding words_on_literals
at_the_end_of_a_bracket_it_is_touched = refl

pub a_bracket_without_partner_has_no_match : match_in (rows ("(]" ∷ [])) (at 0 0) ≡ None
unfolding words_on_literals
a_bracket_without_partner_has_no_match = refl

pub no_bracket_is_touched_from_another_line : match_in (rows ("()" ∷ "a" ∷ [])) (at 1 1) ≡ None
unfolding words_on_literals
no_bracket_is_touched_from_another_line = refl

-- ---- pairs around a place

pub the_pair_around_its_own_inside : around_in (rows ("()" ∷ [])) (at 0 1) ≡ twins (at 0 0) (at 0 1)
unfolding words_on_literals
the_pair_around_its_own_inside = refl

pub before_the_opener_nothing_is_around : around_in (rows ("()" ∷ [])) (at 0 0) ≡ None
unfolding words_on_literals
before_the_opener_nothing_is_around = refl

-- the `[` isn't closed, so the pair around is the outer one
pub an_unclosed_opener_is_passed_over : around_in (rows ("([a)" ∷ [])) (at 0 3) ≡ twins (at 0 0) (at 0 3)
unfolding words_on_literals
an_unclosed_opener_is_passed_over = refl

pub the_innermost_closed_pair_is_around : around_in (rows program) (at 2 0) ≡ twins (at 1 16) (at 3 2)
unfolding words_on_literals
the_innermost_closed_pair_is_around = refl

pub openers_that_nothing_closes_count_in_the_level : level_in (rows ("([a)" ∷ [])) (at 0 3) ≡ 2
unfolding words_on_literals
openers_that_nothing_closes_count_in_the_level = refl

-- the inside of the last opener ends with the text, and the text's end is in it
pub the_end_of_a_text_is_inside : level_in (rows ("(" ∷ "a" ∷ [])) (at 1 1) ≡ 1
unfolding words_on_literals
the_end_of_a_text_is_inside = refl

pub a_pair_that_ended_counts_no_more : level_in (rows ("(a)b" ∷ [])) (at 0 3) ≡ 0
unfolding words_on_literals
a_pair_that_ended_counts_no_more = refl

-- ---- where to jump

pub a_jump_goes_to_the_partner : jump_in (rows ("()" ∷ [])) (at 0 2) ≡ Some (at 0 0)
unfolding words_on_literals
a_jump_goes_to_the_partner = refl

pub a_jump_from_within_goes_to_the_closer : jump_in (rows program) (at 2 0) ≡ Some (at 3 2)
unfolding words_on_literals
a_jump_from_within_goes_to_the_closer = refl

pub a_jump_from_outside_goes_to_the_next_bracket : jump_in (rows ("a" ∷ "b(" ∷ [])) (at 0 1) ≡ Some (at 1 1)
unfolding words_on_literals
a_jump_from_outside_goes_to_the_next_bracket = refl

-- the bracket at the place has no partner and no pair is around, so the next bracket is the one at the place
pub a_jump_may_stay : jump_in (rows ("(a" ∷ [])) (at 0 0) ≡ Some (at 0 0)
unfolding words_on_literals
a_jump_may_stay = refl

pub behind_all_brackets_there_is_no_jump : jump_in (rows ("() a" ∷ [])) (at 0 4) ≡ None
unfolding words_on_literals
behind_all_brackets_there_is_no_jump = refl

-- ---- pairs and guides of lines

pub pairs_that_reach_into_a_line : pairs_in (rows program) 3 3
    ≡ record { opener = mark 0 14 15; closer = Some (mark 4 0 1); level = 0; own = 0 }
    ∷ record { opener = mark 1 16 17; closer = Some (mark 3 2 3); level = 1; own = 1 } ∷ []
unfolding words_on_literals
pairs_that_reach_into_a_line = refl

-- closed off by the `)`, it has no closer and reaches up to there
pub a_pair_without_closer_ends_where_it_is_closed_off : pairs_in (rows ("([" ∷ ")" ∷ "a" ∷ [])) 1 2
    ≡ record { opener = mark 0 0 1; closer = Some (mark 1 0 1); level = 0; own = 0 }
    ∷ record { opener = mark 0 1 2; closer = None; level = 1; own = 0 } ∷ []
unfolding words_on_literals
a_pair_without_closer_ends_where_it_is_closed_off = refl

pub guides_of_a_function : guides_in 4 (map codes program) (rows program) 0 5
    ≡ guide 1 0 0 ∷ guide 2 0 0 ∷ guide 2 2 1 ∷ guide 3 0 0 ∷ guide 3 2 1 ∷ guide 4 0 0 ∷ []
unfolding words_on_literals
guides_of_a_function = refl

pub a_pair_in_one_line_has_no_guide : guides_in 4 (codes "()" ∷ []) (rows ("()" ∷ [])) 0 0 ≡ []
unfolding words_on_literals
a_pair_in_one_line_has_no_guide = refl

-- the closer's line is indented less than the opener's
pub a_guide_takes_the_smaller_indentation : guides_in 4 (map codes ("    (" ∷ "  a" ∷ " )" ∷ [])) (rows ("    (" ∷ "  a" ∷ " )" ∷ [])) 1 2
    ≡ guide 1 1 0 ∷ guide 2 1 0 ∷ []
unfolding words_on_literals
a_guide_takes_the_smaller_indentation = refl

pub a_tab_goes_to_the_next_stop : map (indentation 4) ((9 ∷ 97 ∷ []) ∷ (32 ∷ 9 ∷ 32 ∷ 97 ∷ []) ∷ (32 ∷ 32 ∷ 32 ∷ 32 ∷ 9 ∷ []) ∷ []) ≡ 4 ∷ 5 ∷ 8 ∷ []
unfolding words_on_literals
a_tab_goes_to_the_next_stop = refl
