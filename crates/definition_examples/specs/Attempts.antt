-- Further worked examples of attempts and searches, each named by what it shows.
use Rattle.std.specs.Prelude.{◌≡◌, ◌<◌, ◌≤◌, [], ◌∷◌, codes, map, true, false, Some, None, refl}
use Rattle.std.proofs.Common.{arith}
use Rattle.pattern_defs.specs.declared.nodes.Anchor.TheVariants.{LineEnd, First, End, LastEnd}
use Rattle.pattern_defs.specs.declared.nodes.PatNode.TheVariants.{At, Choice, Group, Repeat, Back}
use Rattle.pattern_defs.specs.declared.outcomes.Found.TheVariants as found
use Rattle.pattern_defs.specs.Patterns.{Tree, AreBounds, IsNode, is_flat}
use Rattle.pattern_defs.specs.Attempt.{Subject, attempt, go_on, holds_at, last_hit_captures}
use Rattle.pattern_defs.specs.FirstMatch.{first_match, captures_after}
use Rattle.pattern_defs.specs.AttemptExamples.{id, char, a, b, c, place, flags, with_groups, plain, taken, stars}
use Rattle.pattern_defs.specs.AttemptExamples.{lines, two}

-- ---- anchors

-- the flag is set, and the places are the first and the third
pub the_first_place_is_the_start_of_the_text : map (holds_at First (lines flags)) (0 ∷ 2 ∷ []) ≡ true ∷ false ∷ []
the_first_place_is_the_start_of_the_text = refl

-- the text `ab`, and the empty one
abbrev letters : Subject
letters = record { lists = []; text = codes "ab"; flags = flags }

abbrev nothing : Subject
nothing = record { lists = []; text = []; flags = flags }

pub the_end_is_behind_a_last_character : map (holds_at End letters) (0 ∷ 1 ∷ 2 ∷ []) ≡ false ∷ false ∷ true ∷ []
the_end_is_behind_a_last_character = refl

pub an_empty_text_has_both_ends : map (λ anchor. holds_at anchor nothing 0) (End ∷ LastEnd ∷ []) ≡ true ∷ true ∷ []
an_empty_text_has_both_ends = refl

pub the_last_end_stands_before_a_line_end_alone : map (holds_at LastEnd letters) (0 ∷ 1 ∷ 2 ∷ []) ≡ false ∷ false ∷ true ∷ []
the_last_end_stands_before_a_line_end_alone = refl

-- ---- back references

-- `(ab)\1`
abbrev twice : Tree
twice = with_groups 1 ((a ∷ b ∷ []) ∷ (Group 1 (id 0) ∷ Back 1 false ∷ []) ∷ []) 1

pub a_reference_takes_all_that_its_group_took : map (λ text. taken twice text 0) (codes "ababx" ∷ codes "abac" ∷ [])
    ≡ (place 0 4 ∷ place 0 2 ∷ []) ∷ [] ∷ []
unfolding go_on
a_reference_takes_all_that_its_group_took = refl

-- `(A)\1` on `Aa`, the reference in any case
pub what_the_group_took_is_in_any_case_too :
    taken (with_groups 1 ((char 65 ∷ []) ∷ (Group 1 (id 0) ∷ Back 1 true ∷ []) ∷ []) 1) (codes "Aa") 0
    ≡ place 0 2 ∷ place 0 1 ∷ []
unfolding go_on
what_the_group_took_is_in_any_case_too = refl

-- ---- numbers of a pattern

-- `a*|b`
pub alternatives_with_a_repeat_are_not_flat :
    is_flat (plain ((a ∷ []) ∷ (Repeat (id 0) 0 None true ∷ []) ∷ (b ∷ []) ∷ (Choice (id 1 ∷ id 2 ∷ []) ∷ []) ∷ []) 3) ≡ false
alternatives_with_a_repeat_are_not_flat = refl

-- `(?:a|b)c`
pub alternatives_before_more_are_not_flat :
    is_flat (plain ((a ∷ []) ∷ (b ∷ []) ∷ (Choice (id 0 ∷ id 1 ∷ []) ∷ c ∷ []) ∷ []) 2) ≡ false
alternatives_before_more_are_not_flat = refl

-- `a{2}` has bounds, and no repeat is done at least 3 times and at most twice
pub equal_bounds_are_bounds : AreBounds 2 (Some 2) × (AreBounds 3 (Some 2) → ⊥)
equal_bounds_are_bounds = (omega arith, λ (h : 3 ≤ 2). omega arith)

-- of two groups the second is there, and none has the number 0
pub groups_are_numbered_from_1_to_their_number : IsNode 1 2 (Back 2 false) × (IsNode 1 2 (Back 0 false) → ⊥)
groups_are_numbered_from_1_to_their_number =
    ((omega arith, omega arith), λ (h : (0 < 0) × (0 ≤ 2)). let positive : 0 < 0 = h.0 in omega arith)

-- ---- searches

-- `c` and `a*b`, of which the second needs more visits than there are, at the third of three places
pub a_spent_search_tells_its_pattern_and_its_place :
    first_match (plain ((c ∷ []) ∷ []) 0 ∷ stars true ∷ []) (codes "xxaab") 0 flags 5 ≡ found.Spent 1 2
unfolding go_on
a_spent_search_tells_its_pattern_and_its_place = refl

-- `$` on `ab`
abbrev line_end : Tree
line_end = plain ((At LineEnd ∷ []) ∷ []) 0

pub the_end_of_the_text_is_a_place_too :
    (first_match (line_end ∷ []) (codes "ab") 0 flags 9 ≡ found.At 0)
    × (captures_after (line_end ∷ []) (codes "ab") 0 flags 9 [] ≡ place 2 2 ∷ [])
unfolding go_on
the_end_of_the_text_is_a_place_too = (refl, refl)

pub a_search_may_begin_at_the_end : map (first_match (line_end ∷ []) (codes "ab") 2 flags) (9 ∷ []) ≡ found.At 0 ∷ []
unfolding go_on
a_search_may_begin_at_the_end = refl

-- captures of a hit before: those of a search that finds something take their place
pub a_search_that_finds_nothing_keeps_the_captures_of_the_last_hit :
    map (λ text. captures_after two text 0 flags 100 (place 7 8 ∷ [])) (codes "ba" ∷ codes "c" ∷ [])
    ≡ (place 0 1 ∷ []) ∷ (place 7 8 ∷ []) ∷ []
unfolding go_on
a_search_that_finds_nothing_keeps_the_captures_of_the_last_hit = refl

pub a_miss_keeps_the_captures_of_the_last_hit :
    last_hit_captures (attempt (stars true) (codes "x") 0 flags 9) (place 7 8 ∷ []) ≡ place 7 8 ∷ []
unfolding go_on
a_miss_keeps_the_captures_of_the_last_hit = refl

pub a_spent_attempt_keeps_them_too :
    last_hit_captures (attempt (stars true) (codes "aab") 0 flags 7) (place 7 8 ∷ []) ≡ place 7 8 ∷ []
unfolding go_on
a_spent_attempt_keeps_them_too = refl
