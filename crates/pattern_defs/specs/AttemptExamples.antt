-- Worked examples of attempts and searches, each named by what it shows.
use Rattle.std.specs.Prelude.{◌≡◌, ℕ, List, [], ◌∷◌, map, codes, Bool, true, false, Option, Some, None, refl}
use Rattle.ucd_table.specs.Rows.{value_in}
use Rattle.ucd_category.specs.GeneralCategory.{general_category}
use Rattle.ucd_category.specs.GeneralCategoryRows.{general_category_rows}
use Rattle.char_sets.specs.Named.{is_word}
use Rattle.pattern_defs.specs.declared.nodes.ListId.{ListId}
use Rattle.pattern_defs.specs.declared.nodes.Anchor.TheVariants.{LineStart, LineEnd, First, Mark, End, LastEnd, WordEdge, NoWordEdge}
use Rattle.pattern_defs.specs.declared.nodes.PatNode.{PatNode}
use Rattle.pattern_defs.specs.declared.nodes.PatNode.TheVariants.{One, At, Choice, Group, Repeat, Ahead, Behind, Atomic, Back}
use Rattle.pattern_defs.specs.declared.outcomes.Flags.{Flags}
use Rattle.pattern_defs.specs.declared.outcomes.Found.TheVariants as found
use Rattle.pattern_defs.specs.declared.outcomes.Place.{Place}
use Rattle.pattern_defs.specs.Patterns.{NodeLists, Tree, size_of, is_flat}
use Rattle.pattern_defs.specs.Attempt.{Hit, Miss, Spent, Captures, Subject, attempt, go_on, holds_at, last_hit_captures}
use Rattle.pattern_defs.specs.FirstMatch.{first_match}

abbrev pub id : ℕ → ListId
id n = record { 0 = n }

-- one character
abbrev pub char : ℕ → PatNode
char c = One (record { first = c; last = c } ∷ [])

-- `a`, `b` and `c`
abbrev pub a : PatNode
a = char 97

abbrev pub b : PatNode
b = char 98

abbrev pub c : PatNode
c = char 99

abbrev pub place : ℕ → ℕ → Option Place
place from to = Some (record { from = from; to = to })

abbrev pub flags : Flags
flags = record { first = true; anchor = None }

-- `.`, outside the option `m` and under it
abbrev pub dot : Bool → PatNode
dot false = One (record { first = 0; last = 9 } ∷ record { first = 11; last = 1_114_111 } ∷ [])
dot true = One (record { first = 0; last = 1_114_111 } ∷ [])

-- a pattern with so many numbered groups
abbrev pub with_groups : ℕ → NodeLists → ℕ → Tree
with_groups groups lists top = record { lists = lists; top = id top; groups = groups }

abbrev pub plain : NodeLists → ℕ → Tree
plain lists top = with_groups 0 lists top

-- what the groups took at the place, with a budget that suffices; nothing where there is no match
abbrev pub taken : Tree → List ℕ → ℕ → Captures
taken tree text at = last_hit_captures (attempt tree text at flags 100) []

-- ---- single characters

-- `.` on a line feed, on `a` and on an empty text
pub a_dot_takes_a_line_feed_only_under_m :
    (map (λ text. taken (plain ((dot true ∷ []) ∷ []) 0) text 0) ((10 ∷ []) ∷ codes "a" ∷ [] ∷ []) ≡ (place 0 1 ∷ []) ∷ (place 0 1 ∷ []) ∷ [] ∷ [])
    × (map (λ text. taken (plain ((dot false ∷ []) ∷ []) 0) text 0) ((10 ∷ []) ∷ codes "a" ∷ [] ∷ []) ≡ [] ∷ (place 0 1 ∷ []) ∷ [] ∷ [])
unfolding go_on
a_dot_takes_a_line_feed_only_under_m = (refl, refl)

-- ---- repeats

-- `a*b` and `a*?b`
abbrev pub stars : Bool → Tree
stars greedy = plain ((a ∷ []) ∷ (Repeat (id 0) 0 None greedy ∷ b ∷ []) ∷ []) 1

pub a_greedy_repeat_takes_eight_visits : map (attempt (stars true) (codes "aab") 0 flags) (8 ∷ 7 ∷ []) ≡ Hit 3 (place 0 3 ∷ []) 0 ∷ Spent ∷ []
unfolding go_on
a_greedy_repeat_takes_eight_visits = refl

pub a_lazy_repeat_tries_the_rest_first : map (attempt (stars false) (codes "aab") 0 flags) (9 ∷ 8 ∷ []) ≡ Hit 3 (place 0 3 ∷ []) 0 ∷ Spent ∷ []
unfolding go_on
a_lazy_repeat_tries_the_rest_first = refl

-- `(?:a?){3}` on an empty text
pub an_iteration_that_takes_nothing_ends_its_repeat :
    map (attempt (plain ((a ∷ []) ∷ (Repeat (id 0) 0 (Some 1) true ∷ []) ∷ (Repeat (id 1) 3 (Some 3) true ∷ []) ∷ []) 2) [] 0 flags) (5 ∷ 4 ∷ [])
    ≡ Hit 0 (place 0 0 ∷ []) 0 ∷ Spent ∷ []
unfolding go_on
an_iteration_that_takes_nothing_ends_its_repeat = refl

-- `a{2,3}` on `aaaa`, and `a{0}`
pub bounds_are_kept :
    taken (plain ((a ∷ []) ∷ (Repeat (id 0) 2 (Some 3) true ∷ []) ∷ []) 1) (codes "aaaa") 0 ≡ place 0 3 ∷ []
unfolding go_on
bounds_are_kept = refl

pub a_repeat_may_take_nothing : taken (plain ((a ∷ []) ∷ (Repeat (id 0) 0 (Some 0) true ∷ []) ∷ []) 1) (codes "a") 0 ≡ place 0 0 ∷ []
unfolding go_on
a_repeat_may_take_nothing = refl

-- ---- groups

-- `(a|b){2}` on `ab`
pub a_group_keeps_what_it_took_last :
    taken (with_groups 1 ((a ∷ []) ∷ (b ∷ []) ∷ (Choice (id 0 ∷ id 1 ∷ []) ∷ []) ∷ (Group 1 (id 2) ∷ []) ∷ (Repeat (id 3) 2 (Some 2) true ∷ []) ∷ []) 4) (codes "ab") 0
    ≡ place 0 2 ∷ place 1 2 ∷ []
unfolding go_on
a_group_keeps_what_it_took_last = refl

-- `(?:(a)c|ab)` on `ab`
pub what_a_failed_way_captured_is_forgotten :
    taken (with_groups 1 ((a ∷ []) ∷ (Group 1 (id 0) ∷ c ∷ []) ∷ (a ∷ b ∷ []) ∷ (Choice (id 1 ∷ id 2 ∷ []) ∷ []) ∷ []) 3) (codes "ab") 0
    ≡ place 0 2 ∷ None ∷ []
unfolding go_on
what_a_failed_way_captured_is_forgotten = refl

-- `(a)\1` on `aa` and on `aA`, the reference in any case; `\1(a)` on `a`
abbrev pub again : Bool → Tree
again fold = with_groups 1 ((a ∷ []) ∷ (Group 1 (id 0) ∷ Back 1 fold ∷ []) ∷ []) 1

pub a_reference_takes_the_same_text : map (λ text. taken (again false) text 0) (codes "aa" ∷ codes "aA" ∷ []) ≡ (place 0 2 ∷ place 0 1 ∷ []) ∷ [] ∷ []
unfolding go_on
a_reference_takes_the_same_text = refl

pub a_reference_may_take_any_case : taken (again true) (codes "aA") 0 ≡ place 0 2 ∷ place 0 1 ∷ []
unfolding go_on
a_reference_may_take_any_case = refl

pub a_reference_to_an_unset_group_misses :
    attempt (with_groups 1 ((a ∷ []) ∷ (Back 1 false ∷ Group 1 (id 0) ∷ []) ∷ []) 1) (codes "a") 0 flags 9 ≡ Miss 8
unfolding go_on
a_reference_to_an_unset_group_misses = refl

-- ---- lookaround and atomic groups

-- `(?=(a))a`, and `(?!(a)b)a` on `ac`
pub a_lookahead_keeps_its_captures :
    taken (with_groups 1 ((a ∷ []) ∷ (Group 1 (id 0) ∷ []) ∷ (Ahead (id 1) true ∷ a ∷ []) ∷ []) 2) (codes "a") 0 ≡ place 0 1 ∷ place 0 1 ∷ []
unfolding go_on
a_lookahead_keeps_its_captures = refl

pub a_negative_lookahead_restores_captures :
    map (λ text. taken (with_groups 1 ((a ∷ []) ∷ (Group 1 (id 0) ∷ b ∷ []) ∷ (Ahead (id 1) false ∷ a ∷ []) ∷ []) 2) text 0) (codes "ac" ∷ codes "ab" ∷ [])
    ≡ (place 0 1 ∷ None ∷ []) ∷ [] ∷ []
unfolding go_on
a_negative_lookahead_restores_captures = refl

-- `(?=)`: one visit for the node, one for the empty list in it, one for the rest
pub a_nested_run_shares_the_budget :
    map (attempt (plain ([] ∷ (Ahead (id 0) true ∷ []) ∷ []) 1) [] 0 flags) (3 ∷ 2 ∷ []) ≡ Hit 0 (place 0 0 ∷ []) 0 ∷ Spent ∷ []
unfolding go_on
a_nested_run_shares_the_budget = refl

-- `(?<=ab|c)c` and `(?<!ab|c)c`
abbrev pub behind : Bool → Tree
behind wanted = plain ((a ∷ b ∷ []) ∷ (c ∷ []) ∷ (Behind (record { length = 2; body = id 0 } ∷ record { length = 1; body = id 1 } ∷ []) wanted ∷ c ∷ []) ∷ []) 2

pub a_lookbehind_sees_what_lies_before :
    (taken (behind true) (codes "abc") 2 ≡ place 2 3 ∷ []) × (taken (behind true) (codes "cc") 1 ≡ place 1 2 ∷ []) × (taken (behind true) (codes "bc") 1 ≡ [])
unfolding go_on
a_lookbehind_sees_what_lies_before = (refl, refl, refl)

pub a_negative_lookbehind_fits_where_no_arm_does :
    (taken (behind false) (codes "abc") 2 ≡ []) × (taken (behind false) (codes "cc") 1 ≡ []) × (taken (behind false) (codes "bc") 1 ≡ place 1 2 ∷ [])
unfolding go_on
a_negative_lookbehind_fits_where_no_arm_does = (refl, refl, refl)

pub an_arm_that_is_longer_than_the_place_does_not_fit : map (λ wanted. taken (behind wanted) (codes "c") 0) (true ∷ false ∷ []) ≡ [] ∷ (place 0 1 ∷ []) ∷ []
unfolding go_on
an_arm_that_is_longer_than_the_place_does_not_fit = refl

-- `(?>a*)ab` on `aab`
pub an_atomic_group_is_left_as_it_is :
    taken (plain ((a ∷ []) ∷ (Repeat (id 0) 0 None true ∷ []) ∷ (Atomic (id 1) ∷ a ∷ b ∷ []) ∷ []) 2) (codes "aab") 0 ≡ []
unfolding go_on
an_atomic_group_is_left_as_it_is = refl

-- ---- anchors, in the text `a` LF `b` LF

abbrev pub lines : Flags → Subject
lines flags = record { lists = []; text = 97 ∷ 10 ∷ 98 ∷ 10 ∷ []; flags = flags }

pub a_line_starts_behind_each_line_end_but_the_last : map (holds_at LineStart (lines flags)) (0 ∷ 1 ∷ 2 ∷ 3 ∷ 4 ∷ []) ≡ true ∷ false ∷ true ∷ false ∷ false ∷ []
a_line_starts_behind_each_line_end_but_the_last = refl

pub a_line_ends_before_each_line_end : map (holds_at LineEnd (lines flags)) (0 ∷ 1 ∷ 2 ∷ 3 ∷ 4 ∷ []) ≡ false ∷ true ∷ false ∷ true ∷ true ∷ []
a_line_ends_before_each_line_end = refl

pub the_end_is_none_behind_a_line_end : map (holds_at End (lines flags)) (3 ∷ 4 ∷ []) ≡ false ∷ false ∷ []
the_end_is_none_behind_a_line_end = refl

pub the_last_end_may_stand_before_a_line_end : map (holds_at LastEnd (lines flags)) (1 ∷ 3 ∷ 4 ∷ []) ≡ false ∷ true ∷ true ∷ []
the_last_end_may_stand_before_a_line_end = refl

pub the_first_place_is_known_by_its_flag : map (λ first. holds_at First (lines (record { first = first; anchor = None })) 0) (true ∷ false ∷ []) ≡ true ∷ false ∷ []
the_first_place_is_known_by_its_flag = refl

pub the_mark_is_where_the_flag_says : map (holds_at Mark (lines (record { first = false; anchor = Some 2 }))) (1 ∷ 2 ∷ []) ≡ false ∷ true ∷ []
the_mark_is_where_the_flag_says = refl

-- ---- `\b` and `\B`, in the text `ab` LF

abbrev pub word : Subject
word = record { lists = []; text = 97 ∷ 98 ∷ 10 ∷ []; flags = flags }

pub a_word_has_an_edge_at_each_end : map (holds_at WordEdge word) (0 ∷ 1 ∷ 2 ∷ 3 ∷ []) ≡ true ∷ false ∷ true ∷ false ∷ []
unfolding is_word general_category value_in general_category_rows
a_word_has_an_edge_at_each_end = refl

pub no_word_has_an_edge_elsewhere : map (holds_at NoWordEdge word) (0 ∷ 1 ∷ 2 ∷ 3 ∷ []) ≡ false ∷ true ∷ false ∷ true ∷ []
unfolding is_word general_category value_in general_category_rows
no_word_has_an_edge_elsewhere = refl

-- ---- numbers of a pattern

-- `a^|b` has four nodes and is flat; `a*b` isn't
pub a_set_of_alternatives_is_one_node :
    let tree : Tree = plain ((a ∷ At LineStart ∷ []) ∷ (b ∷ []) ∷ (Choice (id 0 ∷ id 1 ∷ []) ∷ []) ∷ []) 2 in
    (size_of tree ≡ 4) × (is_flat tree ≡ true) × (is_flat (stars true) ≡ false)
a_set_of_alternatives_is_one_node = (refl, refl, refl)

-- ---- searches

-- the patterns `b` and `a`
abbrev pub two : List Tree
two = plain ((b ∷ []) ∷ []) 0 ∷ plain ((a ∷ []) ∷ []) 0 ∷ []

pub the_earlier_place_goes_before_the_earlier_pattern : map (λ text. first_match two text 0 flags 100) (codes "ab" ∷ codes "c" ∷ []) ≡ found.At 1 ∷ found.Nowhere ∷ []
unfolding go_on
the_earlier_place_goes_before_the_earlier_pattern = refl

-- `a*b` needs more visits than there are, at the second of two places
pub an_attempt_that_is_spent_decides : first_match (plain ((c ∷ []) ∷ []) 0 ∷ stars true ∷ []) (codes "xaab") 0 flags 5 ≡ found.Spent 1 1
unfolding go_on
an_attempt_that_is_spent_decides = refl
