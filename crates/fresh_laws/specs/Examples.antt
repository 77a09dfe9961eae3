-- Worked examples of the law: how many marks are unsettled, and how many are fresh, each named by what it shows. The
-- brackets are the usual ones, so `(` is of kind 2.
use Rattle.std.specs.Prelude.{◌≡◌, ℕ, List, [], ◌∷◌, codes, count_by, false, Some, None, refl}
use Rattle.pairing_defs.specs.OnLiterals.{words_on_literals}
use Rattle.tree_defs.specs.Tree.{Tree, Nothing, Text, Pair, Two, Three}
use Rattle.change_defs.specs.declared.Change.{Change}
use Rattle.change_defs.specs.Examples.{far, in_line, marks, fresh_of, three_pairs, a_letter_in_the_second}
use Rattle.reuse_defs.specs.Settled.{is_unsettled}

-- of a tree of old lines, the new lines and the changes: the marks that are unsettled, and those that are fresh
abbrev pub numbers : Tree → List (List ℕ) → List (List ℕ) → List Change → ℕ × ℕ
numbers t old new changes = (count_by (is_unsettled t changes) (marks new), fresh_of old new changes)

-- `()`
abbrev pub round : Tree
round = Pair (far 0 1) 2 Nothing (Some (far 0 1))

-- where a line ends
abbrev pub line_end : Tree
line_end = Text (far 1 0) false

-- the tree of three lines with a pair each
abbrev pub three : Tree
three = Two (Two round line_end) (Three round line_end round)

pub without_changes_nothing_is_unsettled : numbers three three_pairs three_pairs [] ≡ (0, 0)
unfolding words_on_literals
without_changes_nothing_is_unsettled = refl

pub both_marks_around_a_change_are_unsettled : numbers three three_pairs a_letter_in_the_second (in_line 1 1 0 1 ∷ []) ≡ (2, 2)
unfolding words_on_literals
both_marks_around_a_change_are_unsettled = refl

-- the new opener, and the pair that touches the change
pub a_pair_that_touches_a_change_is_unsettled : numbers round (codes "()" ∷ []) (codes "[()" ∷ []) (in_line 0 0 0 1 ∷ []) ≡ (3, 3)
unfolding words_on_literals
a_pair_that_touches_a_change_is_unsettled = refl

-- the marks of the line that is replaced are new ones, and they are those of an old pair as well
pub fewer_may_be_unsettled_than_fresh : numbers three three_pairs a_letter_in_the_second (in_line 1 0 2 3 ∷ []) ≡ (2, 4)
unfolding words_on_literals
fewer_may_be_unsettled_than_fresh = refl

-- a pair that is deleted leaves none of its marks
pub a_deleted_pair_leaves_nothing_unsettled : numbers three three_pairs (codes "()" ∷ [] ∷ codes "()" ∷ []) (in_line 1 0 2 0 ∷ []) ≡ (0, 2)
unfolding words_on_literals
a_deleted_pair_leaves_nothing_unsettled = refl

-- an opener without a partner is unsettled wherever the changes are, and fresh only in one of them
pub a_mark_without_a_partner_stays_unsettled : numbers (Pair (far 0 1) 2 (Two line_end round) None) (codes "(" ∷ codes "()" ∷ []) (codes "(" ∷ codes "()" ∷ []) [] ≡ (1, 0)
unfolding words_on_literals
a_mark_without_a_partner_stays_unsettled = refl
