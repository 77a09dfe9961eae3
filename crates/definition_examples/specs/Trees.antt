-- Further worked examples of trees, their items, their rows and their ends, each named by what it shows.
use Rattle.std.specs.Prelude.{◌≡◌, ℕ, List, [], ◌∷◌, map, true, false, Option, Some, None, refl}
use Rattle.std.proofs.Common.{arith}
use Rattle.text_pos.specs.declared.length.Length.{Length}
use Rattle.text_pos.specs.declared.kinds.Kinds.{Kinds}
use Rattle.pairing_defs.specs.declared.Role.TheVariants.{Opener}
use Rattle.tree_defs.specs.Tree.{Tree, Nothing, Text, Bracket, Lone, Pair, Two, Three, depth, is_cut, misses, is_bare}
use Rattle.tree_defs.specs.Tree.{CanBeReused}
use Rattle.tree_defs.specs.Items.{text, lone, pair, stray, end, items_of, depth_of, cut_in, missed_in, rows_in, behind, left_by}
use Rattle.tree_defs.specs.Items.{TreeRow, closes_kind, walk, row_at, Stands}
use Rattle.tree_defs.specs.Rows.{FullRow, start, tree_rows}
use Rattle.tree_defs.specs.Shape.{height, room_in}
use Rattle.tree_defs.specs.Cuts.{Piece, texts_of}
use Rattle.tree_defs.specs.Ends.{fits, in_lines}
use Rattle.tree_defs.specs.Reuse.{raised}
use Rattle.change_defs.specs.Examples.{far}

-- ---- what the examples are made of: `(` is of kind 2, and `]` closes kind 1

abbrev columns : ℕ → Length
columns n = far 0 n

-- texts, one without an opener at the limit and one with
abbrev letter : Tree
letter = Text (columns 1) false

abbrev cut_text : Tree
cut_text = Text (columns 1) true

abbrev brackets : Kinds
brackets = record { bits = 2 }

-- `]`
abbrev closer : Tree
closer = Lone (columns 1) brackets

-- what stands in parentheses, and in parentheses that nothing closes
abbrev round : Tree → Tree
round inside = Pair (columns 1) 2 inside (Some (columns 1))

abbrev opened : Tree → Tree
opened inside = Pair (columns 1) 2 inside None

-- ---- what a tree tells of all its parts

pub the_deepest_part_counts : map depth (Two letter (round Nothing) ∷ Three letter (round Nothing) (round (round letter)) ∷ Two (opened (round Nothing)) letter ∷ closer ∷ [])
    ≡ 1 ∷ 2 ∷ 2 ∷ 0 ∷ []
the_deepest_part_counts = refl

pub a_list_is_cut_where_a_part_is : map is_cut
    (Two letter cut_text ∷ Two cut_text letter ∷ Three letter letter cut_text ∷ Three letter (round cut_text) letter ∷ Three cut_text letter letter ∷ Three letter letter letter ∷ [])
    ≡ true ∷ true ∷ true ∷ true ∷ true ∷ false ∷ []
a_list_is_cut_where_a_part_is = refl

-- of the kind 1
pub unexpected_closers_of_each_part_count : map (λ t. misses t 1)
    (Two letter closer ∷ Two closer letter ∷ Three letter letter closer ∷ Three letter closer letter ∷ Three closer letter letter ∷ round closer ∷ round letter ∷ [])
    ≡ true ∷ true ∷ true ∷ true ∷ true ∷ true ∷ false ∷ []
unexpected_closers_of_each_part_count = refl

pub trees_without_rows : map is_bare
    (Nothing ∷ letter ∷ Bracket (columns 1) 2 ∷ closer ∷ round Nothing ∷ opened letter ∷ Two letter letter ∷ Two letter closer ∷ Three letter letter (round letter) ∷ [])
    ≡ true ∷ true ∷ true ∷ false ∷ false ∷ false ∷ true ∷ false ∷ false ∷ []
trees_without_rows = refl

-- a list of lists is one higher than these; a pair starts anew
pub heights_count_lists : map height
    (letter ∷ Two letter letter ∷ Three letter letter letter ∷ Two (Three letter letter letter) (Two letter letter) ∷ Three (Two letter letter) (Two letter letter) (Two letter letter) ∷ round (Two letter letter) ∷ [])
    ≡ 0 ∷ 1 ∷ 1 ∷ 2 ∷ 2 ∷ 0 ∷ []
heights_count_lists = refl

-- ---- reuse

-- one pair below another, at the limit 2
pub a_node_may_reach_just_the_limit : CanBeReused (record { bits = 0 }) 1 2 (round letter)
a_node_may_reach_just_the_limit = record { uncut = refl; shallow = omega arith; apart = λ k h. refl }

pub a_node_may_not_pass_the_limit : CanBeReused (record { bits = 0 }) 2 2 (round letter) → ⊥
a_node_may_not_pass_the_limit can = let deep = can.shallow in omega arith

pub a_list_that_ends_in_an_open_pair_is_not_reused : CanBeReused (record { bits = 0 }) 0 200 (Three letter letter (opened letter)) → ⊥
a_list_that_ends_in_an_open_pair_is_not_reused can = can.1

-- ---- items

pub nothing_stands_behind_an_open_pair : map items_of
    (Two (opened Nothing) letter ∷ Two (opened Nothing) closer ∷ Two (opened Nothing) (round Nothing) ∷ Two (opened Nothing) (opened Nothing) ∷ Bracket (columns 1) 2 ∷ [])
    ≡ stray ∷ stray ∷ stray ∷ stray ∷ stray ∷ []
nothing_stands_behind_an_open_pair = refl

pub items_stand_in_order : items_of (Three letter (round closer) (Two cut_text closer))
    ≡ text (columns 1) false (pair (columns 1) 2 (lone (columns 1) brackets end) (columns 1) (text (columns 1) true (lone (columns 1) brackets end)))
items_stand_in_order = refl

-- the items of `a(])` and a cut text: depth, cut, whether they close the kinds 1 and 2 in vain, rows, and where they end
pub items_together :
    (depth_of (items_of (Three letter (round closer) cut_text)) ≡ 1)
    × ((cut_in (items_of (Three letter (round closer) cut_text)) ≡ true)
    × ((map (missed_in (items_of (Three letter (round closer) cut_text))) (1 ∷ 2 ∷ []) ≡ true ∷ false ∷ [])
    × ((rows_in (items_of (Three letter (round closer) cut_text)) ≡ 3)
    × (behind (items_of (Three letter (round closer) cut_text)) (far 3 5) ≡ far 3 10))))
items_together = (refl, (refl, (refl, (refl, refl))))

-- `(a(`, where the first row has the number 4
pub open_pairs_stand_with_the_innermost_first : left_by 4 (items_of (opened (Two letter (opened Nothing))))
    ≡ record { row = 5; kind = 2 } ∷ record { row = 4; kind = 2 } ∷ []
open_pairs_stand_with_the_innermost_first = refl

-- ---- rows

-- a row's column, the column behind its last, its level, kind level and colour; its partner; and the column where its
-- inside ends
abbrev shown : FullRow → List ℕ × (Option ℕ × ℕ)
shown f = (f.row.at.col ∷ f.row.to ∷ f.row.level ∷ f.row.own ∷ f.colour ∷ [], (f.partner, f.inner.col))

-- an unexpected closer of three columns, a pair in a pair, another pair, and an opener of five columns that nothing
-- closes, with two columns behind it
pub partners_and_ends_of_rows :
    map shown (tree_rows (items_of (Two (Three (Lone (columns 3) brackets) (round (round Nothing)) (round Nothing)) (Pair (columns 5) 2 (Text (columns 2) false) None))) start 0 [])
    ≡ (0 ∷ 3 ∷ 0 ∷ 0 ∷ 6 ∷ [], (None, 0))
    ∷ (3 ∷ 4 ∷ 0 ∷ 0 ∷ 0 ∷ [], (Some 4, 6)) ∷ (4 ∷ 5 ∷ 1 ∷ 1 ∷ 1 ∷ [], (Some 3, 5))
    ∷ (5 ∷ 6 ∷ 1 ∷ 1 ∷ 1 ∷ [], (Some 2, 5)) ∷ (6 ∷ 7 ∷ 0 ∷ 0 ∷ 0 ∷ [], (Some 1, 6))
    ∷ (7 ∷ 8 ∷ 0 ∷ 0 ∷ 0 ∷ [], (Some 6, 8)) ∷ (8 ∷ 9 ∷ 0 ∷ 0 ∷ 0 ∷ [], (Some 5, 8))
    ∷ (9 ∷ 14 ∷ 0 ∷ 0 ∷ 6 ∷ [], (None, 16)) ∷ []
partners_and_ends_of_rows = refl

-- a row's column, the column behind its last, its level and kind level, and the row that it closes
abbrev walked : TreeRow → List ℕ × Option ℕ
walked r = (r.at.col ∷ r.to ∷ r.level ∷ r.own ∷ [], r.closes)

-- `](])` in another pair of the kind of `(`, behind three rows
pub rows_of_a_walk : map walked (walk (items_of (Two closer (round closer))) start 3 (record { row = 2; kind = 2 } ∷ []))
    ≡ (0 ∷ 1 ∷ 1 ∷ 0 ∷ [], None) ∷ (1 ∷ 2 ∷ 1 ∷ 1 ∷ [], None) ∷ (2 ∷ 3 ∷ 2 ∷ 0 ∷ [], None) ∷ (3 ∷ 4 ∷ 1 ∷ 1 ∷ [], Some 4) ∷ []
rows_of_a_walk = refl

-- three rows before it, of which one is an open pair of its kind
pub a_row_below_another_pair :
    raised (record { rows = 3; entries = record { row = 1; kind = 2 } ∷ record { row = 0; kind = 1 } ∷ [] }) (row_at (columns 4) (columns 1) (closes_kind 2) 1 0 (Some 4))
    ≡ row_at (columns 4) (columns 1) (closes_kind 2) 3 1 (Some 7)
a_row_below_another_pair = refl

-- ---- places

-- the column where a text starts, and how many it has
abbrev piece : Piece → ℕ × ℕ
piece p = (p.at.cols, p.len.cols)

-- an unexpected closer of three columns, a text in parentheses, and one behind them
pub places_of_texts : map piece (texts_of (Three (Lone (columns 3) brackets) (round (Text (columns 2) false)) (Text (columns 4) false)))
    ≡ (4, 2) ∷ (7, 4) ∷ []
places_of_texts = refl

-- in a line of three characters, in one of none, and behind both
pub places_in_lines : map (in_lines (3 ∷ 0 ∷ [])) (far 0 0 ∷ far 0 3 ∷ far 0 4 ∷ far 1 0 ∷ far 1 1 ∷ far 2 0 ∷ [])
    ≡ true ∷ true ∷ false ∷ true ∷ false ∷ false ∷ []
places_in_lines = refl

pub lines_and_columns_are_of_32_bits : map fits (far 4294967295 4294967295 ∷ far 4294967296 0 ∷ far 0 4294967296 ∷ [])
    ≡ true ∷ false ∷ false ∷ []
lines_and_columns_are_of_32_bits = refl

-- 2^33 for each line, and in one line its columns
pub room_for_height : map room_in (far 0 7 ∷ far 2 9 ∷ []) ≡ 7 ∷ 17179869184 ∷ []
room_for_height = refl

-- ---- limits

-- at the limit 0 the opener has no room
pub no_pair_opens_at_the_limit :
    Stands 0 0 (items_of (opened Nothing)) start (record { at = record { line = 0; col = 0 }; to = 1; role = Opener 2 } ∷ []) → ⊥
no_pair_opens_at_the_limit stands = let room = stands.room in omega arith
