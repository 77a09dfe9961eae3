-- Worked examples of a tree that stands for lines, of settled marks and of rows, each named by what it shows. The
-- brackets are the usual ones: `{` is of kind 0, `[` of kind 1 and `(` of kind 2.
use Rattle.std.specs.Prelude.{◌≡◌, ℕ, List, [], ◌∷◌, map, codes, true, false, Some, None, refl}
use Rattle.std.proofs.Common.{arith}
use Rattle.text_pos.specs.KindSet.{only}
use Rattle.pairing_defs.specs.declared.Role.TheVariants.{Opener, Closer}
use Rattle.pairing_defs.specs.Marks.{usual_texts}
use Rattle.pairing_defs.specs.OnLiterals.{words_on_literals}
use Rattle.bracket_marks.specs.MarkedLine.{MarkedLine, marked_line}
use Rattle.tree_defs.specs.Tree.{Tree, Nothing, Text, Lone, Pair, Two, Three}
use Rattle.tree_defs.specs.Rows.{start}
use Rattle.change_defs.specs.Changes.{placed}
use Rattle.change_defs.specs.Examples.{far, in_line, marks}
use Rattle.reuse_defs.specs.Settled.{closed_pairs, is_unmet, is_settled, closer_start}
use Rattle.reuse_defs.specs.Unsettled.{rows_of}
use Rattle.reuse_defs.specs.Whole.{StandsFor}

-- `()`
abbrev pub round : Tree
round = Pair (far 0 1) 2 Nothing (Some (far 0 1))

-- `{()}` and `()` in the next line
abbrev pub pairs : Tree
pairs = Three (Pair (far 0 1) 0 round (Some (far 0 1))) (Text (far 1 0) false) round

-- lines with the marks of the usual brackets
abbrev pub lines_of : List (List ℕ) → List MarkedLine
lines_of texts = map (marked_line usual_texts 20000) texts

-- ---- a tree that stands for a line

-- `(]`, where the pair has no closer: the `]` closes nothing, and stands inside
pub a_lone_closer_stands_in_the_pair_around_it :
    StandsFor 200 (Pair (far 0 1) 2 (Lone (far 0 1) (only 1)) None) (lines_of (codes "(]" ∷ []))
unfolding words_on_literals
a_lone_closer_stands_in_the_pair_around_it = record {
  stands = record {
    mark = record { at = record { line = 0; col = 0 }; to = 1; role = Opener 2 };
    within = record { at = record { line = 0; col = 1 }; to = 2; role = Closer (only 1) } ∷ [];
    are = refl;
    place = record { line = refl; col = refl; to = refl };
    role = refl;
    room = omega arith;
    held = record {
      mark = record { at = record { line = 0; col = 1 }; to = 2; role = Closer (only 1) };
      more = [];
      are = refl;
      place = record { line = refl; col = refl; to = refl };
      role = refl;
      rest = refl;
    };
    not_missed = refl;
  };
  long = refl;
  ends = refl;
  even = tt;
  inside = ((refl, omega arith), refl, ((refl, omega arith), refl, tt));
  fit = ((refl, omega arith), refl, ((refl, omega arith), refl, tt));
  rows = (
    record { line = refl; col = refl; to = refl; seen = refl; level = refl; own = refl; colour = refl; partner = refl; inner = refl },
    (record { line = refl; col = refl; to = refl; seen = refl; level = refl; own = refl; colour = refl; partner = refl; inner = refl }, tt),
  );
  cuts = record { held = λ m is. absurd is; cut = λ p is. absurd is };
}

-- ---- closed pairs

pub a_pair_stands_before_those_inside : map (λ p. p.from) (closed_pairs pairs start) ≡ far 0 0 ∷ far 0 1 ∷ far 1 0 ∷ []
a_pair_stands_before_those_inside = refl

pub closers_end_their_pairs : map closer_start (closed_pairs pairs start) ≡ far 0 3 ∷ far 0 2 ∷ far 1 1 ∷ []
closers_end_their_pairs = refl

-- a letter is put between the two inner brackets, before the brace, behind the closing brace, and into the second line
pub a_change_at_its_edge_touches_a_pair : map (λ c. map (is_unmet (placed (c ∷ []))) (closed_pairs pairs start))
    (in_line 0 2 0 1 ∷ in_line 0 0 0 1 ∷ in_line 0 4 0 1 ∷ in_line 1 1 0 1 ∷ [])
    ≡ (false ∷ false ∷ true ∷ []) ∷ (false ∷ true ∷ true ∷ []) ∷ (false ∷ true ∷ true ∷ []) ∷ (true ∷ true ∷ false ∷ []) ∷ []
a_change_at_its_edge_touches_a_pair = refl

-- ---- settled marks

-- a letter is put before the brace: the inner pair stands a column further, and the one in the next line where it stood
pub marks_of_other_pairs_are_settled :
    map (is_settled pairs (in_line 0 0 0 1 ∷ [])) (marks (codes "x{()}" ∷ codes "()" ∷ []))
    ≡ false ∷ true ∷ true ∷ false ∷ true ∷ true ∷ []
unfolding words_on_literals
marks_of_other_pairs_are_settled = refl

pub without_changes_all_pairs_are_settled : map (is_settled pairs []) (marks (codes "{()}" ∷ codes "()" ∷ []))
    ≡ true ∷ true ∷ true ∷ true ∷ true ∷ true ∷ []
unfolding words_on_literals
without_changes_all_pairs_are_settled = refl

-- `(()`, where nothing closes the first
pub a_closed_pair_in_an_open_one_is_settled :
    map (is_settled (Pair (far 0 1) 2 round None) []) (marks (codes "(()" ∷ [])) ≡ false ∷ true ∷ true ∷ []
unfolding words_on_literals
a_closed_pair_in_an_open_one_is_settled = refl

-- a line end is put before `a()`
pub settled_marks_move_to_the_next_line :
    map (is_settled (Two (Text (far 0 1) false) round) (record { start = far 0 0; old = far 0 0; new = far 1 0 } ∷ []))
    (marks ([] ∷ codes "a()" ∷ [])) ≡ true ∷ true ∷ []
unfolding words_on_literals
settled_marks_move_to_the_next_line = refl

-- ---- rows

-- `(())` at the limit 1: four marks have three rows, since the inner opener is cut; the last closer closes nothing
pub an_opener_at_the_limit_has_no_row : map (λ r. r.partner) (rows_of 1 (lines_of (codes "(())" ∷ [])))
    ≡ Some 1 ∷ Some 0 ∷ None ∷ []
unfolding words_on_literals
an_opener_at_the_limit_has_no_row = refl
