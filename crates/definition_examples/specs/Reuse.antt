-- Further worked examples of a tree that stands for lines, of an old tree and of marks that are unsettled, each named by
-- what it shows. The brackets are the usual ones: `(` is of kind 2.
use Rattle.std.specs.Prelude.{◌≡◌, ℕ, [], ◌∷◌, codes, true, refl, zero, suc}
use Rattle.std.proofs.Common.{arith, sym, true≢false}
use Rattle.std.proofs.lemmas.Bool.Decides.{nat_tests}
use Rattle.text_pos.specs.KindSet.{only}
use Rattle.pairing_defs.specs.declared.Role.TheVariants.{Opener, Closer}
use Rattle.pairing_defs.specs.OnLiterals.{words_on_literals}
use Rattle.tree_defs.specs.Tree.{Two}
use Rattle.tree_defs.specs.Ends.{in_lines}
use Rattle.change_defs.specs.Changes.{image}
use Rattle.change_defs.specs.Examples.{far, in_line}
use Rattle.reuse_defs.specs.Examples.{round, lines_of}
use Rattle.reuse_defs.specs.Unsettled.{NoneCut, AllPaired, unsettled}
use Rattle.reuse_defs.specs.Whole.{StandsFor}
use Rattle.reuse_defs.specs.Since.{Since}

-- ---- a tree that stands for a line

-- `()`
pub a_pair_stands_for_its_line : StandsFor 200 round (lines_of (codes "()" ∷ []))
unfolding words_on_literals
a_pair_stands_for_its_line = record {
  stands = record {
    mark = record { at = record { line = 0; col = 0 }; to = 1; role = Opener 2 };
    within = [];
    last = record { at = record { line = 0; col = 1 }; to = 2; role = Closer (only 2) };
    more = [];
    kinds = only 2;
    are = refl;
    place = record { line = refl; col = refl; to = refl };
    role = refl;
    room = omega arith;
    held = refl;
    not_missed = refl;
    last_place = record { line = refl; col = refl; to = refl };
    last_role = refl;
    takes = refl;
    passes = λ n. tt;
    rest = refl;
  };
  long = refl;
  ends = refl;
  even = tt;
  inside = ((refl, omega arith), refl, tt, (refl, omega arith), refl, tt);
  fit = ((refl, omega arith), refl, tt, (refl, omega arith), refl, tt);
  rows = (
    record { line = refl; col = refl; to = refl; seen = refl; level = refl; own = refl; colour = refl; partner = refl; inner = refl },
    (record { line = refl; col = refl; to = refl; seen = refl; level = refl; own = refl; colour = refl; partner = refl; inner = refl }, tt),
  );
  cuts = record { held = λ m is. absurd is; cut = λ p is. absurd is };
}

-- ---- an old tree

-- each place of `()` stands a column further in `[()`
moved_by_one : (lines cols : ℕ) → in_lines (2 ∷ []) (far lines cols) ≡ true
    → in_lines (3 ∷ []) (image (in_line 0 0 0 1 ∷ []) (far lines cols)) ≡ true
moved_by_one zero zero h = refl
moved_by_one zero (suc zero) h = refl
moved_by_one zero (suc (suc zero)) h = refl
moved_by_one zero (suc (suc (suc cols))) h = grind (arith, nat_tests)
moved_by_one (suc lines) cols h = absurd (true≢false (sym h))

-- a `[` is put before the line `()`
pub a_pair_with_an_opener_before_it : Since 200 round (in_line 0 0 0 1 ∷ []) (lines_of (codes "[()" ∷ []))
unfolding words_on_literals
a_pair_with_an_opener_before_it = record {
  old = lines_of (codes "()" ∷ []);
  last = far 0 2;
  new_last = far 0 3;
  marked = ((omega arith, omega arith, omega arith, (omega arith, omega arith, tt, omega arith)), tt);
  some = omega arith;
  is_last = refl;
  is_new_last = refl;
  order = refl;
  stands = a_pair_stands_for_its_line;
  agree = record {
    old_uncut = refl;
    new_uncut = refl;
    same = refl;
    ends = record { old_outside = refl; new_outside = refl; there = refl; back_there = refl };
    places = λ at h i. moved_by_one at.lines at.cols h;
    starts = refl;
  };
}

-- ---- rows and unsettled marks

pub a_pair_is_paired : AllPaired 200 (lines_of (codes "()" ∷ []))
unfolding words_on_literals
a_pair_is_paired = record { rows = refl; partners = refl }

pub an_open_bracket_is_not_paired : AllPaired 200 (lines_of (codes "()(" ∷ [])) → ⊥
unfolding words_on_literals
an_open_bracket_is_not_paired paired = true≢false (sym paired.partners)

-- at the limit 1 the inner opener has no row, and at the limit 2 it has one
pub an_opener_at_the_limit_is_cut : NoneCut 1 (lines_of (codes "(())" ∷ [])) → ⊥
unfolding words_on_literals
an_opener_at_the_limit_is_cut none = omega arith

pub an_opener_below_the_limit_is_not_cut : NoneCut 2 (lines_of (codes "(())" ∷ []))
unfolding words_on_literals
an_opener_below_the_limit_is_not_cut = refl

-- nothing changes; a letter is put before `()()`; and a `[` is put between both pairs, which it touches
pub marks_that_are_unsettled :
    (unsettled (Two round round) [] (lines_of (codes "()()" ∷ [])) ≡ 0)
    × ((unsettled (Two round round) (in_line 0 0 0 1 ∷ []) (lines_of (codes "x()()" ∷ [])) ≡ 2)
    × (unsettled (Two round round) (in_line 0 2 0 1 ∷ []) (lines_of (codes "()[()" ∷ [])) ≡ 5))
unfolding words_on_literals
marks_that_are_unsettled = (refl, (refl, refl))
