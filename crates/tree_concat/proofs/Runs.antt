-- Neighbours whose runs fit can be put into a list.
use Rattle.std.proofs.Common.{◌++◌, sym, subst, append_assoc}
use Rattle.text_pos.specs.Lengths.{plus}
use Rattle.tree_defs.specs.Tree.{Tree, Two, Three}
use Rattle.tree_defs.specs.Shape.{length_of, leaves_of, Fits, RunsFit}
use Rattle.tree_defs.proofs.Lengths.{total_leaves, whole_fits, front_runs}

pub two_fit : (a b : Tree) → RunsFit (leaves_of a ++ leaves_of b) → Fits (plus (length_of a) (length_of b))
two_fit a b fit = subst (λ l. Fits l) (total_leaves (Two a b)) (whole_fits (leaves_of a ++ leaves_of b) fit)

pub three_fit : (a b c : Tree) → RunsFit (leaves_of a ++ (leaves_of b ++ leaves_of c))
    → Fits (plus (plus (length_of a) (length_of b)) (length_of c))
three_fit a b c fit = subst (λ l. Fits l) (total_leaves (Three a b c))
    (whole_fits (leaves_of a ++ (leaves_of b ++ leaves_of c)) fit)

pub first_two_fit : (a b c : Tree) → RunsFit (leaves_of a ++ (leaves_of b ++ leaves_of c))
    → Fits (plus (length_of a) (length_of b))
first_two_fit a b c fit = two_fit a b (front_runs (leaves_of a ++ leaves_of b) (leaves_of c)
    (subst (λ l. RunsFit l) (sym (append_assoc (leaves_of a) (leaves_of b) (leaves_of c))) fit))
