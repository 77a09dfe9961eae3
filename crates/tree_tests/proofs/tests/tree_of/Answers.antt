use Rattle.std.proofs.Common.{◌≡◌, List, IfOk, replicate, sym, ap, ◌∙◌, subst, arith}
use Rattle.tree_defs.specs.Tree.{Tree}
use Rattle.tree_defs.specs.Shape.{all_leaves, RunsFit}
use Rattle.tree_concat.specs.Joined.{some_leaves}
use Rattle.tree_tests.specs.Columns.{letter}
use Rattle.tree_tests.proofs.Letters.{letter_leaves, letters_fit}
use Rattle.tree_tests.proofs.tests.tree_of.Goals as goal

pub join-requires : goal.join-requires
join-requires c =
    let leaves : all_leaves c.deref.result.now ≡ replicate c.args.n letter =
    ap all_leaves (c.deref.ensures.value ∙ c.in_ok-letters.ensures) ∙ letter_leaves c.args.n in
    subst (λ (l : List Tree). RunsFit l) (sym leaves) (letters_fit c.args.n (omega arith))

pub returns : goal.returns
returns c =
    let leaves : all_leaves c.deref.result.now ≡ replicate c.args.n letter =
    ap all_leaves (c.deref.ensures.value ∙ c.in_ok-letters.ensures) ∙ letter_leaves c.args.n in
    subst (λ (l : List Tree). IfOk c.join.result (λ t. some_leaves t.root ≡ l)) leaves c.join.ensures
