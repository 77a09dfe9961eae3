use Rattle.std.proofs.Common.{◌<◌, length, ap, subst, arith}
use Rattle.pattern_defs.specs.Patterns.{Tree, nodes_of, AreNodes, AreLists}
use Rattle.pattern_tree.proofs.ListLemmas.{AreNodes-list}
use Rattle.pattern_tree.proofs.pattern.Pattern.list.Goals as goal

pub returns-clause-names : goal.returns-clause-names
returns-clause-names c =
    let there : c.args.id.0 < length c.args.self.now.lists = c.requires in
    let named : (t : Tree) → AreLists 0 t.groups t.lists → c.args.id.0 < length t.lists
    → AreNodes (length t.lists) t.groups (nodes_of t.lists c.args.id) =
    λ t are h. AreNodes-list 0 t.groups t.lists c.args.id.0 (length t.lists) are h (omega arith) in
    let P : Tree → Type 0 = λ t. AreLists 0 t.groups t.lists in
    rw (c.list.ensures, ap (λ t. t.lists) c.self.view_is)
    (named c.args.self.now (subst P c.self.view_is c.self.invariant.lists) there)
