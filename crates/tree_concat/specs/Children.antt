-- The children of a list.
use Rattle.std.specs.Prelude.{◌≡◌}
use Rattle.tree_defs.specs.Tree as tree
use Rattle.tree_concat.specs.declared.lists.Children.{Children}
use Rattle.tree_concat.specs.declared.lists.Children.TheVariants.{Two, Three}

abbrev pub AreChildren : Children → tree.Tree → Type 0
AreChildren (Two a b) t = t ≡ tree.Two a.now b.now
AreChildren (Three a b c) t = t ≡ tree.Three a.now b.now c.now
