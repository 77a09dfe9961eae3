use Rattle.tree_concat.proofs.lists.two.Goals as goal
use Rattle.tree_concat.proofs.Runs.{two_fit}

pub list-requires-clause-front : goal.list-requires-clause-front
list-requires-clause-front c = two_fit c.args.a.now c.args.b.now c.requires.fit

pub list-requires-clause-whole : goal.list-requires-clause-whole
list-requires-clause-whole c = two_fit c.args.a.now c.args.b.now c.requires.fit
