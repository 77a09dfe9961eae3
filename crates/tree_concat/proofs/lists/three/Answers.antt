use Rattle.tree_concat.proofs.lists.three.Goals as goal
use Rattle.tree_concat.proofs.Runs.{first_two_fit, three_fit}

pub list-requires-clause-front : goal.list-requires-clause-front
list-requires-clause-front c = first_two_fit c.args.a.now c.args.b.now c.args.c.now c.requires.fit

pub list-requires-clause-whole : goal.list-requires-clause-whole
list-requires-clause-whole c = three_fit c.args.a.now c.args.b.now c.args.c.now c.requires.fit
