use Rattle.std.proofs.Common.{refl, lt-ltb, le-ltb}
use Rattle.char_sets.specs.Ranges.{closed}
use Rattle.char_sets.proofs.stretch.close.Goals as goal

pub returns-in_ok-push : goal.returns-in_ok-push
unfolding closed
returns-in_ok-push c = rw (lt-ltb c.args.start c.args.at c.if-start-at.true) c.in_ok-push.ensures.items

pub returns-else-start-at : goal.returns-else-start-at
unfolding closed
returns-else-start-at c = rw (le-ltb c.args.start c.args.at c.if-start-at.false) refl
