use Rattle.selectors.proofs.KeptEntries.{count_here}
use Rattle.selectors.proofs.selector.Selector.entries.Goals as goal

pub returns : goal.returns
returns c = count_here c.self.inside.text c.args.self.now c.self.inside.entries c.as_slice.result.now c.self.invariant
    c.self.view_is c.as_slice.ensures
