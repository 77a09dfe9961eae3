use Rattle.selectors.proofs.KeptEntries.{in_range, entry_here}
use Rattle.selectors.proofs.selector.Selector.kept.Goals as goal

pub entry_in-requires : goal.entry_in-requires
entry_in-requires c =
    in_range c.self.inside.text c.args.self.now c.self.inside.entries c.as_slice.result.now c.args.entry
    c.self.invariant c.self.view_is c.as_slice.ensures c.requires

pub returns : goal.returns
returns c =
    entry_here c.self.inside.text c.args.self.now c.self.inside.entries c.as_slice.result.now c.args.entry
    c.entry_in.result.now c.self.invariant c.self.view_is c.as_slice.ensures c.requires c.entry_in.ensures
