use Rattle.std.proofs.Common.{refl}
use Rattle.onig_match.proofs.PileLemmas.{reverse-take}
use Rattle.onig_match.proofs.pile.Pile.cut.Goals as goal

pub returns : goal.returns
returns g c = rw (← c.self.view_is, c.truncate.ensures.items, reverse-take c.self.inside.items.items c.args.height) refl
