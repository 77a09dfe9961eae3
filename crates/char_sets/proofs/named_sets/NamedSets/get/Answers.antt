use Rattle.std.proofs.Common.{sym, subst}
use Rattle.char_sets.specs.KnownSets.{AreKnown}
use Rattle.char_sets.proofs.Sets.{AreKnown-push}
use Rattle.char_sets.proofs.named_sets.NamedSets.get.Goals as goal

pub invariant_of-self-2 : goal.invariant_of-self-2
invariant_of-self-2 c =
    subst AreKnown (sym c.in_ok-push.ensures.items) (AreKnown-push _ _ c.self.invariant c.in_ok-set.ensures)
