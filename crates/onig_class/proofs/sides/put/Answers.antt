use Rattle.std.proofs.Common.{◌||◌, ap, sym, ◌∙◌}
use Rattle.char_sets.specs.Ranges.{in_set}
use Rattle.onig_class.specs.SidesFit.{in_some}
use Rattle.onig_class.proofs.SideLemmas.{in_some-joined}
use Rattle.onig_class.proofs.sides.put.Goals as goal

pub joining-preserved-in_ok-set : goal.joining-preserved-in_ok-set
joining-preserved-in_ok-set c d lt =
    in_some-joined c.pop.new.self.items c.in-Some.before c.joining.set c.in_ok-set.set d (c.in_ok-set.ensures d lt)
    ∙ ap (λ sets. in_some sets d || in_set c.joining.set d) (sym c.in-Some.ensures.items)
    ∙ c.joining.invariant d lt

pub joining-preserved : goal.joining-preserved
joining-preserved c d lt =
    in_some-joined c.pop.new.self.items c.in-Some.before c.joining.set c.in_ok-set.set d (c.in_ok-set.ensures d lt)
    ∙ ap (λ sets. in_some sets d || in_set c.joining.set d) (sym c.in-Some.ensures.items)
    ∙ c.joining.invariant d lt
