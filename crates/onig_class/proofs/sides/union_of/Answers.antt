use Rattle.std.proofs.Common.{◌||◌, ap, sym, ◌∙◌}
use Rattle.char_sets.specs.Ranges.{in_set}
use Rattle.onig_class.specs.SidesFit.{in_some}
use Rattle.onig_class.proofs.SideLemmas.{in_some-joined}
use Rattle.onig_class.proofs.sides.union_of.Goals as goal

pub joining-preserved-in_ok-whole : goal.joining-preserved-in_ok-whole
joining-preserved-in_ok-whole c d lt =
    in_some-joined c.pop-in-joining.new.self.items c.in-Some-pop.set c.joining.whole c.in_ok-whole.whole d
    (c.in_ok-whole.ensures d lt)
    ∙ ap (λ sets. in_some sets d || in_set c.joining.whole d) (sym c.in-Some-pop.ensures.items)
    ∙ c.joining.invariant d lt

pub joining-preserved : goal.joining-preserved
joining-preserved c d lt =
    in_some-joined c.pop-in-joining.new.self.items c.in-Some-pop.set c.joining.whole c.in_ok-whole.whole d
    (c.in_ok-whole.ensures d lt)
    ∙ ap (λ sets. in_some sets d || in_set c.joining.whole d) (sym c.in-Some-pop.ensures.items)
    ∙ c.joining.invariant d lt
