use Rattle.std.proofs.Common.{◌∙◌}
use Rattle.onig_class.proofs.sides.Sides.together.Goals as goal

pub returns : goal.returns
returns c q fits =
    c.meet_of.ensures q.before q.here fits.before (λ d lt. c.in_ok-here.ensures d lt ∙ fits.here d lt)
