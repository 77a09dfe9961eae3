-- Examples in which lines are run unfold this, so as to compute.
use Rattle.std.specs.Prelude.{⊤}
use Rattle.line_defs.specs.Turns.{turns}

unfoldable pub runs_on_literals : ⊤
unfolding turns
runs_on_literals = tt
