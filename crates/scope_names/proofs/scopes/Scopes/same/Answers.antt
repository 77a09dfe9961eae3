use Rattle.std.proofs.Common.{arith}
use Rattle.scope_names.proofs.Fronts.{same_backwards}
use Rattle.scope_names.proofs.scopes.Scopes.same.Goals as goal

pub loop-name-init : goal.loop-name-init
loop-name-init c = same_backwards _ _ _ _ c.names_back-names.ensures c.names_back-others.ensures
    (omega (arith, c.if-len.false))
