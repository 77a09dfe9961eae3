use Rattle.std.proofs.Common.{subst}
use Rattle.line_laws.specs.Starts.{IsFit}
use Rattle.line_laws.proofs.Lines.{tokenised-follows}
use Rattle.line_machine.specs.Machines.{MachineState, line_machine_of}
use Rattle.line_machine.proofs.Fitting.{fits-fit}
use Rattle.line_machine.proofs.machine.MachineLineRuns.start.Goals as goal

pub returns-clause-follow : goal.returns-clause-follow
returns-clause-follow c = λ start line fits.
    tokenised-follows (line_machine_of c.args.self.now.table c.args.self.now.limits) start line
    (fits-fit c.args.self.now start (subst (λ m. let machine : MachineState = m in
    IsFit (line_machine_of machine.table machine.limits) machine.start) c.self.view_is c.self.invariant.fit) fits)
