-- Starts that fit.
use Rattle.std.proofs.Common.{◌≡◌, ℕ, ◌<◌, arith}
use Rattle.std.specs.Prelude.{false, nat_le}
use Rattle.std.proofs.lemmas.Bool.Decides.{nat_tests}
use Rattle.scope_defs.specs.Frames.{Start}
use Rattle.line_defs.specs.Line.{tokenised}
use Rattle.line_laws.specs.Starts.{IsFit}
use Rattle.line_laws.proofs.Stacks.{bare-fits}
use Rattle.line_laws.proofs.Lines.{tokenised-fits}
use Rattle.line_runs.specs.Runs.{Fits, first_line, next_line}
use Rattle.line_machine.specs.Machines.{MachineState, line_machine_of, told}

pub fits-fit : (m : MachineState) (start : Start) → IsFit (line_machine_of m.table m.limits) m.start
    → Fits (told m) start → IsFit (line_machine_of m.table m.limits) start
fits-fit m start first (first_line) = bare-fits (line_machine_of m.table m.limits) m.start first
fits-fit m start first (next_line before line fits) =
    bare-fits (line_machine_of m.table m.limits) (tokenised (line_machine_of m.table m.limits) before line).end
    (tokenised-fits (line_machine_of m.table m.limits) before line (fits-fit m before first fits))

pub not-long : (long chars : ℕ) → chars < long → nat_le long chars ≡ false
not-long long chars short = grind (arith, nat_tests)
