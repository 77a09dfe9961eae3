-- How the while pass of code goes on.
use Rattle.line_defs.specs.Runs.{State, Turned, GoesOn, Stops}
use Rattle.line_machine.specs.declared.while_pass.Passed.{Passed}
use Rattle.line_machine.specs.declared.while_pass.Passed.TheVariants as passed

-- with the next frame, or it has come to an end
abbrev pub pass_by : Passed → State → (next : State → Turned) → Turned
pass_by passed.Next state next = next state
pass_by passed.Ends state next = GoesOn state
pass_by passed.Stops state next = Stops state

-- a fact where the pass goes on with the next frame
abbrev pub IfNext : Passed → Type 0 → Type 0
IfNext passed.Next P = P
IfNext _ P = Unit {0}
