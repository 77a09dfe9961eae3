use Rattle.std.proofs.Common.{◌≡◌, ◌≤◌, drop}
use Rattle.selectors.specs.Verdicts.{run, depth}
use Rattle.selectors.specs.declared.verdict.Verdict.TheVariants.{Holds}
use Rattle.selectors.proofs.verdict.signs_hold.Given as goal

abbrev pub invariant-loop-sign : goal.invariant-loop-sign
invariant-loop-sign l = record {
  few : depth l.verdict ≤ l.sign-index;
  rest : run l.scopes (drop l.sign-index l.signs) l.verdict ≡ run l.scopes l.signs Holds;
}
