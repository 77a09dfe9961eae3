use Rattle.std.proofs.Common.{◌≡◌, ◌≤◌, ◌++◌, drop}
use Rattle.selectors.specs.Needs.{keys_behind, most_of}
use Rattle.selectors.specs.Verdicts.{depth}
use Rattle.selectors.specs.declared.verdict.Verdict.TheVariants.{Holds}
use Rattle.selectors.proofs.needs.needed_keys.Given as goal

abbrev pub invariant-loop-sign : goal.invariant-loop-sign
invariant-loop-sign l = record {
  few : depth l.most ≤ l.sign-index;
  keys : l.needed ++ keys_behind (drop l.sign-index l.signs) l.most ≡ keys_behind l.signs Holds;
  most : most_of (drop l.sign-index l.signs) l.most ≡ most_of l.signs Holds;
}
