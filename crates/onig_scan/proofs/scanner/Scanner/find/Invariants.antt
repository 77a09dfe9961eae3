use Rattle.std.proofs.Common.{◌≡◌}
use Rattle.pattern_defs.specs.FirstMatch.{first_pair}
use Rattle.onig_scan.proofs.scanner.Scanner.find.Given as goal

-- the places so far all missed, and nothing changed
abbrev pub invariant-loop-at : goal.invariant-loop-at
invariant-loop-at l = record {
  missed : first_pair l.self l.text l.at l.flags l.work.budget
      ≡ first_pair l.self l.text l.fn.from l.flags l.work.budget;
  same : l.work ≡ l.initial.work;
}
