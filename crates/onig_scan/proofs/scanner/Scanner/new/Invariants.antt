use Rattle.std.proofs.Common.{◌≡◌, map, take}
use Rattle.std.specs.Rc.{rc_value}
use Rattle.onig_scan.proofs.scanner.Scanner.new.Given as goal

abbrev pub invariant-loop-pattern : goal.invariant-loop-pattern
invariant-loop-pattern l = l.entries.items ≡ map rc_value (take l.pattern-index l.patterns)
