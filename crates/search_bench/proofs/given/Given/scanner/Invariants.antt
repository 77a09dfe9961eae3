use Rattle.std.proofs.Common.{◌<◌, ◌^◌, vec_len}
use Rattle.search_bench.proofs.given.Given.scanner.Given as goal

-- so many patterns can be numbered
abbrev pub invariant-loop-named : goal.invariant-loop-named
invariant-loop-named l = vec_len l.patterns < 2 ^ 32
