use Rattle.std.proofs.Common.{◌≡◌, drop}
use Rattle.std.specs.Prelude.{nat_eq}
use Rattle.std.specs.List.{starts_with}
use Rattle.onig_match.proofs.Lists.{lower}
use Rattle.onig_match.proofs.backs.begins_in_any_case.Given as goal

abbrev pub invariant-loop-k : goal.invariant-loop-k
invariant-loop-k l = starts_with nat_eq (lower (drop l.k l.text)) (lower (drop l.k l.part))
    ≡ starts_with nat_eq (lower l.text) (lower l.part)
