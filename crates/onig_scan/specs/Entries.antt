-- What is known of a pattern's fronts.
use Rattle.std.specs.Prelude.{true, false, Option, IfSome}
use Rattle.pattern_defs.specs.Patterns.{Tree}
use Rattle.onig_scan.specs.declared.front.Front.{Front}
use Rattle.onig_scan.specs.Fronts.{IsFrontOfAll}
use Rattle.onig_scan.specs.Pasts.{IsPastOfAll}

-- each is that of the whole pattern
pub record HasFront (tree : Tree) (front past inner : Option Front) : Type 0 where
  pub is : IfSome front (λ f. IsFrontOfAll tree f.set f.cost)
  pub before : IfSome past (λ f. IsPastOfAll false tree f)
  pub within : IfSome inner (λ f. IsPastOfAll true tree f)
