use Rattle.std.proofs.Common.{◌≡◌, ℕ, refl, subst}
use Rattle.std.specs.Rc.{rc_value}
use Rattle.pattern_defs.specs.Patterns.{Tree}
use Rattle.pattern_defs.specs.Attempt.{Miss, attempt as attempted}
use Rattle.onig_scan.specs.Fronts.{IsFrontOfAll}
use Rattle.onig_scan.proofs.entry.Entry.attempt.Goals as goal

-- the attempt that is spared misses
spared : (c : goal.Then-misses_at) → (rest : ℕ)
    × (attempted c.args.self.now c.args.text.now c.args.at c.args.flags c.args.work.now.budget ≡ Miss rest)
spared c =
    let Front : Tree → Type 0 = λ tree. IsFrontOfAll tree c.in-Some.front.set c.in-Some.front.cost in
    let front : Front (rc_value c.self.inside.pattern) = rw c.in-Some.is at c.self.invariant.is in
    (subst Front c.self.view_is front).misses c.args.text.now c.args.at c.args.flags c.args.work.now.budget
    (c.if-misses_at.ensures.without refl) (rw c.budget.ensures at (c.if-misses_at.ensures.enough refl))

pub returns-then-misses_at-clause-outcome : goal.returns-then-misses_at-clause-outcome
returns-then-misses_at-clause-outcome c = rw (spared c).1 refl

pub returns-then-misses_at-clause-work : goal.returns-then-misses_at-clause-work
returns-then-misses_at-clause-work c = rw (spared c).1 refl
