use Rattle.std.proofs.Common.{◌≡◌, ◌≢◌, ◌+◌, ◌++◌, List, ℕ, ◌∙◌, ap, sym, drop, length}
use Rattle.std.specs.Prelude.{MatchOption, Some, None}
use Rattle.std.specs.Str.{IsCharBoundary}
use Rattle.rule_graph.proofs.Fronts.{found-behind}
use Rattle.rule_graph.specs.Keys.{BehindIs}
use Rattle.graph_defs.specs.Includes.{behind}
use Rattle.rule_graph.proofs.includes.behind.Goals as goal

pub returns : goal.returns
returns c =
    elim c.strip_prefix.result as (λ r. MatchOption r ((rest : List ℕ) → c.args.text.now ≢ c.args.front.now ++ rest)
    (λ x. (k : ℕ) × ((k ≡ length c.args.front.now) × (c.args.text.now ≡ c.args.front.now ++ drop k c.args.text.now)
    × IsCharBoundary c.args.text.now (length c.args.front.now)) × (x.now ≡ drop k c.args.text.now)
    × (length x.now + k ≡ length c.args.text.now))
    → BehindIs (behind c.args.front.now c.args.text.now) r) [
      | None ↦ λ h. found-behind c.args.front.now c.args.text.now None h
      | Some x ↦ λ h. found-behind c.args.front.now c.args.text.now (Some x)
          (h.1.1 ∙ ap (λ d. c.args.front.now ++ d) (sym h.2))
    ]
    c.strip_prefix.ensures.cases
