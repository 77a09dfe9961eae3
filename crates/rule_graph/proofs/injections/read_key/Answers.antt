use Rattle.std.proofs.Common.{◌∙◌, ap, ◌++◌}
use Rattle.graph_defs.specs.ListedInjections.{key_entries}
use Rattle.rule_graph.specs.Keyed.{listed_keys}
use Rattle.rule_graph.proofs.WalkLemmas.{on_ok}
use Rattle.rule_graph.proofs.InjectionLemmas.{with_key}
use Rattle.rule_graph.proofs.injections.read_key.Goals as goal

pub returns-in_ok-new-in-Ok-clause-read : goal.returns-in_ok-new-in-Ok-clause-read
returns-in_ok-new-in-Ok-clause-read c =
    let before = c.args.keys.now.read in
    on_ok c.push.result
    (λ pushed. ap listed_keys pushed
    ∙ with_key before (record { selector = c.in_ok-new-in-Ok.field-0; rule = c.args.rule })
    ∙ ap (λ t. listed_keys before ++ key_entries t c.args.rule.0)
    (c.in_ok-new-in-Ok.ensures.ok ∙ c.in-Ok.ensures.same))
    c.push.ensures.ok
