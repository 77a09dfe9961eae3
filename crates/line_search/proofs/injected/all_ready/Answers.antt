use Rattle.std.proofs.Common.{length, ap, sym, ◌∙◌, subst, arith}
use Rattle.std.proofs.lemmas.List.{length-map}
use Rattle.rule_table.specs.Views.{listed_of}
use Rattle.rule_table.specs.Fits.{IsInjection}
use Rattle.line_search.proofs.Injecting.{listed_at}
use Rattle.line_search.proofs.injected.all_ready.Goals as goal

pub push_ready-requires-clause-fits : goal.push_ready-requires-clause-fits
push_ready-requires-clause-fits c =
    let items = c.injections-injection-items.result.now in
    subst (IsInjection (length c.args.table.now.rules))
    (listed_at items c.loop-injection.injection-index c.injection-item.result ∙ ap listed_of (sym c.injection-item.is))
    (c.injections-injection-items.ensures.fit c.loop-injection.injection-index (listed_of c.injection-item.result)
    (omega (arith, c.loop-injection-test.true, length-map items listed_of)))
