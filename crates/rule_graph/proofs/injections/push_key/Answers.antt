use Rattle.std.proofs.Common.{length, map, ap, arith}
use Rattle.scope_defs.specs.SelectorSyntax.{entries_of}
use Rattle.rule_table.specs.Views.{listed_of}
use Rattle.rule_graph.proofs.InjectionLemmas.{entry_pushed}
use Rattle.rule_graph.proofs.injections.push_key.Goals as goal

pub loop-entry-preserved : goal.loop-entry-preserved
loop-entry-preserved c =
    let count = ap (λ t. length (entries_of t)) c.deref.ensures in
    entry_pushed c.args.of c.args.key.now c.loop-entry.entry (map listed_of c.loop-entry.all) _
    (map listed_of c.push_entry.new.all)
    (omega (arith, c.loop-entry-test.true, c.entries-entry-end.ensures, count))
    c.in_ok-push_entry.ensures c.loop-entry.invariant
