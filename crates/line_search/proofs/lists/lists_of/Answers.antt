use Rattle.std.proofs.Common.{length, subst, sym}
use Rattle.rule_table.specs.Views.{rule_of}
use Rattle.line_search.specs.Choices.{AreOf}
use Rattle.line_search.proofs.Bounds.{AreOf-while}
use Rattle.line_search.proofs.lists.lists_of.Goals as goal

pub returns-clause-fit : goal.returns-clause-fit
returns-clause-fit c = record {
  inside = c.in_ok-inside.ensures.fit;
  goes_on = subst (AreOf (length c.args.table.now.rules) c.args.table.now.groups) (sym c.in_ok-goes_on.ensures)
      (AreOf-while (length c.args.table.now.rules) c.args.table.now.groups (rule_of c.rule-rule.result.now).kind
      (rule_of c.rule-rule.result.now) c.rule-rule.ensures.fits.finish);
}
