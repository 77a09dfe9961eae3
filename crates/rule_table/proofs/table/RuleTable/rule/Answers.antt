use Rattle.std.proofs.Common.{◌<◌, length, map, subst, sym}
use Rattle.rule_table.specs.Views.{Table, rule_of}
use Rattle.rule_table.specs.Fits.{IsRule}
use Rattle.rule_table.proofs.TableLemmas.{fits_at}
use Rattle.rule_table.proofs.table.RuleTable.rule.Goals as goal

pub returns-clause-fits : goal.returns-clause-fits
returns-clause-fits c =
    let rules = c.self.inside.rules.items in
    let there : c.args.id.0 < length (map rule_of rules) = subst (λ t. c.args.id.0 < length t.rules) (sym c.self.view_is) c.requires in
    let P : Table → Type 0 = λ t. IsRule (length t.rules) t.groups (rule_of c.index.result.now) in
    subst P c.self.view_is (rw (c.index.ensures)
    (fits_at (length (map rule_of rules)) c.self.inside.groups rules c.args.id.0 c.index.result.now there c.self.invariant.fit))
