use Rattle.std.proofs.Common.{◌≡◌, ◌<◌, List, subst, sym, ap, map, length}
use Rattle.std.specs.Prelude.{All}
use Rattle.std.proofs.lemmas.Result.{IfOk-weaker}
use Rattle.scope_defs.specs.declared.types.RuleId.{RuleId}
use Rattle.rule_table.specs.Views.{rule_of}
use Rattle.line_defs.specs.Search.{Choice}
use Rattle.line_search.specs.Choices.{choice_of_owned, AreOf}
use Rattle.line_search.proofs.Bounds.{AreOf-inside, ids_below}
use Rattle.line_search.proofs.lists.inside_of.Goals as goal

pub push_rules-requires : goal.push_rules-requires
push_rules-requires c =
    subst (All (λ (id : RuleId). id.0 < length c.args.table.now.rules)) (sym c.as_slice.ensures)
    (ids_below (length c.args.table.now.rules) c.args.rule.now.active c.requires.active)

pub returns-clause-fit : goal.returns-clause-fit
returns-clause-fit c =
    let Are : List Choice → Type 0 = AreOf (length c.args.table.now.rules) c.args.table.now.groups in
    let are : Are (map choice_of_owned c.push_end-2.new.all.items) =
    AreOf-inside (length c.args.table.now.rules) c.args.table.now.groups (rule_of c.args.rule.now)
    (map choice_of_owned c.new-all.result.items) (map choice_of_owned c.push_end.new.all.items)
    (map choice_of_owned c.push_rules.new.all.items) (map choice_of_owned c.push_end-2.new.all.items)
    c.requires.finish (ap (map choice_of_owned) c.new-all.ensures.items) c.in_ok-push_end.ensures
    c.in_ok-push_rules.ensures.fit c.in_ok-push_end-2.ensures in
    IfOk-weaker c.of.result (λ cs. cs ≡ map choice_of_owned c.push_end-2.new.all.items) Are
    (λ cs is. subst Are (sym is) are) c.of.ensures
