use Rattle.std.proofs.Common.{◌≡◌, ◌++◌, length, map, drop}
use Rattle.line_defs.specs.Search.{rule_choices}
use Rattle.line_search.specs.Choices.{choice_of_owned, AreOf}
use Rattle.line_search.specs.Lists.{early}
use Rattle.line_search.proofs.lists.push_rules.Given as goal

-- what stands there, with what the rest gives, is the whole
abbrev pub invariant-loop-id : goal.invariant-loop-id
invariant-loop-id l = record {
  rules : map choice_of_owned l.all.items
      ++ rule_choices (early l.table.rules) (map (λ id. id.0) (drop l.id-index l.ids))
      ≡ map choice_of_owned l.initial.all.items ++ rule_choices (early l.table.rules) (map (λ id. id.0) l.ids);
  fit : AreOf (length l.table.rules) l.table.groups (map choice_of_owned l.initial.all.items) →
      AreOf (length l.table.rules) l.table.groups (map choice_of_owned l.all.items);
}
