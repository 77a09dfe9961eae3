use Rattle.std.proofs.Common.{◌≡◌, drop}
use Rattle.std.specs.List.{list_all}
use Rattle.pattern_defs.specs.Patterns.{nodes_of, is_plain}
use Rattle.pattern_tree.proofs.pattern.Pattern.are_all_plain.Given as goal

-- the lists so far are plain
abbrev pub invariant-loop-id : goal.invariant-loop-id
invariant-loop-id l = list_all (λ id. list_all is_plain (nodes_of l.self.lists id)) (drop l.id-index l.ids)
    ≡ list_all (λ id. list_all is_plain (nodes_of l.self.lists id)) l.ids
