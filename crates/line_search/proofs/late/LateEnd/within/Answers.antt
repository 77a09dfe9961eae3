use Rattle.std.proofs.Common.{subst, sym, ◌∙◌, ap}
use Rattle.std.specs.Prelude.{option_and_then}
use Rattle.std.proofs.lemmas.Bool.{true≢false}
use Rattle.canonical_patterns.specs.ReadTrees.{read_tree}
use Rattle.line_defs.specs.Search.{OfEnd, choice_of, with_groups}
use Rattle.line_search.specs.Choices.{HaveRoom}
use Rattle.line_search.proofs.Lates.{late_within, late_above}
use Rattle.line_search.proofs.late.LateEnd.within.Goals as goal

pub returns-then-fit-clause-choices : goal.returns-then-fit-clause-choices
returns-then-fit-clause-choices c =
    let room : HaveRoom c.args.groups (choice_of OfEnd (option_and_then read_tree c.self.inside.text)) =
    subst (HaveRoom c.args.groups) c.self.invariant (c.fit.ensures.0 c.if-fit.true) in
    c.self.invariant ∙ late_within c.args.groups (option_and_then read_tree c.self.inside.text) room
    ∙ ap (λ text. choice_of OfEnd (option_and_then (with_groups c.args.groups) (option_and_then read_tree text)))
    c.self.view_is

pub returns-else-fit-clause-choices : goal.returns-else-fit-clause-choices
returns-else-fit-clause-choices c =
    late_above c.args.groups (option_and_then read_tree c.self.inside.text)
    (λ room. true≢false (sym (c.fit.ensures.1 (subst (HaveRoom c.args.groups) (sym c.self.invariant) room))
    ∙ c.if-fit.false))
    ∙ ap (λ text. choice_of OfEnd (option_and_then (with_groups c.args.groups) (option_and_then read_tree text)))
    c.self.view_is
