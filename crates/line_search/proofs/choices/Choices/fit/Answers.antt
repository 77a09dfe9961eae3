use Rattle.std.proofs.Common.{◌≤◌, map, subst, sym, arith}
use Rattle.std.specs.Prelude.{All}
use Rattle.std.proofs.lemmas.List.Elements.{All-weaker}
use Rattle.std.proofs.lemmas.Bool.{leb-true}
use Rattle.line_search.specs.Choices.{HaveRoom, choice_of_owned}
use Rattle.line_search.proofs.Rooms.{choices_have_room, trees_have_room}
use Rattle.line_search.proofs.choices.Choices.fit.Goals as goal

pub returns : goal.returns
returns c = (
  λ holds.
      let le : c.groups.result ≤ c.args.groups = leb-true c.groups.result c.args.groups holds in
      subst (HaveRoom c.args.groups) c.self.view_is
      (choices_have_room c.args.groups c.self.inside.owned.items
      (subst (All (λ tree. tree.groups ≤ c.args.groups)) c.self.invariant
      (All-weaker (λ tree. tree.groups ≤ c.groups.result) (λ tree. tree.groups ≤ c.args.groups)
      (λ tree h. omega arith) c.self.inside.scanner c.groups.ensures.fits))),
  λ room.
      let seen : HaveRoom c.args.groups (map choice_of_owned c.self.inside.owned.items) =
      subst (HaveRoom c.args.groups) (sym c.self.view_is) room in
      let le : c.groups.result ≤ c.args.groups =
      c.groups.ensures.least c.args.groups (subst (All (λ tree. tree.groups ≤ c.args.groups)) (sym c.self.invariant)
      (trees_have_room c.args.groups c.self.inside.owned.items seen)) in
      grind arith,
)
