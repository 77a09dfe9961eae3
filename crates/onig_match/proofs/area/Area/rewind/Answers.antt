use Rattle.std.proofs.Common.{◌≡◌, ◌∙◌, ◌∷◌, ◌<◌, length, subst, arith, List}
use Rattle.std.proofs.lemmas.List.{length-set}
use Rattle.onig_match.specs.declared.entries.Change.{Change}
use Rattle.onig_match.specs.Sound.{AreChanges}
use Rattle.onig_match.proofs.Steps.{GoesBack, goes_back}
use Rattle.onig_match.proofs.area.Area.rewind.Goals as goal

pub loop-self-preserved-in-Some : goal.loop-self-preserved-in-Some
loop-self-preserved-in-Some c =
    let popped : c.loop-self.self.trail.items ≡ c.in-Some.change ∷ c.pop.new.self.items = (c.in-Some.ensures).0 in
    let high : c.args.trail < length c.loop-self.self.trail.items = omega arith in
    let back : GoesBack c.args.trail c.loop-self.self.trail.items c.pop.new.self.items c.loop-self.self.captures.items
    c.in-Some.change =
    goes_back c.args.trail c.loop-self.self.trail.items c.pop.new.self.items c.loop-self.self.captures.items
    c.in-Some.change popped high in
    let changes : AreChanges c.args.on.now.pattern.now (length c.args.on.now.text.now)
    (c.in-Some.change ∷ c.pop.new.self.items) =
    subst (λ (t : List Change). AreChanges c.args.on.now.pattern.now (length c.args.on.now.text.now) t) popped
    c.loop-self.invariant.changes in
    rw c.set.ensures (record {
      captures = back.captures_stay ∙ c.loop-self.invariant.captures;
      kept = back.kept_stay ∙ c.loop-self.invariant.kept;
      changes = changes.2;
      groups = length-set c.loop-self.self.captures.items c.in-Some.change.number c.in-Some.change.old
          ∙ c.loop-self.invariant.groups;
      captures_room = c.loop-self.invariant.captures_room;
      trail_room = (c.in-Some.ensures).1 ∙ c.loop-self.invariant.trail_room;
      cells = c.loop-self.invariant.cells;
      entries = c.loop-self.invariant.entries;
    })
