use Rattle.std.proofs.Common.{◌≡◌, ℕ, length, refl, ap, sym, ◌∙◌}
use Rattle.std.specs.Rc.{rc_value}
use Rattle.std.proofs.lemmas.Bool.{ltb-true}
use Rattle.std.proofs.lemmas.Result.{IfOk-weaker}
use Rattle.rule_table.specs.Views.{rule_of, kind_of}
use Rattle.line_defs.specs.Machine.{Machine}
use Rattle.line_defs.specs.Search.{Sight, choices, in_order, scan}
use Rattle.line_search.specs.Choices.{HaveOwners}
use Rattle.line_search.specs.Finds.{found_of, IfAt, IsOwner}
use Rattle.line_search.specs.Lists.{late_choice}
use Rattle.line_search.specs.Machines.{IsOf}
use Rattle.line_search.proofs.FrameLists.{ended_by, other_by, kind_end}
use Rattle.line_search.proofs.Tables.{Stands, stands, early_room}
use Rattle.line_search.proofs.searcher.Searcher.ordinary.Goals as goal

pub find_with_late-requires-clause-early : goal.find_with_late-requires-clause-early
find_with_late-requires-clause-early c =
    let s : Stands c.args.self.now c.args.frame.now.rule c.in-Some.lists.now (rule_of c.rule-rule.result.now) =
    stands (rc_value c.self.inside.table) c.args.self.now c.self.inside.lists.items c.deref.result.now
    c.frame.inside.rule.0 c.args.frame.now.rule c.in-Some.lists.now (rule_of c.rule-rule.result.now) c.self.view_is
    c.self.invariant.lists c.self.invariant.fit c.deref.ensures.value
    (ltb-true c.frame.inside.rule.0 (length c.deref.result.now) (sym c.in-Some.ensures.lookup.0))
    c.in-Some.ensures.lookup.1 (rw c.deref-2.ensures at c.rule-rule.ensures.rule) (ap (λ f. f.rule) c.frame.view_is) in
    early_room (length c.args.self.now.rules) c.args.self.now.groups c.args.work.now.room c.in-Some.lists.now.inside
    s.fit.inside c.requires.room

pub find-requires : goal.find-requires
find-requires c =
    let s : Stands c.args.self.now c.args.frame.now.rule c.in-Some.lists.now (rule_of c.rule-rule.result.now) =
    stands (rc_value c.self.inside.table) c.args.self.now c.self.inside.lists.items c.deref.result.now
    c.frame.inside.rule.0 c.args.frame.now.rule c.in-Some.lists.now (rule_of c.rule-rule.result.now) c.self.view_is
    c.self.invariant.lists c.self.invariant.fit c.deref.ensures.value
    (ltb-true c.frame.inside.rule.0 (length c.deref.result.now) (sym c.in-Some.ensures.lookup.0))
    c.in-Some.ensures.lookup.1 (rw c.deref-2.ensures at c.rule-rule.ensures.rule) (ap (λ f. f.rule) c.frame.view_is) in
    record {
      short = c.requires.short;
      inside = c.requires.inside;
      room =
          early_room (length c.args.self.now.rules) c.args.self.now.groups c.args.work.now.room
          c.in-Some.lists.now.inside s.fit.inside c.requires.room;
    }

-- ---- a begin/end rule

pub returns-in-BeginEnd-clause-found : goal.returns-in-BeginEnd-clause-found
returns-in-BeginEnd-clause-found c =
    let s : Stands c.args.self.now c.args.frame.now.rule c.in-Some.lists.now (rule_of c.rule-rule.result.now) =
    stands (rc_value c.self.inside.table) c.args.self.now c.self.inside.lists.items c.deref.result.now
    c.frame.inside.rule.0 c.args.frame.now.rule c.in-Some.lists.now (rule_of c.rule-rule.result.now) c.self.view_is
    c.self.invariant.lists c.self.invariant.fit c.deref.ensures.value
    (ltb-true c.frame.inside.rule.0 (length c.deref.result.now) (sym c.in-Some.ensures.lookup.0))
    c.in-Some.ensures.lookup.1 (rw c.deref-2.ensures at c.rule-rule.ensures.rule) (ap (λ f. f.rule) c.frame.view_is) in
    let seen : Sight = record {
      text = c.args.text.now;
      place = c.args.from;
      flags = c.args.flags;
      budget = c.args.work.now.budget;
    } in
    IfOk-weaker c.find_with_late.result
    (λ find. found_of find c.find_with_late.new.work.hit
    ≡ scan seen (in_order (rule_of c.rule-rule.result.now).finish_last
    (late_choice (rule_of c.rule-rule.result.now).finish c.frame.inside.end) c.in-Some.lists.now.inside))
    (λ find. (machine : Machine) → IsOf c.args.self.now machine →
    found_of find c.find_with_late.new.work.hit ≡ scan seen (choices machine c.args.frame.now))
    (λ find told machine is. told ∙ ap (scan seen) (ended_by machine c.args.self.now c.args.frame.now
    c.in-Some.lists.now (rule_of c.rule-rule.result.now) c.frame.inside.end is s
    (ap (λ f. f.end_text) c.frame.view_is) (ap kind_of c.in-BeginEnd.is)))
    c.find_with_late.ensures.found

pub returns-in-BeginEnd-clause-owner : goal.returns-in-BeginEnd-clause-owner
returns-in-BeginEnd-clause-owner c =
    let s : Stands c.args.self.now c.args.frame.now.rule c.in-Some.lists.now (rule_of c.rule-rule.result.now) =
    stands (rc_value c.self.inside.table) c.args.self.now c.self.inside.lists.items c.deref.result.now
    c.frame.inside.rule.0 c.args.frame.now.rule c.in-Some.lists.now (rule_of c.rule-rule.result.now) c.self.view_is
    c.self.invariant.lists c.self.invariant.fit c.deref.ensures.value
    (ltb-true c.frame.inside.rule.0 (length c.deref.result.now) (sym c.in-Some.ensures.lookup.0))
    c.in-Some.ensures.lookup.1 (rw c.deref-2.ensures at c.rule-rule.ensures.rule) (ap (λ f. f.rule) c.frame.view_is) in
    IfOk-weaker c.find_with_late.result
    (λ find. (rules : ℕ) → HaveOwners rules c.in-Some.lists.now.inside → IfAt find (λ m. IsOwner rules m.of))
    (λ find. IfAt find (λ m. IsOwner (length c.args.self.now.rules) m.of))
    (λ find told. told (length c.args.self.now.rules) s.fit.inside.owners) c.find_with_late.ensures.owner

-- ---- another rule

pub returns-in_default-kind : goal.returns-in_default-kind
returns-in_default-kind c =
    let s : Stands c.args.self.now c.args.frame.now.rule c.in-Some.lists.now (rule_of c.rule-rule.result.now) =
    stands (rc_value c.self.inside.table) c.args.self.now c.self.inside.lists.items c.deref.result.now
    c.frame.inside.rule.0 c.args.frame.now.rule c.in-Some.lists.now (rule_of c.rule-rule.result.now) c.self.view_is
    c.self.invariant.lists c.self.invariant.fit c.deref.ensures.value
    (ltb-true c.frame.inside.rule.0 (length c.deref.result.now) (sym c.in-Some.ensures.lookup.0))
    c.in-Some.ensures.lookup.1 (rw c.deref-2.ensures at c.rule-rule.ensures.rule) (ap (λ f. f.rule) c.frame.view_is) in
    let seen : Sight = record {
      text = c.args.text.now;
      place = c.args.from;
      flags = c.args.flags;
      budget = c.args.work.now.budget;
    } in
    record {
      same = refl;
      budget = c.find.ensures.budget;
      room = c.find.ensures.room;
      found = λ machine is. c.find.ensures.found ∙ ap (scan seen) (other_by machine c.args.self.now
          c.args.frame.now c.in-Some.lists.now (rule_of c.rule-rule.result.now) is s
          (λ kind. c.in_default-kind.not-BeginEnd (kind_end c.rule-rule.result.now.kind kind)));
      part = c.find.ensures.part;
      owner = c.find.ensures.owner (length c.args.self.now.rules) s.fit.inside.owners;
    }
