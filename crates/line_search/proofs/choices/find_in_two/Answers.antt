use Rattle.std.proofs.Common.{sym, ◌∙◌, ap}
use Rattle.line_search.specs.Choices.{is_before}
use Rattle.line_search.specs.Finds.{found_of}
use Rattle.line_search.proofs.Scans.{first_wins, second_wins}
use Rattle.line_search.proofs.choices.find_in_two.Goals as goal

pub returns-in-Some-clause-found : goal.returns-in-Some-clause-found
returns-in-Some-clause-found c =
    first_wins (record {
      text = c.args.text.now;
      place = c.args.from;
      flags = c.args.flags;
      budget = c.args.work.now.budget;
    }) c.args.first.now c.args.second.now c.in-Some.place c.find-one.result.place c.find-two.result.place
    (found_of c.find.result.find c.find.new.work.hit) c.requires.inside c.find-one.ensures.place
    (rw c.find-one.ensures.budget at c.find-two.ensures.place) c.in-Some.is
    (sym c.is_before.ensures ∙ c.if-is_before.true)
    (rw (c.find-two.ensures.budget, c.find-one.ensures.budget) at c.find.ensures.found)

pub returns-in_default-clause-found : goal.returns-in_default-clause-found
returns-in_default-clause-found c =
    second_wins (record {
      text = c.args.text.now;
      place = c.args.from;
      flags = c.args.flags;
      budget = c.args.work.now.budget;
    }) c.args.first.now c.args.second.now c.find-one.result.place c.find-two.result.place
    (found_of c.find-two.result.find c.find-two.new.work.hit) c.find-one.ensures.place
    (rw c.find-one.ensures.budget at c.find-two.ensures.place) (sym c.is_before.ensures ∙ c.if-is_before.false)
    (rw c.find-one.ensures.budget at c.find-two.ensures.found)

pub returns-in_default-2-clause-found : goal.returns-in_default-2-clause-found
returns-in_default-2-clause-found c =
    second_wins (record {
      text = c.args.text.now;
      place = c.args.from;
      flags = c.args.flags;
      budget = c.args.work.now.budget;
    }) c.args.first.now c.args.second.now c.find-one.result.place c.find-two.result.place
    (found_of c.find-two.result.find c.find-two.new.work.hit) c.find-one.ensures.place
    (rw c.find-one.ensures.budget at c.find-two.ensures.place)
    (ap (λ o. is_before o c.find-two.result.place) c.in_default.is)
    (rw c.find-one.ensures.budget at c.find-two.ensures.found)
