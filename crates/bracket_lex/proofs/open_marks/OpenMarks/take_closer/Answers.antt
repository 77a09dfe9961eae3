use Rattle.bracket_lex.proofs.OpenSteps.{closer_adds}
use Rattle.bracket_lex.proofs.open_marks.OpenMarks.take_closer.Goals as goal

pub returns-in_ok-push-in-Some-clause-rows : goal.returns-in_ok-push-in-Some-clause-rows
returns-in_ok-push-in-Some-clause-rows c =
    let found = rw (c.deref.ensures.value) at c.in-Some.ensures in
    let last = rw (← c.index-entry.ensures, ← c.entry.view_is) at (found.1 c.index-entry.result.now) in
    let own = rw (c.deref-in-Some.ensures.value) at c.count_of_kind-own.ensures.count in
    rw (← c.self.view_is) (closer_adds c.self.inside.rows.items c.push-in-Some.new.self.items
    c.self.inside.entries.items c.args.mark c.args.kinds
    c.in-Some.k c.count_of_kind-own.result c.unfinished-in-Some.result _
    c.in_ok-push-in-Some.ensures.items found.0 last own c.unfinished-in-Some.ensures)
