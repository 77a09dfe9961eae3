use Rattle.std.proofs.Common.{arith}
use Rattle.bracket_lex.proofs.OpenSteps.{opener_adds}
use Rattle.bracket_lex.proofs.open_marks.OpenMarks.take_opener.Goals as goal

pub returns-clause-rows : goal.returns-clause-rows
returns-clause-rows c =
    let own = rw (c.deref.ensures.value) at c.count_of_kind-own.ensures.count in
    rw (← c.self.view_is) (opener_adds c.self.inside.limit c.self.inside.rows.items c.push.new.self.items
    c.self.inside.entries.items c.args.mark c.args.kind
    c.len-level.result c.count_of_kind-own.result c.unfinished.result
    c.in_ok-push.ensures.items (omega arith) (omega arith) own c.unfinished.ensures)
