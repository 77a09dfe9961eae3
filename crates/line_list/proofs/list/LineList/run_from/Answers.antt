use Rattle.std.proofs.Common.{◌≡◌, ℕ, ◌-◌, length, take, drop, ap, sym, ◌∙◌, arith}
use Rattle.std.proofs.lemmas.List.{take_rest, take_all}
use Rattle.line_list.proofs.Windows.{drop_past}
use Rattle.line_list.proofs.list.LineList.run_from.Goals as goal

pub returns-else-n-front-clause-run : goal.returns-else-n-front-clause-run
returns-else-n-front-clause-run g c =
    let xs = c.deref.result.now in
    let rest = c.self.inside.rest.items in
    let j : ℕ = c.args.n - c.len-front.result in
    let run = take (length xs - j) (drop j xs) in
    let behind : drop c.args.n c.args.self.now ≡ run =
    ap (drop c.args.n) (sym c.self.view_is) ∙ drop_past c.self.inside.pieces rest c.args.n j
    (omega (arith, c.len-front.ensures.count, c.if-n-front.false))
    ∙ ap (drop j) (sym c.deref.ensures.value) ∙ sym (take_rest xs j) in
    ap (take (length run)) behind ∙ take_all (length run) run (omega arith)
