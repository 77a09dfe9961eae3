use Rattle.std.proofs.Common.{◌≡◌, ◌-◌, ◌++◌, length, take, drop, ap, ◌∙◌, arith, length-append}
use Rattle.std.proofs.lemmas.List.{append_assoc}
use Rattle.std.proofs.lemmas.Result.{on_ok_weaker}
use Rattle.line_list.specs.Parts.{items_of}
use Rattle.line_list.proofs.Windows.{windows}
use Rattle.line_list.proofs.list.LineList.push_run.Goals as goal

pub returns : goal.returns
returns g c =
    let pieces = c.list.inside.pieces in
    let rest = c.list.inside.rest.items in
    let front = c.len-front.result in
    let first = c.min-first.result in
    let last = c.min.result in
    let low = c.max.result in
    let high = c.max-2.result in
    let behind = take ((high - front) - (low - front)) (drop (low - front) c.deref.result.now) in
    let parts : take (last - first) (drop first (items_of c.parts.result.now)) ++ behind
    ≡ take c.args.count (drop c.args.from c.args.list.now) =
    ap (λ xs. take (last - first) (drop first xs) ++ behind) c.parts.ensures.items
    ∙ ap (λ xs. take (last - first) (drop first pieces) ++ take ((high - front) - (low - front))
    (drop (low - front) xs)) c.deref.ensures.value
    ∙ windows pieces rest c.args.from c.args.count front first last low high c.len-front.ensures.count
    c.min-first.ensures c.min.ensures c.max.ensures c.max-2.ensures
    (omega (arith, c.requires.within, ap length c.list.view_is, length-append pieces rest))
    ∙ ap (λ xs. take c.args.count (drop c.args.from xs)) c.list.view_is in
    on_ok_weaker c.push_items.result (λ added. added ∙ ap (λ xs. xs ++ behind) c.in_ok-push_parts.ensures
    ∙ append_assoc c.args.self.now _ behind
    ∙ ap (λ xs. c.args.self.now ++ xs) parts) c.push_items.ensures
