use Rattle.std.proofs.Common.{◌≡◌, ◌+◌, ◌-◌, ◌≤◌, [], ◌∷◌, ◌++◌, length, take, drop, ap, ◌∙◌, arith, length-drop}
use Rattle.std.proofs.lemmas.List.{append_assoc, take_all}
use Rattle.line_list.proofs.Windows.{put_at}
use Rattle.line_list.proofs.list.LineList.put.Goals as goal

pub returns-clause-ok : goal.returns-clause-ok
returns-clause-ok g c =
    let xs = c.args.self.now in
    let n = c.args.n in
    let behind = drop (n + 1) xs in
    let count = c.len.result - (n + 1) in
    let front : c.push_run.new.self ≡ take n xs =
    c.in_ok-push_run.ensures ∙ ap (λ list. list ++ take n xs) c.new-list.ensures in
    let both : c.push.new.self ≡ take n xs ++ c.args.item ∷ [] =
    c.in_ok-push.ensures.ok ∙ ap (λ list. list ++ c.args.item ∷ []) front in
    let long : length behind ≤ count = omega
    (arith, length-drop (n + 1) xs, c.len.ensures.count, ap length c.self.view_is) in
    c.list-3.view_is ∙ c.in_ok-push_run-2.ensures ∙ ap (λ list. list ++ take count behind) both
    ∙ append_assoc (take n xs) (c.args.item ∷ []) (take count behind)
    ∙ ap (λ rest. take n xs ++ c.args.item ∷ rest) (take_all count behind long) ∙ put_at xs n c.args.item c.requires
