use Rattle.std.proofs.Common.{◌≡◌, ◌++◌, List, [], ℕ, drop, true, sym, ap, ◌∙◌, arith, refl, Bor}
use Rattle.std.proofs.lemmas.Grind.{common_steps}
use Rattle.piece_io.specs.Pending.{pending}
use Rattle.piece_io.specs.declared.line_cutter.LineCutter.TheInside.{Inside}
use Rattle.piece_io.proofs.Cutting.{feed-done, feed-first, pending-let_go, pending-has, on_ok}
use Rattle.piece_io.proofs.line_cutter.LineCutter.feed.Goals as goal
use Rattle.piece_io.proofs.line_cutter.LineCutter.feed.Goals.{then-is_too_long, else-is_too_long, then-is_empty}
use Rattle.piece_io.proofs.line_cutter.LineCutter.feed.Goals.{else-is_empty}

-- the front is cut off
start : (c : goal.After-extend_from_slice) → c.if-is_too_long.self-inside.start ≡ 0
start c = elim c.if-is_too_long.branch [
  | then-is_too_long w ↦ ap (λ (s : Inside). s.start) w.self-inside-is
  | else-is_too_long w ↦ ap (λ (s : Inside). s.start) w.self-inside-is
]

-- the lines stay while the front is cut off, and a line that is too long is let go
left : (c : goal.After-extend_from_slice) → c.args.self.now.cuts
    ≡ pending c.if-is_too_long.self-inside.over c.if-is_too_long.self-inside.bytes.items
left c =
    let over = c.self.inside.over in
    let before : c.args.self.now.cuts ≡ pending over c.cut_front.new.bytes.items =
    ap (λ v. v.cuts) (sym c.self.view_is) ∙ ap (pending over) (sym c.cut_front.ensures) in
    elim c.if-is_too_long.branch [
      | then-is_too_long w ↦
          let facts = w.if-is_too_long.ensures.0 refl in
          before ∙ ap (pending over) (sym c.deref.ensures.value)
          ∙ pending-let_go over c.deref.result.now facts.1 facts.0
          ∙ sym (ap (λ (s : Inside). pending s.over s.bytes.items) w.self-inside-is
          ∙ ap (pending true) w.clear.ensures.items)
      | else-is_too_long w ↦ before ∙ sym (ap (λ (s : Inside). pending s.over s.bytes.items) w.self-inside-is)
    ]

-- what is kept of the piece stands for it
same : (c : goal.After-extend_from_slice)
    → pending c.if-is_too_long.self-inside.over (c.if-is_too_long.self-inside.bytes.items ++ c.if-is_empty.kept.now)
    ≡ pending c.if-is_too_long.self-inside.over (c.if-is_too_long.self-inside.bytes.items ++ c.args.piece.now)
same c =
    let over = c.if-is_too_long.self-inside.over in
    let bytes = c.if-is_too_long.self-inside.bytes.items in
    elim c.if-is_empty.branch [
      | then-is_empty w ↦
          let none : bytes ≡ [] = grind (arith, common_steps) in
          ap (λ xs. pending over (xs ++ c.if-is_empty.kept.now)) none
          ∙ ap (λ (b : Bor (List ℕ)). pending over b.now) w.kept-is ∙ w.kept_of-kept.ensures
          ∙ ap (λ xs. pending over (xs ++ c.args.piece.now)) (sym none)
      | else-is_empty w ↦ ap (λ (b : Bor (List ℕ)). pending over (bytes ++ b.now)) w.kept-is
    ]

pub returns-clause-stream : goal.returns-clause-stream
returns-clause-stream c =
    let now = c.if-is_too_long.self-inside in
    feed-done c.extend_from_slice.result now.over now.start c.extend_from_slice.new.self.items now.bytes.items
    c.if-is_empty.kept.now c.args.piece.now
    c.args.self.now.cuts (start c) c.extend_from_slice.ensures.items (left c) (same c)

pub returns-clause-ok : goal.returns-clause-ok
returns-clause-ok c =
    feed-first c.extend_from_slice.result c.if-is_too_long.self-inside.over
    (drop c.if-is_too_long.self-inside.start c.extend_from_slice.new.self.items) c.args.piece.now c.args.self.now.cuts
    (returns-clause-stream c)

pub returns-clause-unfinished : goal.returns-clause-unfinished
returns-clause-unfinished c =
    on_ok c.extend_from_slice.result
    (pending-has c.if-is_too_long.self-inside.over
    (drop c.if-is_too_long.self-inside.start c.extend_from_slice.new.self.items))
