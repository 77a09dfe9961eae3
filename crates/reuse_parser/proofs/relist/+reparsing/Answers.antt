use Rattle.std.proofs.Common.{rules, refl, sym, ap, ◌∙◌, subst, arith}
use Rattle.std.proofs.lemmas.Result.{IfOk-weaker}
use Rattle.text_pos.specs.Lengths.{plus}
use Rattle.tree_defs.specs.Shape.{length_of}
use Rattle.bracket_ast.specs.Shapes.{or_nothing}
use Rattle.reuse_parser.specs.declared.relist.Stop.{Stop}
use Rattle.reuse_parser.specs.Parsing.{start_of, size_of}
use Rattle.reuse_parser.specs.Reusing.{Fills}
use Rattle.reuse_parser.specs.Reading.{StandsAt, IsStop, IsNext}
use Rattle.reuse_parser.specs.Olds.{IsSet, IsSince}
use Rattle.reuse_parser.specs.Counting.{IsOpenAt, NoneSettled}
use Rattle.reuse_parser.proofs.AheadOf.{left_to, less_left}
use Rattle.reuse_parser.proofs.Gathering.{gathered_first}
use Rattle.reuse_parser.proofs.Going.{went_on, went_none, went_same, since_on, set_on, calmly_on}
use Rattle.reuse_parser.proofs.Outside.{none_settled}
use Rattle.reuse_parser.proofs.OpenAt.{open_within}
use Rattle.reuse_parser.proofs.Loops.{root_leaves}
use Rattle.reuse_parser.proofs.Made.{pair_is, left_is}
use Rattle.reuse_parser.proofs.Stepping.{some_columns, some_size, kind_of_opener, is_opener, cut_next, lone_next, text_next}
use Rattle.reuse_parser.proofs.Stepping.{IsRead, read, went_read, ended, old_adds, adds_fit, old_next, went_old}
use Rattle.reuse_parser.proofs.Stepping.{around_within, mark_within, falls_within, closed_next, closer_some, left_next}
use Rattle.reuse_parser.proofs.Stepping.{going_open, going_set, going_in, going_since, going_falls, going_fits, going_more, going_runs, last_runs}
use Rattle.reuse_parser.proofs.Stepping.{going_end, going_last, going_stop, both_ok}
use Rattle.reuse_parser.proofs.relist.+reparsing.Goals as goal

-- ---- what a mark begins
pub begun_by-size_of-requires : goal.begun_by-size_of-requires
begun_by-size_of-requires g t c = some_columns _ _ _ c.requires.place c.requires.mark

pub begun_by-text-requires : goal.begun_by-text-requires
begun_by-text-requires g t c = some_size c.args.mark _ (some_columns _ _ _ c.requires.place c.requires.mark)
    c.size_of.ensures

pub begun_by-size_of-requires-in-Closer-2 : goal.begun_by-size_of-requires-in-Closer-2
begun_by-size_of-requires-in-Closer-2 g t c = some_columns _ _ _ c.requires.place c.requires.mark

pub begun_by-unexpected-requires : goal.begun_by-unexpected-requires
begun_by-unexpected-requires g t c = some_size c.args.mark _ (some_columns _ _ _ c.requires.place c.requires.mark)
    c.size_of-in-Closer-2.ensures

pub begun_by-returns-in_ok-text-in-Opener-2-clause-next : goal.begun_by-returns-in_ok-text-in-Opener-2-clause-next
begun_by-returns-in_ok-text-in-Opener-2-clause-next g t c =
    cut_next c.args.around (g.S.MarkSource.told c.args.source.now) c.args.old.now c.args.mark _ _ c.requires.place
    c.requires.mark c.requires.around.room c.if-around.false (is_opener c.args.mark _ c.in-Opener-2.is)
    (omega arith, omega arith) c.requires.stands c.requires.ready
    (rw c.size_of.ensures at c.in_ok-text-in-Opener-2.ensures) c.end_of.ensures

pub begun_by-returns-in_ok-node-in-Closer-2-clause-next : goal.begun_by-returns-in_ok-node-in-Closer-2-clause-next
begun_by-returns-in_ok-node-in-Closer-2-clause-next g t c =
    lone_next c.args.around (g.S.MarkSource.told c.args.source.now) c.args.old.now c.args.mark c.in-Closer-2.kinds _ _
    c.requires.place c.requires.mark c.requires.around.room c.in-Closer-2.is (search rules)
    (omega arith, omega arith) c.requires.stands c.requires.ready
    (rw c.size_of-in-Closer-2.ensures at c.in_ok-node-in-Closer-2.ensures) c.end_of-in-Closer-2.ensures

-- ---- a text or a mark
pub made_at-returns-then-less-clause-next : goal.made_at-returns-then-less-clause-next
made_at-returns-then-less-clause-next g t c =
    text_next c.args.around (g.S.MarkSource.told c.args.source.now) c.args.old.now c.args.place _ _ c.requires.place
    c.requires.stands c.requires.ready c.requires.around.room c.next_mark-next.ensures (search rules)
    c.in_ok-text.ensures (omega arith, omega arith)

pub made_at-begun_by-requires : goal.made_at-begun_by-requires
made_at-begun_by-requires g t c κs within =
    let s = g.S.MarkSource.told c.args.source.now in
    let u = g.S.MarkSource.told c.next.new.self in
    let x : IsRead c.args.around c.args.place c.in-Some.mark s u c.args.old.now =
    read c.args.around c.args.place c.next_mark-next.result c.in-Some.mark s u c.args.old.now c.requires.place
    c.requires.stands c.requires.ready c.requires.unseen c.next_mark-next.ensures (search rules)
    c.in-Some.ensures.mark c.in-Some.ensures.place in
    let same = ap (λ p. left_to c.args.around.end p) x.starts in (
      omega (arith, c.decreases, same),
      (
        within.0,
        (
          within.1,
          (
            c.requires.around,
            (
              x.mark,
              (
                x.place,
                (
                  x.stands,
                  (
                    subst (λ l. IsSince c.args.around.limit c.args.old.now l) (sym x.lines) c.requires.since,
                    (
                      subst (λ l. IsOpenAt l c.args.around (start_of c.in-Some.mark)) (sym x.lines)
                          (subst (λ p. IsOpenAt s.lines c.args.around p) x.starts c.requires.opens),
                      x.ready,
                    ),
                  ),
                ),
              ),
            ),
          ),
        ),
      ),
    )

pub made_at-returns-in-Some-clause-next : goal.made_at-returns-in-Some-clause-next
made_at-returns-in-Some-clause-next g t c =
    let s = g.S.MarkSource.told c.args.source.now in
    let u = g.S.MarkSource.told c.next.new.self in
    let x : IsRead c.args.around c.args.place c.in-Some.mark s u c.args.old.now =
    read c.args.around c.args.place c.next_mark-next.result c.in-Some.mark s u c.args.old.now c.requires.place
    c.requires.stands c.requires.ready c.requires.unseen c.next_mark-next.ensures (search rules)
    c.in-Some.ensures.mark c.in-Some.ensures.place in
    IfOk-weaker c.begun_by.result _ _
    (λ n h. subst (λ l. IsNext l c.args.around c.args.place (g.S.MarkSource.told c.begun_by.new.source)
    c.begun_by.new.old n) x.lines
    (subst (λ p. IsNext u.lines c.args.around p (g.S.MarkSource.told c.begun_by.new.source) c.begun_by.new.old n)
    (sym x.starts) h)) c.begun_by.ensures.next

pub made_at-returns-in-Some-clause-went : goal.made_at-returns-in-Some-clause-went
made_at-returns-in-Some-clause-went g t c =
    let s = g.S.MarkSource.told c.args.source.now in
    let u = g.S.MarkSource.told c.next.new.self in
    let x : IsRead c.args.around c.args.place c.in-Some.mark s u c.args.old.now =
    read c.args.around c.args.place c.next_mark-next.result c.in-Some.mark s u c.args.old.now c.requires.place
    c.requires.stands c.requires.ready c.requires.unseen c.next_mark-next.ensures (search rules)
    c.in-Some.ensures.mark c.in-Some.ensures.place in
    went_on c.args.around.limit s u (g.S.MarkSource.told c.begun_by.new.source) c.args.steps.now c.next.new.marks c.begun_by.new.steps
    c.args.old.now c.args.old.now c.begun_by.new.old
    (went_read c.args.around.limit c.in-Some.mark s u c.args.steps.now c.next.new.marks c.args.old.now c.args.old.now
    c.requires.place.marked c.in-Some.ensures.mark c.in-Some.ensures.place c.in-Some.ensures.step
    (record { tree = refl; changes = refl }) x.unsettled) c.begun_by.ensures.went

pub made_at-returns-in-None-clause-next : goal.made_at-returns-in-None-clause-next
made_at-returns-in-None-clause-next g t c = (
  refl,
  ended c.args.around c.args.place c.next_mark-next.result (g.S.MarkSource.told c.args.source.now)
      (g.S.MarkSource.told c.next.new.self) c.args.old.now c.requires.place c.requires.stands c.requires.ready
      c.next_mark-next.ensures (search rules) c.in-None.ensures.mark c.in-None.ensures.place,
)

-- ---- a node of the old tree
pub next_at-taken-requires-clause-adds : goal.next_at-taken-requires-clause-adds
next_at-taken-requires-clause-adds g t c =
    old_adds _ c.args.around c.args.place c.args.old.now _ c.requires.place c.requires.since
    (omega arith, omega arith) (omega arith) c.in-Some.ensures.found

pub next_at-taken-requires-clause-fits : goal.next_at-taken-requires-clause-fits
next_at-taken-requires-clause-fits g t c =
    adds_fit _ _ _ _ _
    (old_adds (g.S.MarkSource.told c.args.source.now).lines c.args.around c.args.place c.args.old.now c.in-Some.node.now
    c.requires.place c.requires.since
    (omega arith, omega arith) (omega arith) c.in-Some.ensures.found)
    (omega arith, omega arith)

pub next_at-returns-in_err-node-in-Some-clause-went : goal.next_at-returns-in_err-node-in-Some-clause-went
next_at-returns-in_err-node-in-Some-clause-went g t c =
    let s = g.S.MarkSource.told c.args.source.now in
    went_old c.args.around.limit c.args.around c.args.place c.in-Some.node.now (plus c.args.place (length_of c.in-Some.node.now)) s
    (g.S.MarkSource.told c.taken.new.source) c.args.steps.now c.args.old.now c.node_at.new.old
    (old_adds s.lines c.args.around c.args.place c.args.old.now c.in-Some.node.now c.requires.place c.requires.since
    (omega arith, omega arith) (omega arith) c.in-Some.ensures.found) c.requires.stands c.taken.ensures.source
    c.node_at.ensures.same

pub next_at-returns-in_ok-node-in-Some-clause-next : goal.next_at-returns-in_ok-node-in-Some-clause-next
next_at-returns-in_ok-node-in-Some-clause-next g t c =
    let s = g.S.MarkSource.told c.args.source.now in
    old_next c.args.around c.args.place c.in_ok-node-in-Some.node c.in-Some.node.now c.in_ok-node-in-Some.behind s
    (g.S.MarkSource.told c.taken.new.source) c.args.old.now c.node_at.new.old
    (old_adds s.lines c.args.around c.args.place c.args.old.now c.in-Some.node.now c.requires.place c.requires.since
    (omega arith, omega arith) (omega arith) c.in-Some.ensures.found) c.node_at.ensures.same c.in-Some.ensures.found
    c.requires.ready c.node_at.ensures.ready
    c.in_ok-node-in-Some.ensures.node c.in_ok-node-in-Some.ensures.behind c.in_ok-node-in-Some.ensures.source

pub next_at-returns-in_ok-node-in-Some-clause-went : goal.next_at-returns-in_ok-node-in-Some-clause-went
next_at-returns-in_ok-node-in-Some-clause-went g t c =
    let s = g.S.MarkSource.told c.args.source.now in
    went_old c.args.around.limit c.args.around c.args.place c.in-Some.node.now (plus c.args.place (length_of c.in-Some.node.now)) s
    (g.S.MarkSource.told c.taken.new.source) c.args.steps.now c.args.old.now c.node_at.new.old
    (old_adds s.lines c.args.around c.args.place c.args.old.now c.in-Some.node.now c.requires.place c.requires.since
    (omega arith, omega arith) (omega arith) c.in-Some.ensures.found) c.requires.stands c.taken.ensures.source
    c.node_at.ensures.same

-- ---- where no node is taken
pub next_at-made_at-requires : goal.next_at-made_at-requires
next_at-made_at-requires g t c κs within =
    let s = g.S.MarkSource.told c.args.source.now in
    let set = c.requires.ready in (
      omega (arith, c.decreases),
      (
        within.0,
        (
          within.1,
          (
            c.requires.around,
            (
              c.requires.place,
              (
                c.requires.stands,
                (
                  since_on c.args.around.limit c.args.old.now c.node_at.new.old s.lines s.lines c.requires.since
                      c.node_at.ensures.same refl,
                  (
                    c.requires.opens,
                    (
                      set_on c.args.around.limit c.args.old.now c.node_at.new.old s.lines s.lines c.args.place
                          c.node_at.ensures.same refl c.node_at.ensures.ready c.requires.ready,
                      calmly_on NoneSettled c.args.around.limit c.args.old.now c.node_at.new.old s.lines s.lines
                          c.args.place c.node_at.ensures.same refl
                          (λ calm. none_settled s.lines c.args.around c.args.old.now.reader.tree
                          c.args.old.now.mapper calm c.args.place c.requires.place c.requires.opens
                          c.requires.around.room (set.outside calm) (c.node_at.ensures.none c.in-None.is)),
                    ),
                  ),
                ),
              ),
            ),
          ),
        ),
      ),
    )

pub next_at-returns-in-None-clause-went : goal.next_at-returns-in-None-clause-went
next_at-returns-in-None-clause-went g t c =
    let s = g.S.MarkSource.told c.args.source.now in
    went_on c.args.around.limit s s (g.S.MarkSource.told c.made_at.new.source) c.args.steps.now c.args.steps.now
    c.made_at.new.steps c.args.old.now c.node_at.new.old c.made_at.new.old
    (went_same c.args.around.limit s c.args.steps.now c.args.old.now c.node_at.new.old c.node_at.ensures.same)
    c.made_at.ensures.went

-- ---- a pair
pub pair_of-size_of-requires : goal.pair_of-size_of-requires
pair_of-size_of-requires g t c = some_columns _ _ _ c.requires.place c.requires.mark

pub pair_of-bracket-requires : goal.pair_of-bracket-requires
pair_of-bracket-requires g t c = some_size c.args.mark _ (some_columns _ _ _ c.requires.place c.requires.mark)
    c.size_of.ensures

pub pair_of-within-requires-clause-kind : goal.pair_of-within-requires-clause-kind
pair_of-within-requires-clause-kind g t c = kind_of_opener _ _ _ _ c.requires.place c.requires.mark c.requires.opener

pub pair_of-list_from-requires : goal.pair_of-list_from-requires
pair_of-list_from-requires g t c κs within =
    let s = g.S.MarkSource.told c.args.source.now in
    let ends = c.end_of.ensures in
    let falls = falls_within s.lines c.args.around c.within.result c.args.mark c.args.kind c.end_of.result
    c.requires.place c.requires.mark c.within.ensures ends (omega arith) (omega arith) in (
      omega (arith, c.decreases, falls),
      (
        within.0,
        (
          within.1,
          (
            around_within c.args.around c.within.result c.args.kind c.requires.around c.requires.room
                c.within.ensures,
            (
              mark_within s.lines c.args.around c.within.result c.args.mark c.args.kind c.end_of.result
                  c.requires.place c.requires.mark c.within.ensures ends,
              (
                subst (λ p. StandsAt s p) (sym ends) c.requires.stands,
                (
                  subst (λ n. IsSince n c.args.old.now s.lines) (sym c.within.ensures.limit) c.requires.since,
                  (
                    subst (λ p. IsOpenAt s.lines c.within.result p) (sym ends)
                        (open_within s.lines c.args.around c.within.result c.args.mark c.args.kind c.requires.opens
                        c.requires.mark c.requires.opener c.requires.room c.within.ensures),
                    subst (λ n. IsSet s.lines n c.args.old.now c.end_of.result) (sym c.within.ensures.limit)
                        (subst (λ p. IsSet s.lines c.args.around.limit c.args.old.now p) (sym ends) c.requires.ready),
                  ),
                ),
              ),
            ),
          ),
        ),
      ),
    )

pub pair_of-size_of-requires-in-Some : goal.pair_of-size_of-requires-in-Some
pair_of-size_of-requires-in-Some g t c =
    closer_some _ c.args.around c.within.result c.args.mark c.args.kind _ _ c.in_ok-inside.inside.stop _
    (g.S.MarkSource.told c.list_from.new.source) c.list_from.new.old c.requires.place c.within.ensures
    c.in_ok-inside.ensures.fills c.in_ok-inside.ensures.stops c.in-Some.ensures.some.0

pub pair_of-bracket-requires-in-Some : goal.pair_of-bracket-requires-in-Some
pair_of-bracket-requires-in-Some g t c = some_size c.in-Some.last _
    (closer_some _ c.args.around c.within.result c.args.mark c.args.kind _ _ c.in_ok-inside.inside.stop _
    (g.S.MarkSource.told c.list_from.new.source) c.list_from.new.old c.requires.place c.within.ensures
    c.in_ok-inside.ensures.fills c.in_ok-inside.ensures.stops c.in-Some.ensures.some.0) c.size_of-in-Some.ensures

pub pair_of-returns-in-Some-clause-next : goal.pair_of-returns-in-Some-clause-next
pair_of-returns-in-Some-clause-next g t c =
    closed_next (g.S.MarkSource.told c.args.source.now).lines c.args.around c.within.result c.args.mark c.args.kind
    c.end_of.result (or_nothing c.in_ok-inside.inside.tree.root) c.in_ok-node-in-Some.node c.in_ok-inside.inside.stop
    c.in-Some.last c.end_of-in-Some.result (g.S.MarkSource.told c.list_from.new.source) c.list_from.new.old
    c.requires.place c.requires.mark c.requires.room c.requires.opener c.within.ensures c.end_of.ensures
    c.in_ok-inside.ensures.fills c.in_ok-inside.ensures.stops c.in-Some.ensures.some (omega arith, omega arith)
    (pair_is c.in_ok-node-in-Some.node c.in_ok-opener.opener c.in_ok-closer-in-Some.closer c.as_ref.result
    c.in_ok-inside.inside.tree.root (size_of c.args.mark) c.args.kind
    (size_of c.in-Some.last) c.in_ok-node-in-Some.ensures
    (rw c.size_of.ensures at c.in_ok-opener.ensures) (rw c.size_of-in-Some.ensures at c.in_ok-closer-in-Some.ensures)
    c.as_ref.ensures.value) c.end_of-in-Some.ensures

pub pair_of-returns-clause-next : goal.pair_of-returns-clause-next
pair_of-returns-clause-next g t c =
    left_next (g.S.MarkSource.told c.args.source.now).lines c.args.around c.within.result c.args.mark c.args.kind
    c.end_of.result (or_nothing c.in_ok-inside.inside.tree.root) c.in_ok-node-in-None.node c.in_ok-inside.inside.stop
    (g.S.MarkSource.told c.list_from.new.source) c.list_from.new.old
    c.requires.place c.requires.mark c.requires.room c.requires.opener c.within.ensures c.end_of.ensures
    c.in_ok-inside.ensures.fills c.in_ok-inside.ensures.stops (c.closing.ensures.none c.in-None.is)
    c.requires.since.short (omega arith)
    (left_is c.in_ok-node-in-None.node c.in_ok-opener.opener c.as_ref-in-None.result
    c.in_ok-inside.inside.tree.root (size_of c.args.mark) c.args.kind c.in_ok-node-in-None.ensures
    (rw c.size_of.ensures at c.in_ok-opener.ensures) c.as_ref-in-None.ensures.value)

-- ---- a list
pub list_from-loop-nodes-init : goal.list_from-loop-nodes-init
list_from-loop-nodes-init g t c = record {
  gathered = rw c.new-nodes.ensures.items
      (gathered_first _ c.args.around c.args.from c.requires.place c.requires.around.room);
  stands = c.requires.stands;
  ready = c.requires.ready;
  went = went_none _ _ _ _;
}

pub list_from-next_at-requires : goal.list_from-next_at-requires
list_from-next_at-requires g t c κs within =
    let i = c.loop-nodes.invariant in
    let falls = going_falls c.args.around c.args.from (g.S.MarkSource.told c.args.source.now) c.args.steps.now c.args.old.now
    c.loop-nodes.nodes.items c.loop-nodes.place (g.S.MarkSource.told c.loop-nodes.source) c.loop-nodes.steps
    c.loop-nodes.old i (omega arith) in (
      omega (arith, c.decreases, falls),
      (
        within.0,
        (
          within.1,
          (
            c.requires.around,
            (
              going_in c.args.around c.args.from (g.S.MarkSource.told c.args.source.now) c.args.steps.now c.args.old.now
                  c.loop-nodes.nodes.items c.loop-nodes.place (g.S.MarkSource.told c.loop-nodes.source) c.loop-nodes.steps
                  c.loop-nodes.old i c.requires.place,
              (
                i.stands,
                (
                  going_since c.args.around c.args.from (g.S.MarkSource.told c.args.source.now) c.args.steps.now c.args.old.now
                      c.loop-nodes.nodes.items c.loop-nodes.place (g.S.MarkSource.told c.loop-nodes.source) c.loop-nodes.steps
                      c.loop-nodes.old i c.requires.since,
                  (
                    going_open c.args.around c.args.from (g.S.MarkSource.told c.args.source.now) c.args.steps.now
                        c.args.old.now c.loop-nodes.nodes.items c.loop-nodes.place
                        (g.S.MarkSource.told c.loop-nodes.source) c.loop-nodes.steps c.loop-nodes.old i c.requires.opens,
                    going_set c.args.around c.args.from (g.S.MarkSource.told c.args.source.now) c.args.steps.now
                        c.args.old.now c.loop-nodes.nodes.items c.loop-nodes.place
                        (g.S.MarkSource.told c.loop-nodes.source) c.loop-nodes.steps c.loop-nodes.old i,
                  ),
                ),
              ),
            ),
          ),
        ),
      ),
    )

pub list_from-loop-nodes-smaller : goal.list_from-loop-nodes-smaller
list_from-loop-nodes-smaller g t c =
    let n = rw c.in-Node.is at c.in_ok-node.ensures.next in
    let fits = going_fits c.args.around c.args.from (g.S.MarkSource.told c.args.source.now) c.args.steps.now c.args.old.now
    c.loop-nodes.nodes.items c.loop-nodes.place (g.S.MarkSource.told c.loop-nodes.source) c.loop-nodes.steps
    c.loop-nodes.old c.loop-nodes.invariant (omega arith, omega arith) in
    let to = adds_fit _ _ _ _ _ n.0 fits in
    let h = less_left c.args.around.end c.loop-nodes.place c.in-Node.behind fits.1 to.1 n.0.later n.0.up_to in
    omega (arith, h)

pub list_from-loop-nodes-preserved : goal.list_from-loop-nodes-preserved
list_from-loop-nodes-preserved g t c =
    going_more c.args.around c.args.from (g.S.MarkSource.told c.args.source.now) c.args.steps.now c.args.old.now
    c.loop-nodes.nodes.items c.loop-nodes.place (g.S.MarkSource.told c.loop-nodes.source) c.loop-nodes.steps
    c.loop-nodes.old c.loop-nodes.invariant c.push.new.self.items c.in-Node.node c.in-Node.behind
    (g.S.MarkSource.told c.next_at.new.source) c.next_at.new.steps c.next_at.new.old
    (rw c.in-Node.is at c.in_ok-node.ensures.next) c.in_ok-node.ensures.went c.in_ok-push-in-Node.ensures.items

pub list_from-tree_up_to-requires : goal.list_from-tree_up_to-requires
list_from-tree_up_to-requires g t c =
    let n = rw c.in-Last.is at c.in_ok-node.ensures.next in
    last_runs c.args.around c.args.from (g.S.MarkSource.told c.args.source.now) c.args.steps.now c.args.old.now
    c.loop-nodes.nodes.items c.loop-nodes.place (g.S.MarkSource.told c.loop-nodes.source) c.loop-nodes.steps
    c.loop-nodes.old c.loop-nodes.invariant c.deref.result.now c.in-Last.node c.in-Last.stop.at
    (omega arith, omega arith) n.0 (c.deref.ensures.value ∙ c.in_ok-push-in-Last.ensures.items)

pub list_from-returns-in-Last-clause-fills : goal.list_from-returns-in-Last-clause-fills
list_from-returns-in-Last-clause-fills g t c =
    let n = rw c.in-Last.is at c.in_ok-node.ensures.next in
    both_ok c.tree_up_to.result _ _ _
    (λ l leaves stop. subst (λ (x : Stop). Fills (g.S.MarkSource.told c.args.source.now).lines c.args.around c.args.from
    (or_nothing l.tree.root) x.at) (sym stop)
    (going_last c.args.around c.args.from (g.S.MarkSource.told c.args.source.now) c.args.steps.now c.args.old.now
    c.loop-nodes.nodes.items c.loop-nodes.place (g.S.MarkSource.told c.loop-nodes.source) c.loop-nodes.steps
    c.loop-nodes.old c.loop-nodes.invariant c.deref.result.now c.in-Last.node (or_nothing l.tree.root)
    c.in-Last.stop.at n.0 (c.deref.ensures.value ∙ c.in_ok-push-in-Last.ensures.items)
    (root_leaves l.tree.root ∙ leaves))) c.tree_up_to.ensures.leaves c.tree_up_to.ensures.stop

pub list_from-returns-in-Last-clause-stops : goal.list_from-returns-in-Last-clause-stops
list_from-returns-in-Last-clause-stops g t c =
    let n = rw c.in-Last.is at c.in_ok-node.ensures.next in
    IfOk-weaker c.tree_up_to.result _ _
    (λ l stop. subst (λ (x : Stop). IsStop (g.S.MarkSource.told c.args.source.now).lines c.args.around
    (g.S.MarkSource.told c.next_at.new.source) c.next_at.new.old x) (sym stop)
    (going_stop c.args.around c.args.from (g.S.MarkSource.told c.args.source.now) c.args.steps.now c.args.old.now
    c.loop-nodes.nodes.items c.loop-nodes.place (g.S.MarkSource.told c.loop-nodes.source) c.loop-nodes.steps
    c.loop-nodes.old c.loop-nodes.invariant _ _ _ n.1)) c.tree_up_to.ensures.stop

pub list_from-tree_up_to-requires-in-End : goal.list_from-tree_up_to-requires-in-End
list_from-tree_up_to-requires-in-End g t c =
    going_runs c.args.around c.args.from (g.S.MarkSource.told c.args.source.now) c.args.steps.now c.args.old.now
    c.loop-nodes.nodes.items c.loop-nodes.place (g.S.MarkSource.told c.loop-nodes.source) c.loop-nodes.steps
    c.loop-nodes.old c.loop-nodes.invariant c.deref-in-End.result.now (omega arith, omega arith)
    c.deref-in-End.ensures.value

pub list_from-returns-in-End-clause-fills : goal.list_from-returns-in-End-clause-fills
list_from-returns-in-End-clause-fills g t c =
    let n = rw c.in-End.is at c.in_ok-node.ensures.next in
    both_ok c.tree_up_to-in-End.result _ _ _
    (λ l leaves stop. subst (λ (x : Stop). Fills (g.S.MarkSource.told c.args.source.now).lines c.args.around c.args.from
    (or_nothing l.tree.root) x.at) (sym stop)
    (going_end c.args.around c.args.from (g.S.MarkSource.told c.args.source.now) c.args.steps.now c.args.old.now
    c.loop-nodes.nodes.items c.loop-nodes.place (g.S.MarkSource.told c.loop-nodes.source) c.loop-nodes.steps
    c.loop-nodes.old c.loop-nodes.invariant c.deref-in-End.result.now (or_nothing l.tree.root)
    c.in-End.stop.at n.0 c.deref-in-End.ensures.value
    (root_leaves l.tree.root ∙ leaves))) c.tree_up_to-in-End.ensures.leaves c.tree_up_to-in-End.ensures.stop

pub list_from-returns-in-End-clause-stops : goal.list_from-returns-in-End-clause-stops
list_from-returns-in-End-clause-stops g t c =
    let n = rw c.in-End.is at c.in_ok-node.ensures.next in
    IfOk-weaker c.tree_up_to-in-End.result _ _
    (λ l stop. subst (λ (x : Stop). IsStop (g.S.MarkSource.told c.args.source.now).lines c.args.around
    (g.S.MarkSource.told c.next_at.new.source) c.next_at.new.old x) (sym stop)
    (going_stop c.args.around c.args.from (g.S.MarkSource.told c.args.source.now) c.args.steps.now c.args.old.now
    c.loop-nodes.nodes.items c.loop-nodes.place (g.S.MarkSource.told c.loop-nodes.source) c.loop-nodes.steps
    c.loop-nodes.old c.loop-nodes.invariant _ _ _ n.1)) c.tree_up_to-in-End.ensures.stop

-- ---- what was read
pub list_from-returns-in_err-node-clause-went : goal.list_from-returns-in_err-node-clause-went
list_from-returns-in_err-node-clause-went g t c =
    went_on c.args.around.limit (g.S.MarkSource.told c.args.source.now) (g.S.MarkSource.told c.loop-nodes.source)
    (g.S.MarkSource.told c.next_at.new.source) c.args.steps.now c.loop-nodes.steps c.next_at.new.steps
    c.args.old.now c.loop-nodes.old c.next_at.new.old c.loop-nodes.invariant.went c.next_at.ensures.went

pub list_from-returns-in_err-push-in-Node-clause-went : goal.list_from-returns-in_err-push-in-Node-clause-went
list_from-returns-in_err-push-in-Node-clause-went g t c =
    went_on c.args.around.limit (g.S.MarkSource.told c.args.source.now) (g.S.MarkSource.told c.loop-nodes.source)
    (g.S.MarkSource.told c.next_at.new.source) c.args.steps.now c.loop-nodes.steps c.next_at.new.steps
    c.args.old.now c.loop-nodes.old c.next_at.new.old c.loop-nodes.invariant.went c.next_at.ensures.went

pub list_from-returns-in_err-push-in-Last-clause-went : goal.list_from-returns-in_err-push-in-Last-clause-went
list_from-returns-in_err-push-in-Last-clause-went g t c =
    went_on c.args.around.limit (g.S.MarkSource.told c.args.source.now) (g.S.MarkSource.told c.loop-nodes.source)
    (g.S.MarkSource.told c.next_at.new.source) c.args.steps.now c.loop-nodes.steps c.next_at.new.steps
    c.args.old.now c.loop-nodes.old c.next_at.new.old c.loop-nodes.invariant.went c.next_at.ensures.went

pub list_from-returns-in-Last-clause-went : goal.list_from-returns-in-Last-clause-went
list_from-returns-in-Last-clause-went g t c =
    went_on c.args.around.limit (g.S.MarkSource.told c.args.source.now) (g.S.MarkSource.told c.loop-nodes.source)
    (g.S.MarkSource.told c.next_at.new.source) c.args.steps.now c.loop-nodes.steps c.next_at.new.steps
    c.args.old.now c.loop-nodes.old c.next_at.new.old c.loop-nodes.invariant.went c.next_at.ensures.went

pub list_from-returns-in-End-clause-went : goal.list_from-returns-in-End-clause-went
list_from-returns-in-End-clause-went g t c =
    went_on c.args.around.limit (g.S.MarkSource.told c.args.source.now) (g.S.MarkSource.told c.loop-nodes.source)
    (g.S.MarkSource.told c.next_at.new.source) c.args.steps.now c.loop-nodes.steps c.next_at.new.steps
    c.args.old.now c.loop-nodes.old c.next_at.new.old c.loop-nodes.invariant.went c.next_at.ensures.went
