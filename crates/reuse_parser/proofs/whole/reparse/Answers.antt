use Rattle.std.proofs.Common.{refl, ap, arith}
use Rattle.bracket_ast.specs.Shapes.{or_nothing}
use Rattle.reuse_parser.specs.declared.place.Around.{Around}
use Rattle.reuse_parser.proofs.Sources.{sound_is_even}
use Rattle.reuse_parser.proofs.Renewed.{IsWhole, whole_in, whole_stop, whole_stands, last_is, seeks, few_steps, few_given}
use Rattle.reuse_parser.proofs.Renewed.{fresh_rises, fresh_given, rises_on}
use Rattle.reuse_parser.proofs.OpenAt.{open_first}
use Rattle.node_reader.specs.Reading.{Reading}
use Rattle.reuse_parser.proofs.whole.reparse.Goals as goal

pub returns-in_err-listed-clause-few : goal.returns-in_err-listed-clause-few
returns-in_err-listed-clause-few g c =
    few_steps c.args.limit (g.S.MarkSource.told c.args.source.now) (g.S.MarkSource.told c.list_from.new.source) c.args.marks.now
    c.list_from.new.steps _ _ c.end_of-end.ensures.marked c.requires.begin c.list_from.ensures.went

pub returns-in_err-listed-clause-few_given : goal.returns-in_err-listed-clause-few_given
returns-in_err-listed-clause-few_given g c =
    few_given c.args.limit (g.S.MarkSource.told c.args.source.now) (g.S.MarkSource.told c.list_from.new.source) c.args.marks.now
    c.list_from.new.steps _ _ c.end_of-end.ensures.marked c.requires.begin c.list_from.ensures.went

pub seek-requires : goal.seek-requires
seek-requires g c =
    let s = g.S.MarkSource.told c.args.source.now in
    let u = g.S.MarkSource.told c.list_from.new.source in
    let a : Around = record { above = c.empty.result; level = 0; limit = c.args.limit; end = c.length_to.result } in
    let last = last_is c.length_to.result c.end_of-end.result s.lines c.length_to.ensures.lines
    c.length_to.ensures.cols c.end_of-end.ensures.end in
    let w : IsWhole s.lines c.length_to.result u c.in_ok-listed.listed.stop.at =
    whole_stop s.lines a u c.list_from.new.old c.in_ok-listed.listed.stop c.empty.ensures
    c.in_ok-listed.ensures.stops in
    seeks s.lines c.length_to.result u c.in_ok-listed.listed.stop.at c.end_of-end.result w last
    c.end_of-end.ensures.end

pub returns-clause-stands : goal.returns-clause-stands
returns-clause-stands g c =
    let s = g.S.MarkSource.told c.args.source.now in
    let u = g.S.MarkSource.told c.list_from.new.source in
    let a : Around = record { above = c.empty.result; level = 0; limit = c.args.limit; end = c.length_to.result } in
    let last = last_is c.length_to.result c.end_of-end.result s.lines c.length_to.ensures.lines
    c.length_to.ensures.cols c.end_of-end.ensures.end in
    let w : IsWhole s.lines c.length_to.result u c.in_ok-listed.listed.stop.at =
    whole_stop s.lines a u c.list_from.new.old c.in_ok-listed.listed.stop c.empty.ensures
    c.in_ok-listed.ensures.stops in
    rw c.known-tree.ensures.same (whole_stands c.empty.result c.args.limit c.length_to.result
    (or_nothing c.in_ok-listed.listed.tree.root) c.in_ok-listed.listed.stop.at s.lines
    (whole_in s.lines a c.end_of-end.ensures.marked c.requires.lines last) c.requires.short (omega arith)
    c.in_ok-listed.ensures.fills w.ends w.none (sound_is_even _ c.known-tree.ensures.sound))

pub returns-clause-few : goal.returns-clause-few
returns-clause-few g c =
    few_steps c.args.limit (g.S.MarkSource.told c.args.source.now) (g.S.MarkSource.told c.list_from.new.source) c.args.marks.now
    c.list_from.new.steps _ _ c.end_of-end.ensures.marked c.requires.begin c.list_from.ensures.went

pub returns-clause-few_given : goal.returns-clause-few_given
returns-clause-few_given g c =
    let few = few_given c.args.limit (g.S.MarkSource.told c.args.source.now) (g.S.MarkSource.told c.list_from.new.source)
    c.args.marks.now c.list_from.new.steps _ _ c.end_of-end.ensures.marked c.requires.begin c.list_from.ensures.went in
    let same = ap (λ v. v.given) c.seek.ensures in omega (arith, few, same)

pub list_from-requires-clause-opens : goal.list_from-requires-clause-opens
list_from-requires-clause-opens g c =
    open_first (g.S.MarkSource.told c.args.source.now).lines
    (record { above = c.empty.result; level = 0; limit = c.args.limit; end = c.length_to.result })
    c.end_of-end.ensures.marked refl

pub returns-in_err-listed-clause-fresh : goal.returns-in_err-listed-clause-fresh
returns-in_err-listed-clause-fresh g c =
    rises_on c.args.limit _ (or_nothing c.args.old.now.root) _ c.args.changes.now
    (g.S.MarkSource.told c.args.source.now).lines c.args.marks.now
    c.list_from.new.steps
    (ap (λ (r : Reading). r.tree) c.in_ok-new.ensures) c.new.ensures
    (fresh_rises c.args.limit (g.S.MarkSource.told c.args.source.now) (g.S.MarkSource.told c.list_from.new.source)
    c.args.marks.now c.list_from.new.steps _ _ c.end_of-end.ensures.marked c.requires.begin c.list_from.ensures.went)

pub returns-in_err-listed-clause-fresh_given : goal.returns-in_err-listed-clause-fresh_given
returns-in_err-listed-clause-fresh_given g c =
    rises_on c.args.limit _ (or_nothing c.args.old.now.root) _ c.args.changes.now
    (g.S.MarkSource.told c.args.source.now).lines (g.S.MarkSource.told c.args.source.now).given
    (g.S.MarkSource.told c.list_from.new.source).given
    (ap (λ (r : Reading). r.tree) c.in_ok-new.ensures) c.new.ensures
    (fresh_given c.args.limit (g.S.MarkSource.told c.args.source.now) (g.S.MarkSource.told c.list_from.new.source)
    c.args.marks.now c.list_from.new.steps _ _ c.end_of-end.ensures.marked c.requires.begin c.list_from.ensures.went)

pub returns-clause-fresh : goal.returns-clause-fresh
returns-clause-fresh g c =
    rises_on c.args.limit _ (or_nothing c.args.old.now.root) _ c.args.changes.now
    (g.S.MarkSource.told c.args.source.now).lines c.args.marks.now
    c.list_from.new.steps
    (ap (λ (r : Reading). r.tree) c.in_ok-new.ensures) c.new.ensures
    (fresh_rises c.args.limit (g.S.MarkSource.told c.args.source.now) (g.S.MarkSource.told c.list_from.new.source)
    c.args.marks.now c.list_from.new.steps _ _ c.end_of-end.ensures.marked c.requires.begin c.list_from.ensures.went)

pub returns-clause-fresh_given : goal.returns-clause-fresh_given
returns-clause-fresh_given g c = λ since paired uncut.
    let few = rises_on c.args.limit _ (or_nothing c.args.old.now.root) _ c.args.changes.now
    (g.S.MarkSource.told c.args.source.now).lines (g.S.MarkSource.told c.args.source.now).given
    (g.S.MarkSource.told c.list_from.new.source).given
    (ap (λ (r : Reading). r.tree) c.in_ok-new.ensures) c.new.ensures
    (fresh_given c.args.limit (g.S.MarkSource.told c.args.source.now) (g.S.MarkSource.told c.list_from.new.source)
    c.args.marks.now c.list_from.new.steps _ _ c.end_of-end.ensures.marked c.requires.begin c.list_from.ensures.went)
    since paired uncut in
    let same = ap (λ v. v.given) c.seek.ensures in omega (arith, few, same)
