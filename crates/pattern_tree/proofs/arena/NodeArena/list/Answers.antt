use Rattle.std.proofs.Common.{◌≡◌, ◌<◌, length, ap, arith}
use Rattle.pattern_tree.proofs.ArenaLemmas.{IsPart-read, is_number}
use Rattle.pattern_tree.proofs.arena.NodeArena.list.Goals as goal

pub begin_of-begin-requires : goal.begin_of-begin-requires
begin_of-begin-requires c =
    let there : c.args.id.0 < length c.self.inside.ends.items =
    is_number c.self.inside.nodes.items _ _ _ c.self.view_is c.requires in
    rw c.deref.ensures.value (omega arith)

pub index-end-requires : goal.index-end-requires
index-end-requires c =
    let there : c.args.id.0 < length c.self.inside.ends.items =
    is_number c.self.inside.nodes.items _ _ _ c.self.view_is c.requires in
    let same : length c.deref.result.now ≡ length c.self.inside.ends.items = ap length c.deref.ensures.value in
    omega (arith, c.deref.ensures.len)

pub slice_bounds-result-count : goal.slice_bounds-result-count
slice_bounds-result-count c =
    (IsPart-read c.self.inside.nodes.items c.self.inside.ends.items _ _ _ _ _ c.self.invariant.ends c.self.view_is
    c.requires c.deref.ensures.value c.begin_of-begin.ensures c.index-end.ensures).order

pub slice_bounds-result-start : goal.slice_bounds-result-start
slice_bounds-result-start c = slice_bounds-result-count c

pub slice_bounds-result-end : goal.slice_bounds-result-end
slice_bounds-result-end c =
    rw c.as_slice.ensures.value
    (IsPart-read c.self.inside.nodes.items c.self.inside.ends.items _ _ _ _ _ c.self.invariant.ends c.self.view_is
    c.requires c.deref.ensures.value c.begin_of-begin.ensures c.index-end.ensures).inside

pub returns : goal.returns
returns c =
    rw c.as_slice.ensures.value
    (IsPart-read c.self.inside.nodes.items c.self.inside.ends.items _ _ _ _ _ c.self.invariant.ends c.self.view_is
    c.requires c.deref.ensures.value c.begin_of-begin.ensures c.index-end.ensures).is
