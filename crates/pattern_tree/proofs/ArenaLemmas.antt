-- The parts of a list of nodes, one behind another.
use Rattle.std.proofs.Common.{◌≡◌, ℕ, zero, suc, ◌+◌, ◌-◌, ◌<◌, ◌≤◌, List, [], ◌∷◌, ◌++◌, length, get_or, drop, refl}
use Rattle.std.proofs.Common.{sym, ap, ◌∙◌, arith, length-drop}
use Rattle.std.proofs.lemmas.List.{take-append-le, drop-append-le, drop_at, length-take-le, get_or_default}
use Rattle.std.proofs.lemmas.List.Sums.{sum_by-cons}
use Rattle.std.proofs.Math.Seq.{take-length}
use Rattle.std.specs.Prelude.{slice_get, slice_index, slice_range, unwrap_or}
use Rattle.std.specs.List.{sum_by}
use Rattle.pattern_defs.specs.declared.nodes.PatNode.{PatNode}
use Rattle.pattern_defs.specs.Patterns.{NodeLists}
use Rattle.pattern_tree.specs.Arena.{parts, AreEnds}

pub length-parts : (nodes : List PatNode) (from : ℕ) (ends : List ℕ) → length (parts nodes from ends) ≡ length ends
length-parts nodes from [] = refl
length-parts nodes from (end ∷ ends) = ap suc (length-parts nodes end ends)

from-le : (from : ℕ) (ends : List ℕ) (all : ℕ) → AreEnds from ends all → from ≤ all
from-le from [] all are = omega arith
from-le from (end ∷ ends) all are = let more : end ≤ all = from-le end ends all are.1 in let here : from ≤ end =
    are.0 in omega arith

part_bounds : (from : ℕ) (ends : List ℕ) (all k : ℕ) → AreEnds from ends all → k < length ends
    → (slice_index (from ∷ ends) k ≤ slice_index ends k) × (slice_index ends k ≤ all)
part_bounds from [] all k are h = absurd (omega arith)
part_bounds from (end ∷ ends) all zero are h = (are.0, from-le end ends all are.1)
part_bounds from (end ∷ ends) all (suc k) are h = part_bounds end ends all k are.1 (omega arith)

nodes_of-part : (nodes : List PatNode) (from : ℕ) (ends : List ℕ) (k : ℕ) → k < length ends
    → unwrap_or (slice_get (parts nodes from ends) k) []
    ≡ slice_range nodes (slice_index (from ∷ ends) k) (slice_index ends k)
nodes_of-part nodes from [] k h = absurd (omega arith)
nodes_of-part nodes from (end ∷ ends) zero h = refl
nodes_of-part nodes from (end ∷ ends) (suc k) h = nodes_of-part nodes end ends k (omega arith)

-- a list is what stands between two places
pub record IsPart (nodes : List PatNode) (lists : NodeLists) (k begin end : ℕ) : Type 0 where
  pub order : begin ≤ end
  pub inside : end ≤ length nodes
  pub is : slice_range nodes begin end ≡ unwrap_or (slice_get lists k) []

pub is_number : (nodes : List PatNode) (ends : List ℕ) (lists : NodeLists) (k : ℕ) → parts nodes 0 ends ≡ lists
    → k < length lists → k < length ends
is_number nodes ends lists k e h = let same : length (parts nodes 0 ends) ≡ length lists =
    ap length e in omega (arith, length-parts nodes 0 ends)

-- the same of a list whose bounds were read
pub IsPart-read : (nodes : List PatNode) (ends seen : List ℕ) (lists : NodeLists) (k begin end : ℕ)
    → AreEnds 0 ends (length nodes) → parts nodes 0 ends ≡ lists → k < length lists → seen ≡ ends → begin
    ≡ slice_index (0 ∷ seen) k → end ≡ get_or ends k end → IsPart nodes lists k begin end
IsPart-read nodes ends seen lists k begin end are e h same begin_read end_read =
    let begin_is : begin ≡ slice_index (0 ∷ ends) k = begin_read ∙ ap (λ read. slice_index (0 ∷ read) k) same in
    let there : k < length ends = is_number nodes ends lists k e h in
    let end_is : end ≡ slice_index ends k = end_read ∙ get_or_default ends k end 0 there in
    let bounds : (slice_index (0 ∷ ends) k ≤ slice_index ends k) × (slice_index ends k ≤ length nodes) =
    part_bounds 0 ends (length nodes) k are there in
    record {
      order = rw (begin_is, end_is) bounds.0;
      inside = rw end_is bounds.1;
      is = rw (begin_is, end_is, ← e) (sym (nodes_of-part nodes 0 ends k there));
    }

length-range : (nodes : List PatNode) (from to : ℕ) → from ≤ to → to ≤ length nodes
    → length (slice_range nodes from to) ≡ to - from
length-range nodes from to order inside =
    let rest : length (drop from nodes) ≡ length nodes - from = length-drop from nodes in
    length-take-le (to - from) (drop from nodes) (omega arith)

pub sum_by-parts : (nodes : List PatNode) (from : ℕ) (ends : List ℕ) → AreEnds from ends (length nodes)
    → from + sum_by length (parts nodes from ends) ≡ length nodes
sum_by-parts nodes from [] are = omega arith
sum_by-parts nodes from (end ∷ ends) are =
    let order : from ≤ end = are.0 in
    let inside : end ≤ length nodes = from-le end ends (length nodes) are.1 in
    let first : length (slice_range nodes from end) ≡ end - from = length-range nodes from end order inside in
    let others : end + sum_by length (parts nodes end ends) ≡ length nodes = sum_by-parts nodes end ends are.1 in
    omega (arith, sum_by-cons length (slice_range nodes from end) (parts nodes end ends))

pub AreEnds-push : (from : ℕ) (ends : List ℕ) (all more : ℕ) → AreEnds from ends all → all ≤ more
    → AreEnds from (ends ++ more ∷ []) more
AreEnds-push from [] all more are h = (omega arith, refl)
AreEnds-push from (end ∷ ends) all more are h = (are.0, AreEnds-push end ends all more are.1 h)

range-append : (nodes new : List PatNode) (from to : ℕ) → from ≤ to → to ≤ length nodes
    → slice_range (nodes ++ new) from to ≡ slice_range nodes from to
range-append nodes new from to order inside =
    let low : from ≤ length nodes = omega arith in
    let rest : length (drop from nodes) ≡ length nodes - from = length-drop from nodes in
    let enough : to - from ≤ length (drop from nodes) = omega arith in
    rw (drop-append-le from nodes new low, take-append-le (to - from) (drop from nodes) new enough)

range-new : (nodes new : List PatNode) (from to : ℕ) → from ≡ length nodes → to ≡ length nodes + length new
    → slice_range (nodes ++ new) from to ≡ new
range-new nodes new from to low high =
    let count : to - from ≡ length new = omega arith in
    rw (drop_at nodes new from (sym low), count, take-length new)

-- nodes more, as a list more
pub parts-push : (nodes new : List PatNode) (from : ℕ) (ends : List ℕ) (to : ℕ) → AreEnds from ends (length nodes)
    → to ≡ length nodes + length new → parts (nodes ++ new) from (ends ++ to ∷ []) ≡ parts nodes from ends ++ new ∷ []
parts-push nodes new from [] to are high = ap (λ first. first ∷ []) (range-new nodes new from to are high)
parts-push nodes new from (end ∷ ends) to are high =
    rw (
      range-append nodes new from end are.0 (from-le end ends (length nodes) are.1),
      parts-push nodes new end ends
          to are.1 high,
    )
