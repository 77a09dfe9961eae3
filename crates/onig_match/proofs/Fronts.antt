-- What stands behind the end of a list.
use Rattle.std.proofs.Common.{◌≡◌, ◌-◌, ◌<◌, ◌≤◌, List, [], length, drop, refl, ◌∙◌, arith}
use Rattle.std.specs.Prelude.{Some, slice_get}
use Rattle.std.proofs.lemmas.List.{drop_all}
use Rattle.pattern_defs.specs.declared.nodes.PatNode.{PatNode}
use Rattle.pattern_defs.specs.Patterns.{NodeLists, nodes_of}
use Rattle.onig_match.specs.declared.cells.Rest.{Rest}
use Rattle.onig_match.specs.declared.cells.Cell.{Cell}
use Rattle.onig_match.specs.declared.area.Area.{Area}
use Rattle.onig_match.specs.declared.searched.Searched.{Searched}
use Rattle.onig_match.specs.Machine.{chain, todo_of, cell_todo}
use Rattle.onig_match.specs.Sound.{IsRest, IsCell, IsSound}
use Rattle.onig_match.proofs.Carries.{chain-zero}
use Rattle.onig_match.proofs.Steps.{IsRead, cell_at}

past : (lists : NodeLists) (cells : List Cell) (rest : Rest) (nodes : List PatNode) →
    nodes ≡ nodes_of lists rest.list → length nodes ≤ rest.index →
    todo_of lists cells rest ≡ chain lists cells rest.next
past lists cells rest nodes e h =
    let none : ◌≡◌ {A = List PatNode} (drop rest.index (nodes_of lists rest.list)) [] =
    drop_all rest.index (nodes_of lists rest.list) (rw (← e) h) in
    rw none refl

pub exhausted : (on : Searched) (area : Area) (rest : Rest) (nodes : List PatNode) →
    nodes ≡ nodes_of on.pattern.now.lists rest.list → length nodes ≤ rest.index → rest.next ≡ 0 →
    todo_of on.pattern.now.lists area.cells.items rest ≡ []
exhausted on area rest nodes e h zero = past on.pattern.now.lists area.cells.items rest nodes e h
    ∙ rw zero (chain-zero on.pattern.now.lists area.cells.items)

-- the rest goes on with a cell
pub record Passes (on : Searched) (area : Area) (rest : Rest) (cell : Cell) : Type 0 where
  pub todo : todo_of on.pattern.now.lists area.cells.items rest ≡ cell_todo on.pattern.now.lists area.cells.items cell
  pub is : IsCell on.pattern.now (length on.text.now) (rest.next - 1) cell
  pub above : 0 < rest.next
  pub reach : rest.next ≤ length area.cells.items
  pub low : rest.next - 1 ≤ length area.cells.items

pub passes : (on : Searched) (area : Area) (rest : Rest) (nodes : List PatNode) (cell : Cell) → IsSound on area →
    IsRest on.pattern.now (length area.cells.items) rest → nodes ≡ nodes_of on.pattern.now.lists rest.list →
    length nodes ≤ rest.index → (rest.next ≡ 0 → ⊥) →
    slice_get area.cells.items (length area.cells.items - rest.next) ≡ Some cell → Passes on area rest cell
passes on area rest nodes cell sound inside e h some read =
    let reach : rest.next ≤ length area.cells.items = inside.next in
    let above : 0 < rest.next = omega (arith, some) in
    let stands : IsRead on.pattern.now.lists on.pattern.now (length on.text.now) area.cells.items rest.next cell =
    cell_at on.pattern.now.lists on.pattern.now (length on.text.now) area.cells.items rest.next cell sound.cells above
    reach read in
    record {
      todo = past on.pattern.now.lists area.cells.items rest nodes e h ∙ stands.stands;
      is = stands.is;
      above = above;
      reach = reach;
      low = omega arith;
    }
