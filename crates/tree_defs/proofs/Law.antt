-- The reuse law.
use Rattle.std.proofs.Common.{◌≤◌, max, ◌++◌, length}
use Rattle.std.proofs.Common.{refl, ap, ◌∙◌, subst, arith}
use Rattle.pairing_defs.specs.Pairing.{placed_from, nothing_open}
use Rattle.tree_defs.specs.Tree.{depth, Passes}
use Rattle.tree_defs.specs.Items.{end, items_of, depth_of, Stands}
use Rattle.tree_defs.specs.Reuse.{Walked, AreRead, ReuseLaw}
use Rattle.tree_defs.proofs.Walk.{walks}
use Rattle.tree_defs.proofs.Relevel.{relevels}
use Rattle.tree_defs.proofs.Raise.{raised_walk}
use Rattle.tree_defs.proofs.Opened.{depth_then, cut_then, clear_of, reused_shut, passes_of}

pub reuse_law : ReuseLaw
reuse_law limit level above t at ms s stands among can =
    let p : Passes above (length s.entries) limit t = passes_of above (length s.entries) limit t can in
    let flat : depth_of (items_of t) ≤ max (depth t) 0 = depth_then t end in
    let shallow = p.shallow in
    let here : Stands limit (length s.entries) (items_of t) at ms =
    relevels limit (items_of t) level (length s.entries) at ms (cut_then t end p.uncut refl) (omega arith) stands in
    let w : Walked limit (items_of t) at ms s =
    walks limit (items_of t) at ms s here (clear_of above t s.entries p.apart among) in
    let bare : Stands limit 0 (items_of t) at ms =
    relevels limit (items_of t) level 0 at ms (cut_then t end p.uncut refl) (omega arith) stands in
    let own : Walked limit (items_of t) at ms nothing_open = walks limit (items_of t) at ms nothing_open bare tt in
    record {
      alone = own.placed;
      entries = w.entries ∙ ap (λ es. es ++ s.entries) (reused_shut above (length s.entries) limit t can s.rows);
      rows = w.rows;
      placed = subst (λ rs. AreRead (placed_from limit s ms) rs) (raised_walk (items_of t) at s) w.placed;
    }
