-- Paths from a root to a node.
use Rattle.std.proofs.Common.{◌≡◌, ℕ, ◌+◌, ◌<◌, ◌≤◌, List, [], ◌∷◌, ◌++◌, length, reverse, slice_get, true, Some, refl, sym, ap}
use Rattle.std.proofs.Common.{◌∙◌, subst, arith}
use Rattle.std.proofs.lemmas.List.{reverse-append, length-reverse}
use Rattle.text_pos.specs.declared.length.Length.{Length}
use Rattle.text_pos.specs.Lengths.{plus}
use Rattle.tree_defs.specs.Tree.{Tree}
use Rattle.tree_defs.specs.Shape.{length_of, Fits, IsSome}
use Rattle.tree_defs.proofs.Lengths.{plus_assoc}
use Rattle.node_reader.specs.Starts.{starting}
use Rattle.node_reader.specs.Parts.{levels, parts_of, front}
use Rattle.node_reader.specs.Paths.{node_of, from_step, IsPath, root_by, offset_by}
use Rattle.node_reader.specs.declared.place.Step.{Step}
use Rattle.node_reader.proofs.Orders.{fits_behind, is_less, some_is, is_to_some, some_before, some_behind}
use Rattle.node_reader.proofs.Children.{inner, within_node}

-- what starts at the offset in the root is what starts there in the node, if the offset lies in that
pub along : (ss : List Step) (t : Tree) (rest : Length) → IsPath ss t rest → is_less rest (length_of t) ≡ true
    → starting (root_by ss t) (offset_by ss rest) ≡ starting t rest
along [] t rest path h = refl
along (s ∷ ss) t rest path h =
    along ss (node_of s) (from_step s rest) path.3 (within_node (node_of s) s.part t rest path.0 h)
    ∙ inner (node_of s) s.part t rest path.0 h (some_behind (front s.part (node_of s)) rest (some_is rest path.2))

-- ---- the offset goes on
on_step : (s : Step) (rest by : Length) → from_step s (plus rest by) ≡ plus (from_step s rest) by
on_step s rest by = sym (plus_assoc (front s.part (node_of s)) rest by)

pub path_on : (ss : List Step) (t : Tree) (rest by : Length) → IsPath ss t rest → IsPath ss t (plus rest by)
path_on [] t rest by path = tt
path_on (s ∷ ss) t rest by path = (
  path.0,
  path.1,
  is_to_some (plus rest by) (some_before rest by (some_is rest path.2)),
  subst (λ o. IsPath ss (node_of s) o) (sym (on_step s rest by)) (path_on ss (node_of s) (from_step s rest) by path.3),
)

pub offset_on : (ss : List Step) (rest by : Length) → offset_by ss (plus rest by) ≡ plus (offset_by ss rest) by
offset_on [] rest by = refl
offset_on (s ∷ ss) rest by = ap (λ o. offset_by ss o) (on_step s rest by) ∙ offset_on ss (from_step s rest) by

-- ---- numbers
pub rest_fits : (ss : List Step) (rest : Length) → Fits (offset_by ss rest) → Fits rest
rest_fits [] rest fits = fits
rest_fits (s ∷ ss) rest fits = fits_behind (front s.part (node_of s)) rest (rest_fits ss (from_step s rest) fits)

pub room_left : (ss : List Step) (t : Tree) (rest : Length) → IsPath ss t rest
    → length ss + levels t ≤ levels (root_by ss t)
room_left [] t rest path = omega arith
room_left (s ∷ ss) t rest path =
    let up = room_left ss (node_of s) (from_step s rest) path.3 in let low = path.1 in omega (arith, up, low)

-- ---- the last step
pub back : (xs : List Step) (x : Step) → reverse (xs ++ x ∷ []) ≡ x ∷ reverse xs
back xs x = reverse-append xs (x ∷ [])

-- up by the last step
pub up : (xs ys : List Step) (s : Step) (above t : Tree) (rest more : Length) → xs ≡ ys ++ s ∷ [] → node_of s ≡ above
    → more ≡ plus (front s.part above) rest → IsPath (reverse xs) t rest
    → IsPath (reverse ys) above more × (root_by (reverse ys) above ≡ root_by (reverse xs) t)
    × (offset_by (reverse ys) more ≡ offset_by (reverse xs) rest)
up xs ys s above t rest more are is lies path =
    let e : reverse xs ≡ s ∷ reverse ys = ap (λ l. reverse l) are ∙ back ys s in
    let w : IsPath (s ∷ reverse ys) t rest = subst (λ l. IsPath l t rest) e path in
    let r : from_step s rest ≡ more = ap (λ x. plus (front s.part x) rest) is ∙ sym lies in (
      subst (λ o. IsPath (reverse ys) above o) r (subst (λ x. IsPath (reverse ys) x (from_step s rest)) is w.3),
      ap (λ x. root_by (reverse ys) x) (sym is) ∙ ap (λ l. root_by l t) (sym e),
      ap (λ o. offset_by (reverse ys) o) (sym r) ∙ ap (λ l. offset_by l rest) (sym e),
    )

pub up_fits : (xs ys : List Step) (s : Step) (above : Tree) (rest : Length) → xs ≡ ys ++ s ∷ [] → node_of s ≡ above
    → Fits (offset_by (reverse xs) rest) → Fits (plus (front s.part above) rest)
up_fits xs ys s above rest are is fits =
    let e : reverse xs ≡ s ∷ reverse ys = ap (λ l. reverse l) are ∙ back ys s in
    subst (λ x. Fits (plus (front s.part x) rest)) is
    (rest_fits (reverse ys) (from_step s rest) (subst (λ l. Fits (offset_by l rest)) e fits))

-- down by one step
pub down : (xs ys : List Step) (s : Step) (t p : Tree) (rest less : Length) → ys ≡ xs ++ s ∷ [] → node_of s ≡ t
    → slice_get (parts_of t) s.part ≡ Some p → levels p < levels t → IsSome less → plus (front s.part t) less ≡ rest
    → IsPath (reverse xs) t rest
    → IsPath (reverse ys) p less × (root_by (reverse ys) p ≡ root_by (reverse xs) t)
    × (offset_by (reverse ys) less ≡ offset_by (reverse xs) rest)
down xs ys s t p rest less are is part low some lies path =
    let e : reverse ys ≡ s ∷ reverse xs = ap (λ l. reverse l) are ∙ back xs s in
    let r : from_step s less ≡ rest = ap (λ x. plus (front s.part x) less) is ∙ lies in
    let w : IsPath (s ∷ reverse xs) p less = (
      subst (λ x. slice_get (parts_of x) s.part ≡ Some p) (sym is) part,
      subst (λ x. levels p < levels x) (sym is) low,
      some,
      subst (λ x. IsPath (reverse xs) x (from_step s less)) (sym is) (subst (λ o. IsPath (reverse xs) t o) (sym r) path),
    ) in (
      subst (λ l. IsPath l p less) (sym e) w,
      ap (λ l. root_by l p) e ∙ ap (λ x. root_by (reverse xs) x) is,
      ap (λ l. offset_by l less) e ∙ ap (λ o. offset_by (reverse xs) o) r,
    )

-- there is room for a step
pub room_for : (xs : List Step) (t p : Tree) (rest : Length) (room : ℕ) → IsPath (reverse xs) t rest
    → levels p < levels t → levels (root_by (reverse xs) t) ≤ room → length xs + 1 ≤ room
room_for xs t p rest room path low most =
    let left = room_left (reverse xs) t rest path in let same = length-reverse xs in
    omega (arith, left, same, low, most)
