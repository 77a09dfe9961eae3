-- A flat pattern takes at most a visit for each of its nodes and two more.
use Rattle.std.proofs.Common.{◌≡◌, ℕ, zero, suc, ◌+◌, ◌*◌, ◌<◌, ◌≤◌, List, [], ◌∷◌, ◌++◌, length, map, drop}
use Rattle.std.proofs.Common.{replicate, refl, sym, subst, ◌∙◌, arith}
use Rattle.std.specs.Prelude.{Bool, true, false, ◌&&◌, IsTrue, sum_by, None, unwrap_or, slice_get}
use Rattle.std.specs.List.{list_all}
use Rattle.std.proofs.lemmas.List.Sums.{sum_by-cons}
use Rattle.pattern_defs.specs.declared.nodes.ListId.{ListId}
use Rattle.pattern_defs.specs.declared.nodes.PatNode.{PatNode}
use Rattle.pattern_defs.specs.declared.nodes.PatNode.TheVariants.{One, At, Choice, Group, Repeat, Ahead, Behind}
use Rattle.pattern_defs.specs.declared.nodes.PatNode.TheVariants.{Atomic, Back}
use Rattle.pattern_defs.specs.declared.outcomes.Flags.{Flags}
use Rattle.pattern_defs.specs.declared.outcomes.Outcome.TheVariants as outcomes
use Rattle.char_sets.specs.Ranges.{in_set}
use Rattle.pattern_defs.specs.Patterns.{NodeLists, Tree, nodes_of, RiseFrom, AreNodes, AreLists, size_of, is_plain}
use Rattle.pattern_defs.specs.Patterns.{is_flat_choice, is_flat}
use Rattle.pattern_defs.specs.Attempt.{Subject, Captures, Todo, Node, Ran, Hit, Miss, Spent, Going, before, or_else}
use Rattle.pattern_defs.specs.Attempt.{where_holds, tries, is_char, holds_at, act, attempt, with_whole, outcome_of}
use Rattle.onig_match.specs.Goes.{goes}
use Rattle.onig_match.proofs.VisitCounts.{goes-zero, goes-none, goes-act}
use Rattle.onig_match.proofs.Ends.{attempt-goes}

-- how many visits are missing at the end: so many at most
abbrev pub Uses : ℕ → ℕ → Ran → Type 0
Uses most left (Hit at captures rest) = Unit {0}
Uses most left (Miss rest) = left ≤ rest + most
Uses most left Spent = left ≤ most

Uses-suc : (most left : ℕ) (ran : Ran) → Uses most left ran → Uses (suc most) (suc left) ran
Uses-suc most left (Hit at captures rest) t = tt
Uses-suc most left (Miss rest) t = omega arith
Uses-suc most left Spent t = omega arith

Uses-widen : (a b left : ℕ) (ran : Ran) → Uses a left ran → a ≤ b → Uses b left ran
Uses-widen a b left (Hit at captures rest) t h = tt
Uses-widen a b left (Miss rest) t h = omega arith
Uses-widen a b left Spent t h = omega arith

holding : (b : Bool) (go : Going) (todo : List Todo) (at : ℕ) (captures : Captures) (most left : ℕ) →
    Uses most left (go todo at captures left) → Uses (suc most) (suc left) (where_holds b go todo at captures left)
holding true go todo at captures most left t = Uses-suc most left (go todo at captures left) t
holding false go todo at captures most left t = omega arith

plain_first : (s : Subject) (node : PatNode) (rest : List Todo) (at : ℕ) (captures : Captures) (most left : ℕ) →
    is_plain node ≡ true → ((place : ℕ) → Uses most left (goes s rest place captures left)) →
    Uses (suc most) (suc left) (act s (goes s) (Node node) rest at captures left)
plain_first s (One set) rest at captures most left plain t =
    holding (is_char (in_set set) (slice_get s.text at)) (goes s) rest (at + 1) captures most left (t (at + 1))
plain_first s (At anchor) rest at captures most left plain t =
    holding (holds_at anchor s at) (goes s) rest at captures most left (t at)
plain_first s (Choice ids) rest at captures most left plain t = cc
plain_first s (Group number body) rest at captures most left plain t = cc
plain_first s (Repeat body least most' greedy) rest at captures most left plain t = cc
plain_first s (Ahead body wanted) rest at captures most left plain t = cc
plain_first s (Behind arms wanted) rest at captures most left plain t = cc
plain_first s (Atomic body) rest at captures most left plain t = cc
plain_first s (Back number fold) rest at captures most left plain t = cc

both : (a b : Bool) → (a && b) ≡ true → (a ≡ true) × (b ≡ true)
both true b e = (refl, e)
both false b e = cc

plain_takes : (s : Subject) (nodes : List PatNode) (at : ℕ) (captures : Captures) (left : ℕ) →
    list_all is_plain nodes ≡ true → Uses (length nodes) left (goes s (map Node nodes ++ []) at captures left)
plain_takes s nodes at captures zero plain = rw (goes-zero s (map Node nodes ++ []) at captures) (omega arith)
plain_takes s [] at captures (suc left) plain = rw (goes-none s at captures left) tt
plain_takes s (node ∷ nodes) at captures (suc left) plain =
    let parts : (is_plain node ≡ true) × (list_all is_plain nodes ≡ true) =
    both (is_plain node) (list_all is_plain nodes) plain in
    rw (goes-act s (Node node) (map Node nodes ++ []) at captures left)
    (plain_first s node (map Node nodes ++ []) at captures (length nodes) left parts.0
    (λ place. plain_takes s nodes place captures left parts.1))

-- alternatives

abbrev pub ways_size : NodeLists → List ListId → ℕ
ways_size lists ids = sum_by (λ id. length (nodes_of lists id)) ids

one_then : (ran : Ran) (next : ℕ → Ran) (a b left : ℕ) → Uses a left ran → ((rest : ℕ) →
    Uses b rest (next rest)) → Uses (a + b) left (or_else ran next)
one_then (Hit at captures rest) next a b left t more = tt
one_then (Miss rest) next a b left t more = later (next rest) (more rest)
  where
    later : (ran : Ran) → Uses b rest ran → Uses (a + b) left ran
    later (Hit at captures end) u = tt
    later (Miss end) u = omega (arith, t)
    later Spent u = omega (arith, t)
one_then Spent next a b left t more = omega arith

ways_take : (s : Subject) (ids : List ListId) (at : ℕ) (captures : Captures) (left : ℕ) →
    list_all (λ id. list_all is_plain (nodes_of s.lists id)) ids ≡ true →
    Uses (ways_size s.lists ids) left (tries (goes s) (map (λ id. before s.lists id []) ids) at captures left)
ways_take s [] at captures left plain = omega arith
ways_take s (id ∷ ids) at captures left plain =
    let parts : (list_all is_plain (nodes_of s.lists id) ≡ true)
    × (list_all (λ way. list_all is_plain (nodes_of s.lists way)) ids ≡ true) =
    both (list_all is_plain (nodes_of s.lists id)) (list_all (λ way. list_all is_plain (nodes_of s.lists way)) ids)
    plain in
    rw (sum_by-cons (λ (way : ListId). length (nodes_of s.lists way)) id ids)
    (one_then (goes s (before s.lists id []) at captures left)
    (λ rest. tries (goes s) (map (λ way. before s.lists way []) ids) at captures rest)
    (length (nodes_of s.lists id)) (ways_size s.lists ids) left
    (plain_takes s (nodes_of s.lists id) at captures left parts.0)
    (λ rest. ways_take s ids at captures rest parts.1))

choice_takes : (s : Subject) (ids : List ListId) (at : ℕ) (captures : Captures) (left : ℕ) →
    list_all (λ id. list_all is_plain (nodes_of s.lists id)) ids ≡ true →
    Uses (suc (ways_size s.lists ids)) left (goes s (Node (Choice ids) ∷ []) at captures left)
choice_takes s ids at captures zero plain = rw (goes-zero s (Node (Choice ids) ∷ []) at captures) (omega arith)
choice_takes s ids at captures (suc left) plain =
    rw (goes-act s (Node (Choice ids)) [] at captures left)
    (Uses-suc (ways_size s.lists ids) left _ (ways_take s ids at captures left plain))

-- sizes

size_from : (lists : NodeLists) (low k : ℕ) → low ≤ k →
    length (unwrap_or (slice_get lists k) []) + sum_by length (drop (k + 1) lists) ≤ sum_by length (drop low lists)
size_from [] zero k h = let e : k + 1 ≡ suc k = omega arith in rw e (omega arith)
size_from [] (suc low) k h = let e : k + 1 ≡ suc k = omega arith in rw e (omega arith)
size_from (x ∷ xs) zero zero h = omega (arith, sum_by-cons (length {A = PatNode}) x xs)
size_from (x ∷ xs) zero (suc k) h = let e : suc k + 1 ≡ suc (k + 1) =
    omega arith in rw e (omega (arith, size_from xs zero k (omega arith), sum_by-cons (length {A = PatNode}) x xs))
size_from (x ∷ xs) (suc low) zero h = absurd (omega arith)
size_from (x ∷ xs) (suc low) (suc k) h = let e : suc k + 1 ≡ suc (k + 1) =
    omega arith in rw e (size_from xs low k (omega arith))

ways_fit : (lists : NodeLists) (low : ℕ) (ids : List ListId) → RiseFrom low ids →
    ways_size lists ids ≤ sum_by length (drop low lists)
ways_fit lists low [] rise = omega arith
ways_fit lists low (id ∷ ids) rise = omega (
  arith,
  sum_by-cons (λ (way : ListId). length (nodes_of lists way)) id ids,
  ways_fit lists (id.0 + 1) ids rise.1,
  size_from lists low id.0 rise.0,
)

-- the law

abbrev Fits : NodeLists → List PatNode → ℕ → Type 0
Fits lists nodes size = (length nodes ≤ size)
    × ((ids : List ListId) → nodes ≡ Choice ids ∷ [] → ways_size lists ids ≤ size)

flat_takes : (s : Subject) (nodes : List PatNode) (size at : ℕ) (captures : Captures) (left : ℕ) →
    is_flat_choice s.lists nodes ≡ true → Fits s.lists nodes size →
    Uses (suc size) left (goes s (map Node nodes ++ []) at captures left)
flat_takes s [] size at captures left flat fits =
    Uses-widen 0 (suc size) left _ (plain_takes s [] at captures left flat) (omega arith)
flat_takes s (Choice ids ∷ []) size at captures left flat fits =
    Uses-widen (suc (ways_size s.lists ids)) (suc size) left _ (choice_takes s ids at captures left flat)
    (omega (arith, fits.1 ids refl))
flat_takes s (Choice ids ∷ node ∷ nodes) size at captures left flat fits = cc
flat_takes s (One set ∷ nodes) size at captures left flat fits =
    Uses-widen (suc (length nodes)) (suc size) left _ (plain_takes s (One set ∷ nodes) at captures left flat)
    (omega (arith, fits.0))
flat_takes s (At anchor ∷ nodes) size at captures left flat fits =
    Uses-widen (suc (length nodes)) (suc size) left _ (plain_takes s (At anchor ∷ nodes) at captures left flat)
    (omega (arith, fits.0))
flat_takes s (Group number body ∷ nodes) size at captures left flat fits = cc
flat_takes s (Repeat body least most greedy ∷ nodes) size at captures left flat fits = cc
flat_takes s (Ahead body wanted ∷ nodes) size at captures left flat fits = cc
flat_takes s (Behind arms wanted ∷ nodes) size at captures left flat fits = cc
flat_takes s (Atomic body ∷ nodes) size at captures left flat fits = cc
flat_takes s (Back number fold ∷ nodes) size at captures left flat fits = cc

not_spent : (most left at : ℕ) (ran : Ran) → Uses most left ran → most < left →
    outcomes.Spent ≡ outcome_of (with_whole at ran) → ⊥
not_spent most left at (Hit place captures rest) t h e = cc
not_spent most left at (Miss rest) t h e = cc
not_spent most left at Spent t h e = omega arith

AreNodes-of : (n groups : ℕ) (lists : NodeLists) (k : ℕ) → AreLists n groups lists →
    (m : ℕ) × AreNodes m groups (unwrap_or (slice_get lists k) [])
AreNodes-of n groups [] k are = (0, tt)
AreNodes-of n groups (nodes ∷ lists) zero are = (n, are.0)
AreNodes-of n groups (nodes ∷ lists) (suc k) are = AreNodes-of (n + 1) groups lists k are.1

list_fits : (n groups : ℕ) (lists : NodeLists) (nodes : List PatNode) (k : ℕ) → AreLists n groups lists →
    nodes ≡ unwrap_or (slice_get lists k) [] → Fits lists nodes (sum_by length lists)
list_fits n groups lists nodes k are e =
    let known : (m : ℕ) × AreNodes m groups (unwrap_or (slice_get lists k) []) = AreNodes-of n groups lists k are in (
      rw e (omega (arith, size_from lists 0 k (omega arith))),
      λ ids is. (let rise : AreNodes known.0 groups (Choice ids ∷ []) =
          subst (λ (v : List PatNode). AreNodes known.0 groups v) (sym e ∙ is) known.1 in
          ways_fit lists 0 ids rise.0.1),
    )

pub flat_is_never_spent : (tree : Tree) (text : List ℕ) (at : ℕ) (flags : Flags) (budget : ℕ) →
    AreLists 0 tree.groups tree.lists → IsTrue (is_flat tree) → 2 * size_of tree + 2 ≤ budget →
    outcomes.Spent ≡ outcome_of (attempt tree text at flags budget) → ⊥
flat_is_never_spent tree text at flags budget are flat enough e =
    let s : Subject = record { lists = tree.lists; text = text; flags = flags } in
    let takes : Uses (suc (size_of tree)) budget
    (goes s (map Node (nodes_of tree.lists tree.top) ++ []) at (replicate (tree.groups + 1) None) budget) =
    flat_takes s (nodes_of tree.lists tree.top) (size_of tree) at (replicate (tree.groups + 1) None) budget flat
    (list_fits 0 tree.groups tree.lists (nodes_of tree.lists tree.top) tree.top.0 are refl) in
    not_spent (suc (size_of tree)) budget at _ takes (omega arith)
    (let meant = rw (attempt-goes tree text at flags budget) at e in meant)
