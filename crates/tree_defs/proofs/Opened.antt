-- A tree and its items.
use Rattle.std.proofs.Common.{◌≡◌, ℕ, ◌+◌, ◌≤◌, ◌||◌, max, List, [], ◌∷◌, Bool, false, IsTrue}
use Rattle.std.proofs.Common.{Some, None, refl, arith}
use Rattle.text_pos.specs.declared.length.Length.{Length}
use Rattle.text_pos.specs.declared.kinds.Kinds.{Kinds}
use Rattle.text_pos.specs.KindSet.{has_kind}
use Rattle.pairing_defs.specs.Pairing.{Entry}
use Rattle.tree_defs.specs.Tree.{Tree, Nothing, Text, Bracket, Lone, Pair, Two, Three, depth, is_cut, misses, Passes}
use Rattle.tree_defs.specs.Tree.{CanBeReused}
use Rattle.tree_defs.specs.Items.{Items, end, text, lone, pair, unclosed, stray, unclosed_then, items_then, items_of}
use Rattle.tree_defs.specs.Items.{depth_of, cut_in, missed_in, rows_in, left_by}
use Rattle.tree_defs.proofs.Walk.{or_left, or_right}
use Rattle.tree_defs.specs.Reuse.{Clear, AreAmong}

neither : (a b : Bool) → a ≡ false → b ≡ false → (a || b) ≡ false
neither a b p q = rw (p, q) refl

-- ---- depth
unclosed_depth : (o : Length) (k : ℕ) (inside rest : Items)
    → depth_of (unclosed_then o k inside rest) ≤ depth_of inside + 1
unclosed_depth o k inside end = omega arith
unclosed_depth o k inside (text a b c) = omega arith
unclosed_depth o k inside (lone a b c) = omega arith
unclosed_depth o k inside (pair a b c d e) = omega arith
unclosed_depth o k inside (unclosed a b c) = omega arith
unclosed_depth o k inside stray = omega arith

pub depth_then : (t : Tree) (rest : Items) → depth_of (items_then t rest) ≤ max (depth t) (depth_of rest)
depth_then Nothing rest = omega arith
depth_then (Text len cut) rest = omega arith
depth_then (Bracket len kind) rest = omega arith
depth_then (Lone len kinds) rest = omega arith
depth_then (Pair o k inside None) rest = let h = depth_then inside end in let u =
    unclosed_depth o k (items_then inside end) rest in omega arith
depth_then (Pair o k inside (Some c)) rest = let h = depth_then inside end in omega arith
depth_then (Two a b) rest = let p = depth_then a (items_then b rest) in let q = depth_then b rest in omega arith
depth_then (Three a b c) rest = let p = depth_then a (items_then b (items_then c rest)) in let q =
    depth_then b (items_then c rest) in let r = depth_then c rest in omega arith

-- ---- cut
unclosed_cut : (o : Length) (k : ℕ) (inside rest : Items) → cut_in inside ≡ false
    → cut_in (unclosed_then o k inside rest) ≡ false
unclosed_cut o k inside end h = h
unclosed_cut o k inside (text a b c) h = refl
unclosed_cut o k inside (lone a b c) h = refl
unclosed_cut o k inside (pair a b c d e) h = refl
unclosed_cut o k inside (unclosed a b c) h = refl
unclosed_cut o k inside stray h = refl

pub cut_then : (t : Tree) (rest : Items) → is_cut t ≡ false → cut_in rest ≡ false → cut_in (items_then t rest) ≡ false
cut_then Nothing rest h r = r
cut_then (Text len cut) rest h r = neither cut (cut_in rest) h r
cut_then (Bracket len kind) rest h r = refl
cut_then (Lone len kinds) rest h r = r
cut_then (Pair o k inside None) rest h r = unclosed_cut o k (items_then inside end) rest (cut_then inside end h refl)
cut_then (Pair o k inside (Some c)) rest h r =
    neither (cut_in (items_then inside end)) (cut_in rest) (cut_then inside end h refl) r
cut_then (Two a b) rest h r = cut_then a (items_then b rest) (or_left (is_cut a) (is_cut b) h)
    (cut_then b rest (or_right (is_cut a) (is_cut b) h) r)
cut_then (Three a b c) rest h r =
    let tail = or_right (is_cut a) (is_cut b || is_cut c) h in
    cut_then a (items_then b (items_then c rest)) (or_left (is_cut a) (is_cut b || is_cut c) h)
    (cut_then b (items_then c rest) (or_left (is_cut b) (is_cut c) tail)
    (cut_then c rest (or_right (is_cut b) (is_cut c) tail) r))

-- ---- missing kinds
unclosed_missed : (j : ℕ) (o : Length) (k : ℕ) (inside rest : Items) → missed_in inside j ≡ false
    → missed_in (unclosed_then o k inside rest) j ≡ false
unclosed_missed j o k inside end h = h
unclosed_missed j o k inside (text a b c) h = refl
unclosed_missed j o k inside (lone a b c) h = refl
unclosed_missed j o k inside (pair a b c d e) h = refl
unclosed_missed j o k inside (unclosed a b c) h = refl
unclosed_missed j o k inside stray h = refl

pub missed_then : (j : ℕ) (t : Tree) (rest : Items) → misses t j ≡ false → missed_in rest j ≡ false
    → missed_in (items_then t rest) j ≡ false
missed_then j Nothing rest h r = r
missed_then j (Text len cut) rest h r = r
missed_then j (Bracket len kind) rest h r = refl
missed_then j (Lone len kinds) rest h r = neither (has_kind kinds j) (missed_in rest j) h r
missed_then j (Pair o k inside None) rest h r =
    unclosed_missed j o k (items_then inside end) rest (missed_then j inside end h refl)
missed_then j (Pair o k inside (Some c)) rest h r =
    neither (missed_in (items_then inside end) j) (missed_in rest j) (missed_then j inside end h refl) r
missed_then j (Two a b) rest h r = missed_then j a (items_then b rest) (or_left (misses a j) (misses b j) h)
    (missed_then j b rest (or_right (misses a j) (misses b j) h) r)
missed_then j (Three a b c) rest h r =
    let tail = or_right (misses a j) (misses b j || misses c j) h in
    missed_then j a (items_then b (items_then c rest)) (or_left (misses a j) (misses b j || misses c j) h)
    (missed_then j b (items_then c rest) (or_left (misses b j) (misses c j) tail)
    (missed_then j c rest (or_right (misses b j) (misses c j) tail) r))

pub clear_of : (above : Kinds) (t : Tree) (es : List Entry)
    → ((k : ℕ) → IsTrue (has_kind above k) → misses t k ≡ false) → AreAmong above es → Clear (items_of t) es
clear_of above t [] apart among = tt
clear_of above t (e ∷ es) apart among = (
  missed_then e.kind t end (apart e.kind among.0) refl,
  clear_of above t es
      apart among.1,
)

-- ---- nothing is left open behind what can be reused
abbrev pub Shut : Items → Type 0
Shut items = (n : ℕ) → left_by n items ≡ []

-- something follows
abbrev pub IsMore : Items → Type 0
IsMore end = ⊥
IsMore (text a b c) = Unit {0}
IsMore (lone a b c) = Unit {0}
IsMore (pair a b c d e) = Unit {0}
IsMore (unclosed a b c) = Unit {0}
IsMore stray = Unit {0}

unclosed_more : (o : Length) (k : ℕ) (inside rest : Items) → IsMore (unclosed_then o k inside rest)
unclosed_more o k inside end = tt
unclosed_more o k inside (text a b c) = tt
unclosed_more o k inside (lone a b c) = tt
unclosed_more o k inside (pair a b c d e) = tt
unclosed_more o k inside (unclosed a b c) = tt
unclosed_more o k inside stray = tt

unclosed_shut : (o : Length) (k : ℕ) (inside rest : Items) → IsMore rest → Shut (unclosed_then o k inside rest)
unclosed_shut o k inside end more = absurd more
unclosed_shut o k inside (text a b c) more = λ n. refl
unclosed_shut o k inside (lone a b c) more = λ n. refl
unclosed_shut o k inside (pair a b c d e) more = λ n. refl
unclosed_shut o k inside (unclosed a b c) more = λ n. refl
unclosed_shut o k inside stray more = λ n. refl

pub more_then : (t : Tree) (rest : Items) → IsMore rest → IsMore (items_then t rest)
more_then Nothing rest more = more
more_then (Text len cut) rest more = tt
more_then (Bracket len kind) rest more = tt
more_then (Lone len kinds) rest more = tt
more_then (Pair o k inside None) rest more = unclosed_more o k (items_then inside end) rest
more_then (Pair o k inside (Some c)) rest more = tt
more_then (Two a b) rest more = more_then a (items_then b rest) (more_then b rest more)
more_then (Three a b c) rest more = more_then a (items_then b (items_then c rest))
    (more_then b (items_then c rest) (more_then c rest more))

pub shut_then : (t : Tree) (rest : Items) → IsMore rest → Shut rest → Shut (items_then t rest)
shut_then Nothing rest more shut = shut
shut_then (Text len cut) rest more shut = λ n. shut n
shut_then (Bracket len kind) rest more shut = λ n. refl
shut_then (Lone len kinds) rest more shut = λ n. shut (n + 1)
shut_then (Pair o k inside None) rest more shut = unclosed_shut o k (items_then inside end) rest more
shut_then (Pair o k inside (Some c)) rest more shut = λ n. shut (n + 1 + rows_in (items_then inside end) + 1)
shut_then (Two a b) rest more shut = shut_then a (items_then b rest) (more_then b rest more)
    (shut_then b rest more shut)
shut_then (Three a b c) rest more shut =
    let last = more_then c rest more in
    shut_then a (items_then b (items_then c rest)) (more_then b (items_then c rest) last)
    (shut_then b (items_then c rest) last (shut_then c rest more shut))

module _ (above : Kinds) (level limit : ℕ) where
  pub reused_more : (t : Tree) (rest : Items) → CanBeReused above level limit t → IsMore (items_then t rest)
  reused_more Nothing rest can = absurd can
  reused_more (Text len cut) rest can = tt
  reused_more (Bracket len kind) rest can = absurd can
  reused_more (Lone len kinds) rest can = tt
  reused_more (Pair o k inside None) rest can = absurd can
  reused_more (Pair o k inside (Some c)) rest can = tt
  reused_more (Two a b) rest can = more_then a (items_then b rest) (reused_more b rest can.1)
  reused_more (Three a b c) rest can = more_then a (items_then b (items_then c rest))
      (more_then b (items_then c rest) (reused_more c rest can.1))

  pub reused_shut : (t : Tree) → CanBeReused above level limit t → Shut (items_of t)
  reused_shut Nothing can = absurd can
  reused_shut (Text len cut) can = λ n. refl
  reused_shut (Bracket len kind) can = absurd can
  reused_shut (Lone len kinds) can = λ n. refl
  reused_shut (Pair o k inside None) can = absurd can
  reused_shut (Pair o k inside (Some c)) can = λ n. refl
  reused_shut (Two a b) can = shut_then a (items_then b end) (reused_more b end can.1) (reused_shut b can.1)
  reused_shut (Three a b c) can =
      let last = reused_more c end can.1 in
      shut_then a (items_then b (items_then c end)) (more_then b (items_then c end) last)
      (shut_then b (items_then c end) last (reused_shut c can.1))

  pub passes_of : (t : Tree) → CanBeReused above level limit t → Passes above level limit t
  passes_of Nothing can = absurd can
  passes_of (Text len cut) can = can
  passes_of (Bracket len kind) can = absurd can
  passes_of (Lone len kinds) can = can
  passes_of (Pair o k inside None) can = absurd can
  passes_of (Pair o k inside (Some c)) can = can
  passes_of (Two a b) can = can.0
  passes_of (Three a b c) can = can.0
