-- The rows of items, one behind the other, and the row of a number.
use Rattle.std.proofs.Common.{◌≡◌, ℕ, suc, ◌+◌, List, [], ◌∷◌, ◌++◌, length, Some, None}
use Rattle.std.proofs.Common.{refl, ap, arith, length-append}
use Rattle.std.specs.List.{slice_get}
use Rattle.text_pos.specs.declared.length.Length.{Length}
use Rattle.text_pos.specs.Lengths.{plus}
use Rattle.pairing_defs.specs.declared.Row.{Row}
use Rattle.pairing_defs.specs.Pairing.{Entry, of_kind}
use Rattle.tree_defs.specs.Items.{Items, end, text, lone, pair, unclosed, stray, rows_in, behind, opens, closes_kind}
use Rattle.tree_defs.specs.Items.{row_at}
use Rattle.tree_defs.specs.Rows.{FullRow, place, full, tree_rows, IsFull, AreFull}

-- ---- how many rows there are
pub full_long : (rs : List Row) (fs : List FullRow) → AreFull rs fs → length rs ≡ length fs
full_long [] [] a = refl
full_long [] (f ∷ fs) a = absurd a
full_long (r ∷ rs) [] a = absurd a
full_long (r ∷ rs) (f ∷ fs) a = ap (λ n. suc n) (full_long rs fs a.1)

-- the whole rows of a pair's opener and of its closer
abbrev pub opener_full : Length → ℕ → Items → Length → ℕ → List Entry → FullRow
opener_full opener kind inside at n es =
    full (row_at at opener (opens kind) (length es) (of_kind kind es) None) (Some (n + 1 + rows_in inside))
    (place (behind inside (plus at opener)))

abbrev pub closer_full : Length → ℕ → Items → Length → Length → ℕ → List Entry → FullRow
closer_full opener kind inside closer at n es =
    full (row_at (behind inside (plus at opener)) closer (closes_kind kind) (length es) (of_kind kind es) (Some n))
    (Some n) (place (behind inside (plus at opener)))

pair_long : (f g : FullRow) (xs ys : List FullRow) (a b : ℕ) → length xs ≡ a → length ys ≡ b
    → length (f ∷ (xs ++ g ∷ ys)) ≡ a + b + 2
pair_long f g xs ys a b h i = let l = length-append xs (g ∷ ys) in omega (arith, h, i, l)

pub rows_long : (its : Items) (at : Length) (n : ℕ) (es : List Entry) → length (tree_rows its at n es) ≡ rows_in its
rows_long end at n es = refl
rows_long (text len cut rest) at n es = rows_long rest (plus at len) n es
rows_long (lone len kinds rest) at n es = let h = rows_long rest (plus at len) (n + 1) es in omega (arith, h)
rows_long (pair o k inside c rest) at n es = pair_long (opener_full o k inside at n es) (closer_full o k inside c at n es)
    (tree_rows inside (plus at o) (n + 1) (record { row = n; kind = k } ∷ es))
    (tree_rows rest (plus (behind inside (plus at o)) c) (n + 1 + rows_in inside + 1) es) (rows_in inside) (rows_in rest)
    (rows_long inside (plus at o) (n + 1) (record { row = n; kind = k } ∷ es))
    (rows_long rest (plus (behind inside (plus at o)) c) (n + 1 + rows_in inside + 1) es)
rows_long (unclosed o k inside) at n es =
    let h = rows_long inside (plus at o) (n + 1) (record { row = n; kind = k } ∷ es) in omega (arith, h)
rows_long stray at n es = refl

-- ---- rows of two lists
pub record FullParts (rs : List Row) (fs gs : List FullRow) : Type 0 where
  pub front : List Row
  pub back : List Row
  pub are : rs ≡ front ++ back
  pub fronts : AreFull front fs
  pub backs : AreFull back gs

one_more : (r : Row) (rs : List Row) (f : FullRow) (fs gs : List FullRow) → IsFull r f → FullParts rs fs gs
    → FullParts (r ∷ rs) (f ∷ fs) gs
one_more r rs f fs gs is p = record {
  front = r ∷ p.front;
  back = p.back;
  are = ap (λ l. r ∷ l) p.are;
  fronts = (is, p.fronts);
  backs = p.backs;
}

pub full_parts : (rs : List Row) (fs gs : List FullRow) → AreFull rs (fs ++ gs) → FullParts rs fs gs
full_parts rs [] gs a = record { front = []; back = rs; are = refl; fronts = tt; backs = a }
full_parts [] (f ∷ fs) gs a = absurd a
full_parts (r ∷ rs) (f ∷ fs) gs a = one_more r rs f fs gs a.0 (full_parts rs fs gs a.1)

-- the rows of a pair, and those behind it
pub record PairRows (rs : List Row) (f : FullRow) (fs : List FullRow) (g : FullRow) (gs : List FullRow) : Type 0 where
  pub opener : Row
  pub inside : List Row
  pub closer : Row
  pub rest : List Row
  pub are : rs ≡ opener ∷ (inside ++ closer ∷ rest)
  pub is_opener : IsFull opener f
  pub insides : AreFull inside fs
  pub is_closer : IsFull closer g
  pub rests : AreFull rest gs

behind_opener : (r : Row) (rs front back : List Row) (f : FullRow) (fs : List FullRow) (g : FullRow)
    (gs : List FullRow) → rs ≡ front ++ back → IsFull r f → AreFull front fs → AreFull back (g ∷ gs)
    → PairRows (r ∷ rs) f fs g gs
behind_opener r rs front [] f fs g gs are is fronts backs = absurd backs
behind_opener r rs front (q ∷ back) f fs g gs are is fronts backs = record {
  opener = r;
  inside = front;
  closer = q;
  rest = back;
  are = ap (λ l. r ∷ l) are;
  is_opener = is;
  insides = fronts;
  is_closer = backs.0;
  rests = backs.1;
}

pub pair_rows : (rs : List Row) (f : FullRow) (fs : List FullRow) (g : FullRow) (gs : List FullRow)
    → AreFull rs (f ∷ (fs ++ g ∷ gs)) → PairRows rs f fs g gs
pair_rows [] f fs g gs a = absurd a
pair_rows (r ∷ rs) f fs g gs a = let p = full_parts rs fs (g ∷ gs) a.1 in
    behind_opener r rs p.front p.back f fs g gs p.are a.0 p.fronts p.backs

-- ---- the item behind so many others
pub at_front : {X : Type 0} (xs : List X) (y : X) (ys : List X) → slice_get (xs ++ y ∷ ys) (length xs) ≡ Some y
at_front [] y ys = refl
at_front (x ∷ xs) y ys = at_front xs y ys
