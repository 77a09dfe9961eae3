-- Lengths of trees one behind the other.
use Rattle.std.proofs.Common.{◌≡◌, List, [], ◌∷◌, ◌++◌}
use Rattle.std.proofs.Common.{refl, sym, ap, ◌∙◌, subst, arith, append_assoc, append-nil}
use Rattle.std.proofs.lemmas.Bool.Decides.{nat_tests}
use Rattle.text_pos.specs.declared.length.Length.{Length}
use Rattle.text_pos.specs.Lengths.{plus}
use Rattle.tree_defs.specs.Tree.{Tree, Nothing, Text, Bracket, Lone, Pair, Two, Three}
use Rattle.tree_defs.specs.Items.{Items, items_then}
use Rattle.tree_defs.specs.Shape.{no_length, length_of, leaves_of, all_items, total, Fits, RunsFit, EndsFit}

pub same_length : (a b : Length) → a.lines ≡ b.lines → a.cols ≡ b.cols → a ≡ b
same_length a b lines cols = ap (λ x. record { lines = x; cols = a.cols }) lines
    ∙ ap (λ x. record { lines = b.lines; cols = x }) cols

pub plus_none : (a : Length) → plus a no_length ≡ a
plus_none a = same_length _ _ refl (omega arith)

pub none_plus : (a : Length) → plus no_length a ≡ a
none_plus a = same_length _ _ (grind (arith, nat_tests)) (grind (arith, nat_tests))

pub plus_assoc : (a b c : Length) → plus (plus a b) c ≡ plus a (plus b c)
plus_assoc a b c = same_length _ _ (grind (arith, nat_tests)) (grind (arith, nat_tests))

pub total_append : (xs ys : List Tree) → total (xs ++ ys) ≡ plus (total xs) (total ys)
total_append [] ys = sym (none_plus (total ys))
total_append (x ∷ xs) ys = ap (λ l. plus (length_of x) l) (total_append xs ys)
    ∙ sym (plus_assoc (length_of x) (total xs) (total ys))

pub total_leaves : (t : Tree) → total (leaves_of t) ≡ length_of t
total_leaves Nothing = refl
total_leaves (Text len cut) = plus_none len
total_leaves (Bracket len kind) = plus_none len
total_leaves (Lone len kinds) = plus_none len
total_leaves (Pair opener kind inside closer) = plus_none (length_of (Pair opener kind inside closer))
total_leaves (Two a b) = total_append (leaves_of a) (leaves_of b)
    ∙ ap (λ l. plus l (total (leaves_of b))) (total_leaves a) ∙ ap (λ l. plus (length_of a) l) (total_leaves b)
total_leaves (Three a b c) =
    total_append (leaves_of a) (leaves_of b ++ leaves_of c)
    ∙ ap (λ l. plus (total (leaves_of a)) l) (total_append (leaves_of b) (leaves_of c))
    ∙ sym (plus_assoc (total (leaves_of a)) (total (leaves_of b)) (total (leaves_of c)))
    ∙ ap (λ l. plus (plus l (total (leaves_of b))) (total (leaves_of c))) (total_leaves a)
    ∙ ap (λ l. plus (plus (length_of a) l) (total (leaves_of c))) (total_leaves b)
    ∙ ap (λ l. plus (plus (length_of a) (length_of b)) l) (total_leaves c)

-- ---- runs
pub runs_of : (before ts rest all : List Tree) → all ≡ before ++ (ts ++ rest) → RunsFit all → RunsFit ts
runs_of before ts rest all is fit = λ b run r h. fit (before ++ b) run (r ++ rest)
    (is ∙ ap (λ l. before ++ (l ++ rest)) h ∙ ap (λ l. before ++ l)
    (append_assoc b (run ++ r) rest ∙ ap (λ l. b ++ l) (append_assoc run r rest))
    ∙ sym (append_assoc before b (run ++ (r ++ rest))))

pub front_runs : (ts rest : List Tree) → RunsFit (ts ++ rest) → RunsFit ts
front_runs ts rest fit = runs_of [] ts rest (ts ++ rest) refl fit

pub back_runs : (before ts : List Tree) → RunsFit (before ++ ts) → RunsFit ts
back_runs before ts fit = runs_of before ts [] (before ++ ts) (ap (λ l. before ++ l) (sym (append-nil ts))) fit

pub whole_fits : (ts : List Tree) → RunsFit ts → Fits (total ts)
whole_fits ts fit = fit [] ts [] (sym (append-nil ts))

-- a length that fits behind a place fits
fits_behind : (at len : Length) → Fits (plus at len) → Fits len
fits_behind at len fits = grind (arith, nat_tests)

run_fits : (at : Length) (ts run rest : List Tree) → ts ≡ run ++ rest → EndsFit at ts → (at_fits : Fits at)
    → Fits (plus at (total run))
run_fits at ts [] rest is ends fits = subst (λ l. Fits l) (sym (plus_none at)) fits
run_fits at [] (r ∷ run) rest is ends fits = absurd (cc)
run_fits at (t ∷ ts) (r ∷ run) rest is ends fits =
    let same : t ≡ r = cc in let more : ts ≡ run ++ rest = cc in
    subst (λ l. Fits l) (plus_assoc at (length_of t) (total run)
    ∙ ap (λ x. plus at (plus (length_of x) (total run))) same)
    (run_fits (plus at (length_of t)) ts run rest more ends.1 ends.0)

-- where each tree of some ends at a place of two small numbers, each run of them has a length of two small numbers
pub ends_runs : (at : Length) (ts : List Tree) → Fits at → EndsFit at ts → RunsFit ts
ends_runs at ts at_fits ends [] run rest is = fits_behind at (total run) (run_fits at ts run rest is ends at_fits)
ends_runs at [] at_fits ends (b ∷ before) run rest is = absurd (cc)
ends_runs at (t ∷ ts) at_fits ends (b ∷ before) run rest is =
    ends_runs (plus at (length_of t)) ts ends.0 ends.1 before run rest (cc)

pub ends_append : (at : Length) (ts us : List Tree) → EndsFit at ts → EndsFit (plus at (total ts)) us
    → EndsFit at (ts ++ us)
ends_append at [] us ends more = subst (λ p. EndsFit p us) (plus_none at) more
ends_append at (t ∷ ts) us ends more = (
  ends.0,
  ends_append (plus at (length_of t)) ts us ends.1
      (subst (λ p. EndsFit p us) (sym (plus_assoc at (length_of t) (total ts))) more),
)

-- ---- the items of a tree are those of its lists opened
pub items_append : (xs ys : List Tree) (rest : Items) → all_items (xs ++ ys) rest ≡ all_items xs (all_items ys rest)
items_append [] ys rest = refl
items_append (x ∷ xs) ys rest = ap (λ r. items_then x r) (items_append xs ys rest)

pub leaf_items : (t : Tree) (rest : Items) → all_items (leaves_of t) rest ≡ items_then t rest
leaf_items Nothing rest = refl
leaf_items (Text len cut) rest = refl
leaf_items (Bracket len kind) rest = refl
leaf_items (Lone len kinds) rest = refl
leaf_items (Pair opener kind inside closer) rest = refl
leaf_items (Two a b) rest = items_append (leaves_of a) (leaves_of b) rest
    ∙ leaf_items a (all_items (leaves_of b) rest) ∙ ap (λ r. items_then a r) (leaf_items b rest)
leaf_items (Three a b c) rest =
    items_append (leaves_of a) (leaves_of b ++ leaves_of c) rest
    ∙ leaf_items a (all_items (leaves_of b ++ leaves_of c) rest)
    ∙ ap (λ r. items_then a r) (items_append (leaves_of b) (leaves_of c) rest
    ∙ leaf_items b (all_items (leaves_of c) rest) ∙ ap (λ r. items_then b r) (leaf_items c rest))
