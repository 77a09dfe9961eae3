-- A list and its children, and nodes of one height.
use Rattle.std.proofs.Common.{◌≡◌, ℕ, zero, suc, ◌+◌, ◌<◌, List, [], ◌∷◌, ◌++◌, length, take, get_or, refl, sym}
use Rattle.std.proofs.Common.{ap, ◌∙◌, subst, arith, append_assoc}
use Rattle.tree_defs.specs.Tree.{Tree, Two, Three}
use Rattle.tree_defs.specs.Shape.{height, leaves_of, all_leaves}
use Rattle.bracket_ast.specs.Shapes.{Sound}
use Rattle.tree_concat.specs.Joined.{AllHigh, first_height}

pub record TwoParts (t a b : Tree) : Type 0 where
  pub low : height b ≡ height a
  pub high : height t ≡ height a + 1
  pub leaves : leaves_of t ≡ leaves_of a ++ leaves_of b

pub record ThreeParts (t a b c : Tree) : Type 0 where
  pub low_b : height b ≡ height a
  pub low_c : height c ≡ height a
  pub high : height t ≡ height a + 1
  pub leaves : leaves_of t ≡ leaves_of a ++ (leaves_of b ++ leaves_of c)

pub two_parts : (t a b : Tree) → t ≡ Two a b → Sound t → TwoParts t a b
two_parts t a b is sound =
    let s : Sound (Two a b) = subst (λ x. Sound x) is sound in
    record { low = sym s.even.2; high = ap height is; leaves = ap leaves_of is }

pub three_parts : (t a b c : Tree) → t ≡ Three a b c → Sound t → ThreeParts t a b c
three_parts t a b c is sound =
    let s : Sound (Three a b c) = subst (λ x. Sound x) is sound in
    record { low_b = sym s.even.3; low_c = sym s.even.4; high = ap height is; leaves = ap leaves_of is }

-- ---- nodes of one height
pub high_append : (h : ℕ) (ts : List Tree) (t : Tree) → AllHigh h ts → height t ≡ h → AllHigh h (ts ++ t ∷ [])
high_append h [] t all is = (is, tt)
high_append h (x ∷ ts) t all is = (all.0, high_append h ts t all.1 is)

pub high_more : (h n : ℕ) (ts : List Tree) (d : Tree) → n < length ts → AllHigh h (take n ts) → height (get_or ts n d)
    ≡ h → AllHigh h (take (suc n) ts)
high_more h n [] d less all here = absurd (omega arith)
high_more h zero (t ∷ ts) d less all here = (here, tt)
high_more h (suc n) (t ∷ ts) d less all here = (all.0, high_more h n ts d (omega arith) all.1 here)

pub high_front : (n : ℕ) (ts : List Tree) → 0 < n → AllHigh (first_height ts) (take n ts)
    → AllHigh (first_height (take n ts)) (take n ts)
high_front zero ts some all = absurd (omega arith)
high_front (suc n) [] some all = tt
high_front (suc n) (t ∷ ts) some all = all

pub first_of : (h : ℕ) (ts : List Tree) → 0 < length ts → AllHigh h ts → AllHigh (first_height ts) ts
first_of h [] some all = absurd (omega arith)
first_of h (t ∷ ts) some all = subst (λ x. AllHigh x (t ∷ ts)) (sym all.0) all

pub leaves_append : (xs ys : List Tree) → all_leaves (xs ++ ys) ≡ all_leaves xs ++ all_leaves ys
leaves_append [] ys = refl
leaves_append (x ∷ xs) ys = ap (λ l. leaves_of x ++ l) (leaves_append xs ys)
    ∙ sym (append_assoc (leaves_of x) (all_leaves xs) (all_leaves ys))
