-- A node and its parts.
use Rattle.std.proofs.Common.{◌≡◌, ℕ, ◌+◌, ◌*◌, ◌<◌, ◌≤◌, ◌&&◌, if◌then◌else◌, max, List, [], ◌∷◌, ◌++◌, take, slice_get, Bool}
use Rattle.std.proofs.Common.{zero, suc, ◌⊎◌, inl, inr, true, false, Option, Some, None, refl, sym, ap, ◌∙◌, subst, arith, append-nil}
use Rattle.std.proofs.lemmas.Bool.Decides.{nat_tests}
use Rattle.text_pos.specs.declared.length.Length.{Length}
use Rattle.text_pos.specs.Lengths.{plus}
use Rattle.tree_defs.specs.Tree.{Tree, Nothing, Text, Bracket, Lone, Pair, Two, Three, depth}
use Rattle.tree_defs.specs.Shape.{no_length, length_of, height, total, IsEven}
use Rattle.tree_defs.proofs.Lengths.{plus_none, none_plus, plus_assoc}
use Rattle.bracket_ast.specs.Weight.{weight}
use Rattle.node_reader.specs.Starts.{is_same, is_some, here, starting_from, starting}
use Rattle.node_reader.specs.Parts.{levels, parts_of, front, IsPart}
use Rattle.node_reader.proofs.Orders.{is_less, plus_up, plus_less, less_up}
use Rattle.node_reader.proofs.Orders.{some_not_none}
use Rattle.node_reader.proofs.Starting.{none_before, none_behind, moved}

-- trees one behind the other from a place on: their nodes that start at an offset
abbrev pub starting_in : List Tree → Length → Length → List Tree
starting_in [] at offset = []
starting_in (p ∷ ps) at offset = starting_from p at offset ++ starting_in ps (plus at (length_of p)) offset

nothing_here : (b : Bool) → (if b && false then Nothing ∷ [] else []) ≡ []
nothing_here true = refl
nothing_here false = refl

behind_all : (xs ys zs : List Tree) → ys ≡ zs → xs ++ ys ≡ xs ++ zs
behind_all xs ys zs h = ap (λ l. xs ++ l) h

-- a node and its parts
pub opened : (t : Tree) (at offset : Length)
    → starting_from t at offset ≡ here t at offset ++ starting_in (parts_of t) at offset
opened Nothing at offset = sym (append-nil (here Nothing at offset) ∙ nothing_here (is_same at offset))
opened (Text len cut) at offset = sym (append-nil (here (Text len cut) at offset))
opened (Bracket len kind) at offset = sym (append-nil (here (Bracket len kind) at offset))
opened (Lone len kinds) at offset = sym (append-nil (here (Lone len kinds) at offset))
opened (Pair opener kind inside None) at offset = refl
opened (Pair opener kind inside (Some closer)) at offset =
    behind_all (here (Pair opener kind inside (Some closer)) at offset) _ _
    (behind_all (here (Bracket opener kind) at offset) _ _
    (behind_all (starting_from inside (plus at opener) offset) _ _
    (sym (append-nil (here (Bracket closer kind) (plus (plus at opener) (length_of inside)) offset)))))
opened (Two a b) at offset =
    behind_all (here (Two a b) at offset) _ _ (behind_all (starting_from a at offset) _ _
    (sym (append-nil (starting_from b (plus at (length_of a)) offset))))
opened (Three a b c) at offset =
    behind_all (here (Three a b c) at offset) _ _ (behind_all (starting_from a at offset) _ _
    (behind_all (starting_from b (plus at (length_of a)) offset) _ _
    (sym (append-nil (starting_from c (plus (plus at (length_of a)) (length_of b)) offset)))))

-- its parts are together as long as the node, if it has some
pub parts_total : (t : Tree) (n : ℕ) (p : Tree) → slice_get (parts_of t) n ≡ Some p
    → total (parts_of t) ≡ length_of t
parts_total Nothing n p is = absurd (cc)
parts_total (Text len cut) n p is = absurd (cc)
parts_total (Bracket len kind) n p is = absurd (cc)
parts_total (Lone len kinds) n p is = absurd (cc)
parts_total (Pair opener kind inside None) n p is = ap (λ l. plus opener l) (plus_none (length_of inside))
parts_total (Pair opener kind inside (Some closer)) n p is =
    ap (λ l. plus opener (plus (length_of inside) l)) (plus_none closer)
    ∙ sym (plus_assoc opener (length_of inside) closer)
parts_total (Two a b) n p is = ap (λ l. plus (length_of a) l) (plus_none (length_of b))
parts_total (Three a b c) n p is =
    ap (λ l. plus (length_of a) (plus (length_of b) l)) (plus_none (length_of c))
    ∙ sym (plus_assoc (length_of a) (length_of b) (length_of c))

pub none_in_before : (ps : List Tree) (at offset : Length) → is_less offset at ≡ true → starting_in ps at offset ≡ []
none_in_before [] at offset h = refl
none_in_before (p ∷ ps) at offset h = rw (
  none_before p at offset h,
  none_in_before ps (plus at (length_of p)) offset (less_up offset at (plus at (length_of p)) h
      (plus_up at (length_of p))),
) refl

-- an offset in part n
in_part : (ps : List Tree) (n : ℕ) (p : Tree) (at rest : Length) → slice_get ps n ≡ Some p
    → is_less rest (length_of p) ≡ true
    → starting_in ps at (plus (plus at (total (take n ps))) rest) ≡ starting p rest
in_part [] n p at rest is h = absurd (cc)
in_part (q ∷ qs) zero p at rest is h =
    let same : q ≡ p = cc in
    let near : is_less rest (length_of q) ≡ true = subst (λ x. is_less rest (length_of x) ≡ true) (sym same) h in
    let place : plus (plus at no_length) rest ≡ plus at rest = ap (λ l. plus l rest) (plus_none at) in
    let before : is_less (plus at rest) (plus at (length_of q)) ≡ true = plus_less at rest (length_of q) ∙ near in
    ap (λ o. starting_in (q ∷ qs) at o) place
    ∙ ap (λ l. starting_from q at (plus at rest) ++ l)
    (none_in_before qs (plus at (length_of q)) (plus at rest) before)
    ∙ append-nil (starting_from q at (plus at rest))
    ∙ ap (λ l. starting_from q l (plus at rest)) (sym (plus_none at))
    ∙ moved q at no_length rest ∙ ap (λ x. starting x rest) same
in_part (q ∷ qs) (suc n) p at rest is h =
    let next = plus at (length_of q) in
    let place : plus (plus at (plus (length_of q) (total (take n qs)))) rest
    ≡ plus (plus next (total (take n qs))) rest =
    ap (λ l. plus l rest) (sym (plus_assoc at (length_of q) (total (take n qs)))) in
    let behind : is_less (plus (plus next (total (take n qs))) rest) next ≡ false =
    subst (λ o. is_less o next ≡ false) (sym (plus_assoc next (total (take n qs)) rest))
    (plus_up next (plus (total (take n qs)) rest)) in
    ap (λ o. starting_in (q ∷ qs) at o) place
    ∙ ap (λ l. l ++ starting_in qs next (plus (plus next (total (take n qs))) rest))
    (none_behind q at (plus (plus next (total (take n qs))) rest) behind)
    ∙ in_part qs n p next rest is h

in_parts : (t : Tree) (n : ℕ) (p : Tree) (rest : Length) → slice_get (parts_of t) n ≡ Some p
    → is_less rest (length_of p) ≡ true
    → starting_in (parts_of t) no_length (plus (front n t) rest) ≡ starting p rest
in_parts t n p rest is h =
    ap (λ o. starting_in (parts_of t) no_length (plus o rest)) (sym (none_plus (front n t)))
    ∙ in_part (parts_of t) n p no_length rest is h

not_here : (t : Tree) (offset : Length) → is_some offset ≡ true → here t no_length offset ≡ []
not_here t offset some = rw (some_not_none offset some) refl

-- an offset behind a node's start that lies in a part: what starts there starts there in the part
pub inner : (t : Tree) (n : ℕ) (p : Tree) (rest : Length) → slice_get (parts_of t) n ≡ Some p
    → is_less rest (length_of p) ≡ true → is_some (plus (front n t) rest) ≡ true
    → starting t (plus (front n t) rest) ≡ starting p rest
inner t n p rest is h some =
    opened t no_length (plus (front n t) rest)
    ∙ ap (λ l. l ++ starting_in (parts_of t) no_length (plus (front n t) rest))
    (not_here t (plus (front n t) rest) some) ∙ in_parts t n p rest is h

here_itself : (t : Tree) → is_some (length_of t) ≡ true → here t no_length no_length ≡ t ∷ []
here_itself t some = rw some refl

-- a node starts at its start, and then what starts there in its first part
pub outer : (t : Tree) (n : ℕ) (p : Tree) (rest : Length) → slice_get (parts_of t) n ≡ Some p
    → is_less rest (length_of p) ≡ true → is_some (length_of t) ≡ true → plus (front n t) rest ≡ no_length
    → starting t no_length ≡ t ∷ starting p rest
outer t n p rest is h some start =
    opened t no_length no_length
    ∙ ap (λ l. l ++ starting_in (parts_of t) no_length no_length) (here_itself t some)
    ∙ ap (λ o. t ∷ starting_in (parts_of t) no_length o) (sym start)
    ∙ ap (λ l. t ∷ l) (in_parts t n p rest is h)

-- a node without parts
pub alone : (t : Tree) → parts_of t ≡ [] → is_some (length_of t) ≡ true → starting t no_length ≡ t ∷ []
alone t none some = opened t no_length no_length
    ∙ ap (λ ps. here t no_length no_length ++ starting_in ps no_length no_length) none
    ∙ append-nil (here t no_length no_length) ∙ here_itself t some

pub none_alone : (t : Tree) (offset : Length) → parts_of t ≡ [] → is_some offset ≡ true → starting t offset ≡ []
none_alone t offset none some = opened t no_length offset
    ∙ ap (λ ps. here t no_length offset ++ starting_in ps no_length offset) none
    ∙ append-nil (here t no_length offset) ∙ not_here t offset some

pub none_beyond : (t : Tree) (offset : Length) → is_less offset (length_of t) ≡ false → starting t offset ≡ []
none_beyond t offset h = none_behind t no_length offset
    (subst (λ l. is_less offset l ≡ false) (sym (none_plus (length_of t))) h)

-- ---- an offset in a part lies in the node
within_all : (ps : List Tree) (n : ℕ) (p : Tree) (rest : Length) → slice_get ps n ≡ Some p
    → is_less rest (length_of p) ≡ true → is_less (plus (total (take n ps)) rest) (total ps) ≡ true
within_all [] n p rest is h = absurd (cc)
within_all (q ∷ qs) zero p rest is h =
    let same : q ≡ p = cc in
    let near : is_less rest (length_of q) ≡ true = subst (λ x. is_less rest (length_of x) ≡ true) (sym same) h in
    subst (λ o. is_less o (plus (length_of q) (total qs)) ≡ true) (sym (none_plus rest))
    (less_up rest (length_of q) (plus (length_of q) (total qs)) near (plus_up (length_of q) (total qs)))
within_all (q ∷ qs) (suc n) p rest is h =
    subst (λ o. is_less o (plus (length_of q) (total qs)) ≡ true)
    (sym (plus_assoc (length_of q) (total (take n qs)) rest))
    (plus_less (length_of q) (plus (total (take n qs)) rest) (total qs) ∙ within_all qs n p rest is h)

pub within_node : (t : Tree) (n : ℕ) (p : Tree) (rest : Length) → slice_get (parts_of t) n ≡ Some p
    → is_less rest (length_of p) ≡ true → is_less (plus (front n t) rest) (length_of t) ≡ true
within_node t n p rest is h = subst (λ l. is_less (plus (front n t) rest) l ≡ true) (parts_total t n p is)
    (within_all (parts_of t) n p rest is h)

-- ---- parts are smaller
pub lighter : (t : Tree) (n : ℕ) (p : Tree) → slice_get (parts_of t) n ≡ Some p → weight p < weight t
lighter Nothing n p is = absurd (cc)
lighter (Text len cut) n p is = absurd (cc)
lighter (Bracket len kind) n p is = absurd (cc)
lighter (Lone len kinds) n p is = absurd (cc)
lighter (Pair opener kind inside None) zero p is =
    let same : Bracket opener kind ≡ p = cc in subst (λ x. weight x < weight inside + 2) same (omega arith)
lighter (Pair opener kind inside None) (suc zero) p is =
    let same : inside ≡ p = cc in subst (λ x. weight x < weight inside + 2) same (omega arith)
lighter (Pair opener kind inside None) (suc (suc n)) p is = absurd (cc)
lighter (Pair opener kind inside (Some closer)) zero p is =
    let same : Bracket opener kind ≡ p = cc in subst (λ x. weight x < weight inside + 2) same (omega arith)
lighter (Pair opener kind inside (Some closer)) (suc zero) p is =
    let same : inside ≡ p = cc in subst (λ x. weight x < weight inside + 2) same (omega arith)
lighter (Pair opener kind inside (Some closer)) (suc (suc zero)) p is =
    let same : Bracket closer kind ≡ p = cc in subst (λ x. weight x < weight inside + 2) same (omega arith)
lighter (Pair opener kind inside (Some closer)) (suc (suc (suc n))) p is = absurd (cc)
lighter (Two a b) zero p is =
    let same : a ≡ p = cc in subst (λ x. weight x < weight a + weight b + 1) same (omega arith)
lighter (Two a b) (suc zero) p is =
    let same : b ≡ p = cc in subst (λ x. weight x < weight a + weight b + 1) same (omega arith)
lighter (Two a b) (suc (suc n)) p is = absurd (cc)
lighter (Three a b c) zero p is =
    let same : a ≡ p = cc in subst (λ x. weight x < weight a + weight b + weight c + 1) same (omega arith)
lighter (Three a b c) (suc zero) p is =
    let same : b ≡ p = cc in subst (λ x. weight x < weight a + weight b + weight c + 1) same (omega arith)
lighter (Three a b c) (suc (suc zero)) p is =
    let same : c ≡ p = cc in subst (λ x. weight x < weight a + weight b + weight c + 1) same (omega arith)
lighter (Three a b c) (suc (suc (suc n))) p is = absurd (cc)

shallow : (opener : Length) (kind : ℕ) (inside : Tree) (closer : Option Length) (n : ℕ) (p : Tree)
    → slice_get (parts_of (Pair opener kind inside closer)) n ≡ Some p → depth p ≤ depth inside
shallow opener kind inside None zero p is =
    let same : Bracket opener kind ≡ p = cc in subst (λ x. depth x ≤ depth inside) same (omega arith)
shallow opener kind inside None (suc zero) p is =
    let same : inside ≡ p = cc in subst (λ x. depth x ≤ depth inside) same (omega arith)
shallow opener kind inside None (suc (suc n)) p is = absurd (cc)
shallow opener kind inside (Some closer) zero p is =
    let same : Bracket opener kind ≡ p = cc in subst (λ x. depth x ≤ depth inside) same (omega arith)
shallow opener kind inside (Some closer) (suc zero) p is =
    let same : inside ≡ p = cc in subst (λ x. depth x ≤ depth inside) same (omega arith)
shallow opener kind inside (Some closer) (suc (suc zero)) p is =
    let same : Bracket closer kind ≡ p = cc in subst (λ x. depth x ≤ depth inside) same (omega arith)
shallow opener kind inside (Some closer) (suc (suc (suc n))) p is = absurd (cc)

pair_lower : (opener : Length) (kind : ℕ) (inside : Tree) (closer : Option Length) (p : Tree) → depth p ≤ depth inside
    → height p ≤ 64 → levels p < levels (Pair opener kind inside closer)
pair_lower opener kind inside closer p deep high = omega (arith, deep, high)

list_lower : (d h : ℕ) (p : Tree) → depth p ≤ d → height p ≡ h → levels p < 65 * d + (h + 1)
list_lower d h p deep high = omega (arith, deep, high)

pub lower : (t : Tree) (n : ℕ) (p : Tree) → slice_get (parts_of t) n ≡ Some p → IsEven t → height p ≤ 64
    → levels p < levels t
lower Nothing n p is even high = absurd (cc)
lower (Text len cut) n p is even high = absurd (cc)
lower (Bracket len kind) n p is even high = absurd (cc)
lower (Lone len kinds) n p is even high = absurd (cc)
lower (Pair opener kind inside closer) n p is even high =
    pair_lower opener kind inside closer p (shallow opener kind inside closer n p is) high
lower (Two a b) zero p is even high =
    let same : a ≡ p = cc in subst (λ x. levels x < levels (Two a b)) same
    (list_lower (max (depth a) (depth b)) (height a) a (grind (arith, nat_tests)) refl)
lower (Two a b) (suc zero) p is even high =
    let same : b ≡ p = cc in subst (λ x. levels x < levels (Two a b)) same
    (list_lower (max (depth a) (depth b)) (height a) b (grind (arith, nat_tests)) (sym (even.2)))
lower (Two a b) (suc (suc n)) p is even high = absurd (cc)
lower (Three a b c) zero p is even high =
    let same : a ≡ p = cc in subst (λ x. levels x < levels (Three a b c)) same
    (list_lower (max (depth a) (max (depth b) (depth c))) (height a) a (grind (arith, nat_tests)) refl)
lower (Three a b c) (suc zero) p is even high =
    let same : b ≡ p = cc in subst (λ x. levels x < levels (Three a b c)) same
    (list_lower (max (depth a) (max (depth b) (depth c))) (height a) b (grind (arith, nat_tests)) (sym (even.3)))
lower (Three a b c) (suc (suc zero)) p is even high =
    let same : c ≡ p = cc in subst (λ x. levels x < levels (Three a b c)) same
    (list_lower (max (depth a) (max (depth b) (depth c))) (height a) c (grind (arith, nat_tests)) (sym (even.4)))
lower (Three a b c) (suc (suc (suc n))) p is even high = absurd (cc)

-- ---- how long the parts before a part are
front_next : (ps : List Tree) (n : ℕ) (p : Tree) → slice_get ps n ≡ Some p
    → total (take (suc n) ps) ≡ plus (total (take n ps)) (length_of p)
front_next [] n p is = absurd (cc)
front_next (q ∷ qs) zero p is =
    let same : q ≡ p = cc in
    plus_none (length_of q) ∙ ap (λ x. length_of x) same ∙ sym (none_plus (length_of p))
front_next (q ∷ qs) (suc n) p is = ap (λ l. plus (length_of q) l) (front_next qs n p is)
    ∙ sym (plus_assoc (length_of q) (total (take n qs)) (length_of p))

front_end : (ps : List Tree) (n : ℕ) → slice_get ps n ≡ None → total (take (suc n) ps) ≡ total (take n ps)
front_end [] zero is = refl
front_end [] (suc n) is = refl
front_end (q ∷ qs) zero is = absurd (cc)
front_end (q ∷ qs) (suc n) is = ap (λ l. plus (length_of q) l) (front_end qs n is)

pub front_behind : (t : Tree) (m n : ℕ) (p : Tree) → m ≡ suc n → slice_get (parts_of t) n ≡ Some p
    → front m t ≡ plus (front n t) (length_of p)
front_behind t m n p next is = ap (λ k. front k t) next ∙ front_next (parts_of t) n p is

pub front_same : (t : Tree) (m n : ℕ) → m ≡ suc n → IsPart t n None → front m t ≡ front n t
front_same t m n next (inl none) = ap (λ k. front k t) next ∙ front_end (parts_of t) n none
front_same t m n next (inr nothing) = ap (λ k. front k t) next ∙ front_next (parts_of t) n Nothing nothing
    ∙ plus_none (front n t)

-- three parts at most
pub no_more : (t : Tree) → (parts_of t ≡ []) ⊎ (front 3 t ≡ length_of t)
no_more Nothing = inl refl
no_more (Text len cut) = inl refl
no_more (Bracket len kind) = inl refl
no_more (Lone len kinds) = inl refl
no_more (Pair opener kind inside None) = inr (parts_total (Pair opener kind inside None) 0 _ refl)
no_more (Pair opener kind inside (Some closer)) = inr (parts_total (Pair opener kind inside (Some closer)) 0 _ refl)
no_more (Two a b) = inr (parts_total (Two a b) 0 _ refl)
no_more (Three a b c) = inr (parts_total (Three a b c) 0 _ refl)

-- a node starts where it starts
pub first_here : (t : Tree) → is_some (length_of t) ≡ true
    → starting t no_length ≡ t ∷ starting_in (parts_of t) no_length no_length
first_here t some = opened t no_length no_length
    ∙ ap (λ l. l ++ starting_in (parts_of t) no_length no_length) (here_itself t some)
