-- Where the nodes of a tree start.
use Rattle.std.proofs.Common.{◌≡◌, ℕ, ◌&&◌, if◌then◌else◌, List, [], ◌∷◌, ◌++◌, Bool, true, false, Option, Some, None}
use Rattle.std.proofs.Common.{refl, sym, ap, ◌∙◌, subst, inl, inr}
use Rattle.std.proofs.lemmas.Bool.{cases_Bool, true≢false}
use Rattle.text_pos.specs.declared.length.Length.{Length}
use Rattle.text_pos.specs.Lengths.{plus}
use Rattle.tree_defs.specs.Tree.{Tree, Nothing, Text, Bracket, Lone, Pair, Two, Three}
use Rattle.tree_defs.specs.Shape.{length_of, and_closer}
use Rattle.tree_defs.proofs.Lengths.{plus_assoc}
use Rattle.node_reader.specs.Starts.{is_same, is_some, here, closer_here, starting_from}
use Rattle.node_reader.proofs.Orders.{is_less, not_itself, plus_up, less_plus, up_trans, less_up, less_same}
use Rattle.node_reader.proofs.Orders.{same_is, plus_same}

none_of : (b : Bool) (t : Tree) → b ≡ false → (if b then t ∷ [] else []) ≡ []
none_of b t h = rw h refl

both_none : (xs ys : List Tree) → xs ≡ [] → ys ≡ [] → xs ++ ys ≡ []
both_none xs ys h k = rw (h, k) refl

away : (a b : Bool) → a ≡ false → (a && b) ≡ false
away a b h = rw h refl

first_true : (a b : Bool) → (a && b) ≡ true → a ≡ true
first_true true b h = refl
first_true false b h = absurd (cc)

second_true : (a b : Bool) → (a && b) ≡ true → b ≡ true
second_true true b h = h
second_true false b h = absurd (cc)

-- ---- nothing starts before the tree
here_before : (t : Tree) (at offset : Length) → is_less offset at ≡ true → here t at offset ≡ []
here_before t at offset h =
    none_of (is_same at offset && is_some (length_of t)) t
    (away (is_same at offset) (is_some (length_of t)) (less_same offset at h))

closer_before : (kind : ℕ) (closer : Option Length) (at offset : Length) → is_less offset at ≡ true
    → closer_here kind closer at offset ≡ []
closer_before kind None at offset h = refl
closer_before kind (Some len) at offset h = here_before (Bracket len kind) at offset h

pub none_before : (t : Tree) (at offset : Length) → is_less offset at ≡ true → starting_from t at offset ≡ []
none_before Nothing at offset h = refl
none_before (Text len cut) at offset h = here_before (Text len cut) at offset h
none_before (Bracket len kind) at offset h = here_before (Bracket len kind) at offset h
none_before (Lone len kinds) at offset h = here_before (Lone len kinds) at offset h
none_before (Pair opener kind inside closer) at offset h =
    let begin = less_up offset at (plus at opener) h (plus_up at opener) in
    let end = less_up offset (plus at opener) (plus (plus at opener) (length_of inside)) begin
    (plus_up (plus at opener) (length_of inside)) in
    both_none _ _ (here_before (Pair opener kind inside closer) at offset h)
    (both_none _ _ (here_before (Bracket opener kind) at offset h)
    (both_none _ _ (none_before inside (plus at opener) offset begin)
    (closer_before kind closer (plus (plus at opener) (length_of inside)) offset end)))
none_before (Two a b) at offset h =
    both_none _ _ (here_before (Two a b) at offset h)
    (both_none _ _ (none_before a at offset h)
    (none_before b (plus at (length_of a)) offset (less_up offset at (plus at (length_of a)) h (plus_up at (length_of a)))))
none_before (Three a b c) at offset h =
    let second = less_up offset at (plus at (length_of a)) h (plus_up at (length_of a)) in
    let third = less_up offset (plus at (length_of a)) (plus (plus at (length_of a)) (length_of b)) second
    (plus_up (plus at (length_of a)) (length_of b)) in
    both_none _ _ (here_before (Three a b c) at offset h)
    (both_none _ _ (none_before a at offset h)
    (both_none _ _ (none_before b (plus at (length_of a)) offset second)
    (none_before c (plus (plus at (length_of a)) (length_of b)) offset third)))

-- ---- nothing starts behind the tree
less_here : (at offset len : Length) → (is_same at offset && is_some len) ≡ true → is_less offset (plus at len) ≡ true
less_here at offset len is =
    subst (λ o. is_less o (plus at len) ≡ true) (same_is at offset (first_true (is_same at offset) (is_some len) is))
    (less_plus at len (second_true (is_same at offset) (is_some len) is))

here_behind : (t : Tree) (at offset : Length) → is_less offset (plus at (length_of t)) ≡ false → here t at offset ≡ []
here_behind t at offset h = elim (cases_Bool (is_same at offset && is_some (length_of t))) [
  | inl is ↦ absurd (true≢false (sym (less_here at offset (length_of t) is) ∙ h))
  | inr isnt ↦ none_of (is_same at offset && is_some (length_of t)) t isnt
]

closer_behind : (kind : ℕ) (closer : Option Length) (at offset : Length)
    → is_less offset (and_closer at closer) ≡ false → closer_here kind closer at offset ≡ []
closer_behind kind None at offset h = refl
closer_behind kind (Some len) at offset h = here_behind (Bracket len kind) at offset h

-- a pair's end, by its parts
pair_end : (at o i : Length) (closer : Option Length)
    → plus at (and_closer (plus o i) closer) ≡ and_closer (plus (plus at o) i) closer
pair_end at o i None = sym (plus_assoc at o i)
pair_end at o i (Some c) = sym (plus_assoc at (plus o i) c) ∙ ap (λ l. plus l c) (sym (plus_assoc at o i))

closer_up : (at : Length) (closer : Option Length) → is_less (and_closer at closer) at ≡ false
closer_up at None = not_itself at
closer_up at (Some c) = plus_up at c

pub none_behind : (t : Tree) (at offset : Length) → is_less offset (plus at (length_of t)) ≡ false
    → starting_from t at offset ≡ []
none_behind Nothing at offset h = refl
none_behind (Text len cut) at offset h = here_behind (Text len cut) at offset h
none_behind (Bracket len kind) at offset h = here_behind (Bracket len kind) at offset h
none_behind (Lone len kinds) at offset h = here_behind (Lone len kinds) at offset h
none_behind (Pair opener kind inside closer) at offset h =
    let begin = plus at opener in
    let end = plus begin (length_of inside) in
    let last = subst (λ p. is_less offset p ≡ false) (pair_end at opener (length_of inside) closer) h in
    let mid = up_trans end (and_closer end closer) offset (closer_up end closer) last in
    both_none _ _ (here_behind (Pair opener kind inside closer) at offset h)
    (both_none _ _ (here_behind (Bracket opener kind) at offset
    (up_trans begin end offset (plus_up begin (length_of inside)) mid))
    (both_none _ _ (none_behind inside begin offset mid) (closer_behind kind closer end offset last)))
none_behind (Two a b) at offset h =
    let last = subst (λ p. is_less offset p ≡ false) (sym (plus_assoc at (length_of a) (length_of b))) h in
    let mid = up_trans (plus at (length_of a)) (plus (plus at (length_of a)) (length_of b)) offset
    (plus_up (plus at (length_of a)) (length_of b)) last in
    both_none _ _ (here_behind (Two a b) at offset h)
    (both_none _ _ (none_behind a at offset mid) (none_behind b (plus at (length_of a)) offset last))
none_behind (Three a b c) at offset h =
    let second = plus at (length_of a) in
    let third = plus second (length_of b) in
    let last = subst (λ p. is_less offset p ≡ false)
    (sym (plus_assoc at (plus (length_of a) (length_of b)) (length_of c))
    ∙ ap (λ p. plus p (length_of c)) (sym (plus_assoc at (length_of a) (length_of b)))) h in
    let near = up_trans third (plus third (length_of c)) offset (plus_up third (length_of c)) last in
    let mid = up_trans second third offset (plus_up second (length_of b)) near in
    both_none _ _ (here_behind (Three a b c) at offset h)
    (both_none _ _ (none_behind a at offset mid)
    (both_none _ _ (none_behind b second offset near) (none_behind c third offset last)))

-- ---- a tree and an offset may be moved together
here_moved : (t : Tree) (s at offset : Length) → here t (plus s at) (plus s offset) ≡ here t at offset
here_moved t s at offset =
    ap (λ is. if is && is_some (length_of t) then t ∷ [] else []) (plus_same s at offset)

closer_moved : (kind : ℕ) (closer : Option Length) (s at offset : Length)
    → closer_here kind closer (plus s at) (plus s offset) ≡ closer_here kind closer at offset
closer_moved kind None s at offset = refl
closer_moved kind (Some len) s at offset = here_moved (Bracket len kind) s at offset

joined : (xs xs2 ys ys2 : List Tree) → xs ≡ xs2 → ys ≡ ys2 → xs ++ ys ≡ xs2 ++ ys2
joined xs xs2 ys ys2 h k = rw (h, k) refl

pub moved : (t : Tree) (s at offset : Length)
    → starting_from t (plus s at) (plus s offset) ≡ starting_from t at offset
moved Nothing s at offset = refl
moved (Text len cut) s at offset = here_moved (Text len cut) s at offset
moved (Bracket len kind) s at offset = here_moved (Bracket len kind) s at offset
moved (Lone len kinds) s at offset = here_moved (Lone len kinds) s at offset
moved (Pair opener kind inside closer) s at offset =
    joined _ _ _ _ (here_moved (Pair opener kind inside closer) s at offset)
    (joined _ _ _ _ (here_moved (Bracket opener kind) s at offset)
    (joined _ _ _ _ (ap (λ p. starting_from inside p (plus s offset)) (plus_assoc s at opener)
    ∙ moved inside s (plus at opener) offset)
    (ap (λ p. closer_here kind closer p (plus s offset))
    (ap (λ p. plus p (length_of inside)) (plus_assoc s at opener) ∙ plus_assoc s (plus at opener) (length_of inside))
    ∙ closer_moved kind closer s (plus (plus at opener) (length_of inside)) offset)))
moved (Two a b) s at offset =
    joined _ _ _ _ (here_moved (Two a b) s at offset)
    (joined _ _ _ _ (moved a s at offset)
    (ap (λ p. starting_from b p (plus s offset)) (plus_assoc s at (length_of a))
    ∙ moved b s (plus at (length_of a)) offset))
moved (Three a b c) s at offset =
    joined _ _ _ _ (here_moved (Three a b c) s at offset)
    (joined _ _ _ _ (moved a s at offset)
    (joined _ _ _ _ (ap (λ p. starting_from b p (plus s offset)) (plus_assoc s at (length_of a))
    ∙ moved b s (plus at (length_of a)) offset)
    (ap (λ p. starting_from c p (plus s offset)) (ap (λ p. plus p (length_of b)) (plus_assoc s at (length_of a))
    ∙ plus_assoc s (plus at (length_of a)) (length_of b))
    ∙ moved c s (plus (plus at (length_of a)) (length_of b)) offset)))
