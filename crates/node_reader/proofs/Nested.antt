-- Of the nodes that start at an offset each lies in the one before, and so is no longer.
use Rattle.std.proofs.Common.{◌≡◌, ℕ, ◌&&◌, if◌then◌else◌, List, [], ◌∷◌, ◌++◌, Bool, true, false, Option, Some, None}
use Rattle.std.proofs.Common.{refl, sym, subst, inl, inr, append-nil}
use Rattle.std.proofs.lemmas.Bool.{cases_Bool}
use Rattle.text_pos.specs.declared.length.Length.{Length}
use Rattle.text_pos.specs.Lengths.{plus}
use Rattle.tree_defs.specs.Tree.{Tree, Nothing, Text, Bracket, Lone, Pair, Two, Three}
use Rattle.tree_defs.specs.Shape.{no_length, length_of, and_closer}
use Rattle.tree_defs.specs.Cuts.{IsIn}
use Rattle.node_reader.specs.Starts.{is_same, is_some, here, closer_here, starting_from, starting}
use Rattle.node_reader.specs.Asks.{IsPassing, IsFirst}
use Rattle.node_reader.specs.Laws.{IsBest, LongestLaw}
use Rattle.node_reader.specs.declared.ask.Ask.{Ask}
use Rattle.node_reader.proofs.Orders.{is_less, not_itself, not_less, plus_up, plus_behind, up_trans, less_up}
use Rattle.node_reader.proofs.Starting.{none_before, none_behind}

-- no tree of some is longer than a length
abbrev UpTo : Length → List Tree → Type 0
UpTo len [] = Unit {0}
UpTo len (t ∷ ts) = (is_less len (length_of t) ≡ false) × UpTo len ts

abbrev Falls : List Tree → Type 0
Falls [] = Unit {0}
Falls (t ∷ ts) = UpTo (length_of t) ts × Falls ts

up_to_append : (len : Length) (xs ys : List Tree) → UpTo len xs → UpTo len ys → UpTo len (xs ++ ys)
up_to_append len [] ys hx hy = hy
up_to_append len (x ∷ xs) ys hx hy = (hx.0, up_to_append len xs ys hx.1 hy)

up_to_more : (len more : Length) (ts : List Tree) → is_less more len ≡ false → UpTo len ts → UpTo more ts
up_to_more len more [] h ts = tt
up_to_more len more (t ∷ ts) h up = (up_trans (length_of t) len more up.0 h, up_to_more len more ts h up.1)

up_to_in : (len : Length) (ts : List Tree) (other : Tree) → UpTo len ts → IsIn other ts
    → is_less len (length_of other) ≡ false
up_to_in len [] other up there = absurd there
up_to_in len (t ∷ ts) other up (inl is) = subst (λ x. is_less len (length_of x) ≡ false) (sym is) up.0
up_to_in len (t ∷ ts) other up (inr later) = up_to_in len ts other up.1 later

here_up_to : (b : Bool) (t : Tree) → UpTo (length_of t) (if b then t ∷ [] else [])
here_up_to true t = (not_itself (length_of t), tt)
here_up_to false t = tt

-- ---- what starts in a tree is no longer
closer_up_to : (kind : ℕ) (closer : Option Length) (front at offset : Length)
    → UpTo (and_closer front closer) (closer_here kind closer at offset)
closer_up_to kind None front at offset = tt
closer_up_to kind (Some len) front at offset =
    up_to_more len (plus front len) (here (Bracket len kind) at offset) (plus_behind front len)
    (here_up_to (is_same at offset && is_some len) (Bracket len kind))

and_up : (front : Length) (closer : Option Length) → is_less (and_closer front closer) front ≡ false
and_up front None = not_itself front
and_up front (Some len) = plus_up front len

pub no_longer : (t : Tree) (at offset : Length) → UpTo (length_of t) (starting_from t at offset)
no_longer Nothing at offset = tt
no_longer (Text len cut) at offset = here_up_to (is_same at offset && is_some len) (Text len cut)
no_longer (Bracket len kind) at offset = here_up_to (is_same at offset && is_some len) (Bracket len kind)
no_longer (Lone len kinds) at offset = here_up_to (is_same at offset && is_some len) (Lone len kinds)
no_longer (Pair opener kind inside closer) at offset =
    let p = Pair opener kind inside closer in
    let front = plus opener (length_of inside) in
    up_to_append (length_of p) (here p at offset) _ (here_up_to (is_same at offset && is_some (length_of p)) p)
    (up_to_append (length_of p) (here (Bracket opener kind) at offset) _
    (up_to_more opener (length_of p) (here (Bracket opener kind) at offset)
    (up_trans opener front (length_of p) (plus_up opener (length_of inside)) (and_up front closer))
    (here_up_to (is_same at offset && is_some opener) (Bracket opener kind)))
    (up_to_append (length_of p) (starting_from inside (plus at opener) offset) _
    (up_to_more (length_of inside) (length_of p) (starting_from inside (plus at opener) offset)
    (up_trans (length_of inside) front (length_of p) (plus_behind opener (length_of inside)) (and_up front closer))
    (no_longer inside (plus at opener) offset))
    (closer_up_to kind closer front (plus (plus at opener) (length_of inside)) offset)))
no_longer (Two a b) at offset =
    let len = plus (length_of a) (length_of b) in
    up_to_append len (here (Two a b) at offset) _ (here_up_to (is_same at offset && is_some len) (Two a b))
    (up_to_append len (starting_from a at offset) _
    (up_to_more (length_of a) len (starting_from a at offset) (plus_up (length_of a) (length_of b))
    (no_longer a at offset))
    (up_to_more (length_of b) len (starting_from b (plus at (length_of a)) offset)
    (plus_behind (length_of a) (length_of b)) (no_longer b (plus at (length_of a)) offset)))
no_longer (Three a b c) at offset =
    let two = plus (length_of a) (length_of b) in
    let len = plus two (length_of c) in
    up_to_append len (here (Three a b c) at offset) _ (here_up_to (is_same at offset && is_some len) (Three a b c))
    (up_to_append len (starting_from a at offset) _
    (up_to_more (length_of a) len (starting_from a at offset)
    (up_trans (length_of a) two len (plus_up (length_of a) (length_of b)) (plus_up two (length_of c)))
    (no_longer a at offset))
    (up_to_append len (starting_from b (plus at (length_of a)) offset) _
    (up_to_more (length_of b) len (starting_from b (plus at (length_of a)) offset)
    (up_trans (length_of b) two len (plus_behind (length_of a) (length_of b)) (plus_up two (length_of c)))
    (no_longer b (plus at (length_of a)) offset))
    (up_to_more (length_of c) len (starting_from c (plus (plus at (length_of a)) (length_of b)) offset)
    (plus_behind two (length_of c)) (no_longer c (plus (plus at (length_of a)) (length_of b)) offset))))

-- ---- each is no longer than those before it
-- only one of two neighbours has something that starts at the offset
one_falls : (xs ys : List Tree) (offset mid : Length) → (is_less offset mid ≡ true → ys ≡ [])
    → (is_less offset mid ≡ false → xs ≡ []) → Falls xs → Falls ys → Falls (xs ++ ys)
one_falls xs ys offset mid early late fx fy = elim (cases_Bool (is_less offset mid)) [
  | inl before ↦ rw (early before, append-nil xs) fx
  | inr behind ↦ rw (late behind) fy
]

here_falls : (b : Bool) (t : Tree) (ts : List Tree) → UpTo (length_of t) ts → Falls ts
    → Falls ((if b then t ∷ [] else []) ++ ts)
here_falls true t ts up falls = (up, falls)
here_falls false t ts up falls = falls

alone_falls : (b : Bool) (t : Tree) → Falls (if b then t ∷ [] else [])
alone_falls true t = (tt, tt)
alone_falls false t = tt

none_in_closer : (kind : ℕ) (closer : Option Length) (at offset : Length) → is_less offset at ≡ true
    → closer_here kind closer at offset ≡ []
none_in_closer kind None at offset h = refl
none_in_closer kind (Some len) at offset h = none_before (Bracket len kind) at offset h

closer_falls : (kind : ℕ) (closer : Option Length) (at offset : Length) → Falls (closer_here kind closer at offset)
closer_falls kind None at offset = tt
closer_falls kind (Some len) at offset = alone_falls (is_same at offset && is_some len) (Bracket len kind)

none_both : (xs ys : List Tree) → xs ≡ [] → ys ≡ [] → xs ++ ys ≡ []
none_both xs ys h k = rw (h, k) refl

behind_front : (xs ys : List Tree) (len : Length) → UpTo len (xs ++ ys) → UpTo len ys
behind_front [] ys len up = up
behind_front (x ∷ xs) ys len up = behind_front xs ys len up.1

pub falling : (t : Tree) (at offset : Length) → Falls (starting_from t at offset)
falling Nothing at offset = tt
falling (Text len cut) at offset = alone_falls (is_same at offset && is_some len) (Text len cut)
falling (Bracket len kind) at offset = alone_falls (is_same at offset && is_some len) (Bracket len kind)
falling (Lone len kinds) at offset = alone_falls (is_same at offset && is_some len) (Lone len kinds)
falling (Pair opener kind inside closer) at offset =
    let p = Pair opener kind inside closer in
    let begin = plus at opener in
    let end = plus begin (length_of inside) in
    here_falls (is_same at offset && is_some (length_of p)) p _
    (behind_front (here p at offset) _ (length_of p) (no_longer p at offset))
    (one_falls (here (Bracket opener kind) at offset)
    (starting_from inside begin offset ++ closer_here kind closer end offset) offset begin
    (λ h. none_both _ _ (none_before inside begin offset h)
    (none_in_closer kind closer end offset (less_up offset begin end h (plus_up begin (length_of inside)))))
    (λ h. none_behind (Bracket opener kind) at offset h)
    (alone_falls (is_same at offset && is_some opener) (Bracket opener kind))
    (one_falls (starting_from inside begin offset) (closer_here kind closer end offset) offset end
    (λ h. none_in_closer kind closer end offset h) (λ h. none_behind inside begin offset h)
    (falling inside begin offset) (closer_falls kind closer end offset)))
falling (Two a b) at offset =
    let mid = plus at (length_of a) in
    here_falls (is_same at offset && is_some (length_of (Two a b))) (Two a b) _
    (behind_front (here (Two a b) at offset) _ (length_of (Two a b)) (no_longer (Two a b) at offset))
    (one_falls (starting_from a at offset) (starting_from b mid offset) offset mid
    (λ h. none_before b mid offset h) (λ h. none_behind a at offset h) (falling a at offset) (falling b mid offset))
falling (Three a b c) at offset =
    let mid = plus at (length_of a) in
    let last = plus mid (length_of b) in
    here_falls (is_same at offset && is_some (length_of (Three a b c))) (Three a b c) _
    (behind_front (here (Three a b c) at offset) _ (length_of (Three a b c)) (no_longer (Three a b c) at offset))
    (one_falls (starting_from a at offset) (starting_from b mid offset ++ starting_from c last offset) offset mid
    (λ h. none_both _ _ (none_before b mid offset h)
    (none_before c last offset (less_up offset mid last h (plus_up mid (length_of b)))))
    (λ h. none_behind a at offset h) (falling a at offset)
    (one_falls (starting_from b mid offset) (starting_from c last offset) offset last
    (λ h. none_before c last offset h) (λ h. none_behind b mid offset h) (falling b mid offset)
    (falling c last offset)))

-- ---- the first that passes is the longest
none_passing : (ask : Ask) (found : Option Tree) (other : Tree) → ¬ IsPassing ask other → IsBest ask found other
none_passing ask None other h = h
none_passing ask (Some t) other h = λ can. absurd (h can)

best : (ask : Ask) (ts : List Tree) (found : Option Tree) → Falls ts → IsFirst ask ts found → (other : Tree)
    → IsIn other ts → IsBest ask found other
best ask [] found falls first other there = absurd there
best ask (t ∷ ts) found falls (inl here) other (inl is) =
    subst (λ f. IsBest ask f other) (sym here.1)
    (λ can. not_less (length_of t) (length_of other)
    (subst (λ x. is_less (length_of t) (length_of x) ≡ false) (sym is) (not_itself (length_of t))))
best ask (t ∷ ts) found falls (inl here) other (inr later) =
    subst (λ f. IsBest ask f other) (sym here.1)
    (λ can. not_less (length_of t) (length_of other) (up_to_in (length_of t) ts other falls.0 later))
best ask (t ∷ ts) found falls (inr next) other (inl is) =
    none_passing ask found other (subst (λ x. ¬ IsPassing ask x) (sym is) next.0)
best ask (t ∷ ts) found falls (inr next) other (inr later) = best ask ts found falls.1 next.1 other later

pub longest : LongestLaw
longest ask t offset found first other there =
    best ask (starting t offset) found (falling t no_length offset) first other there
