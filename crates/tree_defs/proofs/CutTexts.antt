-- Cut openers and the texts that hold them.
use Rattle.std.proofs.Common.{◌≡◌, ℕ, ◌+◌, ◌<◌, ◌≤◌, ◌⊎◌, nat_le, List, [], ◌∷◌, ◌++◌, length, Bool, true, false}
use Rattle.std.proofs.Common.{if◌then◌else◌}
use Rattle.text_pos.specs.KindSet.{has_kind}
use Rattle.std.proofs.Common.{refl, sym, ap, ◌∙◌, subst, arith, append_assoc, inl, inr}
use Rattle.std.proofs.lemmas.Bool.Decides.{nat_tests}
use Rattle.text_pos.specs.declared.length.Length.{Length}
use Rattle.text_pos.specs.declared.kinds.Kinds.{Kinds}
use Rattle.text_pos.specs.Lengths.{plus, IsLess}
use Rattle.pairing_defs.specs.declared.Role.{Role}
use Rattle.pairing_defs.specs.declared.Role.TheVariants.{Opener, Closer}
use Rattle.pairing_defs.specs.declared.Mark.{Mark}
use Rattle.pairing_defs.specs.Pairing.{Entry, Open, from_last, open_by, open_after, nothing_open}
use Rattle.tree_defs.specs.Items.{Items, end, text, lone, pair, unclosed, stray, items_of, behind, left_by, missed_in}
use Rattle.tree_defs.specs.Items.{IsOpener, AreOpeners, AreCut, IsWithin, AreWithin, Stands}
use Rattle.tree_defs.specs.Reuse.{Clear, Walked}
use Rattle.tree_defs.specs.Rows.{start}
use Rattle.tree_defs.specs.Cuts.{cut_by, cut_from, Piece, texts_from, IsIn, AreSome}
use Rattle.tree_defs.specs.Cuts.{LiesIn, IsHeld, Holds, CutLaw}
use Rattle.tree_defs.proofs.Steps.{none_taken, taken_behind}
use Rattle.tree_defs.proofs.Walk.{or_left, or_right, clear_less, walks, no_cuts, lone_clear}

-- ---- membership
in_front : {X : Type 0} (x : X) (xs ys : List X) → IsIn x xs → IsIn x (xs ++ ys)
in_front x [] ys is = absurd is
in_front x (y ∷ xs) ys (inl same) = inl same
in_front x (y ∷ xs) ys (inr is) = inr (in_front x xs ys is)

in_back : {X : Type 0} (x : X) (xs ys : List X) → IsIn x ys → IsIn x (xs ++ ys)
in_back x [] ys is = is
in_back x (y ∷ xs) ys is = inr (in_back x xs ys is)

more_left : {X : Type 0} (x y : X) (xs ys : List X) → IsIn x xs ⊎ IsIn x ys → IsIn x (y ∷ xs) ⊎ IsIn x ys
more_left x y xs ys (inl is) = inl (inr is)
more_left x y xs ys (inr is) = inr is

in_part : {X : Type 0} (x : X) (xs ys : List X) → IsIn x (xs ++ ys) → IsIn x xs ⊎ IsIn x ys
in_part x [] ys is = inr is
in_part x (y ∷ xs) ys (inl same) = inl (inl same)
in_part x (y ∷ xs) ys (inr is) = more_left x y xs ys (in_part x xs ys is)

either : {A B C : Type 0} → (A → C) → (B → C) → A ⊎ B → C
either f g (inl a) = f a
either f g (inr b) = g b

-- ---- the cut openers of items, text by text
abbrev pub cuts_of : (limit level : ℕ) (its : Items) (at : Length) (ms : List Mark) → Stands limit level its at ms
    → List Mark
cuts_of limit level end at ms stands = []
cuts_of limit level (text len cut rest) at ms stands =
    stands.cuts ++ cuts_of limit level rest (plus at len) stands.more stands.rest
cuts_of limit level (lone len kinds rest) at ms stands =
    cuts_of limit level rest (plus at len) stands.more stands.rest
cuts_of limit level (pair o k inside c rest) at ms stands =
    cuts_of limit (level + 1) inside (plus at o) stands.within stands.held
    ++ cuts_of limit level rest (plus (behind inside (plus at o)) c) stands.more stands.rest
cuts_of limit level (unclosed o k inside) at ms stands =
    cuts_of limit (level + 1) inside (plus at o) stands.within stands.held
cuts_of limit level stray at ms stands = []

-- ---- places
from_plus : (a b : Length) → ¬ IsLess (plus a b) a
from_plus a b h = grind (arith, nat_tests, h)

up_to : (a b c : Length) → ¬ IsLess b a → ¬ IsLess c b → ¬ IsLess c a
up_to a b c h k (inl l) = grind (arith, h, k, l)
up_to a b c h k (inr l) = grind (arith, h, k, l)

up_to_itself : (a : Length) → ¬ IsLess a a
up_to_itself a (inl l) = omega (arith, l)
up_to_itself a (inr l) = let m = l.1 in omega (arith, m)

ends_on : (its : Items) (at : Length) → ¬ IsLess (behind its at) at
ends_on end at = up_to_itself at
ends_on (text len cut rest) at =
    up_to at (plus at len) (behind rest (plus at len)) (from_plus at len) (ends_on rest (plus at len))
ends_on (lone len kinds rest) at =
    up_to at (plus at len) (behind rest (plus at len)) (from_plus at len) (ends_on rest (plus at len))
ends_on (pair o k inside c rest) at =
    let from = behind inside (plus at o) in
    up_to at from (behind rest (plus from c))
    (up_to at (plus at o) from (from_plus at o) (ends_on inside (plus at o)))
    (up_to from (plus from c) (behind rest (plus from c)) (from_plus from c) (ends_on rest (plus from c)))
ends_on (unclosed o k inside) at =
    up_to at (plus at o) (behind inside (plus at o)) (from_plus at o) (ends_on inside (plus at o))
ends_on stray at = up_to_itself at

-- a pair's inside ends before what is behind the pair
low : (inside : Items) (at o c : Length) → ¬ IsLess (plus (behind inside (plus at o)) c) at
low inside at o c =
    let from = behind inside (plus at o) in
    up_to at from (plus from c) (up_to at (plus at o) from (from_plus at o) (ends_on inside (plus at o)))
    (from_plus from c)

high : (inside rest : Items) (at o c : Length)
    → ¬ IsLess (behind rest (plus (behind inside (plus at o)) c)) (behind inside (plus at o))
high inside rest at o c =
    let from = behind inside (plus at o) in
    up_to from (plus from c) (behind rest (plus from c)) (from_plus from c) (ends_on rest (plus from c))

-- a mark between two places
record Between (lo hi : Length) (m : Mark) : Type 0 where
  pub from : ¬ IsLess (record { lines = m.at.line; cols = m.at.col }) lo
  pub to : ¬ IsLess hi (record { lines = m.at.line; cols = m.to })

wider : (lo lo2 hi hi2 : Length) (m : Mark) → ¬ IsLess lo lo2 → ¬ IsLess hi2 hi → Between lo hi m → Between lo2 hi2 m
wider lo lo2 hi hi2 m low high b = record {
  from = up_to lo2 lo (record { lines = m.at.line; cols = m.at.col }) low b.from;
  to = up_to (record { lines = m.at.line; cols = m.to }) hi hi2 b.to high;
}

-- a mark that takes columns can't end where it starts
apart : (m : Mark) (x : Length) → m.at.col < m.to → ¬ IsLess x (record { lines = m.at.line; cols = m.to })
    → ¬ IsLess (record { lines = m.at.line; cols = m.at.col }) x → ⊥
apart m x some to from = grind (arith, some, to, from)

-- ---- the cut openers lie in their texts
abbrev Inner : (limit level : ℕ) (its : Items) (at : Length) (ms : List Mark) → Stands limit level its at ms → Type 0
Inner limit level its at ms stands = (m : Mark) → IsIn m (cuts_of limit level its at ms stands)
    → Between at (behind its at) m

in_all : (at len : Length) (ms : List Mark) → AreWithin at len ms → (m : Mark) → IsIn m ms → IsWithin at len m
in_all at len [] within m is = absurd is
in_all at len (x ∷ ms) within m (inl same) = subst (λ y. IsWithin at len y) (sym same) within.0
in_all at len (x ∷ ms) within m (inr is) = in_all at len ms within.1 m is

as_between : (at len : Length) (m : Mark) → IsWithin at len m → Between at (plus at len) m
as_between at len m w = record { from = w.from; to = w.to }

inner : (limit level : ℕ) (its : Items) (at : Length) (ms : List Mark) (stands : Stands limit level its at ms)
    → Inner limit level its at ms stands
inner limit level end at ms stands m is = absurd is
inner limit level (text len cut rest) at ms stands m is =
    either (λ a. wider at at (plus at len) (behind rest (plus at len)) m (up_to_itself at) (ends_on rest (plus at len))
    (as_between at len m (in_all at len stands.cuts stands.lie m a)))
    (λ b. wider (plus at len) at (behind rest (plus at len)) (behind rest (plus at len)) m (from_plus at len)
    (up_to_itself (behind rest (plus at len))) (inner limit level rest (plus at len) stands.more stands.rest m b))
    (in_part m stands.cuts (cuts_of limit level rest (plus at len) stands.more stands.rest) is)
inner limit level (lone len kinds rest) at ms stands m is =
    wider (plus at len) at (behind rest (plus at len)) (behind rest (plus at len)) m (from_plus at len)
    (up_to_itself (behind rest (plus at len))) (inner limit level rest (plus at len) stands.more stands.rest m is)
inner limit level (pair o k inside c rest) at ms stands m is =
    let from = behind inside (plus at o) in
    either (λ a. wider (plus at o) at from (behind rest (plus from c)) m (from_plus at o) (high inside rest at o c)
    (inner limit (level + 1) inside (plus at o) stands.within stands.held m a))
    (λ b. wider (plus from c) at (behind rest (plus from c)) (behind rest (plus from c)) m
    (low inside at o c) (up_to_itself (behind rest (plus from c)))
    (inner limit level rest (plus from c) stands.more stands.rest m b))
    (in_part m (cuts_of limit (level + 1) inside (plus at o) stands.within stands.held)
    (cuts_of limit level rest (plus from c) stands.more stands.rest) is)
inner limit level (unclosed o k inside) at ms stands m is =
    wider (plus at o) at (behind inside (plus at o)) (behind inside (plus at o)) m (from_plus at o)
    (up_to_itself (behind inside (plus at o)))
    (inner limit (level + 1) inside (plus at o) stands.within stands.held m is)
inner limit level stray at ms stands m is = absurd is

-- texts lie between the same places
record Spans (lo hi : Length) (p : Piece) : Type 0 where
  pub from : ¬ IsLess p.at lo
  pub to : ¬ IsLess hi (plus p.at p.len)

spread : (lo lo2 hi hi2 : Length) (p : Piece) → ¬ IsLess lo lo2 → ¬ IsLess hi2 hi → Spans lo hi p → Spans lo2 hi2 p
spread lo lo2 hi hi2 p low high s = record {
  from = up_to lo2 lo p.at low s.from;
  to = up_to (plus p.at p.len) hi hi2 s.to high;
}

texts_in : (its : Items) (at : Length) (p : Piece) → IsIn p (texts_from its at) → Spans at (behind its at) p
texts_in end at p is = absurd is
texts_in (text len cut rest) at p (inl same) = subst (λ x. Spans at (behind rest (plus at len)) x) (sym same)
    (record { from = up_to_itself at; to = ends_on rest (plus at len) })
texts_in (text len cut rest) at p (inr is) =
    spread (plus at len) at (behind rest (plus at len)) (behind rest (plus at len)) p (from_plus at len)
    (up_to_itself (behind rest (plus at len))) (texts_in rest (plus at len) p is)
texts_in (lone len kinds rest) at p is =
    spread (plus at len) at (behind rest (plus at len)) (behind rest (plus at len)) p (from_plus at len)
    (up_to_itself (behind rest (plus at len))) (texts_in rest (plus at len) p is)
texts_in (pair o k inside c rest) at p is =
    let from = behind inside (plus at o) in
    either (λ a. spread (plus at o) at from (behind rest (plus from c)) p (from_plus at o) (high inside rest at o c)
    (texts_in inside (plus at o) p a))
    (λ b. spread (plus from c) at (behind rest (plus from c)) (behind rest (plus from c)) p (low inside at o c)
    (up_to_itself (behind rest (plus from c))) (texts_in rest (plus from c) p b))
    (in_part p (texts_from inside (plus at o)) (texts_from rest (plus from c)) is)
texts_in (unclosed o k inside) at p is =
    spread (plus at o) at (behind inside (plus at o)) (behind inside (plus at o)) p (from_plus at o)
    (up_to_itself (behind inside (plus at o))) (texts_in inside (plus at o) p is)
texts_in stray at p is = absurd is

-- a mark that takes columns isn't both in a text and behind it, nor both in it and before it
not_behind : (m : Mark) (p : Piece) (x hi : Length) → m.at.col < m.to → LiesIn m p → ¬ IsLess x (plus p.at p.len)
    → Between x hi m → ⊥
not_behind m p x hi some lies ends b =
    apart m x some (up_to (record { lines = m.at.line; cols = m.to }) (plus p.at p.len) x lies.to ends) b.from

not_before : (m : Mark) (p : Piece) (lo x : Length) → m.at.col < m.to → LiesIn m p → ¬ IsLess p.at x → Between lo x m
    → ⊥
not_before m p lo x some lies starts b =
    apart m x some b.to (up_to x p.at (record { lines = m.at.line; cols = m.at.col }) starts lies.from)

-- ---- held, and cut where held
held_more : (m : Mark) (ps qs : List Piece) → IsHeld m ps → IsHeld m (ps ++ qs)
held_more m ps qs h = record { piece = h.piece; there = in_front h.piece ps qs h.there; lies = h.lies }

held_behind : (m : Mark) (ps qs : List Piece) → IsHeld m qs → IsHeld m (ps ++ qs)
held_behind m ps qs h = record { piece = h.piece; there = in_back h.piece ps qs h.there; lies = h.lies }

here_held : (m : Mark) (p : Piece) (ps : List Piece) → LiesIn m p → IsHeld m (p ∷ ps)
here_held m p ps lies = record { piece = p; there = inl refl; lies = lies }

all_held : (limit level : ℕ) (its : Items) (at : Length) (ms : List Mark) (stands : Stands limit level its at ms)
    (m : Mark) → IsIn m (cuts_of limit level its at ms stands) → IsHeld m (texts_from its at)
all_held limit level end at ms stands m is = absurd is
all_held limit level (text len cut rest) at ms stands m is =
    let first : Piece = record { at = at; len = len; cut = cut } in
    either (λ a. here_held m first (texts_from rest (plus at len)) (in_all at len stands.cuts stands.lie m a))
    (λ b. held_behind m (first ∷ []) (texts_from rest (plus at len))
    (all_held limit level rest (plus at len) stands.more stands.rest m b))
    (in_part m stands.cuts (cuts_of limit level rest (plus at len) stands.more stands.rest) is)
all_held limit level (lone len kinds rest) at ms stands m is =
    all_held limit level rest (plus at len) stands.more stands.rest m is
all_held limit level (pair o k inside c rest) at ms stands m is =
    let from = behind inside (plus at o) in
    either (λ a. held_more m (texts_from inside (plus at o)) (texts_from rest (plus from c))
    (all_held limit (level + 1) inside (plus at o) stands.within stands.held m a))
    (λ b. held_behind m (texts_from inside (plus at o)) (texts_from rest (plus from c))
    (all_held limit level rest (plus from c) stands.more stands.rest m b))
    (in_part m (cuts_of limit (level + 1) inside (plus at o) stands.within stands.held)
    (cuts_of limit level rest (plus from c) stands.more stands.rest) is)
all_held limit level (unclosed o k inside) at ms stands m is =
    all_held limit (level + 1) inside (plus at o) stands.within stands.held m is
all_held limit level stray at ms stands m is = absurd is

-- a text that is cut holds a mark
holds_more : (p : Piece) (ms ns : List Mark) → Holds p ms → Holds p (ms ++ ns)
holds_more p ms ns h = record { mark = h.mark; there = in_front h.mark ms ns h.there; lies = h.lies }

holds_behind : (p : Piece) (ms ns : List Mark) → Holds p ns → Holds p (ms ++ ns)
holds_behind p ms ns h = record { mark = h.mark; there = in_back h.mark ms ns h.there; lies = h.lies }

first_cut : (limit level : ℕ) (at len : Length) (cut : Bool) (cuts : List Mark) → AreCut limit level cut cuts
    → AreWithin at len cuts → cut ≡ true → Holds (record { at = at; len = len; cut = cut }) cuts
first_cut limit level at len true [] are within is = absurd are
first_cut limit level at len true (m ∷ ms) are within is = record { mark = m; there = inl refl; lies = within.0 }
first_cut limit level at len false ms are within is = cc

cut_holds : (limit level : ℕ) (its : Items) (at : Length) (ms : List Mark) (stands : Stands limit level its at ms)
    (p : Piece) → IsIn p (texts_from its at) → p.cut ≡ true → Holds p (cuts_of limit level its at ms stands)
cut_holds limit level end at ms stands p is cut = absurd is
cut_holds limit level (text len was rest) at ms stands p (inl same) cut =
    holds_more p stands.cuts (cuts_of limit level rest (plus at len) stands.more stands.rest)
    (subst (λ x. Holds x stands.cuts) (sym same)
    (first_cut limit level at len was stands.cuts stands.cut_ones stands.lie (sym (ap (λ x. x.cut) same) ∙ cut)))
cut_holds limit level (text len was rest) at ms stands p (inr is) cut =
    holds_behind p stands.cuts (cuts_of limit level rest (plus at len) stands.more stands.rest)
    (cut_holds limit level rest (plus at len) stands.more stands.rest p is cut)
cut_holds limit level (lone len kinds rest) at ms stands p is cut =
    cut_holds limit level rest (plus at len) stands.more stands.rest p is cut
cut_holds limit level (pair o k inside c rest) at ms stands p is cut =
    let from = behind inside (plus at o) in
    let fronts = cuts_of limit (level + 1) inside (plus at o) stands.within stands.held in
    let backs = cuts_of limit level rest (plus from c) stands.more stands.rest in
    either (λ a. holds_more p fronts backs
    (cut_holds limit (level + 1) inside (plus at o) stands.within stands.held p a cut))
    (λ b. holds_behind p fronts backs (cut_holds limit level rest (plus from c) stands.more stands.rest p b cut))
    (in_part p (texts_from inside (plus at o)) (texts_from rest (plus from c)) is)
cut_holds limit level (unclosed o k inside) at ms stands p is cut =
    cut_holds limit (level + 1) inside (plus at o) stands.within stands.held p is cut
cut_holds limit level stray at ms stands p is cut = absurd is

-- a text that holds a cut opener is cut
some_in : (ms : List Mark) → AreSome ms → (m : Mark) → IsIn m ms → m.at.col < m.to
some_in [] some m is = absurd is
some_in (x ∷ ms) some m (inl same) = subst (λ y. y.at.col < y.to) (sym same) some.0
some_in (x ∷ ms) some m (inr is) = some_in ms some.1 m is

none_uncut : (limit level : ℕ) (cut : Bool) (cuts : List Mark) (m : Mark) → AreCut limit level cut cuts → IsIn m cuts
    → cut ≡ true
none_uncut limit level true cuts m are is = refl
none_uncut limit level false cuts m are is = absurd (subst (λ l. IsIn m l) are is)

holder_cut : (limit level : ℕ) (its : Items) (at : Length) (ms : List Mark) (stands : Stands limit level its at ms)
    (m : Mark) → m.at.col < m.to → IsIn m (cuts_of limit level its at ms stands) → (p : Piece)
    → IsIn p (texts_from its at) → LiesIn m p → p.cut ≡ true
holder_cut limit level end at ms stands m some is p there lies = absurd is
holder_cut limit level (text len cut rest) at ms stands m some is p (inl same) lies =
    let first : Piece = record { at = at; len = len; cut = cut } in
    let in_first : LiesIn m first = subst (λ x. LiesIn m x) same lies in
    ap (λ x. x.cut) same
    ∙ either (λ a. none_uncut limit level cut stands.cuts m stands.cut_ones a)
    (λ b. absurd (not_behind m first (plus at len) (behind rest (plus at len)) some in_first (up_to_itself (plus at len))
    (inner limit level rest (plus at len) stands.more stands.rest m b)))
    (in_part m stands.cuts (cuts_of limit level rest (plus at len) stands.more stands.rest) is)
holder_cut limit level (text len cut rest) at ms stands m some is p (inr there) lies =
    either (λ a. absurd (not_before m p at (plus at len) some lies (texts_in rest (plus at len) p there).from
    (as_between at len m (in_all at len stands.cuts stands.lie m a))))
    (λ b. holder_cut limit level rest (plus at len) stands.more stands.rest m some b p there lies)
    (in_part m stands.cuts (cuts_of limit level rest (plus at len) stands.more stands.rest) is)
holder_cut limit level (lone len kinds rest) at ms stands m some is p there lies =
    holder_cut limit level rest (plus at len) stands.more stands.rest m some is p there lies
holder_cut limit level (pair o k inside c rest) at ms stands m some is p there lies =
    let from = behind inside (plus at o) in
    let within = inner limit (level + 1) inside (plus at o) stands.within stands.held m in
    let beyond = inner limit level rest (plus from c) stands.more stands.rest m in
    either (λ a. either
    (λ x. holder_cut limit (level + 1) inside (plus at o) stands.within stands.held m some a p x lies)
    (λ y. absurd (not_before m p (plus at o) from some lies
    (up_to from (plus from c) p.at (from_plus from c) (texts_in rest (plus from c) p y).from) (within a)))
    (in_part p (texts_from inside (plus at o)) (texts_from rest (plus from c)) there))
    (λ b. either
    (λ x. absurd (not_behind m p (plus from c) (behind rest (plus from c)) some lies
    (up_to (plus p.at p.len) from (plus from c) (texts_in inside (plus at o) p x).to (from_plus from c)) (beyond b)))
    (λ y. holder_cut limit level rest (plus from c) stands.more stands.rest m some b p y lies)
    (in_part p (texts_from inside (plus at o)) (texts_from rest (plus from c)) there))
    (in_part m (cuts_of limit (level + 1) inside (plus at o) stands.within stands.held)
    (cuts_of limit level rest (plus from c) stands.more stands.rest) is)
holder_cut limit level (unclosed o k inside) at ms stands m some is p there lies =
    holder_cut limit (level + 1) inside (plus at o) stands.within stands.held m some is p there lies
holder_cut limit level stray at ms stands m some is p there lies = absurd is

-- ---- they are the openers without a row
cut_append : (limit : ℕ) (xs ys : List Mark) (s : Open) → cut_from limit s (xs ++ ys)
    ≡ cut_from limit s xs ++ cut_from limit (open_after limit s xs) ys
cut_append limit [] ys s = refl
cut_append limit (x ∷ xs) ys s =
    let first = cut_by limit s x x.role in
    let after = open_by limit s x.role in
    ap (λ r. first ++ r) (cut_append limit xs ys after)
    ∙ sym (append_assoc first (cut_from limit after xs) (cut_from limit (open_after limit after xs) ys))

full_limit : (limit n : ℕ) → limit ≤ n → nat_le limit n ≡ true
full_limit limit n h = grind (arith, nat_tests)

below_limit : (limit n : ℕ) → n < limit → nat_le limit n ≡ false
below_limit limit n h = grind (arith, nat_tests)

cut_one : (limit : ℕ) (m : Mark) (ms : List Mark) (s : Open) (role : Role) → m.role ≡ role → limit ≤ length s.entries
    → IsOpener m.role → cut_from limit s ms ≡ ms → cut_from limit s (m ∷ ms) ≡ m ∷ ms
cut_one limit m ms s (Opener kind) is full opener rest =
    ap (λ r. cut_by limit s m r ++ cut_from limit (open_by limit s r) ms) is
    ∙ (rw (full_limit limit (length s.entries) full) (ap (λ l. m ∷ l) rest))
cut_one limit m ms s (Closer kinds) is full opener rest = absurd (subst (λ r. IsOpener r) is opener)

cut_ones : (limit : ℕ) (ms : List Mark) (s : Open) → limit ≤ length s.entries → AreOpeners ms → cut_from limit s ms ≡ ms
cut_ones limit [] s full are = refl
cut_ones limit (m ∷ ms) s full are = cut_one limit m ms s m.role refl full are.0 (cut_ones limit ms s full are.1)

cut_text : (limit level : ℕ) (cut : Bool) (ms : List Mark) (s : Open) → level ≡ length s.entries
    → AreCut limit level cut ms → cut_from limit s ms ≡ ms
cut_text limit level true [] s is are = absurd are
cut_text limit level true (m ∷ ms) s is are = cut_ones limit (m ∷ ms) s (let h = are.0 in omega (arith, is, h)) are.1
cut_text limit level false ms s is are = rw are refl

-- marks that have rows
opener_passed : (limit : ℕ) (s : Open) (m : Mark) (kind : ℕ) (ms : List Mark) → m.role ≡ Opener kind
    → length s.entries < limit
    → cut_from limit s (m ∷ ms)
    ≡ cut_from limit (record { rows = s.rows + 1; entries = record { row = s.rows; kind = kind } ∷ s.entries }) ms
opener_passed limit s m kind ms role room =
    ap (λ r. cut_by limit s m r ++ cut_from limit (open_by limit s r) ms) role
    ∙ (rw (below_limit limit (length s.entries) room) refl)

closer_passed : (limit : ℕ) (s : Open) (m : Mark) (kinds : Kinds) (ms : List Mark) → m.role ≡ Closer kinds
    → cut_from limit s (m ∷ ms) ≡ cut_from limit (open_by limit s (Closer kinds)) ms
closer_passed limit s m kinds ms role =
    ap (λ r. cut_by limit s m r ++ cut_from limit (open_by limit s r) ms) role

abbrev Cutting : ℕ → Items → Type 0
Cutting limit its = (level : ℕ) (at : Length) (ms : List Mark) (s : Open) (stands : Stands limit level its at ms)
    → level ≡ length s.entries → Clear its s.entries → cut_from limit s ms ≡ cuts_of limit level its at ms stands

text_cutting : (limit : ℕ) (len : Length) (cut : Bool) (rest : Items) → Cutting limit rest
    → Cutting limit (text len cut rest)
text_cutting limit len cut rest cutting level at ms s stands is clear =
    let none = no_cuts limit level cut stands.cuts s is stands.cut_ones in
    ap (cut_from limit s) stands.are ∙ cut_append limit stands.cuts stands.more s
    ∙ ap (λ l. l ++ cut_from limit (open_after limit s stands.cuts) stands.more)
    (cut_text limit level cut stands.cuts s is stands.cut_ones)
    ∙ ap (λ o. stands.cuts ++ cut_from limit o stands.more) none.1
    ∙ ap (λ l. stands.cuts ++ l) (cutting level (plus at len) stands.more s stands.rest is
    (clear_less (text len cut rest) rest s.entries (λ k h. h) clear))

lone_cutting : (limit : ℕ) (len : Length) (kinds : Kinds) (rest : Items) → Cutting limit rest
    → Cutting limit (lone len kinds rest)
lone_cutting limit len kinds rest cutting level at ms s stands is clear =
    let none : from_last kinds s.entries ≡ [] = none_taken kinds s.entries (lone_clear len kinds rest s.entries clear) in
    let next : Open = record { rows = s.rows + 1; entries = s.entries } in
    ap (cut_from limit s) stands.are
    ∙ closer_passed limit s stands.mark kinds stands.more stands.role
    ∙ (rw none (cutting level (plus at len) stands.more next stands.rest is
    (clear_less (lone len kinds rest) rest s.entries (λ k h. or_right (has_kind kinds k) (missed_in rest k) h) clear)))

unclosed_cutting : (limit : ℕ) (o : Length) (k : ℕ) (inside : Items) → Cutting limit inside
    → Cutting limit (unclosed o k inside)
unclosed_cutting limit o k inside cutting level at ms s stands is clear =
    let e : Entry = record { row = s.rows; kind = k } in
    let next : Open = record { rows = s.rows + 1; entries = e ∷ s.entries } in
    ap (cut_from limit s) stands.are
    ∙ opener_passed limit s stands.mark k stands.within stands.role (let r = stands.room in omega (arith, r, is))
    ∙ cutting (level + 1) (plus at o) stands.within next stands.held (omega (arith, is))
    (stands.not_missed, clear_less (unclosed o k inside) inside s.entries (λ j h. h) clear)

pair_cutting : (limit : ℕ) (o : Length) (k : ℕ) (inside : Items) (c : Length) (rest : Items) → Cutting limit inside
    → Cutting limit rest → Cutting limit (pair o k inside c rest)
pair_cutting limit o k inside c rest cutting later level at ms s stands is clear =
    let e : Entry = record { row = s.rows; kind = k } in
    let next : Open = record { rows = s.rows + 1; entries = e ∷ s.entries } in
    let from : Length = behind inside (plus at o) in
    let inner_clear : Clear inside next.entries = (
      stands.not_missed,
      clear_less (pair o k inside c rest) inside s.entries
          (λ j h. or_left (missed_in inside j) (missed_in rest j) h) clear,
    ) in
    let deep : level + 1 ≡ length next.entries = omega (arith, is) in
    let w : Walked limit inside (plus at o) stands.within next = walks limit inside (plus at o) stands.within next
    (subst (λ n. Stands limit n inside (plus at o) stands.within) deep stands.held) inner_clear in
    let mid : Open = open_after limit next stands.within in
    let found : from_last stands.kinds mid.entries ≡ e ∷ s.entries =
    ap (λ es. from_last stands.kinds es) w.entries
    ∙ taken_behind stands.kinds (left_by (s.rows + 1) inside) e s.entries (stands.passes (s.rows + 1)) stands.takes in
    let after : Open = record { rows = mid.rows + 1; entries = s.entries } in
    ap (cut_from limit s) stands.are
    ∙ opener_passed limit s stands.mark k (stands.within ++ stands.last ∷ stands.more) stands.role
    (let r = stands.room in omega (arith, r, is))
    ∙ cut_append limit stands.within (stands.last ∷ stands.more) next
    ∙ ap (λ l. l ++ cut_from limit mid (stands.last ∷ stands.more))
    (cutting (level + 1) (plus at o) stands.within next stands.held deep inner_clear)
    ∙ ap (λ l. cuts_of limit (level + 1) inside (plus at o) stands.within stands.held ++ l)
    (closer_passed limit mid stands.last stands.kinds stands.more stands.last_role
    ∙ (rw found (later level (plus from c) stands.more after stands.rest is
    (clear_less (pair o k inside c rest) rest s.entries (λ j h. or_right (missed_in inside j) (missed_in rest j) h)
    clear))))

cuttings : (limit : ℕ) (its : Items) → Cutting limit its
cuttings limit end = λ level at ms s stands is clear. ap (cut_from limit s) stands
cuttings limit (text len cut rest) = text_cutting limit len cut rest (cuttings limit rest)
cuttings limit (lone len kinds rest) = lone_cutting limit len kinds rest (cuttings limit rest)
cuttings limit (pair o k inside c rest) =
    pair_cutting limit o k inside c rest (cuttings limit inside) (cuttings limit rest)
cuttings limit (unclosed o k inside) = unclosed_cutting limit o k inside (cuttings limit inside)
cuttings limit stray = λ level at ms s stands is clear. absurd stands

-- ---- the law
all_some : (limit level : ℕ) (its : Items) (at : Length) (ms : List Mark) (s : Open)
    (stands : Stands limit level its at ms) → level ≡ length s.entries → Clear its s.entries → AreSome ms → (m : Mark)
    → IsIn m (cuts_of limit level its at ms stands) → m.at.col < m.to
all_some limit level its at ms s stands is clear some m there =
    some_in ms some m (among limit ms s m
    (subst (λ l. IsIn m l) (sym (cuttings limit its level at ms s stands is clear)) there))
  where
    by_role : (limit : ℕ) (s : Open) (m x : Mark) (role : Role) → IsIn m (cut_by limit s x role) → m ≡ x
    by_role limit s m x (Opener kind) is = by (nat_le limit (length s.entries)) is
      where
        by : (b : Bool) → IsIn m (if b then x ∷ [] else []) → m ≡ x
        by true (inl same) = same
        by true (inr none) = absurd none
        by false is = absurd is
    by_role limit s m x (Closer kinds) is = absurd is

    among : (limit : ℕ) (ms : List Mark) (s : Open) (m : Mark) → IsIn m (cut_from limit s ms) → IsIn m ms
    among limit [] s m is = is
    among limit (x ∷ ms) s m is =
        either (λ a. inl (by_role limit s m x x.role a)) (λ b. inr (among limit ms (open_by limit s x.role) m b))
        (in_part m (cut_by limit s x x.role) (cut_from limit (open_by limit s x.role) ms) is)

pub cut_law : CutLaw
cut_law limit t ms stands some =
    let its = items_of t in
    let same = cuttings limit its 0 start ms nothing_open stands refl tt in record {
      held = λ m is. all_held limit 0 its start ms stands m (subst (λ l. IsIn m l) same is);
      cut = λ p there. (
        λ cut. subst (λ l. Holds p l) (sym same) (cut_holds limit 0 its start ms stands p there cut),
        λ h.
            let is : IsIn h.mark (cuts_of limit 0 its start ms stands) = subst (λ l. IsIn h.mark l) same h.there in
            holder_cut limit 0 its start ms stands h.mark
            (all_some limit 0 its start ms nothing_open stands refl tt some h.mark is) is p there h.lies,
      );
    }
