-- Trees whose brackets all have partners and that hold no cut opener: how deep they are where they stand.
use Rattle.std.proofs.Common.{◌≡◌, ℕ, ◌+◌, ◌<◌, ◌≤◌, ◌&&◌, ◌||◌, ◌⊎◌, inl, inr, List, [], ◌∷◌, ◌++◌, length, Bool, true, false}
use Rattle.std.proofs.Common.{Some, None, max, nat_le, refl, sym, ap, ◌∙◌, subst, arith}
use Rattle.std.proofs.lemmas.Bool.Decides.{nat_tests}
use Rattle.std.proofs.lemmas.List.{length-append}
use Rattle.std.specs.List.{list_all}
use Rattle.text_pos.specs.declared.length.Length.{Length}
use Rattle.text_pos.specs.declared.length.Pos.{Pos}
use Rattle.text_pos.specs.Lengths.{plus}
use Rattle.pairing_defs.specs.declared.Role.{Role}
use Rattle.pairing_defs.specs.declared.Role.TheVariants.{Opener, Closer}
use Rattle.pairing_defs.specs.declared.Mark.{Mark}
use Rattle.pairing_defs.specs.declared.Row.{Row}
use Rattle.pairing_defs.specs.Pairing.{Entry, Open, Placed, placed_from, open_after, open_by, rows_by, rows_from, opener_row, of_kind}
use Rattle.pairing_defs.specs.Pairing.{from_last}
use Rattle.tree_defs.specs.Tree.{Tree, Nothing, Text, Bracket, Lone, Pair, Two, Three, is_cut, misses, depth}
use Rattle.tree_defs.specs.Shape.{length_of}
use Rattle.tree_defs.specs.Items.{Items, end, text, lone, pair, unclosed, stray, unclosed_then, items_then}
use Rattle.tree_defs.specs.Items.{depth_of, rows_in, behind, row_at, closes_kind, AreCut, Stands}
use Rattle.tree_defs.specs.Cuts.{IsIn}
use Rattle.tree_defs.specs.Rows.{FullRow, full, tree_rows, AreFull, place}
use Rattle.tree_defs.proofs.Steps.{placed_append, open_append, opener_open, closer_open, opener_placed, closer_placed}
use Rattle.tree_defs.proofs.Steps.{taken_behind}
use Rattle.reuse_defs.specs.Settled.{ClosedPair, closed_pairs, node_of}
use Rattle.reuse_defs.specs.Unsettled.{has_partner}
use Rattle.reuse_parser.proofs.Moved.{and_left, and_right}
use Rattle.reuse_parser.proofs.Starting.{in_part}

-- ---- trees and items
abbrev pub IsPlain : Tree → Type 0
IsPlain Nothing = Unit {0}
IsPlain (Text len cut) = cut ≡ false
IsPlain (Bracket len kind) = ⊥
IsPlain (Lone len kinds) = ⊥
IsPlain (Pair opener kind inside None) = ⊥
IsPlain (Pair opener kind inside (Some closer)) = IsPlain inside
IsPlain (Two a b) = IsPlain a × IsPlain b
IsPlain (Three a b c) = IsPlain a × IsPlain b × IsPlain c

abbrev pub ArePlain : Items → Type 0
ArePlain end = Unit {0}
ArePlain (text len cut rest) = (cut ≡ false) × ArePlain rest
ArePlain (lone len kinds rest) = ⊥
ArePlain (pair opener kind inside closer rest) = ArePlain inside × ArePlain rest
ArePlain (unclosed opener kind inside) = ⊥
ArePlain stray = ⊥

no_unclosed : (o : Length) (k : ℕ) (inside rest : Items) → ArePlain (unclosed_then o k inside rest) → ⊥
no_unclosed o k inside end h = h
no_unclosed o k inside (text a b c) h = h
no_unclosed o k inside (lone a b c) h = h
no_unclosed o k inside (pair a b c d e) h = h
no_unclosed o k inside (unclosed a b c) h = h
no_unclosed o k inside stray h = h

pub tree_plain : (t : Tree) (rest : Items) → ArePlain (items_then t rest) → IsPlain t × ArePlain rest
tree_plain Nothing rest h = (tt, h)
tree_plain (Text len cut) rest h = h
tree_plain (Bracket len kind) rest h = absurd h
tree_plain (Lone len kinds) rest h = absurd h
tree_plain (Pair o k inside None) rest h = absurd (no_unclosed o k (items_then inside end) rest h)
tree_plain (Pair o k inside (Some c)) rest h =
    let i : IsPlain inside × ArePlain end = tree_plain inside end h.0 in (i.0, h.1)
tree_plain (Two a b) rest h =
    let i : IsPlain a × ArePlain (items_then b rest) = tree_plain a (items_then b rest) h in
    let j : IsPlain b × ArePlain rest = tree_plain b rest i.1 in ((i.0, j.0), j.1)
tree_plain (Three a b c) rest h =
    let i : IsPlain a × ArePlain (items_then b (items_then c rest)) = tree_plain a (items_then b (items_then c rest)) h in
    let j : IsPlain b × ArePlain (items_then c rest) = tree_plain b (items_then c rest) i.1 in
    let k : IsPlain c × ArePlain rest = tree_plain c rest j.1 in ((i.0, j.0, k.0), k.1)

pub items_plain : (t : Tree) (rest : Items) → IsPlain t → ArePlain rest → ArePlain (items_then t rest)
items_plain Nothing rest h r = r
items_plain (Text len cut) rest h r = (h, r)
items_plain (Bracket len kind) rest h r = absurd h
items_plain (Lone len kinds) rest h r = absurd h
items_plain (Pair o k inside None) rest h r = absurd h
items_plain (Pair o k inside (Some c)) rest h r = (items_plain inside end h tt, r)
items_plain (Two a b) rest h r = items_plain a (items_then b rest) h.0 (items_plain b rest h.1 r)
items_plain (Three a b c) rest h r =
    items_plain a (items_then b (items_then c rest)) h.0 (items_plain b (items_then c rest) h.1 (items_plain c rest h.2 r))

neither : (a b : Bool) → a ≡ false → b ≡ false → (a || b) ≡ false
neither a b p q = rw (p, q) refl

pub plain_uncut : (t : Tree) → IsPlain t → is_cut t ≡ false
plain_uncut Nothing h = refl
plain_uncut (Text len cut) h = h
plain_uncut (Bracket len kind) h = absurd h
plain_uncut (Lone len kinds) h = absurd h
plain_uncut (Pair o k inside None) h = absurd h
plain_uncut (Pair o k inside (Some c)) h = plain_uncut inside h
plain_uncut (Two a b) h = neither (is_cut a) (is_cut b) (plain_uncut a h.0) (plain_uncut b h.1)
plain_uncut (Three a b c) h = neither (is_cut a) (is_cut b || is_cut c) (plain_uncut a h.0)
    (neither (is_cut b) (is_cut c) (plain_uncut b h.1) (plain_uncut c h.2))

pub plain_apart : (t : Tree) (j : ℕ) → IsPlain t → misses t j ≡ false
plain_apart Nothing j h = refl
plain_apart (Text len cut) j h = refl
plain_apart (Bracket len kind) j h = absurd h
plain_apart (Lone len kinds) j h = absurd h
plain_apart (Pair o k inside None) j h = absurd h
plain_apart (Pair o k inside (Some c)) j h = plain_apart inside j h
plain_apart (Two a b) j h = neither (misses a j) (misses b j) (plain_apart a j h.0) (plain_apart b j h.1)
plain_apart (Three a b c) j h = neither (misses a j) (misses b j || misses c j) (plain_apart a j h.0)
    (neither (misses b j) (misses c j) (plain_apart b j h.1) (plain_apart c j h.2))

either : {A B C : Type 0} → (A → C) → (B → C) → A ⊎ B → C
either f g (inl a) = f a
either f g (inr b) = g b

-- each closed pair of a plain tree is plain
pub pair_plain : (t : Tree) (at : Length) (p : ClosedPair) → IsPlain t → IsIn p (closed_pairs t at) → IsPlain (node_of p)
pair_plain Nothing at p h is = absurd is
pair_plain (Text len cut) at p h is = absurd is
pair_plain (Bracket len kind) at p h is = absurd is
pair_plain (Lone len kinds) at p h is = absurd is
pair_plain (Pair o k inside None) at p h is = absurd h
pair_plain (Pair o k inside (Some c)) at p h (inl same) = subst (λ (q : ClosedPair). IsPlain q.inside) (sym same) h
pair_plain (Pair o k inside (Some c)) at p h (inr is) = pair_plain inside (plus at o) p h is
pair_plain (Two a b) at p h is =
    either (λ i. pair_plain a at p h.0 i) (λ i. pair_plain b (plus at (length_of a)) p h.1 i)
    (in_part p (closed_pairs a at) (closed_pairs b (plus at (length_of a))) is)
pair_plain (Three a b c) at p h is =
    let second = closed_pairs b (plus at (length_of a)) in
    let third = closed_pairs c (plus (plus at (length_of a)) (length_of b)) in
    either (λ i. pair_plain a at p h.0 i)
    (λ j. either (λ i. pair_plain b (plus at (length_of a)) p h.1 i)
    (λ i. pair_plain c (plus (plus at (length_of a)) (length_of b)) p h.2 i) (in_part p second third j))
    (in_part p (closed_pairs a at) (second ++ third) is)

-- ---- a tree whose marks all have rows with partners is plain
few_rows : (limit level : ℕ) (its : Items) (at : Length) (ms : List Mark) → Stands limit level its at ms
    → rows_in its ≤ length ms
few_rows limit level end at ms s = omega arith
few_rows limit level (text len cut rest) at ms s =
    let h = few_rows limit level rest (plus at len) s.more s.rest in
    let e = ap length s.are ∙ length-append s.cuts s.more in omega (arith, h, e)
few_rows limit level (lone len kinds rest) at ms s =
    let h = few_rows limit level rest (plus at len) s.more s.rest in let e = ap length s.are in omega (arith, h, e)
few_rows limit level (pair o k inside c rest) at ms s =
    let i = few_rows limit (level + 1) inside (plus at o) s.within s.held in
    let r = few_rows limit level rest (plus (behind inside (plus at o)) c) s.more s.rest in
    let e = ap length s.are in let l = length-append s.within (s.last ∷ s.more) in omega (arith, i, r, e, l)
few_rows limit level (unclosed o k inside) at ms s =
    let i = few_rows limit (level + 1) inside (plus at o) s.within s.held in
    let e = ap length s.are in omega (arith, i, e)
few_rows limit level stray at ms s = absurd s

pub tree_count : (its : Items) (at : Length) (n : ℕ) (es : List Entry) → length (tree_rows its at n es) ≡ rows_in its
tree_count end at n es = refl
tree_count (text len cut rest) at n es = tree_count rest (plus at len) n es
tree_count (lone len kinds rest) at n es = let h = tree_count rest (plus at len) (n + 1) es in omega (arith, h)
tree_count (pair o k inside c rest) at n es =
    let i = tree_count inside (plus at o) (n + 1) (record { row = n; kind = k } ∷ es) in
    let r = tree_count rest (plus (behind inside (plus at o)) c) (n + 1 + rows_in inside + 1) es in
    let p = pair_count (tree_rows inside (plus at o) (n + 1) (record { row = n; kind = k } ∷ es))
    (full (row_at (behind inside (plus at o)) c (closes_kind k) (length es) (of_kind k es) (Some n)) (Some n)
    (place (behind inside (plus at o))))
    (tree_rows rest (plus (behind inside (plus at o)) c) (n + 1 + rows_in inside + 1) es) (rows_in inside) (rows_in rest) i r in
    omega (arith, p)
  where
    pair_count : (xs : List FullRow) (f : FullRow) (ys : List FullRow) (a b : ℕ) → length xs ≡ a → length ys ≡ b
        → length (xs ++ f ∷ ys) + 1 ≡ a + b + 2
    pair_count xs f ys a b h k = let l = length-append xs (f ∷ ys) in omega (arith, l, h, k)
tree_count (unclosed o k inside) at n es =
    let i = tree_count inside (plus at o) (n + 1) (record { row = n; kind = k } ∷ es) in omega (arith, i)
tree_count stray at n es = refl

pub full_count : (rs : List Row) (fs : List FullRow) → AreFull rs fs → length rs ≡ length fs
full_count [] [] h = refl
full_count [] (f ∷ fs) h = absurd h
full_count (r ∷ rs) [] h = absurd h
full_count (r ∷ rs) (f ∷ fs) h = let k = full_count rs fs h.1 in omega (arith, k)

abbrev pub have_partners : List FullRow → Bool
have_partners fs = list_all (λ (f : FullRow). has_partner f.partner) fs

pub full_partners : (rs : List Row) (fs : List FullRow) → AreFull rs fs
    → list_all (λ (r : Row). has_partner r.partner) rs ≡ true → have_partners fs ≡ true
full_partners [] [] h k = refl
full_partners [] (f ∷ fs) h k = absurd h
full_partners (r ∷ rs) [] h k = absurd h
full_partners (r ∷ rs) (f ∷ fs) h k =
    both (has_partner f.partner) (have_partners fs)
    (ap (λ o. has_partner o) (sym h.0.partner)
    ∙ and_left (has_partner r.partner) (list_all (λ (q : Row). has_partner q.partner) rs) k)
    (full_partners rs fs h.1 (and_right (has_partner r.partner) (list_all (λ (q : Row). has_partner q.partner) rs) k))
  where
    both : (a b : Bool) → a ≡ true → b ≡ true → (a && b) ≡ true
    both true b h k = k
    both false b h k = cc

partners_split : (xs ys : List FullRow) → have_partners (xs ++ ys) ≡ true
    → (have_partners xs ≡ true) × (have_partners ys ≡ true)
partners_split [] ys h = (refl, h)
partners_split (x ∷ xs) ys h =
    let head = and_left (has_partner x.partner) (have_partners (xs ++ ys)) h in
    let tail = partners_split xs ys (and_right (has_partner x.partner) (have_partners (xs ++ ys)) h) in
    (both (has_partner x.partner) (have_partners xs) head tail.0, tail.1)
  where
    both : (a b : Bool) → a ≡ true → b ≡ true → (a && b) ≡ true
    both true b h k = k
    both false b h k = cc

pub are_plain : (limit level : ℕ) (its : Items) (at : Length) (n : ℕ) (es : List Entry) (ms : List Mark)
    → have_partners (tree_rows its at n es) ≡ true → Stands limit level its at ms → length ms ≤ rows_in its
    → ArePlain its
are_plain limit level end at n es ms h s few = tt
are_plain limit level (text len cut rest) at n es ms h s few =
    let low = few_rows limit level rest (plus at len) s.more s.rest in
    let e = ap length s.are ∙ length-append s.cuts s.more in (
      uncut cut s.cuts s.cut_ones (omega (arith, low, e, few)),
      are_plain limit level rest (plus at len) n es s.more h s.rest (omega (arith, e, few)),
    )
  where
    uncut : (b : Bool) (ms : List Mark) → AreCut limit level b ms → length ms ≡ 0 → b ≡ false
    uncut false ms are none = refl
    uncut true [] are none = absurd are
    uncut true (m ∷ ms) are none = absurd (omega (arith, none))
are_plain limit level (lone len kinds rest) at n es ms h s few = absurd (no h)
  where
    no : false ≡ true → ⊥
    no e = cc
are_plain limit level (pair o k inside c rest) at n es ms h s few =
    let i = few_rows limit (level + 1) inside (plus at o) s.within s.held in
    let r = few_rows limit level rest (plus (behind inside (plus at o)) c) s.more s.rest in
    let e = ap length s.are in let l = length-append s.within (s.last ∷ s.more) in
    let inner = tree_rows inside (plus at o) (n + 1) (record { row = n; kind = k } ∷ es) in
    let p = partners_split inner _ h in (
      are_plain limit (level + 1) inside (plus at o) (n + 1) (record { row = n; kind = k } ∷ es) s.within p.0 s.held
          (omega (arith, i, r, e, l, few)),
      are_plain limit level rest (plus (behind inside (plus at o)) c) (n + 1 + rows_in inside + 1) es s.more p.1 s.rest
          (omega (arith, i, r, e, l, few)),
    )
are_plain limit level (unclosed o k inside) at n es ms h s few = absurd (no h)
  where
    no : false ≡ true → ⊥
    no e = cc
are_plain limit level stray at n es ms h s few = absurd s

-- ---- marks that all have rows
row_few : (limit : ℕ) (s : Open) (m : Mark) (r : Role) → length (rows_by limit s m r) ≤ 1
row_few limit s m (Opener kind) = by (nat_le limit (length s.entries)) refl
  where
    by : (b : Bool) → nat_le limit (length s.entries) ≡ b → length (opener_row limit s m kind) ≤ 1
    by true h = rw h (omega arith)
    by false h = rw h (omega arith)
row_few limit s m (Closer kinds) = omega arith

pub placed_few : (limit : ℕ) (s : Open) (ms : List Mark) → length (placed_from limit s ms) ≤ length ms
placed_few limit s [] = omega arith
placed_few limit s (m ∷ ms) =
    let r = row_few limit s m m.role in let h = placed_few limit (open_by limit s m.role) ms in
    let l = length-append (rows_by limit s m m.role) (placed_from limit (open_by limit s m.role) ms) in omega (arith, r, h, l)

-- all marks have rows behind a state
abbrev pub AllHave : ℕ → Open → List Mark → Type 0
AllHave limit s ms = length (placed_from limit s ms) ≡ length ms

pub have_split : (limit : ℕ) (s : Open) (xs ys : List Mark) → AllHave limit s (xs ++ ys)
    → AllHave limit s xs × AllHave limit (open_after limit s xs) ys
have_split limit s xs ys h =
    let e = ap length (placed_append limit xs ys s)
    ∙ length-append (placed_from limit s xs) (placed_from limit (open_after limit s xs) ys) in
    let l = length-append xs ys in let a = placed_few limit s xs in
    let b = placed_few limit (open_after limit s xs) ys in (omega (arith, h, e, l, a, b), omega (arith, h, e, l, a, b))

pub rows_count : (last : Pos) (n : ℕ) (ps : List Placed) → length (rows_from last n ps) ≡ length ps
rows_count last n [] = refl
rows_count last n (p ∷ ps) = let h = rows_count last (n + 1) ps in omega (arith, h)

opener_free : (limit : ℕ) (s : Open) (m : Mark) (kind : ℕ) (ms : List Mark) → m.role ≡ Opener kind
    → AllHave limit s (m ∷ ms) → length s.entries < limit
opener_free limit s m kind ms role h = by (nat_le limit (length s.entries)) refl
  where
    lost : nat_le limit (length s.entries) ≡ true → rows_by limit s m m.role ≡ []
    lost k = rw (role, k) refl

    by : (b : Bool) → nat_le limit (length s.entries) ≡ b → length s.entries < limit
    by false k = grind (arith, nat_tests, k)
    by true k =
        let none = ap length (lost k) in let more = placed_few limit (open_by limit s m.role) ms in
        let l = length-append (rows_by limit s m m.role) (placed_from limit (open_by limit s m.role) ms) in
        absurd (omega (arith, none, more, l, h))

-- ---- how deep plain items are
pub record Deep (limit : ℕ) (its : Items) (ms : List Mark) (s : Open) : Type 0 where
  pub entries : (open_after limit s ms).entries ≡ s.entries
  pub deep : length s.entries + depth_of its ≤ limit

pub deep : (limit other level : ℕ) (its : Items) (at : Length) (ms : List Mark) (s : Open) → Stands other level its at ms
    → ArePlain its → AllHave limit s ms → length s.entries ≤ limit → Deep limit its ms s
deep limit other level end at ms s stands plain have room = record {
  entries = ap (λ l. (open_after limit s l).entries) stands;
  deep = omega (arith, room);
}
deep limit other level (text len cut rest) at ms s stands plain have room =
    let none : stands.cuts ≡ [] = uncut cut stands.cuts plain.0 stands.cut_ones in
    let are : ms ≡ stands.more = stands.are ∙ ap (λ l. l ++ stands.more) none in
    let d : Deep limit rest stands.more s =
    deep limit other level rest (plus at len) stands.more s stands.rest plain.1
    (subst (λ l. AllHave limit s l) are have) room in record {
      entries = ap (λ l. (open_after limit s l).entries) are ∙ d.entries;
      deep = d.deep;
    }
  where
    uncut : (b : Bool) (ms : List Mark) → b ≡ false → AreCut other level b ms → ms ≡ []
    uncut false ms h are = are
    uncut true ms h are = cc
deep limit other level (lone len kinds rest) at ms s stands plain have room = absurd plain
deep limit other level (pair o k inside c rest) at ms s stands plain have room =
    let e : Entry = record { row = s.rows; kind = k } in
    let s1 : Open = record { rows = s.rows + 1; entries = e ∷ s.entries } in
    let tail = stands.within ++ stands.last ∷ stands.more in
    let have0 : AllHave limit s (stands.mark ∷ tail) = subst (λ l. AllHave limit s l) stands.are have in
    let free = opener_free limit s stands.mark k tail stands.role have0 in
    let have1 : AllHave limit s1 tail =
    let n = ap length (opener_placed limit s stands.mark k tail stands.role free) in omega (arith, n, have0) in
    let split : AllHave limit s1 stands.within × AllHave limit (open_after limit s1 stands.within) (stands.last ∷ stands.more) =
    have_split limit s1 stands.within (stands.last ∷ stands.more) have1 in
    let i : Deep limit inside stands.within s1 =
    deep limit other (level + 1) inside (plus at o) stands.within s1 stands.held plain.0 split.0 (omega (arith, free)) in
    let s2 = open_after limit s1 stands.within in
    let found = ap (λ es. from_last stands.kinds es) i.entries
    ∙ taken_behind stands.kinds [] e s.entries tt stands.takes in
    let s3 : Open = record { rows = s2.rows + 1; entries = s.entries } in
    let have3 : AllHave limit s3 stands.more =
    let n = ap length (closer_placed limit s2 stands.last stands.kinds e s.entries stands.more stands.last_role found) in
    let h = split.1 in omega (arith, n, h) in
    let r : Deep limit rest stands.more s3 =
    deep limit other level rest (plus (behind inside (plus at o)) c) stands.more s3 stands.rest plain.1 have3 room in
    let inner = i.deep in let outer = r.deep in record {
      entries = ap (λ l. (open_after limit s l).entries) stands.are
          ∙ ap (λ (u : Open). u.entries) (opener_open limit s stands.mark k tail stands.role free
          ∙ open_append limit stands.within (stands.last ∷ stands.more) s1
          ∙ closer_open limit s2 stands.last stands.kinds e s.entries stands.more stands.last_role found)
          ∙ r.entries;
      deep = omega (arith, inner, outer);
    }
deep limit other level (unclosed o k inside) at ms s stands plain have room = absurd plain
deep limit other level stray at ms s stands plain have room = absurd plain

-- a plain tree is no deeper than its items
pub plain_depth : (t : Tree) (rest : Items) → IsPlain t → max (depth t) (depth_of rest) ≤ depth_of (items_then t rest)
plain_depth Nothing rest h = omega arith
plain_depth (Text len cut) rest h = omega arith
plain_depth (Bracket len kind) rest h = absurd h
plain_depth (Lone len kinds) rest h = absurd h
plain_depth (Pair o k inside None) rest h = absurd h
plain_depth (Pair o k inside (Some c)) rest h = let i = plain_depth inside end h in omega (arith, i)
plain_depth (Two a b) rest h =
    let p = plain_depth a (items_then b rest) h.0 in let q = plain_depth b rest h.1 in omega (arith, p, q)
plain_depth (Three a b c) rest h =
    let p = plain_depth a (items_then b (items_then c rest)) h.0 in
    let q = plain_depth b (items_then c rest) h.1 in let r = plain_depth c rest h.2 in omega (arith, p, q, r)
