-- A pair grows the list that it is put in.
use Rattle.std.proofs.Common.{◌≡◌, ℕ, ◌+◌, ◌<◌, ◌==◌, ◌&&◌, ◌||◌, List, [], ◌∷◌, ◌++◌, length, Bool, true, false}
use Rattle.std.proofs.Common.{IsTrue, Some, None}
use Rattle.std.proofs.Common.{refl, sym, ap, ◌∙◌, subst, arith, append_assoc, append-nil}
use Rattle.std.proofs.lemmas.List.{length-append}
use Rattle.text_pos.specs.declared.length.Length.{Length}
use Rattle.text_pos.specs.declared.kinds.Kinds.{Kinds}
use Rattle.text_pos.specs.KindSet.{has_kind}
use Rattle.text_pos.specs.Lengths.{plus}
use Rattle.pairing_defs.specs.declared.Role.{Role}
use Rattle.pairing_defs.specs.declared.Role.TheVariants.{Opener, Closer}
use Rattle.pairing_defs.specs.declared.Mark.{Mark}
use Rattle.pairing_defs.specs.Pairing.{Entry}
use Rattle.tree_defs.specs.Tree.{Tree, Pair}
use Rattle.tree_defs.specs.Shape.{length_of}
use Rattle.tree_defs.specs.Items.{Items, pair, unclosed, items_then, behind, missed_in, left_by, Stands, NoneIn}
use Rattle.tree_defs.specs.Items as items
use Rattle.tree_defs.proofs.Lengths.{plus_assoc}
use Rattle.reuse_parser.specs.declared.place.Around.{Around}
use Rattle.reuse_parser.specs.Parsing.{start_of, end_of, size_of, IsWithin, IsFront, Follow, Stopped, NoneBy, Fine}
use Rattle.reuse_parser.specs.Parsing.{Nothing, HoldsAt}
use Rattle.tree_defs.specs.Ends.{EndAt}
use Rattle.reuse_parser.specs.Parsing.{Grows, Listed, role_has, front_has}
use Rattle.reuse_parser.proofs.Marks.{size_ends, in_line, is_at, less_behind}
use Rattle.reuse_parser.proofs.Single.{not_stopped}

-- ---- what is around the inside
or_true : (b c : Bool) → IsTrue b → (b || c) ≡ true
or_true true c t = refl
or_true false c t = cc

or_self : (b : Bool) → (b || true) ≡ true
or_self true = refl
or_self false = refl

self_is : (k : ℕ) → (k == k) ≡ true
self_is k = grind arith

is_true : (b : Bool) → b ≡ true → IsTrue b
is_true b h = subst (λ x. IsTrue x) (sym h) refl

pub above_kept : (a b : Around) (kind k : ℕ) → IsWithin a kind b → IsTrue (has_kind a.above k) → IsTrue (has_kind b.above k)
above_kept a b kind k w t = is_true (has_kind b.above k) (w.above k ∙ or_true (has_kind a.above k) (k == kind) t)

pub kind_above : (a b : Around) (kind : ℕ) → IsWithin a kind b → IsTrue (has_kind b.above kind)
kind_above a b kind w = is_true (has_kind b.above kind)
    (w.above kind ∙ ap (λ x. has_kind a.above kind || x) (self_is kind) ∙ or_self (has_kind a.above kind))

-- the inside stands one level deeper
pub stands_within : (a b : Around) (kind : ℕ) (its : Items) (at : Length) (ms : List Mark) → IsWithin a kind b
    → Stands b.limit b.level its at ms → Stands a.limit (a.level + 1) its at ms
stands_within a b kind its at ms w stands =
    subst (λ n. Stands n (a.level + 1) its at ms) w.limit (subst (λ n. Stands b.limit n its at ms) w.level stands)

pub none_in : (has : ℕ → Bool) (kinds : Kinds) (es : List Entry) → ((k : ℕ) → has k ≡ has_kind kinds k) → NoneBy has es
    → NoneIn kinds es
none_in has kinds [] same none = tt
none_in has kinds (e ∷ es) same none = (sym (same e.kind) ∙ none.0, none_in has kinds es same none.1)

none_also : (has other : ℕ → Bool) (es : List Entry) → ((k : ℕ) → other k ≡ has k) → NoneBy has es → NoneBy other es
none_also has other [] same none = tt
none_also has other (e ∷ es) same none = (same e.kind ∙ none.0, none_also has other es same none.1)

pub none_more : (has : ℕ → Bool) (es : List Entry) (e : Entry) → NoneBy has es → has e.kind ≡ false
    → NoneBy has (es ++ e ∷ [])
none_more has [] e none last = (last, tt)
none_more has (x ∷ es) e none last = (none.0, none_more has es e none.1 last)

-- fewer marks are left behind a part of them
fewer : (m : Mark) (ms done rest : List Mark) → ms ≡ done ++ rest → length rest < length (m ∷ ms)
fewer m ms done rest are = let h = ap length are ∙ length-append done rest in omega (arith, h)

opens : (a : Around) (m : Mark) (kind : ℕ) (rest : List Mark) → m.role ≡ Opener kind
    → ¬ Stopped a (start_of m) (m ∷ rest)
opens a m kind rest role = not_stopped a m rest (λ k. ap (λ r. role_has r k) role)

-- ---- a pair with its closer
pub pair_long : (m c : Mark) (inside : Length) (to : Length) → m.at.col < m.to → c.at.col < c.to
    → plus (end_of m) inside ≡ to
    → to ≡ start_of c → plus (start_of m) (plus (plus (size_of m) inside) (size_of c)) ≡ end_of c
pair_long m c inside to some c_some long at =
    sym (plus_assoc (start_of m) (plus (size_of m) inside) (size_of c))
    ∙ ap (λ p. plus p (size_of c)) (sym (plus_assoc (start_of m) (size_of m) inside)
    ∙ ap (λ p. plus p inside) (size_ends m some) ∙ long ∙ at)
    ∙ size_ends c c_some

pub record Closed (c : Mark) (kind : ℕ) : Type 0 where
  pub kinds : Kinds
  pub role : c.role ≡ Closer kinds
  pub takes : has_kind kinds kind ≡ true

pub closed_by : (c : Mark) (kind : ℕ) (r : Role) → c.role ≡ r → role_has r kind ≡ true → Closed c kind
closed_by c kind (Opener k) is has = cc
closed_by c kind (Closer kinds) is has = record { kinds = kinds; role = is; takes = has }

closed_grows : (a b : Around) (m : Mark) (kind : ℕ) (rest : List Mark) (t : Tree) (to : Length) (c : Mark)
    (more : List Mark)
    → a.level < a.limit → m.role ≡ Opener kind → Follow (start_of m) a.end (m ∷ rest) → IsWithin a kind b
    → Listed b (end_of m) rest t to (c ∷ more) → Closed c kind
    → Grows a (start_of m) (m ∷ rest) (Pair (size_of m) kind t (Some (size_of c))) (end_of c) more
closed_grows a b m kind rest t to c more room role follow w l closed = record {
  more = opens a m kind rest role;
  done = m ∷ (l.done ++ c ∷ []);
  are = ap (λ ms. m ∷ ms) (l.are ∙ sym (append_assoc l.done (c ∷ []) more));
  leaf = refl;
  long = pair_long m c (length_of t) to follow.1 l.follow.1 l.long l.stopped.0;
  shallow = omega (arith, l.shallow, w.level, w.limit);
  follow = subst (λ p. Follow (end_of c) p more) w.last l.follow.3;
  less = less_behind a.end (start_of m) (end_of c) (m ∷ rest) more
      (let h = ap length l.are ∙ length-append l.done (c ∷ more) in omega (arith, h));
  still = λ test holds. subst (λ p. HoldsAt test p more) w.last (inner_holds test holds).2;
  ends = λ test its holds none rest_ends.
      let inside = items_then t items.end in
      let begins = size_ends m follow.1 in
      let at : behind inside (plus (start_of m) (size_of m)) ≡ start_of c =
      ap (λ p. behind inside p) begins ∙ l.fine.ends ∙ l.stopped.0 in
      let last : plus (behind inside (plus (start_of m) (size_of m))) (size_of c) ≡ end_of c =
      ap (λ p. plus p (size_of c)) at ∙ size_ends c l.follow.1 in (
        in_line m follow.1,
        subst (λ p. test p ≡ true) (sym begins) holds.1,
        subst (λ p. EndAt test inside p) (sym begins) (l.ends test (outer_holds test holds)),
        in_line c l.follow.1,
        subst (λ p. test p ≡ true) (sym last) (inner_holds test holds).1,
        subst (λ p. EndAt test its p) (sym last) rest_ends,
      );
  leads = λ its ms has stop h fine0.
      let inside = items_then t items.end in
      let begins = size_ends m follow.1 in
      let within : Fine b (front_has (c ∷ more)) to inside (plus (start_of m) (size_of m)) l.done =
      subst (λ p. Fine b (front_has (c ∷ more)) to inside p l.done) (sym begins) l.fine in
      let at : behind inside (plus (start_of m) (size_of m)) ≡ start_of c = within.ends ∙ l.stopped.0 in
      let ends : plus (behind inside (plus (start_of m) (size_of m))) (size_of c) ≡ end_of c =
      ap (λ p. plus p (size_of c)) at ∙ size_ends c l.follow.1 in
      let fine : Fine a has stop its (plus (behind inside (plus (start_of m) (size_of m))) (size_of c)) ms =
      subst (λ p. Fine a has stop its p ms) (sym ends) fine0 in
      record {
        stands = record {
          mark = m;
          within = l.done;
          last = c;
          more = ms;
          kinds = closed.kinds;
          are = ap (λ x. m ∷ x) (append_assoc l.done (c ∷ []) ms);
          place = is_at m follow.1;
          role = role;
          room = room;
          held = stands_within a b kind inside (plus (start_of m) (size_of m)) l.done w within.stands;
          not_missed = within.apart kind (kind_above a b kind w);
          last_place = subst (λ p. items.IsAt c p (size_of c)) (sym at) (is_at c l.follow.1);
          last_role = closed.role;
          takes = closed.takes;
          passes = λ n. none_in (front_has (c ∷ more)) closed.kinds (left_by n inside)
              (λ k. ap (λ r. role_has r k) closed.role) (within.passes n);
          rest = fine.stands;
        };
        ends = fine.ends;
        apart = λ k t. both_false (missed_in inside k) (missed_in its k) (within.apart k (above_kept a b kind k w t))
            (fine.apart k t);
        passes = λ n. fine.passes (n + 1 + items.rows_in inside + 1);
      };
}
  where
    outer_holds : (test : Length → Bool) → HoldsAt test a.end (m ∷ rest) → HoldsAt test b.end rest
    outer_holds test holds = subst (λ p. HoldsAt test p rest) (sym w.last) holds.2

    inner_holds : (test : Length → Bool) → HoldsAt test a.end (m ∷ rest) → HoldsAt test b.end (c ∷ more)
    inner_holds test holds = l.still test (outer_holds test holds)

    both_false : (x y : Bool) → x ≡ false → y ≡ false → (x || y) ≡ false
    both_false false y h k = k
    both_false true y h k = cc

pub pair_grows : (a b : Around) (m : Mark) (kind : ℕ) (rest : List Mark) (t : Tree) (to : Length) (left : List Mark)
    (c : Mark) (more : List Mark) → a.level < a.limit → m.role ≡ Opener kind → Follow (start_of m) a.end (m ∷ rest)
    → IsWithin a kind b → Listed b (end_of m) rest t to left → IsFront kind left c more
    → Grows a (start_of m) (m ∷ rest) (Pair (size_of m) kind t (Some (size_of c))) (end_of c) more
pair_grows a b m kind rest t to left c more room role follow w l front =
    closed_grows a b m kind rest t to c more room role follow w (subst (λ ms. Listed b
    (end_of m) rest t to ms) front.are l)
    (closed_by c kind c.role refl front.has)

-- ---- a pair without closer
pub left_stopped : (a b : Around) (kind : ℕ) (to : Length) (left : List Mark) → IsWithin a kind b
    → front_has left kind ≡ false
    → Stopped b to left → Stopped a to left
left_stopped a b kind to [] w none stopped = stopped ∙ w.last
left_stopped a b kind to (c ∷ more) w none stopped =
    let k = stopped.1.0 in (
      stopped.0,
      (
        k,
        still (role_has c.role k) (has_kind a.above k) (k == kind)
            (subst (λ x. IsTrue (role_has c.role k && x)) (w.above k) stopped.1.1) (λ same. other k same),
      ),
    )
  where
    still : (x y z : Bool) → IsTrue (x && (y || z)) → (z ≡ true → x ≡ false) → IsTrue (x && y)
    still true true z t none = t
    still true false true t none = cc (none refl)
    still true false false t none = t
    still false y z t none = t

    other : (k : ℕ) → (k == kind) ≡ true → role_has c.role k ≡ false
    other k same = let e : k ≡ kind = grind arith in ap (λ x. role_has c.role x) e ∙ none

pub left_grows : (a b : Around) (m : Mark) (kind : ℕ) (rest : List Mark) (t : Tree) (to : Length) (left : List Mark)
    → a.level < a.limit → m.role ≡ Opener kind → Follow (start_of m) a.end (m ∷ rest) → IsWithin a kind b
    → Listed b (end_of m) rest t to left → front_has left kind ≡ false
    → Grows a (start_of m) (m ∷ rest) (Pair (size_of m) kind t None) to left
left_grows a b m kind rest t to left room role follow w l no_closer = record {
  more = opens a m kind rest role;
  done = m ∷ l.done;
  are = ap (λ ms. m ∷ ms) l.are;
  leaf = refl;
  long = sym (plus_assoc (start_of m) (size_of m) (length_of t)) ∙ ap (λ p. plus p (length_of t))
      (size_ends m follow.1) ∙ l.long;
  shallow = omega (arith, l.shallow, w.level, w.limit);
  follow = subst (λ p. Follow to p left) w.last l.follow;
  less = less_behind a.end (start_of m) to (m ∷ rest) left (fewer m rest l.done left l.are);
  still = λ test holds. subst (λ p. HoldsAt test p left) w.last
      (l.still test (subst (λ p. HoldsAt test p rest) (sym w.last) holds.2));
  ends = λ test its holds none rest_ends.
      let inside = items_then t items.end in
      let begins = size_ends m follow.1 in
      let no_more : its ≡ items.end = none (left_stopped a b kind to left w no_closer l.stopped) in
      subst (λ x. EndAt test (items.unclosed_then (size_of m) kind inside x) (start_of m)) (sym no_more) (
        in_line m follow.1,
        subst (λ p. test p ≡ true) (sym begins) holds.1,
        subst (λ p. EndAt test inside p) (sym begins)
            (l.ends test (subst (λ p. HoldsAt test p rest) (sym w.last) holds.2)),
      );
  leads = λ its ms has stop h fine.
      let nothing : Nothing its ms has left = h (left_stopped a b kind to left w no_closer l.stopped) in
      let inside = items_then t items.end in
      let within : Fine b (front_has left) to inside (plus (start_of m) (size_of m)) l.done =
      subst (λ p. Fine b (front_has left) to inside p l.done) (sym (size_ends m follow.1)) l.fine in
      let stops : to ≡ stop = subst (λ x. behind x to ≡ stop) nothing.no_item fine.ends in
      let here : Fine a has stop (unclosed (size_of m) kind inside) (start_of m) (m ∷ l.done) = record {
        stands = record {
          mark = m;
          within = l.done;
          are = refl;
          place = is_at m follow.1;
          role = role;
          room = room;
          held = stands_within a b kind inside (plus (start_of m) (size_of m)) l.done w within.stands;
          not_missed = within.apart kind (kind_above a b kind w);
        };
        ends = within.ends ∙ stops;
        apart = λ k t. within.apart k (above_kept a b kind k w t);
        passes = λ n. none_more has (left_by (n + 1) inside) (record { row = n; kind = kind })
            (none_also (front_has left) has (left_by (n + 1) inside) nothing.front (within.passes (n + 1)))
            (nothing.front kind ∙ no_closer);
      } in
      subst (λ x. Fine a has stop (items.unclosed_then (size_of m) kind inside x) (start_of m) ((m ∷ l.done) ++ ms))
      (sym nothing.no_item)
      (subst (λ x. Fine a has stop (unclosed (size_of m) kind inside) (start_of m) x)
      (sym (ap (λ x. (m ∷ l.done) ++ x) nothing.no_mark ∙ append-nil (m ∷ l.done))) here);
}
