-- Where the marks of a node lie, and how a part of a tree stands in it.
use Rattle.std.proofs.Common.{◌≡◌, ℕ, ◌+◌, inl, inr, List, [], ◌∷◌, ◌++◌, Bool}
use Rattle.std.proofs.Common.{Some, None, refl, sym, ap, ◌∙◌, subst, arith, append_assoc, append-nil}
use Rattle.std.proofs.lemmas.Bool.Decides.{nat_tests}
use Rattle.text_pos.specs.declared.length.Length.{Length}
use Rattle.text_pos.specs.Lengths.{plus, IsLess}
use Rattle.pairing_defs.specs.declared.Mark.{Mark}
use Rattle.tree_defs.specs.Tree.{Tree}
use Rattle.tree_defs.specs.Shape.{length_of}
use Rattle.tree_defs.specs.Items.{Items, end, text, lone, pair, unclosed, stray, unclosed_then, items_then, items_of}
use Rattle.tree_defs.specs.Items.{behind, Stands, IsAt, AreWithin}
use Rattle.tree_defs.specs.Ends.{EndAt}
use Rattle.tree_defs.proofs.Lengths.{plus_assoc}
use Rattle.tree_defs.proofs.Opened.{IsMore}
use Rattle.tree_defs.proofs.Parts.{Splits, splits}
use Rattle.reuse_parser.specs.Parsing.{start_of, end_of}
use Rattle.reuse_parser.specs.Reusing.{IsPart}
use Rattle.reuse_parser.specs.Reusing as part
use Rattle.reuse_parser.proofs.AheadOf.{up_to, up_to_itself, from_plus}
use Rattle.reuse_parser.proofs.Reused.{Ended, ended}

-- ---- marks from a place on, and up to a place
abbrev pub AllFrom : Length → List Mark → Type 0
AllFrom lo [] = Unit {0}
AllFrom lo (m ∷ ms) = (¬ IsLess (start_of m) lo) × AllFrom lo ms

abbrev pub AllUpTo : Length → List Mark → Type 0
AllUpTo hi [] = Unit {0}
AllUpTo hi (m ∷ ms) = (¬ IsLess hi (end_of m)) × AllUpTo hi ms

pub from_lower : (lo lower : Length) (ms : List Mark) → ¬ IsLess lo lower → AllFrom lo ms → AllFrom lower ms
from_lower lo lower [] up all = tt
from_lower lo lower (m ∷ ms) up all = (up_to lower lo (start_of m) up all.0, from_lower lo lower ms up all.1)

pub up_to_higher : (hi higher : Length) (ms : List Mark) → ¬ IsLess higher hi → AllUpTo hi ms → AllUpTo higher ms
up_to_higher hi higher [] up all = tt
up_to_higher hi higher (m ∷ ms) up all = (up_to (end_of m) hi higher all.0 up, up_to_higher hi higher ms up all.1)

pub from_append : (lo : Length) (xs ys : List Mark) → AllFrom lo xs → AllFrom lo ys → AllFrom lo (xs ++ ys)
from_append lo [] ys a b = b
from_append lo (x ∷ xs) ys a b = (a.0, from_append lo xs ys a.1 b)

pub up_to_append : (hi : Length) (xs ys : List Mark) → AllUpTo hi xs → AllUpTo hi ys → AllUpTo hi (xs ++ ys)
up_to_append hi [] ys a b = b
up_to_append hi (x ∷ xs) ys a b = (a.0, up_to_append hi xs ys a.1 b)

within_from : (at len : Length) (ms : List Mark) → AreWithin at len ms → AllFrom at ms
within_from at len [] w = tt
within_from at len (m ∷ ms) w = (w.0.from, within_from at len ms w.1)

within_up_to : (at len : Length) (ms : List Mark) → AreWithin at len ms → AllUpTo (plus at len) ms
within_up_to at len [] w = tt
within_up_to at len (m ∷ ms) w = (w.0.to, within_up_to at len ms w.1)

-- ---- a mark at a place
at_from : (m : Mark) (at len : Length) → IsAt m at len → ¬ IsLess (start_of m) at
at_from m at len is (inl h) = let l = is.line in omega (arith, h, l)
at_from m at len is (inr h) = let c = is.col in let k = h.1 in omega (arith, c, k)

at_up_to : (m : Mark) (at len : Length) → IsAt m at len → ¬ IsLess (plus at len) (end_of m)
at_up_to m at len is h = let l = is.line in let t = is.to in grind (arith, nat_tests, h, l, t)

-- ---- where items end
pub ends_on : (its : Items) (at : Length) → ¬ IsLess (behind its at) at
ends_on end at = up_to_itself at
ends_on (text len cut rest) at =
    up_to at (plus at len) (behind rest (plus at len)) (from_plus at len) (ends_on rest (plus at len))
ends_on (lone len kinds rest) at =
    up_to at (plus at len) (behind rest (plus at len)) (from_plus at len) (ends_on rest (plus at len))
ends_on (pair o k inside c rest) at =
    let from = behind inside (plus at o) in
    up_to at from (behind rest (plus from c))
    (up_to at (plus at o) from (from_plus at o) (ends_on inside (plus at o)))
    (up_to from (plus from c) (behind rest (plus from c)) (from_plus from c) (ends_on rest (plus from c)))
ends_on (unclosed o k inside) at =
    up_to at (plus at o) (behind inside (plus at o)) (from_plus at o) (ends_on inside (plus at o))
ends_on stray at = up_to_itself at

-- the marks of items lie between their start and their end
pub record Lies (lo hi : Length) (ms : List Mark) : Type 0 where
  pub from : AllFrom lo ms
  pub to : AllUpTo hi ms

pub lies : (limit level : ℕ) (its : Items) (at : Length) (ms : List Mark) → Stands limit level its at ms
    → Lies at (behind its at) ms
lies limit level end at ms s = subst (λ l. Lies at at l) (sym s) (record { from = tt; to = tt })
lies limit level (text len cut rest) at ms s =
    let r : Lies (plus at len) (behind rest (plus at len)) s.more = lies limit level rest (plus at len) s.more s.rest in
    subst (λ l. Lies at (behind rest (plus at len)) l) (sym s.are) (record {
      from = from_append at s.cuts s.more (within_from at len s.cuts s.lie)
          (from_lower (plus at len) at s.more (from_plus at len) r.from);
      to = up_to_append (behind rest (plus at len)) s.cuts s.more
          (up_to_higher (plus at len) (behind rest (plus at len)) s.cuts (ends_on rest (plus at len))
          (within_up_to at len s.cuts s.lie)) r.to;
    })
lies limit level (lone len kinds rest) at ms s =
    let r : Lies (plus at len) (behind rest (plus at len)) s.more = lies limit level rest (plus at len) s.more s.rest in
    subst (λ l. Lies at (behind rest (plus at len)) l) (sym s.are) (record {
      from = (at_from s.mark at len s.place, from_lower (plus at len) at s.more (from_plus at len) r.from);
      to = (
        up_to (end_of s.mark) (plus at len) (behind rest (plus at len)) (at_up_to s.mark at len s.place)
            (ends_on rest (plus at len)),
        r.to,
      );
    })
lies limit level (pair o k inside c rest) at ms s =
    let from = behind inside (plus at o) in
    let last = behind rest (plus from c) in
    let i : Lies (plus at o) from s.within = lies limit (level + 1) inside (plus at o) s.within s.held in
    let r : Lies (plus from c) last s.more = lies limit level rest (plus from c) s.more s.rest in
    let at_inner : ¬ IsLess from at = up_to at (plus at o) from (from_plus at o) (ends_on inside (plus at o)) in
    let inner_last : ¬ IsLess last from =
    up_to from (plus from c) last (from_plus from c) (ends_on rest (plus from c)) in
    subst (λ l. Lies at last l) (sym s.are) (record {
      from = (
        at_from s.mark at o s.place,
        from_append at s.within (s.last ∷ s.more) (from_lower (plus at o) at s.within (from_plus at o) i.from) (
          up_to at from (start_of s.last) at_inner (at_from s.last from c s.last_place),
          from_lower (plus from c) at s.more (up_to at from (plus from c) at_inner (from_plus from c)) r.from,
        ),
      );
      to = (
        up_to (end_of s.mark) (plus at o) last (at_up_to s.mark at o s.place)
            (up_to (plus at o) from last (ends_on inside (plus at o)) inner_last),
        up_to_append last s.within (s.last ∷ s.more) (up_to_higher from last s.within inner_last i.to) (
          up_to (end_of s.last) (plus from c) last (at_up_to s.last from c s.last_place) (ends_on rest (plus from c)),
          r.to,
        ),
      );
    })
lies limit level (unclosed o k inside) at ms s =
    let last = behind inside (plus at o) in
    let i : Lies (plus at o) last s.within = lies limit (level + 1) inside (plus at o) s.within s.held in
    subst (λ l. Lies at last l) (sym s.are) (record {
      from = (at_from s.mark at o s.place, from_lower (plus at o) at s.within (from_plus at o) i.from);
      to = (
        up_to (end_of s.mark) (plus at o) last (at_up_to s.mark at o s.place) (ends_on inside (plus at o)),
        i.to,
      );
    })
lies limit level stray at ms s = absurd s

-- ---- a part lies between the start and the end of its tree
pub part_from : {t : Tree} {o : Length} {level : ℕ} {x : Tree} {from : Length} {n : ℕ} → IsPart t o level x from n
    → ¬ IsLess o from
part_from part.itself = up_to_itself _
part_from (part.in_first a b from n p) = part_from p
part_from (part.in_second a b from n p) =
    up_to from (plus from (length_of a)) _ (from_plus from (length_of a)) (part_from p)
part_from (part.in_front a b c from n p) = part_from p
part_from (part.in_middle a b c from n p) =
    up_to from (plus from (length_of a)) _ (from_plus from (length_of a)) (part_from p)
part_from (part.in_back a b c from n p) =
    up_to from (plus (plus from (length_of a)) (length_of b)) _
    (up_to from (plus from (length_of a)) (plus (plus from (length_of a)) (length_of b))
    (from_plus from (length_of a)) (from_plus (plus from (length_of a)) (length_of b))) (part_from p)
part_from (part.in_pair opener kind inside closer from n p) =
    up_to from (plus from opener) _ (from_plus from opener) (part_from p)

-- how a part stands in its tree: the marks before it, its own, and those behind it
pub record PartIn (limit : ℕ) (test : Length → Bool) (t : Tree) (o : Length) (level : ℕ) (ms : List Mark) : Type 0 where
  pub pre : List Mark
  pub mid : List Mark
  pub post : List Mark
  pub are : ms ≡ pre ++ (mid ++ post)
  pub stands : Stands limit level (items_of t) o mid
  pub inside : EndAt test (items_of t) o
  pub low : AllUpTo o pre
  pub high : AllFrom (plus o (length_of t)) post

no_more : IsMore end → ⊥
no_more h = absurd h

module _ (limit : ℕ) (test : Length → Bool) where
  whole_in : (t : Tree) (rest : Items) (from : Length) (n : ℕ) (ms : List Mark)
      → Stands limit n (items_then t rest) from ms → EndAt test (items_then t rest) from
      → PartIn limit test t from n ms
  whole_in t rest from n ms stands ends =
      let s : Splits limit n (items_then t) rest from ms = splits limit n t rest from ms stands in
      let e : Ended test t rest from = ended test t rest from ends in
      let inside : EndAt test (items_then t end) from = e.again end (λ more. absurd (no_more more)) tt in
      let f : Ended test t end from = ended test t end from inside in
      let own : Stands limit n (items_then t end) from (s.front ++ []) =
      s.again end [] (λ more. absurd (no_more more)) refl in
      let back : Lies (behind (items_of t) from) (behind rest (behind (items_of t) from)) s.back =
      lies limit n rest (behind (items_of t) from) s.back s.tail in
      record {
        pre = [];
        mid = s.front;
        post = s.back;
        are = s.are;
        stands = subst (λ l. Stands limit n (items_then t end) from l) (append-nil s.front) own;
        inside = inside;
        low = tt;
        high = subst (λ p. AllFrom p s.back) f.ends back.from;
      }

  -- behind other items
  later_in : (t : Tree) (o : Length) (level : ℕ) (front ms back : List Mark) (lo hi : Length) → ms ≡ front ++ back
      → Lies lo hi front → ¬ IsLess o hi → PartIn limit test t o level back → PartIn limit test t o level ms
  later_in t o level front ms back lo hi are lie up p = record {
    pre = front ++ p.pre;
    mid = p.mid;
    post = p.post;
    are = are ∙ ap (λ l. front ++ l) p.are ∙ sym (append_assoc front p.pre (p.mid ++ p.post));
    stands = p.stands;
    inside = p.inside;
    low = up_to_append o front p.pre (up_to_higher hi o front up lie.to) p.low;
    high = p.high;
  }

  -- behind the first of two trees
  second_in : (t : Tree) (o : Length) (level : ℕ) (a : Tree) (rest : Items) (from : Length) (n : ℕ) (ms : List Mark)
      → Stands limit n (items_then a rest) from ms → EndAt test (items_then a rest) from
      → ¬ IsLess o (plus from (length_of a))
      → ((back : List Mark) → Stands limit n rest (plus from (length_of a)) back
      → EndAt test rest (plus from (length_of a)) → PartIn limit test t o level back)
      → PartIn limit test t o level ms
  second_in t o level a rest from n ms stands ends up later =
      let s : Splits limit n (items_then a) rest from ms = splits limit n a rest from ms stands in
      let e : Ended test a rest from = ended test a rest from ends in
      let inside : EndAt test (items_then a end) from = e.again end (λ more. absurd (no_more more)) tt in
      let f : Ended test a end from = ended test a end from inside in
      let own : Stands limit n (items_then a end) from s.front =
      subst (λ l. Stands limit n (items_then a end) from l) (append-nil s.front)
      (s.again end [] (λ more. absurd (no_more more)) refl) in
      let front : Lies from (behind (items_then a end) from) s.front =
      lies limit n (items_then a end) from s.front own in
      later_in t o level s.front ms s.back from (behind (items_then a end) from) s.are front
      (subst (λ p. ¬ IsLess o p) (sym f.ends) up)
      (later s.back (subst (λ p. Stands limit n rest p s.back) f.ends s.tail) e.tail)

  pair_in : (t : Tree) (o : Length) (level : ℕ) (opener : Length) (kind : ℕ) (inside : Tree) (closer : Length)
      (rest : Items) (from : Length) (n : ℕ) (ms : List Mark)
      → Stands limit n (pair opener kind (items_then inside end) closer rest) from ms
      → EndAt test (pair opener kind (items_then inside end) closer rest) from
      → ¬ IsLess o (plus from opener) → ¬ IsLess (plus (plus from opener) (length_of inside)) (plus o (length_of t))
      → ((within : List Mark) → Stands limit (n + 1) (items_then inside end) (plus from opener) within
      → EndAt test (items_then inside end) (plus from opener) → PartIn limit test t o level within)
      → PartIn limit test t o level ms
  pair_in t o level opener kind inside closer rest from n ms s ends up within held =
      let p : PartIn limit test t o level s.within = held s.within s.held ends.2 in
      let f : Ended test inside end (plus from opener) = ended test inside end (plus from opener) ends.2 in
      let at = behind (items_then inside end) (plus from opener) in
      let r : Lies (plus at closer) (behind rest (plus at closer)) s.more =
      lies limit n rest (plus at closer) s.more s.rest in
      let far : ¬ IsLess at (plus o (length_of t)) = subst (λ q. ¬ IsLess q (plus o (length_of t))) (sym f.ends) within in
      record {
        pre = s.mark ∷ p.pre;
        mid = p.mid;
        post = p.post ++ s.last ∷ s.more;
        are = s.are ∙ ap (λ l. s.mark ∷ (l ++ s.last ∷ s.more)) p.are
            ∙ ap (λ l. s.mark ∷ l) (append_assoc p.pre (p.mid ++ p.post) (s.last ∷ s.more)
            ∙ ap (λ l. p.pre ++ l) (append_assoc p.mid p.post (s.last ∷ s.more)));
        stands = p.stands;
        inside = p.inside;
        low = (up_to (end_of s.mark) (plus from opener) o (at_up_to s.mark from opener s.place) up, p.low);
        high = from_append (plus o (length_of t)) p.post (s.last ∷ s.more) p.high (
          up_to (plus o (length_of t)) at (start_of s.last) far (at_from s.last at closer s.last_place),
          from_lower (plus at closer) (plus o (length_of t)) s.more
              (up_to (plus o (length_of t)) at (plus at closer) far (from_plus at closer)) r.from,
        );
      }

  unclosed_in : (t : Tree) (o : Length) (level : ℕ) (opener : Length) (kind : ℕ) (inside : Tree) (rest : Items)
      (from : Length) (n : ℕ) (ms : List Mark)
      → Stands limit n (unclosed_then opener kind (items_then inside end) rest) from ms
      → EndAt test (unclosed_then opener kind (items_then inside end) rest) from
      → ¬ IsLess o (plus from opener)
      → ((within : List Mark) → Stands limit (n + 1) (items_then inside end) (plus from opener) within
      → EndAt test (items_then inside end) (plus from opener) → PartIn limit test t o level within)
      → PartIn limit test t o level ms
  unclosed_in t o level opener kind inside end from n ms s ends up held =
      let p : PartIn limit test t o level s.within = held s.within s.held ends.2 in record {
        pre = s.mark ∷ p.pre;
        mid = p.mid;
        post = p.post;
        are = s.are ∙ ap (λ l. s.mark ∷ l) p.are;
        stands = p.stands;
        inside = p.inside;
        low = (up_to (end_of s.mark) (plus from opener) o (at_up_to s.mark from opener s.place) up, p.low);
        high = p.high;
      }
  unclosed_in t o level opener kind inside (text a b c) from n ms s ends up held = absurd s
  unclosed_in t o level opener kind inside (lone a b c) from n ms s ends up held = absurd s
  unclosed_in t o level opener kind inside (pair a b c d e) from n ms s ends up held = absurd s
  unclosed_in t o level opener kind inside (unclosed a b c) from n ms s ends up held = absurd s
  unclosed_in t o level opener kind inside stray from n ms s ends up held = absurd s

pub three_long : (from a b c : Length) → plus (plus (plus from a) b) c ≡ plus from (plus (plus a b) c)
three_long from a b c = ap (λ p. plus p c) (plus_assoc from a b) ∙ plus_assoc from (plus a b) c

-- a part ends at or before the end of its tree
module _ (t : Tree) (o : Length) (level : ℕ) where
  pub part_up_to : {x : Tree} {from : Length} {n : ℕ} → IsPart t o level x from n
      → ¬ IsLess (plus from (length_of x)) (plus o (length_of t))
  part_up_to part.itself = up_to_itself _
  part_up_to (part.in_first a b from n p) = up_to (plus o (length_of t)) (plus from (length_of a)) _ (part_up_to p)
      (subst (λ q. ¬ IsLess q (plus from (length_of a))) (plus_assoc from (length_of a) (length_of b))
      (from_plus (plus from (length_of a)) (length_of b)))
  part_up_to (part.in_second a b from n p) =
      subst (λ (q : Length). ¬ IsLess q (plus o (length_of t))) (plus_assoc from (length_of a) (length_of b)) (part_up_to p)
  part_up_to (part.in_front a b c from n p) = up_to (plus o (length_of t)) (plus from (length_of a)) _ (part_up_to p)
      (subst (λ q. ¬ IsLess q (plus from (length_of a))) (three_long from (length_of a) (length_of b) (length_of c))
      (up_to (plus from (length_of a)) (plus (plus from (length_of a)) (length_of b)) _
      (from_plus (plus from (length_of a)) (length_of b))
      (from_plus (plus (plus from (length_of a)) (length_of b)) (length_of c))))
  part_up_to (part.in_middle a b c from n p) = up_to (plus o (length_of t)) (plus (plus from (length_of a)) (length_of b)) _ (part_up_to p)
      (subst (λ q. ¬ IsLess q (plus (plus from (length_of a)) (length_of b)))
      (three_long from (length_of a) (length_of b) (length_of c))
      (from_plus (plus (plus from (length_of a)) (length_of b)) (length_of c)))
  part_up_to (part.in_back a b c from n p) =
      subst (λ (q : Length). ¬ IsLess q (plus o (length_of t))) (three_long from (length_of a) (length_of b) (length_of c)) (part_up_to p)
  part_up_to (part.in_pair opener kind inside None from n p) =
      subst (λ (q : Length). ¬ IsLess q (plus o (length_of t))) (plus_assoc from opener (length_of inside)) (part_up_to p)
  part_up_to (part.in_pair opener kind inside (Some closer) from n p) =
      up_to (plus o (length_of t)) (plus from (plus opener (length_of inside))) _
      (subst (λ (q : Length). ¬ IsLess q (plus o (length_of t))) (plus_assoc from opener (length_of inside)) (part_up_to p))
      (subst (λ q. ¬ IsLess q (plus from (plus opener (length_of inside))))
      (plus_assoc from (plus opener (length_of inside)) closer)
      (from_plus (plus from (plus opener (length_of inside))) closer))

module _ (limit : ℕ) (test : Length → Bool) where
  pub part_in : {t : Tree} {o : Length} {level : ℕ} {x : Tree} {from : Length} {n : ℕ} → IsPart t o level x from n
      → (rest : Items) (ms : List Mark) → Stands limit n (items_then x rest) from ms
      → EndAt test (items_then x rest) from → PartIn limit test t o level ms
  part_in (part.itself) = λ rest ms s e. whole_in limit test _ rest _ _ ms s e
  part_in (part.in_first a b from n p) = λ rest ms s e. part_in p (items_then b rest) ms s e
  part_in (part.in_second a b from n p) = λ rest ms s e.
      second_in limit test _ _ _ a (items_then b rest) from n ms s e (part_from p)
      (λ back s2 e2. part_in p rest back s2 e2)
  part_in (part.in_front a b c from n p) = λ rest ms s e. part_in p (items_then b (items_then c rest)) ms s e
  part_in (part.in_middle a b c from n p) = λ rest ms s e.
      second_in limit test _ _ _ a (items_then b (items_then c rest)) from n ms s e (part_from p)
      (λ back s2 e2. part_in p (items_then c rest) back s2 e2)
  part_in (part.in_back a b c from n p) = λ rest ms s e.
      second_in limit test _ _ _ a (items_then b (items_then c rest)) from n ms s e
      (up_to (plus from (length_of a)) (plus (plus from (length_of a)) (length_of b)) _
      (from_plus (plus from (length_of a)) (length_of b)) (part_from p))
      (λ back s2 e2. second_in limit test _ _ _ b (items_then c rest) (plus from (length_of a)) n back s2 e2
      (part_from p) (λ back3 s3 e3. part_in p rest back3 s3 e3))
  part_in (part.in_pair opener kind inside None from n p) = λ rest ms s e.
      unclosed_in limit test _ _ _ opener kind inside rest from n ms s e (part_from p)
      (λ within s2 e2. part_in p end within s2 e2)
  part_in (part.in_pair opener kind inside (Some closer) from n p) = λ rest ms s e.
      pair_in limit test _ _ _ opener kind inside closer rest from n ms s e (part_from p) (part_up_to _ _ _ p)
      (λ within s2 e2. part_in p end within s2 e2)
