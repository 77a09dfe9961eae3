-- A node that is found in an old tree adds to the list at its place.
use Rattle.std.proofs.Common.{◌≡◌, ℕ, zero, suc, ◌<◌, ◌≤◌, ◌^◌, ◌&&◌, inl, inr, List, [], ◌∷◌, ◌++◌, length, map}
use Rattle.std.proofs.Common.{Bool, true, false, Option, Some, None, refl, sym, ap, ◌∙◌, subst, arith}
use Rattle.std.proofs.lemmas.Bool.Decides.{nat_tests}
use Rattle.std.specs.List.{slice_get}
use Rattle.text_pos.specs.declared.length.Length.{Length}
use Rattle.text_pos.specs.Lengths.{plus, IsLess}
use Rattle.pairing_defs.specs.declared.Mark.{Mark}
use Rattle.bracket_marks.specs.MarkedLine.{MarkedLine, marks_in, text_end, last_length}
use Rattle.change_defs.specs.declared.Change.{Change}
use Rattle.change_defs.specs.Changes.{is_less, rest_of, distance}
use Rattle.change_defs.specs.Agreement.{moved}
use Rattle.change_laws.specs.Chains.{has_room}
use Rattle.change_laws.proofs.Order.{plus_less, rest_plus}
use Rattle.tree_defs.specs.Tree.{Tree, Nothing, Text, Bracket, Lone, Pair, Two, Three, Passes, is_bare}
use Rattle.tree_defs.specs.Shape.{length_of, Fits, no_length}
use Rattle.tree_defs.specs.Items.{Items, end, text, lone, pair, unclosed, stray, unclosed_then, items_then, items_of}
use Rattle.tree_defs.specs.Items.{behind, Stands}
use Rattle.tree_defs.specs.Ends.{EndAt, in_lines, reaches}
use Rattle.tree_defs.specs.Rows.{place, start}
use Rattle.tree_defs.proofs.Lengths.{plus_assoc, plus_none}
use Rattle.tree_defs.proofs.Move.{moves}
use Rattle.tree_defs.proofs.Opened.{IsMore, passes_of, cut_then, reused_more}
use Rattle.tree_defs.proofs.Parts.{Splits, splits}
use Rattle.reuse_parser.specs.declared.place.Around.{Around}
use Rattle.reuse_parser.specs.Parsing.{start_of, end_of}
use Rattle.reuse_defs.specs.Since.{lengths_of, Since}
use Rattle.reuse_parser.specs.Reusing.{IsIn, IsFound, HasRoom, AreShort, Adds, InLines}
use Rattle.reuse_parser.proofs.Sources.{marks_follow, last_line}
use Rattle.reuse_parser.proofs.AheadOf.{up_to, up_to_itself, from_plus, mark_less}
use Rattle.reuse_parser.proofs.Reused.{Ended, ended, reused_adds}
use Rattle.reuse_parser.proofs.Within.{PartIn, part_in, Lies, lies, AllFrom, AllUpTo, ends_on}
use Rattle.reuse_parser.proofs.Moved.{not_is_less, less_is, AllSome, some_front, some_back, follow_some}
use Rattle.reuse_parser.proofs.Stretch.{image_there, outside_there, mid_moved, marks_there}

pub room_of : (r : Option Length) (len : Length) → HasRoom r len → has_room r len ≡ true
room_of None len room = refl
room_of (Some r) len room = less_is len r room

-- where items end that start behind a place
behind_from : (its : Items) (a b : Length) → behind its (plus a b) ≡ plus a (behind its b)
behind_from end a b = refl
behind_from (text l cut rest) a b = ap (λ x. behind rest x) (plus_assoc a b l) ∙ behind_from rest a (plus b l)
behind_from (lone l kinds rest) a b = ap (λ x. behind rest x) (plus_assoc a b l) ∙ behind_from rest a (plus b l)
behind_from (pair l k inside c rest) a b =
    ap (λ x. behind rest (plus (behind inside x) c)) (plus_assoc a b l)
    ∙ ap (λ x. behind rest (plus x c)) (behind_from inside a (plus b l))
    ∙ ap (λ x. behind rest x) (plus_assoc a (behind inside (plus b l)) c)
    ∙ behind_from rest a (plus (behind inside (plus b l)) c)
behind_from (unclosed l k inside) a b =
    ap (λ x. behind inside x) (plus_assoc a b l) ∙ behind_from inside a (plus b l)
behind_from stray a b = refl

inner_at : (inside : Items) (a d l : Length) → behind inside (plus (plus a d) l) ≡ plus a (behind inside (plus d l))
inner_at inside a d l = ap (λ x. behind inside x) (plus_assoc a d l) ∙ behind_from inside a (plus d l)

-- ---- where nodes end in the new text
module _ (old new : Length → Bool) (o at len : Length)
    (goes : (d : Length) → ¬ IsLess len d → old (plus o d) ≡ true → new (plus at d) ≡ true) where
  one_goes : (d l : Length) → ¬ IsLess len (plus d l) → old (plus (plus o d) l) ≡ true → new (plus (plus at d) l) ≡ true
  one_goes d l up h = subst (λ p. new p ≡ true) (sym (plus_assoc at d l))
      (goes (plus d l) up (subst (λ p. old p ≡ true) (plus_assoc o d l) h))

  ends_go : (its : Items) (d : Length) → ¬ IsLess len (behind its d) → EndAt old its (plus o d)
      → EndAt new its (plus at d)
  ends_go end d up h = tt
  ends_go (text l cut rest) d up h = (
    one_goes d l (up_to (plus d l) (behind rest (plus d l)) len (ends_on rest (plus d l)) up) h.0,
    subst (λ p. EndAt new rest p) (sym (plus_assoc at d l))
        (ends_go rest (plus d l) up (subst (λ p. EndAt old rest p) (plus_assoc o d l) h.1)),
  )
  ends_go (lone l kinds rest) d up h = (
    h.0,
    one_goes d l (up_to (plus d l) (behind rest (plus d l)) len (ends_on rest (plus d l)) up) h.1,
    subst (λ p. EndAt new rest p) (sym (plus_assoc at d l))
        (ends_go rest (plus d l) up (subst (λ p. EndAt old rest p) (plus_assoc o d l) h.2)),
  )
  ends_go (pair l k inside c rest) d up h =
      let mid = behind inside (plus d l) in
      let last_up : ¬ IsLess len (plus mid c) =
      up_to (plus mid c) (behind rest (plus mid c)) len (ends_on rest (plus mid c)) up in
      let mid_up : ¬ IsLess len mid = up_to mid (plus mid c) len (from_plus mid c) last_up in
      let old_mid : behind inside (plus (plus o d) l) ≡ plus o mid = inner_at inside o d l in
      let new_mid : behind inside (plus (plus at d) l) ≡ plus at mid = inner_at inside at d l in (
        h.0,
        one_goes d l (up_to (plus d l) mid len (ends_on inside (plus d l)) mid_up) h.1,
        subst (λ p. EndAt new inside p) (sym (plus_assoc at d l))
            (ends_go inside (plus d l) mid_up (subst (λ p. EndAt old inside p) (plus_assoc o d l) h.2)),
        h.3,
        subst (λ p. new (plus p c) ≡ true) (sym new_mid)
            (one_goes mid c last_up (subst (λ p. old (plus p c) ≡ true) old_mid h.4)),
        subst (λ p. EndAt new rest (plus p c)) (sym new_mid)
            (subst (λ p. EndAt new rest p) (sym (plus_assoc at mid c))
            (ends_go rest (plus mid c) up (subst (λ p. EndAt old rest p) (plus_assoc o mid c)
            (subst (λ p. EndAt old rest (plus p c)) old_mid h.5)))),
      )
  ends_go (unclosed l k inside) d up h = (
    h.0,
    one_goes d l (up_to (plus d l) (behind inside (plus d l)) len (ends_on inside (plus d l)) up) h.1,
    subst (λ p. EndAt new inside p) (sym (plus_assoc at d l))
        (ends_go inside (plus d l) up (subst (λ p. EndAt old inside p) (plus_assoc o d l) h.2)),
  )
  ends_go stray d up h = h

-- ---- where a node ends that isn't empty
pub ends_at : (test : Length → Bool) (its : Items) (at : Length) → test at ≡ true → EndAt test its at
    → test (behind its at) ≡ true
ends_at test end at here h = here
ends_at test (text len cut rest) at here h = ends_at test rest (plus at len) h.0 h.1
ends_at test (lone len kinds rest) at here h = ends_at test rest (plus at len) h.1 h.2
ends_at test (pair o k inside c rest) at here h = ends_at test rest (plus (behind inside (plus at o)) c) h.4 h.5
ends_at test (unclosed o k inside) at here h = ends_at test inside (plus at o) h.1 h.2
ends_at test stray at here h = absurd h

more_ends : (test : Length → Bool) (its : Items) (at : Length) → IsMore its → EndAt test its at
    → test (behind its at) ≡ true
more_ends test end at more h = absurd more
more_ends test (text len cut rest) at more h = ends_at test rest (plus at len) h.0 h.1
more_ends test (lone len kinds rest) at more h = ends_at test rest (plus at len) h.1 h.2
more_ends test (pair o k inside c rest) at more h = ends_at test rest (plus (behind inside (plus at o)) c) h.4 h.5
more_ends test (unclosed o k inside) at more h = ends_at test inside (plus at o) h.1 h.2
more_ends test stray at more h = absurd h

-- a place in lines isn't behind the text's end
line_there : (lines : List MarkedLine) (n col : ℕ) → reaches (slice_get (lengths_of lines) n) col ≡ true
    → n < length lines
line_there [] n col h = cc
line_there (line ∷ lines) zero col h = omega arith
line_there (line ∷ lines) (suc n) col h = let k = line_there lines n col h in omega (arith, k)

reached : (a b : ℕ) → reaches (Some a) b ≡ true → b ≤ a
reached a b h = grind (arith, nat_tests)

in_up_to : (lines : List MarkedLine) (last p : Length) → place last ≡ text_end lines
    → in_lines (lengths_of lines) p ≡ true → ¬ IsLess last p
in_up_to [] last p is h less = cc
in_up_to (line ∷ lines) last p is h (inl less) =
    let there = line_there (line ∷ lines) p.lines p.cols h in
    let at = ap (λ q. q.line) is in omega (arith, there, at, less)
in_up_to (line ∷ lines) last p is h (inr less) =
    let at = ap (λ q. q.line) is in
    let col = ap (λ q. q.col) is in
    let same = less.0 in
    let further = less.1 in
    let n : p.lines ≡ length lines = omega (arith, at, same) in
    let up = reached (last_length (line ∷ lines)) p.cols
    (subst (λ o. reaches o p.cols ≡ true) (last_line [] line lines p.lines (omega (arith, n))) h) in
    omega (arith, up, col, further)

-- ---- a node with a row has a mark
bare_none : (limit level : ℕ) (t : Tree) (rest : Items) (at : Length) → Stands limit level (items_then t rest) at []
    → is_bare t ≡ true
bare_none limit level Nothing rest at s = refl
bare_none limit level (Text len cut) rest at s = refl
bare_none limit level (Bracket len kind) rest at s = refl
bare_none limit level (Lone len kinds) rest at s = absurd (no_cons s.are)
  where
    no_cons : {m : Mark} {ms : List Mark} → [] ≡ m ∷ ms → ⊥
    no_cons e = cc
bare_none limit level (Pair o k inside None) rest at s = absurd (no_unclosed rest s)
  where
    no_cons : {m : Mark} {ms : List Mark} → [] ≡ m ∷ ms → ⊥
    no_cons e = cc

    no_unclosed : (rest : Items) → Stands limit level (unclosed_then o k (items_then inside end) rest) at [] → ⊥
    no_unclosed end s = no_cons s.are
    no_unclosed (text a b c) s = absurd s
    no_unclosed (lone a b c) s = absurd s
    no_unclosed (pair a b c d e) s = absurd s
    no_unclosed (unclosed a b c) s = absurd s
    no_unclosed stray s = absurd s
bare_none limit level (Pair o k inside (Some c)) rest at s = absurd (no_cons s.are)
  where
    no_cons : {m : Mark} {ms : List Mark} → [] ≡ m ∷ ms → ⊥
    no_cons e = cc
bare_none limit level (Two a b) rest at s =
    let p : Splits limit level (items_then a) (items_then b rest) at [] =
    splits limit level a (items_then b rest) at [] s in
    both (is_bare a) (is_bare b) (bare_none limit level a (items_then b rest) at s)
    (bare_none limit level b rest (behind (items_then a end) at)
    (subst (λ l. Stands limit level (items_then b rest) (behind (items_then a end) at) l)
    (back_none p.front p.back p.are) p.tail))
  where
    both : (x y : Bool) → x ≡ true → y ≡ true → (x && y) ≡ true
    both true y h k = k
    both false y h k = cc

    back_none : (xs ys : List Mark) → [] ≡ xs ++ ys → ys ≡ []
    back_none [] ys e = sym e
    back_none (x ∷ xs) ys e = cc
bare_none limit level (Three a b c) rest at s =
    let p : Splits limit level (items_then a) (items_then b (items_then c rest)) at [] =
    splits limit level a (items_then b (items_then c rest)) at [] s in
    let mid = behind (items_then a end) at in
    let tail : Stands limit level (items_then b (items_then c rest)) mid [] =
    subst (λ l. Stands limit level (items_then b (items_then c rest)) mid l) (back_none p.front p.back p.are) p.tail in
    let q : Splits limit level (items_then b) (items_then c rest) mid [] =
    splits limit level b (items_then c rest) mid [] tail in
    both (is_bare a) (is_bare b && is_bare c) (bare_none limit level a (items_then b (items_then c rest)) at s)
    (both (is_bare b) (is_bare c) (bare_none limit level b (items_then c rest) mid tail)
    (bare_none limit level c rest (behind (items_then b end) mid)
    (subst (λ l. Stands limit level (items_then c rest) (behind (items_then b end) mid) l)
    (back_none q.front q.back q.are) q.tail)))
  where
    both : (x y : Bool) → x ≡ true → y ≡ true → (x && y) ≡ true
    both true y h k = k
    both false y h k = cc

    back_none : (xs ys : List Mark) → [] ≡ xs ++ ys → ys ≡ []
    back_none [] ys e = sym e
    back_none (x ∷ xs) ys e = cc

-- so it takes some of the text
takes_some : (o len at : Length) (ms : List Mark) → AllFrom o ms → AllUpTo (plus o len) ms → AllSome ms
    → (ms ≡ [] → ⊥) → IsLess at (plus at len)
takes_some o len at [] from to some none = absurd (none refl)
takes_some o len at (m ∷ ms) from to some none =
    is_it (sym (ap (λ p. is_less p (plus at len)) (plus_none at)) ∙ plus_less at no_length len
    ∙ sym (plus_less o no_length len) ∙ ap (λ p. is_less p (plus o len)) (plus_none o)
    ∙ less_is o (plus o len) (less_far o (start_of m) (end_of m) (plus o len) from.0 (mark_less m some.0) to.0))
  where
    is_it : is_less at (plus at len) ≡ true → IsLess at (plus at len)
    is_it h = less_by_test at (plus at len) h
      where
        less_by_test : (a b : Length) → is_less a b ≡ true → IsLess a b
        less_by_test a b h = grind (arith, nat_tests)

    less_far : (a b c d : Length) → ¬ IsLess b a → IsLess b c → ¬ IsLess d c → IsLess a d
    less_far a b c d h k l = less_both a c d (less_first a b c h k) l
      where
        less_first : (a b c : Length) → ¬ IsLess b a → IsLess b c → IsLess a c
        less_first a b c h (inl k) = grind (arith, h, k)
        less_first a b c h (inr k) = grind (arith, h, k)

        less_both : (a c d : Length) → IsLess a c → ¬ IsLess d c → IsLess a d
        less_both a c d (inl h) k = grind (arith, h, k)
        less_both a c d (inr h) k = grind (arith, h, k)

-- ---- the node that is found
pub found_adds : (lines : List MarkedLine) (a : Around) (at : Length) (old : Tree) (changes : List Change) (t : Tree)
    → IsIn lines a at → Since a.limit old changes lines → AreShort lines → length lines ≤ 2 ^ 32 → Fits at
    → IsFound old changes a at t → Adds lines a at t (plus at (length_of t))
found_adds lines a at old changes t i since short few fits found =
    let o = found.from in
    let len = length_of t in
    let test = in_lines (lengths_of since.old) in
    let room : has_room (distance changes at) len ≡ true = room_of (distance changes at) len found.room in
    let p : PartIn a.limit test t o found.level (marks_in since.old) =
    part_in a.limit test found.part end (marks_in since.old) since.stands.stands since.stands.inside in
    let e : Ended test t end o = ended test t end o p.inside in
    let own : Lies o (behind (items_of t) o) p.mid = lies a.limit found.level (items_of t) o p.mid p.stands in
    let own_to : AllUpTo (plus o len) p.mid = subst (λ q. AllUpTo q p.mid) e.ends own.to in
    let some : AllSome (p.pre ++ (p.mid ++ p.post)) = subst AllSome p.are
    (follow_some start since.last (marks_in since.old)
    (marks_follow since.old since.last since.marked since.some since.is_last)) in
    let pre_some = some_front p.pre (p.mid ++ p.post) some in
    let mid_some = some_front p.mid p.post (some_back p.pre (p.mid ++ p.post) some) in
    let news = marks_follow lines a.end i.marked i.some i.last in
    let are = marks_there changes at o len since.order found.is room (marks_in lines) (marks_in since.old) p.pre p.mid
    p.post start a.end news since.agree.new_uncut since.agree.same p.are p.low pre_some own.from own_to mid_some
    p.high in
    let passes : Passes a.above a.level a.limit t = passes_of a.above a.level a.limit t found.can in
    let stands : Stands a.limit found.level (items_of t) at (map (moved changes) p.mid) =
    subst (λ q. Stands a.limit found.level (items_of t) q (map (moved changes) p.mid)) (plus_none at)
    (moves a.limit (items_of t) found.level o at no_length p.mid (map (moved changes) p.mid)
    (cut_then t end passes.uncut refl)
    (subst (λ q. Stands a.limit found.level (items_of t) q p.mid) (sym (plus_none o)) p.stands)
    (mid_moved changes at o len since.order found.is room p.mid own.from own_to mid_some)) in
    let inside : InLines lines (items_of t) at =
    subst (λ q. InLines lines (items_of t) q) (plus_none at)
    (ends_go test (in_lines (lengths_of lines)) o at len
    (λ d up h. subst (λ q. in_lines (lengths_of lines) q ≡ true)
    (image_there changes at o len since.order found.is room d (not_is_less len d up))
    (since.agree.places (plus o d) h
    (outside_there changes at o len since.order found.is room d (not_is_less len d up))))
    (items_of t) no_length (within_len t o len e.ends) (subst (λ q. EndAt test (items_of t) q) (sym (plus_none o))
    p.inside)) in
    let f : Ended (in_lines (lengths_of lines)) t end at = ended (in_lines (lengths_of lines)) t end at inside in
    let up : ¬ IsLess a.end (plus at len) =
    in_up_to lines a.end (plus at len) i.last
    (subst (λ q. in_lines (lengths_of lines) q ≡ true) f.ends
    (more_ends (in_lines (lengths_of lines)) (items_of t) at (reused_more a.above a.level a.limit t end found.can)
    inside)) in
    let later = takes_some o len at p.mid own.from own_to mid_some
    (λ none. not_bare (is_bare t) found.some (bare_none a.limit found.level t end o
    (subst (λ l. Stands a.limit found.level (items_of t) o l) none p.stands))) in
    reused_adds lines a at t (plus at len) found.level (map (moved changes) p.mid) stands found.can inside short few
    fits refl are up later
  where
    not_bare : (b : Bool) → b ≡ false → b ≡ true → ⊥
    not_bare b h k = cc

    within_len : (t : Tree) (o len : Length) → behind (items_of t) o ≡ plus o len
        → ¬ IsLess len (behind (items_of t) no_length)
    within_len t o len is =
        let same : behind (items_of t) no_length ≡ len =
        sym (rest_plus o (behind (items_of t) no_length))
        ∙ ap (λ q. rest_of q o)
        (sym (behind_from (items_of t) o no_length) ∙ ap (λ q. behind (items_of t) q) (plus_none o) ∙ is)
        ∙ rest_plus o len in
        subst (λ q. ¬ IsLess len q) (sym same) (up_to_itself len)
