-- What a node of an old tree adds to a list, where it stands for the marks that are there.
use Rattle.std.proofs.Common.{◌≡◌, ℕ, zero, suc, ◌+◌, ◌<◌, ◌≤◌, ◌^◌, max, ◌&&◌, List, [], ◌∷◌, ◌++◌, length, Bool, true, false}
use Rattle.std.proofs.Common.{nat_lt, Some, None, refl, sym, ap, ◌∙◌, subst, arith}
use Rattle.std.proofs.lemmas.Bool.Decides.{nat_tests}
use Rattle.std.specs.List.{slice_get}
use Rattle.text_pos.specs.declared.length.Length.{Length}
use Rattle.text_pos.specs.declared.kinds.Kinds.{Kinds}
use Rattle.text_pos.specs.Lengths.{plus, IsLess}
use Rattle.pairing_defs.specs.declared.Mark.{Mark}
use Rattle.bracket_marks.specs.MarkedLine.{MarkedLine}
use Rattle.tree_defs.specs.Tree.{Tree, Nothing, Text, Bracket, Lone, Pair, Two, Three, CanBeReused, Passes, depth}
use Rattle.tree_defs.specs.Shape.{length_of, leaves_of, total, Fits, EndsFit}
use Rattle.tree_defs.specs.Items.{Items, end, text, lone, pair, unclosed, stray, unclosed_then, items_then, items_of}
use Rattle.tree_defs.specs.Items.{behind, left_by, rows_in, depth_of, Stands}
use Rattle.tree_defs.specs.Ends.{EndAt, in_lines, reaches, fits}
use Rattle.tree_defs.proofs.Lengths.{plus_assoc, plus_none, total_leaves, ends_append}
use Rattle.tree_defs.proofs.Opened.{IsMore, more_then, reused_more, passes_of, cut_then, depth_then, missed_then}
use Rattle.tree_defs.proofs.Parts.{Splits, splits, joins, EndsShut}
use Rattle.tree_defs.proofs.Relevel.{relevels}
use Rattle.reuse_parser.specs.declared.place.Around.{Around}
use Rattle.reuse_parser.specs.Parsing.{NoneBy}
use Rattle.reuse_defs.specs.Since.{lengths_of}
use Rattle.reuse_parser.specs.Reusing.{ahead_of, Adds, InLines, AreShort}

-- ---- where nodes end
-- the items of a tree end as they are long, and others may stand in place of what follows them
pub record Ended (test : Length → Bool) (t : Tree) (rest : Items) (at : Length) : Type 0 where
  pub tail : EndAt test rest (plus at (length_of t))
  pub again : (other : Items) → (IsMore other → IsMore rest) → EndAt test other (plus at (length_of t))
      → EndAt test (items_then t other) at
  pub ends : behind (items_then t rest) at ≡ behind rest (plus at (length_of t))

-- something follows where something else did
unclosed_more : (o : Length) (k : ℕ) (inside rest : Items) → IsMore (unclosed_then o k inside rest)
unclosed_more o k inside end = tt
unclosed_more o k inside (text a b c) = tt
unclosed_more o k inside (lone a b c) = tt
unclosed_more o k inside (pair a b c d e) = tt
unclosed_more o k inside (unclosed a b c) = tt
unclosed_more o k inside stray = tt

keeps : (t : Tree) (other rest : Items) → (IsMore other → IsMore rest) → IsMore (items_then t other)
    → IsMore (items_then t rest)
keeps Nothing other rest fit more = fit more
keeps (Text len cut) other rest fit more = tt
keeps (Bracket len kind) other rest fit more = tt
keeps (Lone len kinds) other rest fit more = tt
keeps (Pair o k inside None) other rest fit more = unclosed_more o k (items_then inside end) rest
keeps (Pair o k inside (Some c)) other rest fit more = tt
keeps (Two a b) other rest fit more = keeps a (items_then b other) (items_then b rest) (keeps b other rest fit) more
keeps (Three a b c) other rest fit more = keeps a (items_then b (items_then c other)) (items_then b (items_then c rest))
    (keeps b (items_then c other) (items_then c rest) (keeps c other rest fit)) more

module _ (test : Length → Bool) where
  unclosed_again : (o : Length) (k : ℕ) (inside other : Items) (at : Length) → (IsMore other → ⊥)
      → EndAt test (unclosed o k inside) at → EndAt test (unclosed_then o k inside other) at
  unclosed_again o k inside end at none ends = ends
  unclosed_again o k inside (text a b c) at none ends = absurd (none tt)
  unclosed_again o k inside (lone a b c) at none ends = absurd (none tt)
  unclosed_again o k inside (pair a b c d e) at none ends = absurd (none tt)
  unclosed_again o k inside (unclosed a b c) at none ends = absurd (none tt)
  unclosed_again o k inside stray at none ends = absurd (none tt)

  inner_end : (t : Tree) (at o : Length) → Ended test t end (plus at o)
      → behind (items_then t end) (plus at o) ≡ plus at (plus o (length_of t))
  inner_end t at o e = e.ends ∙ plus_assoc at o (length_of t)

  unclosed_ended : (o : Length) (k : ℕ) (t : Tree) (rest : Items) (at : Length)
      → (EndAt test (items_then t end) (plus at o) → Ended test t end (plus at o))
      → EndAt test (unclosed_then o k (items_then t end) rest) at → Ended test (Pair o k t None) rest at
  unclosed_ended o k t end at inner ends = record {
    tail = tt;
    again = λ other none more. unclosed_again o k (items_then t end) other at none ends;
    ends = inner_end t at o (inner ends.2);
  }
  unclosed_ended o k t (text a b c) at inner ends = absurd ends
  unclosed_ended o k t (lone a b c) at inner ends = absurd ends
  unclosed_ended o k t (pair a b c d e) at inner ends = absurd ends
  unclosed_ended o k t (unclosed a b c) at inner ends = absurd ends
  unclosed_ended o k t stray at inner ends = absurd ends

  pair_ended : (o : Length) (k : ℕ) (t : Tree) (c : Length) (rest : Items) (at : Length)
      → (EndAt test (items_then t end) (plus at o) → Ended test t end (plus at o))
      → EndAt test (pair o k (items_then t end) c rest) at → Ended test (Pair o k t (Some c)) rest at
  pair_ended o k t c rest at inner ends =
      let is : plus (behind (items_then t end) (plus at o)) c ≡ plus at (plus (plus o (length_of t)) c) =
      ap (λ p. plus p c) (inner_end t at o (inner ends.2)) ∙ plus_assoc at (plus o (length_of t)) c in
      record {
        tail = subst (λ p. EndAt test rest p) is ends.5;
        again = λ other more e. (ends.0, ends.1, ends.2, ends.3, ends.4, subst (λ p. EndAt test other p) (sym is) e);
        ends = ap (λ p. behind rest p) is;
      }

  pub ended : (t : Tree) (rest : Items) (at : Length) → EndAt test (items_then t rest) at → Ended test t rest at
  ended Nothing rest at h = record {
    tail = subst (λ p. EndAt test rest p) (sym (plus_none at)) h;
    again = λ other more e. subst (λ p. EndAt test other p) (plus_none at) e;
    ends = ap (λ p. behind rest p) (sym (plus_none at));
  }
  ended (Text len cut) rest at h = record { tail = h.1; again = λ other more e. (h.0, e); ends = refl }
  ended (Bracket len kind) rest at h = absurd h
  ended (Lone len kinds) rest at h = record { tail = h.2; again = λ other more e. (h.0, h.1, e); ends = refl }
  ended (Pair o k inside None) rest at h = unclosed_ended o k inside rest at (λ e. ended inside end (plus at o) e) h
  ended (Pair o k inside (Some c)) rest at h = pair_ended o k inside c rest at (λ e. ended inside end (plus at o) e) h
  ended (Two a b) rest at h =
      let e : Ended test a (items_then b rest) at = ended a (items_then b rest) at h in
      let f : Ended test b rest (plus at (length_of a)) = ended b rest (plus at (length_of a)) e.tail in
      let is = plus_assoc at (length_of a) (length_of b) in
      record {
        tail = subst (λ p. EndAt test rest p) is f.tail;
        again = λ other more g. e.again (items_then b other) (keeps b other rest more)
            (f.again other more (subst (λ p. EndAt test other p) (sym is) g));
        ends = e.ends ∙ f.ends ∙ ap (λ p. behind rest p) is;
      }
  ended (Three a b c) rest at h =
      let e : Ended test a (items_then b (items_then c rest)) at = ended a (items_then b (items_then c rest)) at h in
      let f : Ended test b (items_then c rest) (plus at (length_of a)) =
      ended b (items_then c rest) (plus at (length_of a)) e.tail in
      let g : Ended test c rest (plus (plus at (length_of a)) (length_of b)) =
      ended c rest (plus (plus at (length_of a)) (length_of b)) f.tail in
      let is : plus (plus (plus at (length_of a)) (length_of b)) (length_of c)
      ≡ plus at (plus (plus (length_of a) (length_of b)) (length_of c)) =
      ap (λ p. plus p (length_of c)) (plus_assoc at (length_of a) (length_of b))
      ∙ plus_assoc at (plus (length_of a) (length_of b)) (length_of c) in
      record {
        tail = subst (λ p. EndAt test rest p) is g.tail;
        again = λ other more x. e.again (items_then b (items_then c other))
            (keeps b (items_then c other) (items_then c rest) (keeps c other rest more))
            (f.again (items_then c other) (keeps c other rest more)
            (g.again other more (subst (λ p. EndAt test other p) (sym is) x)));
        ends = e.ends ∙ f.ends ∙ g.ends ∙ ap (λ p. behind rest p) is;
      }

-- what ends in no pair without closer ends before whatever stands behind it
module _ (test : Length → Bool) (above : Kinds) (level limit : ℕ) where
  pub ends_then : (t : Tree) (at : Length) (its : Items) → CanBeReused above level limit t
      → EndAt test (items_then t end) at → EndAt test its (plus at (length_of t)) → EndAt test (items_then t its) at
  ends_then Nothing at its can h more = absurd can
  ends_then (Text len cut) at its can h more = (h.0, more)
  ends_then (Bracket len kind) at its can h more = absurd can
  ends_then (Lone len kinds) at its can h more = (h.0, h.1, more)
  ends_then (Pair o k inside None) at its can h more = absurd can
  ends_then (Pair o k inside (Some c)) at its can h more =
      let e : Ended test (Pair o k inside (Some c)) end at = ended test (Pair o k inside (Some c)) end at h in
      (h.0, h.1, h.2, h.3, h.4, subst (λ p. EndAt test its p) (sym e.ends) more)
  ends_then (Two a b) at its can h more =
      let e : Ended test a (items_then b end) at = ended test a (items_then b end) at h in
      e.again (items_then b its) (λ x. reused_more above level limit b end can.1)
      (ends_then b (plus at (length_of a)) its can.1 e.tail
      (subst (λ p. EndAt test its p) (sym (plus_assoc at (length_of a) (length_of b))) more))
  ends_then (Three a b c) at its can h more =
      let e : Ended test a (items_then b (items_then c end)) at = ended test a (items_then b (items_then c end)) at h in
      let f : Ended test b (items_then c end) (plus at (length_of a)) =
      ended test b (items_then c end) (plus at (length_of a)) e.tail in
      let is : plus (plus (plus at (length_of a)) (length_of b)) (length_of c)
      ≡ plus at (plus (plus (length_of a) (length_of b)) (length_of c)) =
      ap (λ p. plus p (length_of c)) (plus_assoc at (length_of a) (length_of b))
      ∙ plus_assoc at (plus (length_of a) (length_of b)) (length_of c) in
      let last = reused_more above level limit c end can.1 in
      e.again (items_then b (items_then c its)) (λ x. more_then b (items_then c end) last)
      (f.again (items_then c its) (λ x. last)
      (ends_then c (plus (plus at (length_of a)) (length_of b)) its can.1 f.tail
      (subst (λ p. EndAt test its p) (sym is) more)))

-- ---- places of small numbers
pub weaker : (test other : Length → Bool) → ((p : Length) → test p ≡ true → other p ≡ true) → (its : Items)
    (at : Length) → EndAt test its at → EndAt other its at
weaker test other so end at h = tt
weaker test other so (text len cut rest) at h = (so (plus at len) h.0, weaker test other so rest (plus at len) h.1)
weaker test other so (lone len kinds rest) at h =
    (h.0, so (plus at len) h.1, weaker test other so rest (plus at len) h.2)
weaker test other so (pair o k inside c rest) at h = (
  h.0,
  so (plus at o) h.1,
  weaker test other so inside (plus at o) h.2,
  h.3,
  so (plus (behind inside (plus at o)) c) h.4,
  weaker test other so rest (plus (behind inside (plus at o)) c) h.5,
)
weaker test other so (unclosed o k inside) at h =
    (h.0, so (plus at o) h.1, weaker test other so inside (plus at o) h.2)
weaker test other so stray at h = h

record Reach (lines : List MarkedLine) (n col : ℕ) : Type 0 where
  pub line : n < length lines
  pub column : col < 2 ^ 32

reach : (lines : List MarkedLine) (n col : ℕ) → AreShort lines → reaches (slice_get (lengths_of lines) n) col ≡ true
    → Reach lines n col
reach [] n col short h = cc
reach (line ∷ lines) zero col short h =
    let up : col ≤ line.length = grind (arith, nat_tests) in
    record { line = omega arith; column = let s = short.0 in omega (arith, up, s) }
reach (line ∷ lines) (suc n) col short h =
    let r : Reach lines n col = reach lines n col short.1 h in
    record { line = let l = r.line in omega (arith, l); column = r.column }

both_true : (b c : Bool) → b ≡ true → c ≡ true → (b && c) ≡ true
both_true true c h k = k
both_true false c h k = cc

pub in_fits : (lines : List MarkedLine) → AreShort lines → length lines ≤ 2 ^ 32 → (p : Length)
    → in_lines (lengths_of lines) p ≡ true → fits p ≡ true
in_fits lines short few p h =
    let r : Reach lines p.lines p.cols = reach lines p.lines p.cols short h in
    let l : p.lines < 2 ^ 32 = let n = r.line in omega (arith, n, few) in
    let c = r.column in
    both_true (nat_lt p.lines (2 ^ 32)) (nat_lt p.cols (2 ^ 32)) (grind (arith, nat_tests)) (grind (arith, nat_tests))

pub as_fits : (p : Length) → fits p ≡ true → Fits p
as_fits p h = (grind (arith, nat_tests), grind (arith, nat_tests))

-- ---- the leaves of a tree end at such places
inner_fits : (its : Items) (at : Length) → EndAt fits its at → Fits at → Fits (behind its at)
inner_fits end at h here = here
inner_fits (text len cut rest) at h here = inner_fits rest (plus at len) h.1 (as_fits (plus at len) h.0)
inner_fits (lone len kinds rest) at h here = inner_fits rest (plus at len) h.2 (as_fits (plus at len) h.1)
inner_fits (pair o k inside c rest) at h here =
    inner_fits rest (plus (behind inside (plus at o)) c) h.5 (as_fits (plus (behind inside (plus at o)) c) h.4)
inner_fits (unclosed o k inside) at h here = inner_fits inside (plus at o) h.2 (as_fits (plus at o) h.1)
inner_fits stray at h here = absurd h

pub last_fits : (at : Length) (ts : List Tree) → EndsFit at ts → Fits at → Fits (plus at (total ts))
last_fits at [] ends here = subst (λ p. Fits p) (sym (plus_none at)) here
last_fits at (t ∷ ts) ends here = subst (λ p. Fits p) (plus_assoc at (length_of t) (total ts))
    (last_fits (plus at (length_of t)) ts ends.1 ends.0)

unclosed_leaf : (o : Length) (k : ℕ) (t : Tree) (rest : Items) (at : Length)
    → EndAt fits (unclosed_then o k (items_then t end) rest) at → Fits (plus at (plus o (length_of t)))
unclosed_leaf o k t end at h =
    let e : Ended fits t end (plus at o) = ended fits t end (plus at o) h.2 in
    subst (λ p. Fits p) (inner_end fits t at o e)
    (inner_fits (items_then t end) (plus at o) h.2 (as_fits (plus at o) h.1))
unclosed_leaf o k t (text a b c) at h = absurd h
unclosed_leaf o k t (lone a b c) at h = absurd h
unclosed_leaf o k t (pair a b c d e) at h = absurd h
unclosed_leaf o k t (unclosed a b c) at h = absurd h
unclosed_leaf o k t stray at h = absurd h

pub leaves_fit : (t : Tree) (rest : Items) (at : Length) → EndAt fits (items_then t rest) at → Fits at
    → EndsFit at (leaves_of t)
leaves_fit Nothing rest at h here = tt
leaves_fit (Text len cut) rest at h here = (as_fits (plus at len) h.0, tt)
leaves_fit (Bracket len kind) rest at h here = absurd h
leaves_fit (Lone len kinds) rest at h here = (as_fits (plus at len) h.1, tt)
leaves_fit (Pair o k inside None) rest at h here = (unclosed_leaf o k inside rest at h, tt)
leaves_fit (Pair o k inside (Some c)) rest at h here =
    let e : Ended fits inside end (plus at o) = ended fits inside end (plus at o) h.2 in (
      subst (λ p. Fits p) (ap (λ p. plus p c) (inner_end fits inside at o e)
          ∙ plus_assoc at (plus o (length_of inside)) c)
          (as_fits (plus (behind (items_then inside end) (plus at o)) c) h.4),
      tt,
    )
leaves_fit (Two a b) rest at h here =
    let e : Ended fits a (items_then b rest) at = ended fits a (items_then b rest) at h in
    let front = leaves_fit a (items_then b rest) at h here in
    let is = ap (λ l. plus at l) (total_leaves a) in
    let mid = subst (λ p. Fits p) is (last_fits at (leaves_of a) front here) in
    ends_append at (leaves_of a) (leaves_of b) front
    (subst (λ p. EndsFit p (leaves_of b)) (sym is) (leaves_fit b rest (plus at (length_of a)) e.tail mid))
leaves_fit (Three a b c) rest at h here =
    let e : Ended fits a (items_then b (items_then c rest)) at = ended fits a (items_then b (items_then c rest)) at h in
    let f : Ended fits b (items_then c rest) (plus at (length_of a)) =
    ended fits b (items_then c rest) (plus at (length_of a)) e.tail in
    let front = leaves_fit a (items_then b (items_then c rest)) at h here in
    let is = ap (λ l. plus at l) (total_leaves a) in
    let mid = subst (λ p. Fits p) is (last_fits at (leaves_of a) front here) in
    let next = leaves_fit b (items_then c rest) (plus at (length_of a)) e.tail mid in
    let is2 = ap (λ l. plus (plus at (length_of a)) l) (total_leaves b) in
    let far = subst (λ p. Fits p) is2 (last_fits (plus at (length_of a)) (leaves_of b) next mid) in
    ends_append at (leaves_of a) (leaves_of b ++ leaves_of c) front
    (subst (λ p. EndsFit p (leaves_of b ++ leaves_of c)) (sym is)
    (ends_append (plus at (length_of a)) (leaves_of b) (leaves_of c) next
    (subst (λ p. EndsFit p (leaves_of c)) (sym is2)
    (leaves_fit c rest (plus (plus at (length_of a)) (length_of b)) f.tail far))))

-- ---- what is left open behind it
module _ (has : ℕ → Bool) where
  abbrev pub NoneLeft : Items → Type 0
  NoneLeft its = (n : ℕ) → NoneBy has (left_by n its)

  unclosed_none : (o : Length) (k : ℕ) (inside rest : Items) → IsMore rest → NoneLeft (unclosed_then o k inside rest)
  unclosed_none o k inside end more = absurd more
  unclosed_none o k inside (text a b c) more = λ n. tt
  unclosed_none o k inside (lone a b c) more = λ n. tt
  unclosed_none o k inside (pair a b c d e) more = λ n. tt
  unclosed_none o k inside (unclosed a b c) more = λ n. tt
  unclosed_none o k inside stray more = λ n. tt

  none_then : (t : Tree) (rest : Items) → IsMore rest → NoneLeft rest → NoneLeft (items_then t rest)
  none_then Nothing rest more none = none
  none_then (Text len cut) rest more none = λ n. none n
  none_then (Bracket len kind) rest more none = λ n. tt
  none_then (Lone len kinds) rest more none = λ n. none (n + 1)
  none_then (Pair o k inside None) rest more none = unclosed_none o k (items_then inside end) rest more
  none_then (Pair o k inside (Some c)) rest more none = λ n. none (n + 1 + rows_in (items_then inside end) + 1)
  none_then (Two a b) rest more none = none_then a (items_then b rest) (more_then b rest more)
      (none_then b rest more none)
  none_then (Three a b c) rest more none =
      let last = more_then c rest more in
      none_then a (items_then b (items_then c rest)) (more_then b (items_then c rest) last)
      (none_then b (items_then c rest) last (none_then c rest more none))

  pub none_reused : (above : Kinds) (level limit : ℕ) (t : Tree) (rest : Items) → CanBeReused above level limit t
      → NoneLeft rest → NoneLeft (items_then t rest)
  none_reused above level limit Nothing rest can none = absurd can
  none_reused above level limit (Text len cut) rest can none = λ n. none n
  none_reused above level limit (Bracket len kind) rest can none = absurd can
  none_reused above level limit (Lone len kinds) rest can none = λ n. none (n + 1)
  none_reused above level limit (Pair o k inside None) rest can none = absurd can
  none_reused above level limit (Pair o k inside (Some c)) rest can none =
      λ n. none (n + 1 + rows_in (items_then inside end) + 1)
  none_reused above level limit (Two a b) rest can none =
      none_then a (items_then b rest) (reused_more above level limit b rest can.1)
      (none_reused above level limit b rest can.1 none)
  none_reused above level limit (Three a b c) rest can none =
      let last = reused_more above level limit c rest can.1 in
      none_then a (items_then b (items_then c rest)) (more_then b (items_then c rest) last)
      (none_then b (items_then c rest) last (none_reused above level limit c rest can.1 none))

shut_of : (above : Kinds) (level limit : ℕ) (t : Tree) → CanBeReused above level limit t → EndsShut t
shut_of above level limit Nothing can = absurd can
shut_of above level limit (Text len cut) can = tt
shut_of above level limit (Bracket len kind) can = absurd can
shut_of above level limit (Lone len kinds) can = tt
shut_of above level limit (Pair o k inside None) can = absurd can
shut_of above level limit (Pair o k inside (Some c)) can = tt
shut_of above level limit (Two a b) can = shut_of above level limit b can.1
shut_of above level limit (Three a b c) can = shut_of above level limit c can.1

-- ---- a node that can be reused
pub reused_adds : (lines : List MarkedLine) (a : Around) (at : Length) (t : Tree) (to : Length) (level : ℕ)
    (done : List Mark) → Stands a.limit level (items_of t) at done → CanBeReused a.above a.level a.limit t
    → InLines lines (items_of t) at → AreShort lines → length lines ≤ 2 ^ 32 → Fits at
    → plus at (length_of t) ≡ to → ahead_of lines at ≡ done ++ ahead_of lines to → ¬ IsLess a.end to → IsLess at to
    → Adds lines a at t to
reused_adds lines a at t to level done stands0 can inside short few here long are up later =
    let p : Passes a.above a.level a.limit t = passes_of a.above a.level a.limit t can in
    let flat : depth_of (items_of t) ≤ max (depth t) 0 = depth_then t end in
    let shallow = p.shallow in
    let stands : Stands a.limit a.level (items_of t) at done =
    relevels a.limit (items_of t) level a.level at done (cut_then t end p.uncut refl) (omega arith) stands0 in
    let e : Ended (in_lines (lengths_of lines)) t end at = ended (in_lines (lengths_of lines)) t end at inside in
    let last : behind (items_of t) at ≡ to = e.ends ∙ long in
    record {
      done = done;
      are = are;
      long = long;
      shallow = p.shallow;
      up_to = up;
      later = later;
      runs = leaves_fit t end at (weaker (in_lines (lengths_of lines)) fits (in_fits lines short few) (items_of t) at
          inside) here;
      ends = λ its ends. ends_then (in_lines (lengths_of lines)) a.above a.level a.limit t at its can inside
          (subst (λ q. InLines lines its q) (sym long) ends);
      leads = λ its ms has stop fine.
          let whole : Stands a.limit a.level (items_then t its) at (done ++ ms) =
          joins a.limit a.level t (shut_of a.above a.level a.limit t can) at done stands its ms
          (subst (λ q. Stands a.limit a.level its q ms) (sym last) fine.stands) in
          let s : Splits a.limit a.level (items_then t) its at (done ++ ms) =
          splits a.limit a.level t its at (done ++ ms) whole in
          record {
            stands = whole;
            ends = s.ends its (λ h. h) ∙ ap (λ q. behind its q) last ∙ fine.ends;
            apart = λ k h. missed_then k t its (p.apart k h) (fine.apart k h);
            passes = none_reused has a.above a.level a.limit t its can fine.passes;
          };
    }
