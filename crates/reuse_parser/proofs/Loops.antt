-- What a list of nodes keeps while it grows.
use Rattle.std.proofs.Common.{◌≡◌, ℕ, ◌+◌, ◌≤◌, List, [], ◌∷◌, ◌++◌, max, refl, sym, ap, ◌∙◌, subst, arith}
use Rattle.std.proofs.Common.{append_assoc, append-nil, Option, Some, None}
use Rattle.tree_defs.proofs.Lengths.{plus_assoc}
use Rattle.bracket_ast.specs.Shapes.{or_nothing}
use Rattle.tree_concat.specs.Joined.{some_leaves}
use Rattle.text_pos.specs.declared.length.Length.{Length}
use Rattle.text_pos.specs.Lengths.{plus}
use Rattle.pairing_defs.specs.declared.Mark.{Mark}
use Rattle.tree_defs.specs.Tree.{Tree, Nothing, Text, Bracket, Lone, Pair, Two, Three, depth}
use Rattle.tree_defs.specs.Shape.{all_leaves, leaves_of, all_items, total, EndsFit, Fits, length_of, RunsFit}
use Rattle.tree_defs.specs.Items.{items_then, end}
use Rattle.tree_defs.proofs.Lengths.{items_append, leaf_items, total_append, total_leaves, ends_append, ends_runs}
use Rattle.tree_defs.proofs.Lengths.{plus_none}
use Rattle.reuse_parser.specs.declared.place.Around.{Around}
use Rattle.reuse_parser.specs.Parsing.{Leads, Follow, Grows, Listed, Stopped, front_has, Still}
use Rattle.reuse_parser.specs.Parsing.{Ends}
use Rattle.tree_defs.specs.Ends.{EndAt}
use Rattle.reuse_parser.specs.Parsing as parsing

-- the depth of the deepest
abbrev pub deepest : List Tree → ℕ
deepest [] = 0
deepest (t ∷ ts) = max (depth t) (deepest ts)

-- nodes that are parsed, and what is left of the marks
pub record Parsed (a : Around) (at : Length) (ms : List Mark) (ts : List Tree) (to : Length) (rest : List Mark) : Type
    0 where
  pub done : List Mark
  pub are : ms ≡ done ++ rest
  pub leaves : all_leaves ts ≡ ts
  pub fit : EndsFit at ts
  pub long : plus at (total ts) ≡ to
  pub shallow : deepest ts + a.level ≤ a.limit
  pub follow : Follow to a.end rest
  pub leads : Leads a (all_items ts) at done to rest
  pub still : Still a ms rest
  pub ends : Ends a (all_items ts) at ms to rest

-- ---- at first
pub parsed_first : (a : Around) (at : Length) (ms : List Mark) → a.level ≤ a.limit → Follow at a.end ms
    → Parsed a at ms [] at ms
parsed_first a at ms room follow = record {
  done = [];
  are = refl;
  leaves = refl;
  fit = tt;
  long = plus_none at;
  shallow = omega (arith, room);
  follow = follow;
  leads = λ its more has stop h fine. fine;
  still = λ test holds. holds;
  ends = λ test its holds none ends. ends;
}

-- ---- one node more
leaves_more : (ts : List Tree) (t : Tree) → all_leaves ts ≡ ts → leaves_of t ≡ t ∷ []
    → all_leaves (ts ++ t ∷ []) ≡ ts ++ t ∷ []
leaves_more ts t are leaf = leaves_behind ts (t ∷ []) ∙ ap (λ l. l ++ (leaves_of t ++ [])) are
    ∙ ap (λ l. ts ++ (l ++ [])) leaf
  where
    leaves_behind : (xs ys : List Tree) → all_leaves (xs ++ ys) ≡ all_leaves xs ++ all_leaves ys
    leaves_behind [] ys = refl
    leaves_behind (x ∷ xs) ys = ap (λ l. leaves_of x ++ l) (leaves_behind xs ys)
        ∙ sym (append_assoc (leaves_of x) (all_leaves xs) (all_leaves ys))

total_more : (at to : Length) (ts : List Tree) (t : Tree) (behind : Length) → plus at (total ts) ≡ to
    → plus to (length_of t) ≡ behind → plus at (total (ts ++ t ∷ [])) ≡ behind
total_more at to ts t behind long last =
    ap (λ l. plus at l) (total_append ts (t ∷ []) ∙ ap (λ l. plus (total ts) l) (plus_none (length_of t)))
    ∙ sym (plus_assoc at (total ts) (length_of t))
    ∙ ap (λ p. plus p (length_of t)) long ∙ last

pub deepest_more : (ts : List Tree) (t : Tree) (level limit : ℕ) → deepest ts + level ≤ limit → depth t + level ≤ limit
    → deepest (ts ++ t ∷ []) + level ≤ limit
deepest_more [] t level limit h k = omega (arith, h, k)
deepest_more (x ∷ ts) t level limit h k =
    let more = deepest_more ts t level limit (omega (arith, h)) k in omega (arith, more, h)

pub parsed_more : (a : Around) (at : Length) (ms : List Mark) (ts : List Tree) (to : Length) (rest : List Mark)
    (t : Tree)
    (behind : Length) (left : List Mark) → Parsed a at ms ts to rest → Grows a to rest t behind left → Fits behind
    → Parsed a at ms (ts ++ t ∷ []) behind left
parsed_more a at ms ts to rest t behind left p g fits = record {
  done = p.done ++ g.done;
  are = p.are ∙ ap (λ l. p.done ++ l) g.are ∙ sym (append_assoc p.done g.done left);
  leaves = leaves_more ts t p.leaves g.leaf;
  fit = ends_append at ts (t ∷ []) p.fit
      (subst (λ l. Fits l) (sym (ap (λ q. plus q (length_of t)) p.long ∙ g.long)) fits, tt);
  long = total_more at to ts t behind p.long g.long;
  shallow = deepest_more ts t a.level a.limit p.shallow g.shallow;
  follow = g.follow;
  still = λ test holds. g.still test (p.still test holds);
  ends = λ test its holds none ends.
      subst (λ x. EndAt test x at) (sym (items_append ts (t ∷ []) its))
      (p.ends test (items_then t its) holds (λ s. absurd (g.more s))
      (g.ends test its (p.still test holds) none ends));
  leads = λ its more has stop h fine.
      let inner = g.leads its more has stop h fine in
      let whole = p.leads (items_then t its) (g.done ++ more) has stop (λ s. absurd (g.more s)) inner in
      subst (λ x. parsing.Fine a has stop x at ((p.done ++ g.done) ++ more)) (sym (items_append ts (t ∷ []) its))
      (subst (λ x. parsing.Fine a has stop (all_items ts (items_then t its)) at x) (sym
      (append_assoc p.done g.done more)) whole);
}

-- ---- the whole list
pub runs_fit : (a : Around) (at : Length) (ms : List Mark) (ts : List Tree) (to : Length) (rest : List Mark)
    → Parsed a at ms ts to rest → Fits at → RunsFit (all_leaves ts)
runs_fit a at ms ts to rest p fits = subst (λ l. RunsFit l) (sym p.leaves) (ends_runs at ts fits p.fit)

pub deepest_of : (xs ys : List Tree) → deepest (xs ++ ys) ≡ max (deepest xs) (deepest ys)
deepest_of [] ys = omega arith
deepest_of (x ∷ xs) ys = let h = deepest_of xs ys in omega (arith, h)

pub depth_leaves : (t : Tree) → depth t ≡ deepest (leaves_of t)
depth_leaves Nothing = refl
depth_leaves (Text len cut) = refl
depth_leaves (Bracket len kind) = refl
depth_leaves (Lone len kinds) = refl
depth_leaves (Pair opener kind inside closer) = omega arith
depth_leaves (Two a b) =
    let h = depth_leaves a in let k = depth_leaves b in let d = deepest_of (leaves_of a) (leaves_of b) in omega
    (arith, h, k, d)
depth_leaves (Three a b c) =
    let h = depth_leaves a in let k = depth_leaves b in let m = depth_leaves c in
    let d = deepest_of (leaves_of a) (leaves_of b ++ leaves_of c) in
    let e = deepest_of (leaves_of b) (leaves_of c) in omega (arith, h, k, m, d, e)

pub parsed_whole : (a : Around) (at : Length) (ms : List Mark) (ts : List Tree) (to : Length) (rest : List Mark)
    (t : Tree)
    → Parsed a at ms ts to rest → Stopped a to rest → leaves_of t ≡ all_leaves ts → Listed a at ms t to rest
parsed_whole a at ms ts to rest t p stopped same = record {
  done = p.done;
  are = p.are;
  long = ap (λ l. plus at l) (sym (total_leaves t) ∙ ap total leaves) ∙ p.long;
  shallow = subst (λ d. d + a.level ≤ a.limit) (sym (depth_leaves t ∙ ap deepest leaves)) p.shallow;
  follow = p.follow;
  stopped = stopped;
  still = p.still;
  ends = λ test holds. subst (λ x. EndAt test x at) items (p.ends test end holds (λ s. refl) tt);
  fine = subst (λ x. parsing.Fine a (front_has rest) to x at p.done) items
      (subst (λ x. parsing.Fine a (front_has rest) to (all_items ts end) at x) (append-nil p.done)
      (p.leads end [] (front_has rest) to (λ s. record { no_item = refl; no_mark = refl; front = λ k. refl })
      (record { stands = refl; ends = refl; apart = λ k t. refl; passes = λ n. tt })));
}
  where
    leaves : leaves_of t ≡ ts
    leaves = same ∙ p.leaves

    items : all_items ts end ≡ items_then t end
    items = ap (λ l. all_items l end) (sym leaves) ∙ leaf_items t end

pub root_leaves : (o : Option Tree) → leaves_of (or_nothing o) ≡ some_leaves o
root_leaves None = refl
root_leaves (Some t) = refl
