-- What a part of an old tree stands for at a place of the new text, where no change lies before its end.
use Rattle.std.proofs.Common.{◌≡◌, ℕ, ◌+◌, ◌≤◌, ◌⊎◌, inl, inr, List, [], ◌++◌, map, true, false}
use Rattle.std.proofs.Common.{Some, None, max, refl, sym, subst, arith}
use Rattle.text_pos.specs.declared.length.Length.{Length}
use Rattle.text_pos.specs.Lengths.{plus}
use Rattle.pairing_defs.specs.declared.Mark.{Mark}
use Rattle.pairing_defs.specs.Pairing.{Open, open_after, placed_from, nothing_open}
use Rattle.bracket_marks.specs.MarkedLine.{MarkedLine, marks_in, text_end}
use Rattle.change_defs.specs.declared.Change.{Change}
use Rattle.change_defs.specs.Changes.{before, distance, placed}
use Rattle.change_defs.specs.Agreement.{moved}
use Rattle.change_laws.specs.Chains.{has_room}
use Rattle.tree_defs.specs.Tree.{Tree, Nothing, Text, Bracket, Lone, Pair, Two, Three, CanBeReused, is_cut, depth}
use Rattle.tree_defs.specs.Shape.{length_of, no_length}
use Rattle.tree_defs.specs.Items.{items_of, end, behind, depth_of, Stands}
use Rattle.tree_defs.specs.Cuts as cuts
use Rattle.tree_defs.specs.Ends.{in_lines, fits}
use Rattle.tree_defs.specs.Rows.{start, tree_rows}
use Rattle.tree_defs.proofs.Lengths.{plus_none}
use Rattle.tree_defs.proofs.Move.{moves}
use Rattle.tree_defs.proofs.Opened.{cut_then}
use Rattle.reuse_defs.specs.Since.{Since, lengths_of}
use Rattle.reuse_defs.specs.Settled.{ClosedPair, closed_pairs, node_of, is_unmet}
use Rattle.reuse_defs.specs.Unsettled.{rows_of}
use Rattle.reuse_parser.specs.declared.place.Around.{Around}
use Rattle.reuse_parser.specs.Reusing.{ahead_of, IsIn, IsPart}
use Rattle.reuse_parser.specs.Reusing as part
use Rattle.reuse_parser.specs.Counting.{IsCalm, IsOpenAt}
use Rattle.reuse_parser.proofs.Sources.{marks_follow}
use Rattle.reuse_parser.proofs.Reused.{Ended, ended}
use Rattle.reuse_parser.proofs.Within.{PartIn, part_in, Lies, lies, AllUpTo}
use Rattle.reuse_parser.proofs.Moved.{AllSome, some_front, some_back, follow_some}
use Rattle.reuse_parser.proofs.Stretch.{mid_moved, marks_there}
use Rattle.reuse_parser.proofs.Starting.{in_part, Part}
use Rattle.reuse_parser.proofs.Plain.{IsPlain, tree_plain, items_plain, plain_uncut, plain_apart, pair_plain, tree_count, full_count}
use Rattle.reuse_parser.proofs.Plain.{full_partners, are_plain, AllHave, have_split, rows_count, Deep, deep, plain_depth}
use Rattle.reuse_parser.proofs.Beside.{Brackets, brackets}
use Rattle.reuse_parser.proofs.Unmet.{Unmet, pair_unmet}

-- ---- a part before the next change
pub record Stood (limit : ℕ) (lines : List MarkedLine) (at : Length) (t : Tree) : Type 0 where
  pub level : ℕ
  pub done : List Mark
  pub are : ahead_of lines at ≡ done ++ ahead_of lines (plus at (length_of t))
  pub stands : Stands limit level (items_of t) at done

pub stood : (lines : List MarkedLine) (a : Around) (at : Length) (old : Tree) (changes : List Change) (t : Tree)
    (o : Length) (level : ℕ) → IsIn lines a at → (since : Since a.limit old changes lines)
    → before changes at ≡ Some o → IsPart t o level old start 0 → has_room (distance changes at) (length_of t) ≡ true
    → is_cut t ≡ false → Stood a.limit lines at t
stood lines a at old changes t o level i since is part room uncut =
    let len = length_of t in
    let test = in_lines (lengths_of since.old) in
    let p : PartIn a.limit test t o level (marks_in since.old) =
    part_in a.limit test part end (marks_in since.old) since.stands.stands since.stands.inside in
    let e : Ended test t end o = ended test t end o p.inside in
    let own : Lies o (behind (items_of t) o) p.mid = lies a.limit level (items_of t) o p.mid p.stands in
    let own_to : AllUpTo (plus o len) p.mid = subst (λ q. AllUpTo q p.mid) e.ends own.to in
    let some : AllSome (p.pre ++ (p.mid ++ p.post)) = subst AllSome p.are
    (follow_some start since.last (marks_in since.old)
    (marks_follow since.old since.last since.marked since.some since.is_last)) in
    let pre_some = some_front p.pre (p.mid ++ p.post) some in
    let mid_some = some_front p.mid p.post (some_back p.pre (p.mid ++ p.post) some) in
    let news = marks_follow lines a.end i.marked i.some i.last in record {
      level = level;
      done = map (moved changes) p.mid;
      are = marks_there changes at o len since.order is room (marks_in lines) (marks_in since.old) p.pre p.mid p.post
          start a.end news since.agree.new_uncut since.agree.same p.are p.low pre_some own.from own_to mid_some p.high;
      stands = subst (λ q. Stands a.limit level (items_of t) q (map (moved changes) p.mid)) (plus_none at)
          (moves a.limit (items_of t) level o at no_length p.mid (map (moved changes) p.mid) (cut_then t end uncut refl)
          (subst (λ q. Stands a.limit level (items_of t) q p.mid) (sym (plus_none o)) p.stands)
          (mid_moved changes at o len since.order is room p.mid own.from own_to mid_some));
    }

-- ---- a closed pair is a part
either : {A B C : Type 0} → (A → C) → (B → C) → A ⊎ B → C
either f g (inl a) = f a
either f g (inr b) = g b

pub pair_part : (x : Tree) (at : Length) (n : ℕ) (p : ClosedPair) → cuts.IsIn p (closed_pairs x at)
    → Part (node_of p) p.from x at n
pair_part Nothing at n p is = absurd is
pair_part (Text len cut) at n p is = absurd is
pair_part (Bracket len kind) at n p is = absurd is
pair_part (Lone len kinds) at n p is = absurd is
pair_part (Pair o k inside None) at n p is =
    let i : Part (node_of p) p.from inside (plus at o) (n + 1) = pair_part inside (plus at o) (n + 1) p is in
    record { level = i.level; part = part.in_pair o k inside None at n i.part }
pair_part (Pair o k inside (Some c)) at n p (inl same) =
    subst (λ (q : ClosedPair). Part (node_of q) q.from (Pair o k inside (Some c)) at n) (sym same)
    (record { level = n; part = part.itself })
pair_part (Pair o k inside (Some c)) at n p (inr is) =
    let i : Part (node_of p) p.from inside (plus at o) (n + 1) = pair_part inside (plus at o) (n + 1) p is in
    record { level = i.level; part = part.in_pair o k inside (Some c) at n i.part }
pair_part (Two a b) at n p is =
    either (λ i. let q : Part (node_of p) p.from a at n = pair_part a at n p i in
    record { level = q.level; part = part.in_first a b at n q.part })
    (λ i. let q : Part (node_of p) p.from b (plus at (length_of a)) n = pair_part b (plus at (length_of a)) n p i in
    record { level = q.level; part = part.in_second a b at n q.part })
    (in_part p (closed_pairs a at) (closed_pairs b (plus at (length_of a))) is)
pair_part (Three a b c) at n p is =
    let at2 = plus at (length_of a) in let at3 = plus at2 (length_of b) in
    either (λ i. let q : Part (node_of p) p.from a at n = pair_part a at n p i in
    record { level = q.level; part = part.in_front a b c at n q.part })
    (λ j. either (λ i. let q : Part (node_of p) p.from b at2 n = pair_part b at2 n p i in
    record { level = q.level; part = part.in_middle a b c at n q.part })
    (λ i. let q : Part (node_of p) p.from c at3 n = pair_part c at3 n p i in
    record { level = q.level; part = part.in_back a b c at n q.part })
    (in_part p (closed_pairs b at2) (closed_pairs c at3) j))
    (in_part p (closed_pairs a at) (closed_pairs b at2 ++ closed_pairs c at3) is)

-- ---- where each old mark has a row with a partner
module _ (limit : ℕ) (old : Tree) (changes : List Change) (lines : List MarkedLine) (c : IsCalm limit old changes lines) where
  pub calm_plain : IsPlain old
  calm_plain =
      let rows = rows_of limit c.since.old in
      let all = tree_rows (items_of old) start 0 [] in
      let a = c.paired.rows in
      let b = full_count rows all c.since.stands.rows in
      let d = tree_count (items_of old) start 0 [] in
      (tree_plain old end (are_plain limit 0 (items_of old) start 0 [] (marks_in c.since.old)
      (full_partners rows all c.since.stands.rows c.paired.partners) c.since.stands.stands
      (omega (arith, a, b, d)))).0

  pub calm_have : AllHave limit nothing_open (marks_in lines)
  calm_have =
      let a = c.uncut in
      let b = rows_count (text_end lines) 0 (placed_from limit nothing_open (marks_in lines)) in omega (arith, a, b)

  -- a closed pair that no change meets or touches, and where it lies in the new text
  pub calm_pair : (p : ClosedPair) → cuts.IsIn p (closed_pairs old start) → is_unmet (placed changes) p ≡ true
      → Unmet changes p.from (length_of (node_of p))
  calm_pair p is apart =
      let b : Brackets fits p = brackets fits p old end start is c.since.stands.fit in
      pair_unmet changes p c.since.order b.opener b.ends apart

-- a closed pair of such an old tree can be reused where it lies, with no opener cut in the new text
pub pair_passes : (lines : List MarkedLine) (a : Around) (at : Length) (old : Tree) (changes : List Change)
    (p : ClosedPair) → IsIn lines a at → IsCalm a.limit old changes lines → IsOpenAt lines a at → a.level ≤ a.limit
    → cuts.IsIn p (closed_pairs old start) → before changes at ≡ Some p.from
    → has_room (distance changes at) (length_of (node_of p)) ≡ true
    → CanBeReused a.above a.level a.limit (node_of p)
pair_passes lines a at old changes p i calm opens room is before_at fits_in =
    let plain : IsPlain (node_of p) = pair_plain old start p (calm_plain a.limit old changes lines calm) is in
    let q : Part (node_of p) p.from old start 0 = pair_part old start 0 p is in
    let s : Stood a.limit lines at (node_of p) =
    stood lines a at old changes (node_of p) p.from q.level i calm.since before_at q.part fits_in
    (plain_uncut (node_of p) plain) in
    let state : Open = open_after a.limit nothing_open opens.front in
    let have0 : AllHave a.limit nothing_open (opens.front ++ ahead_of lines at) =
    subst (λ l. AllHave a.limit nothing_open l) opens.are (calm_have a.limit old changes lines calm) in
    let have1 : AllHave a.limit nothing_open opens.front × AllHave a.limit state (ahead_of lines at) =
    have_split a.limit nothing_open opens.front (ahead_of lines at) have0 in
    let have2 : AllHave a.limit state s.done × AllHave a.limit (open_after a.limit state s.done)
    (ahead_of lines (plus at (length_of (node_of p)))) =
    have_split a.limit state s.done (ahead_of lines (plus at (length_of (node_of p))))
    (subst (λ l. AllHave a.limit state l) s.are have1.1) in
    let level = opens.level in
    let d : Deep a.limit (items_of (node_of p)) s.done state =
    deep a.limit a.limit s.level (items_of (node_of p)) at s.done state s.stands (items_plain (node_of p) end plain tt)
    have2.0 (omega (arith, level, room)) in
    let bound = d.deep in
    let whole = plain_depth (node_of p) end plain in
    let low = most (depth (node_of p)) (depth_of (items_of (node_of p))) whole in record {
      uncut = plain_uncut (node_of p) plain;
      shallow = omega (arith, bound, low, level);
      apart = λ k above. plain_apart (node_of p) k plain;
    }
  where
    most : (n m : ℕ) → max n 0 ≤ m → n ≤ m
    most n m h = omega (arith, h)
