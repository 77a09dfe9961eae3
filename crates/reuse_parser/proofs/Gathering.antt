-- The nodes of a list, one behind the other, and the tree that they make up where the list ends.
use Rattle.std.proofs.Common.{◌≡◌, ℕ, ◌+◌, ◌<◌, ◌≤◌, List, [], ◌∷◌, ◌++◌, Bool, true, false}
use Rattle.std.proofs.Common.{Option, Some, None, refl, sym, ap, ◌∙◌, subst, arith, append_assoc, append-nil}
use Rattle.text_pos.specs.declared.length.Length.{Length}
use Rattle.text_pos.specs.Lengths.{plus, IsLess}
use Rattle.pairing_defs.specs.declared.Role.TheVariants.{Opener}
use Rattle.pairing_defs.specs.declared.Mark.{Mark}
use Rattle.bracket_marks.specs.MarkedLine.{MarkedLine}
use Rattle.mark_source.specs.Source.{Source}
use Rattle.tree_defs.specs.Tree.{Tree, Pair}
use Rattle.tree_defs.specs.Shape.{length_of, leaves_of, all_leaves, all_items, total, Fits, RunsFit, EndsFit}
use Rattle.tree_defs.specs.Items.{Items, items_then, end, behind, left_by}
use Rattle.tree_defs.specs.Ends.{in_lines}
use Rattle.tree_defs.proofs.Lengths.{plus_assoc, plus_none, total_append, total_leaves, ends_runs, ends_append}
use Rattle.tree_defs.proofs.Lengths.{items_append, leaf_items}
use Rattle.reuse_parser.specs.declared.place.Around.{Around}
use Rattle.reuse_parser.specs.declared.relist.Stop.{Stop}
use Rattle.reuse_parser.specs.Parsing.{start_of, end_of, size_of, Follow, Stopped, Fine, role_has, front_has}
use Rattle.reuse_parser.specs.Parsing as parsing
use Rattle.reuse_parser.specs.declared.old.Old.{Old}
use Rattle.reuse_defs.specs.Since.{lengths_of}
use Rattle.reuse_parser.specs.Reusing.{ahead_of, IsIn, Adds, Fills, InLines}
use Rattle.reuse_parser.specs.Reading.{Lasts, IsStop, LeftAt, StandsAt, closer_has}
use Rattle.reuse_parser.specs.Olds.{IsSet}
use Rattle.reuse_parser.proofs.Marks.{size_ends, in_line, is_at}
use Rattle.reuse_parser.proofs.Loops.{deepest, deepest_of, deepest_more, depth_leaves}
use Rattle.reuse_parser.proofs.Pairs.{stands_within, kind_above, above_kept, none_more, left_stopped}
use Rattle.reuse_parser.proofs.Adding.{IsMet, met}

-- ---- trees and their leaves
pub total_all : (ts : List Tree) → total (all_leaves ts) ≡ total ts
total_all [] = refl
total_all (t ∷ ts) = total_append (leaves_of t) (all_leaves ts)
    ∙ ap (λ l. plus l (total (all_leaves ts))) (total_leaves t) ∙ ap (λ l. plus (length_of t) l) (total_all ts)

deepest_all : (ts : List Tree) → deepest (all_leaves ts) ≡ deepest ts
deepest_all [] = refl
deepest_all (t ∷ ts) =
    let h = deepest_of (leaves_of t) (all_leaves ts) in let k = depth_leaves t in let m = deepest_all ts in omega
    (arith, h, k, m)

items_all : (ts : List Tree) (rest : Items) → all_items (all_leaves ts) rest ≡ all_items ts rest
items_all [] rest = refl
items_all (t ∷ ts) rest = items_append (leaves_of t) (all_leaves ts) rest
    ∙ leaf_items t (all_items (all_leaves ts) rest) ∙ ap (λ r. items_then t r) (items_all ts rest)

leaves_append : (xs ys : List Tree) → all_leaves (xs ++ ys) ≡ all_leaves xs ++ all_leaves ys
leaves_append [] ys = refl
leaves_append (x ∷ xs) ys = ap (λ l. leaves_of x ++ l) (leaves_append xs ys)
    ∙ sym (append_assoc (leaves_of x) (all_leaves xs) (all_leaves ys))

leaves_more : (ts : List Tree) (t : Tree) → all_leaves (ts ++ t ∷ []) ≡ all_leaves ts ++ leaves_of t
leaves_more ts t = leaves_append ts (t ∷ []) ∙ ap (λ l. all_leaves ts ++ l) (append-nil (leaves_of t))

total_more : (at to : Length) (ts : List Tree) (t : Tree) (behind : Length) → plus at (total ts) ≡ to
    → plus to (length_of t) ≡ behind → plus at (total (ts ++ t ∷ [])) ≡ behind
total_more at to ts t behind long last =
    ap (λ l. plus at l) (total_append ts (t ∷ []) ∙ ap (λ l. plus (total ts) l) (plus_none (length_of t)))
    ∙ sym (plus_assoc at (total ts) (length_of t))
    ∙ ap (λ p. plus p (length_of t)) long ∙ last

-- ---- nodes one behind the other
pub record Gathered (lines : List MarkedLine) (a : Around) (at : Length) (ts : List Tree) (to : Length) : Type 0 where
  pub done : List Mark
  pub are : ahead_of lines at ≡ done ++ ahead_of lines to
  pub long : plus at (total ts) ≡ to
  pub shallow : deepest ts + a.level ≤ a.limit
  pub up_to : ¬ IsLess a.end to
  pub runs : EndsFit at (all_leaves ts)
  pub leads : (its : Items) (ms : List Mark) (has : ℕ → Bool) (stop : Length) → Fine a has stop its to ms
      → Fine a has stop (all_items ts its) at (done ++ ms)
  pub ends : (its : Items) → InLines lines its to → InLines lines (all_items ts its) at

pub gathered_first : (lines : List MarkedLine) (a : Around) (at : Length) → IsIn lines a at → a.level ≤ a.limit
    → Gathered lines a at [] at
gathered_first lines a at i room = record {
  done = [];
  are = refl;
  long = plus_none at;
  shallow = omega (arith, room);
  up_to = i.up_to;
  runs = tt;
  leads = λ its ms has stop fine. fine;
  ends = λ its ends. ends;
}

runs_more : (at to : Length) (ts : List Tree) (t : Tree) → plus at (total ts) ≡ to → EndsFit at (all_leaves ts)
    → EndsFit to (leaves_of t) → EndsFit at (all_leaves (ts ++ t ∷ []))
runs_more at to ts t long runs more = subst (λ l. EndsFit at l) (sym (leaves_more ts t))
    (ends_append at (all_leaves ts) (leaves_of t) runs
    (subst (λ p. EndsFit p (leaves_of t)) (sym (ap (λ l. plus at l) (total_all ts) ∙ long)) more))

pub gathered_more : (lines : List MarkedLine) (a : Around) (at : Length) (ts : List Tree) (to : Length) (t : Tree)
    (behind : Length) → Gathered lines a at ts to → Adds lines a to t behind
    → Gathered lines a at (ts ++ t ∷ []) behind
gathered_more lines a at ts to t behind p g = record {
  done = p.done ++ g.done;
  are = p.are ∙ ap (λ l. p.done ++ l) g.are ∙ sym (append_assoc p.done g.done (ahead_of lines behind));
  long = total_more at to ts t behind p.long g.long;
  shallow = deepest_more ts t a.level a.limit p.shallow g.shallow;
  up_to = g.up_to;
  runs = runs_more at to ts t p.long p.runs g.runs;
  leads = λ its ms has stop fine.
      let whole = p.leads (items_then t its) (g.done ++ ms) has stop (g.leads its ms has stop fine) in
      subst (λ x. Fine a has stop x at ((p.done ++ g.done) ++ ms)) (sym (items_append ts (t ∷ []) its))
      (subst (λ x. Fine a has stop (all_items ts (items_then t its)) at x) (sym (append_assoc p.done g.done ms)) whole);
  ends = λ its ends. subst (λ x. InLines lines x at) (sym (items_append ts (t ∷ []) its))
      (p.ends (items_then t its) (g.ends its ends));
}

-- ---- the whole list
pub runs_fit : (lines : List MarkedLine) (a : Around) (at : Length) (ts : List Tree) (to : Length)
    → Gathered lines a at ts to → Fits at → RunsFit (all_leaves ts)
runs_fit lines a at ts to p fits = ends_runs at (all_leaves ts) fits p.runs

pub last_runs_fit : (lines : List MarkedLine) (a : Around) (at : Length) (ts : List Tree) (to : Length) (t : Tree)
    (stop : Length) → Gathered lines a at ts to → Lasts lines a to t stop → Fits at
    → RunsFit (all_leaves (ts ++ t ∷ []))
last_runs_fit lines a at ts to t stop p l fits =
    ends_runs at (all_leaves (ts ++ t ∷ [])) fits (runs_more at to ts t p.long p.runs l.runs)

filled : (lines : List MarkedLine) (a : Around) (at : Length) (ts : List Tree) (to : Length) (t : Tree)
    (done : List Mark) → leaves_of t ≡ all_leaves ts → ahead_of lines at ≡ done ++ ahead_of lines to
    → plus at (total ts) ≡ to → deepest ts + a.level ≤ a.limit → ¬ IsLess a.end to
    → Fine a (front_has (ahead_of lines to)) to (all_items ts end) at done → InLines lines (all_items ts end) at
    → Fills lines a at t to
filled lines a at ts to t done leaves are long shallow up fine ends =
    let items : all_items ts end ≡ items_then t end =
    sym (items_all ts end) ∙ ap (λ l. all_items l end) (sym leaves) ∙ leaf_items t end in
    record {
      done = done;
      are = are;
      long = ap (λ l. plus at l) (sym (total_leaves t) ∙ ap total leaves ∙ total_all ts) ∙ long;
      shallow = subst (λ d. d + a.level ≤ a.limit) (sym (depth_leaves t ∙ ap deepest leaves ∙ deepest_all ts)) shallow;
      up_to = up;
      fine = subst (λ x. Fine a (front_has (ahead_of lines to)) to x at done) items fine;
      ends = subst (λ x. InLines lines x at) items ends;
    }

pub gathered_end : (lines : List MarkedLine) (a : Around) (at : Length) (ts : List Tree) (to : Length) (t : Tree)
    → Gathered lines a at ts to → leaves_of t ≡ all_leaves ts → Fills lines a at t to
gathered_end lines a at ts to t p leaves =
    filled lines a at ts to t p.done leaves p.are p.long p.shallow p.up_to
    (subst (λ ms. Fine a (front_has (ahead_of lines to)) to (all_items ts end) at ms) (append-nil p.done)
    (p.leads end [] (front_has (ahead_of lines to)) to
    (record { stands = refl; ends = refl; apart = λ k t. refl; passes = λ n. tt }))) (p.ends end tt)

pub gathered_last : (lines : List MarkedLine) (a : Around) (at : Length) (ts : List Tree) (to : Length) (node : Tree)
    (stop : Length) (t : Tree) → Gathered lines a at ts to → Lasts lines a to node stop
    → leaves_of t ≡ all_leaves (ts ++ node ∷ []) → Fills lines a at t stop
gathered_last lines a at ts to node stop t p l leaves =
    let items : all_items ts (items_then node end) ≡ all_items (ts ++ node ∷ []) end =
    sym (items_append ts (node ∷ []) end) in
    filled lines a at (ts ++ node ∷ []) stop t (p.done ++ l.fills.done) leaves
    (p.are ∙ ap (λ x. p.done ++ x) l.fills.are ∙ sym (append_assoc p.done l.fills.done (ahead_of lines stop)))
    (total_more at to ts node stop p.long l.fills.long)
    (deepest_more ts node a.level a.limit p.shallow l.fills.shallow) l.fills.up_to
    (subst (λ x. Fine a (front_has (ahead_of lines stop)) stop x at (p.done ++ l.fills.done)) items
    (p.leads (items_then node end) l.fills.done (front_has (ahead_of lines stop)) stop l.fills.fine))
    (subst (λ x. InLines lines x at) items (p.ends (items_then node end) l.fills.ends))

-- ---- a pair without closer
pub left_lasts : (lines : List MarkedLine) (a b : Around) (m : Mark) (kind : ℕ) (t : Tree) (to : Length)
    → IsIn lines a (start_of m) → ahead_of lines (start_of m) ≡ m ∷ ahead_of lines (end_of m)
    → a.level < a.limit → m.role ≡ Opener kind → parsing.IsWithin a kind b → Fills lines b (end_of m) t to
    → front_has (ahead_of lines to) kind ≡ false → Fits to
    → Lasts lines a (start_of m) (Pair (size_of m) kind t None) to
left_lasts lines a b m kind t to i is room role w l none fits =
    let x : IsMet lines a m = met lines a m i is in
    let inside = items_then t end in
    let begins = size_ends m x.some in
    let within : Fine b (front_has (ahead_of lines to)) to inside (plus (start_of m) (size_of m)) l.done =
    subst (λ p. Fine b (front_has (ahead_of lines to)) to inside p l.done) (sym begins) l.fine in
    let long : plus (start_of m) (length_of (Pair (size_of m) kind t None)) ≡ to =
    sym (plus_assoc (start_of m) (size_of m) (length_of t)) ∙ ap (λ p. plus p (length_of t)) begins ∙ l.long in
    record {
      fills = record {
        done = m ∷ l.done;
        are = is ∙ ap (λ ms. m ∷ ms) l.are;
        long = long;
        shallow = omega (arith, l.shallow, w.level, w.limit);
        up_to = subst (λ p. ¬ IsLess p to) w.last l.up_to;
        fine = record {
          stands = record {
            mark = m;
            within = l.done;
            are = refl;
            place = is_at m x.some;
            role = role;
            room = room;
            held = stands_within a b kind inside (plus (start_of m) (size_of m)) l.done w within.stands;
            not_missed = within.apart kind (kind_above a b kind w);
          };
          ends = within.ends;
          apart = λ k h. within.apart k (above_kept a b kind k w h);
          passes = λ n. none_more (front_has (ahead_of lines to)) (left_by (n + 1) inside)
              (record { row = n; kind = kind }) (within.passes (n + 1)) none;
        };
        ends = (
          in_line m x.some,
          subst (λ p. in_lines (lengths_of lines) p ≡ true) (sym begins) x.ends,
          subst (λ p. InLines lines inside p) (sym begins) l.ends,
        );
      };
      runs = (subst (λ p. Fits p) (sym long) fits, tt);
    }

-- ---- where a list ends
pub front_is : (lines : List MarkedLine) (a : Around) (s : Source) (old : Old) (stop : Stop) (kind : ℕ)
    → IsStop lines a s old stop → front_has (ahead_of lines stop.at) kind ≡ closer_has stop.closer kind
front_is lines a s old stop kind is = by stop.closer refl is.left
  where
    by : (c : Option Mark) → stop.closer ≡ c → LeftAt lines a.limit s old stop.at c
        → front_has (ahead_of lines stop.at) kind ≡ closer_has stop.closer kind
    by None e left = ap (λ ms. front_has ms kind) left.2 ∙ sym (ap (λ c. closer_has c kind) e)
    by (Some m) e left = ap (λ ms. front_has ms kind) left.0 ∙ sym (ap (λ c. closer_has c kind) e)

pub outer_stop : (lines : List MarkedLine) (a b : Around) (s : Source) (old : Old) (stop : Stop) (kind : ℕ)
    → parsing.IsWithin a kind b → IsStop lines b s old stop → front_has (ahead_of lines stop.at) kind ≡ false
    → IsStop lines a s old stop
outer_stop lines a b s old stop kind w is none = record {
  stopped = left_stopped a b kind stop.at (ahead_of lines stop.at) w none is.stopped;
  left = subst (λ n. LeftAt lines n s old stop.at stop.closer) w.limit is.left;
}

pub record ClosesAt (lines : List MarkedLine) (limit : ℕ) (s : Source) (old : Old) (at : Length) (m : Mark) : Type 0 where
  pub starts : at ≡ start_of m
  pub is : ahead_of lines at ≡ m ∷ ahead_of lines (end_of m)
  pub stands : StandsAt s (end_of m)
  pub ready : IsSet lines limit old (end_of m)

pub closes_at : (lines : List MarkedLine) (a : Around) (s : Source) (old : Old) (stop : Stop) (m : Mark)
    → IsStop lines a s old stop → stop.closer ≡ Some m → ClosesAt lines a.limit s old stop.at m
closes_at lines a s old stop m is e =
    let left : LeftAt lines a.limit s old stop.at (Some m) = subst (λ c. LeftAt lines a.limit s old stop.at c) e is.left in record {
      starts = (subst (λ l. Stopped a stop.at l) left.0 is.stopped).0;
      is = left.0;
      stands = left.1;
      ready = left.2;
    }
