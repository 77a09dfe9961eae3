-- The tree of a whole text that is made with nodes of an old tree.
use Rattle.std.proofs.Common.{◌≡◌, ℕ, ◌+◌, ◌<◌, ◌≤◌, ◌^◌, ◌&&◌, List, [], ◌++◌, length, false, IsTrue}
use Rattle.std.proofs.Common.{Option, Some, None, sym, ap, ◌∙◌, subst, arith, append-nil, inl, inr}
use Rattle.text_pos.specs.declared.length.Length.{Length}
use Rattle.text_pos.specs.declared.length.Pos.{Pos}
use Rattle.text_pos.specs.declared.kinds.Kinds.{Kinds}
use Rattle.text_pos.specs.KindSet.{has_kind}
use Rattle.text_pos.specs.Lengths.{IsLess}
use Rattle.pairing_defs.specs.declared.Mark.{Mark}
use Rattle.pairing_defs.specs.Pairing.{paired}
use Rattle.bracket_marks.specs.MarkedLine.{MarkedLine, marks_in, text_end}
use Rattle.mark_source.specs.Source.{Source, marks_from, is_before, AreMarked}
use Rattle.mark_source.proofs.Ahead.{all_ahead}
use Rattle.mark_source.proofs.Places.{all_in_order}
use Rattle.tree_defs.specs.Tree.{Tree}
use Rattle.tree_defs.specs.Shape.{length_of, no_length, IsEven}
use Rattle.tree_defs.specs.Items.{items_of, Stands}
use Rattle.tree_defs.specs.Ends.{fits, in_lines}
use Rattle.tree_defs.specs.Rows.{start, place, tree_rows, AreFull}
use Rattle.tree_defs.proofs.FullRows.{row_law}
use Rattle.tree_defs.proofs.CutTexts.{cut_law}
use Rattle.tree_defs.proofs.Lengths.{none_plus}
use Rattle.reuse_parser.specs.declared.place.Around.{Around}
use Rattle.reuse_parser.specs.declared.old.Old.{Old}
use Rattle.reuse_parser.specs.declared.relist.Stop.{Stop}
use Rattle.reuse_parser.specs.Parsing.{Stopped, role_has}
use Rattle.reuse_defs.specs.Since.{lengths_of}
use Rattle.reuse_parser.specs.Reusing.{ahead_of, IsIn, AreShort, Fills}
use Rattle.reuse_parser.specs.Reading.{StandsAt, IsStop, LeftAt}
use Rattle.reuse_parser.specs.Olds.{Went}
use Rattle.reuse_defs.specs.Settled.{is_unsettled}
use Rattle.reuse_defs.specs.Unsettled.{RisesByFresh}
use Rattle.change_defs.specs.declared.Change.{Change}
use Rattle.fresh_laws.proofs.FreshLaw.{fresh_law}
use Rattle.std.proofs.Common.{count_by}
use Rattle.reuse_defs.specs.Whole.{StandsFor}
use Rattle.reuse_parser.proofs.AheadOf.{up_to_itself}
use Rattle.reuse_parser.proofs.Reused.{in_fits, weaker}
use Rattle.reuse_parser.proofs.Sources.{first_place, all_marks, marks_follow, some_of, nothing_open, not_before}
use Rattle.reuse_parser.proofs.Stepping.{few_lines}

-- ---- at the text's start
pub no_less : (p : Length) → ¬ IsLess p no_length
no_less p (inl h) = omega (arith, h)
no_less p (inr h) = let l = h.1 in omega (arith, l)

pub whole_in : (lines : List MarkedLine) (a : Around) → AreMarked lines → 0 < length lines
    → place a.end ≡ text_end lines → IsIn lines a start
whole_in lines a marked some last =
    record { marked = marked; some = some; last = last; up_to = no_less a.end }

pub stands_first : (s : Source) → s.place ≡ first_place → StandsAt s start
stands_first s begin = record {
  place = subst (λ p. is_before (place start) p ≡ false) (sym begin)
      (not_before (place start) (place start) (up_to_itself start));
  ahead = ap (λ p. marks_from p (marks_in s.lines)) begin;
}

-- ---- at the text's end
-- a list around which nothing is open ends there
pub record IsWhole (lines : List MarkedLine) (last : Length) (s : Source) (at : Length) : Type 0 where
  pub ends : at ≡ last
  pub none : ahead_of lines at ≡ []
  pub stands : StandsAt s at

pub whole_stop : (lines : List MarkedLine) (a : Around) (s : Source) (old : Old) (stop : Stop)
    → ((k : ℕ) → has_kind a.above k ≡ false) → IsStop lines a s old stop → IsWhole lines a.end s stop.at
whole_stop lines a s old stop none is = by stop.closer is.left
  where
    open_none : (m : Mark) → ((k : ℕ) × IsTrue (role_has m.role k && has_kind a.above k)) → ⊥
    open_none m o = nothing_open (role_has m.role o.0) (has_kind a.above o.0) (none o.0) o.1

    by : (c : Option Mark) → LeftAt lines a.limit s old stop.at c → IsWhole lines a.end s stop.at
    by None left = record {
      ends = subst (λ ms. Stopped a stop.at ms) left.2 is.stopped;
      none = left.2;
      stands = left.0;
    }
    by (Some m) left = absurd (open_none m (subst (λ ms. Stopped a stop.at ms) left.0 is.stopped).1)

-- ---- the tree
pub whole_stands : (above : Kinds) (limit : ℕ) (last : Length) (t : Tree) (to : Length) (lines : List MarkedLine)
    → IsIn lines (record { above = above; level = 0; limit = limit; end = last }) start → AreShort lines
    → last.lines < 2 ^ 32
    → Fills lines (record { above = above; level = 0; limit = limit; end = last }) start t to → to ≡ last
    → ahead_of lines to ≡ [] → IsEven t → StandsFor limit t lines
whole_stands above limit last t to lines i short few l at none even =
    let all : marks_in lines ≡ l.done =
    sym (all_ahead first_place (marks_in lines) (all_in_order lines i.marked)) ∙ l.are
    ∙ ap (λ ms. l.done ++ ms) none ∙ append-nil l.done in
    let stands = subst (λ ms. Stands limit 0 (items_of t) start ms) (sym all) l.fine.stands in
    let ends = ap place (l.fine.ends ∙ at) ∙ i.last in
    let many = few_lines lines last i.last few in
    record {
      stands = stands;
      long = ap place (sym (none_plus (length_of t)) ∙ l.long ∙ at) ∙ i.last;
      ends = ends;
      even = even;
      inside = l.ends;
      fit = weaker (in_lines (lengths_of lines)) fits (λ p h. in_fits lines short many p h) (items_of t) start l.ends;
      rows = subst (λ e. AreFull (paired limit e (marks_in lines)) (tree_rows (items_of t) start 0 [])) ends
          (row_law limit t (marks_in lines) stands);
      cuts = cut_law limit t (marks_in lines) stands
          (some_of start last (marks_in lines) (marks_follow lines last i.marked i.some i.last));
    }

-- ---- places and counts
pub last_is : (last : Length) (p : Pos) (lines : List MarkedLine) → last.lines ≡ p.line → last.cols ≡ p.col
    → p ≡ text_end lines → place last ≡ text_end lines
last_is last p lines line col is = ap (λ n. record { line = n; col = last.cols }) line
    ∙ ap (λ n. record { line = p.line; col = n }) col ∙ is

pub seeks : (lines : List MarkedLine) (last : Length) (s : Source) (at : Length) (p : Pos) → IsWhole lines last s at
    → place last ≡ text_end lines → p ≡ text_end lines → is_before p s.place ≡ false
seeks lines last s at p w is ends =
    subst (λ q. is_before q s.place ≡ false) (ap place w.ends ∙ is ∙ sym ends) w.stands.place

pub few_steps : (limit : ℕ) (s u : Source) (n k : ℕ) (old now : Old) → AreMarked s.lines → s.place ≡ first_place
    → Went limit s n old u k now → k ≤ n + length (marks_in s.lines)
few_steps limit s u n k old now marked begin went =
    let all = ap length (all_marks s marked begin) in let few = went.few in omega (arith, all, few)

pub few_given : (limit : ℕ) (s u : Source) (n k : ℕ) (old now : Old) → AreMarked s.lines → s.place ≡ first_place
    → Went limit s n old u k now → u.given ≤ s.given + length (marks_in s.lines)
few_given limit s u n k old now marked begin went =
    let all = ap length (all_marks s marked begin) in let few = went.few_given in omega (arith, all, few)

-- where each old mark has a row with a partner and each new mark a row, by at most the unsettled marks
pub fresh_rises : (limit : ℕ) (s u : Source) (n k : ℕ) (old now : Old) → AreMarked s.lines → s.place ≡ first_place
    → Went limit s n old u k now → RisesByFresh limit old.reader.tree old.mapper s.lines n k
fresh_rises limit s u n k old now marked begin went since paired uncut =
    let all = ap (λ ms. count_by (is_unsettled old.reader.tree old.mapper) ms) (all_marks s marked begin) in
    let few = went.fresh (record { since = since; paired = paired; uncut = uncut }) in
    let most = fresh_law limit old.reader.tree old.mapper s.lines since paired in omega (arith, all, few, most)

pub fresh_given : (limit : ℕ) (s u : Source) (n k : ℕ) (old now : Old) → AreMarked s.lines → s.place ≡ first_place
    → Went limit s n old u k now → RisesByFresh limit old.reader.tree old.mapper s.lines s.given u.given
fresh_given limit s u n k old now marked begin went since paired uncut =
    let all = ap (λ ms. count_by (is_unsettled old.reader.tree old.mapper) ms) (all_marks s marked begin) in
    let few = went.fresh_given (record { since = since; paired = paired; uncut = uncut }) in
    let most = fresh_law limit old.reader.tree old.mapper s.lines since paired in omega (arith, all, few, most)

-- the same of a tree and changes that are the same
pub rises_on : (limit : ℕ) (t u : Tree) (a b : List Change) (lines : List MarkedLine) (n k : ℕ) → t ≡ u → a ≡ b
    → RisesByFresh limit t a lines n k → RisesByFresh limit u b lines n k
rises_on limit t u a b lines n k same changes h = subst (λ x. RisesByFresh limit x b lines n k) same
    (subst (λ y. RisesByFresh limit t y lines n k) changes h)
