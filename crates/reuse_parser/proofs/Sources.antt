-- The marks of a source, and where they lie in its lines.
use Rattle.std.proofs.Common.{◌≡◌, ℕ, zero, suc, nat_le, append_assoc, ◌+◌, ◌<◌, ◌≤◌, ◌&&◌, inl, inr, List, [], ◌∷◌, ◌++◌, length, map, Bool, true}
use Rattle.std.proofs.Common.{false, IsTrue, Option, Some, None}
use Rattle.bracket_ast.specs.Shapes.{or_nothing, SoundInside}
use Rattle.std.proofs.Common.{refl, sym, ap, ◌∙◌, subst, arith, append-nil}
use Rattle.std.proofs.lemmas.Bool.Decides.{nat_tests}
use Rattle.text_pos.specs.declared.length.Length.{Length}
use Rattle.text_pos.specs.declared.length.Pos.{Pos}
use Rattle.text_pos.specs.declared.kinds.Kinds.{Kinds}
use Rattle.text_pos.specs.KindSet.{has_kind}
use Rattle.text_pos.specs.Lengths.{IsLess}
use Rattle.pairing_defs.specs.declared.LineMark.{LineMark}
use Rattle.pairing_defs.specs.declared.Mark.{Mark}
use Rattle.pairing_defs.specs.Marks.{on_line, marks_of_lines}
use Rattle.bracket_marks.specs.MarkedLine.{MarkedLine, marks_in, text_end, last_length}
use Rattle.mark_source.specs.Source.{Source, ahead, first, behind, is_before, AreMarked, RiseIn}
use Rattle.mark_source.specs.Source as source
use Rattle.mark_source.proofs.Ahead.{next_ahead, all_ahead}
use Rattle.mark_source.proofs.Places.{all_in_order}
use Rattle.tree_defs.specs.Tree.{Tree}
use Rattle.tree_defs.specs.Shape.{length_of, IsEven}
use Rattle.tree_defs.specs.Items.{items_of, Stands}
use Rattle.tree_defs.specs.Rows.{start, place, tree_rows, AreFull}
use Rattle.tree_defs.proofs.FullRows.{row_law}
use Rattle.tree_defs.proofs.CutTexts.{cut_law}
use Rattle.tree_defs.specs.Cuts.{AreSome}
use Rattle.pairing_defs.specs.Pairing.{paired}
use Rattle.tree_defs.proofs.Lengths.{same_length, none_plus}
use Rattle.reuse_parser.specs.Parsing.{Follow, Listed, last_place, role_has, AllFit, HoldsAt}
use Rattle.std.specs.List.{slice_get}
use Rattle.std.proofs.lemmas.List.{length-append}
use Rattle.tree_defs.specs.Ends.{fits, in_lines}
use Rattle.reuse_defs.specs.Whole.{StandsFor}

abbrev pub first_place : Pos
first_place = record { line = 0; col = 0 }

le_true : (a b : ℕ) → a ≤ b → nat_le a b ≡ true
le_true a b h = grind (arith, nat_tests)

get_there : (before : List ℕ) (x : ℕ) (after : List ℕ) (n : ℕ) → length before ≡ n
    → slice_get (before ++ x ∷ after) n ≡ Some x
get_there [] x after zero is = refl
get_there [] x after (suc n) is = absurd (omega (arith, is))
get_there (b ∷ before) x after zero is = absurd (omega (arith, is))
get_there (b ∷ before) x after (suc n) is = get_there before x after n (omega (arith, is))

-- ---- one mark after the other
pub next_marks : (s : Source) (m : Mark) → AreMarked s.lines → Some m ≡ first (ahead s)
    → ahead s ≡ m ∷ ahead (behind (Some m) s)
next_marks s m marked is = split (ahead s) refl (sym is)
  where
    split : (ms : List Mark) → ahead s ≡ ms → first ms ≡ Some m → ahead s ≡ m ∷ ahead (behind (Some m) s)
    split [] e h = cc
    split (x ∷ rest) e h =
        let same : x ≡ m = cc in
        let here : ahead s ≡ m ∷ rest = e ∙ ap (λ y. y ∷ rest) same in
        here ∙ ap (λ l. m ∷ l) (sym (next_ahead s.place first_place (marks_in s.lines) rest m
        (all_in_order s.lines marked) here))

-- from the text's start on, all marks are ahead
pub all_marks : (s : Source) → AreMarked s.lines → s.place ≡ first_place → ahead s ≡ marks_in s.lines
all_marks s marked at = ap (λ p. source.marks_from p (marks_in s.lines)) at
    ∙ all_ahead first_place (marks_in s.lines) (all_in_order s.lines marked)

-- ---- the marks of lines follow each other
further : (n a b : ℕ) (p : Length) → a ≤ b → ¬ IsLess (record { lines = n; cols = a }) p
    → ¬ IsLess (record { lines = n; cols = b }) p
further n a b p h none (inl k) = none (inl k)
further n a b p h none (inr (e, k)) = none (inr (e, omega (arith, h, k)))

next_line : (n a : ℕ) (p : Length) → ¬ IsLess (record { lines = n; cols = a }) p
    → ¬ IsLess (record { lines = n + 1; cols = 0 }) p
next_line n a p none (inl k) = none (inl (omega (arith, k)))
next_line n a p none (inr (e, k)) = none (inl (omega (arith, e)))

not_itself : (n a : ℕ) → ¬ IsLess (record { lines = n; cols = a }) (record { lines = n; cols = a })
not_itself n a (inl k) = omega (arith, k)
not_itself n a (inr (e, k)) = omega (arith, k)

line_follows : (n from last : ℕ) (ms : List LineMark) (p whole : Length) (rest : List Mark) → RiseIn from last ms
    → ¬ IsLess (record { lines = n; cols = from }) p
    → ((q : Length) → ¬ IsLess (record { lines = n; cols = last }) q → Follow q whole rest)
    → Follow p whole (map (on_line n) ms ++ rest)
line_follows n from last [] p whole rest rise none more = more p (further n from last p rise none)
line_follows n from last (m ∷ ms) p whole rest rise none more = (
  further n from m.from p rise.0 none,
  rise.1,
  rise.2,
  line_follows n m.to last ms (record { lines = n; cols = m.to }) whole rest rise.3 (not_itself n m.to) more,
)

lines_follow : (n : ℕ) (line : MarkedLine) (lines : List MarkedLine) (p : Length) → AreMarked (line ∷ lines)
    → ¬ IsLess (record { lines = n; cols = 0 }) p
    → Follow p (record { lines = n + length lines; cols = last_length (line ∷ lines) })
    (marks_of_lines n (map (λ l. l.marks) (line ∷ lines)))
lines_follow n line [] p are none = line_follows n 0 line.length line.marks p _ [] are.0 none
    (λ q h. subst (λ e. ¬ IsLess e q) (same_length (record { lines = n; cols = line.length })
    (record { lines = n + 0; cols = line.length }) (omega arith) refl) h)
lines_follow n line (next ∷ lines) p are none = line_follows n 0 line.length line.marks p _
    (marks_of_lines (n + 1) (map (λ l. l.marks) (next ∷ lines))) are.0 none
    (λ q h. subst (λ e. Follow q e (marks_of_lines (n + 1) (map (λ l. l.marks) (next ∷ lines))))
    (same_length (record { lines = n + 1 + length lines; cols = last_length (next ∷ lines) })
    (record { lines = n + length (next ∷ lines); cols = last_length (next ∷ lines) }) (omega arith) refl)
    (lines_follow (n + 1) next lines q are.1 (next_line n line.length q h)))

pub marks_follow : (lines : List MarkedLine) (last : Length) → AreMarked lines → 0 < length lines
    → place last ≡ text_end lines
    → Follow start last (marks_in lines)
marks_follow [] last are some is = absurd (omega (arith, some))
marks_follow (line ∷ lines) last are some is =
    subst (λ e. Follow start e (marks_in (line ∷ lines)))
    (same_length (record { lines = 0 + length lines; cols = last_length (line ∷ lines) }) last
    (let h = ap (λ p. p.line) is in omega (arith, h)) (sym (ap (λ p. p.col) is)))
    (lines_follow 0 line lines start are (not_itself 0 0))

-- marks that follow each other take some columns each
pub some_of : (p last : Length) (ms : List Mark) → Follow p last ms → AreSome ms
some_of p last [] follow = tt
some_of p last (m ∷ ms) follow = (
  follow.1,
  some_of (record { lines = m.at.line; cols = m.to }) last ms follow.3,
)

-- the last mark ends at or before the text's end
pub last_within : (p : Pos) (last : Length) (ms : List Mark) → Follow (record { lines = p.line; cols = p.col }) last ms
    → ¬ IsLess last (record { lines = (last_place p ms).line; cols = (last_place p ms).col })
last_within p last [] follow = follow
last_within p last (m ∷ ms) follow = last_within (source.end_of m) last ms follow.3

pub not_before : (p q : Pos) → ¬ IsLess (record { lines = p.line; cols = p.col })
    (record { lines = q.line; cols = q.col })
    → is_before p q ≡ false
not_before p q none = by (is_before p q) refl
  where
    by : (b : Bool) → is_before p q ≡ b → is_before p q ≡ false
    by false h = h
    by true h = absurd (none (before h))
      where
        before : is_before p q ≡ true → IsLess (record { lines = p.line; cols = p.col })
            (record { lines = q.line; cols = q.col })
        before h = grind (arith, nat_tests)

-- ---- the whole tree
pub nothing_open : (b c : Bool) → c ≡ false → IsTrue (b && c) → ⊥
nothing_open true true h t = cc
nothing_open true false h t = cc
nothing_open false c h t = cc

-- ---- where marks start and end
pub all_hold : (last : Length) (ms : List Mark) → AllFit ms → fits last ≡ true → HoldsAt fits last ms
all_hold last [] fit ends = ends
all_hold last (m ∷ ms) fit ends = (fit.0, fit.1, all_hold last ms fit.2 ends)

-- marks of a line lie in it
line_holds : (lens : List ℕ) (n from len : ℕ) (ms : List LineMark) (last : Length) (rest : List Mark)
    → slice_get lens n ≡ Some len → RiseIn from len ms → HoldsAt (in_lines lens) last rest
    → HoldsAt (in_lines lens) last (map (on_line n) ms ++ rest)
line_holds lens n from len [] last rest there rise more = more
line_holds lens n from len (m ∷ ms) last rest there rise more =
    let to : m.to ≤ len = rises m.to len ms rise.3 in (
      in_line m.from (let some = rise.1 in omega (arith, some, to)),
      in_line m.to to,
      line_holds lens n m.to len ms last rest there rise.3 more,
    )
  where
    rises : (from len : ℕ) (ms : List LineMark) → RiseIn from len ms → from ≤ len
    rises from len [] rise = rise
    rises from len (m ∷ ms) rise =
        let h = rises m.to len ms rise.3 in let a = rise.0 in let b = rise.1 in omega (arith, h, a, b)

    in_line : (col : ℕ) → col ≤ len → in_lines lens (record { lines = n; cols = col }) ≡ true
    in_line col up_to = rw there (le_true col len up_to)

pub lines_hold : (lens : List ℕ) (n : ℕ) (lines : List MarkedLine) (last : Length) (before : List ℕ) → AreMarked lines
    → lens ≡ before ++ map (λ l. l.length) lines → length before ≡ n → in_lines lens last ≡ true
    → HoldsAt (in_lines lens) last (marks_of_lines n (map (λ l. l.marks) lines))
lines_hold lens n [] last before are is at ends = ends
lines_hold lens n (line ∷ lines) last before are is at ends =
    line_holds lens n 0 line.length line.marks last (marks_of_lines (n + 1) (map (λ l. l.marks) lines))
    (ap (λ l. slice_get l n) is ∙ get_there before line.length (map (λ l. l.length) lines) n at) are.0
    (lines_hold lens (n + 1) lines last (before ++ line.length ∷ []) are.1
    (is ∙ sym (append_assoc before (line.length ∷ []) (map (λ l. l.length) lines)))
    (let l = length-append before (line.length ∷ []) in omega (arith, at, l)) ends)

pub last_line : (before : List ℕ) (line : MarkedLine) (lines : List MarkedLine) (n : ℕ) → n ≡ length before + length lines
    → slice_get (before ++ map (λ l. l.length) (line ∷ lines)) n ≡ Some (last_length (line ∷ lines))
last_line before line [] n is = get_there before line.length [] n (omega (arith, is))
last_line before line (next ∷ lines) n is =
    ap (λ l. slice_get l n) (sym (append_assoc before (line.length ∷ []) (map (λ l. l.length) (next ∷ lines))))
    ∙ last_line (before ++ line.length ∷ []) next lines n
    (let l = length-append before (line.length ∷ []) in omega (arith, is, l))

pub end_holds : (lines : List MarkedLine) (last : Length) → 0 < length lines → place last ≡ text_end lines
    → in_lines (map (λ l. l.length) lines) last ≡ true
end_holds [] last some is = absurd (omega (arith, some))
end_holds (line ∷ lines) last some is =
    let at : last.lines ≡ length lines = let h = ap (λ p. p.line) is in omega (arith, h) in
    let col : last.cols ≡ last_length (line ∷ lines) = ap (λ p. p.col) is in
    rw (last_line [] line lines last.lines (omega (arith, at)), col)
    (le_true (last_length (line ∷ lines)) (last_length (line ∷ lines)) (omega arith))

pub stands_for : (above : Kinds) (limit : ℕ) (last : Length) (t : Tree) (to : Length) (rest : List Mark)
    (lines : List MarkedLine) → ((k : ℕ) → has_kind above k ≡ false) → place last ≡ text_end lines
    → AreMarked lines → 0 < length lines → AllFit (marks_in lines) → fits last ≡ true
    → Listed (record { above = above; level = 0; limit = limit; end = last }) start (marks_in lines) t to rest
    → IsEven t
    → StandsFor limit t lines
stands_for above limit last t to (m ∷ rest) lines none is marked some fit last_fits l even =
    absurd (nothing_open (role_has m.role l.stopped.1.0) (has_kind above l.stopped.1.0)
    (none l.stopped.1.0) l.stopped.1.1)
stands_for above limit last t to [] lines none is marked some fit last_fits l even =
    let stands = subst (λ ms. Stands limit 0 (items_of t) start ms) (sym (l.are ∙ append-nil l.done)) l.fine.stands in
    let ends = ap place (l.fine.ends ∙ l.stopped) ∙ is in record {
      stands = stands;
      long = ap place (sym (none_plus (length_of t)) ∙ l.long ∙ l.stopped) ∙ is;
      ends = ends;
      even = even;
      inside = l.ends (in_lines (map (λ x. x.length) lines))
          (lines_hold (map (λ x. x.length) lines) 0 lines last [] marked refl refl (end_holds lines last some is));
      fit = l.ends fits (all_hold last (marks_in lines) fit last_fits);
      rows = subst (λ e. AreFull (paired limit e (marks_in lines)) (tree_rows (items_of t) start 0 [])) ends
          (row_law limit t (marks_in lines) stands);
      cuts = cut_law limit t (marks_in lines) stands
          (some_of start last (marks_in lines) (marks_follow lines last marked some is));
    }

pub sound_is_even : (root : Option Tree) → SoundInside root → IsEven (or_nothing root)
sound_is_even None sound = tt
sound_is_even (Some t) sound = sound.even
