-- What each step of a parse that reads an old tree leads to.
use Rattle.std.proofs.Common.{◌≡◌, ℕ, ◌+◌, ◌<◌, ◌≤◌, ◌^◌, ◌&&◌, List, [], ◌∷◌, ◌++◌, length, true, false}
use Rattle.std.proofs.Common.{IsTrue, Some, None, Bool, not, cond, count_by, refl, sym, ap, ◌∙◌, subst, arith, append-nil}
use Rattle.std.proofs.lemmas.List.{length-append}
use Rattle.std.proofs.lemmas.List.Sums.{sum_by-append, sum_by-cons}
use Rattle.change_defs.specs.Changes.{distance}
use Rattle.text_pos.specs.declared.length.Length.{Length}
use Rattle.text_pos.specs.declared.kinds.Kinds.{Kinds}
use Rattle.text_pos.specs.KindSet.{has_kind}
use Rattle.text_pos.specs.Lengths.{plus, IsLess}
use Rattle.pairing_defs.specs.declared.Role.TheVariants.{Opener, Closer}
use Rattle.pairing_defs.specs.declared.Mark.{Mark}
use Rattle.bracket_marks.specs.MarkedLine.{MarkedLine, text_end}
use Rattle.mark_source.specs.Source.{Source, ahead, at_place, behind, first, risen, IsRole, AreMarked}
use Rattle.mark_source.proofs.Orders.{not_before_up_to}
use Rattle.tree_defs.specs.Tree.{Tree, Text, Lone, Pair}
use Rattle.tree_defs.specs.Shape.{length_of, leaves_of, all_leaves, all_items, total, Fits, RunsFit}
use Rattle.tree_defs.specs.Items.{IsOpener, items_then, end}
use Rattle.tree_defs.specs.Ends.{in_lines}
use Rattle.tree_defs.specs.Rows.{place}
use Rattle.tree_defs.proofs.Lengths.{total_leaves}
use Rattle.std.specs.Prelude.{Result, Ok, Err, IfOk}
use Rattle.reuse_parser.specs.declared.place.Around.{Around}
use Rattle.reuse_parser.specs.declared.old.Old.{Old}
use Rattle.reuse_parser.specs.declared.relist.Stop.{Stop}
use Rattle.reuse_parser.specs.Parsing.{start_of, end_of, size_of, next_start, Follow, Stopped, Fine, IsAround, IsWithin, role_has}
use Rattle.reuse_defs.specs.Since.{lengths_of}
use Rattle.reuse_parser.specs.Reusing.{ahead_of, IsIn, IsFound, AreShort, Adds, Fills}
use Rattle.reuse_parser.specs.Reading.{StandsAt, IsStop, Lasts, IsMark, closer_has}
use Rattle.reuse_parser.specs.Olds.{IsReady, IsSame, IsSet, IsSince, IsUnseen, Went, unsettled_ahead}
use Rattle.reuse_parser.specs.Counting.{IsCalm, IsOutside, IsOpenAt}
use Rattle.reuse_defs.specs.Settled.{is_settled, is_unsettled}
use Rattle.reuse_parser.proofs.Adding.{IsMet, met, text_adds, cut_adds, lone_adds, pair_adds}
use Rattle.reuse_parser.proofs.AheadOf.{follows, next_keeps, in_within, in_further, up_to, up_to_itself, from_plus}
use Rattle.reuse_parser.proofs.AheadOf.{less_up_to, mark_less, left_to, less_left, left_up_to}
use Rattle.reuse_parser.proofs.Found.{found_adds, ends_at, room_of}
use Rattle.reuse_parser.proofs.Gathering.{Gathered, total_all, gathered_more, gathered_end, gathered_last, left_lasts}
use Rattle.reuse_parser.proofs.Gathering.{front_is, outer_stop, ClosesAt, closes_at, runs_fit, last_runs_fit}
use Rattle.reuse_parser.proofs.Going.{Going, went_on, ready_on, since_on, calmly_on}
use Rattle.reuse_parser.proofs.Outside.{outside_text, outside_mark, outside_node}
use Rattle.reuse_parser.proofs.OpenAt.{open_on}
use Rattle.reuse_parser.proofs.Marks.{same_place}
use Rattle.reuse_parser.proofs.Reused.{last_fits, in_fits, as_fits}
use Rattle.reuse_parser.proofs.Sources.{next_marks, not_before}

-- ---- a mark that was read
pub some_columns : (lines : List MarkedLine) (a : Around) (m : Mark) → IsIn lines a (start_of m)
    → IsMark lines (start_of m) m → m.at.col < m.to
some_columns lines a m i is = let x : IsMet lines a m = met lines a m i is.is in x.some

pub some_size : (m : Mark) (len : Length) → m.at.col < m.to → len ≡ size_of m → 0 < len.lines + len.cols
some_size m len some is = subst (λ l. 0 < l.lines + l.cols) (sym is) (omega (arith, some))

pub kind_of_opener : (lines : List MarkedLine) (a : Around) (m : Mark) (kind : ℕ) → IsIn lines a (start_of m)
    → IsMark lines (start_of m) m → m.role ≡ Opener kind → kind < 64
kind_of_opener lines a m kind i is role =
    let follow : Follow (start_of m) a.end (m ∷ ahead_of lines (end_of m)) =
    subst (λ l. Follow (start_of m) a.end l) is.is (follows lines a (start_of m) i) in
    subst IsRole role follow.2

pub is_opener : (m : Mark) (kind : ℕ) → m.role ≡ Opener kind → IsOpener m.role
is_opener m kind role = subst IsOpener (sym role) tt

-- ---- what one mark or none makes
module _ (a : Around) (s : Source) (old : Old) where
  abbrev pub Follows : Length → Tree → Length → Type 0
  Follows at t to = Adds s.lines a at t to × StandsAt s to × IsSet s.lines a.limit old to

  pub cut_next : (m : Mark) (t : Tree) (to : Length) → IsIn s.lines a (start_of m) → IsMark s.lines (start_of m) m
      → a.level ≤ a.limit → a.limit ≤ a.level → IsOpener m.role → Fits (end_of m) → StandsAt s (end_of m)
      → IsSet s.lines a.limit old (end_of m) → t ≡ Text (size_of m) true → to ≡ end_of m → Follows (start_of m) t to
  cut_next m t to i is room full opener fits stands ready made ends =
      subst (λ p. Follows (start_of m) t p) (sym ends) (
        subst (λ x. Adds s.lines a (start_of m) x (end_of m)) (sym made)
            (cut_adds s.lines a m i is.is room full opener fits),
        stands,
        ready,
      )

  pub lone_next : (m : Mark) (kinds : Kinds) (t : Tree) (to : Length) → IsIn s.lines a (start_of m)
      → IsMark s.lines (start_of m) m → a.level ≤ a.limit → m.role ≡ Closer kinds
      → ¬ ((k : ℕ) × IsTrue (has_kind kinds k && has_kind a.above k)) → Fits (end_of m) → StandsAt s (end_of m)
      → IsSet s.lines a.limit old (end_of m) → t ≡ Lone (size_of m) kinds → to ≡ end_of m → Follows (start_of m) t to
  lone_next m kinds t to i is room role apart fits stands ready made ends =
      subst (λ p. Follows (start_of m) t p) (sym ends) (
        subst (λ x. Adds s.lines a (start_of m) x (end_of m)) (sym made)
            (lone_adds s.lines a m kinds i is.is room role apart fits),
        stands,
        ready,
      )

  pub text_next : (at to : Length) (t : Tree) → IsIn s.lines a at → StandsAt s at → IsSet s.lines a.limit old at
      → a.level ≤ a.limit → to ≡ next_start a.end (ahead s) → IsLess at to
      → (len : Length) × (t ≡ Text len false) × (plus at len ≡ to) → Fits to → Follows at t to
  text_next at to t i stands ready room is less text fits =
      let next : to ≡ next_start a.end (ahead_of s.lines at) =
      is ∙ ap (λ ms. next_start a.end ms) stands.ahead in
      let there : IsLess at (next_start a.end (ahead_of s.lines at)) = subst (λ p. IsLess at p) next less in
      let later : ¬ IsLess to at = less_up_to at to less in (
        subst (λ x. Adds s.lines a at x to) (sym text.1)
            (subst (λ p. Adds s.lines a at (Text text.0 false) p) (sym next)
            (text_adds s.lines a at text.0 i room there (text.2 ∙ next) (subst (λ p. Fits p) next fits))),
        record {
          place = not_before_up_to (place to) (place at) s.place (not_before (place to) (place at) later)
              stands.place;
          ahead = stands.ahead
              ∙ sym (ap (λ p. ahead_of s.lines p) next ∙ next_keeps s.lines a at i there);
        },
        record {
          ready = ready_on old at to ready.ready later;
          outside = λ calm. outside_text s.lines a old.reader.tree old.mapper calm at to i (ready.outside calm) less next;
        },
      )

-- ---- reading a mark
pub record IsRead (a : Around) (at : Length) (m : Mark) (s t : Source) (old : Old) : Type 0 where
  pub lines : t.lines ≡ s.lines
  pub starts : at ≡ start_of m
  pub mark : IsMark t.lines (start_of m) m
  pub place : IsIn t.lines a (start_of m)
  pub stands : StandsAt t (end_of m)
  pub ready : IsSet t.lines a.limit old (end_of m)
  pub unsettled : IsCalm a.limit old.reader.tree old.mapper s.lines → is_settled old.reader.tree old.mapper m ≡ false

pub read : (a : Around) (at to : Length) (m : Mark) (s t : Source) (old : Old) → IsIn s.lines a at → StandsAt s at
    → IsSet s.lines a.limit old at → IsUnseen s.lines a.limit old at → to ≡ next_start a.end (ahead s) → ¬ IsLess at to
    → Some m ≡ first (ahead s)
    → t ≡ behind (Some m) s → IsRead a at m s t old
read a at to m s t old i stands ready unseen is none mark new =
    let here : ahead s ≡ m ∷ ahead_of s.lines (end_of m) = next_marks s m i.marked mark in
    let there : ahead_of s.lines at ≡ m ∷ ahead_of s.lines (end_of m) = sym stands.ahead ∙ here in
    let follow : Follow at a.end (m ∷ ahead_of s.lines (end_of m)) =
    subst (λ l. Follow at a.end l) there (follows s.lines a at i) in
    let starts : at ≡ start_of m =
    same_place at (start_of m) (subst (λ p. ¬ IsLess at p) (is ∙ ap (λ ms. next_start a.end ms) here) none)
    follow.0 in
    let later : ¬ IsLess (end_of m) at =
    up_to at (start_of m) (end_of m) follow.0
    (less_up_to (start_of m) (end_of m) (mark_less m follow.1)) in
    let is_mark : IsMark s.lines (start_of m) m =
    record { is = subst (λ p. ahead_of s.lines p ≡ m ∷ ahead_of s.lines (end_of m)) starts there } in
    let in_place : IsIn s.lines a (start_of m) = subst (λ p. IsIn s.lines a p) starts i in
    subst (λ u. IsRead a at m s u old) (sym new) (record {
      lines = refl;
      starts = starts;
      mark = is_mark;
      place = in_place;
      stands = record {
        place = not_before (place (end_of m)) (place (end_of m)) (up_to_itself (end_of m));
        ahead = refl;
      };
      ready = record {
        ready = ready_on old at (end_of m) ready.ready later;
        outside = λ calm. outside_mark s.lines a old.reader.tree old.mapper calm m in_place is_mark
            (subst (λ p. IsOutside old.reader.tree old.mapper p) starts (ready.outside calm)) (unseen calm m (sym starts));
      };
      unsettled = λ calm. unseen calm m (sym starts);
    })

count_yes : (f : Mark → Bool) (m : Mark) (ms : List Mark) → f m ≡ true → count_by f (m ∷ ms) ≡ count_by f ms + 1
count_yes f m ms h = sum_by-cons (λ x. cond (f x) 1 0) m ms ∙ one (f m) (count_by f ms) h
  where
    one : (b : Bool) (n : ℕ) → b ≡ true → cond b 1 0 + n ≡ n + 1
    one true n h = omega arith
    one false n h = cc

risen_less : (n : ℕ) → risen n ≤ n + 1
risen_less n = omega arith

pub went_read : (limit : ℕ) (m : Mark) (s t : Source) (n k : ℕ) (old now : Old) → AreMarked s.lines → Some m ≡ first (ahead s)
    → t ≡ behind (Some m) s → k ≡ n + 1 → IsSame old now
    → (IsCalm limit old.reader.tree old.mapper s.lines → is_settled old.reader.tree old.mapper m ≡ false)
    → Went limit s n old t k now
went_read limit m s t n k old now marked mark new step same unsettled =
    let e = ap length (next_marks s m marked mark ∙ ap (λ u. m ∷ ahead u) (sym new)) in
    let r = risen_less s.given in
    let g : t.given ≡ risen s.given = ap (λ u. u.given) new in
    record {
      lines = ap (λ u. u.lines) new;
      few = omega (arith, e, step);
      few_given = omega (arith, e, r, g);
      same = same;
      fresh = λ calm.
          let c = one_less calm in omega (arith, c, step);
      fresh_given = λ calm.
          let c = one_less calm in omega (arith, c, r, g);
    }
  where
    one_less : IsCalm limit old.reader.tree old.mapper s.lines → unsettled_ahead old s ≡ unsettled_ahead old t + 1
    one_less calm = ap (λ ms. count_by (is_unsettled old.reader.tree old.mapper) ms)
        (next_marks s m marked mark ∙ ap (λ u. m ∷ ahead u) (sym new))
        ∙ count_yes (is_unsettled old.reader.tree old.mapper) m (ahead t) (ap not (unsettled calm))

no_first : (ms : List Mark) → None ≡ first ms → ms ≡ []
no_first [] h = refl
no_first (m ∷ ms) h = cc

pub ended : (a : Around) (at to : Length) (s t : Source) (old : Old) → IsIn s.lines a at → StandsAt s at
    → IsSet s.lines a.limit old at → to ≡ next_start a.end (ahead s) → ¬ IsLess at to → None ≡ first (ahead s)
    → t ≡ behind None s → IsStop s.lines a t old (record { at = at; closer = None })
ended a at to s t old i stands ready is none mark new =
    let empty : ahead s ≡ [] = no_first (ahead s) mark in
    let here : ahead_of s.lines at ≡ [] = sym stands.ahead ∙ empty in
    let stop : at ≡ a.end =
    same_place at a.end (subst (λ p. ¬ IsLess at p) (is ∙ ap (λ ms. next_start a.end ms) empty) none) i.up_to in
    subst (λ u. IsStop s.lines a u old (record { at = at; closer = None })) (sym new) (record {
      stopped = subst (λ ms. Stopped a at ms) (sym here) stop;
      left = (stands, ready, here);
    })

-- ---- a node of the old tree
pub few_lines : (lines : List MarkedLine) (last : Length) → place last ≡ text_end lines → last.lines < 2 ^ 32
    → length lines ≤ 2 ^ 32
few_lines [] last is few = omega arith
few_lines (line ∷ lines) last is few = let h = ap (λ p. p.line) is in omega (arith, h, few)

pub old_adds : (lines : List MarkedLine) (a : Around) (at : Length) (old : Old) (t : Tree) → IsIn lines a at
    → IsSince a.limit old lines → Fits at → a.end.lines < 2 ^ 32 → IsFound old.reader.tree old.mapper a at t
    → Adds lines a at t (plus at (length_of t))
old_adds lines a at old t i since fits few found =
    found_adds lines a at old.reader.tree old.mapper t i since.since since.short (few_lines lines a.end i.last few) fits
    found

pub adds_fit : (lines : List MarkedLine) (a : Around) (at : Length) (t : Tree) (to : Length) → Adds lines a at t to
    → Fits at → Fits to
adds_fit lines a at t to g fits = subst (λ p. Fits p) (ap (λ l. plus at l) (total_leaves t) ∙ g.long)
    (last_fits at (leaves_of t) g.runs fits)

pub old_next : (a : Around) (at : Length) (node t : Tree) (to : Length) (s u : Source) (old now : Old)
    → Adds s.lines a at t (plus at (length_of t)) → IsSame old now → IsFound old.reader.tree old.mapper a at t
    → IsSet s.lines a.limit old at → IsReady now at → node ≡ t → to ≡ plus at (length_of t)
    → u ≡ at_place (place (plus at (length_of t))) s
    → Adds s.lines a at node to × StandsAt u to × IsSet s.lines a.limit now to
old_next a at node t to s u old now g same_old found set ready same ends new =
    let p = plus at (length_of t) in
    subst (λ q. Adds s.lines a at node q × StandsAt u q × IsSet s.lines a.limit now q) (sym ends) (
      subst (λ x. Adds s.lines a at x p) (sym same) g,
      subst (λ v. StandsAt v p) (sym new)
          (record { place = not_before (place p) (place p) (up_to_itself p); ahead = refl }),
      record {
        ready = ready_on now at p ready (less_up_to at p g.later);
        outside = calmly_on IsOutside a.limit old now s.lines s.lines p same_old refl
            (λ calm. outside_node s.lines a old.reader.tree old.mapper calm at t found.from found.level found.is
            found.part (room_of (distance old.mapper at) (length_of t) found.room) (set.outside calm));
      },
    )

pub went_old : (limit : ℕ) (a : Around) (at : Length) (t : Tree) (to : Length) (s u : Source) (n : ℕ) (old now : Old)
    → Adds s.lines a at t to → StandsAt s at → u ≡ at_place (place to) s → IsSame old now → Went limit s n old u n now
went_old limit a at t to s u n old now g stands new same =
    let there : ahead u ≡ ahead_of s.lines to = ap (λ v. ahead v) new in
    let fewer = ap length there in
    let whole = ap length (stands.ahead ∙ g.are) ∙ length-append g.done (ahead_of s.lines to) in
    let given : u.given ≡ s.given = ap (λ v. v.given) new in
    record {
      lines = ap (λ v. v.lines) new;
      few = omega (arith, fewer, whole);
      few_given = omega (arith, fewer, whole, given);
      same = same;
      fresh = λ calm. let c = fewer_left in omega (arith, c);
      fresh_given = λ calm. let c = fewer_left in omega (arith, c, given);
    }
  where
    fewer_left : unsettled_ahead old u ≤ unsettled_ahead old s
    fewer_left =
        let f = is_unsettled old.reader.tree old.mapper in
        let there = ap (λ ms. count_by f ms) (ap (λ v. ahead v) new) in
        let whole = ap (λ ms. count_by f ms) (stands.ahead ∙ g.are)
        ∙ sum_by-append (λ m. cond (f m) 1 0) g.done (ahead_of s.lines to) in omega (arith, there, whole)

-- ---- the inside of a pair
pub around_within : (a b : Around) (kind : ℕ) → IsAround a → a.level < a.limit → IsWithin a kind b → IsAround b
around_within a b kind is room w = record {
  room = omega (arith, room, w.level, w.limit);
  few = omega (arith, is.few, w.limit);
}

pub mark_within : (lines : List MarkedLine) (a b : Around) (m : Mark) (kind : ℕ) (p : Length)
    → IsIn lines a (start_of m) → IsMark lines (start_of m) m → IsWithin a kind b → p ≡ end_of m → IsIn lines b p
mark_within lines a b m kind p i is w ends =
    let x : IsMet lines a m = met lines a m i is.is in
    subst (λ q. IsIn lines b q) (sym ends) (in_within lines a b kind (start_of m) (end_of m) i w x.within)

pub falls_within : (lines : List MarkedLine) (a b : Around) (m : Mark) (kind : ℕ) (p : Length)
    → IsIn lines a (start_of m) → IsMark lines (start_of m) m → IsWithin a kind b → p ≡ end_of m
    → m.at.col < 2 ^ 32 → m.to < 2 ^ 32 → left_to b.end p < left_to a.end (start_of m)
falls_within lines a b m kind p i is w ends from to =
    let x : IsMet lines a m = met lines a m i is.is in
    subst (λ q. left_to b.end q < left_to a.end (start_of m)) (sym ends)
    (subst (λ e. left_to e (end_of m) < left_to a.end (start_of m)) (sym w.last)
    (less_left a.end (start_of m) (end_of m) from to (mark_less m x.some) x.within))

pub closed_next : (lines : List MarkedLine) (a b : Around) (m : Mark) (kind : ℕ) (p : Length) (t node : Tree)
    (stop : Stop) (c : Mark) (to : Length) (s : Source) (old : Old) → IsIn lines a (start_of m)
    → IsMark lines (start_of m) m
    → a.level < a.limit → m.role ≡ Opener kind → IsWithin a kind b → p ≡ end_of m → Fills lines b p t stop.at
    → IsStop lines b s old stop → (stop.closer ≡ Some c) × (role_has c.role kind ≡ true) → Fits (end_of c)
    → node ≡ Pair (size_of m) kind t (Some (size_of c)) → to ≡ end_of c
    → Adds lines a (start_of m) node to × StandsAt s to × IsSet lines a.limit old to
closed_next lines a b m kind p t node stop c to s old i is room role w at fills0 stops closes fits made ends =
    let fills : Fills lines b (end_of m) t stop.at = subst (λ q. Fills lines b q t stop.at) at fills0 in
    let x : ClosesAt lines b.limit s old stop.at c = closes_at lines b s old stop c stops closes.0 in
    let up : ¬ IsLess a.end stop.at = subst (λ e. ¬ IsLess e stop.at) w.last fills.up_to in
    subst (λ q. Adds lines a (start_of m) node q × StandsAt s q × IsSet lines a.limit old q) (sym ends) (
      subst (λ n. Adds lines a (start_of m) n (end_of c)) (sym made)
          (pair_adds lines a b m kind t stop.at c i is.is room role w
          (in_within lines a b kind (start_of m) stop.at i w up) fills x.starts x.is closes.1 fits),
      x.stands,
      subst (λ n. IsSet lines n old (end_of c)) w.limit x.ready,
    )

pub closer_some : (lines : List MarkedLine) (a b : Around) (m : Mark) (kind : ℕ) (p : Length) (t : Tree)
    (stop : Stop) (c : Mark) (s : Source) (old : Old) → IsIn lines a (start_of m) → IsWithin a kind b
    → Fills lines b p t stop.at → IsStop lines b s old stop → stop.closer ≡ Some c → c.at.col < c.to
closer_some lines a b m kind p t stop c s old i w fills stops closes =
    let x : ClosesAt lines b.limit s old stop.at c = closes_at lines b s old stop c stops closes in
    let up : ¬ IsLess a.end stop.at = subst (λ e. ¬ IsLess e stop.at) w.last fills.up_to in
    let there : IsIn lines b (start_of c) =
    subst (λ p. IsIn lines b p) x.starts (in_within lines a b kind (start_of m) stop.at i w up) in
    let y : IsMet lines b c =
    met lines b c there (subst (λ p. ahead_of lines p ≡ c ∷ ahead_of lines (end_of c)) x.starts x.is) in
    y.some

-- where a list ends that starts in a line
fills_fit : (lines : List MarkedLine) (a : Around) (at : Length) (t : Tree) (to : Length) → Fills lines a at t to
    → in_lines (lengths_of lines) at ≡ true → AreShort lines → length lines ≤ 2 ^ 32 → Fits to
fills_fit lines a at t to l here short few = as_fits to (in_fits lines short few to
    (subst (λ p. in_lines (lengths_of lines) p ≡ true) l.fine.ends
    (ends_at (in_lines (lengths_of lines)) (items_then t end) at here l.ends)))

pub left_next : (lines : List MarkedLine) (a b : Around) (m : Mark) (kind : ℕ) (p : Length) (t node : Tree)
    (stop : Stop) (s : Source) (old : Old) → IsIn lines a (start_of m) → IsMark lines (start_of m) m
    → a.level < a.limit → m.role ≡ Opener kind → IsWithin a kind b → p ≡ end_of m → Fills lines b p t stop.at
    → IsStop lines b s old stop → closer_has stop.closer kind ≡ false → AreShort lines → a.end.lines < 2 ^ 32
    → node ≡ Pair (size_of m) kind t None → Lasts lines a (start_of m) node stop.at × IsStop lines a s old stop
left_next lines a b m kind p t node stop s old i is room role w at fills0 stops none short few made =
    let fills : Fills lines b (end_of m) t stop.at = subst (λ q. Fills lines b q t stop.at) at fills0 in
    let x : IsMet lines a m = met lines a m i is.is in
    let fits : Fits stop.at = fills_fit lines b (end_of m) t stop.at fills x.ends short
    (few_lines lines a.end i.last few) in
    let front = front_is lines b s old stop kind stops ∙ none in (
      subst (λ n. Lasts lines a (start_of m) n stop.at) (sym made)
          (left_lasts lines a b m kind t stop.at i is.is room role w fills front fits),
      outer_stop lines a b s old stop kind w stops front,
    )

-- ---- the loop over a list
module _ (a : Around) (from : Length) (first : Source) (before : ℕ) (old : Old) (ts : List Tree) (at : Length)
    (source : Source) (steps : ℕ) (now : Old) (g : Going a from first before old ts at source steps now) where
  pub going_in : IsIn first.lines a from → IsIn source.lines a at
  going_in i = subst (λ l. IsIn l a at) (sym g.went.lines) (in_further first.lines a from at i g.gathered.up_to)

  pub going_since : IsSince a.limit old first.lines → IsSince a.limit now source.lines
  going_since since = since_on a.limit old now first.lines source.lines since g.went.same g.went.lines

  pub going_set : IsSet source.lines a.limit now at
  going_set = subst (λ l. IsSet l a.limit now at) (sym g.went.lines) g.ready

  pub going_open : IsOpenAt first.lines a from → IsOpenAt source.lines a at
  going_open opens = subst (λ l. IsOpenAt l a at) (sym g.went.lines)
      (open_on first.lines a from at (all_items ts end) g.gathered.done opens g.gathered.are
      (subst (λ l. Fine a (λ k. true) at (all_items ts end) from l) (append-nil g.gathered.done)
      (g.gathered.leads end [] (λ k. true) at
      (record { stands = refl; ends = refl; apart = λ k h. refl; passes = λ n. tt }))))

  pub going_falls : from.cols < 2 ^ 32 → left_to a.end at ≤ left_to a.end from
  going_falls fits = left_up_to a.end from at fits
      (subst (λ p. ¬ IsLess p from) g.gathered.long (from_plus from (total ts)))

  pub going_fits : Fits from → Fits at
  going_fits fits = subst (λ p. Fits p) (ap (λ l. plus from l) (total_all ts) ∙ g.gathered.long)
      (last_fits from (all_leaves ts) g.gathered.runs fits)

  pub going_more : (more : List Tree) (node : Tree) (to : Length) (next : Source) (later : ℕ) (then : Old)
      → Adds source.lines a at node to × StandsAt next to × IsSet source.lines a.limit then to
      → Went a.limit source steps now next later then → more ≡ ts ++ node ∷ []
      → Going a from first before old more to next later then
  going_more more node to next later then n went is = record {
    gathered = subst (λ l. Gathered first.lines a from l to) (sym is)
        (gathered_more first.lines a from ts at node to g.gathered
        (subst (λ l. Adds l a at node to) g.went.lines n.0));
    stands = n.1;
    ready = subst (λ l. IsSet l a.limit then to) g.went.lines n.2;
    went = went_on a.limit first source next before steps later old now then g.went went;
  }

  pub going_runs : (nodes : List Tree) → Fits from → nodes ≡ ts → RunsFit (all_leaves nodes)
  going_runs nodes fits is = subst (λ l. RunsFit (all_leaves l)) (sym is)
      (runs_fit first.lines a from ts at g.gathered fits)

  pub last_runs : (nodes : List Tree) (node : Tree) (to : Length) → Fits from → Lasts source.lines a at node to
      → nodes ≡ ts ++ node ∷ [] → RunsFit (all_leaves nodes)
  last_runs nodes node to fits last is = subst (λ l. RunsFit (all_leaves l)) (sym is)
      (last_runs_fit first.lines a from ts at node to g.gathered
      (subst (λ l. Lasts l a at node to) g.went.lines last) fits)

  pub going_end : (nodes : List Tree) (t : Tree) (to : Length) → to ≡ at → nodes ≡ ts
      → leaves_of t ≡ all_leaves nodes → Fills first.lines a from t to
  going_end nodes t to ends is leaves = subst (λ p. Fills first.lines a from t p) (sym ends)
      (gathered_end first.lines a from ts at t g.gathered (leaves ∙ ap (λ l. all_leaves l) is))

  pub going_last : (nodes : List Tree) (node t : Tree) (to : Length) → Lasts source.lines a at node to
      → nodes ≡ ts ++ node ∷ [] → leaves_of t ≡ all_leaves nodes → Fills first.lines a from t to
  going_last nodes node t to last is leaves =
      gathered_last first.lines a from ts at node to t g.gathered
      (subst (λ l. Lasts l a at node to) g.went.lines last) (leaves ∙ ap (λ l. all_leaves l) is)

  pub going_stop : (s : Source) (then : Old) (stop : Stop) → IsStop source.lines a s then stop
      → IsStop first.lines a s then stop
  going_stop s then stop is = subst (λ l. IsStop l a s then stop) g.went.lines is

-- two facts of what is answered
pub both_ok : {T E : Type 0} (r : Result T E) (P Q R : T → Type 0) → ((x : T) → P x → Q x → R x) → IfOk r P → IfOk r Q
    → IfOk r R
both_ok (Ok x) P Q R both p q = both x p q
both_ok (Err e) P Q R both p q = tt
