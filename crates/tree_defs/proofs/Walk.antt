-- Pairing the marks of items gives the rows of the walk, with the open entries as the pairs entered.
use Rattle.std.proofs.Common.{◌≡◌, ℕ, ◌+◌, ◌<◌, ◌≤◌, ◌||◌, nat_le, List, [], ◌∷◌, ◌++◌, length, Bool, true}
use Rattle.std.proofs.Common.{false, Option, Some, None, refl, sym, ap, ◌∙◌, subst, arith, append_assoc}
use Rattle.std.proofs.lemmas.Bool.Decides.{nat_tests}
use Rattle.text_pos.specs.declared.length.Length.{Length}
use Rattle.text_pos.specs.declared.kinds.Kinds.{Kinds}
use Rattle.text_pos.specs.KindSet.{has_kind}
use Rattle.text_pos.specs.Lengths.{plus}
use Rattle.pairing_defs.specs.declared.Role.{Role}
use Rattle.pairing_defs.specs.declared.Role.TheVariants.{Opener, Closer}
use Rattle.pairing_defs.specs.declared.Mark.{Mark}
use Rattle.pairing_defs.specs.Pairing.{Entry, Open, of_kind, from_last, placed_from, open_after}
use Rattle.tree_defs.specs.Items.{Items, end, text, lone, pair, unclosed, stray, missed_in, rows_in}
use Rattle.tree_defs.specs.Items.{behind, left_by, Seen, opens, alone, closes_kind, row_at, walk, IsAt}
use Rattle.tree_defs.specs.Items.{NoneIn, IsOpener, AreOpeners, AreCut, Stands}
use Rattle.tree_defs.specs.Reuse.{SeenAs, IsRead, AreRead, Clear, Walked}
use Rattle.tree_defs.proofs.Steps.{placed_append, open_append, read_append, none_taken, taken_behind, opener_placed}
use Rattle.tree_defs.proofs.Steps.{opener_open, lone_placed, lone_open, closer_placed, closer_open}

pub or_left : (a b : Bool) → (a || b) ≡ false → a ≡ false
or_left true b h = absurd (cc)
or_left false b h = refl

pub or_right : (a b : Bool) → (a || b) ≡ false → b ≡ false
or_right true b h = absurd (cc)
or_right false b h = h

pub clear_less : (a b : Items) (es : List Entry) → ((k : ℕ) → missed_in a k ≡ false → missed_in b k ≡ false) → Clear a es
    → Clear b es
clear_less a b [] less clear = tt
clear_less a b (e ∷ es) less clear = (less e.kind clear.0, clear_less a b es less clear.1)

pub lone_clear : (len : Length) (kinds : Kinds) (rest : Items) (es : List Entry) → Clear (lone len kinds rest) es
    → NoneIn kinds es
lone_clear len kinds rest [] clear = tt
lone_clear len kinds rest (e ∷ es) clear =
    (or_left (has_kind kinds e.kind) (missed_in rest e.kind) clear.0, lone_clear len kinds rest es clear.1)

abbrev pub Walks : ℕ → Items → Type 0
Walks limit items = (at : Length) (ms : List Mark) (s : Open) → Stands limit (length s.entries) items at ms
    → Clear items s.entries → Walked limit items at ms s

pub deeper : (es : List Entry) (e : Entry) → length es + 1 ≡ length (e ∷ es)
deeper es e = omega arith

at_limit : (limit n : ℕ) → limit ≤ n → nat_le limit n ≡ true
at_limit limit n h = grind (arith, nat_tests)

is_read : (m : Mark) (at len : Length) (seen : Seen) (level own : ℕ) (closes : Option ℕ) → IsAt m at len
    → SeenAs m.role seen
    → IsRead (record { mark = m; level = level; own = own; closes = closes }) (row_at at len seen level own closes)
is_read m at len seen level own closes place seen_as =
    record {
      line = place.line;
      col = place.col;
      to = place.to;
      seen = seen_as;
      level = refl;
      own = refl;
      closes =
          refl;
    }

-- ---- each item
no_row : (limit : ℕ) (m : Mark) (ms : List Mark) (s : Open) (role : Role) → m.role ≡ role → limit ≤ length s.entries
    → IsOpener m.role → (placed_from limit s ms ≡ []) × (open_after limit s ms ≡ s)
    → (placed_from limit s (m ∷ ms) ≡ []) × (open_after limit s (m ∷ ms) ≡ s)
no_row limit m ms s (Opener kind) is full opener rest = rw (is, at_limit limit (length s.entries) full) rest
no_row limit m ms s (Closer kinds) is full opener rest = absurd (subst (λ r. IsOpener r) is opener)

-- openers at the limit have no rows
no_rows : (limit : ℕ) (ms : List Mark) (s : Open) → limit ≤ length s.entries → AreOpeners ms
    → (placed_from limit s ms ≡ []) × (open_after limit s ms ≡ s)
no_rows limit [] s full are = (refl, refl)
no_rows limit (m ∷ ms) s full are = no_row limit m ms s m.role refl full are.0 (no_rows limit ms s full are.1)

pub no_cuts : (limit level : ℕ) (cut : Bool) (ms : List Mark) (s : Open) → level ≡ length s.entries
    → AreCut limit level cut ms → (placed_from limit s ms ≡ []) × (open_after limit s ms ≡ s)
no_cuts limit level true [] s is are = absurd are
no_cuts limit level true (m ∷ ms) s is are = no_rows limit (m ∷ ms) s (let h = are.0 in omega arith) are.1
no_cuts limit level false ms s is are = rw are (refl, refl)

text_walks : (limit : ℕ) (len : Length) (cut : Bool) (rest : Items) → Walks limit rest → Walks limit (text len cut rest)
text_walks limit len cut rest walks at ms s stands clear =
    let none = no_cuts limit (length s.entries) cut stands.cuts s refl stands.cut_ones in
    let w : Walked limit rest (plus at len) stands.more s =
    walks (plus at len) stands.more s stands.rest
    (clear_less (text len cut rest) rest s.entries (λ k h. h) clear) in
    let placed : placed_from limit s ms ≡ placed_from limit s stands.more =
    ap (λ l. placed_from limit s l) stands.are ∙ placed_append limit stands.cuts stands.more s
    ∙ ap (λ l. l ++ placed_from limit (open_after limit s stands.cuts) stands.more) none.0
    ∙ ap (λ o. placed_from limit o stands.more) none.1 in
    let opened : open_after limit s ms ≡ open_after limit s stands.more =
    ap (λ l. open_after limit s l) stands.are ∙ open_append limit stands.cuts stands.more s
    ∙ ap (λ o. open_after limit o stands.more) none.1 in
    record {
      entries = ap (λ o. o.entries) opened ∙ w.entries;
      rows = ap (λ o. o.rows) opened ∙ w.rows;
      placed = rw placed w.placed;
    }

lone_walks : (limit : ℕ) (len : Length) (kinds : Kinds) (rest : Items) → Walks limit rest
    → Walks limit (lone len kinds rest)
lone_walks limit len kinds rest walks at ms s stands clear =
    let none : from_last kinds s.entries ≡ [] =
    none_taken kinds s.entries (lone_clear len kinds rest s.entries clear) in
    let next : Open = record { rows = s.rows + 1; entries = s.entries } in
    let w : Walked limit rest (plus at len) stands.more next = walks (plus at len) stands.more next stands.rest
    (clear_less (lone len kinds rest) rest s.entries (λ k h. or_right (has_kind kinds k) (missed_in rest k) h)
    clear) in
    rw (stands.are) (record {
      entries = ap (λ o. o.entries) (lone_open limit s stands.mark kinds stands.more stands.role none) ∙ w.entries;
      rows = ap (λ o. o.rows) (lone_open limit s stands.mark kinds stands.more stands.role none) ∙ w.rows ∙ omega arith;
      placed = rw (lone_placed limit s stands.mark kinds stands.more stands.role none) (
        is_read stands.mark at len (alone kinds) (length s.entries) 0 None stands.place (rw (stands.role) refl),
        w.placed,
      );
    })

unclosed_walks : (limit : ℕ) (opener : Length) (kind : ℕ) (inside : Items) → Walks limit inside
    → Walks limit (unclosed opener kind inside)
unclosed_walks limit opener kind inside walks at ms s stands clear =
    let free : length s.entries < limit = stands.room in
    let e : Entry = record { row = s.rows; kind = kind } in
    let next : Open = record { rows = s.rows + 1; entries = e ∷ s.entries } in
    let w : Walked limit inside (plus at opener) stands.within next =
    walks (plus at opener) stands.within next
    (subst (λ n. Stands limit n inside (plus at opener) stands.within) (deeper s.entries e) stands.held)
    (stands.not_missed, clear_less (unclosed opener kind inside) inside s.entries (λ k h. h) clear) in
    rw (stands.are) (record {
      entries = ap (λ o. o.entries) (opener_open limit s stands.mark kind stands.within stands.role free) ∙ w.entries
          ∙ sym (append_assoc (left_by (s.rows + 1) inside) (e ∷ []) s.entries);
      rows = ap (λ o. o.rows) (opener_open limit s stands.mark kind stands.within stands.role free) ∙ w.rows
          ∙ omega arith;
      placed = rw (opener_placed limit s stands.mark kind stands.within stands.role free) (
        is_read stands.mark at opener (opens kind) (length s.entries) (of_kind kind s.entries) None stands.place
            (rw (stands.role) refl),
        w.placed,
      );
    })

pair_walks : (limit : ℕ) (opener : Length) (kind : ℕ) (inside : Items) (closer : Length) (rest : Items)
    → Walks limit inside → Walks limit rest → Walks limit (pair opener kind inside closer rest)
pair_walks limit opener kind inside closer rest walks later at ms s stands clear =
    let free : length s.entries < limit = stands.room in
    let e : Entry = record { row = s.rows; kind = kind } in
    let next : Open = record { rows = s.rows + 1; entries = e ∷ s.entries } in
    let from : Length = behind inside (plus at opener) in
    let w : Walked limit inside (plus at opener) stands.within next =
    walks (plus at opener) stands.within next
    (subst (λ n. Stands limit n inside (plus at opener) stands.within) (deeper s.entries e) stands.held) (
      stands.not_missed,
      clear_less (pair opener kind inside closer rest) inside s.entries
          (λ k h. or_left (missed_in inside k) (missed_in rest k) h) clear,
    ) in
    let mid : Open = open_after limit next stands.within in
    let found : from_last stands.kinds mid.entries ≡ e ∷ s.entries =
    ap (λ es. from_last stands.kinds es) w.entries
    ∙ taken_behind stands.kinds (left_by (s.rows + 1) inside) e s.entries (stands.passes (s.rows + 1))
    stands.takes in
    let behind_it : Open = record { rows = mid.rows + 1; entries = s.entries } in
    let v : Walked limit rest (plus from closer) stands.more behind_it =
    later (plus from closer) stands.more behind_it stands.rest
    (clear_less (pair opener kind inside closer rest) rest s.entries
    (λ k h. or_right (missed_in inside k) (missed_in rest k) h) clear) in
    let row : mid.rows + 1 ≡ s.rows + 1 + rows_in inside + 1 = ap (λ n. n + 1) w.rows in
    let opened : open_after limit s ms ≡ open_after limit behind_it stands.more =
    ap (λ l. open_after limit s l) stands.are
    ∙ opener_open limit s stands.mark kind (stands.within ++ stands.last ∷ stands.more) stands.role free
    ∙ open_append limit stands.within (stands.last ∷ stands.more) next
    ∙ closer_open limit mid stands.last stands.kinds e s.entries stands.more stands.last_role found in
    let placed : placed_from limit s ms ≡ record
    { mark = stands.mark; level = length s.entries; own = of_kind kind s.entries; closes = None }
    ∷ (placed_from limit next stands.within ++ record
    { mark = stands.last; level = length s.entries; own = of_kind kind s.entries; closes = Some s.rows }
    ∷ placed_from limit behind_it stands.more) =
    ap (λ l. placed_from limit s l) stands.are
    ∙ opener_placed limit s stands.mark kind (stands.within ++ stands.last ∷ stands.more) stands.role free
    ∙ ap (λ l. record {
      mark = stands.mark;
      level = length s.entries;
      own = of_kind kind s.entries;
      closes =
          None;
    } ∷ l)
    (placed_append limit stands.within (stands.last ∷ stands.more) next
    ∙ ap (λ l. placed_from limit next stands.within ++ l)
    (closer_placed limit mid stands.last stands.kinds e s.entries stands.more stands.last_role found)) in
    let last_read = is_read stands.last from closer (closes_kind kind) (length s.entries) (of_kind kind s.entries)
    (Some s.rows) stands.last_place (rw (stands.last_role) stands.takes) in
    let more_read : AreRead (placed_from limit behind_it stands.more)
    (walk rest (plus from closer) (s.rows + 1 + rows_in inside + 1) s.entries) =
    subst (λ n. AreRead (placed_from limit behind_it stands.more) (walk rest (plus from closer) n s.entries))
    row v.placed in
    record {
      entries = ap (λ o. o.entries) opened ∙ v.entries ∙ ap (λ n. left_by n rest ++ s.entries) row;
      rows = ap (λ o. o.rows) opened ∙ v.rows ∙ omega arith;
      placed = rw placed (
        is_read stands.mark at opener (opens kind) (length s.entries) (of_kind kind s.entries) None stands.place
            (rw (stands.role) refl),
        read_append (placed_from limit next stands.within)
            (walk inside (plus at opener) (s.rows + 1) (e ∷ s.entries)) _ _ w.placed (last_read, more_read),
      );
    }

end_walks : (limit : ℕ) → Walks limit end
end_walks limit at ms s stands clear = rw stands (record { entries = refl; rows = omega arith; placed = tt })

pub walks : (limit : ℕ) (items : Items) → Walks limit items
walks limit end = end_walks limit
walks limit (text len cut rest) = text_walks limit len cut rest (walks limit rest)
walks limit (lone len kinds rest) = lone_walks limit len kinds rest (walks limit rest)
walks limit (pair opener kind inside closer rest) =
    pair_walks limit opener kind inside closer rest (walks limit inside) (walks limit rest)
walks limit (unclosed opener kind inside) = unclosed_walks limit opener kind inside (walks limit inside)
walks limit stray = λ at ms s stands clear. absurd stands
