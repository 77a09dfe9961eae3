-- From the rows of a walk to whole rows.
use Rattle.std.proofs.Common.{◌≡◌, ℕ, ◌+◌, ◌<◌, ◌≤◌, ◌==◌, nat_le, List, [], ◌∷◌, ◌++◌, length, true, false}
use Rattle.std.proofs.Common.{if◌then◌else◌, Option, Some, None, refl, sym, ap, ◌∙◌, subst, arith, append_assoc}
use Rattle.std.proofs.Common.{append-nil}
use Rattle.std.proofs.lemmas.Bool.Decides.{nat_tests}
use Rattle.text_pos.specs.declared.length.Length.{Length}
use Rattle.text_pos.specs.declared.length.Pos.{Pos}
use Rattle.text_pos.specs.declared.kinds.Kinds.{Kinds}
use Rattle.text_pos.specs.Lengths.{plus}
use Rattle.pairing_defs.specs.declared.Role.{Role}
use Rattle.pairing_defs.specs.declared.Role.TheVariants.{Opener, Closer}
use Rattle.pairing_defs.specs.Pairing.{Entry, Placed, Removal, of_kind, removal_by, removal_of, closer_of, inner_end}
use Rattle.pairing_defs.specs.Pairing.{row_of, rows_from, paired, nothing_open, placed_from}
use Rattle.tree_defs.specs.Items.{Items, end, text, lone, pair, unclosed, stray, rows_in, behind, Seen, opens, alone}
use Rattle.tree_defs.specs.Items.{closes_kind, TreeRow, row_at, walk, items_of}
use Rattle.tree_defs.specs.Reuse.{SeenAs, IsRead, AreRead, Walked}
use Rattle.tree_defs.specs.Rows.{FullRow, place, full, tree_rows, IsFull, AreFull, start, RowLaw}
use Rattle.tree_defs.proofs.Walk.{walks}

-- ---- the end of rows, read off the walk
abbrev removal_at : ℕ → ℕ → TreeRow → Option ℕ → Option Removal → Option Removal
removal_at n next r None later = later
removal_at n next r (Some closed) later =
    if nat_le closed n then Some (record { row = next; start = r.at; closes = closed }) else later

abbrev removal_in : ℕ → ℕ → List TreeRow → Option Removal
removal_in n next [] = None
removal_in n next (r ∷ rs) = removal_at n next r r.closes (removal_in n (next + 1) rs)

abbrev finish_row : Pos → ℕ → TreeRow → Seen → Option Removal → FullRow
finish_row last n r (opens kind) removal = full r (closer_of n removal) (inner_end last removal)
finish_row last n r (alone kinds) removal = full r r.closes r.at
finish_row last n r (closes_kind kind) removal = full r r.closes r.at

abbrev finish : Pos → ℕ → List TreeRow → List FullRow
finish last n [] = []
finish last n (r ∷ rs) = finish_row last n r r.seen (removal_in n (n + 1) rs) ∷ finish last (n + 1) rs

pos_same : (a b : Pos) → a.line ≡ b.line → a.col ≡ b.col → a ≡ b
pos_same a b line col = ap (λ x. record { line = x; col = a.col }) line
    ∙ ap (λ x. record { line = b.line; col = x }) col

same_place : (p : Placed) (r : TreeRow) → IsRead p r → p.mark.at ≡ r.at
same_place p r is = pos_same p.mark.at r.at is.line is.col

removal_same : (n next : ℕ) (p : Placed) (r : TreeRow) (closes : Option ℕ) (later : Option Removal) → p.mark.at ≡ r.at
    → removal_by n next p closes later ≡ removal_at n next r closes later
removal_same n next p r None later at = refl
removal_same n next p r (Some closed) later at = rw at refl

removal_read : (n next : ℕ) (ps : List Placed) (rs : List TreeRow) → AreRead ps rs → removal_of n next ps
    ≡ removal_in n next rs
removal_read n next [] [] are = refl
removal_read n next [] (r ∷ rs) are = absurd are
removal_read n next (p ∷ ps) [] are = absurd are
removal_read n next (p ∷ ps) (r ∷ rs) are =
    removal_same n next p r p.closes (removal_of n (next + 1) ps) (same_place p r are.0)
    ∙ ap (λ c. removal_at n next r c (removal_of n (next + 1) ps)) are.0.closes
    ∙ ap (λ l. removal_at n next r r.closes l) (removal_read n (next + 1) ps rs are.1)

full_row : (last : Pos) (n : ℕ) (p : Placed) (r : TreeRow) (role : Role) (seen : Seen) (removal : Option Removal)
    → p.mark.role ≡ role → r.seen ≡ seen → SeenAs role seen → IsRead p r
    → IsFull (row_of last n p role removal) (finish_row last n r seen removal)
full_row last n p r (Opener kind) (opens other) removal is too as_seen read =
    record {
      line = read.line;
      col = read.col;
      to = read.to;
      seen = read.seen;
      level = read.level;
      own =
          read.own;
      colour = rw (read.level) refl;
      partner = refl;
      inner = refl;
    }
full_row last n p r (Opener kind) (alone kinds) removal is too as_seen read = absurd as_seen
full_row last n p r (Opener kind) (closes_kind other) removal is too as_seen read = absurd as_seen
full_row last n p r (Closer kinds) (opens kind) removal is too as_seen read = absurd as_seen
full_row last n p r (Closer kinds) (alone others) removal is too as_seen read =
    record {
      line = read.line;
      col = read.col;
      to = read.to;
      seen = read.seen;
      level = read.level;
      own =
          read.own;
      colour = rw (read.level, read.closes) refl;
      partner = read.closes;
      inner = same_place p r read;
    }
full_row last n p r (Closer kinds) (closes_kind kind) removal is too as_seen read =
    record {
      line = read.line;
      col = read.col;
      to = read.to;
      seen = read.seen;
      level = read.level;
      own =
          read.own;
      colour = rw (read.level, read.closes) refl;
      partner = read.closes;
      inner = same_place p r read;
    }

finish_read : (last : Pos) (n : ℕ) (ps : List Placed) (rs : List TreeRow) → AreRead ps rs
    → AreFull (rows_from last n ps) (finish last n rs)
finish_read last n [] [] are = tt
finish_read last n [] (r ∷ rs) are = absurd are
finish_read last n (p ∷ ps) [] are = absurd are
finish_read last n (p ∷ ps) (r ∷ rs) are = (
  subst (λ x. IsFull (row_of last n p p.mark.role (removal_of n (n + 1) ps)) (finish_row last n r r.seen x))
      (removal_read n (n + 1) ps rs are.1)
      (full_row last n p r p.mark.role r.seen (removal_of n (n + 1) ps) refl refl are.0.seen are.0),
  finish_read last (n + 1) ps rs are.1,
)

-- ---- no row of items closes one before them
le_true : (a b : ℕ) → a ≤ b → nat_le a b ≡ true
le_true a b h = grind (arith, nat_tests)

le_false : (a b : ℕ) → b < a → nat_le a b ≡ false
le_false a b h = grind (arith, nat_tests)

eq_true : (a : ℕ) → (a == a) ≡ true
eq_true a = grind (arith, nat_tests)

eq_false : (a b : ℕ) → a < b → (a == b) ≡ false
eq_false a b h = grind (arith, nat_tests)

abbrev Passed : Items → Type 0
Passed items = (at : Length) (n : ℕ) (es : List Entry) (ls : List TreeRow) (m k next : ℕ) → m < n → next
    ≡ k + rows_in items → removal_in m k (walk items at n es ++ ls) ≡ removal_in m next ls

next_same : (m : ℕ) (ls : List TreeRow) (k next : ℕ) → next ≡ k + 0 → removal_in m k ls ≡ removal_in m next ls
next_same m ls k next is = ap (λ x. removal_in m x ls) (omega arith)

pair_passed : (opener : Length) (kind : ℕ) (inside : Items) (closer : Length) (rest : Items) → Passed inside
    → Passed rest → Passed (pair opener kind inside closer rest)
pair_passed opener kind inside closer rest within later at n es ls m k next before is =
    let from : Length = behind inside (plus at opener) in
    let e : Entry = record { row = n; kind = kind } in
    let c : TreeRow = row_at from closer (closes_kind kind) (length es) (of_kind kind es) (Some n) in
    let a = walk inside (plus at opener) (n + 1) (e ∷ es) in
    let b = walk rest (plus from closer) (n + 1 + rows_in inside + 1) es in
    let p : removal_in m (k + 1) (a ++ (c ∷ (b ++ ls))) ≡ removal_in m (k + 1 + rows_in inside) (c ∷ (b ++ ls)) =
    within (plus at opener) (n + 1) (e ∷ es) (c ∷ (b ++ ls)) m (k + 1) (k + 1 + rows_in inside) (omega arith)
    refl in
    let q : removal_in m (k + 1 + rows_in inside + 1) (b ++ ls) ≡ removal_in m next ls =
    later (plus from closer) (n + 1 + rows_in inside + 1) es ls m (k + 1 + rows_in inside + 1) next (omega arith)
    (omega arith) in
    ap (λ l. removal_in m (k + 1) l) (append_assoc a (c ∷ b) ls) ∙ p ∙ rw (le_false n m before) q

passed : (items : Items) → Passed items
passed end = λ at n es ls m k next before is. next_same m ls k next is
passed (text len cut rest) = λ at n es ls m k next before is. passed rest (plus at len) n es ls m k next before is
passed (lone len kinds rest) = λ at n es ls m k next before is. passed rest (plus at len) (n + 1) es ls m (k + 1) next
    (omega arith) (omega arith)
passed (pair opener kind inside closer rest) = pair_passed opener kind inside closer rest (passed inside) (passed rest)
passed (unclosed opener kind inside) = λ at n es ls m k next before is. passed inside (plus at opener) (n + 1)
    (record { row = n; kind = kind } ∷ es) ls m (k + 1) next (omega arith) (omega arith)
passed stray = λ at n es ls m k next before is. next_same m ls k next is

-- ---- whole rows
-- What follows, `ls` from number k on, closes off all rows from number n on at the place where the items end, and is
-- the partner of none of them.
abbrev Finishes : Pos → Items → Type 0
Finishes last items = (at : Length) (n : ℕ) (es : List Entry) (ls : List TreeRow) (k : ℕ) → k ≡ n + rows_in items
    → ((r : ℕ) → n ≤ r → (closer_of r (removal_in r k ls) ≡ None)
    × (inner_end last (removal_in r k ls) ≡ place (behind items at)))
    → finish last n (walk items at n es ++ ls) ≡ tree_rows items at n es ++ finish last k ls

finish_same : (last : Pos) (ls : List TreeRow) (n k : ℕ) → k ≡ n + 0 → finish last n ls ≡ finish last k ls
finish_same last ls n k is = ap (λ x. finish last x ls) (omega arith)

lone_finishes : (last : Pos) (len : Length) (kinds : Kinds) (rest : Items) → Finishes last rest
    → Finishes last (lone len kinds rest)
lone_finishes last len kinds rest finishes at n es ls k is ends =
    ap (λ l. full (row_at at len (alone kinds) (length es) 0 None) None (place at) ∷ l)
    (finishes (plus at len) (n + 1) es ls k (omega arith) (λ r h. ends r (omega arith)))

unclosed_finishes : (last : Pos) (opener : Length) (kind : ℕ) (inside : Items) → Finishes last inside
    → Finishes last (unclosed opener kind inside)
unclosed_finishes last opener kind inside finishes at n es ls k is ends =
    let e : Entry = record { row = n; kind = kind } in
    let off : removal_in n (n + 1) (walk inside (plus at opener) (n + 1) (e ∷ es) ++ ls) ≡ removal_in n k ls =
    passed inside (plus at opener) (n + 1) (e ∷ es) ls n (n + 1) k (omega arith) (omega arith) in
    let here = ends n (omega arith) in
    let more = finishes (plus at opener) (n + 1) (e ∷ es) ls k (omega arith) (λ r h. ends r (omega arith)) in
    rw (off, here.0, here.1, more) refl

pair_finishes : (last : Pos) (opener : Length) (kind : ℕ) (inside : Items) (closer : Length) (rest : Items)
    → Finishes last inside → Finishes last rest → Finishes last (pair opener kind inside closer rest)
pair_finishes last opener kind inside closer rest finishes later at n es ls k is ends =
    let from : Length = behind inside (plus at opener) in
    let e : Entry = record { row = n; kind = kind } in
    let o : TreeRow = row_at at opener (opens kind) (length es) (of_kind kind es) None in
    let c : TreeRow = row_at from closer (closes_kind kind) (length es) (of_kind kind es) (Some n) in
    let a = walk inside (plus at opener) (n + 1) (e ∷ es) in
    let b = walk rest (plus from closer) (n + 1 + rows_in inside + 1) es in
    let k1 = n + 1 + rows_in inside in
    let off : removal_in n (n + 1) (a ++ (c ∷ (b ++ ls))) ≡ removal_in n k1 (c ∷ (b ++ ls)) =
    passed inside (plus at opener) (n + 1) (e ∷ es) (c ∷ (b ++ ls)) n (n + 1) k1 (omega arith) refl in
    let taken : removal_in n k1 (c ∷ (b ++ ls)) ≡ Some (record { row = k1; start = place from; closes = n }) =
    rw (le_true n n (omega arith)) refl in
    let partner : closer_of n (Some (record { row = k1; start = place from; closes = n })) ≡ Some k1 =
    rw (eq_true n) refl in
    let inside_rows : finish last (n + 1) (a ++ (c ∷ (b ++ ls)))
    ≡ tree_rows inside (plus at opener) (n + 1) (e ∷ es) ++ finish last k1 (c ∷ (b ++ ls)) =
    finishes (plus at opener) (n + 1) (e ∷ es) (c ∷ (b ++ ls)) k1 refl
    (λ r h. (
      rw (le_true n r (omega arith), eq_false n r (omega arith)) refl,
      rw (le_true n r (omega arith))
          refl,
    )) in
    let rest_rows : finish last (k1 + 1) (b ++ ls)
    ≡ tree_rows rest (plus from closer) (k1 + 1) es ++ finish last k ls =
    later (plus from closer) (k1 + 1) es ls k (omega arith) (λ r h. ends r (omega arith)) in
    let front : FullRow = full o (Some k1) (place from) in
    let mid : FullRow = full c (Some n) (place from) in
    let first : finish_row last n o (opens kind) (removal_in n (n + 1) (a ++ (c ∷ (b ++ ls)))) ≡ front =
    rw (off, taken, partner) refl in
    let shown = tree_rows inside (plus at opener) (n + 1) (e ∷ es) in
    ap (λ l. finish last n (o ∷ l)) (append_assoc a (c ∷ b) ls)
    ∙ ap (λ x. x ∷ finish last (n + 1) (a ++ (c ∷ (b ++ ls)))) first
    ∙ ap (λ l. front ∷ l) (inside_rows ∙ ap (λ l. shown ++ (mid ∷ l)) rest_rows
    ∙ sym (append_assoc shown (mid ∷ tree_rows rest (plus from closer) (k1 + 1) es) (finish last k ls)))

finishes : (last : Pos) (items : Items) → Finishes last items
finishes last end = λ at n es ls k is ends. finish_same last ls n k is
finishes last (text len cut rest) = λ at n es ls k is ends. finishes last rest (plus at len) n es ls k is ends
finishes last (lone len kinds rest) = lone_finishes last len kinds rest (finishes last rest)
finishes last (pair opener kind inside closer rest) =
    pair_finishes last opener kind inside closer rest (finishes last inside) (finishes last rest)
finishes last (unclosed opener kind inside) = unclosed_finishes last opener kind inside (finishes last inside)
finishes last stray = λ at n es ls k is ends. finish_same last ls n k is

pub row_law : RowLaw
row_law limit t ms stands =
    let items = items_of t in
    let last : Pos = place (behind items start) in
    let w : Walked limit items start ms nothing_open = walks limit items start ms nothing_open stands tt in
    let read : AreFull (paired limit last ms) (finish last 0 (walk items start 0 [])) =
    finish_read last 0 (placed_from limit nothing_open ms) (walk items start 0 []) w.placed in
    let done : finish last 0 (walk items start 0 [] ++ []) ≡ tree_rows items start 0 [] ++ [] =
    finishes last items start 0 [] [] (rows_in items) (omega arith) (λ r h. (refl, refl)) in
    subst (λ fs. AreFull (paired limit last ms) fs)
    (ap (λ l. finish last 0 l) (sym (append-nil (walk items start 0 []))) ∙ done
    ∙ append-nil (tree_rows items start 0 [])) read
