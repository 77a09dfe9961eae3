-- Rows are marks, in order, and only openers at the limit are left out.
use Rattle.std.proofs.Common.{◌≡◌, ℕ, suc, ◌+◌, ◌≤◌, nat_le, List, [], ◌∷◌, ◌++◌, length, map, Bool, refl, sym, ap}
use Rattle.std.proofs.Common.{arith, inl, inr}
use Rattle.std.specs.List.{filter}
use Rattle.std.proofs.lemmas.Bool.{cases_Bool, lt-leb}
use Rattle.text_pos.specs.declared.length.Pos.{Pos}
use Rattle.text_pos.specs.declared.kinds.Kinds.{Kinds}
use Rattle.text_pos.specs.KindSet.{has_kind}
use Rattle.pairing_defs.specs.declared.Role.{Role}
use Rattle.pairing_defs.specs.declared.Role.TheVariants.{Opener, Closer}
use Rattle.pairing_defs.specs.declared.Mark.{Mark}
use Rattle.pairing_defs.specs.Pairing.{Entry, Open, Placed, from_last, closer_row, left_open, rows_by, open_by}
use Rattle.pairing_defs.specs.Pairing.{removal_of, placed_from, nothing_open, rows_from}
use Rattle.bracket_lex.specs.RowLaws.{opens, closes, marks_of_rows, IsPartOf, RowsAreMarksInOrder, ClosersHaveRows}
use Rattle.bracket_lex.specs.RowLaws.{MarksWithinTheLimitHaveRows}
use Rattle.bracket_lex.proofs.NestedPairs.{row_mark}

abbrev pub marks_placed : List Placed → List Mark
marks_placed ps = map (λ p. p.mark) ps

pub finished_marks : (end : Pos) (n : ℕ) (ps : List Placed) → marks_of_rows (rows_from end n ps) ≡ marks_placed ps
finished_marks end n [] = refl
finished_marks end n (p ∷ ps) = rw (
  row_mark end n p p.mark.role (removal_of n (n + 1) ps),
  finished_marks end (n + 1)
      ps,
) refl

pub closer_mark : (state : Open) (m : Mark) (found : List Entry) → (closer_row state m found).mark ≡ m
closer_mark state m [] = refl
closer_mark state m (entry ∷ below) = refl

-- ---- in order
part_more : (kept : List Mark) (m : Mark) (ms : List Mark) → IsPartOf kept ms → IsPartOf kept (m ∷ ms)
part_more [] m ms part = tt
part_more (k ∷ kept) m ms part = inr part

part_by : (limit : ℕ) (state : Open) (m : Mark) (ms : List Mark) (role : Role)
    → ((s : Open) → IsPartOf (marks_placed (placed_from limit s ms)) ms)
    → IsPartOf (marks_placed (rows_by limit state m role ++ placed_from limit (open_by limit state role) ms)) (m ∷ ms)
part_by limit state m ms (Opener kind) later = elim (cases_Bool (nat_le limit (length state.entries))) [
  | inl full ↦ rw full (part_more (marks_placed (placed_from limit state ms)) m ms (later state))
  | inr room ↦ rw room (inl (
    refl,
    later (record
        { rows = state.rows + 1; entries = record { row = state.rows; kind = kind } ∷ state.entries }),
  ))
]
part_by limit state m ms (Closer kinds) later =
    inl (sym (closer_mark state m (from_last kinds state.entries)), later (open_by limit state (Closer kinds)))

part : (limit : ℕ) (ms : List Mark) (state : Open) → IsPartOf (marks_placed (placed_from limit state ms)) ms
part limit [] state = tt
part limit (m ∷ ms) state = part_by limit state m ms m.role (λ s. part limit ms s)

pub rows_are_marks_in_order : RowsAreMarksInOrder
rows_are_marks_in_order limit end ms = rw (finished_marks end 0 (placed_from limit nothing_open ms))
    (part limit ms nothing_open)

-- ---- closers
one_more : (test : Mark → Bool) (m : Mark) (xs ys : List Mark) → filter test xs ≡ filter test ys
    → filter test (m ∷ xs) ≡ filter test (m ∷ ys)
one_more test m xs ys same = elim (cases_Bool (test m)) [
  | inl passes ↦ rw passes (ap (λ rest. m ∷ rest) same)
  | inr fails ↦ rw fails same
]

closers_by : (limit : ℕ) (state : Open) (m : Mark) (ms : List Mark) (role : Role) → m.role ≡ role
    → ((s : Open) → filter closes (marks_placed (placed_from limit s ms)) ≡ filter closes ms)
    → filter closes (marks_placed (rows_by limit state m role ++ placed_from limit (open_by limit state role) ms))
    ≡ filter closes (m ∷ ms)
closers_by limit state m ms (Opener kind) is later = elim (cases_Bool (nat_le limit (length state.entries))) [
  | inl full ↦ rw (full, is) (later state)
  | inr room ↦ rw (room, is) (later (record
      { rows = state.rows + 1; entries = record { row = state.rows; kind = kind } ∷ state.entries }))
]
closers_by limit state m ms (Closer kinds) is later =
    rw (closer_mark state m (from_last kinds state.entries))
    (one_more closes m (marks_placed (placed_from limit (open_by limit state (Closer kinds)) ms)) ms
    (later (open_by limit state (Closer kinds))))

closers_kept : (limit : ℕ) (ms : List Mark) (state : Open) → filter closes (marks_placed (placed_from limit state ms))
    ≡ filter closes ms
closers_kept limit [] state = refl
closers_kept limit (m ∷ ms) state = closers_by limit state m ms m.role refl (λ s. closers_kept limit ms s)

pub closers_have_rows : ClosersHaveRows
closers_have_rows limit end ms = rw (finished_marks end 0 (placed_from limit nothing_open ms))
    (closers_kept limit ms nothing_open)

-- ---- openers
from_last_short : (kinds : Kinds) (es : List Entry) → length (from_last kinds es) ≤ length es
from_last_short kinds [] = omega arith
from_last_short kinds (e ∷ es) = elim (cases_Bool (has_kind kinds e.kind)) [
  | inl here ↦ rw here (omega arith)
  | inr other ↦ rw other (let rest = from_last_short kinds es in omega arith)
]

left_short : (es found : List Entry) → length found ≤ length es → length (left_open es found) ≤ length es
left_short es [] short = omega arith
left_short es (e ∷ below) short = omega arith

kept_by : (limit : ℕ) (state : Open) (m : Mark) (ms : List Mark) (role : Role) → m.role ≡ role
    → length state.entries + length (filter opens (m ∷ ms)) ≤ limit
    → ((s : Open) → length s.entries + length (filter opens ms) ≤ limit → marks_placed (placed_from limit s ms) ≡ ms)
    → marks_placed (rows_by limit state m role ++ placed_from limit (open_by limit state role) ms) ≡ m ∷ ms
kept_by limit state m ms (Opener kind) is few later =
    let many : length state.entries + suc (length (filter opens ms)) ≤ limit = rw is at few in
    rw (lt-leb limit (length state.entries) (omega arith))
    (ap (λ rest. m ∷ rest) (later (record {
      rows = state.rows + 1;
      entries = record { row = state.rows; kind = kind } ∷ state.entries;
    }) (omega arith)))
kept_by limit state m ms (Closer kinds) is few later =
    let many : length state.entries + length (filter opens ms) ≤ limit = rw is at few in
    let left : length (left_open state.entries (from_last kinds state.entries)) ≤ length state.entries =
    left_short state.entries (from_last kinds state.entries) (from_last_short kinds state.entries) in
    rw (closer_mark state m (from_last kinds state.entries))
    (ap (λ rest. m ∷ rest) (later (open_by limit state (Closer kinds)) (omega arith)))

all_kept : (limit : ℕ) (ms : List Mark) (state : Open) → length state.entries + length (filter opens ms) ≤ limit
    → marks_placed (placed_from limit state ms) ≡ ms
all_kept limit [] state few = refl
all_kept limit (m ∷ ms) state few = kept_by limit state m ms m.role refl few (λ s s_few. all_kept limit ms s s_few)

pub marks_within_the_limit_have_rows : MarksWithinTheLimitHaveRows
marks_within_the_limit_have_rows limit end ms few =
    rw (finished_marks end 0 (placed_from limit nothing_open ms)) (all_kept limit ms nothing_open (omega arith))
