-- Levels count the openers that are open.
use Rattle.std.proofs.Common.{◌≡◌, ℕ, suc, ◌+◌, List, length, drop, Option, Some, refl, sym, ap, ◌∙◌, arith, inl, inr}
use Rattle.std.proofs.Common.{subst}
use Rattle.std.specs.Prelude.{slice_get}
use Rattle.std.specs.List.{filter}
use Rattle.std.proofs.lemmas.Bool.{eqb-true, eq-eqb}
use Rattle.std.proofs.lemmas.List.Sums.{length-filter}
use Rattle.text_pos.specs.declared.length.Pos.{Pos}
use Rattle.text_pos.specs.declared.kinds.Kinds.{Kinds}
use Rattle.pairing_defs.specs.declared.Role.{Role}
use Rattle.pairing_defs.specs.declared.Role.TheVariants.{Opener, Closer}
use Rattle.pairing_defs.specs.declared.Mark.{Mark}
use Rattle.pairing_defs.specs.declared.Row.{Row}
use Rattle.pairing_defs.specs.Pairing.{Entry, Placed, Removal, of_kind, removal_of, row_of, placed_from, nothing_open}
use Rattle.pairing_defs.specs.Pairing.{paired}
use Rattle.bracket_lex.specs.PairLaws.{IsClosedOff}
use Rattle.bracket_lex.specs.LevelLaws.{Counts, IsOpenAt, IsOpen, OpenersCountTheOpen, LoneClosersCountTheOpen}
use Rattle.bracket_lex.proofs.RowPlaces.{finished, RowAt, row_at, row_made}
use Rattle.bracket_lex.proofs.OpenEntries.{stack_more}
use Rattle.bracket_lex.proofs.LastOpeners.{Off}
use Rattle.bracket_lex.proofs.OpenStacks.{IsIn, IsNew, HasLevels, StackAt}
use Rattle.bracket_lex.proofs.StackRuns.{stacks_of}
use Rattle.bracket_lex.proofs.PairedRows.{partner_pair}
use Rattle.bracket_lex.proofs.NestedPairs.{row_mark, row_level}
use Rattle.bracket_lex.proofs.TakenOpeners.{closed_off, role_of}
use Rattle.bracket_lex.proofs.EntryRows.{counted, is_of, filter_falls, into_filter, Filtered, from_filter}

-- ---- rows that are open
-- a row that is closed off is closed by an item, or one around it is
off_back : (limit : ℕ) (end : Pos) (ms : List Mark) (k i : ℕ) → IsClosedOff (paired limit end ms) k i
    → Off 0 (placed_from limit nothing_open ms) i k
off_back limit end ms k i c =
    let around = c.around in
    let behind = c.behind in
    elim (partner_pair limit end ms c.place c.partner c.row c.closer) [
      | inl pair ↦ absurd (let before = pair.before in omega arith)
      | inr pair ↦ record {
        place = c.place;
        placed = pair.closer;
        there = pair.closer_there;
        closed = c.partner;
        closes = pair.closes;
        around = c.around;
        behind = omega arith;
        before = c.before;
      }
    ]

open_by : (limit : ℕ) (end : Pos) (ms : List Mark) (i : ℕ) (e : Entry)
    → IsNew 0 (placed_from limit nothing_open ms) i e → (Off 0 (placed_from limit nothing_open ms) i e.row → ⊥)
    → IsOpenAt (paired limit end ms) i e.row e.kind
open_by limit end ms i e new stays =
    let before = new.before in
    let number : new.place ≡ e.row = (let is = new.number in omega arith) in
    record {
      opener = finished end new.place (placed_from limit nothing_open ms) new.place new.placed;
      there = ap (slice_get (paired limit end ms)) (sym number)
          ∙ row_made end (placed_from limit nothing_open ms) new.place new.placed new.there;
      role = ap (λ m. m.role) (row_mark end new.place new.placed new.placed.mark.role
          (removal_of new.place (new.place + 1) (drop (suc new.place) (placed_from limit nothing_open ms)))) ∙ new.role;
      before = omega arith;
      stays = λ off. stays (off_back limit end ms e.row i off);
    }

-- an open entry is an open row
entry_open : (limit : ℕ) (end : Pos) (ms : List Mark) (i : ℕ) (Is : List Entry → Type 0)
    (t : StackAt nothing_open (placed_from limit nothing_open ms) i Is) (e : Entry) → IsIn e t.stack
    → IsOpenAt (paired limit end ms) i e.row e.kind
entry_open limit end ms i Is t e among = elim (t.from e among) [
  | inl old ↦ absurd old.1
  | inr new ↦ open_by limit end ms i e new (t.stays e among)
]

-- and an open row is an open entry
open_entry : (limit : ℕ) (end : Pos) (ms : List Mark) (i k kind : ℕ) (Is : List Entry → Type 0)
    (t : StackAt nothing_open (placed_from limit nothing_open ms) i Is) → IsOpenAt (paired limit end ms) i k kind
    → IsIn (record { row = k; kind = kind }) t.stack
open_entry limit end ms i k kind Is t o =
    let r : RowAt end k (placed_from limit nothing_open ms) k o.opener =
    row_at end (placed_from limit nothing_open ms) k o.opener o.there in
    let new : IsNew 0 (placed_from limit nothing_open ms) i (record { row = k; kind = kind }) =
    record {
      place = k;
      number = omega arith;
      before = o.before;
      placed = r.placed;
      there = r.there;
      role = role_of end (placed_from limit nothing_open ms) k o.opener r ∙ o.role;
    } in
    elim (t.new (record { row = k; kind = kind }) new) [
      | inl off ↦ absurd (o.stays (closed_off limit end ms k i off))
      | inr among ↦ among
    ]

-- ---- the counts
pub all_open : (limit : ℕ) (end : Pos) (ms : List Mark) (i level : ℕ) (Is : List Entry → Type 0)
    (t : StackAt nothing_open (placed_from limit nothing_open ms) i Is) → level ≡ length t.stack
    → Counts i (IsOpen (paired limit end ms) i) level
all_open limit end ms i level Is t is =
    counted i (IsOpen (paired limit end ms) i) t.stack level (stack_more (0 + i) i t.stack t.falls (omega arith))
    (sym is)
    (λ e among. (e.kind, entry_open limit end ms i Is t e among))
    (λ k holds. record {
      entry = record { row = k; kind = holds.0 };
      row = refl;
      among = open_entry limit end ms i k holds.0 Is t holds.1;
    })

open_of_kind : (limit : ℕ) (end : Pos) (ms : List Mark) (i kind own : ℕ) (Is : List Entry → Type 0)
    (t : StackAt nothing_open (placed_from limit nothing_open ms) i Is) → own ≡ of_kind kind t.stack
    → Counts i (λ k. IsOpenAt (paired limit end ms) i k kind) own
open_of_kind limit end ms i kind own Is t is =
    counted i (λ k. IsOpenAt (paired limit end ms) i k kind) (filter (is_of kind) t.stack) own
    (filter_falls (is_of kind) i t.stack (stack_more (0 + i) i t.stack t.falls (omega arith)))
    (length-filter (is_of kind) t.stack ∙ sym is)
    (λ e among. (let f : Filtered (is_of kind) t.stack e =
    from_filter (is_of kind) t.stack e among.0 among.1 in
    subst (IsOpenAt (paired limit end ms) i e.row) (eqb-true e.kind kind f.passes)
    (entry_open limit end ms i Is t e f.among)))
    (λ k holds. (let among : IsIn (record { row = k; kind = kind }) t.stack =
    open_entry limit end ms i k kind Is t holds in
    record {
      entry = record { row = k; kind = kind };
      row = refl;
      among =
          into_filter (is_of kind) t.stack (record { row = k; kind = kind }) among.0 among.1 (eq-eqb kind kind refl);
    }))

-- ---- the laws
row_own : (end : Pos) (n : ℕ) (p : Placed) (role : Role) (removal : Option Removal)
    → (row_of end n p role removal).own ≡ p.own
row_own end n p (Opener kind) removal = refl
row_own end n p (Closer kinds) removal = refl

row_closes : (end : Pos) (n : ℕ) (p : Placed) (kinds : Kinds) (role : Role) (removal : Option Removal) → role
    ≡ Closer kinds → (row_of end n p role removal).partner ≡ p.closes
row_closes end n p kinds (Opener kind) removal is = absurd (cc)
row_closes end n p kinds (Closer own) removal is = refl

-- a row, with the levels that it had before it was finished
record Levelled (limit : ℕ) (end : Pos) (ms : List Mark) (i : ℕ) (row : Row) : Type 0 where
  placed : Placed
  there : slice_get (placed_from limit nothing_open ms) i ≡ Some placed
  role : placed.mark.role ≡ row.mark.role
  level : row.level ≡ placed.level
  own : row.own ≡ placed.own
  closes : (kinds : Kinds) → row.mark.role ≡ Closer kinds → placed.closes ≡ row.partner

levelled : (limit : ℕ) (end : Pos) (ms : List Mark) (i : ℕ) (row : Row) → slice_get (paired limit end ms) i ≡ Some row
    → Levelled limit end ms i row
levelled limit end ms i row there =
    let r : RowAt end i (placed_from limit nothing_open ms) i row =
    row_at end (placed_from limit nothing_open ms) i row there in
    let removal : Option Removal = removal_of i (i + 1) (drop (suc i) (placed_from limit nothing_open ms)) in
    let role : r.placed.mark.role ≡ row.mark.role = role_of end (placed_from limit nothing_open ms) i row r in
    record {
      placed = r.placed;
      there = r.there;
      role = role;
      level = ap (λ x. x.level) r.is ∙ row_level end i r.placed r.placed.mark.role removal;
      own = ap (λ x. x.own) r.is ∙ row_own end i r.placed r.placed.mark.role removal;
      closes = λ kinds is. sym (ap (λ x. x.partner) r.is
          ∙ row_closes end i r.placed kinds r.placed.mark.role removal (role ∙ is));
    }

pub openers_count_the_open : OpenersCountTheOpen
openers_count_the_open limit end ms i kind row there opens =
    let r : Levelled limit end ms i row = levelled limit end ms i row there in
    let t : StackAt nothing_open (placed_from limit nothing_open ms) i (HasLevels r.placed) =
    (stacks_of limit ms).before i r.placed r.there in
    let levels = t.is.opener kind (r.role ∙ opens) in (
      all_open limit end ms i row.level (HasLevels r.placed) t (r.level ∙ levels.0),
      open_of_kind limit end ms i kind
          row.own (HasLevels r.placed) t (r.own ∙ levels.1),
    )

pub lone_closers_count_the_open : LoneClosersCountTheOpen
lone_closers_count_the_open limit end ms i kinds row there closes none =
    let r : Levelled limit end ms i row = levelled limit end ms i row there in
    let t : StackAt nothing_open (placed_from limit nothing_open ms) i (HasLevels r.placed) =
    (stacks_of limit ms).before i r.placed r.there in
    let levels = t.is.alone kinds (r.role ∙ closes) (r.closes kinds closes ∙ none) in
    (all_open limit end ms i row.level (HasLevels r.placed) t (r.level ∙ levels.0), r.own ∙ levels.1)
