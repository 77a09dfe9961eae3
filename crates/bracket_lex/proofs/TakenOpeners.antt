-- A closer takes the last opener of its kinds that isn't closed off, in the rows of a text.
use Rattle.std.proofs.Common.{◌≡◌, ℕ, suc, ◌+◌, ◌<◌, ◌≤◌, ◌⊎◌, List, drop, Some, sym, ap, ◌∙◌, arith, inl, inr}
use Rattle.std.specs.Prelude.{slice_get}
use Rattle.text_pos.specs.declared.length.Pos.{Pos}
use Rattle.pairing_defs.specs.declared.Role.{Role}
use Rattle.pairing_defs.specs.declared.Role.TheVariants.{Opener, Closer}
use Rattle.pairing_defs.specs.declared.Mark.{Mark}
use Rattle.pairing_defs.specs.declared.Row.{Row}
use Rattle.pairing_defs.specs.Pairing.{Placed, removal_of, placed_from, nothing_open, paired}
use Rattle.bracket_lex.specs.PairLaws.{HasPartner, OpensFor, IsClosedOff, ClosersTakeTheLastOpener}
use Rattle.bracket_lex.proofs.RowPlaces.{finished, RowAt, row_at, row_made}
use Rattle.bracket_lex.proofs.LastOpeners.{Off, Taken, closer_takes}
use Rattle.bracket_lex.proofs.PairedRows.{Pair, closed_pair, closer_is}
use Rattle.bracket_lex.proofs.NestedPairs.{row_mark}

-- the row of an item that closes another
closing : (limit : ℕ) (end : Pos) (ms : List Mark) (i c : ℕ) (q : Placed)
    → slice_get (placed_from limit nothing_open ms) i ≡ Some q → q.closes ≡ Some c
    → HasPartner (paired limit end ms) i (finished end i (placed_from limit nothing_open ms) i q) c
closing limit end ms i c q there closes =
    let made = row_made end (placed_from limit nothing_open ms) i q there in
    let pair : Pair (placed_from limit nothing_open ms) c i = closed_pair limit ms c i q there closes in
    record {
      there = made;
      partner = ap (λ x. x.partner)
          (closer_is end (placed_from limit nothing_open ms) c i _ pair made);
    }

pub closed_off : (limit : ℕ) (end : Pos) (ms : List Mark) (k i : ℕ) → Off 0 (placed_from limit nothing_open ms) i k
    → IsClosedOff (paired limit end ms) k i
closed_off limit end ms k i off =
    let behind = off.behind in
    record {
      place = off.place;
      row = finished end off.place (placed_from limit nothing_open ms) off.place off.placed;
      partner = off.closed;
      closer = closing limit end ms off.place off.closed off.placed off.there off.closes;
      around = off.around;
      behind = omega arith;
      before = off.before;
    }

taken_row : (limit : ℕ) (end : Pos) (ms : List Mark) (k i : ℕ) (q : Placed) (closer : Row)
    → slice_get (placed_from limit nothing_open ms) i ≡ Some q
    → closer ≡ finished end i (placed_from limit nothing_open ms) i q
    → Taken 0 (placed_from limit nothing_open ms) i q k
    → IsClosedOff (paired limit end ms) k i ⊎ ((j : ℕ) × (closer.partner ≡ Some j) × (k ≤ j))
taken_row limit end ms k i q closer there is (inl off) = inl (closed_off limit end ms k i off)
taken_row limit end ms k i q closer there is (inr at) =
    inr (at.closed, ap (λ x. x.partner) is ∙ (closing limit end ms i at.closed q there at.closes).partner, at.within)

roles_by : (limit : ℕ) (ms : List Mark) (k i : ℕ) (p q : Placed) (opener closer : Role)
    → slice_get (placed_from limit nothing_open ms) k ≡ Some p → slice_get (placed_from limit nothing_open ms) i
    ≡ Some q
    → p.mark.role ≡ opener → q.mark.role ≡ closer → k < i → OpensFor opener closer
    → Taken 0 (placed_from limit nothing_open ms) i q k
roles_by limit ms k i p q (Closer kinds) closer there there_too is is_too order fits = absurd fits
roles_by limit ms k i p q (Opener kind) (Opener own) there there_too is is_too order fits = absurd fits
roles_by limit ms k i p q (Opener kind) (Closer kinds) there there_too is is_too order fits =
    closer_takes limit ms i k kind p q kinds there_too is_too there is order fits

pub role_of : (end : Pos) (ps : List Placed) (i : ℕ) (row : Row) (r : RowAt end i ps i row) → r.placed.mark.role
    ≡ row.mark.role
role_of end ps i row r =
    ap (λ m. m.role) (sym (ap (λ x. x.mark) r.is
    ∙ row_mark end i r.placed r.placed.mark.role (removal_of i (i + 1) (drop (suc i) ps))))

pub closers_take_the_last_opener : ClosersTakeTheLastOpener
closers_take_the_last_opener limit end ms k i opener closer there there_too order fits =
    let o : RowAt end k (placed_from limit nothing_open ms) k opener =
    row_at end (placed_from limit nothing_open ms) k opener there in
    let c : RowAt end i (placed_from limit nothing_open ms) i closer =
    row_at end (placed_from limit nothing_open ms) i closer there_too in
    taken_row limit end ms k i c.placed closer c.there c.is
    (roles_by limit ms k i o.placed c.placed opener.mark.role closer.mark.role o.there c.there
    (role_of end (placed_from limit nothing_open ms) k opener o)
    (role_of end (placed_from limit nothing_open ms) i closer c) order fits)
