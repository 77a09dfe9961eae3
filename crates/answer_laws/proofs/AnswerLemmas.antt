-- What the answers about pairs tell, by the rows that are found.
use Rattle.std.proofs.Common.{◌≡◌, ℕ, List}
use Rattle.std.proofs.Common.{reverse, refl, sym, ap, ◌∙◌}
use Rattle.std.specs.Prelude.{Option, Some, None, slice_get, option_and_then}
use Rattle.std.specs.List.{find}
use Rattle.std.specs.Option.{option_or, option_map}
use Rattle.text_pos.specs.declared.length.Pos.{Pos}
use Rattle.pairing_defs.specs.declared.Row.{Row}
use Rattle.answer_defs.specs.declared.pair_answer.Twin.{Twin}
use Rattle.answer_defs.specs.PairAnswers.{stands_at, ends_at, touched, twin_of, twin, match_in, around_in}
use Rattle.answer_defs.specs.PairAnswers.{next_start}
use Rattle.answer_defs.specs.PairAnswers.{second_start, partner_of, encloses_closed, starts_from}
use Rattle.answer_laws.specs.MatchLaws.{IsRow, AreApart, turned, MatchingTwiceComesBack}
use Rattle.answer_laws.specs.PlaceLaws.{StartsAt, JumpsGoToBrackets, AroundIsTheNarrowest}
use Rattle.answer_laws.proofs.Finds.{Found, found, Finds, finds, Last, last_found}

-- a row, its partner, and where the partner stands
record Pair (rows : List Row) (r : Row) (t : Twin) : Type 0 where
  other : Row
  number : ℕ
  partner : r.partner ≡ Some number
  there : slice_get rows number ≡ Some other
  both : t ≡ twin r other

pair_by : (rows : List Row) (r : Row) (t : Twin) (n : Option ℕ) (p : Option Row) → r.partner ≡ n
    → option_and_then (slice_get rows) n ≡ p → option_map (twin r) p ≡ Some t → Pair rows r t
pair_by rows r t None p is got e =
    let nothing : option_map (twin r) None ≡ Some t = ap (option_map (twin r)) got ∙ e in cc
pair_by rows r t (Some n) None is got e = cc
pair_by rows r t (Some n) (Some other) is got e =
    let same : twin r other ≡ t = cc in
    record { other = other; number = n; partner = is; there = got; both = sym same }

pair_of : (rows : List Row) (r : Row) (t : Twin) → twin_of rows r ≡ Some t → Pair rows r t
pair_of rows r t e = pair_by rows r t r.partner (partner_of rows r) refl refl e

-- the row that an answer begins with
record Begins (rows : List Row) (o : Option Row) (t : Twin) : Type 0 where
  row : Row
  is : o ≡ Some row
  pair : Pair rows row t

begins : (rows : List Row) (o : Option Row) (t : Twin) → option_and_then (twin_of rows) o ≡ Some t → Begins rows o t
begins rows None t e = cc
begins rows (Some r) t e = record { row = r; is = refl; pair = pair_of rows r t e }

-- ---- jumps
partner_starts : (rows : List Row) (o : Option Row) (t : Twin) → option_and_then (twin_of rows) o ≡ Some t
    → StartsAt rows t.second.from
partner_starts rows o t e =
    let b : Begins rows o t = begins rows o t e in
    record {
      place = b.pair.number;
      row = b.pair.other;
      there = b.pair.there;
      starts = sym (ap (λ t. t.second.from) b.pair.both);
    }

next_starts : (rows : List Row) (at to : Pos) (o : Option Row) → find (starts_from at) rows ≡ o
    → option_map (λ (r : Row). r.mark.at) o ≡ Some to → StartsAt rows to
next_starts rows at to None is e = cc
next_starts rows at to (Some r) is e =
    let f : Found (starts_from at) rows r = found (starts_from at) rows r is in
    record { place = f.place; row = r; there = f.there; starts = (let same : r.mark.at ≡ to = cc in same) }

jumps_by : (rows : List Row) (at to : Pos) (m a : Option Twin) → match_in rows at ≡ m → around_in rows at ≡ a
    → option_or (option_map second_start m) (option_or (option_map second_start a) (next_start rows at)) ≡ Some to
    → StartsAt rows to
jumps_by rows at to (Some t) a is is2 e =
    let s : StartsAt rows t.second.from = partner_starts rows (touched at rows) t is in
    let same : t.second.from ≡ to = cc in
    record { place = s.place; row = s.row; there = s.there; starts = s.starts ∙ same }
jumps_by rows at to None (Some t) is is2 e =
    let s : StartsAt rows t.second.from = partner_starts rows (find (encloses_closed at) (reverse rows)) t is2 in
    let same : t.second.from ≡ to = cc in
    record { place = s.place; row = s.row; there = s.there; starts = s.starts ∙ same }
jumps_by rows at to None None is is2 e = next_starts rows at to (find (starts_from at) rows) refl e

pub jumps_go_to_brackets : JumpsGoToBrackets
jumps_go_to_brackets rows at to e = jumps_by rows at to (match_in rows at) (around_in rows at) refl refl e

-- ---- the pair around
pub around_is_the_narrowest : AroundIsTheNarrowest
around_is_the_narrowest rows at t e =
    let b : Begins rows (find (encloses_closed at) (reverse rows)) t =
    begins rows (find (encloses_closed at) (reverse rows)) t e in
    let l : Last (encloses_closed at) rows b.row = last_found (encloses_closed at) rows b.row b.is in
    record {
      place = l.place;
      opener = b.row;
      closer = b.pair.other;
      there = l.there;
      around = l.passes;
      partner = ap (option_and_then (slice_get rows)) b.pair.partner ∙ b.pair.there;
      both = b.pair.both;
      last = l.last;
    }

-- ---- matching twice
-- the bracket at a place is one of the rows
touched_by : (rows : List Row) (at : Pos) (a b : Option Row) (r : Row) → find (stands_at at) rows ≡ a
    → find (ends_at at) rows ≡ b → option_or a b ≡ Some r → (k : ℕ) × IsRow rows k r
touched_by rows at (Some x) b r is is2 e =
    let f : Found (stands_at at) rows x = found (stands_at at) rows x is in
    (f.place, f.there ∙ e)
touched_by rows at None b r is is2 e =
    let f : Found (ends_at at) rows r = found (ends_at at) rows r (is2 ∙ e) in
    (f.place, f.there)

-- a bracket is the one at the place where it starts
touched_at_start : (rows : List Row) (k : ℕ) (r : Row) → AreApart rows → IsRow rows k r
    → touched r.mark.at rows ≡ Some r
touched_at_start rows k r apart there =
    let stands = apart.some k r there in
    let here : Finds (stands_at r.mark.at) rows = finds (stands_at r.mark.at) rows k r there stands in
    let f : Found (stands_at r.mark.at) rows here.item = found (stands_at r.mark.at) rows here.item here.is in
    let same : f.place ≡ k = apart.apart f.place k here.item r r.mark.at f.there there f.passes stands in
    let one : Some here.item ≡ Some r = sym f.there ∙ ap (slice_get rows) same ∙ there in
    ap (λ o. option_or o (find (ends_at r.mark.at) rows)) (here.is ∙ one)

pub matching_twice_comes_back : MatchingTwiceComesBack
matching_twice_comes_back rows at t apart two_way e =
    let b : Begins rows (touched at rows) t = begins rows (touched at rows) t e in
    let p = b.pair in
    let i = touched_by rows at (find (stands_at at) rows) (find (ends_at at) rows) b.row refl refl b.is in
    let back = two_way i.0 p.number b.row i.1 p.partner in
    let same : back.0 ≡ p.other = (let both : Some back.0 ≡ Some p.other = sym back.1 ∙ p.there in cc) in
    let partner : p.other.partner ≡ Some i.0 = ap (λ (r : Row). r.partner) (sym same) ∙ back.2 in
    let found = touched_at_start rows p.number p.other apart p.there in
    let start : t.second.from ≡ p.other.mark.at = ap (λ t. t.second.from) p.both in
    ap (match_in rows) start
    ∙ ap (option_and_then (twin_of rows)) found
    ∙ ap (λ n. option_map (twin p.other) (option_and_then (slice_get rows) n)) partner
    ∙ ap (option_map (twin p.other)) i.1
    ∙ ap (λ t. Some (turned t)) (sym p.both)
