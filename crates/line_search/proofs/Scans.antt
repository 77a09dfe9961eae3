-- What some patterns find, place by place: what two lists find as one, and that a search may begin where it is decided.
use Rattle.std.proofs.Common.{◌≡◌, ℕ, zero, suc, ◌+◌, ◌-◌, ◌≤◌, List, [], ◌∷◌, ◌++◌, length, map, refl, sym, ap}
use Rattle.std.proofs.Common.{◌∙◌, arith}
use Rattle.std.specs.Prelude.{Bool, true, false, nat_le, Option, Some, None, option_map, slice_get, find, cond}
use Rattle.std.specs.Option.{option_or}
use Rattle.std.specs.List.{flat_map}
use Rattle.std.proofs.lemmas.List.Folds.{find-append}
use Rattle.std.proofs.lemmas.List.Concat.{flat_map-cons}
use Rattle.pattern_defs.specs.declared.outcomes.Flags.{Flags}
use Rattle.pattern_defs.specs.Patterns.{Tree}
use Rattle.pattern_defs.specs.Attempt.{attempt}
use Rattle.pattern_defs.specs.FirstMatch.{Pair, pairs_at, places, tried, is_no_miss}
use Rattle.line_defs.specs.Search.{Choice, Found, Nothing, Sight, found_as, found_of, found_by, scan}
use Rattle.line_search.specs.Choices.{first_of, first_place, is_before}

-- a place where something is decided, and what is found
pub record Told : Type 0 where
  pub place : ℕ
  pub found : Found

abbrev pub trees_of : List Choice → List Tree
trees_of choices = map (λ choice. choice.tree) choices

-- ---- one place

-- what the patterns of a list find at a place, if one decides there
unfoldable pub here : (text : List ℕ) → Flags → (budget place : ℕ) → List Choice → Option Told
here text flags budget place [] = None
here text flags budget place (c ∷ cs) =
    cond (is_no_miss (attempt c.tree text place flags budget))
    (Some (record { place = place; found = found_as c.of place (attempt c.tree text place flags budget) }))
    (here text flags budget place cs)

abbrev told_by : Sight → List Choice → Pair → Told
told_by s all pair = record { place = pair.place; found = found_of s pair (slice_get all pair.index) }

-- by the pairs of the place, whose patterns count from a number
here-pairs : (s : Sight) (all : List Choice) (index : ℕ) (choices : List Choice) (place : ℕ) →
    ((k : ℕ) → slice_get all (index + k) ≡ slice_get choices k) →
    option_map (told_by s all) (find (λ pair. is_no_miss (tried s.text s.flags s.budget pair))
    (pairs_at index (trees_of choices) place))
    ≡ here s.text s.flags s.budget place choices
unfolding here
here-pairs s all index [] place from = refl
here-pairs s all index (c ∷ cs) place from =
    by (is_no_miss (attempt c.tree s.text place s.flags s.budget))
    (here-pairs s all (index + 1) cs place
    (λ k. let e : index + 1 + k ≡ index + suc k = omega arith in ap (slice_get all) e ∙ from (suc k)))
  where
    found : slice_get all index ≡ Some c
    found = let e : index ≡ index + 0 = omega arith in ap (slice_get all) e ∙ from 0

    by : (b : Bool) →
        option_map (told_by s all) (find (λ pair. is_no_miss (tried s.text s.flags s.budget pair))
        (pairs_at (index + 1) (trees_of cs) place))
        ≡ here s.text s.flags s.budget place cs →
        option_map (told_by s all)
        (cond b (Some (record { place = place; index = index; tree = c.tree }))
        (find (λ pair. is_no_miss (tried s.text s.flags s.budget pair)) (pairs_at (index + 1) (trees_of cs) place)))
        ≡ cond b
        (Some (record { place = place; found = found_as c.of place (attempt c.tree s.text place s.flags s.budget) }))
        (here s.text s.flags s.budget place cs)
    by true later =
        ap (λ o. Some (record {
          place = place;
          found = found_of s (record { place = place; index = index; tree = c.tree }) o;
        })) found
    by false later = later

-- ---- all places

-- what they find at the first of some places where one decides
unfoldable pub over : (text : List ℕ) → Flags → (budget : ℕ) → List Choice → (at : List ℕ) → Option Told
over text flags budget choices [] = None
over text flags budget choices (place ∷ at) =
    option_or (here text flags budget place choices) (over text flags budget choices at)

option_map-or : {X Y : Type 0} (f : X → Y) (one other : Option X) →
    option_map f (option_or one other) ≡ option_or (option_map f one) (option_map f other)
option_map-or f None other = refl
option_map-or f (Some x) other = refl

over-pairs : (s : Sight) (choices : List Choice) (at : List ℕ) →
    option_map (told_by s choices) (find (λ pair. is_no_miss (tried s.text s.flags s.budget pair))
    (flat_map (pairs_at 0 (trees_of choices)) at))
    ≡ over s.text s.flags s.budget choices at
unfolding over
over-pairs s choices [] = refl
over-pairs s choices (place ∷ at) =
    let p : Pair → Bool = λ pair. is_no_miss (tried s.text s.flags s.budget pair) in
    let one : List Pair = pairs_at 0 (trees_of choices) place in
    let others : List Pair = flat_map (pairs_at 0 (trees_of choices)) at in
    ap (λ all. option_map (told_by s choices) (find p all)) (flat_map-cons (pairs_at 0 (trees_of choices)) place at)
    ∙ ap (option_map (told_by s choices)) (find-append p one others)
    ∙ option_map-or (told_by s choices) (find p one) (find p others)
    ∙ ap (λ o. option_or o (option_map (told_by s choices) (find p others)))
    (here-pairs s choices 0 choices place (λ k. let e : 0 + k ≡ k = omega arith in ap (slice_get choices) e))
    ∙ ap (option_or (here s.text s.flags s.budget place choices)) (over-pairs s choices at)

abbrev pub places_of : Sight → List ℕ
places_of s = places s.place (length s.text + 1 - s.place)

abbrev pub over_all : Sight → List Choice → Option Told
over_all s choices = over s.text s.flags s.budget choices (places_of s)

abbrev pub found_in : Option Told → Found
found_in None = Nothing
found_in (Some told) = told.found

scan-told : (s : Sight) (choices : List Choice) (o : Option Pair) →
    found_by s choices o ≡ found_in (option_map (told_by s choices) o)
scan-told s choices None = refl
scan-told s choices (Some pair) = refl

place-told : (s : Sight) (choices : List Choice) (o : Option Pair) →
    option_map (λ pair. pair.place) o ≡ option_map (λ told. told.place) (option_map (told_by s choices) o)
place-told s choices None = refl
place-told s choices (Some pair) = refl

pub scan-over : (s : Sight) (choices : List Choice) → scan s choices ≡ found_in (over_all s choices)
scan-over s choices =
    scan-told s choices (first_of s choices) ∙ ap found_in (over-pairs s choices (places_of s))

pub place-over : (s : Sight) (choices : List Choice) →
    first_place s choices ≡ option_map (λ told. told.place) (over_all s choices)
place-over s choices =
    place-told s choices (first_of s choices)
    ∙ ap (option_map (λ told. told.place)) (over-pairs s choices (places_of s))

-- ---- two lists

here-append : (text : List ℕ) (flags : Flags) (budget place : ℕ) (cs ds : List Choice) →
    here text flags budget place (cs ++ ds)
    ≡ option_or (here text flags budget place cs) (here text flags budget place ds)
unfolding here
here-append text flags budget place [] ds = refl
here-append text flags budget place (c ∷ cs) ds =
    by (is_no_miss (attempt c.tree text place flags budget)) (here-append text flags budget place cs ds)
  where
    by : (b : Bool) → here text flags budget place (cs ++ ds)
        ≡ option_or (here text flags budget place cs) (here text flags budget place ds)
        → cond b
        (Some (record { place = place; found = found_as c.of place (attempt c.tree text place flags budget) }))
        (here text flags budget place (cs ++ ds))
        ≡ option_or (cond b
        (Some (record { place = place; found = found_as c.of place (attempt c.tree text place flags budget) }))
        (here text flags budget place cs)) (here text flags budget place ds)
    by true later = refl
    by false later = later

-- what is told at a place is told of it
abbrev IsToldAt : ℕ → Option Told → Type 0
IsToldAt place None = Unit {0}
IsToldAt place (Some told) = told.place ≡ place

here-place : (text : List ℕ) (flags : Flags) (budget place : ℕ) (cs : List Choice) →
    IsToldAt place (here text flags budget place cs)
unfolding here
here-place text flags budget place [] = tt
here-place text flags budget place (c ∷ cs) =
    by (is_no_miss (attempt c.tree text place flags budget)) (here-place text flags budget place cs)
  where
    by : (b : Bool) → IsToldAt place (here text flags budget place cs) → IsToldAt place (cond b
        (Some (record { place = place; found = found_as c.of place (attempt c.tree text place flags budget) }))
        (here text flags budget place cs))
    by true later = refl
    by false later = later

abbrev IsToldFrom : ℕ → Option Told → Type 0
IsToldFrom place None = Unit {0}
IsToldFrom place (Some told) = place ≤ told.place

from_or : (place : ℕ) (one other : Option Told) → IsToldAt place one → IsToldFrom (place + 1) other →
    IsToldFrom place (option_or one other)
from_or place None None is later = tt
from_or place None (Some told) is later = omega arith
from_or place (Some told) other is later = omega arith

over-from : (text : List ℕ) (flags : Flags) (budget : ℕ) (cs : List Choice) (from count : ℕ) →
    IsToldFrom from (over text flags budget cs (places from count))
unfolding over
over-from text flags budget cs from zero = tt
over-from text flags budget cs from (suc count) =
    from_or from (here text flags budget from cs) (over text flags budget cs (places (from + 1) count))
    (here-place text flags budget from cs) (over-from text flags budget cs (from + 1) count)

abbrev place_in : Option Told → Option ℕ
place_in o = option_map (λ told. told.place) o

abbrev pub earlier : Option Told → Option Told → Option Told
earlier one other = cond (is_before (place_in one) (place_in other)) one other

-- where one of two lists decides at a place, and where none does
earlier-here : (place : ℕ) (a b one other : Option Told) → IsToldAt place a → IsToldAt place b →
    IsToldFrom (place + 1) one → IsToldFrom (place + 1) other →
    option_or (option_or a b) (earlier one other) ≡ earlier (option_or a one) (option_or b other)
earlier-here place None None one other is too from later = refl
earlier-here place (Some told) None one None is too from later = refl
earlier-here place (Some told) None one (Some t) is too from later =
    let e : nat_le told.place t.place ≡ true = grind arith in rw e refl
earlier-here place (Some told) (Some t) one other is too from later =
    let e : nat_le told.place t.place ≡ true = grind arith in rw e refl
earlier-here place None (Some told) None other is too from later = refl
earlier-here place None (Some told) (Some t) other is too from later =
    let e : nat_le t.place told.place ≡ false = grind arith in rw e refl

over-append : (text : List ℕ) (flags : Flags) (budget : ℕ) (cs ds : List Choice) (from count : ℕ) →
    over text flags budget (cs ++ ds) (places from count)
    ≡ earlier (over text flags budget cs (places from count)) (over text flags budget ds (places from count))
unfolding over
over-append text flags budget cs ds from zero = refl
over-append text flags budget cs ds from (suc count) =
    let a : Option Told = here text flags budget from cs in
    let b : Option Told = here text flags budget from ds in
    let one : Option Told = over text flags budget cs (places (from + 1) count) in
    let other : Option Told = over text flags budget ds (places (from + 1) count) in
    ap (λ o. option_or o (over text flags budget (cs ++ ds) (places (from + 1) count)))
    (here-append text flags budget from cs ds)
    ∙ ap (option_or (option_or a b)) (over-append text flags budget cs ds (from + 1) count)
    ∙ earlier-here from a b one other (here-place text flags budget from cs) (here-place text flags budget from ds)
    (over-from text flags budget cs (from + 1) count) (over-from text flags budget ds (from + 1) count)

found_in-earlier : (b : Bool) (one other : Option Told) →
    found_in (cond b one other) ≡ cond b (found_in one) (found_in other)
found_in-earlier true one other = refl
found_in-earlier false one other = refl

-- Two lists as one: the first finds what is decided earlier or at the same place, and else the second.
pub scan-append : (s : Sight) (cs ds : List Choice) →
    scan s (cs ++ ds) ≡ cond (is_before (first_place s cs) (first_place s ds)) (scan s cs) (scan s ds)
scan-append s cs ds =
    let one : Option Told = over_all s cs in
    let other : Option Told = over_all s ds in
    scan-over s (cs ++ ds)
    ∙ ap found_in (over-append s.text s.flags s.budget cs ds s.place (length s.text + 1 - s.place))
    ∙ found_in-earlier (is_before (place_in one) (place_in other)) one other
    ∙ ap (λ o. cond (is_before o (place_in other)) (found_in one) (found_in other)) (sym (place-over s cs))
    ∙ ap (λ o. cond (is_before (first_place s cs) o) (found_in one) (found_in other)) (sym (place-over s ds))
    ∙ ap (λ f. cond (is_before (first_place s cs) (first_place s ds)) f (found_in other)) (sym (scan-over s cs))
    ∙ ap (λ f. cond (is_before (first_place s cs) (first_place s ds)) (scan s cs) f) (sym (scan-over s ds))

-- ---- a search that begins where it is decided

again_or : (text : List ℕ) (flags : Flags) (budget from count : ℕ) (cs : List Choice) (o : Option Told) (told : Told) →
    IsToldAt from o → here text flags budget from cs ≡ o →
    option_or o (over text flags budget cs (places (from + 1) count)) ≡ Some told →
    (over text flags budget cs (places (from + 1) count) ≡ Some told →
    over text flags budget cs (places told.place (from + 1 + count - told.place)) ≡ Some told) →
    over text flags budget cs (places told.place (from + suc count - told.place)) ≡ Some told
unfolding over
again_or text flags budget from count cs None told at is decided later =
    let e : from + suc count - told.place ≡ from + 1 + count - told.place = omega arith in
    ap (λ n. over text flags budget cs (places told.place n)) e ∙ later decided
again_or text flags budget from count cs (Some t) told at is decided later =
    let same : t ≡ told = cc in
    let place : told.place ≡ from = ap (λ x. x.place) (sym same) ∙ at in
    let e : from + suc count - told.place ≡ suc count = omega arith in
    ap (λ n. over text flags budget cs (places told.place n)) e
    ∙ ap (λ n. over text flags budget cs (places n (suc count))) place
    ∙ ap (λ o. option_or o (over text flags budget cs (places (from + 1) count))) is
    ∙ decided

over-again : (text : List ℕ) (flags : Flags) (budget : ℕ) (cs : List Choice) (from count : ℕ) (told : Told) →
    over text flags budget cs (places from count) ≡ Some told →
    over text flags budget cs (places told.place (from + count - told.place)) ≡ Some told
unfolding over
over-again text flags budget cs from zero told decided = cc
over-again text flags budget cs from (suc count) told decided =
    again_or text flags budget from count cs (here text flags budget from cs) told
    (here-place text flags budget from cs) refl decided
    (λ later. over-again text flags budget cs (from + 1) count told later)

again-by : (s : Sight) (cs : List Choice) (place : ℕ) (o : Option Told) → s.place ≤ length s.text →
    over_all s cs ≡ o → place_in o ≡ Some place →
    over_all (record s { place = place }) cs ≡ o
again-by s cs place None inside is at = absurd (cc)
again-by s cs place (Some told) inside is at =
    let there : told.place ≡ place = cc in
    let e : s.place + (length s.text + 1 - s.place) - told.place ≡ length s.text + 1 - told.place = omega arith in
    ap (λ n. over s.text s.flags s.budget cs (places n (length s.text + 1 - n))) (sym there)
    ∙ ap (λ n. over s.text s.flags s.budget cs (places told.place n)) (sym e)
    ∙ over-again s.text s.flags s.budget cs s.place (length s.text + 1 - s.place) told is

-- A search finds the same from the place on where it is decided.
pub scan-again : (s : Sight) (cs : List Choice) (place : ℕ) → s.place ≤ length s.text →
    first_place s cs ≡ Some place → scan (record s { place = place }) cs ≡ scan s cs
scan-again s cs place inside at =
    scan-over (record s { place = place }) cs
    ∙ ap found_in (again-by s cs place (over_all s cs) inside refl (sym (place-over s cs) ∙ at))
    ∙ sym (scan-over s cs)

-- ---- what two searches tell of one

-- where the first is decided earlier or at the same place, a search of it from there tells
pub first_wins : (s : Sight) (cs ds : List Choice) (place : ℕ) (one other : Option ℕ) (found : Found) →
    s.place ≤ length s.text → one ≡ first_place s cs → other ≡ first_place s ds → one ≡ Some place →
    is_before one other ≡ true → found ≡ scan (record s { place = place }) cs → found ≡ scan s (cs ++ ds)
first_wins s cs ds place one other found inside at too is before told =
    let b : is_before (first_place s cs) (first_place s ds) ≡ true =
    ap (λ o. is_before o (first_place s ds)) (sym at) ∙ ap (is_before one) (sym too) ∙ before in
    told ∙ scan-again s cs place inside (sym at ∙ is)
    ∙ sym (scan-append s cs ds ∙ ap (λ x. cond x (scan s cs) (scan s ds)) b)

pub second_wins : (s : Sight) (cs ds : List Choice) (one other : Option ℕ) (found : Found) →
    one ≡ first_place s cs → other ≡ first_place s ds → is_before one other ≡ false → found ≡ scan s ds →
    found ≡ scan s (cs ++ ds)
second_wins s cs ds one other found at too before told =
    let b : is_before (first_place s cs) (first_place s ds) ≡ false =
    ap (λ o. is_before o (first_place s ds)) (sym at) ∙ ap (is_before one) (sym too) ∙ before in
    told ∙ sym (scan-append s cs ds ∙ ap (λ x. cond x (scan s cs) (scan s ds)) b)
