-- What a scanner answers, and what is found of it.
use Rattle.std.proofs.Common.{◌≡◌, ℕ, ◌+◌, ◌<◌, List, [], ◌∷◌, length, map, refl, sym, ap, ◌∙◌}
use Rattle.std.specs.Prelude.{Bool, true, false, Option, Some, None, option_map, slice_get, slice_set, find, cond}
use Rattle.std.specs.Prelude.{replicate}
use Rattle.pattern_defs.specs.declared.outcomes.Found.{Found as Answer}
use Rattle.pattern_defs.specs.declared.outcomes.Found.TheVariants as found
use Rattle.pattern_defs.specs.declared.outcomes.Place.{Place}
use Rattle.pattern_defs.specs.Attempt.{Ran, Hit, Miss, Spent, Captures, with_whole, before, go_on}
use Rattle.pattern_defs.specs.Attempt.{last_hit_captures, capture_of}
use Rattle.pattern_defs.specs.FirstMatch.{Pair, tried, is_no_miss, answer_by, found_at, captures_at}
use Rattle.pattern_defs.specs.FirstMatch.{pairs, first_match, captures_after}
use Rattle.line_defs.specs.Search.{Of, Choice, Nothing, OutOfBudget, At, Sight, found_as, found_of, found_by, scan}
use Rattle.line_search.specs.Choices.{first_of, first_place}
use Rattle.line_search.specs.declared.choices.Owned.{Owned}
use Rattle.line_search.specs.Choices.{choice_of_owned, tree_of_owned, HaveOwners}
use Rattle.canonical_patterns.specs.Canonical.{AreCodes, canonical}
use Rattle.canonical_laws.proofs.Searches.{first_match-canonical, captures_after-canonical}
use Rattle.onig_match.specs.Works.{Worked}
use Rattle.pattern_defs.specs.Patterns.{Tree}
use Rattle.std.proofs.Common.{inl, inr, get_or, arith}
use Rattle.std.proofs.lemmas.Option.{slice_get_cases}
use Rattle.line_search.specs.Finds.{owner_of, IsBelow}
use Rattle.line_search.proofs.Rooms.{trees-canonical, choices_low, owned_low, choice_at, owner_at}
use Rattle.line_search.proofs.Scans.{trees_of}

abbrev place_of : Option Pair → Option ℕ
place_of o = option_map (λ pair. pair.place) o

-- ---- a match

-- what a hit tells, with the whole match among its captures
record IsMatchOf (s : Sight) (choices : List Choice) (of : Of) (whole : Place) (hit : Captures) (o : Option Pair) :
    Type 0 where
  found : found_by s choices o ≡ At (record { of = of; from = whole.from; to = whole.to; captures = hit })
  place : place_of o ≡ Some whole.from

by_ran : (s : Sight) (choices : List Choice) (pair : Pair) (ran : Ran) (index : ℕ) (of : Of) (whole : Place)
    (hit last : Captures) → tried s.text s.flags s.budget pair ≡ with_whole pair.place ran →
    found.At index ≡ answer_by pair (with_whole pair.place ran) →
    hit ≡ last_hit_captures (with_whole pair.place ran) last → capture_of hit 0 ≡ Some whole →
    option_map (λ choice. choice.of) (slice_get choices index) ≡ Some of →
    IsMatchOf s choices of whole hit (Some pair)
by_ran s choices pair (Miss left) index of whole hit last ran is captured took owner = absurd (cc)
by_ran s choices pair Spent index of whole hit last ran is captured took owner = absurd (cc)
by_ran s choices pair (Hit to [] left) index of whole hit last ran is captured took owner =
    let none : capture_of hit 0 ≡ None = ap (λ h. capture_of h 0) captured in absurd (cc)
by_ran s choices pair (Hit to (x ∷ xs) left) index of whole hit last ran is captured took owner =
    let same : pair.index ≡ index = cc in
    let taken : capture_of hit 0 ≡ Some (record { from = pair.place; to = to }) = ap (λ h. capture_of h 0) captured in
    let whole_is : whole ≡ record { from = pair.place; to = to } = cc in
    let begins : whole.from ≡ pair.place = ap (λ w. w.from) whole_is in
    let ends : whole.to ≡ to = ap (λ w. w.to) whole_is in
    record {
      found = by_owner (slice_get choices pair.index)
          (ap (λ n. option_map (λ choice. choice.of) (slice_get choices n)) same ∙ owner) begins ends;
      place = ap Some (sym begins);
    }
  where
    by_owner : (o : Option Choice) → option_map (λ choice. choice.of) o ≡ Some of → whole.from ≡ pair.place →
        whole.to ≡ to → found_of s pair o
        ≡ At (record { of = of; from = whole.from; to = whole.to; captures = hit })
    by_owner None is begins ends = absurd (cc)
    by_owner (Some choice) is begins ends =
        let owned : choice.of ≡ of = cc in
        ap (found_as choice.of pair.place) ran
        ∙ ap (λ f. At (record {
          of = choice.of;
          from = f;
          to = to;
          captures = slice_set (x ∷ xs) 0 (Some (record { from = pair.place; to = to }));
        })) (sym begins)
        ∙ ap (λ t. At (record {
          of = choice.of;
          from = whole.from;
          to = t;
          captures = slice_set (x ∷ xs) 0 (Some (record { from = pair.place; to = to }));
        })) (sym ends)
        ∙ ap (λ h. At (record { of = choice.of; from = whole.from; to = whole.to; captures = h })) (sym captured)
        ∙ ap (λ w. At (record { of = w; from = whole.from; to = whole.to; captures = hit })) owned

match_by : (s : Sight) (choices : List Choice) (o : Option Pair) (index : ℕ) (of : Of) (whole : Place)
    (hit last : Captures) → found.At index ≡ found_at s.text s.flags s.budget o →
    hit ≡ captures_at s.text s.flags s.budget o last → capture_of hit 0 ≡ Some whole →
    option_map (λ choice. choice.of) (slice_get choices index) ≡ Some of →
    IsMatchOf s choices of whole hit o
match_by s choices None index of whole hit last is captured took owner = absurd (cc)
match_by s choices (Some pair) index of whole hit last is captured took owner =
    by_ran s choices pair (go_on (record { lists = pair.tree.lists; text = s.text; flags = s.flags }) s.budget
    (before pair.tree.lists pair.tree.top []) pair.place
    (replicate (pair.tree.groups + 1) None) s.budget)
    index of whole hit last refl is captured took owner

-- ---- a spent attempt

record IsSpentOf (s : Sight) (choices : List Choice) (at : ℕ) (o : Option Pair) : Type 0 where
  found : found_by s choices o ≡ OutOfBudget
  place : place_of o ≡ Some at

spent_ran : (s : Sight) (choices : List Choice) (pair : Pair) (ran : Ran) (index at : ℕ) (choice : Choice) →
    tried s.text s.flags s.budget pair ≡ ran → found.Spent index at ≡ answer_by pair ran →
    slice_get choices index ≡ Some choice → IsSpentOf s choices at (Some pair)
spent_ran s choices pair (Hit to captures left) index at choice ran is there = absurd (cc)
spent_ran s choices pair (Miss left) index at choice ran is there = absurd (cc)
spent_ran s choices pair Spent index at choice ran is there =
    let same : pair.index ≡ index = cc in
    let place : pair.place ≡ at = cc in
    record {
      found = ap (λ n. found_of s pair (slice_get choices n)) same ∙ ap (found_of s pair) there
          ∙ ap (found_as choice.of pair.place) ran;
      place = ap Some place;
    }

spent_by : (s : Sight) (choices : List Choice) (o : Option Pair) (index at : ℕ) (choice : Choice) →
    found.Spent index at ≡ found_at s.text s.flags s.budget o → slice_get choices index ≡ Some choice →
    IsSpentOf s choices at o
spent_by s choices None index at choice is there = absurd (cc)
spent_by s choices (Some pair) index at choice is there =
    spent_ran s choices pair (tried s.text s.flags s.budget pair) index at choice refl is there

-- ---- nothing

record IsNothingOf (s : Sight) (choices : List Choice) (o : Option Pair) : Type 0 where
  found : found_by s choices o ≡ Nothing
  place : place_of o ≡ None

nothing_ran : (s : Sight) (choices : List Choice) (pair : Pair) (ran : Ran) → is_no_miss ran ≡ true →
    found.Nowhere ≡ answer_by pair ran → IsNothingOf s choices (Some pair)
nothing_ran s choices pair (Hit to captures left) decides is = absurd (cc)
nothing_ran s choices pair (Miss left) decides is = absurd (cc)
nothing_ran s choices pair Spent decides is = absurd (cc)

nothing_by : (s : Sight) (choices : List Choice) (o : Option Pair) →
    ((pair : Pair) → o ≡ Some pair → is_no_miss (tried s.text s.flags s.budget pair) ≡ true) →
    found.Nowhere ≡ found_at s.text s.flags s.budget o → IsNothingOf s choices o
nothing_by s choices None decides is = record { found = refl; place = refl }
nothing_by s choices (Some pair) decides is =
    nothing_ran s choices pair (tried s.text s.flags s.budget pair) (decides pair refl) is

find-holds : (p : Pair → Bool) (all : List Pair) (pair : Pair) → find p all ≡ Some pair → p pair ≡ true
find-holds p [] pair is = absurd (cc)
find-holds p (x ∷ xs) pair is = by (p x) refl (find-holds p xs pair) is
  where
    by : (b : Bool) → p x ≡ b → (find p xs ≡ Some pair → p pair ≡ true) → cond b (Some x) (find p xs) ≡ Some pair →
        p pair ≡ true
    by true holds later is = let same : x ≡ pair = cc in ap p (sym same) ∙ holds
    by false holds later is = later is

-- ---- of a search

-- what is found and where, by the answer of a search and the captures behind it
abbrev pub Tells : Sight → List Choice → Answer → (hit : Captures) → Type 0
Tells s choices found.Nowhere hit = (scan s choices ≡ Nothing) × (first_place s choices ≡ None)
Tells s choices (found.Spent index at) hit =
    index < length choices → (scan s choices ≡ OutOfBudget) × (first_place s choices ≡ Some at)
Tells s choices (found.At index) hit =
    (of : Of) (whole : Place) → capture_of hit 0 ≡ Some whole →
    option_map (λ choice. choice.of) (slice_get choices index) ≡ Some of →
    (scan s choices ≡ At (record { of = of; from = whole.from; to = whole.to; captures = hit }))
    × (first_place s choices ≡ Some whole.from)

pub tells : (s : Sight) (choices : List Choice) (answer : Answer) (hit last : Captures) →
    answer ≡ first_match (trees_of choices) s.text s.place s.flags s.budget →
    hit ≡ captures_after (trees_of choices) s.text s.place s.flags s.budget last → Tells s choices answer hit
tells s choices found.Nowhere hit last is captured =
    let n : IsNothingOf s choices (first_of s choices) =
    nothing_by s choices (first_of s choices)
    (λ pair found. find-holds (λ pair. is_no_miss (tried s.text s.flags s.budget pair))
    (pairs (trees_of choices) s.text s.place) pair found) is in
    (n.found, n.place)
tells s choices (found.Spent index at) hit last is captured =
    λ low.
    let n : IsSpentOf s choices at (first_of s choices) =
    elim (slice_get_cases choices index).1 [
      | inl there ↦ spent_by s choices (first_of s choices) index at there.0 is there.2
      | inr past ↦ absurd (omega (arith, past.0))
    ] in
    (n.found, n.place)
tells s choices (found.At index) hit last is captured =
    λ of whole took owner.
    let n : IsMatchOf s choices of whole hit (first_of s choices) =
    match_by s choices (first_of s choices) index of whole hit last is captured took owner in
    (n.found, n.place)

-- the same of owned patterns, which are seen in canonical form
pub tells-owned : (s : Sight) (owned : List Owned) (trees : List Tree) (choices : List Choice) (answer : Answer)
    (old new : Worked) → AreCodes s.text → trees ≡ map tree_of_owned owned → map choice_of_owned owned ≡ choices →
    answer ≡ first_match trees s.text s.place s.flags s.budget →
    new ≡ record old { hit = captures_after trees s.text s.place s.flags s.budget old.hit } →
    Tells s choices answer new.hit
tells-owned s owned trees choices answer old new codes are seen is worked =
    let all : trees_of choices ≡ map canonical trees =
    ap trees_of (sym seen) ∙ trees-canonical owned ∙ ap (map canonical) (sym are) in
    tells s choices answer new.hit old.hit
    (is ∙ sym (first_match-canonical trees s.text s.place s.flags s.budget codes)
    ∙ ap (λ ts. first_match ts s.text s.place s.flags s.budget) (sym all))
    (ap (λ w. w.hit) worked ∙ sym (captures_after-canonical trees s.text s.place s.flags s.budget old.hit codes)
    ∙ ap (λ ts. captures_after ts s.text s.place s.flags s.budget old.hit) (sym all))

-- what a match of owned patterns is
pub record IsMatchBy (s : Sight) (choices : List Choice) (one : Owned) (whole : Place) (hit : Captures) : Type 0 where
  pub found :
      At (record { of = owner_of one.of; from = whole.from; to = whole.to; captures = hit }) ≡ scan s choices
  pub place : Some whole.from ≡ first_place s choices
  pub owner : (rules : ℕ) → HaveOwners rules choices → IsBelow rules (owner_of one.of)

pub match-owned : (s : Sight) (owned : List Owned) (trees : List Tree) (choices : List Choice) (index : ℕ)
    (one : Owned) (whole : Place) (old new : Worked) → AreCodes s.text → trees ≡ map tree_of_owned owned →
    map choice_of_owned owned ≡ choices → found.At index ≡ first_match trees s.text s.place s.flags s.budget →
    new ≡ record old { hit = captures_after trees s.text s.place s.flags s.budget old.hit } → index < length trees →
    Some whole ≡ capture_of new.hit 0 → one ≡ get_or owned index one → IsMatchBy s choices one whole new.hit
match-owned s owned trees choices index one whole old new codes are seen is worked low taken here =
    let there : slice_get choices index ≡ Some (choice_of_owned one) =
    choice_at owned choices index one seen (owned_low owned trees index are low) here in
    let told : (scan s choices
    ≡ At (record { of = owner_of one.of; from = whole.from; to = whole.to; captures = new.hit }))
    × (first_place s choices ≡ Some whole.from) =
    tells-owned s owned trees choices (found.At index) old new codes are seen is worked (owner_of one.of) whole
    (sym taken) (ap (option_map (λ choice. choice.of)) there) in
    record {
      found = sym told.0;
      place = sym told.1;
      owner = λ rules owners. owner_at rules choices index (choice_of_owned one)
          (choices_low owned trees choices index are seen low) there owners;
    }
