-- The steps of a body don't run out before its characters do.
use Rattle.std.proofs.Common.{◌≡◌, ℕ, zero, suc, ◌+◌, ◌-◌, ◌<◌, ◌≤◌, List, [], ◌∷◌, length, Bool, true, false, Result}
use Rattle.std.proofs.Common.{Ok, Err, subst, sym, ap, refl, arith}
use Rattle.std.proofs.lemmas.List.{length-drop}
use Rattle.syntax_defs.specs.declared.items.Options.{Options}
use Rattle.syntax_defs.specs.declared.items.Item.{Item}
use Rattle.syntax_defs.specs.declared.items.Item.TheVariants.{One, At, Choice, Group, Repeat, Ahead, Behind, Atomic}
use Rattle.syntax_defs.specs.declared.items.Item.TheVariants.{Back}
use Rattle.syntax_defs.specs.Reading.{Fault}
use Rattle.syntax_defs.specs.Sights.{sight_at}
use Rattle.syntax_defs.specs.PatternSyntax.{Seen, Body, Stepped, BodyReader, rest_of, step_by, step, after_step}
use Rattle.syntax_defs.specs.PatternSyntax.{steps, body_at}
use Rattle.onig_parse.specs.ReadingLaws.{EachStepTakesACharacter, StepsSuffice}
use Rattle.onig_parse.proofs.PlaceLemmas.{Within, bind_same}
use Rattle.onig_parse.proofs.PartPlaces.{Extent, IsPlaced, ArePlaced, ListsPlaced, PlacedSeen, PlacedStep, GoesOn}
use Rattle.onig_parse.proofs.GroupPlaces.{KeepsPlaces}
use Rattle.onig_parse.proofs.SightPlaces.{sight_at-takes}
use Rattle.onig_parse.proofs.StepPlaces.{step_by-placed}
use Rattle.onig_parse.proofs.TextPlaces.{body_at-placed}

-- a text of so many characters, where items may have any places
abbrev pub any_places : ℕ → Extent
any_places end = record { end = end; IsPlace = λ at. Unit {0}; inside = λ at h. tt }

is_placed : (end : ℕ) (item : Item) → IsPlaced (any_places end) item
is_placed end (One at options depth) = tt
is_placed end (At anchor) = tt
is_placed end (Choice ids) = tt
is_placed end (Group number body) = tt
is_placed end (Repeat body least most greedy) = tt
is_placed end (Ahead body wanted) = tt
is_placed end (Behind at arms wanted) = tt
is_placed end (Atomic body) = tt
is_placed end (Back at target fold) = tt

are_placed : (end : ℕ) (items : List Item) → ArePlaced (any_places end) items
are_placed end [] = tt
are_placed end (item ∷ items) = (is_placed end item, are_placed end items)

lists_placed : (end : ℕ) (lists : List (List Item)) → ListsPlaced (any_places end) lists
lists_placed end [] = tt
lists_placed end (items ∷ lists) = (are_placed end items, lists_placed end lists)

-- where a body goes on, fewer characters are left than there may be steps
abbrev pub FewerLeft : (end count : ℕ) → (more : Bool) → Seen → Type 0
FewerLeft end count true s = (length s.text ≡ end) × (length (rest_of s) < count)
FewerLeft end count false s = Unit {0}

fewer : (end count begin : ℕ) (more : Bool) (s : Seen) → PlacedSeen (any_places end) s → GoesOn more begin s.place
    → end < begin + suc count → FewerLeft end count more s
fewer end count begin true s seen on h =
    let whole : length s.text ≡ end = seen.whole in let place : s.place ≤ end =
    seen.place in (whole, omega (arith, length-drop s.place s.text))
fewer end count begin false s seen on h = tt

fewer-map : (end count begin : ℕ) (read : Result Stepped Fault) → end < begin + suc count
    → Within end (PlacedStep (any_places end) begin) read → Within end (λ r. FewerLeft end count r.more r.seen) read
fewer-map end count begin (Ok r) h placed = fewer end count begin r.more r.seen placed.seen placed.on h
fewer-map end count begin (Err fault) h fits = fits

step-fewer : (end : ℕ) (go : BodyReader) (count levels : ℕ) (options : Options) (b : Body) (s : Seen)
    → KeepsPlaces (any_places end) go → length s.text ≡ end → length (rest_of s) < suc count
    → Within end (λ r. FewerLeft end count r.more r.seen) (step go levels options b s)
step-fewer end go count levels options b s keeps whole h =
    by_rest (rest_of s) refl
  where
    by_rest : (cs : List ℕ) → rest_of s ≡ cs
        → Within end (λ r. FewerLeft end count r.more r.seen) (step go levels options b s)
    by_rest [] e = subst (λ cs. Within end (λ r. FewerLeft end count r.more r.seen)
        (step_by go levels options (sight_at options cs) b s)) (sym e) tt
    by_rest (c ∷ cs) e =
        let some : length (rest_of s) ≡ length (c ∷ cs) = ap length e in
        let left : length (rest_of s) ≡ length s.text - s.place = length-drop s.place s.text in
        fewer-map end count s.place (step go levels options b s) (omega arith)
        (step_by-placed (any_places end) go levels options (sight_at options (rest_of s)) b s keeps
        (record { whole = whole; place = omega arith; lists = lists_placed end s.lists })
        (record { done = are_placed end b.done; last = are_placed end b.last })
        (omega arith) (sight_at-takes options (rest_of s)))

steps-same : (end : ℕ) (go : BodyReader) (count more levels : ℕ) (options : Options) (b : Body) (s : Seen)
    → KeepsPlaces (any_places end) go → length s.text ≡ end → length (rest_of s) < count
    → steps go count levels options b s ≡ steps go (count + more) levels options b s
unfolding steps
steps-same end go zero more levels options b s keeps whole h = absurd (omega arith)
steps-same end go (suc count) more levels options b s keeps whole h =
    let next : suc count + more ≡ suc (count + more) = omega arith in
    rw next (bind_same end (λ r. FewerLeft end count r.more r.seen) (step go levels options b s) _ _
    (step-fewer end go count levels options b s keeps whole h)
    λ r left. after r.more r.body r.seen left
    (λ few. steps-same end go count more levels options r.body r.seen keeps few.0 few.1))
  where
    after : (goes : Bool) (b : Body) (s : Seen) → FewerLeft end count goes s
        → ((length s.text ≡ end) × (length (rest_of s) < count) → steps go count levels options b s
        ≡ steps go (count + more) levels options b s) → after_step (steps go count levels options) goes b s
        ≡ after_step (steps go (count + more) levels options) goes b s
    after true b s left same = same left
    after false b s left same = refl

pub each_step_takes_a_character : EachStepTakesACharacter
each_step_takes_a_character levels options b s r e more =
    let few : FewerLeft (length s.text) (length (rest_of s)) r.more r.seen =
    subst (Within (length s.text) (λ r. FewerLeft (length s.text) (length (rest_of s)) r.more r.seen)) e
    (step-fewer (length s.text) (body_at levels) (length (rest_of s)) levels options b s
    (body_at-placed (any_places (length s.text)) levels) refl (omega arith)) in
    (subst (λ goes. FewerLeft (length s.text) (length (rest_of s)) goes r.seen) more few).1

pub steps_suffice : StepsSuffice
steps_suffice levels count more options b s h =
    steps-same (length s.text) (body_at levels) count more levels options b s
    (body_at-placed (any_places (length s.text)) levels) refl h
