-- A class ends further on than it begins, its fault fits the text, and its members don't run out of steps.
use Rattle.std.proofs.Common.{◌≡◌, ℕ, zero, suc, ◌+◌, ◌<◌, ◌≤◌, ◌==◌, List, [], ◌∷◌, length, drop, Bool, true, false}
use Rattle.std.proofs.Common.{◌&&◌, not, is_none, Result, Ok, Err, refl, subst, arith, inl}
use Rattle.std.proofs.lemmas.Bool.{cond_both, and_parts, false≢true}
use Rattle.std.proofs.lemmas.List.{length-drop}
use Rattle.syntax_defs.specs.declared.class_part.ClassPart.{ClassPart}
use Rattle.syntax_defs.specs.declared.class_part.ClassPart.TheVariants.{End, Close, And, Class, Member}
use Rattle.syntax_defs.specs.Reading.{Fault, Read}
use Rattle.syntax_defs.specs.Sights.{begins_with}
use Rattle.syntax_defs.specs.Classes.{SetReader, Sides, no_members, with_member, next_side, bracket_at, member_at}
use Rattle.syntax_defs.specs.Classes.{part_at, by_part, members_at, class_body_at, class_within}
use Rattle.onig_parse.specs.ReadingLaws.{EachMemberTakesACharacter, EachClassTakesACharacter, MembersSuffice}
use Rattle.onig_parse.proofs.PlaceLemmas.{Within-bind, bind_same, Onward, ReadsOn}
use Rattle.onig_parse.proofs.MemberPlaces.{member_at-on}

-- a set is read from its first character on
abbrev pub TakesCharacters : SetReader → Type 0
TakesCharacters go = (begin : ℕ) (rest : List ℕ) → 0 < length rest → ReadsOn begin (begin + length rest) (go begin rest)

begins_with-one : (c : ℕ) (rest : List ℕ) → begins_with c rest ≡ true → 0 < length rest
begins_with-one c [] e = absurd (false≢true e)
begins_with-one c (d ∷ rest) e = omega arith

-- so many characters at least stand where a part of a class does
abbrev pub part_length : ClassPart → ℕ
part_length End = 0
part_length Close = 1
part_length And = 2
part_length Class = 1
part_length Member = 0

part_at-inside : (first : Bool) (rest : List ℕ) → part_length (part_at first rest) ≤ length rest
unfolding part_at
part_at-inside first [] = omega arith
part_at-inside first (c ∷ rest) =
    cond_both (c == 93 && not first) _ _ (λ part. part_length part ≤ length (c ∷ rest)) (λ _. omega arith) λ _.
    cond_both (c == 38 && begins_with 38 rest) _ _ (λ part. part_length part ≤ length (c ∷ rest))
    (λ e. let one = begins_with-one 38 rest (and_parts (c == 38) _ e).1 in omega arith) λ _.
    cond_both (c == 91 && is_none (bracket_at rest)) _ _ (λ part. part_length part ≤ length (c ∷ rest))
    (λ _. omega arith) (λ _. omega arith)

-- what is read on from behind a place is read on from before it
from_further : {X : Type 0} (begin next end : ℕ) (read : Result (Read X) Fault) → begin ≤ next → ReadsOn next end read
    → ReadsOn begin end read
from_further begin next end (Ok read) h onward = record { on = let more = onward.on in omega arith; left = onward.left }
from_further begin next end (Err fault) h fits = fits

-- what stands behind a member
abbrev pub ReadsMembers : (Sides → SetReader) → Type 0
ReadsMembers go = (sides : Sides) (begin : ℕ) (rest : List ℕ)
    → ReadsOn begin (begin + length rest) (go sides begin rest)

at_rest : (go : Sides → SetReader) (sides : Sides) (begin next end : ℕ) (rest : List ℕ) → ReadsMembers go
    → begin ≤ next → next + length rest ≡ end → ReadsOn begin end (go sides next rest)
at_rest go sides begin next end rest reads h left =
    from_further begin next end (go sides next rest) h
    (subst (λ n. ReadsOn next n (go sides next rest)) left (reads sides next rest))

by_part-on : (go : Sides → SetReader) (nested : SetReader) (fold : Bool) (sides : Sides) (begin : ℕ) (rest : List ℕ)
    (part : ClassPart) → ReadsMembers go → TakesCharacters nested → part_length part ≤ length rest
    → ReadsOn begin (begin + length rest) (by_part go nested fold sides begin rest part)
by_part-on go nested fold sides begin rest End reads takes inside = omega arith
by_part-on go nested fold sides begin rest Close reads takes inside =
    record { on = omega arith; left = omega (arith, length-drop 1 rest) }
by_part-on go nested fold sides begin rest And reads takes inside =
    at_rest go (next_side sides) begin (begin + 2) (begin + length rest) (drop 2 rest) reads (omega arith)
    (omega (arith, length-drop 2 rest))
by_part-on go nested fold sides begin rest Class reads takes inside =
    Within-bind (begin + length rest) (Onward begin (begin + length rest)) (Onward begin (begin + length rest))
    (nested begin rest) _ (takes begin rest inside) λ x onward.
    at_rest go (with_member sides x.value) begin x.place (begin + length rest) x.rest reads
    (let more = onward.on in omega arith) onward.left
by_part-on go nested fold sides begin rest Member reads takes inside =
    Within-bind (begin + length rest) (Onward begin (begin + length rest)) (Onward begin (begin + length rest))
    (member_at fold begin rest) _ (member_at-on begin (begin + length rest) fold rest refl) λ x onward.
    at_rest go (with_member sides x.value) begin x.place (begin + length rest) x.rest reads
    (let more = onward.on in omega arith) onward.left

members_at-on : (nested : SetReader) (fold first : Bool) (most : ℕ) → TakesCharacters nested
    → ReadsMembers (members_at nested fold first most)
unfolding members_at
members_at-on nested fold first zero takes sides begin rest = omega arith
members_at-on nested fold first (suc most) takes sides begin rest =
    by_part-on (members_at nested fold false most) nested fold sides begin rest (part_at first rest)
    (members_at-on nested fold false most takes) takes (part_at-inside first rest)

members_behind : (nested : SetReader) (fold : Bool) (opened begin : ℕ) (rest : List ℕ) → TakesCharacters nested
    → opened ≤ length rest → ReadsOn begin (begin + length rest)
    (members_at nested fold true (length rest) no_members (begin + opened) (drop opened rest))
members_behind nested fold opened begin rest takes h =
    at_rest (members_at nested fold true (length rest)) no_members begin (begin + opened) (begin + length rest)
    (drop opened rest)
    (members_at-on nested fold true (length rest) takes) (omega arith) (omega (arith, length-drop opened rest))

class_body_at-on : (nested : SetReader) (fold negated : Bool) (begin : ℕ) (rest : List ℕ) → TakesCharacters nested
    → 0 < length rest → (negated ≡ true → 2 ≤ length rest)
    → ReadsOn begin (begin + length rest) (class_body_at nested fold negated begin rest)
class_body_at-on nested fold true begin rest takes h two =
    Within-bind (begin + length rest) (Onward begin (begin + length rest)) (Onward begin (begin + length rest)) _ _
    (members_behind nested fold 2 begin rest takes (two refl)) λ x onward.
    record { on = onward.on; left = onward.left }
class_body_at-on nested fold false begin rest takes h two =
    Within-bind (begin + length rest) (Onward begin (begin + length rest)) (Onward begin (begin + length rest)) _ _
    (members_behind nested fold 1 begin rest takes h) λ x onward.
    record { on = onward.on; left = onward.left }

pub class_within-on : (levels : ℕ) (fold : Bool) → TakesCharacters (class_within levels fold)
unfolding class_within
class_within-on zero fold begin rest h = inl refl
class_within-on (suc levels) fold begin rest h =
    class_body_at-on (class_within levels fold) fold (begins_with 94 (drop 1 rest)) begin rest
    (class_within-on levels fold) h
    (λ e. let one = begins_with-one 94 (drop 1 rest) e in omega (arith, length-drop 1 rest))

-- members don't run out of steps

-- two readings of what stands behind are one where fewer characters are left
abbrev pub SameBelow : ℕ → (go go' : Sides → SetReader) → Type 0
SameBelow count go go' = (sides : Sides) (place : ℕ) (rest : List ℕ) → length rest < count → go sides place rest
    ≡ go' sides place rest

by_part-same : (go go' : Sides → SetReader) (nested : SetReader) (fold : Bool) (sides : Sides) (begin : ℕ)
    (rest : List ℕ) (part : ClassPart) → SameBelow (length rest) go go' → TakesCharacters nested
    → part_length part ≤ length rest → by_part go nested fold sides begin rest part
    ≡ by_part go' nested fold sides begin rest part
by_part-same go go' nested fold sides begin rest End same takes inside = refl
by_part-same go go' nested fold sides begin rest Close same takes inside = refl
by_part-same go go' nested fold sides begin rest And same takes inside =
    same (next_side sides) (begin + 2) (drop 2 rest) (omega (arith, length-drop 2 rest))
by_part-same go go' nested fold sides begin rest Class same takes inside =
    bind_same (begin + length rest) (Onward begin (begin + length rest)) (nested begin rest) _ _
    (takes begin rest inside) λ x onward.
    same (with_member sides x.value) x.place x.rest (let more = onward.on in let left = onward.left in omega arith)
by_part-same go go' nested fold sides begin rest Member same takes inside =
    bind_same (begin + length rest) (Onward begin (begin + length rest)) (member_at fold begin rest) _ _
    (member_at-on begin (begin + length rest) fold rest refl) λ x onward.
    same (with_member sides x.value) x.place x.rest (let more = onward.on in let left = onward.left in omega arith)

members_at-same : (nested : SetReader) (fold first : Bool) (most more : ℕ) (sides : Sides) (begin : ℕ) (rest : List ℕ)
    → TakesCharacters nested → length rest < most → members_at nested fold first most sides begin rest
    ≡ members_at nested fold first (most + more) sides begin rest
unfolding members_at
members_at-same nested fold first zero more sides begin rest takes h = absurd (omega arith)
members_at-same nested fold first (suc most) more sides begin rest takes h =
    let next : suc most + more ≡ suc (most + more) = omega arith in
    rw next (by_part-same (members_at nested fold false most) (members_at nested fold false (most + more)) nested fold
    sides begin rest (part_at first rest)
    (λ sides place left less. members_at-same nested fold false most more sides place left takes (omega arith)) takes
    (part_at-inside first rest))

pub each_member_takes_a_character : EachMemberTakesACharacter
each_member_takes_a_character fold place rest x e =
    let onward : Onward place (place + length rest) x =
    subst (ReadsOn place (place + length rest)) e (member_at-on place (place + length rest) fold rest refl) in
    (let on = onward.on in let left = onward.left in omega arith)

pub each_class_takes_a_character : EachClassTakesACharacter
each_class_takes_a_character levels fold place rest x some e =
    let onward : Onward place (place + length rest) x =
    subst (ReadsOn place (place + length rest)) e (class_within-on levels fold place rest some) in
    (let on = onward.on in let left = onward.left in omega arith)

pub members_suffice : MembersSuffice
members_suffice levels most more fold first sides place rest h =
    members_at-same (class_within levels fold) fold first most more sides place rest (class_within-on levels fold) h
