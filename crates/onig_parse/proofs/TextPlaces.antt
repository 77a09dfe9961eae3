-- A text is read up to its end, and a fault fits it.
use Rattle.std.proofs.Common.{◌≡◌, ℕ, zero, suc, ◌+◌, ◌≤◌, List, [], ◌∷◌, length, Bool, true, false, nat_lt, is_none}
use Rattle.std.proofs.Common.{Option, Some, None, IfSome, subst, sym, ap, refl, arith, inl}
use Rattle.std.specs.List.{list_any}
use Rattle.std.proofs.lemmas.Bool.{cond_both, ltb-true}
use Rattle.std.proofs.lemmas.List.{length-drop}
use Rattle.syntax_defs.specs.declared.items.Options.{Options}
use Rattle.syntax_defs.specs.declared.items.Item.{Item}
use Rattle.syntax_defs.specs.declared.items.Item.TheVariants.{One, At, Choice, Group, Repeat, Ahead, Behind, Atomic}
use Rattle.syntax_defs.specs.declared.items.Item.TheVariants.{Back}
use Rattle.syntax_defs.specs.Limits.{most_pattern_chars}
use Rattle.syntax_defs.specs.Sights.{sight_at}
use Rattle.syntax_defs.specs.PatternSyntax.{Seen, Body, BodyReader, Parsed, rest_of, empty_body, step_by, step}
use Rattle.syntax_defs.specs.PatternSyntax.{after_step, steps, body_at, whole_by, no_options, start, parse}
use Rattle.syntax_defs.specs.Lengths.{length_of, lengths_of, group_of, late_place, earlier, late_in, late_among}
use Rattle.syntax_defs.specs.Lengths.{late_fault, kept_unless, tested, read_within}
use Rattle.onig_parse.specs.ReadingLaws.{EachFaultFitsItsText}
use Rattle.onig_parse.proofs.PlaceLemmas.{Within, Within-bind}
use Rattle.onig_parse.proofs.PartPlaces.{Extent, IsPlaced, ArePlaced, ListsPlaced, PlacedSeen, PlacedBody, PlacedPart}
use Rattle.onig_parse.proofs.PartPlaces.{PlacedStep, GoesOn}
use Rattle.onig_parse.proofs.GroupPlaces.{KeepsPlaces, body_list-placed}
use Rattle.onig_parse.proofs.SightPlaces.{sight_at-takes}
use Rattle.onig_parse.proofs.StepPlaces.{step_by-placed}

-- bodies

step-placed : (t : Extent) (go : BodyReader) (levels : ℕ) (options : Options) (b : Body) (s : Seen) → KeepsPlaces t go
    → PlacedSeen t s → PlacedBody t b → Within t.end (PlacedStep t s.place) (step go levels options b s)
step-placed t go levels options b s keeps seen body =
    by_rest (rest_of s) refl
  where
    by_rest : (cs : List ℕ) → rest_of s ≡ cs → Within t.end (PlacedStep t s.place) (step go levels options b s)
    by_rest [] e =
        subst (λ cs. Within t.end (PlacedStep t s.place) (step_by go levels options (sight_at options cs) b s)) (sym e)
        (record { seen = seen; body = body; on = omega arith })
    by_rest (c ∷ cs) e =
        let some : length (rest_of s) ≡ length (c ∷ cs) = ap length e in
        let whole = seen.whole in
        step_by-placed t go levels options (sight_at options (rest_of s)) b s keeps seen body
        (omega (arith, length-drop s.place s.text)) (sight_at-takes options (rest_of s))

goes_on-from : (more : Bool) (begin next : ℕ) → GoesOn more begin next → begin ≤ next
goes_on-from true begin next on = omega arith
goes_on-from false begin next on = on

steps-placed : (t : Extent) (go : BodyReader) (count levels : ℕ) (options : Options) (begin : ℕ) (b : Body) (s : Seen)
    → KeepsPlaces t go → PlacedPart t begin b s
    → Within t.end (λ r. PlacedPart t begin r.0 r.1) (steps go count levels options b s)
unfolding steps
steps-placed t go zero levels options begin b s keeps part = part.seen.place
steps-placed t go (suc count) levels options begin b s keeps part =
    Within-bind t.end (PlacedStep t s.place) (λ r. PlacedPart t begin r.0 r.1) (step go levels options b s) _
    (step-placed t go levels options b s keeps part.seen part.body) λ r placed.
    let on = goes_on-from r.more s.place r.seen.place placed.on in
    let before = part.on in
    let further : PlacedPart t begin r.body r.seen =
    record { seen = placed.seen; body = placed.body; on = omega arith } in
    ends r.more r.body r.seen (steps-placed t go count levels options begin r.body r.seen keeps further) further
  where
    ends : (more : Bool) (b : Body) (s : Seen)
        → Within t.end (λ r. PlacedPart t begin r.0 r.1) (steps go count levels options b s) → PlacedPart t begin b s
        → Within t.end (λ r. PlacedPart t begin r.0 r.1) (after_step (steps go count levels options) more b s)
    ends true b s further part = further
    ends false b s further part = part

pub body_at-placed : (t : Extent) (levels : ℕ) → KeepsPlaces t (body_at levels)
unfolding body_at
body_at-placed t zero options s seen = inl refl
body_at-placed t (suc levels) options s seen =
    steps-placed t (body_at levels) (length s.text + 1) levels options s.place empty_body s (body_at-placed t levels)
    (record { seen = seen; body = record { done = tt; last = tt }; on = omega arith })

-- the whole

abbrev pub places_in : ℕ → Extent
places_in end = record { end = end; IsPlace = λ at. at ≤ end; inside = λ at h. h }

whole_by-placed : (t : Extent) (begin : ℕ) (rest : List ℕ) (b : Body) (s : Seen) → PlacedPart t begin b s
    → Within t.end (λ parsed. ListsPlaced t parsed.lists) (whole_by rest b s)
whole_by-placed t begin [] b s part =
    let list = body_list-placed t begin b s (record { seen = part.seen; on = part.on }) part.body in list.seen.lists
whole_by-placed t begin (c ∷ cs) b s part = part.seen.place

parse-placed : (text : List ℕ) → Within (length text) (λ parsed. ListsPlaced (places_in (length text)) parsed.lists)
    (parse text)
parse-placed text =
    Within-bind (length text) (λ r. PlacedPart (places_in (length text)) 0 r.0 r.1)
    (λ parsed. ListsPlaced (places_in (length text)) parsed.lists) (body_at 101 no_options (start text)) _
    (body_at-placed (places_in (length text)) 101 no_options (start text)
    (record { whole = refl; place = omega arith; lists = tt })) λ r part.
    whole_by-placed (places_in (length text)) 0 (rest_of r.1) r.0 r.1 part

-- faults that the whole text shows

abbrev pub UpTo : ℕ → Option ℕ → Type 0
UpTo end place = IfSome place (λ at. at ≤ end)

late_place-within : (end : ℕ) (text : List ℕ) (parsed : Parsed) (lengths : List (Option ℕ)) (item : Item)
    → IsPlaced (places_in end) item → UpTo end (late_place text parsed lengths item)
late_place-within end text parsed lengths (One at options depth) placed = tt
late_place-within end text parsed lengths (At anchor) placed = tt
late_place-within end text parsed lengths (Choice ids) placed = tt
late_place-within end text parsed lengths (Group number body) placed = tt
late_place-within end text parsed lengths (Repeat body least most greedy) placed = tt
late_place-within end text parsed lengths (Ahead body wanted) placed = tt
late_place-within end text parsed lengths (Behind at arms wanted) placed =
    cond_both (list_any (λ id. is_none (length_of lengths id)) arms) _ _ (UpTo end) (λ _. placed) (λ _. tt)
late_place-within end text parsed lengths (Atomic body) placed = tt
late_place-within end text parsed lengths (Back at target fold) placed =
    cond_both (is_none (group_of text parsed target)) _ _ (UpTo end) (λ _. placed) (λ _. tt)

earlier-within : (end : ℕ) (a b : Option ℕ) → UpTo end a → UpTo end b → UpTo end (earlier a b)
earlier-within end None b first second = second
earlier-within end (Some m) None first second = first
earlier-within end (Some m) (Some n) first second = omega arith

late_in-within : (end : ℕ) (text : List ℕ) (parsed : Parsed) (lengths : List (Option ℕ)) (found : Option ℕ)
    (items : List Item) → UpTo end found → ArePlaced (places_in end) items
    → UpTo end (late_in text parsed lengths found items)
late_in-within end text parsed lengths found [] within placed = within
late_in-within end text parsed lengths found (item ∷ items) within placed =
    late_in-within end text parsed lengths (earlier found (late_place text parsed lengths item)) items
    (earlier-within end found (late_place text parsed lengths item) within
    (late_place-within end text parsed lengths item placed.0)) placed.1

late_among-within : (end : ℕ) (text : List ℕ) (parsed : Parsed) (lengths : List (Option ℕ)) (found : Option ℕ)
    (lists : List (List Item)) → UpTo end found → ListsPlaced (places_in end) lists
    → UpTo end (late_among text parsed lengths found lists)
late_among-within end text parsed lengths found [] within placed = within
late_among-within end text parsed lengths found (items ∷ lists) within placed =
    late_among-within end text parsed lengths (late_in text parsed lengths found items) lists
    (late_in-within end text parsed lengths found items within placed.0) placed.1

kept_unless-within : (end : ℕ) (place : Option ℕ) (parsed : Parsed) → UpTo end place
    → Within end (λ _. Unit {0}) (kept_unless place parsed)
kept_unless-within end None parsed within = tt
kept_unless-within end (Some place) parsed within = within

tested-within : (end : ℕ) (text : List ℕ) (parsed : Parsed) → ListsPlaced (places_in end) parsed.lists
    → Within end (λ _. Unit {0}) (tested text parsed)
tested-within end text parsed placed =
    kept_unless-within end (late_fault text parsed) parsed
    (late_among-within end text parsed (lengths_of parsed.lists) None parsed.lists tt placed)

read_within-fits : (long : Bool) (text : List ℕ) → nat_lt most_pattern_chars (length text) ≡ long
    → Within (length text) (λ _. Unit {0}) (read_within long text)
read_within-fits true text e = (refl, ltb-true most_pattern_chars (length text) e)
read_within-fits false text e =
    Within-bind (length text) (λ parsed. ListsPlaced (places_in (length text)) parsed.lists) (λ _. Unit {0})
    (parse text) (tested text) (parse-placed text) λ parsed placed.
    tested-within (length text) text parsed placed

pub each_fault_fits_its_text : EachFaultFitsItsText
each_fault_fits_its_text text fault e =
    subst (λ read. Within (length text) (λ _. Unit {0}) read) e
    (read_within-fits (nat_lt most_pattern_chars (length text)) text refl)
