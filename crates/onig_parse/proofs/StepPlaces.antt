-- Each step of the body of a form takes a character, or ends the body, and its fault fits the text.
use Rattle.std.proofs.Common.{ℕ, ◌+◌, ◌-◌, ◌<◌, ◌==◌, List, [], ◌∷◌, length, drop, Bool, true, false, ◌||◌, nat_lt}
use Rattle.std.proofs.Common.{nat_le, Option, Some, None, Result, IfSome, subst, sym, refl, arith, inr}
use Rattle.std.proofs.lemmas.Bool.{cond_both}
use Rattle.std.proofs.lemmas.List.{length-drop}
use Rattle.pattern_defs.specs.declared.nodes.ListId.{ListId}
use Rattle.syntax_defs.specs.declared.items.Options.{Options}
use Rattle.syntax_defs.specs.declared.items.Item.{Item}
use Rattle.syntax_defs.specs.declared.items.Item.TheVariants as items
use Rattle.syntax_defs.specs.declared.items.Bounds.{Bounds}
use Rattle.syntax_defs.specs.declared.items.Sight.{Sight}
use Rattle.syntax_defs.specs.declared.items.Sight.TheVariants.{End, Bar, Close, Blank, Remark, Comment, Repeat, Open}
use Rattle.syntax_defs.specs.declared.items.Sight.TheVariants.{Edge, Number, Reference, Single}
use Rattle.syntax_defs.specs.Limits.{most_levels, most_repeats, most_count}
use Rattle.syntax_defs.specs.Reading.{Fault}
use Rattle.syntax_defs.specs.Heads.{word_at, is_name_or_number}
use Rattle.syntax_defs.specs.Escapes.{escape_at}
use Rattle.syntax_defs.specs.Singles.{Start, Dot, Slash, Bracket, Itself, start_of, single_by, single_at}
use Rattle.syntax_defs.specs.PatternSyntax.{Seen, Body, BodyReader, rest_of, at_place, past, with_list, next_id}
use Rattle.syntax_defs.specs.PatternSyntax.{open_items, add, adds, go_on, is_above, is_below, is_lazy, is_possessive}
use Rattle.syntax_defs.specs.PatternSyntax.{plain_repeat, atomic_of, signed, repeat_at, behind_comment}
use Rattle.syntax_defs.specs.PatternSyntax.{comment_length, quoted_item, reference_item, group_at, single_item}
use Rattle.syntax_defs.specs.PatternSyntax.{step_by}
use Rattle.onig_parse.proofs.PlaceLemmas.{Within, Within-bind, Onward, ReadsOn}
use Rattle.onig_parse.proofs.EscapePlaces.{behind_backslash-on}
use Rattle.onig_parse.proofs.ClassPlaces.{class_within-on}
use Rattle.onig_parse.proofs.PartPlaces.{Extent, ArePlaced, PlacedSeen, PlacedBody, SeenFrom, PlacedItems, PlacedStep}
use Rattle.onig_parse.proofs.PartPlaces.{at_place-from, with_list-placed, open_items-placed, with_item-placed}
use Rattle.onig_parse.proofs.GroupPlaces.{KeepsPlaces, EndsFrom, word_at-on, group_at-placed}
use Rattle.onig_parse.proofs.SightPlaces.{Takes, comment_length-more}

-- the body goes on behind a place, with last items of its own
go_on-placed : (t : Extent) (begin : ℕ) (b : Body) (s : Seen) → SeenFrom t (begin + 1) s → PlacedBody t b
    → Within t.end (PlacedStep t begin) (go_on b s)
go_on-placed t begin b s behind body = record
    { seen = behind.seen; body = body; on = let more = behind.on in omega arith }

add-placed : (t : Extent) (begin : ℕ) (b : Body) (items : List Item) (s : Seen) → PlacedBody t b
    → PlacedItems t (begin + 1) items s → Within t.end (PlacedStep t begin) (add b (items, s))
add-placed t begin b items s body are =
    record { seen = are.seen; body = with_item-placed t items b body are.placed; on = let more = are.on in omega arith }

adds-placed : (t : Extent) (begin : ℕ) (b : Body) (read : Result (List Item × Seen) Fault) → PlacedBody t b
    → Within t.end (λ r. PlacedItems t (begin + 1) r.0 r.1) read → Within t.end (PlacedStep t begin) (adds b read)
adds-placed t begin b read body are =
    Within-bind t.end (λ r. PlacedItems t (begin + 1) r.0 r.1) (PlacedStep t begin) read (add b)
    are λ r are. add-placed t begin b r.0 r.1 body are

-- one item, and a place behind it
one_from : (t : Extent) (place : ℕ) (item : Item) (s : Seen) → PlacedSeen t s → ArePlaced t (item ∷ [])
    → s.place < t.end → s.place < place → PlacedItems t (s.place + 1) (item ∷ []) (at_place place s)
one_from t place item s seen are h on =
    let behind = at_place-from t s.place place s seen h on in
    record { seen = behind.seen; placed = are; on = behind.on }

-- repeats

last-placed : (t : Extent) (last : List Item) (repeats : Option ℕ) (b : Body) → PlacedBody t b → ArePlaced t last
    → PlacedBody t (record b { last = last; repeats = repeats })
last-placed t last repeats b body are = record { done = body.done; last = are }

plain_repeat-placed : (t : Extent) (bounds : Bounds) (greedy : Bool) (more count : ℕ) (b : Body) (s : Seen)
    → PlacedSeen t s → PlacedBody t b → s.place < t.end → 0 < bounds.length
    → Within t.end (PlacedStep t s.place) (plain_repeat bounds greedy more count b s)
plain_repeat-placed t bounds greedy more count b s seen body h takes =
    go_on-placed t s.place _ _ (at_place-from t s.place (s.place + (bounds.length + more)) (with_list b.last s)
    (with_list-placed t b.last s seen body.last) h (omega arith))
    (last-placed t _ _ b body (tt, tt))

atomic_of-placed : (t : Extent) (bounds : Bounds) (id : ListId) (count : ℕ) (b : Body) (s : Seen) → PlacedSeen t s
    → PlacedBody t b → s.place < t.end → Within t.end (PlacedStep t s.place) (atomic_of bounds id count b s)
atomic_of-placed t bounds id count b s seen body h =
    let list : List Item = items.Repeat id bounds.least bounds.most true ∷ [] in
    go_on-placed t s.place _ _ (at_place-from t s.place (s.place + (bounds.length + 1)) (with_list list s)
    (with_list-placed t list s seen (tt, tt)) h (omega arith))
    (last-placed t _ _ b body (tt, tt))

signed-placed : (t : Extent) (lazy possessive : Bool) (bounds : Bounds) (count : ℕ) (b : Body) (s : Seen)
    → PlacedSeen t s → PlacedBody t b → s.place < t.end → 0 < bounds.length
    → Within t.end (PlacedStep t s.place) (signed lazy possessive bounds count b s)
signed-placed t false false bounds count b s seen body h takes =
    plain_repeat-placed t bounds true 0 count b s seen body h takes
signed-placed t true possessive bounds count b s seen body h takes =
    plain_repeat-placed t bounds false 1 count b s seen body h takes
signed-placed t false true bounds count b s seen body h takes =
    atomic_of-placed t bounds (next_id s) count b (with_list b.last s) (with_list-placed t b.last s seen body.last)
    body h

repeat_at-placed : (t : Extent) (bounds : Bounds) (repeats : Option ℕ) (b : Body) (s : Seen) → PlacedSeen t s
    → PlacedBody t b → s.place < t.end → 0 < bounds.length
    → Within t.end (PlacedStep t s.place) (repeat_at bounds repeats b s)
repeat_at-placed t bounds None b s seen body h takes = omega arith
repeat_at-placed t bounds (Some count) b s seen body h takes =
    cond_both (nat_lt most_count bounds.least || is_above most_count bounds.most) _ _
    (Within t.end (PlacedStep t s.place)) (λ _. omega arith) λ _.
    cond_both (nat_le most_repeats count) _ _ (Within t.end (PlacedStep t s.place)) (λ _. inr refl) λ _.
    cond_both (is_below bounds.most bounds.least) _ _ (Within t.end (PlacedStep t s.place)) (λ _. omega arith) λ _.
    signed-placed t (is_lazy bounds.form (drop bounds.length (rest_of s)))
    (is_possessive bounds.form (drop bounds.length (rest_of s))) bounds count b s seen body h takes

-- comments and back references

behind_comment-placed : (t : Extent) (count : Option ℕ) (b : Body) (s : Seen) → PlacedSeen t s → PlacedBody t b
    → s.place < t.end → IfSome count (λ n. 3 < n) → Within t.end (PlacedStep t s.place) (behind_comment count b s)
behind_comment-placed t None b s seen body h more = let whole = seen.whole in omega arith
behind_comment-placed t (Some count) b s seen body h more =
    go_on-placed t s.place b (past count s) (at_place-from t s.place (s.place + count) s seen h (omega arith)) body

quoted_item-placed : (t : Extent) (close : ℕ) (options : Options) (s : Seen) → PlacedSeen t s → s.place < t.end
    → Within t.end (λ r. PlacedItems t (s.place + 1) r.0 r.1) (quoted_item close options s)
quoted_item-placed t close options s seen h =
    Within-bind t.end (EndsFrom (s.place + 3)) (λ r. PlacedItems t (s.place + 1) r.0 r.1)
    (word_at is_name_or_number close s.place (length s.text) (s.place + 3) (drop 3 (rest_of s))) _
    (subst (λ n. Within t.end (EndsFrom (s.place + 3))
    (word_at is_name_or_number close s.place n (s.place + 3) (drop 3 (rest_of s)))) (sym seen.whole)
    (word_at-on is_name_or_number close s.place t.end (s.place + 3) (drop 3 (rest_of s)) (omega arith))) λ span ends.
    one_from t (span.to + 1) _ s seen (t.inside s.place (omega arith), tt) h (omega arith)

reference_item-placed : (t : Extent) (options : Options) (cs : List ℕ) (s : Seen) → PlacedSeen t s → s.place < t.end
    → Within t.end (λ r. PlacedItems t (s.place + 1) r.0 r.1) (reference_item options cs s)
reference_item-placed t options [] s seen h = omega arith
reference_item-placed t options (c ∷ cs) s seen h =
    cond_both (c == 60) _ _ (Within t.end (λ r. PlacedItems t (s.place + 1) r.0 r.1))
    (λ _. quoted_item-placed t 62 options s seen h) λ _.
    cond_both (c == 39) _ _ (Within t.end (λ r. PlacedItems t (s.place + 1) r.0 r.1))
    (λ _. quoted_item-placed t 39 options s seen h) (λ _. omega arith)

-- single characters and sets

single_by-on : (begin : Start) (options : Options) (depth place c : ℕ) (cs : List ℕ)
    → ReadsOn place (place + length (c ∷ cs)) (single_by begin options depth place c cs)
single_by-on Dot options depth place c cs = record { on = omega arith; left = omega arith }
single_by-on Slash options depth place c cs =
    Within-bind (place + length (c ∷ cs)) (Onward place (place + length (c ∷ cs)))
    (Onward place (place + length (c ∷ cs))) (escape_at place (c ∷ cs)) _
    (behind_backslash-on place (place + length (c ∷ cs)) cs (omega arith)) λ x onward.
    record { on = onward.on; left = onward.left }
single_by-on Bracket options depth place c cs =
    class_within-on (most_levels - depth) options.any_case place (c ∷ cs) (omega arith)
single_by-on Itself options depth place c cs = record { on = omega arith; left = omega arith }

single_at-on : (options : Options) (depth place : ℕ) (cs : List ℕ)
    → ReadsOn place (place + length cs) (single_at options depth place cs)
single_at-on options depth place [] = omega arith
single_at-on options depth place (c ∷ cs) = single_by-on (start_of c) options depth place c cs

single_item-placed : (t : Extent) (options : Options) (depth : ℕ) (s : Seen) → PlacedSeen t s → s.place < t.end
    → Within t.end (λ r. PlacedItems t (s.place + 1) r.0 r.1) (single_item options depth s)
single_item-placed t options depth s seen h =
    Within-bind t.end (Onward s.place t.end) (λ r. PlacedItems t (s.place + 1) r.0 r.1)
    (single_at options depth s.place (rest_of s)) _
    (subst (λ n. ReadsOn s.place n (single_at options depth s.place (rest_of s)))
    (let whole = seen.whole in omega (arith, length-drop s.place s.text))
    (single_at-on options depth s.place (rest_of s))) λ read onward.
    one_from t read.place (items.One s.place options depth) s seen (t.inside s.place (omega arith), tt) h onward.on

-- one step

pub step_by-placed : (t : Extent) (go : BodyReader) (levels : ℕ) (options : Options) (sight : Sight) (b : Body)
    (s : Seen) → KeepsPlaces t go → PlacedSeen t s → PlacedBody t b → s.place < t.end → Takes (rest_of s) sight
    → Within t.end (PlacedStep t s.place) (step_by go levels options sight b s)
step_by-placed t go levels options End b s keeps seen body h takes =
    record { seen = seen; body = body; on = omega arith }
step_by-placed t go levels options Close b s keeps seen body h takes =
    record { seen = seen; body = body; on = omega arith }
step_by-placed t go levels options Bar b s keeps seen body h takes =
    go_on-placed t s.place _ _ (at_place-from t s.place (s.place + 1) (with_list (open_items b) s)
    (with_list-placed t (open_items b) s seen (open_items-placed t b body)) h (omega arith))
    (record { done = tt; last = tt })
step_by-placed t go levels options Blank b s keeps seen body h takes =
    go_on-placed t s.place b _ (at_place-from t s.place (s.place + 1) s seen h (omega arith)) body
step_by-placed t go levels options Remark b s keeps seen body h takes =
    go_on-placed t s.place b _ (at_place-from t s.place _ s seen h (omega arith)) body
step_by-placed t go levels options Comment b s keeps seen body h takes =
    behind_comment-placed t (comment_length false 3 (drop 3 (rest_of s))) b s seen body h
    (comment_length-more false 3 (drop 3 (rest_of s)))
step_by-placed t go levels options (Repeat bounds) b s keeps seen body h takes =
    repeat_at-placed t bounds b.repeats b s seen body h takes
step_by-placed t go levels options Open b s keeps seen body h takes =
    adds-placed t s.place b (group_at go options s) body (group_at-placed t go options s keeps seen h)
step_by-placed t go levels options (Edge anchor size) b s keeps seen body h takes =
    add-placed t s.place b _ _ body (one_from t (s.place + size) (items.At anchor) s seen (tt, tt) h (omega arith))
step_by-placed t go levels options Number b s keeps seen body h takes =
    add-placed t s.place b _ _ body (one_from t _ _ s seen (t.inside s.place (omega arith), tt) h (omega arith))
step_by-placed t go levels options Reference b s keeps seen body h takes =
    adds-placed t s.place b (reference_item options (drop 2 (rest_of s)) s) body
    (reference_item-placed t options (drop 2 (rest_of s)) s seen h)
step_by-placed t go levels options Single b s keeps seen body h takes =
    adds-placed t s.place b (single_item options (most_levels - levels) s) body
    (single_item-placed t options (most_levels - levels) s seen h)
