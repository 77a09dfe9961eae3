-- A form in parentheses ends further on than it begins, and its fault fits the text.
use Rattle.std.proofs.Common.{ℕ, ◌+◌, ◌<◌, ◌≤◌, ◌==◌, List, [], ◌∷◌, length, drop, Bool, true, ◌&&◌, not, Some, None}
use Rattle.std.proofs.Common.{subst, sym, arith}
use Rattle.std.specs.List.{list_any}
use Rattle.std.proofs.lemmas.Bool.{cond_both}
use Rattle.pattern_defs.specs.declared.nodes.ListId.{ListId}
use Rattle.syntax_defs.specs.declared.items.Options.{Options}
use Rattle.syntax_defs.specs.declared.items.Span.{Span}
use Rattle.syntax_defs.specs.declared.items.Head.{Head}
use Rattle.syntax_defs.specs.declared.items.Head.TheVariants.{Numbered, Plain, Rest, Ahead, Behind, Atomic}
use Rattle.syntax_defs.specs.Sights.{begins_with, is_empty}
use Rattle.syntax_defs.specs.Heads.{word, behind_word, closed_word, word_at, is_name, letters, behind_letters}
use Rattle.syntax_defs.specs.Heads.{letter_count, with_options, option_end, letter_head, named_head, angle_head}
use Rattle.syntax_defs.specs.Heads.{question_head, head_at, inside}
use Rattle.syntax_defs.specs.PatternSyntax.{Seen, Body, BodyReader, at_place, rest_of, open_items, items_of}
use Rattle.syntax_defs.specs.PatternSyntax.{body_items, body_list, is_named, opened, closed_by, closed, made}
use Rattle.syntax_defs.specs.PatternSyntax.{group_at}
use Rattle.onig_parse.proofs.PlaceLemmas.{Within, Within-bind}
use Rattle.onig_parse.proofs.PartPlaces.{Extent, PlacedSeen, PlacedBody, PlacedPart, SeenFrom, PlacedItems}
use Rattle.onig_parse.proofs.PartPlaces.{at_place-from, with_list-placed, open_items-placed}

-- heads

-- a word ends at its first character or further on
abbrev pub EndsFrom : ℕ → Span → Type 0
EndsFrom from span = from ≤ span.to

closed_word-on : (close begin end from : ℕ) (found rest : List ℕ) → begin ≤ end
    → Within end (EndsFrom from) (closed_word close begin end from found rest)
closed_word-on close begin end from found [] h = omega arith
closed_word-on close begin end from found (c ∷ cs) h =
    cond_both ((c == close) && not (is_empty found)) _ _ (Within end (EndsFrom from)) (λ _. omega arith) (λ _. h)

pub word_at-on : (good : List ℕ → Bool) (close begin end from : ℕ) (cs : List ℕ) → begin ≤ end
    → Within end (EndsFrom from) (word_at good close begin end from cs)
word_at-on good close begin end from cs h =
    cond_both (good (word cs)) _ _ (Within end (EndsFrom from))
    (λ _. closed_word-on close begin end from (word cs) (behind_word cs) h) (λ _. h)

-- a head ends further on than it begins
abbrev pub HeadOn : ℕ → (Head × ℕ) → Type 0
HeadOn begin head = begin < head.1

option_end-on : (options : Options) (changes : Bool) (begin end place : ℕ) (cs : List ℕ) → begin ≤ end → begin < place
    → Within end (HeadOn begin) (option_end options changes begin end place cs)
option_end-on options changes begin end place [] h on = omega arith
option_end-on options changes begin end place (c ∷ cs) h on =
    cond_both (c == 58) _ _ (Within end (HeadOn begin)) (λ _. omega arith) λ _.
    cond_both ((c == 41) && changes) _ _ (Within end (HeadOn begin)) (λ _. omega arith) (λ _. h)

letter_head-on : (options : Options) (on : List ℕ) (begin end : ℕ) (rest : List ℕ) → begin ≤ end
    → Within end (HeadOn begin) (letter_head options on begin end rest)
letter_head-on options on begin end rest h =
    cond_both (begins_with 45 rest) _ _ (Within end (HeadOn begin))
    (λ _. option_end-on (with_options options on (letters (drop 1 rest))) true begin end
    (begin + 3 + length on + letter_count (drop 1 rest)) (behind_letters (drop 1 rest)) h (omega arith))
    (λ _. option_end-on (with_options options on []) (not (is_empty on)) begin end (begin + 2 + length on) rest h
    (omega arith))

named_head-on : (close begin end from : ℕ) (cs : List ℕ) → begin ≤ end → begin ≤ from
    → Within end (HeadOn begin) (named_head close begin end from cs)
named_head-on close begin end from cs h on =
    Within-bind end (EndsFrom from) (HeadOn begin) (word_at is_name close begin end from cs) _
    (word_at-on is_name close begin end from cs h) λ span ends. omega arith

angle_head-on : (begin end : ℕ) (cs : List ℕ) → begin ≤ end → Within end (HeadOn begin) (angle_head begin end cs)
angle_head-on begin end [] h = omega arith
angle_head-on begin end (c ∷ cs) h =
    cond_both (c == 61) _ _ (Within end (HeadOn begin)) (λ _. omega arith) λ _.
    cond_both (c == 33) _ _ (Within end (HeadOn begin)) (λ _. omega arith) λ _.
    named_head-on 62 begin end (begin + 3) (c ∷ cs) h (omega arith)

question_head-on : (options : Options) (begin end : ℕ) (cs : List ℕ) → begin ≤ end
    → Within end (HeadOn begin) (question_head options begin end cs)
question_head-on options begin end [] h = omega arith
question_head-on options begin end (c ∷ cs) h =
    cond_both (c == 61) _ _ (Within end (HeadOn begin)) (λ _. omega arith) λ _.
    cond_both (c == 33) _ _ (Within end (HeadOn begin)) (λ _. omega arith) λ _.
    cond_both (c == 62) _ _ (Within end (HeadOn begin)) (λ _. omega arith) λ _.
    cond_both (c == 60) _ _ (Within end (HeadOn begin)) (λ _. angle_head-on begin end cs h) λ _.
    cond_both (c == 39) _ _ (Within end (HeadOn begin))
    (λ _. named_head-on 39 begin end (begin + 3) cs h (omega arith)) λ _.
    letter_head-on options (letters (c ∷ cs)) begin end (behind_letters (c ∷ cs)) h

head_at-on : (options : Options) (begin end : ℕ) (cs : List ℕ) → begin ≤ end
    → Within end (HeadOn begin) (head_at options begin end cs)
head_at-on options begin end cs h =
    cond_both (begins_with 63 cs) _ _ (Within end (HeadOn begin))
    (λ _. question_head-on options begin end (drop 1 cs) h) (λ _. omega arith)

opened-on : (t : Extent) (begin : ℕ) (head : Head) (s : Seen) → begin ≤ t.end → SeenFrom t (begin + 1) s
    → Within t.end (SeenFrom t (begin + 1)) (opened head begin s)
opened-on t begin (Numbered None) s h behind =
    record {
      seen = record { whole = behind.seen.whole; place = behind.seen.place; lists = behind.seen.lists };
      on =
          behind.on;
    }
opened-on t begin (Numbered (Some name)) s h behind =
    cond_both (list_any (is_named s.text name) s.names) _ _ (Within t.end (SeenFrom t (begin + 1))) (λ _. h)
    (λ _. record {
      seen = record { whole = behind.seen.whole; place = behind.seen.place; lists = behind.seen.lists };
      on = behind.on;
    })
opened-on t begin (Plain options) s h behind = behind
opened-on t begin (Rest options) s h behind = behind
opened-on t begin (Ahead wanted) s h behind = behind
opened-on t begin (Behind wanted) s h behind = behind
opened-on t begin Atomic s h behind = behind

-- ends

closed_by-on : (t : Extent) (begin : ℕ) (rest : List ℕ) (s : Seen) → begin < t.end → SeenFrom t (begin + 1) s
    → Within t.end (SeenFrom t (begin + 1)) (closed_by rest s)
closed_by-on t begin [] s h behind = let whole = behind.seen.whole in omega arith
closed_by-on t begin (c ∷ cs) s h behind = let more =
    behind.on in at_place-from t begin (s.place + 1) s behind.seen h (omega arith)

closed-on : (t : Extent) (begin : ℕ) (head : Head) (s : Seen) → begin < t.end → SeenFrom t (begin + 1) s
    → Within t.end (SeenFrom t (begin + 1)) (closed head s)
closed-on t begin (Numbered name) s h behind = closed_by-on t begin (rest_of s) s h behind
closed-on t begin (Plain options) s h behind = closed_by-on t begin (rest_of s) s h behind
closed-on t begin (Rest options) s h behind = behind
closed-on t begin (Ahead wanted) s h behind = closed_by-on t begin (rest_of s) s h behind
closed-on t begin (Behind wanted) s h behind = closed_by-on t begin (rest_of s) s h behind
closed-on t begin Atomic s h behind = closed_by-on t begin (rest_of s) s h behind

-- forms that have ended

items_of-placed : (t : Extent) (from : ℕ) (ids : List ListId) (b : Body) (s : Seen) → SeenFrom t from s
    → PlacedBody t b → PlacedItems t from (items_of ids b s).0 (items_of ids b s).1
items_of-placed t from [] b s behind body =
    record { seen = behind.seen; placed = open_items-placed t b body; on = behind.on }
items_of-placed t from (id ∷ ids) b s behind body =
    record {
      seen = with_list-placed t (open_items b) s behind.seen (open_items-placed t b body);
      placed =
          (tt, tt);
      on = behind.on;
    }

pub body_list-placed : (t : Extent) (from : ℕ) (b : Body) (s : Seen) → SeenFrom t from s → PlacedBody t b
    → SeenFrom t from (body_list b s).1
body_list-placed t from b s behind body =
    let are = items_of-placed t from b.ended b s behind body in
    record { seen = with_list-placed t (body_items b s).0 (body_items b s).1 are.seen are.placed; on = are.on }

made-placed : (t : Extent) (begin : ℕ) (head : Head) (number : ℕ) (b : Body) (s : Seen) → begin ≤ t.end
    → SeenFrom t (begin + 1) s → PlacedBody t b
    → PlacedItems t (begin + 1) (made head number begin b s).0 (made head number begin b s).1
made-placed t begin (Numbered name) number b s h behind body =
    let list = body_list-placed t (begin + 1) b s behind body in
    record { seen = list.seen; placed = (tt, tt); on = list.on }
made-placed t begin (Plain options) number b s h behind body = items_of-placed t (begin + 1) b.ended b s behind body
made-placed t begin (Rest options) number b s h behind body = items_of-placed t (begin + 1) b.ended b s behind body
made-placed t begin (Ahead wanted) number b s h behind body =
    let list = body_list-placed t (begin + 1) b s behind body in
    record { seen = list.seen; placed = (tt, tt); on = list.on }
made-placed t begin (Behind wanted) number b s h behind body =
    record {
      seen = with_list-placed t (open_items b) s behind.seen (open_items-placed t b body);
      placed =
          (t.inside begin h, tt);
      on = behind.on;
    }
made-placed t begin Atomic number b s h behind body =
    let list = body_list-placed t (begin + 1) b s behind body in
    record { seen = list.seen; placed = (tt, tt); on = list.on }

-- what a reader of bodies reads ends in the text, and its fault fits it
abbrev pub KeepsPlaces : Extent → BodyReader → Type 0
KeepsPlaces t go = (options : Options) (s : Seen) → PlacedSeen t s
    → Within t.end (λ r. PlacedPart t s.place r.0 r.1) (go options s)

pub group_at-placed : (t : Extent) (go : BodyReader) (options : Options) (s : Seen) → KeepsPlaces t go
    → PlacedSeen t s → s.place < t.end → Within t.end (λ r. PlacedItems t (s.place + 1) r.0 r.1) (group_at go options s)
group_at-placed t go options s keeps seen h =
    Within-bind t.end (HeadOn s.place) (λ r. PlacedItems t (s.place + 1) r.0 r.1)
    (head_at options s.place (length s.text) (drop 1 (rest_of s))) _
    (subst (λ n. Within t.end (HeadOn s.place) (head_at options s.place n (drop 1 (rest_of s)))) (sym seen.whole)
    (head_at-on options s.place t.end (drop 1 (rest_of s)) (omega arith))) λ head head_on.
    Within-bind t.end (SeenFrom t (s.place + 1)) (λ r. PlacedItems t (s.place + 1) r.0 r.1)
    (opened head.0 s.place (at_place head.1 s)) _
    (opened-on t s.place head.0 (at_place head.1 s) (omega arith)
    (at_place-from t s.place head.1 s seen h head_on)) λ begun first.
    Within-bind t.end (λ r. PlacedPart t begun.place r.0 r.1) (λ r. PlacedItems t (s.place + 1) r.0 r.1)
    (go (inside head.0 options) begun) _ (keeps (inside head.0 options) begun first.seen) λ read part.
    Within-bind t.end (SeenFrom t (s.place + 1)) (λ r. PlacedItems t (s.place + 1) r.0 r.1) (closed head.0 read.1) _
    (closed-on t s.place head.0 read.1 h (record
    { seen = part.seen; on = let more = first.on in let further = part.on in omega arith })) λ ended behind.
    made-placed t s.place head.0 begun.groups read.0 ended (omega arith) behind part.body
