-- The items of forms in parentheses are well formed.
use Rattle.std.proofs.Common.{ℕ, ◌+◌, ◌<◌, ◌≤◌, List, [], ◌∷◌, length, drop, Some, None, Ok, IfOk, arith}
use Rattle.std.specs.List.{list_any}
use Rattle.pattern_defs.specs.declared.nodes.ListId.{ListId}
use Rattle.pattern_defs.specs.Patterns.{AllIds, RiseFrom}
use Rattle.syntax_defs.specs.declared.items.Options.{Options}
use Rattle.syntax_defs.specs.declared.items.Span.{Span}
use Rattle.syntax_defs.specs.declared.items.Item.{Item}
use Rattle.syntax_defs.specs.declared.items.Head.{Head}
use Rattle.syntax_defs.specs.declared.items.Head.TheVariants.{Numbered, Plain, Rest, Ahead, Behind, Atomic}
use Rattle.syntax_defs.specs.Reading.{LeftOut}
use Rattle.syntax_defs.specs.Heads.{head_at, inside}
use Rattle.syntax_defs.specs.PatternSyntax.{Seen, Body, BodyReader, at_place, rest_of, with_list, next_id, open_items}
use Rattle.syntax_defs.specs.PatternSyntax.{items_of, body_items, body_list, is_named, with_group, opened, closed_by}
use Rattle.syntax_defs.specs.PatternSyntax.{closed, made, group_at}
use Rattle.onig_parse.proofs.ReadingLemmas.{IfOk-bind, IfOk-any, IfOk-else}
use Rattle.onig_parse.proofs.FormedLists.{AreItemLists-raise, AreNames-raise, AreNames-push}
use Rattle.onig_parse.proofs.FormedParts.{FormedSeen, Grows, FormedBody, FormedPart, FormedItems, FormedList}
use Rattle.onig_parse.proofs.FormedParts.{grows_none, grows_both, FormedItems-before, at_place-seen, at_place-part}
use Rattle.onig_parse.proofs.FormedParts.{with_list-seen, with_list-grows, next_id-below, ids_more, ids_rise}
use Rattle.onig_parse.proofs.FormedParts.{open_items-formed}

-- bodies as items and as lists

items_of-formed : (text : List ℕ) (ids : List ListId) (b : Body) (s : Seen) → FormedSeen text s → FormedBody text b s
    → AllIds (length s.lists) ids → RiseFrom 0 ids → FormedItems text s (items_of ids b s).0 (items_of ids b s).1
items_of-formed text [] b s seen body all rise =
    record { seen = seen; formed = open_items-formed text b s body; grows = grows_none s }
items_of-formed text (id ∷ ids) b s seen body all rise = record {
  seen = with_list-seen text (open_items b) s seen (open_items-formed text b s body);
  formed = ((ids_more s (open_items b) (id ∷ ids) all, ids_rise s (id ∷ ids) all rise), tt);
  grows = with_list-grows s (open_items b);
}

body_items-formed : (text : List ℕ) (b : Body) (s : Seen) → FormedSeen text s → FormedBody text b s
    → FormedItems text s (body_items b s).0 (body_items b s).1
body_items-formed text b s seen body = items_of-formed text b.ended b s seen body body.ended body.rise

listed-formed : (text : List ℕ) (begun : Seen) (items : List Item) (s : Seen) → FormedItems text begun items s
    → FormedList text begun (next_id s) (with_list items s)
listed-formed text begun items s are = record {
  seen = with_list-seen text items s are.seen are.formed;
  below = next_id-below s items;
  grows = grows_both begun s (with_list items s) are.grows (with_list-grows s items);
}

pub body_list-formed : (text : List ℕ) (b : Body) (s : Seen) → FormedSeen text s → FormedBody text b s
    → FormedList text s (body_list b s).0 (body_list b s).1
body_list-formed text b s seen body = listed-formed text s (body_items b s).0 (body_items b s).1
    (body_items-formed text b s seen body)

-- heads and ends

-- the number of a numbered group is above 0
abbrev pub IsCounted : Head → ℕ → Type 0
IsCounted (Numbered name) number = 0 < number
IsCounted (Plain options) number = Unit {0}
IsCounted (Rest options) number = Unit {0}
IsCounted (Ahead wanted) number = Unit {0}
IsCounted (Behind wanted) number = Unit {0}
IsCounted Atomic number = Unit {0}

-- how far the text is read behind a head that begins at a place
pub record FormedHead (text : List ℕ) (head : Head) (s begun : Seen) : Type 0 where
  pub seen : FormedSeen text begun
  pub counted : IsCounted head begun.groups
  pub grows : Grows s begun

unnamed : (text : List ℕ) (before s : Seen) → FormedSeen text s → Grows before s
    → FormedHead text (Numbered None) before (with_group None s)
unnamed text before s seen grows = record {
  seen = record {
    same = seen.same;
    place = seen.place;
    lists = AreItemLists-raise text 0 s.groups _ s.lists (omega arith) seen.lists;
    names = AreNames-raise s.groups _ s.names (omega arith) seen.names;
  };
  counted = omega arith;
  grows = record { lists = grows.lists; groups = let more = grows.groups in omega arith };
}

named : (text : List ℕ) (name : Span) (before s : Seen) → FormedSeen text s → Grows before s
    → FormedHead text (Numbered (Some name)) before (with_group (Some name) s)
named text name before s seen grows = record {
  seen = record {
    same = seen.same;
    place = seen.place;
    lists = AreItemLists-raise text 0 s.groups _ s.lists (omega arith) seen.lists;
    names =
        AreNames-push _ s.names (record { name = name; number = s.groups + 1 })
        (AreNames-raise s.groups _ s.names (omega arith) seen.names)
        (omega arith)
        (omega arith);
  };
  counted = omega arith;
  grows = record { lists = grows.lists; groups = let more = grows.groups in omega arith };
}

opened-formed : (text : List ℕ) (head : Head) (begin : ℕ) (before s : Seen) → FormedSeen text s → Grows before s
    → IfOk (opened head begin s) (FormedHead text head before)
opened-formed text (Numbered None) begin before s seen grows = unnamed text before s seen grows
opened-formed text (Numbered (Some name)) begin before s seen grows =
    IfOk-else (FormedHead text (Numbered (Some name)) before) (list_any (is_named s.text name) s.names)
    (LeftOut begin) (Ok (with_group (Some name) s))
    (λ _. named text name before s seen grows)
opened-formed text (Plain options) begin before s seen grows = record { seen = seen; counted = tt; grows = grows }
opened-formed text (Rest options) begin before s seen grows = record { seen = seen; counted = tt; grows = grows }
opened-formed text (Ahead wanted) begin before s seen grows = record { seen = seen; counted = tt; grows = grows }
opened-formed text (Behind wanted) begin before s seen grows = record { seen = seen; counted = tt; grows = grows }
opened-formed text Atomic begin before s seen grows = record { seen = seen; counted = tt; grows = grows }

closed_by-formed : (text : List ℕ) (begun : Seen) (rest : List ℕ) (b : Body) (s : Seen) → FormedPart text begun b s
    → IfOk (closed_by rest s) (FormedPart text begun b)
closed_by-formed text begun [] b s part = tt
closed_by-formed text begun (c ∷ cs) b s part = at_place-part text begun (s.place + 1) b s part

closed-formed : (text : List ℕ) (begun : Seen) (head : Head) (b : Body) (s : Seen) → FormedPart text begun b s
    → IfOk (closed head s) (FormedPart text begun b)
closed-formed text begun (Numbered name) b s part = closed_by-formed text begun (rest_of s) b s part
closed-formed text begun (Plain options) b s part = closed_by-formed text begun (rest_of s) b s part
closed-formed text begun (Rest options) b s part = part
closed-formed text begun (Ahead wanted) b s part = closed_by-formed text begun (rest_of s) b s part
closed-formed text begun (Behind wanted) b s part = closed_by-formed text begun (rest_of s) b s part
closed-formed text begun Atomic b s part = closed_by-formed text begun (rest_of s) b s part

-- forms that have ended

made-formed : (text : List ℕ) (head : Head) (number begin : ℕ) (b : Body) (s : Seen) → FormedSeen text s
    → FormedBody text b s → IsCounted head number → number ≤ s.groups
    → FormedItems text s (made head number begin b s).0 (made head number begin b s).1
made-formed text (Numbered name) number begin b s seen body counted within =
    let list = body_list-formed text b s seen body in
    let more = list.grows.groups in
    record { seen = list.seen; formed = ((counted, omega arith, list.below), tt); grows = list.grows }
made-formed text (Plain options) number begin b s seen body counted within = body_items-formed text b s seen body
made-formed text (Rest options) number begin b s seen body counted within = body_items-formed text b s seen body
made-formed text (Ahead wanted) number begin b s seen body counted within =
    let list = body_list-formed text b s seen body in
    record { seen = list.seen; formed = (list.below, tt); grows = list.grows }
made-formed text (Behind wanted) number begin b s seen body counted within = record {
  seen = with_list-seen text (open_items b) s seen (open_items-formed text b s body);
  formed = (ids_more s (open_items b) b.ended body.ended, tt);
  grows = with_list-grows s (open_items b);
}
made-formed text Atomic number begin b s seen body counted within =
    let list = body_list-formed text b s seen body in
    record { seen = list.seen; formed = (list.below, tt); grows = list.grows }

-- what a reader of bodies gives is well formed
abbrev pub KeepsForm : List ℕ → BodyReader → Type 0
KeepsForm text go = (options : Options) (s : Seen) → FormedSeen text s
    → IfOk (go options s) (λ r. FormedPart text s r.0 r.1)

ended-formed : (text : List ℕ) (head : Head) (s begun : Seen) (b : Body) (ended : Seen) → FormedHead text head s begun
    → FormedPart text begun b ended → FormedItems text s (made head begun.groups s.place b ended).0
    (made head begun.groups s.place b ended).1
ended-formed text head s begun b ended first part =
    FormedItems-before text s ended (made head begun.groups s.place b ended).0
    (made head begun.groups s.place b ended).1
    (grows_both s begun ended first.grows part.grows)
    (made-formed text head begun.groups s.place b ended part.seen part.body first.counted part.grows.groups)

pub group_at-formed : (text : List ℕ) (go : BodyReader) (options : Options) (s : Seen) → KeepsForm text go
    → FormedSeen text s → IfOk (group_at go options s) (λ r. FormedItems text s r.0 r.1)
group_at-formed text go options s keeps seen =
    IfOk-bind (λ _. Unit {0}) (λ r. FormedItems text s r.0 r.1)
    (head_at options s.place (length s.text) (drop 1 (rest_of s))) _ (IfOk-any _) λ head _.
    IfOk-bind (FormedHead text head.0 s) (λ r. FormedItems text s r.0 r.1) (opened head.0 s.place (at_place head.1 s)) _
    (opened-formed text head.0 s.place s (at_place head.1 s) (at_place-seen text head.1 s seen)
    (record { lists = omega arith; groups = omega arith })) λ begun first.
    IfOk-bind (λ r. FormedPart text begun r.0 r.1) (λ r. FormedItems text s r.0 r.1)
    (go (inside head.0 options) begun) _ (keeps (inside head.0 options) begun first.seen) λ read part.
    IfOk-bind (FormedPart text begun read.0) (λ r. FormedItems text s r.0 r.1) (closed head.0 read.1) _
    (closed-formed text begun head.0 read.0 read.1 part) λ ended part_ended.
    ended-formed text head.0 s begun read.0 ended first part_ended
