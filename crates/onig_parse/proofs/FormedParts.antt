-- What is read so far is well formed, and so it is further on, with one list more and with other last items.
use Rattle.std.proofs.Common.{◌≡◌, ℕ, ◌+◌, ◌<◌, ◌≤◌, List, [], ◌∷◌, ◌++◌, length, Option, ap, arith}
use Rattle.std.proofs.lemmas.List.{length_push}
use Rattle.pattern_defs.specs.declared.nodes.ListId.{ListId}
use Rattle.pattern_defs.specs.Patterns.{AllIds, RiseFrom}
use Rattle.syntax_defs.specs.declared.items.Item.{Item}
use Rattle.syntax_defs.specs.PatternSyntax.{Seen, Body, at_place, with_list, next_id, open_items, with_item}
use Rattle.syntax_defs.specs.PatternSyntax.{after_bar, empty_body}
use Rattle.onig_parse.specs.Formed.{AreItems, AreItemLists, AreNames}
use Rattle.pattern_tree.proofs.ListLemmas.{AllIds-widen}
use Rattle.onig_parse.proofs.ListLemmas.{AllIds-push, RiseFrom-push}
use Rattle.onig_parse.proofs.FormedLists.{behind_within, AreItems-widen, AreItems-append, AreItemLists-push}

-- how far the text is read: the lists that have ended and the names are well formed
pub record FormedSeen (text : List ℕ) (s : Seen) : Type 0 where
  pub same : s.text ≡ text
  pub place : s.place ≤ length text
  pub lists : AreItemLists text 0 s.groups s.lists
  pub names : AreNames s.groups s.names

-- lists and groups are only added
pub record Grows (s later : Seen) : Type 0 where
  pub lists : length s.lists ≤ length later.lists
  pub groups : s.groups ≤ later.groups

-- the body names lists and groups that are there
pub record FormedBody (text : List ℕ) (b : Body) (s : Seen) : Type 0 where
  pub ended : AllIds (length s.lists) b.ended
  pub rise : RiseFrom 0 b.ended
  pub done : AreItems text (length s.lists) s.groups b.done
  pub last : AreItems text (length s.lists) s.groups b.last

-- a body that is read on from a place
pub record FormedPart (text : List ℕ) (begun : Seen) (b : Body) (s : Seen) : Type 0 where
  pub seen : FormedSeen text s
  pub body : FormedBody text b s
  pub grows : Grows begun s

-- items that are read on from a place
pub record FormedItems (text : List ℕ) (begun : Seen) (items : List Item) (s : Seen) : Type 0 where
  pub seen : FormedSeen text s
  pub formed : AreItems text (length s.lists) s.groups items
  pub grows : Grows begun s

-- a list that has ended since a place
pub record FormedList (text : List ℕ) (begun : Seen) (id : ListId) (s : Seen) : Type 0 where
  pub seen : FormedSeen text s
  pub below : id.0 < length s.lists
  pub grows : Grows begun s

pub grows_none : (s : Seen) → Grows s s
grows_none s = record { lists = omega arith; groups = omega arith }

pub grows_both : (s t u : Seen) → Grows s t → Grows t u → Grows s u
grows_both s t u first second = record {
  lists = let a = first.lists in let b = second.lists in omega arith;
  groups = let a = first.groups in let b = second.groups in omega arith;
}

pub FormedItems-before : (text : List ℕ) (before begun : Seen) (items : List Item) (s : Seen) → Grows before begun
    → FormedItems text begun items s → FormedItems text before items s
FormedItems-before text before begun items s grows are =
    record { seen = are.seen; formed = are.formed; grows = grows_both before begun s grows are.grows }

pub FormedBody-widen : (text : List ℕ) (b : Body) (s later : Seen) → Grows s later → FormedBody text b s
    → FormedBody text b later
FormedBody-widen text b s later grows body = record {
  ended = AllIds-widen _ _ b.ended grows.lists body.ended;
  rise = body.rise;
  done = AreItems-widen text _ _ _ _ b.done grows.lists grows.groups body.done;
  last = AreItems-widen text _ _ _ _ b.last grows.lists grows.groups body.last;
}

-- further on

pub at_place-seen : (text : List ℕ) (place : ℕ) (s : Seen) → FormedSeen text s → FormedSeen text (at_place place s)
at_place-seen text place s seen = record {
  same = seen.same;
  place = let e : length s.text ≡ length text = ap length seen.same in omega arith;
  lists = seen.lists;
  names = seen.names;
}

pub at_place-part : (text : List ℕ) (begun : Seen) (place : ℕ) (b : Body) (s : Seen) → FormedPart text begun b s
    → FormedPart text begun b (at_place place s)
at_place-part text begun place b s part = record {
  seen = at_place-seen text place s part.seen;
  body = record { ended = part.body.ended; rise = part.body.rise; done = part.body.done; last = part.body.last };
  grows = record { lists = part.grows.lists; groups = part.grows.groups };
}

-- one item that names nothing, and the place behind it
pub one_here : (text : List ℕ) (place : ℕ) (item : Item) (s : Seen) → FormedSeen text s
    → AreItems text (length s.lists) s.groups (item ∷ []) → FormedItems text s (item ∷ []) (at_place place s)
one_here text place item s seen are = record {
  seen = at_place-seen text place s seen;
  formed = are;
  grows = record { lists = omega arith; groups = omega arith };
}

-- one list more

length_more : (s : Seen) (list : List Item) → length (with_list list s).lists ≡ length s.lists + 1
length_more s list = length_push s.lists list

pub next_id-below : (s : Seen) (list : List Item) → (next_id s).0 < length (with_list list s).lists
next_id-below s list = omega (arith, length_more s list)

pub with_list-grows : (s : Seen) (list : List Item) → Grows s (with_list list s)
with_list-grows s list = record { lists = omega (arith, length_more s list); groups = omega arith }

pub with_list-seen : (text : List ℕ) (list : List Item) (s : Seen) → FormedSeen text s
    → AreItems text (length s.lists) s.groups list → FormedSeen text (with_list list s)
with_list-seen text list s seen are = record {
  same = seen.same;
  place = seen.place;
  lists = AreItemLists-push text 0 s.groups (length s.lists) s.lists list seen.lists (omega arith) are;
  names = seen.names;
}

pub with_list-part : (text : List ℕ) (begun : Seen) (list : List Item) (b : Body) (s : Seen)
    → FormedPart text begun b s → AreItems text (length s.lists) s.groups list
    → FormedPart text begun b (with_list list s)
with_list-part text begun list b s part are = record {
  seen = with_list-seen text list s part.seen are;
  body = FormedBody-widen text b s _ (with_list-grows s list) part.body;
  grows = grows_both begun s _ part.grows (with_list-grows s list);
}

pub ids_more : (s : Seen) (list : List Item) (ids : List ListId) → AllIds (length s.lists) ids
    → AllIds (length (with_list list s).lists) (ids ++ next_id s ∷ [])
ids_more s list ids all =
    AllIds-push _ ids (next_id s) (AllIds-widen _ _ ids (omega (arith, length_more s list)) all) (next_id-below s list)

pub ids_rise : (s : Seen) (ids : List ListId) → AllIds (length s.lists) ids → RiseFrom 0 ids
    → RiseFrom 0 (ids ++ next_id s ∷ [])
ids_rise s ids all rise = RiseFrom-push 0 ids (next_id s) rise (behind_within (length s.lists) 0 ids (omega arith) all)

-- bodies

pub empty_part : (text : List ℕ) (s : Seen) → FormedSeen text s → FormedPart text s empty_body s
empty_part text s seen = record {
  seen = seen;
  body = record { ended = tt; rise = tt; done = tt; last = tt };
  grows =
      grows_none s;
}

pub last-part : (text : List ℕ) (begun : Seen) (last : List Item) (repeats : Option ℕ) (b : Body) (s : Seen)
    → FormedPart text begun b s → AreItems text (length s.lists) s.groups last
    → FormedPart text begun (record b { last = last; repeats = repeats }) s
last-part text begun last repeats b s part are = record {
  seen = part.seen;
  body = record { ended = part.body.ended; rise = part.body.rise; done = part.body.done; last = are };
  grows = part.grows;
}

pub with_item-part : (text : List ℕ) (begun : Seen) (b : Body) (s : Seen) (items : List Item) (later : Seen)
    → FormedPart text begun b s → FormedItems text s items later → FormedPart text begun (with_item items b) later
with_item-part text begun b s items later part are =
    let wide = FormedBody-widen text b s later are.grows part.body in
    record {
      seen = are.seen;
      body = record {
        ended = wide.ended;
        rise = wide.rise;
        done =
            AreItems-append text _ _ b.done b.last wide.done wide.last;
        last = are.formed;
      };
      grows = grows_both begun s later part.grows are.grows;
    }

pub open_items-formed : (text : List ℕ) (b : Body) (s : Seen) → FormedBody text b s
    → AreItems text (length s.lists) s.groups (open_items b)
open_items-formed text b s body = AreItems-append text _ _ b.done b.last body.done body.last

pub after_bar-part : (text : List ℕ) (begun : Seen) (b : Body) (s : Seen) → FormedPart text begun b s
    → FormedPart text begun (after_bar b s) (with_list (open_items b) s)
after_bar-part text begun b s part =
    let more = with_list-part text begun (open_items b) b s part (open_items-formed text b s part.body) in
    record {
      seen = more.seen;
      body = record {
        ended = ids_more s (open_items b) b.ended part.body.ended;
        rise = ids_rise s b.ended part.body.ended part.body.rise;
        done = tt;
        last = tt;
      };
      grows = more.grows;
    }
