-- Each step of the body of a form keeps what is read well formed.
use Rattle.std.proofs.Common.{◌≡◌, ℕ, ◌+◌, ◌-◌, ◌<◌, ◌≤◌, ◌==◌, List, [], ◌∷◌, length, drop, Bool, true, false, ◌||◌}
use Rattle.std.proofs.Common.{if◌then◌else◌, nat_lt, nat_le, Option, Some, None, Result, Ok, Err, IfOk, subst, arith}
use Rattle.std.proofs.lemmas.Bool.{ltb-false}
use Rattle.pattern_defs.specs.declared.nodes.ListId.{ListId}
use Rattle.pattern_defs.specs.Patterns.{AreBounds}
use Rattle.syntax_defs.specs.declared.items.Options.{Options}
use Rattle.syntax_defs.specs.declared.items.Item.{Item}
use Rattle.syntax_defs.specs.declared.items.Item.TheVariants as items
use Rattle.syntax_defs.specs.declared.items.Bounds.{Bounds}
use Rattle.syntax_defs.specs.declared.items.Sight.{Sight}
use Rattle.syntax_defs.specs.declared.items.Sight.TheVariants.{End, Bar, Close, Blank, Remark, Comment, Repeat, Open}
use Rattle.syntax_defs.specs.declared.items.Sight.TheVariants.{Edge, Number, Reference, Single}
use Rattle.syntax_defs.specs.Reading.{Fault, Syntax, LeftOut, TooDeep, Read}
use Rattle.syntax_defs.specs.Heads.{word_at, is_name_or_number}
use Rattle.syntax_defs.specs.Singles.{single_at}
use Rattle.syntax_defs.specs.Limits.{most_count}
use Rattle.syntax_defs.specs.PatternSyntax.{Seen, Body, Stepped, BodyReader, rest_of, with_list, next_id, add, adds}
use Rattle.syntax_defs.specs.PatternSyntax.{is_above, is_below, is_lazy, is_possessive, plain_repeat, atomic_of}
use Rattle.syntax_defs.specs.PatternSyntax.{signed, repeat_on, repeat_at, behind_comment, comment_length, quoted_item}
use Rattle.syntax_defs.specs.PatternSyntax.{reference_item, group_at, single_item, step_by}
use Rattle.onig_parse.specs.Formed.{IsRead}
use Rattle.onig_parse.proofs.FormedParts.{FormedSeen, FormedPart, FormedItems, at_place-part, with_list-part}
use Rattle.onig_parse.proofs.FormedParts.{next_id-below, last-part, with_item-part, after_bar-part, one_here}
use Rattle.onig_parse.proofs.FormedGroups.{KeepsForm, group_at-formed}
use Rattle.onig_parse.proofs.ReadingLemmas.{IfOk-bind, IfOk-any, IfOk-else}

-- the body after a step is well formed
abbrev pub FormedStep : List ℕ → Seen → Stepped → Type 0
FormedStep text begun r = FormedPart text begun r.body r.seen

adds-formed : (text : List ℕ) (begun : Seen) (b : Body) (s : Seen) (read : Result (List Item × Seen) Fault)
    → FormedPart text begun b s → IfOk read (λ r. FormedItems text s r.0 r.1)
    → IfOk (adds b read) (FormedStep text begun)
adds-formed text begun b s read part are =
    IfOk-bind (λ r. FormedItems text s r.0 r.1) (FormedStep text begun) read (add b) are λ r are. with_item-part text
    begun b s r.0 r.1 part are

-- repeats

bounds_hold : (least : ℕ) (most : Option ℕ) → is_below most least ≡ false → AreBounds least most
bounds_hold least None e = tt
bounds_hold least (Some most) e = ltb-false most least e

plain_repeat-formed : (text : List ℕ) (begun : Seen) (bounds : Bounds) (greedy : Bool) (more count : ℕ) (b : Body)
    (s : Seen) → FormedPart text begun b s → AreBounds bounds.least bounds.most
    → IfOk (plain_repeat bounds greedy more count b s) (FormedStep text begun)
plain_repeat-formed text begun bounds greedy more count b s part are =
    let kept = with_list-part text begun b.last b s part part.body.last in
    at_place-part text begun _ _ (with_list b.last s)
    (last-part text begun _ _ b (with_list b.last s) kept ((are, next_id-below s b.last), tt))

atomic_of-formed : (text : List ℕ) (begun : Seen) (bounds : Bounds) (id : ListId) (count : ℕ) (b : Body) (s : Seen)
    → FormedPart text begun b s → AreBounds bounds.least bounds.most → id.0 < length s.lists
    → IfOk (atomic_of bounds id count b s) (FormedStep text begun)
atomic_of-formed text begun bounds id count b s part are below =
    let list : List Item = items.Repeat id bounds.least bounds.most true ∷ [] in
    let kept = with_list-part text begun list b s part ((are, below), tt) in
    at_place-part text begun _ _ (with_list list s)
    (last-part text begun _ _ b (with_list list s) kept (next_id-below s list, tt))

signed-formed : (text : List ℕ) (begun : Seen) (lazy possessive : Bool) (bounds : Bounds) (count : ℕ) (b : Body)
    (s : Seen) → FormedPart text begun b s → AreBounds bounds.least bounds.most
    → IfOk (signed lazy possessive bounds count b s) (FormedStep text begun)
signed-formed text begun false false bounds count b s part are =
    plain_repeat-formed text begun bounds true 0 count b s part are
signed-formed text begun true possessive bounds count b s part are =
    plain_repeat-formed text begun bounds false 1 count b s part are
signed-formed text begun false true bounds count b s part are =
    atomic_of-formed text begun bounds (next_id s) count b (with_list b.last s)
    (with_list-part text begun b.last b s part part.body.last) are (next_id-below s b.last)

repeat_on-formed : (text : List ℕ) (begun : Seen) (bounds : Bounds) (behind : List ℕ) (count : ℕ) (b : Body)
    (s : Seen) → FormedPart text begun b s → IfOk (repeat_on bounds behind count b s) (FormedStep text begun)
repeat_on-formed text begun bounds behind count b s part =
    IfOk-else (FormedStep text begun) (nat_lt most_count bounds.least || is_above most_count bounds.most)
    (Syntax s.place) _ λ _.
    IfOk-else (FormedStep text begun) (nat_le 8 count) (TooDeep 9) _ λ _.
    IfOk-else (FormedStep text begun) (is_below bounds.most bounds.least) (LeftOut s.place) _ λ e.
    signed-formed text begun (is_lazy bounds.form behind) (is_possessive bounds.form behind) bounds count b s part
    (bounds_hold bounds.least bounds.most e)

repeat_at-formed : (text : List ℕ) (begun : Seen) (bounds : Bounds) (repeats : Option ℕ) (b : Body) (s : Seen)
    → FormedPart text begun b s → IfOk (repeat_at bounds repeats b s) (FormedStep text begun)
repeat_at-formed text begun bounds None b s part = tt
repeat_at-formed text begun bounds (Some count) b s part =
    repeat_on-formed text begun bounds (drop bounds.length (rest_of s)) count b s part

-- comments and back references

behind_comment-formed : (text : List ℕ) (begun : Seen) (count : Option ℕ) (b : Body) (s : Seen)
    → FormedPart text begun b s → IfOk (behind_comment count b s) (FormedStep text begun)
behind_comment-formed text begun None b s part = tt
behind_comment-formed text begun (Some count) b s part = at_place-part text begun (s.place + count) b s part

quoted_item-formed : (text : List ℕ) (close : ℕ) (options : Options) (s : Seen) → FormedSeen text s
    → IfOk (quoted_item close options s) (λ r. FormedItems text s r.0 r.1)
quoted_item-formed text close options s seen =
    IfOk-bind (λ _. Unit {0}) (λ r. FormedItems text s r.0 r.1)
    (word_at is_name_or_number close s.place (length s.text) (s.place + 3) (drop 3 (rest_of s))) _
    (IfOk-any _) λ span _.
    one_here text (span.to + 1) _ s seen (tt, tt)

reference_item-formed : (text : List ℕ) (options : Options) (cs : List ℕ) (s : Seen) → FormedSeen text s
    → IfOk (reference_item options cs s) (λ r. FormedItems text s r.0 r.1)
reference_item-formed text options [] s seen = tt
reference_item-formed text options (c ∷ cs) s seen =
    by_quote (c == 60) (c == 39)
  where
    by_quote : (angle quote : Bool) → IfOk (if angle then quoted_item 62 options s else if quote then quoted_item 39
        options s else Err (LeftOut s.place)) (λ r. FormedItems text s r.0 r.1)
    by_quote true quote = quoted_item-formed text 62 options s seen
    by_quote false true = quoted_item-formed text 39 options s seen
    by_quote false false = tt

-- single characters and sets

is_read : (read : Result (Read (ℕ → Bool)) Fault) → IfOk read (λ _. IsRead read)
is_read (Ok read) = tt
is_read (Err fault) = tt

single_item-formed : (text : List ℕ) (options : Options) (depth : ℕ) (s : Seen) → FormedSeen text s → depth ≤ 100
    → IfOk (single_item options depth s) (λ r. FormedItems text s r.0 r.1)
single_item-formed text options depth s seen within =
    IfOk-bind (λ _. IsRead (single_at options depth s.place (rest_of s))) (λ r. FormedItems text s r.0 r.1)
    (single_at options depth s.place (rest_of s)) _ (is_read _) λ read is.
    one_here text read.place (items.One s.place options depth) s seen (
      record {
        place = seen.place;
        depth = within;
        read =
            subst (λ t. IsRead (single_at options depth s.place (drop s.place t))) seen.same is;
      },
      tt,
    )

-- one step

pub step_by-formed : (text : List ℕ) (go : BodyReader) (levels : ℕ) (options : Options) (begun : Seen) (sight : Sight)
    (b : Body) (s : Seen) → KeepsForm text go → FormedPart text begun b s
    → IfOk (step_by go levels options sight b s) (FormedStep text begun)
step_by-formed text go levels options begun End b s keeps part = part
step_by-formed text go levels options begun Close b s keeps part = part
step_by-formed text go levels options begun Bar b s keeps part =
    at_place-part text begun _ _ _ (after_bar-part text begun b s part)
step_by-formed text go levels options begun Blank b s keeps part = at_place-part text begun _ b s part
step_by-formed text go levels options begun Remark b s keeps part = at_place-part text begun _ b s part
step_by-formed text go levels options begun Comment b s keeps part =
    behind_comment-formed text begun (comment_length false 3 (drop 3 (rest_of s))) b s part
step_by-formed text go levels options begun (Repeat bounds) b s keeps part =
    repeat_at-formed text begun bounds b.repeats b s part
step_by-formed text go levels options begun Open b s keeps part =
    adds-formed text begun b s (group_at go options s) part (group_at-formed text go options s keeps part.seen)
step_by-formed text go levels options begun (Edge anchor size) b s keeps part =
    with_item-part text begun b s _ _ part (one_here text (s.place + size) (items.At anchor) s part.seen (tt, tt))
step_by-formed text go levels options begun Number b s keeps part =
    with_item-part text begun b s _ _ part (one_here text _ _ s part.seen (tt, tt))
step_by-formed text go levels options begun Reference b s keeps part =
    adds-formed text begun b s (reference_item options (drop 2 (rest_of s)) s) part
    (reference_item-formed text options (drop 2 (rest_of s)) s part.seen)
step_by-formed text go levels options begun Single b s keeps part =
    adds-formed text begun b s (single_item options (100 - levels) s) part
    (single_item-formed text options (100 - levels) s part.seen (omega arith))
