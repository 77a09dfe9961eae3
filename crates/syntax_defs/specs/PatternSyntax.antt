-- Reading a pattern text from left to right: its items in numbered lists, or the first fault. Lists are numbered in
-- the order in which they end, which is this project's own, as are the limits.
use Rattle.std.specs.Prelude.{ℕ, zero, suc, ◌+◌, ◌-◌, ◌==◌, nat_lt, nat_le, List, [], ◌∷◌, ◌++◌, length, drop, min}
use Rattle.std.specs.Prelude.{Bool, true, false, ◌||◌, not, if◌then◌else◌, Option, Some, None, Result, Ok, Err}
use Rattle.std.specs.List.{list_any, prefix_len}
use Rattle.std.specs.Str.{bytes_eq}
use Rattle.pattern_defs.specs.declared.nodes.ListId.{ListId}
use Rattle.syntax_defs.specs.declared.items.Options.{Options}
use Rattle.syntax_defs.specs.declared.items.Span.{Span}
use Rattle.syntax_defs.specs.declared.items.GroupName.{GroupName}
use Rattle.syntax_defs.specs.declared.items.Target.{Target}
use Rattle.syntax_defs.specs.declared.items.Target.TheVariants as targets
use Rattle.syntax_defs.specs.declared.items.Item.{Item}
use Rattle.syntax_defs.specs.declared.items.Item.TheVariants as items
use Rattle.syntax_defs.specs.declared.items.Bounds.{Bounds}
use Rattle.syntax_defs.specs.declared.items.Form.{Form}
use Rattle.syntax_defs.specs.declared.items.Form.TheVariants.{Sign, Count}
use Rattle.syntax_defs.specs.declared.items.Sight.{Sight}
use Rattle.syntax_defs.specs.declared.items.Sight.TheVariants.{End, Bar, Close, Blank, Remark, Comment, Repeat, Open}
use Rattle.syntax_defs.specs.declared.items.Sight.TheVariants.{Edge, Number, Reference, Single}
use Rattle.syntax_defs.specs.declared.items.Head.{Head}
use Rattle.syntax_defs.specs.declared.items.Head.TheVariants.{Numbered, Plain, Rest, Ahead, Behind, Atomic}
use Rattle.syntax_defs.specs.Limits.{most_levels, most_repeats, most_count}
use Rattle.syntax_defs.specs.Reading.{Fault, Syntax, LeftOut, TooDeep, ◌>>=◌}
use Rattle.syntax_defs.specs.Sights.{digits, digit_count, number_of, begins_with, sight_at}
use Rattle.syntax_defs.specs.Heads.{word, word_at, is_name_or_number, is_number, head_at, inside}
use Rattle.syntax_defs.specs.Singles.{single_at}

-- How far a text is read: the place of the next character, the lists that have ended, and how many groups have
-- begun, with their names.
pub record Seen : Type 0 where
  pub text : List ℕ
  pub place : ℕ
  pub lists : List (List Item)
  pub groups : ℕ
  pub names : List GroupName

-- Part of the body of a group: the alternatives that have ended, and of the open one what came before the last
-- item, the last item, and how many repeats stand on that, where there is one.
pub record Body : Type 0 where
  pub ended : List ListId
  pub done : List Item
  pub last : List Item
  pub repeats : Option ℕ

-- reading the body of a group, up to its `)` or the end of the text
abbrev pub BodyReader : Type 0
BodyReader = Options → Seen → Result (Body × Seen) Fault

-- what is read next, with the body and how far the text is read after it: whether the body goes on
pub record Stepped : Type 0 where
  pub more : Bool
  pub body : Body
  pub seen : Seen

abbrev pub rest_of : Seen → List ℕ
rest_of s = drop s.place s.text

-- further on, and at most at the end
abbrev pub at_place : ℕ → Seen → Seen
at_place place s = record s { place = min place (length s.text) }

abbrev pub past : ℕ → Seen → Seen
past count s = at_place (s.place + count) s

-- lists that end

abbrev pub with_list : List Item → Seen → Seen
with_list list s = record s { lists = s.lists ++ list ∷ [] }

-- the number of the next list to end
abbrev pub next_id : Seen → ListId
next_id s = record { 0 = length s.lists }

abbrev pub empty_body : Body
empty_body = record { ended = []; done = []; last = []; repeats = None }

-- the open alternative as a list
abbrev pub open_items : Body → List Item
open_items b = b.done ++ b.last

-- the body after a bar
abbrev pub after_bar : Body → Seen → Body
after_bar b s = record { ended = b.ended ++ next_id s ∷ []; done = []; last = []; repeats = None }

-- a body as items: those of its only alternative, or one choice
abbrev pub items_of : List ListId → Body → Seen → (List Item × Seen)
items_of [] b s = (open_items b, s)
items_of (id ∷ ids) b s = (items.Choice ((id ∷ ids) ++ next_id s ∷ []) ∷ [], with_list (open_items b) s)

abbrev pub body_items : Body → Seen → (List Item × Seen)
body_items b s = items_of b.ended b s

-- the same as a list of its own
abbrev pub listed : (List Item × Seen) → (ListId × Seen)
listed r = (next_id r.1, with_list r.0 r.1)

abbrev pub body_list : Body → Seen → (ListId × Seen)
body_list b s = listed (body_items b s)

-- the body with one item more
abbrev pub with_item : List Item → Body → Body
with_item item b = record { ended = b.ended; done = b.done ++ b.last; last = item; repeats = Some 0 }

-- steps

abbrev pub go_on : Body → Seen → Result Stepped Fault
go_on b s = Ok (record { more = true; body = b; seen = s })

abbrev pub stop : Body → Seen → Result Stepped Fault
stop b s = Ok (record { more = false; body = b; seen = s })

abbrev pub add : Body → (List Item × Seen) → Result Stepped Fault
add b r = go_on (with_item r.0 b) r.1

-- the body with an item more that is read
abbrev pub adds : Body → Result (List Item × Seen) Fault → Result Stepped Fault
adds b read = read >>= add b

-- repeats

abbrev pub is_above : ℕ → Option ℕ → Bool
is_above n None = false
is_above n (Some m) = nat_lt n m

abbrev pub is_below : Option ℕ → ℕ → Bool
is_below None n = false
is_below (Some m) n = nat_lt m n

-- the sign behind a repeat: a `?` makes it lazy, a `+` possessive
abbrev pub is_lazy : Form → List ℕ → Bool
is_lazy Count cs = false
is_lazy _ cs = begins_with 63 cs

abbrev pub is_possessive : Form → List ℕ → Bool
is_possessive Sign cs = begins_with 43 cs
is_possessive _ cs = false

-- the last item repeated, behind so many characters more
abbrev pub plain_repeat : Bounds → (greedy : Bool) → (more count : ℕ) → Body → Seen → Result Stepped Fault
plain_repeat bounds greedy more count b s =
    go_on (record b {
      last = items.Repeat (next_id s) bounds.least bounds.most greedy ∷ [];
      repeats =
          Some (count + 1);
    })
    (past (bounds.length + more) (with_list b.last s))

abbrev pub atomic_of : Bounds → ListId → ℕ → Body → Seen → Result Stepped Fault
atomic_of bounds id count b s =
    go_on (record b { last = items.Atomic (next_id s) ∷ []; repeats = Some (count + 1) })
    (past (bounds.length + 1) (with_list (items.Repeat id bounds.least bounds.most true ∷ []) s))

abbrev pub possessive_repeat : Bounds → ℕ → Body → Seen → Result Stepped Fault
possessive_repeat bounds count b s = atomic_of bounds (next_id s) count b (with_list b.last s)

-- the last item repeated, the number of repeats on it given
abbrev pub signed : (lazy possessive : Bool) → Bounds → ℕ → Body → Seen → Result Stepped Fault
signed false false bounds count b s = plain_repeat bounds true 0 count b s
signed true possessive bounds count b s = plain_repeat bounds false 1 count b s
signed false true bounds count b s = possessive_repeat bounds count b s

abbrev pub repeat_on : Bounds → List ℕ → ℕ → Body → Seen → Result Stepped Fault
repeat_on bounds behind count b s =
    if nat_lt most_count bounds.least || is_above most_count bounds.most then Err (Syntax s.place)
    else if nat_le most_repeats count then Err (TooDeep (most_repeats + 1))
    else if is_below bounds.most bounds.least then Err (LeftOut s.place)
    else signed (is_lazy bounds.form behind) (is_possessive bounds.form behind) bounds count b s

abbrev pub repeat_at : Bounds → Option ℕ → Body → Seen → Result Stepped Fault
repeat_at bounds None b s = Err (Syntax s.place)
repeat_at bounds (Some count) b s = repeat_on bounds (drop bounds.length (rest_of s)) count b s

-- comments

-- how many characters a comment has, where it is closed; a backslash takes the character after it along
abbrev pub comment_length : Bool → ℕ → List ℕ → Option ℕ
comment_length escaped count [] = None
comment_length true count (c ∷ cs) = comment_length false (count + 1) cs
comment_length false count (c ∷ cs) = if c == 41 then Some (count + 1) else comment_length (c == 92) (count + 1) cs

abbrev pub behind_comment : Option ℕ → Body → Seen → Result Stepped Fault
behind_comment None b s = Err (Syntax (length s.text))
behind_comment (Some count) b s = go_on b (past count s)

-- back references

abbrev pub back : ℕ → Target → Options → List Item
back at target options = items.Back at target options.any_case ∷ []

-- the word characters from a place on
abbrev pub word_from : List ℕ → ℕ → List ℕ
word_from text from = word (drop from text)

-- a word that is a number, or is none
abbrev pub target_by : Bool → List ℕ → Span → Target
target_by true word span = targets.Number (number_of word)
target_by false word span = targets.Name span

abbrev pub target_of : List ℕ → Span → Target
target_of text span = target_by (is_number (word_from text span.from)) (word_from text span.from) span

-- a backslash and a number
abbrev pub number_item : Options → Seen → (List Item × Seen)
number_item options s = (
  back s.place (targets.Number (number_of (digits (drop 1 (rest_of s))))) options,
  past
      (1 + digit_count (drop 1 (rest_of s))) s,
)

abbrev pub quoted_item : (close : ℕ) → Options → Seen → Result (List Item × Seen) Fault
quoted_item close options s =
    word_at is_name_or_number close s.place (length s.text) (s.place + 3) (drop 3 (rest_of s))
    >>= λ span. Ok (back s.place (target_of s.text span) options, at_place (span.to + 1) s)

-- `\k` and a name or a number in `<>` or `''`
abbrev pub reference_item : Options → List ℕ → Seen → Result (List Item × Seen) Fault
reference_item options [] s = Err (LeftOut s.place)
reference_item options (c ∷ cs) s =
    if c == 60 then quoted_item 62 options s else if c == 39 then quoted_item 39 options s else Err (LeftOut s.place)

-- groups

abbrev pub is_named : List ℕ → Span → GroupName → Bool
is_named text name known = bytes_eq (word_from text known.name.from) (word_from text name.from)

-- a numbered group that begins
abbrev pub with_group : Option Span → Seen → Seen
with_group None s = record s { groups = s.groups + 1 }
with_group (Some name) s = record s {
  groups = s.groups + 1;
  names =
      s.names ++ record { name = name; number = s.groups + 1 } ∷ [];
}

-- what the head of a form that begins at a place does: a second group of one name is left out
abbrev pub opened : Head → ℕ → Seen → Result Seen Fault
opened (Numbered None) begin s = Ok (with_group None s)
opened (Numbered (Some name)) begin s =
    if list_any (is_named s.text name) s.names then Err (LeftOut begin) else Ok (with_group (Some name) s)
opened _ begin s = Ok s

-- the `)` of a form, which the rest of an enclosing one has not
abbrev pub closed_by : List ℕ → Seen → Result Seen Fault
closed_by [] s = Err (Syntax (length s.text))
closed_by (c ∷ cs) s = Ok (past 1 s)

abbrev pub closed : Head → Seen → Result Seen Fault
closed (Rest options) s = Ok s
closed _ s = closed_by (rest_of s) s

abbrev pub one_item : (ListId → Item) → (ListId × Seen) → (List Item × Seen)
one_item form r = (form r.0 ∷ [], r.1)

-- the items of a form that has ended: its head, the number of groups when it began, its place and its body
abbrev pub made : Head → (number begin : ℕ) → Body → Seen → (List Item × Seen)
made (Numbered name) number begin b s = one_item (items.Group number) (body_list b s)
made (Plain options) number begin b s = body_items b s
made (Rest options) number begin b s = body_items b s
made (Ahead wanted) number begin b s = one_item (λ id. items.Ahead id wanted) (body_list b s)
made (Behind wanted) number begin b s = (
  items.Behind begin (b.ended ++ next_id s ∷ []) wanted ∷ [],
  with_list
      (open_items b) s,
)
made Atomic number begin b s = one_item items.Atomic (body_list b s)

abbrev pub group_at : BodyReader → Options → Seen → Result (List Item × Seen) Fault
group_at go options s =
    head_at options s.place (length s.text) (drop 1 (rest_of s))
    >>= λ head. opened head.0 s.place (at_place head.1 s)
    >>= λ begun. go (inside head.0 options) begun
    >>= λ read. closed head.0 read.1
    >>= λ ended. Ok (made head.0 begun.groups s.place read.0 ended)

-- single characters and sets

abbrev pub single_item : Options → ℕ → Seen → Result (List Item × Seen) Fault
single_item options depth s =
    single_at options depth s.place (rest_of s)
    >>= λ read. Ok (items.One s.place options depth ∷ [], at_place read.place s)

-- one step, by what stands here, where so many forms may open within it
abbrev pub step_by : BodyReader → ℕ → Options → Sight → Body → Seen → Result Stepped Fault
step_by go levels options End b s = stop b s
step_by go levels options Close b s = stop b s
step_by go levels options Bar b s = go_on (after_bar b s) (past 1 (with_list (open_items b) s))
step_by go levels options Blank b s = go_on b (past 1 s)
step_by go levels options Remark b s = go_on b (past (prefix_len (λ c. not (c == 10)) (rest_of s)) s)
step_by go levels options Comment b s = behind_comment (comment_length false 3 (drop 3 (rest_of s))) b s
step_by go levels options (Repeat bounds) b s = repeat_at bounds b.repeats b s
step_by go levels options Open b s = adds b (group_at go options s)
step_by go levels options (Edge anchor size) b s = add b (items.At anchor ∷ [], past size s)
step_by go levels options Number b s = add b (number_item options s)
step_by go levels options Reference b s = adds b (reference_item options (drop 2 (rest_of s)) s)
step_by go levels options Single b s = adds b (single_item options (most_levels - levels) s)

abbrev pub step : BodyReader → ℕ → Options → Body → Seen → Result Stepped Fault
step go levels options b s = step_by go levels options (sight_at options (rest_of s)) b s

abbrev pub after_step : (Body → Seen → Result (Body × Seen) Fault) → Bool → Body → Seen → Result (Body × Seen) Fault
after_step next true b s = next b s
after_step next false b s = Ok (b, s)

-- Steps up to the body's end. The first number bounds how many; there are fewer, since each takes a character.
unfoldable pub steps : BodyReader → ℕ → ℕ → Options → Body → Seen → Result (Body × Seen) Fault
steps go zero levels options b s = Err (Syntax s.place)
steps go (suc count) levels options b s =
    step go levels options b s >>= λ r. after_step (steps go count levels options) r.more r.body r.seen

-- The body of a form or of the whole, which takes one level; in it forms may open in what is left, one in another.
unfoldable pub body_at : ℕ → BodyReader
body_at zero options s = Err (TooDeep (most_levels + 1))
body_at (suc levels) options s = steps (body_at levels) (length s.text + 1) levels options empty_body s

-- A text that is read: its lists, the list that is the whole, and its groups.
pub record Parsed : Type 0 where
  pub lists : List (List Item)
  pub top : ListId
  pub groups : ℕ
  pub names : List GroupName

abbrev pub parsed_of : (ListId × Seen) → Parsed
parsed_of r = record { lists = r.1.lists; top = r.0; groups = r.1.groups; names = r.1.names }

-- the whole, which ends with the text: a `)` has no group
abbrev pub whole_by : List ℕ → Body → Seen → Result Parsed Fault
whole_by [] b s = Ok (parsed_of (body_list b s))
whole_by (c ∷ cs) b s = Err (Syntax s.place)

abbrev pub no_options : Options
no_options = record { any_case = false; dot_all = false; spaced = false }

abbrev pub start : List ℕ → Seen
start text = record { text = text; place = 0; lists = []; groups = 0; names = [] }

abbrev pub parse : List ℕ → Result Parsed Fault
parse text = body_at (most_levels + 1) no_options (start text) >>= λ read. whole_by (rest_of read.1) read.0 read.1
