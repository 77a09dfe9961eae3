-- Tests of a whole text: how long what a lookbehind sees is, and whether the groups of back references are there.
use Rattle.std.specs.Prelude.{ℕ, ◌+◌, ◌*◌, ◌==◌, nat_le, nat_lt, min, List, [], ◌∷◌, ◌++◌, length, fold, find}
use Rattle.std.specs.Prelude.{slice_get, Bool, true, false, ◌&&◌, if◌then◌else◌, Option, Some, None, is_none}
use Rattle.std.specs.Prelude.{option_and_then, Result, Ok, Err}
use Rattle.std.specs.List.{list_any, list_all}
use Rattle.pattern_defs.specs.declared.nodes.ListId.{ListId}
use Rattle.syntax_defs.specs.declared.items.GroupName.{GroupName}
use Rattle.syntax_defs.specs.declared.items.Target.{Target}
use Rattle.syntax_defs.specs.declared.items.Target.TheVariants as targets
use Rattle.syntax_defs.specs.declared.items.Item.{Item}
use Rattle.syntax_defs.specs.declared.items.Item.TheVariants.{One, At, Choice, Group, Repeat, Ahead, Behind, Atomic}
use Rattle.syntax_defs.specs.declared.items.Item.TheVariants.{Back}
use Rattle.syntax_defs.specs.Limits.{most_pattern_chars, most_length}
use Rattle.syntax_defs.specs.Reading.{Fault, LeftOut, TooLong, ◌>>=◌}
use Rattle.syntax_defs.specs.PatternSyntax.{Parsed, parse, is_named}

-- A length, or none where it is open. One above the limit counts as open.
abbrev pub capped : ℕ → Option ℕ
capped n = if nat_le n most_length then Some n else None

abbrev pub plus : Option ℕ → Option ℕ → Option ℕ
plus (Some m) (Some n) = capped (m + n)
plus (Some m) None = None
plus None n = None

-- the lengths of the lists so far, by their numbers
abbrev pub length_of : List (Option ℕ) → ListId → Option ℕ
length_of lengths id = option_and_then (λ n. n) (slice_get lengths id.0)

abbrev pub is_length : ℕ → Option ℕ → Bool
is_length n None = false
is_length n (Some m) = m == n

abbrev pub same_length : List (Option ℕ) → Option ℕ → List ListId → Option ℕ
same_length lengths None ids = None
same_length lengths (Some n) ids = if list_all (λ id. is_length n (length_of lengths id)) ids then Some n else None

-- inner alternatives have equal lengths
abbrev pub choice_length : List (Option ℕ) → List ListId → Option ℕ
choice_length lengths [] = None
choice_length lengths (id ∷ ids) = same_length lengths (length_of lengths id) ids

abbrev pub times : Option ℕ → ℕ → Option ℕ
times None n = None
times (Some m) n = capped (m * n)

-- a repeat with equal bounds has the product
abbrev pub repeat_length : Option ℕ → ℕ → Option ℕ → Option ℕ
repeat_length body least None = None
repeat_length body least (Some most) = if most == least then times body least else None

abbrev pub item_length : List (Option ℕ) → Item → Option ℕ
item_length lengths (One at options depth) = Some 1
item_length lengths (At anchor) = Some 0
item_length lengths (Choice ids) = choice_length lengths ids
item_length lengths (Group number body) = length_of lengths body
item_length lengths (Repeat body least most greedy) = repeat_length (length_of lengths body) least most
item_length lengths (Ahead body wanted) = Some 0
item_length lengths (Behind at arms wanted) = Some 0
item_length lengths (Atomic body) = length_of lengths body
item_length lengths (Back at target fold) = None

-- the sum of lengths, on from one
abbrev pub sum_from : List (Option ℕ) → Option ℕ → List Item → Option ℕ
sum_from lengths sum [] = sum
sum_from lengths sum (item ∷ items) = sum_from lengths (plus sum (item_length lengths item)) items

abbrev pub items_length : List (Option ℕ) → List Item → Option ℕ
items_length lengths items = sum_from lengths (Some 0) items

abbrev pub lengths_from : List (Option ℕ) → List (List Item) → List (Option ℕ)
lengths_from lengths [] = lengths
lengths_from lengths (items ∷ lists) = lengths_from (lengths ++ items_length lengths items ∷ []) lists

abbrev pub lengths_of : List (List Item) → List (Option ℕ)
lengths_of lists = lengths_from [] lists

-- back references

-- the number of the group of a name
abbrev pub number_of_name : Option GroupName → Option ℕ
number_of_name None = None
number_of_name (Some known) = Some known.number

-- the group of a back reference, where the text has it
abbrev pub group_of : List ℕ → Parsed → Target → Option ℕ
group_of text parsed (targets.Number n) = if nat_lt 0 n && nat_le n parsed.groups then Some n else None
group_of text parsed (targets.Name name) = number_of_name (find (is_named text name) parsed.names)

-- faults that the whole text shows

-- the place of an item that can't be kept: its group isn't there, or an alternative has an open length
abbrev pub late_place : List ℕ → Parsed → List (Option ℕ) → Item → Option ℕ
late_place text parsed lengths (Back at target fold) = if is_none (group_of text parsed target) then Some at else None
late_place text parsed lengths (Behind at arms wanted) =
    if list_any (λ id. is_none (length_of lengths id)) arms then Some at else None
late_place text parsed lengths item = None

abbrev pub earlier : Option ℕ → Option ℕ → Option ℕ
earlier None n = n
earlier (Some m) None = Some m
earlier (Some m) (Some n) = Some (min m n)

-- the first place of such an item
abbrev pub late_in : List ℕ → Parsed → List (Option ℕ) → Option ℕ → List Item → Option ℕ
late_in text parsed lengths found [] = found
late_in text parsed lengths found (item ∷ items) =
    late_in text parsed lengths (earlier found (late_place text parsed lengths item)) items

abbrev pub late_among : List ℕ → Parsed → List (Option ℕ) → Option ℕ → List (List Item) → Option ℕ
late_among text parsed lengths found [] = found
late_among text parsed lengths found (items ∷ lists) =
    late_among text parsed lengths (late_in text parsed lengths found items) lists

abbrev pub late_fault : List ℕ → Parsed → Option ℕ
late_fault text parsed = late_among text parsed (lengths_of parsed.lists) None parsed.lists

abbrev pub kept_unless : Option ℕ → Parsed → Result Parsed Fault
kept_unless None parsed = Ok parsed
kept_unless (Some place) parsed = Err (LeftOut place)

abbrev pub tested : List ℕ → Parsed → Result Parsed Fault
tested text parsed = kept_unless (late_fault text parsed) parsed

abbrev pub read_within : Bool → List ℕ → Result Parsed Fault
read_within true text = Err (TooLong (length text))
read_within false text = parse text >>= tested text

-- reading a pattern text
abbrev pub read_pattern : List ℕ → Result Parsed Fault
read_pattern text = read_within (nat_lt most_pattern_chars (length text)) text
