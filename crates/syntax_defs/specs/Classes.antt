-- Classes: sets of characters between brackets. The forms are those of Oniguruma's RE with Ruby syntax; that a `-`
-- beside a set is itself, and that letters are joined with their other case before all else, is this project's own.
use Rattle.std.specs.Prelude.{ℕ, zero, suc, ◌+◌, ◌-◌, ◌==◌, nat_lt, nat_eq, List, [], ◌∷◌, length, drop, slice_range}
use Rattle.std.specs.Prelude.{Bool, true, false, ◌&&◌, ◌||◌, not, if◌then◌else◌, is_none, Option, Some, None, Result}
use Rattle.std.specs.Prelude.{Ok, Err}
use Rattle.std.specs.List.{prefix_len, starts_with}
use Rattle.char_sets.specs.Case.{other_case, is_from_to}
use Rattle.char_sets.specs.Named.{is_word}
use Rattle.char_sets.specs.declared.named.NamedSet.{NamedSet}
use Rattle.syntax_defs.specs.declared.class_part.ClassPart.{ClassPart}
use Rattle.syntax_defs.specs.declared.class_part.ClassPart.TheVariants as parts
use Rattle.syntax_defs.specs.Limits.{most_levels}
use Rattle.syntax_defs.specs.Reading.{Fault, Syntax, LeftOut, TooDeep, Read, ◌>>=◌}
use Rattle.syntax_defs.specs.Sights.{begins_with, is_name_start}
use Rattle.syntax_defs.specs.Escapes.{Escaped, Char, Set, Escape, escaped_char, escaped_set, complement_if}
use Rattle.syntax_defs.specs.Escapes.{behind_backslash, named_bracket}

-- reading a set at a place
abbrev pub SetReader : Type 0
SetReader = (place : ℕ) → List ℕ → Result (Read (ℕ → Bool)) Fault

-- sets of characters

-- under the option `i` a letter stands for both of its ASCII cases
abbrev pub test_folded : (fold : Bool) → (ℕ → Bool) → ℕ → Bool
test_folded true p c = p c || p (other_case c)
test_folded false p c = p c

-- one character, which stands for itself
abbrev pub is_char_folded : (fold : Bool) → (char : ℕ) → ℕ → Bool
is_char_folded fold char = test_folded fold (is_from_to char char)

-- the dot: any character but LF, and under the option `m` any
abbrev pub is_dot : (many : Bool) → ℕ → Bool
is_dot true c = true
is_dot false c = not (c == 10)

-- names in brackets

-- how long the name is that a text begins with: a character that may begin one, and word characters behind it
abbrev pub name_length : List ℕ → ℕ
name_length [] = 0
name_length (c ∷ rest) = if is_name_start c then 1 + prefix_len is_word rest else 0

-- whether a bracket is a complement, and where its name begins and ends, behind the `[`
abbrev pub Bracket : Type 0
Bracket = Bool × ℕ × ℕ

-- where a name and `:]` follow
abbrev pub named_by : (negated : Bool) (from : ℕ) → List ℕ → Option Bracket
named_by negated from rest =
    let long = name_length rest in
    if nat_lt 0 long && starts_with nat_eq (drop long rest) (58 ∷ 93 ∷ []) then Some (negated, from, from + long) else
    None

unfoldable pub behind_colon : List ℕ → Option Bracket
behind_colon [] = named_by false 1 []
behind_colon (c ∷ rest) = if c == 94 then named_by true 2 rest else named_by false 1 (c ∷ rest)

-- the bracket `[:name:]` or `[:^name:]`, if one begins here, what stands behind its `[` given
unfoldable pub bracket_at : List ℕ → Option Bracket
bracket_at [] = None
bracket_at (c ∷ rest) = if c == 58 then behind_colon rest else None

-- single characters, ranges, escapes and brackets

-- behind a backslash in a class, where `\b` is the character 8
unfoldable pub behind_class_backslash : (place : ℕ) → List ℕ → Escape
behind_class_backslash place [] = Err (Syntax place)
behind_class_backslash place (c ∷ rest) =
    if c == 98 then escaped_char 8 (place + 2) rest
    else behind_backslash place (c ∷ rest)

abbrev pub set_or_fault : (place next : ℕ) → List ℕ → (negated : Bool) → Option NamedSet → Escape
set_or_fault place next rest negated None = Err (LeftOut place)
set_or_fault place next rest negated (Some set) = escaped_set (set, negated) next rest

abbrev pub bracket_or_fault : (place : ℕ) → List ℕ → Option Bracket → Escape
bracket_or_fault place rest None = Err (Syntax place)
bracket_or_fault place rest (Some (negated, from, to)) =
    set_or_fault place (place + to + 3) (drop (to + 2) rest) negated (named_bracket (slice_range rest from to))

-- a bracket, behind its `[`
unfoldable pub behind_bracket : (place : ℕ) → List ℕ → Escape
behind_bracket place rest = bracket_or_fault place rest (bracket_at rest)

-- one character or a set, from its first character on
unfoldable pub item_at : (place : ℕ) → List ℕ → Escape
item_at place [] = Err (Syntax place)
item_at place (c ∷ rest) =
    if c == 92 then behind_class_backslash place rest
    else if c == 91 then behind_bracket place rest
    else escaped_char c (place + 1) rest

abbrev pub char_of_value : Read Escaped → Escaped → Option (Read ℕ)
char_of_value item (Char c) = Some (record { value = c; place = item.place; rest = item.rest })
char_of_value item (Set p) = None

abbrev pub char_of : Escape → Option (Read ℕ)
char_of (Ok item) = char_of_value item item.value
char_of (Err fault) = None

-- the single character that a text begins with, if one does
unfoldable pub range_char_at : (place : ℕ) → List ℕ → Option (Read ℕ)
range_char_at place [] = None
range_char_at place (c ∷ rest) =
    if c == 92 then char_of (behind_class_backslash place rest)
    else if (c == 91 || c == 93) || (c == 38 && begins_with 38 rest) then None
    else Some (record { value = c; place = place + 1; rest = rest })

-- the last character of a range, behind its first: a `-`, and a single character
unfoldable pub range_end : (place : ℕ) → List ℕ → Option (Read ℕ)
range_end place [] = None
range_end place (c ∷ rest) = if c == 45 then range_char_at (place + 1) rest else None

-- a range from `first` on, or the one character, which ends at `next`
abbrev pub range_or_one : (fold : Bool) (place first next : ℕ) → List ℕ → Option (Read ℕ)
    → Result (Read (ℕ → Bool)) Fault
range_or_one fold place first next rest None =
    Ok (record { value = is_char_folded fold first; place = next; rest = rest })
range_or_one fold place first next rest (Some last) =
    if nat_lt last.value first then Err (Syntax place)
    else Ok (record { value = test_folded fold (is_from_to first last.value); place = last.place; rest = last.rest })

abbrev pub member_from : (fold : Bool) (place next : ℕ) → List ℕ → Escaped → Result (Read (ℕ → Bool)) Fault
member_from fold place next rest (Char c) = range_or_one fold place c next rest (range_end next rest)
member_from fold place next rest (Set p) = Ok (record { value = p; place = next; rest = rest })

-- a member of a class that is no class itself
unfoldable pub member_at : (fold : Bool) → SetReader
member_at fold place rest = item_at place rest >>= λ item. member_from fold place item.place item.rest item.value

-- classes

-- the characters of a class so far: what all unions before the last `&&` have together, and the union since
pub record Sides : Type 0 where
  pub before : ℕ → Bool
  pub here : ℕ → Bool

abbrev pub no_members : Sides
no_members = record { before = λ c. true; here = λ c. false }

abbrev pub with_member : Sides → (ℕ → Bool) → Sides
with_member sides p = record { before = sides.before; here = λ c. sides.here c || p c }

abbrev pub together : Sides → ℕ → Bool
together sides c = sides.before c && sides.here c

abbrev pub next_side : Sides → Sides
next_side sides = record { before = together sides; here = λ c. false }

-- What stands next in a class. A `]` ends it, but not as its very first member.
unfoldable pub part_at : (first : Bool) → List ℕ → ClassPart
part_at first [] = parts.End
part_at first (c ∷ rest) =
    if c == 93 && not first then parts.Close
    else if c == 38 && begins_with 38 rest then parts.And
    else if c == 91 && is_none (bracket_at rest) then parts.Class
    else parts.Member

abbrev pub by_part : (go : Sides → SetReader) (nested : SetReader) (fold : Bool) → Sides → (place : ℕ) → List ℕ
    → ClassPart → Result (Read (ℕ → Bool)) Fault
by_part go nested fold sides place rest parts.End = Err (Syntax place)
by_part go nested fold sides place rest parts.Close =
    Ok (record { value = together sides; place = place + 1; rest = drop 1 rest })
by_part go nested fold sides place rest parts.And = go (next_side sides) (place + 2) (drop 2 rest)
by_part go nested fold sides place rest parts.Class =
    nested place rest >>= λ x. go (with_member sides x.value) x.place x.rest
by_part go nested fold sides place rest parts.Member =
    member_at fold place rest >>= λ x. go (with_member sides x.value) x.place x.rest

-- the members of a class up to its `]`, at most so many
unfoldable pub members_at : (nested : SetReader) (fold first : Bool) (most : ℕ) → Sides → SetReader
members_at nested fold first zero sides place rest = Err (Syntax place)
members_at nested fold first (suc most) sides place rest =
    by_part (members_at nested fold false most) nested fold sides place rest (part_at first rest)

-- behind the `[`, or the `[^`
abbrev pub class_body_at : (nested : SetReader) (fold negated : Bool) → SetReader
class_body_at nested fold negated place rest =
    let opened = if negated then 2 else 1 in
    members_at nested fold true (length rest) no_members (place + opened) (drop opened rest)
    >>= λ x. Ok (record { value = complement_if negated x.value; place = x.place; rest = x.rest })

-- a class, where so many levels of classes may still be opened
unfoldable pub class_within : (levels : ℕ) (fold : Bool) → SetReader
class_within zero fold place rest = Err (TooDeep (most_levels + 1))
class_within (suc levels) fold place rest =
    class_body_at (class_within levels fold) fold (begins_with 94 (drop 1 rest)) place rest

-- A class, from its `[` on. So many groups and classes are open round it.
abbrev pub class_at : (fold : Bool) (depth : ℕ) → SetReader
class_at fold depth = class_within (most_levels - depth) fold
