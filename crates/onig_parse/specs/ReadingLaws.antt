-- Laws of reading a pattern text: what a fault tells of its text, that no reading stops for want of steps, and what a
-- text without signs is.
use Rattle.std.specs.Prelude.{◌≡◌, ◌⊎◌, ℕ, ◌+◌, ◌<◌, ◌≤◌, ◌==◌, List, [], ◌∷◌, codes, length, drop, get_or, Bool}
use Rattle.std.specs.Prelude.{true, false, Ok, Err}
use Rattle.std.specs.List.{list_any}
use Rattle.syntax_defs.specs.declared.items.Options.{Options}
use Rattle.syntax_defs.specs.declared.items.Item.{Item}
use Rattle.syntax_defs.specs.declared.items.Item.TheVariants.{One}
use Rattle.syntax_defs.specs.Limits.{most_pattern_chars, most_levels, most_repeats}
use Rattle.syntax_defs.specs.Reading.{Fault, Syntax, LeftOut, TooDeep, TooLong, Read}
use Rattle.syntax_defs.specs.Classes.{Sides, is_char_folded, member_at, class_within, members_at}
use Rattle.syntax_defs.specs.Singles.{single_at}
use Rattle.syntax_defs.specs.PatternSyntax.{Seen, Body, Stepped, Parsed, rest_of, step, steps, body_at, no_options}
use Rattle.syntax_defs.specs.Lengths.{read_pattern}

-- What a fault tells of a text of so many characters: its place is one of the text or the end, its depth one above a
-- limit, and its count that of the text, which is above the limit.
abbrev pub FitsText : (end : ℕ) → Fault → Type 0
FitsText end (Syntax at) = at ≤ end
FitsText end (LeftOut at) = at ≤ end
FitsText end (TooDeep depth) = (depth ≡ most_levels + 1) ⊎ (depth ≡ most_repeats + 1)
FitsText end (TooLong count) = (count ≡ end) × (most_pattern_chars < count)

abbrev pub EachFaultFitsItsText : Type 0
EachFaultFitsItsText = (text : List ℕ) (fault : Fault) → read_pattern text ≡ Err fault → FitsText (length text) fault

-- a step behind which the body goes on has taken a character
abbrev pub EachStepTakesACharacter : Type 0
EachStepTakesACharacter =
    (levels : ℕ) (options : Options) (b : Body) (s : Seen) (r : Stepped) → step (body_at levels) levels options b s
    ≡ Ok r →
    r.more ≡ true → length (rest_of r.seen) < length (rest_of s)

-- so more steps than characters that are left are enough: with any more the same is read
abbrev pub StepsSuffice : Type 0
StepsSuffice =
    (levels count more : ℕ) (options : Options) (b : Body) (s : Seen) → length (rest_of s) < count →
    steps (body_at levels) count levels options b s ≡ steps (body_at levels) (count + more) levels options b s

-- the same of the members of a class, one of which may be a class
abbrev pub EachMemberTakesACharacter : Type 0
EachMemberTakesACharacter =
    (fold : Bool) (place : ℕ) (rest : List ℕ) (x : Read (ℕ → Bool)) → member_at fold place rest ≡ Ok x
    → length x.rest < length rest

abbrev pub EachClassTakesACharacter : Type 0
EachClassTakesACharacter =
    (levels : ℕ) (fold : Bool) (place : ℕ) (rest : List ℕ) (x : Read (ℕ → Bool)) → 0 < length rest →
    class_within levels fold place rest ≡ Ok x → length x.rest < length rest

abbrev pub MembersSuffice : Type 0
MembersSuffice =
    (levels most more : ℕ) (fold first : Bool) (sides : Sides) (place : ℕ) (rest : List ℕ) → length rest < most →
    members_at (class_within levels fold) fold first most sides place rest
    ≡ members_at (class_within levels fold) fold first (most + more) sides place rest

-- the characters that have a meaning of their own outside of classes
abbrev pub is_sign : ℕ → Bool
is_sign c = list_any (λ d. c == d) (codes "\\[(){*+?|^$.")

-- one item for each character, the first of which stands at a place
abbrev pub ones_from : (at : ℕ) → List ℕ → List Item
ones_from at [] = []
ones_from at (c ∷ cs) = One at no_options 0 ∷ ones_from (at + 1) cs

-- a text of other characters is one list, with an item for each
abbrev pub plain_text : List ℕ → Parsed
plain_text text = record { lists = ones_from 0 text ∷ []; top = record { 0 = 0 }; groups = 0; names = [] }

-- the item of each character takes just that
abbrev pub TakesEach : List ℕ → Type 0
TakesEach text =
    (at : ℕ) → at < length text →
    single_at no_options 0 at (drop at text)
    ≡ Ok (record { value = is_char_folded false (get_or text at 0); place = at + 1; rest = drop (at + 1) text })

abbrev pub PlainTextsAreRead : Type 0
PlainTextsAreRead =
    (text : List ℕ) → list_any is_sign text ≡ false → length text ≤ most_pattern_chars →
    (read_pattern text ≡ Ok (plain_text text)) × TakesEach text
