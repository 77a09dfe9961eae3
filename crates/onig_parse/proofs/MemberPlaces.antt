-- A member of a class ends further on than it begins, and its fault fits the text.
use Rattle.std.proofs.Common.{◌≡◌, ℕ, ◌+◌, ◌<◌, ◌≤◌, ◌==◌, List, [], ◌∷◌, length, drop, Bool, true, false, ◌&&◌, ◌||◌}
use Rattle.std.proofs.Common.{nat_lt, nat_eq, slice_range, Option, Some, None, Ok, Err, IfSome, refl, sym, ◌∙◌, arith}
use Rattle.std.specs.List.{starts_with}
use Rattle.std.proofs.lemmas.Bool.{cond_both, and_parts, and_right, false≢true}
use Rattle.std.proofs.lemmas.List.{length-drop}
use Rattle.char_sets.specs.declared.named.NamedSet.{NamedSet}
use Rattle.syntax_defs.specs.Reading.{Read}
use Rattle.syntax_defs.specs.Sights.{begins_with}
use Rattle.syntax_defs.specs.Escapes.{Escaped, Char, Set, Escape, named_bracket}
use Rattle.syntax_defs.specs.Classes.{name_length, Bracket, named_by, behind_colon, bracket_at}
use Rattle.syntax_defs.specs.Classes.{behind_class_backslash, set_or_fault, bracket_or_fault, behind_bracket, item_at}
use Rattle.syntax_defs.specs.Classes.{char_of_value, char_of, range_char_at, range_end, range_or_one, member_from}
use Rattle.syntax_defs.specs.Classes.{member_at}
use Rattle.onig_parse.proofs.PlaceLemmas.{Within-bind, Onward, ReadsOn, left_behind}
use Rattle.onig_parse.proofs.EscapePlaces.{behind_backslash-on}

-- names in brackets

colon_bracket : (xs : List ℕ) → starts_with nat_eq xs (58 ∷ 93 ∷ []) ≡ true → 2 ≤ length xs
colon_bracket [] e = absurd (false≢true e)
colon_bracket (x ∷ []) e = absurd (false≢true (sym (and_right (nat_eq 58 x) _ refl) ∙ e))
colon_bracket (x ∷ y ∷ xs) e = omega arith

-- the `:]` of a bracket stands in the text, of which so much is left
abbrev pub Closes : ℕ → Bracket → Type 0
Closes count bracket = bracket.2 + 2 ≤ count

named_by-closes : (negated : Bool) (from : ℕ) (rest : List ℕ)
    → IfSome (named_by negated from rest) (Closes (from + length rest))
named_by-closes negated from rest =
    cond_both (nat_lt 0 (name_length rest) && starts_with nat_eq (drop (name_length rest) rest) (58 ∷ 93 ∷ [])) _ _
    (λ o. IfSome o (Closes (from + length rest)))
    (λ e. let two = colon_bracket (drop (name_length rest) rest) (and_parts (nat_lt 0 (name_length rest)) _ e).1 in
    omega (arith, length-drop (name_length rest) rest))
    (λ _. tt)

behind_colon-closes : (rest : List ℕ) → IfSome (behind_colon rest) (Closes (1 + length rest))
unfolding behind_colon
behind_colon-closes [] = named_by-closes false 1 []
behind_colon-closes (c ∷ rest) =
    cond_both (c == 94) _ _ (λ o. IfSome o (Closes (1 + length (c ∷ rest))))
    (λ _. wider (named_by true 2 rest) (named_by-closes true 2 rest))
    (λ _. named_by-closes false 1 (c ∷ rest))
  where
    wider : (o : Option Bracket) → IfSome o (Closes (2 + length rest)) → IfSome o (Closes (1 + length (c ∷ rest)))
    wider None closes = tt
    wider (Some bracket) closes = omega arith

bracket_at-closes : (rest : List ℕ) → IfSome (bracket_at rest) (Closes (length rest))
unfolding bracket_at
bracket_at-closes [] = tt
bracket_at-closes (c ∷ rest) =
    cond_both (c == 58) _ _ (λ o. IfSome o (Closes (length (c ∷ rest))))
    (λ _. wider (behind_colon rest) (behind_colon-closes rest))
    (λ _. tt)
  where
    wider : (o : Option Bracket) → IfSome o (Closes (1 + length rest)) → IfSome o (Closes (length (c ∷ rest)))
    wider None closes = tt
    wider (Some bracket) closes = omega arith

set_or_fault-on : (begin end next : ℕ) (rest : List ℕ) (negated : Bool) (set : Option NamedSet) → begin < next
    → next + length rest ≡ end → ReadsOn begin end (set_or_fault begin next rest negated set)
set_or_fault-on begin end next rest negated None on left = omega arith
set_or_fault-on begin end next rest negated (Some set) on left = record { on = on; left = left }

bracket_or_fault-on : (begin end : ℕ) (rest : List ℕ) (bracket : Option Bracket)
    → IfSome bracket (Closes (length rest)) → begin + 1 + length rest ≡ end
    → ReadsOn begin end (bracket_or_fault begin rest bracket)
bracket_or_fault-on begin end rest None closes left = omega arith
bracket_or_fault-on begin end rest (Some (negated, from, to)) closes left =
    set_or_fault-on begin end (begin + to + 3) (drop (to + 2) rest) negated (named_bracket (slice_range rest from to))
    (omega arith)
    (omega (arith, left_behind (to + 2) rest closes))

behind_bracket-on : (begin end : ℕ) (rest : List ℕ) → begin + 1 + length rest ≡ end
    → ReadsOn begin end (behind_bracket begin rest)
unfolding behind_bracket
behind_bracket-on begin end rest left = bracket_or_fault-on begin end rest (bracket_at rest) (bracket_at-closes rest)
    left

-- single characters and ranges

behind_class_backslash-on : (begin end : ℕ) (rest : List ℕ) → begin + 1 + length rest ≡ end
    → ReadsOn begin end (behind_class_backslash begin rest)
unfolding behind_class_backslash
behind_class_backslash-on begin end [] left = omega arith
behind_class_backslash-on begin end (c ∷ rest) left =
    cond_both (c == 98) _ _ (ReadsOn begin end)
    (λ _. record { on = omega arith; left = omega arith })
    (λ _. behind_backslash-on begin end (c ∷ rest) left)

item_at-on : (begin end : ℕ) (rest : List ℕ) → begin + length rest ≡ end → ReadsOn begin end (item_at begin rest)
unfolding item_at
item_at-on begin end [] left = omega arith
item_at-on begin end (c ∷ rest) left =
    cond_both (c == 92) _ _ (ReadsOn begin end) (λ _. behind_class_backslash-on begin end rest (omega arith)) λ _.
    cond_both (c == 91) _ _ (ReadsOn begin end) (λ _. behind_bracket-on begin end rest (omega arith)) λ _.
    record { on = omega arith; left = omega arith }

-- a single character, if there is one, ends further on
abbrev pub CharOn : (begin end : ℕ) → Option (Read ℕ) → Type 0
CharOn begin end char = IfSome char (Onward begin end)

char_of_value-on : (begin end : ℕ) (item : Read Escaped) (value : Escaped) → Onward begin end item
    → CharOn begin end (char_of_value item value)
char_of_value-on begin end item (Char c) onward = record { on = onward.on; left = onward.left }
char_of_value-on begin end item (Set p) onward = tt

char_of-on : (begin end : ℕ) (escape : Escape) → ReadsOn begin end escape → CharOn begin end (char_of escape)
char_of-on begin end (Ok item) onward = char_of_value-on begin end item item.value onward
char_of-on begin end (Err fault) fits = tt

range_char_at-on : (begin end : ℕ) (rest : List ℕ) → begin + length rest ≡ end
    → CharOn begin end (range_char_at begin rest)
unfolding range_char_at
range_char_at-on begin end [] left = tt
range_char_at-on begin end (c ∷ rest) left =
    cond_both (c == 92) _ _ (CharOn begin end)
    (λ _. char_of-on begin end (behind_class_backslash begin rest)
    (behind_class_backslash-on begin end rest (omega arith))) λ _.
    cond_both ((c == 91 || c == 93) || (c == 38 && begins_with 38 rest)) _ _ (CharOn begin end) (λ _. tt) λ _.
    record { on = omega arith; left = omega arith }

range_end-on : (begin end next : ℕ) (rest : List ℕ) → begin < next → next + length rest ≡ end
    → CharOn begin end (range_end next rest)
unfolding range_end
range_end-on begin end next [] on left = tt
range_end-on begin end next (c ∷ rest) on left =
    cond_both (c == 45) _ _ (CharOn begin end)
    (λ _. from_further (range_char_at (next + 1) rest) (range_char_at-on (next + 1) end rest (omega arith)))
    (λ _. tt)
  where
    from_further : (o : Option (Read ℕ)) → CharOn (next + 1) end o → CharOn begin end o
    from_further None onward = tt
    from_further (Some last) onward = record { on = let more = onward.on in omega arith; left = onward.left }

range_or_one-on : (begin end : ℕ) (fold : Bool) (first next : ℕ) (rest : List ℕ) (last : Option (Read ℕ))
    → begin < next → next + length rest ≡ end → CharOn begin end last
    → ReadsOn begin end (range_or_one fold begin first next rest last)
range_or_one-on begin end fold first next rest None on left onward = record { on = on; left = left }
range_or_one-on begin end fold first next rest (Some last) on left onward =
    cond_both (nat_lt last.value first) _ _ (ReadsOn begin end) (λ _. omega arith)
    (λ _. record { on = onward.on; left = onward.left })

member_from-on : (begin end : ℕ) (fold : Bool) (next : ℕ) (rest : List ℕ) (value : Escaped) → begin < next
    → next + length rest ≡ end → ReadsOn begin end (member_from fold begin next rest value)
member_from-on begin end fold next rest (Char c) on left =
    range_or_one-on begin end fold c next rest (range_end next rest) on left (range_end-on begin end next rest on left)
member_from-on begin end fold next rest (Set p) on left = record { on = on; left = left }

pub member_at-on : (begin end : ℕ) (fold : Bool) (rest : List ℕ) → begin + length rest ≡ end
    → ReadsOn begin end (member_at fold begin rest)
unfolding member_at
member_at-on begin end fold rest left =
    Within-bind end (Onward begin end) (Onward begin end) (item_at begin rest) _
    (item_at-on begin end rest left) λ item onward.
    member_from-on begin end fold item.place item.rest item.value onward.on onward.left
