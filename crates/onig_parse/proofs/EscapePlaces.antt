-- An escape ends further on than it begins, and its fault fits the text.
use Rattle.std.proofs.Common.{◌≡◌, ℕ, ◌+◌, ◌<◌, ◌≤◌, ◌==◌, List, [], ◌∷◌, length, take, drop, Bool, nat_lt, Option}
use Rattle.std.proofs.Common.{Some, None, refl, arith}
use Rattle.std.specs.Char.{is_ascii_alphanumeric, is_digit}
use Rattle.std.proofs.lemmas.Bool.{cond_both}
use Rattle.std.proofs.lemmas.List.{length-take}
use Rattle.std.proofs.lemmas.List.Sums.{prefix_len-le-length}
use Rattle.std.proofs.lemmas.List.Quantifiers.{position-Some}
use Rattle.char_sets.specs.declared.named.NamedSet.{NamedSet}
use Rattle.syntax_defs.specs.Escapes.{property_by, property_or_fault, closing, property_to, property_at, hex_count}
use Rattle.syntax_defs.specs.Escapes.{hex_value, is_scalar, scalar_or_fault, byte_at, unicode_at, brace_at, braced_at}
use Rattle.syntax_defs.specs.Escapes.{hex_at, control_of, set_of, longer_escape, escape_or_longer, escape_by}
use Rattle.syntax_defs.specs.Escapes.{behind_backslash}
use Rattle.onig_parse.proofs.PlaceLemmas.{ReadsOn, left_behind}

-- properties

property_or_fault-on : (begin end next : ℕ) (rest : List ℕ) (set : Option (NamedSet × Bool)) → begin < next
    → next + length rest ≡ end → ReadsOn begin end (property_or_fault begin next rest set)
property_or_fault-on begin end next rest None on left = omega arith
property_or_fault-on begin end next rest (Some set) on left = record { on = on; left = left }

property_to-on : (begin end : ℕ) (negated : Bool) (rest : List ℕ) (close : Option ℕ) → closing rest ≡ close
    → begin + 3 + length rest ≡ end → ReadsOn begin end (property_to begin negated rest close)
property_to-on begin end negated rest None e left = omega arith
property_to-on begin end negated rest (Some k) e left =
    let inside : k < length rest = (position-Some (λ c. c == 125) rest k 0 e).0 in
    property_or_fault-on begin end (begin + k + 4) (drop (k + 1) rest) (property_by negated (take k rest)) (omega arith)
    (omega (arith, left_behind (k + 1) rest (omega arith)))

property_at-on : (begin end : ℕ) (negated : Bool) (rest : List ℕ) → begin + 2 + length rest ≡ end
    → ReadsOn begin end (property_at begin negated rest)
unfolding property_at
property_at-on begin end negated [] left = omega arith
property_at-on begin end negated (c ∷ rest) left =
    cond_both (c == 123) _ _ (ReadsOn begin end)
    (λ _. property_to-on begin end negated rest (closing rest) refl (omega arith))
    (λ _. omega arith)

-- hexadecimal digits

hex_count-inside : (most : ℕ) (rest : List ℕ) → hex_count most rest ≤ length rest
hex_count-inside most rest = omega (
  arith,
  prefix_len-le-length (λ c. is_digit c 16) (take most rest),
  length-take
      most rest,
)

scalar_or_fault-on : (begin end code next : ℕ) (rest : List ℕ) → begin < next → next + length rest ≡ end
    → ReadsOn begin end (scalar_or_fault begin code next rest)
scalar_or_fault-on begin end code next rest on left =
    cond_both (is_scalar code) _ _ (ReadsOn begin end) (λ _. record { on = on; left = left }) (λ _. omega arith)

byte_at-on : (begin end : ℕ) (rest : List ℕ) → begin + 2 + length rest ≡ end → ReadsOn begin end (byte_at begin rest)
unfolding byte_at
byte_at-on begin end rest left =
    cond_both (hex_count 2 rest == 0) _ _ (ReadsOn begin end) (λ _. omega arith) λ _.
    cond_both (nat_lt 0x7F (hex_value (take (hex_count 2 rest) rest))) _ _ (ReadsOn begin end) (λ _. omega arith) λ _.
    record { on = omega arith; left = omega (arith, left_behind (hex_count 2 rest) rest (hex_count-inside 2 rest)) }

unicode_at-on : (begin end : ℕ) (rest : List ℕ) → begin + 2 + length rest ≡ end
    → ReadsOn begin end (unicode_at begin rest)
unfolding unicode_at
unicode_at-on begin end rest left =
    cond_both (hex_count 4 rest == 0) _ _ (ReadsOn begin end) (λ _. omega arith) λ _.
    cond_both (nat_lt (hex_count 4 rest) 4) _ _ (ReadsOn begin end) (λ _. omega arith) λ _.
    scalar_or_fault-on begin end (hex_value (take (hex_count 4 rest) rest)) (begin + 2 + hex_count 4 rest)
    (drop (hex_count 4 rest) rest) (omega arith)
    (omega (arith, left_behind (hex_count 4 rest) rest (hex_count-inside 4 rest)))

brace_at-on : (begin end code next : ℕ) (rest : List ℕ) → begin < next → next + length rest ≡ end
    → ReadsOn begin end (brace_at begin code next rest)
brace_at-on begin end code next [] on left = omega arith
brace_at-on begin end code next (c ∷ rest) on left =
    cond_both (c == 125) _ _ (ReadsOn begin end)
    (λ _. scalar_or_fault-on begin end code (next + 1) rest (omega arith) (omega arith))
    (λ _. omega arith)

braced_at-on : (begin end : ℕ) (rest : List ℕ) → begin + 3 + length rest ≡ end
    → ReadsOn begin end (braced_at begin rest)
unfolding braced_at
braced_at-on begin end rest left =
    cond_both (length rest == 0) _ _ (ReadsOn begin end) (λ _. omega arith) λ _.
    cond_both (hex_count 8 rest == 0) _ _ (ReadsOn begin end) (λ _. omega arith) λ _.
    brace_at-on begin end (hex_value (take (hex_count 8 rest) rest)) (begin + 3 + hex_count 8 rest)
    (drop (hex_count 8 rest) rest) (omega arith)
    (omega (arith, left_behind (hex_count 8 rest) rest (hex_count-inside 8 rest)))

hex_at-on : (begin end : ℕ) (rest : List ℕ) → begin + 2 + length rest ≡ end → ReadsOn begin end (hex_at begin rest)
unfolding hex_at
hex_at-on begin end [] left = omega arith
hex_at-on begin end (c ∷ rest) left =
    cond_both (c == 123) _ _ (ReadsOn begin end) (λ _. braced_at-on begin end rest (omega arith))
    (λ _. byte_at-on begin end (c ∷ rest) left)

-- the escape as a whole

longer_escape-on : (begin end c : ℕ) (rest : List ℕ) → begin + 2 + length rest ≡ end
    → ReadsOn begin end (longer_escape begin c rest)
longer_escape-on begin end c rest left =
    cond_both (c == 120) _ _ (ReadsOn begin end) (λ _. hex_at-on begin end rest left) λ _.
    cond_both (c == 117) _ _ (ReadsOn begin end) (λ _. unicode_at-on begin end rest left) λ _.
    cond_both (c == 112) _ _ (ReadsOn begin end) (λ _. property_at-on begin end _ rest left) λ _.
    cond_both (c == 80) _ _ (ReadsOn begin end) (λ _. property_at-on begin end _ rest left) λ _.
    cond_both (is_ascii_alphanumeric c) _ _ (ReadsOn begin end) (λ _. omega arith) λ _.
    record { on = omega arith; left = left }

escape_or_longer-on : (begin end c : ℕ) (rest : List ℕ) (code : Option ℕ) (set : Option (NamedSet × Bool))
    → begin + 2 + length rest ≡ end → ReadsOn begin end (escape_or_longer begin c rest code set)
escape_or_longer-on begin end c rest (Some code) set left = record { on = omega arith; left = left }
escape_or_longer-on begin end c rest None (Some set) left = record { on = omega arith; left = left }
escape_or_longer-on begin end c rest None None left = longer_escape-on begin end c rest left

escape_by-on : (begin end c : ℕ) (rest : List ℕ) → begin + 2 + length rest ≡ end
    → ReadsOn begin end (escape_by begin c rest)
unfolding escape_by
escape_by-on begin end c rest left = escape_or_longer-on begin end c rest (control_of c) (set_of c) left

pub behind_backslash-on : (begin end : ℕ) (rest : List ℕ) → begin + 1 + length rest ≡ end
    → ReadsOn begin end (behind_backslash begin rest)
unfolding behind_backslash
behind_backslash-on begin end [] left = omega arith
behind_backslash-on begin end (c ∷ rest) left = escape_by-on begin end c rest (omega arith)
