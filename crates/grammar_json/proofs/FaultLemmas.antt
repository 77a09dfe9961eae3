-- The first fault of two lists, one after the other; a key's bytes in a pointer, one after the other.
use Rattle.std.proofs.Common.{◌≡◌, ℕ, ◌<◌, ◌+◌, List, [], ◌∷◌, ◌++◌, length, take, get_or, Some, ap, sym, ◌∙◌, arith}
use Rattle.std.proofs.lemmas.List.{flat_map_more, take_more}
use Rattle.std.specs.List.{flat_map}
use Rattle.grammar_defs.specs.Pointers.{Pointer, first, escaped, escaped_byte}
use Rattle.grammar_json.specs.Faults.{IsFirst}
use Rattle.grammar_json.specs.declared.fault.Fault.{Fault}
use Rattle.grammar_json.specs.declared.fault.Fault.TheVariants.{Shape, Memory}

first_append : (a b : List Pointer) (p : Pointer) → first a ≡ Some p → first (a ++ b) ≡ Some p
first_append [] b p h = absurd (grind (arith, h))
first_append (x ∷ a) b p h = h

pub IsFirst_append : (e : Fault) (a b : List Pointer) → IsFirst e a → IsFirst e (a ++ b)
IsFirst_append (Shape path) a b h = first_append a b path h
IsFirst_append Memory a b h = tt

pub escaped_more : (path key : List ℕ) (i : ℕ) → i < length key
    → (path ++ escaped (take i key)) ++ escaped_byte (get_or key i 0) ≡ path ++ escaped (take (i + 1) key)
escaped_more path key i h = flat_map_more escaped_byte path (take i key) (get_or key i 0)
    ∙ ap (λ xs. path ++ flat_map escaped_byte xs) (sym (take_more key i 0 h))
