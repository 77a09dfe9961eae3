-- JSON pointers (RFC 6901) of the values of a wrong kind, in the order in which a file is walked.
use Rattle.std.specs.List.{flat_map}
use Rattle.std.specs.Prelude.{ℕ, codes, ◌==◌, List, [], ◌∷◌, ◌++◌, map, Option, Some, None, if◌then◌else◌}

abbrev pub Pointer : Type 0
Pointer = List ℕ

-- `~0` stands for `~`, and `~1` for `/`
abbrev pub escaped_byte : ℕ → List ℕ
escaped_byte c = if c == 126 then codes "~0" else (if c == 47 then codes "~1" else c ∷ [])

abbrev pub escaped : List ℕ → List ℕ
escaped key = flat_map escaped_byte key

-- the pointer from a value to what a pointer of its member means
abbrev pub below : List ℕ → Pointer → Pointer
below key pointer = 47 ∷ (escaped key ++ pointer)

abbrev pub all_below : List ℕ → List Pointer → List Pointer
all_below key pointers = map (below key) pointers

-- the value itself
abbrev pub itself : List Pointer
itself = [] ∷ []

abbrev pub first : List Pointer → Option Pointer
first [] = None
first (pointer ∷ pointers) = Some pointer
