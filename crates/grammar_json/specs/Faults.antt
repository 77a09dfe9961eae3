-- What a reading tells of a value: what it stands for where nothing in it is of a wrong kind, or the first value that
-- is.
use Rattle.std.specs.Prelude.{◌≡◌, List, [], Some, Result, MatchResult, ⊤}
use Rattle.grammar_defs.specs.Pointers.{Pointer, first}
use Rattle.grammar_json.specs.declared.fault.Fault.{Fault}
use Rattle.grammar_json.specs.declared.fault.Fault.TheVariants.{Shape, Memory}

-- the fault names the first of these; want of memory names none
abbrev pub IsFirst : Fault → List Pointer → Type 0
IsFirst (Shape path) pointers = first pointers ≡ Some path
IsFirst Memory pointers = ⊤

abbrev pub Tells : {A : Type 0} → Result A Fault → List Pointer → (A → Type 0) → Type 0
Tells r pointers P = MatchResult r (λ a. (pointers ≡ []) × P a) (λ e. IsFirst e pointers)
