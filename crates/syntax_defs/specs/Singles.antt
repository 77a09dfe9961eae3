-- Single characters and sets of a pattern text: which characters are taken, as a test.
use Rattle.std.specs.Prelude.{ℕ, ◌+◌, ◌==◌, List, [], ◌∷◌, Bool, if◌then◌else◌, Result, Ok, Err}
use Rattle.syntax_defs.specs.declared.items.Options.{Options}
use Rattle.syntax_defs.specs.Reading.{Fault, Syntax, Read, ◌>>=◌}
use Rattle.syntax_defs.specs.Escapes.{Escaped, Char, Set, escape_at}
use Rattle.syntax_defs.specs.Classes.{is_char_folded, is_dot, class_at}

-- what a single item begins with
pub data Start : Type 0 where
  Dot : Start
  Slash : Start
  Bracket : Start
  Itself : Start

abbrev pub start_of : ℕ → Start
start_of c = if c == 46 then Dot else if c == 92 then Slash else if c == 91 then Bracket else Itself

abbrev pub escaped_test : Bool → Escaped → ℕ → Bool
escaped_test fold (Char c) = is_char_folded fold c
escaped_test fold (Set test) = test

-- an escape as a test
abbrev pub escaped_single : Bool → Result (Read Escaped) Fault → Result (Read (ℕ → Bool)) Fault
escaped_single fold read = read >>= λ x. Ok
    (record { value = escaped_test fold x.value; place = x.place; rest = x.rest })

abbrev pub single_by : Start → Options → (depth place c : ℕ) → List ℕ → Result (Read (ℕ → Bool)) Fault
single_by Dot options depth place c cs = Ok (record { value = is_dot options.dot_all; place = place + 1; rest = cs })
single_by Slash options depth place c cs = escaped_single options.any_case (escape_at place (c ∷ cs))
single_by Bracket options depth place c cs = class_at options.any_case depth place (c ∷ cs)
single_by Itself options depth place c cs =
    Ok (record { value = is_char_folded options.any_case c; place = place + 1; rest = cs })

-- A single character or a set, inside so many groups.
abbrev pub single_at : Options → (depth place : ℕ) → List ℕ → Result (Read (ℕ → Bool)) Fault
single_at options depth place [] = Err (Syntax place)
single_at options depth place (c ∷ cs) = single_by (start_of c) options depth place c cs
