-- A selector as it is read into signs: what is kept of the reading that `scope_defs/SelectorSyntax` tells.
use Rattle.std.specs.Prelude.{ℕ, ◌+◌, ◌%◌, ◌==◌, nat_lt, List, [], ◌∷◌, ◌++◌, Bool, true, false, ◌&&◌, if◌then◌else◌}
use Rattle.std.specs.Prelude.{Option, Some, None, Result, Ok, Err, ℤ, pos}
use Rattle.scope_defs.specs.declared.limits.TheConstants.{MOST_NESTED}
use Rattle.scope_defs.specs.Scopes.{Name}
use Rattle.scope_defs.specs.SelectorSyntax.{Sign, Space, Letter, Minus, Opens, Closes, Bar, Comma, Other, sign_of}
use Rattle.scope_defs.specs.SelectorSyntax.{priority_by}
use Rattle.selectors.specs.declared.pile.Outer.{Outer}
use Rattle.selectors.specs.declared.sign.KeptEntry.{KeptEntry}
use Rattle.selectors.specs.declared.sign.Sign.TheVariants as kept
use Rattle.selectors.specs.declared.reader.Reader.{Reader}
use Rattle.selectors.specs.declared.reader.Stand.{Stand}
use Rattle.selectors.specs.declared.reader.Stand.TheVariants.{Start, Wanting, Naming, Spaced, Closed}

abbrev pub is_even : ℕ → Bool
is_even n = n % 2 == 0

-- nothing is read
abbrev pub nothing : Reader
nothing = record { entries = []; priority = pos 0; around = []; outside = 0; minuses = 0; signs = []; stand = Start }

-- a path that ends, behind its minus signs
abbrev pub with_path : List Name → Reader → Reader
with_path names r = record r {
  signs = r.signs ++ kept.Path names (is_even r.minuses) ∷ [];
  minuses = 0;
  stand =
      Wanting;
}

-- the operand at hand has ended
abbrev pub ended_at : Stand → Reader → Reader
ended_at (Naming names name begins) r = with_path (names ++ name ∷ []) r
ended_at (Spaced names) r = with_path names r
ended_at other r = r

abbrev pub ended : Reader → Reader
ended r = ended_at r.stand r

-- whether an operand may end there
abbrev pub ends_operand : Stand → Bool
ends_operand Start = false
ends_operand Wanting = false
ends_operand other = true

abbrev pub on_space : Stand → Reader → Reader
on_space (Naming names name begins) r = record r { stand = Spaced (names ++ name ∷ []) }
on_space other r = r

abbrev pub in_name : Option ℤ → List Name → Name → Bool → Reader → Reader
in_name None names name begins r = record r { stand = Naming names name begins }
in_name (Some priority) names name begins r = record r { priority = priority; stand = Wanting }

abbrev pub on_letter : ℕ → Stand → Reader → Reader
on_letter c Start r = record r { stand = Naming [] (c ∷ []) true }
on_letter c Wanting r = record r { stand = Naming [] (c ∷ []) false }
on_letter c (Naming names name begins) r = in_name (priority_by begins name c) names (name ++ c ∷ []) begins r
on_letter c (Spaced names) r = record r { stand = Naming names (c ∷ []) false }
on_letter c Closed r = record r { stand = Naming [] (c ∷ []) false }

abbrev pub one_minus : Reader → Reader
one_minus r = record r { minuses = r.minuses + 1; stand = Wanting }

abbrev pub on_minus : Stand → Reader → Reader
on_minus (Naming names name begins) r = record r { stand = Naming names (name ++ 45 ∷ []) begins }
on_minus other r = one_minus (ended r)

abbrev pub opened : Reader → Reader
opened r = record r {
  around = record { outside = r.outside; minuses = r.minuses } ∷ r.around;
  outside = r.outside + r.minuses + 1;
  minuses = 0;
  signs = r.signs ++ kept.Opens ∷ [];
  stand = Wanting;
}

abbrev pub closed : List Outer → Reader → Option Reader
closed [] r = None
closed (outer ∷ around) r = Some (record r {
  around = around;
  outside = outer.outside;
  minuses = 0;
  signs = r.signs ++ kept.Closes (is_even outer.minuses) ∷ [];
  stand = Closed;
})

abbrev pub on_closing : Reader → Option Reader
on_closing r = if ends_operand r.stand then closed r.around (ended r) else None

abbrev pub on_alternative : Reader → Reader
on_alternative r = record r { signs = r.signs ++ kept.Next ∷ []; minuses = 0; stand = Wanting }

-- where an operand has ended
abbrev pub bar_on : List Outer → Reader → Option Reader
bar_on [] r = None
bar_on (outer ∷ around) r = Some (on_alternative r)

abbrev pub on_bar : List Outer → Reader → Option Reader
on_bar around r = if ends_operand r.stand then bar_on around (ended r) else None

abbrev pub with_entry : Reader → List KeptEntry
with_entry r = r.entries ++ record { priority = r.priority; signs = r.signs } ∷ []

abbrev pub on_entry : Reader → Reader
on_entry r = record nothing { entries = with_entry r }

-- where an operand has ended
abbrev pub comma_on : List Outer → Reader → Option Reader
comma_on [] r = Some (on_entry r)
comma_on (outer ∷ around) r = Some (on_alternative r)

abbrev pub on_comma : List Outer → Reader → Option Reader
on_comma around r = if ends_operand r.stand then comma_on around (ended r) else None

abbrev pub on_sign : Sign → ℕ → Reader → Option Reader
on_sign Space c r = Some (on_space r.stand r)
on_sign Letter c r = Some (on_letter c r.stand r)
on_sign Minus c r = Some (on_minus r.stand r)
on_sign Opens c r = Some (opened (ended r))
on_sign Closes c r = on_closing r
on_sign Bar c r = on_bar r.around r
on_sign Comma c r = on_comma r.around r
on_sign Other c r = None

-- whether an operand begins with a sign
abbrev pub begins_operand : Sign → Stand → Bool
begins_operand Letter (Naming names name begins) = false
begins_operand Letter (Spaced names) = false
begins_operand Letter other = true
begins_operand Minus (Naming names name begins) = false
begins_operand Minus other = true
begins_operand Opens stand = true
begins_operand _ stand = false

-- the minus signs before an operand that begins
abbrev pub minuses_before : Stand → ℕ → ℕ
minuses_before (Naming names name begins) minuses = 0
minuses_before (Spaced names) minuses = 0
minuses_before other minuses = minuses

abbrev pub is_deep : Reader → Bool
is_deep r = nat_lt MOST_NESTED (r.outside + minuses_before r.stand r.minuses)

abbrev pub is_too_deep : ℕ → Reader → Bool
is_too_deep c r = begins_operand (sign_of c) r.stand && is_deep r

abbrev pub step : ℕ → Reader → Option Reader
step c r = if is_too_deep c r then None else on_sign (sign_of c) c r

-- where an operand has ended
abbrev pub end_on : List Outer → Reader → Option (List KeptEntry)
end_on [] r = Some (with_entry r)
end_on (outer ∷ around) r = None

abbrev pub at_end : List Outer → Reader → Option (List KeptEntry)
at_end around r = if ends_operand r.stand then end_on around (ended r) else None

abbrev pub ok_or_at : Option (List KeptEntry) → ℕ → Result (List KeptEntry) ℕ
ok_or_at None at = Err at
ok_or_at (Some entries) at = Ok entries

abbrev pub on_step : Option Reader → ℕ → (Reader → ℕ → Result (List KeptEntry) ℕ) → Result (List KeptEntry) ℕ
on_step None at next = Err at
on_step (Some r) at next = next r (at + 1)

abbrev pub read_on : List ℕ → Reader → ℕ → Result (List KeptEntry) ℕ
read_on [] r at = ok_or_at (at_end r.around r) at
read_on (c ∷ cs) r at = on_step (step c r) at (read_on cs)

-- the entries of a selector as they are kept, or the place where it is refused
abbrev pub read_kept : List ℕ → Result (List KeptEntry) ℕ
read_kept text = read_on text nothing 0
