-- What a shared text of an end is seen as, and what it keeps.
use Rattle.std.specs.Prelude.{◌≡◌, ℕ, List, Option, Some, None}
use Rattle.std.specs.declared.rc.Rc.{Rc}
use Rattle.std.specs.declared.alloc.Global.{Global}
use Rattle.scope_names.specs.Numbers.{name_number}
use Rattle.scope_stack.specs.declared.end_text.Numbered.{Numbered}

abbrev pub text_of : Option (Rc Numbered Global) → Option (List ℕ)
text_of None = None
text_of (Some shared) = Some shared.value.text

abbrev pub KeepsNumber : Option (Rc Numbered Global) → Type 0
KeepsNumber None = Unit {0}
KeepsNumber (Some shared) = shared.value.number ≡ name_number shared.value.text
