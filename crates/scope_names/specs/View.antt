-- What a shared list of names is seen as, and what it keeps.
use Rattle.std.specs.Prelude.{◌≡◌, ◌+◌, ◌-◌, ◌<◌, ◌≤◌, [], ◌++◌, length, take, Option, Some, None}
use Rattle.std.specs.declared.rc.Rc.{Rc}
use Rattle.std.specs.declared.alloc.Global.{Global}
use Rattle.scope_defs.specs.declared.limits.TheConstants.{MOST_NAMES}
use Rattle.scope_defs.specs.Scopes.{Scopes}
use Rattle.scope_defs.specs.StandardType.{type_of}
use Rattle.scope_names.specs.Keys.{keys_of}
use Rattle.scope_names.specs.Numbers.{scopes_number}
use Rattle.scope_names.specs.declared.scopes.Pushed.{Pushed}

-- the names below, and as many of those that were pushed as there is room for
abbrev pub pushed_names : Pushed → Scopes
pushed_names p = p.below ++ take (p.len - length p.below) p.name

pub record Keeps (p : Pushed) : Type 0 where
  pub rises : length p.below < p.len
  pub within : p.len ≤ length p.below + length p.name
  pub few : p.len ≤ MOST_NAMES
  pub kind : p.kind ≡ type_of (pushed_names p)
  pub number : p.number ≡ scopes_number (pushed_names p)
  pub keys : p.keys ≡ keys_of (pushed_names p)

abbrev pub names_of : Option (Rc Pushed Global) → Scopes
names_of None = []
names_of (Some shared) = pushed_names shared.value

abbrev pub KeepsAll : Option (Rc Pushed Global) → Type 0
KeepsAll None = Unit {0}
KeepsAll (Some shared) = Keeps shared.value
