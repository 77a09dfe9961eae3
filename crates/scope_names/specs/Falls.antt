-- The list below one push has fewer names than the whole.
use Rattle.std.specs.Prelude.{◌≡◌, ◌-◌, ◌≤◌, length, take, Option, Some, None}
use Rattle.std.proofs.Common.{arith, length-append}
use Rattle.std.proofs.lemmas.List.{length-take-le}
use Rattle.std.specs.declared.rc.Rc.{Rc}
use Rattle.std.specs.declared.alloc.Global.{Global}
use Rattle.scope_names.specs.declared.scopes.Pushed.{Pushed}
use Rattle.scope_names.specs.declared.scopes.Scopes.TheInside.{Inside}
use Rattle.scope_names.specs.declared.scopes.Scopes.TheDeep.{deep-Scopes}
use Rattle.scope_names.specs.View.{names_of, pushed_names, Keeps, KeepsAll}

-- how many names a list has whose last are those of one push
pub pushed_length : (p : Pushed) → Keeps p → length (pushed_names p) ≡ p.len
pushed_length p keeps =
    omega (
      arith,
      length-append p.below (take (p.len - length p.below) p.name),
      length-take-le
          (p.len - length p.below) p.name (omega (arith, keeps.within)),
    )

top_falls : (top : Option (Rc Pushed Global)) → KeepsAll top
    → deep-Scopes (record { top = top }) ≤ length (names_of top)
top_falls None keeps = omega arith
top_falls (Some shared) keeps = let h = pushed_length shared.value keeps in omega arith

pub names_fall : (scopes : Inside) → KeepsAll scopes.top → deep-Scopes scopes ≤ length (names_of scopes.top)
names_fall scopes keeps = top_falls scopes.top keeps
