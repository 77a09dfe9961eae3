-- A further worked example of the generator.
use Rattle.std.specs.Prelude.{◌≡◌, refl}
use Rattle.generator_defs.specs.declared.TheConstants.{GENERATED_EDITS}

pub so_many_edits_are_made : GENERATED_EDITS ≡ 200
so_many_edits_are_made = refl
