use Rattle.std.proofs.Common.{refl}
use Rattle.char_sets.specs.Ranges.{rises}
use Rattle.char_sets.proofs.char_set.CharSet.named.Goals as goal

pub of_codes-requires : goal.of_codes-requires
unfolding rises
of_codes-requires c = refl

pub of_codes-requires-in-Ascii : goal.of_codes-requires-in-Ascii
unfolding rises
of_codes-requires-in-Ascii c = refl
