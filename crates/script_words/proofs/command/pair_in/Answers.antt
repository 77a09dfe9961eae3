use Rattle.std.proofs.Common.{◌<◌, ◌≤◌, length, arith, ap}
use Rattle.script_words.proofs.DataLemmas.{no_pair-few, no_pair-many}
use Rattle.script_words.proofs.command.pair_in.Goals as goal

pub returns-in_default : goal.returns-in_default
returns-in_default c =
    let few : length c.in_ok-as_array.field-0.now.items < 2 = omega (arith, ap length c.as_slice.ensures.value) in
    no_pair-few _ c.in_ok-as_array.field-0.now.items c.in_ok-as_array.ensures few

pub returns-in_default-2 : goal.returns-in_default-2
returns-in_default-2 c =
    let many : 3 ≤ length c.in_ok-as_array.field-0.now.items = omega (arith, ap length c.as_slice.ensures.value) in
    no_pair-many _ c.in_ok-as_array.field-0.now.items c.in_ok-as_array.ensures many
