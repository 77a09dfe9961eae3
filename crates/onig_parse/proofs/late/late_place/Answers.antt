use Rattle.std.proofs.Common.{refl}
use Rattle.onig_parse.proofs.late.late_place.Goals as goal

pub returns-in-Behind : goal.returns-in-Behind
returns-in-Behind c = rw (c.place_where-in-Behind.ensures, c.is_any_open.ensures, c.as_slice.ensures, c.in-Behind.is)
    refl
