use Rattle.onig_parse.proofs.TextPlaces.{each_fault_fits_its_text as law}
use Rattle.onig_parse.proofs.laws.each_fault_fits_its_text.Goals as goal

pub returns : goal.returns
returns c = law
