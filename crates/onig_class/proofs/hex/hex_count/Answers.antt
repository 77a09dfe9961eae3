use Rattle.onig_class.proofs.HexLemmas.{digits_of}
use Rattle.onig_class.proofs.hex.hex_count.Goals as goal

pub returns-clause-digits : goal.returns-clause-digits
returns-clause-digits c = rw c.digits_in.ensures (digits_of c.args.most c.args.rest.now)
