use Rattle.onig_parse.proofs.FormedTexts.{parse-formed}
use Rattle.onig_parse.proofs.read.read_chars.Goals as goal

pub lower-requires-clause-formed : goal.lower-requires-clause-formed
lower-requires-clause-formed c = parse-formed _ _ c.in_ok-parsed.ensures.value
