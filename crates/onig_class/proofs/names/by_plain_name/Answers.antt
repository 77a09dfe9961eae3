use Rattle.onig_class.proofs.EscapeLemmas.{two_letters, longer_name}
use Rattle.onig_class.proofs.names.by_plain_name.Goals as goal

pub returns-in-len2 : goal.returns-in-len2
returns-in-len2 c =
    rw (two_letters c.args.name.now _ _ c.in-len2.len_at_least c.in-len2.len_below c.a-item-then-name-lt3.is
    c.b-item.is)
    c.by_two_letters.ensures

pub returns-in_default : goal.returns-in_default
returns-in_default c = rw (longer_name c.args.name.now c.in_default.len_at_least) c.by_word.ensures
