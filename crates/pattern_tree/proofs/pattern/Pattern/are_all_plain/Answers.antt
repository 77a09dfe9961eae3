use Rattle.pattern_tree.proofs.ListLemmas.{AllIds-at}
use Rattle.pattern_tree.proofs.pattern.Pattern.are_all_plain.Goals as goal

pub list-requires : goal.list-requires
list-requires c = AllIds-at _ _ _ _ c.requires c.loop-id-test.true
