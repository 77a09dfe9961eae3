use Rattle.std.proofs.Common.{List, Option, drop, subst}
use Rattle.std.specs.Prelude.{IfSome}
use Rattle.char_sets.specs.declared.char_set.CharRange.{CharRange}
use Rattle.syntax_defs.specs.PatternMeaning.{IsSetRead}
use Rattle.syntax_defs.specs.Singles.{single_at}
use Rattle.onig_parse.proofs.lower.set_again.Goals as goal

pub returns-in-Some : goal.returns-in-Some
returns-in-Some c =
    let P : Option (List CharRange) → Type 0 = λ found.
    IfSome found (λ set. IsSetRead set (single_at c.args.options c.args.depth c.args.at
    (drop c.args.at c.args.text.now))) in
    subst P c.in-Some.is (c.in_ok-set.ensures c.args.text.now c.requires.classes)
