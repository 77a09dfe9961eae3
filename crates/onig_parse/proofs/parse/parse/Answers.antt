use Rattle.std.proofs.Common.{List, ℕ, subst}
use Rattle.onig_parse.specs.KeptClasses.{AreKeptClasses}
use Rattle.onig_parse.proofs.FormedTexts.{same_text}
use Rattle.onig_parse.proofs.parse.parse.Goals as goal

pub returns-clause-classes : goal.returns-clause-classes
returns-clause-classes c =
    let P : List ℕ → Type 0 = λ text. AreKeptClasses text c.into_parts.result.1.items in
    subst P
    (same_text c.args.text.now c.in_ok-from_slice.field-0.items c.no_options.result c.in_ok-body.body c.body.new.self
    c.in_ok-top.top c.body_list.new.self
    c.in_ok-from_slice.ensures.items c.no_options.ensures (rw (c.new-reader.ensures) at c.in_ok-body.ensures)
    c.in_ok-top.ensures)
    c.into_parts.ensures.classes
