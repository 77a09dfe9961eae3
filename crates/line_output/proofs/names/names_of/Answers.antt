use Rattle.std.proofs.Common.{◌≡◌, ap, sym, ◌∙◌, subst}
use Rattle.std.specs.Prelude.{Some}
use Rattle.std.specs.Option.{option_copied}
use Rattle.std.specs.Str.{IsUtf8}
use Rattle.rule_table.specs.ScopeTexts.{fixed_of}
use Rattle.line_output.proofs.Plain.{fixed-names}
use Rattle.line_output.proofs.names.names_of.Goals as goal

pub returns-in-Some : goal.returns-in-Some
returns-in-Some c =
    let is : fixed_of c.args.name.now ≡ Some c.in-Some.names.now =
    sym c.fixed.ensures ∙ ap option_copied c.in-Some.is in
    let utf8 : IsUtf8 c.args.name.now = subst IsUtf8 c.text-given.ensures c.text-given.utf8 in
    rw (← fixed-names c.args.text.now c.args.work.now.hit c.args.name.now c.in-Some.names.now utf8 is)
    c.copy.ensures
