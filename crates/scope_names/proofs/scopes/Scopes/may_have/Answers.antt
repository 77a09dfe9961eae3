use Rattle.std.proofs.Common.{sym, ◌∙◌, ap}
use Rattle.scope_names.specs.Keys.{may_have}
use Rattle.scope_names.specs.declared.keys.KeyBits.{KeyBits}
use Rattle.scope_names.proofs.KeyLaws.{no_key}
use Rattle.scope_names.proofs.scopes.Scopes.may_have.Goals as goal

pub returns : goal.returns
returns c = λ not. no_key c.args.self.now c.args.key
    (sym (c.may_have.ensures ∙ ap (λ (k : KeyBits). may_have k c.args.key) c.keys.ensures) ∙ not)
