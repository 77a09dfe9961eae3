use Rattle.std.proofs.Common.{◌+◌, ◌∙◌, ap, arith}
use Rattle.scope_names.specs.declared.scopes.Pushed.{Pushed}
use Rattle.scope_names.proofs.Kept.{pushes_kept, kind_is, number_is, keys_are}
use Rattle.scope_names.proofs.scopes.Scopes.push_shared.Goals as goal

pub invariant_of-result : goal.invariant_of-result
invariant_of-result c =
    let made = c.in_ok-pushed.ensures.ok in
    pushes_kept c.args.self.now c.args.name.now c.min-added.result c.in_ok-pushed.pushed.value
    (record {
      below = ap (λ (q : Pushed). q.below) made ∙ c.in_ok-below.ensures;
      name = ap (λ (q : Pushed). q.name) made ∙ c.in_ok-name.ensures;
      len = ap (λ (q : Pushed). q.len) made ∙ ap (λ n. n + c.min-added.result) c.len-3.ensures.count;
      kind = ap (λ (q : Pushed). q.kind) made ∙ kind_is _ _ _ _ _ c.kind_with-kind.ensures c.std_type.ensures
          c.front-names.ensures;
      number = ap (λ (q : Pushed). q.number) made
          ∙ number_is _ _ _ _ _ c.number_with-number.ensures c.number.ensures c.front-names.ensures;
      keys = ap (λ (q : Pushed). q.keys) made
          ∙ keys_are _ _ _ _ _ c.keys_with-keys.ensures c.keys.ensures c.front-names.ensures;
    }) (omega arith) (omega (arith, c.len-2.ensures)) (omega (arith, c.len.ensures.few))
