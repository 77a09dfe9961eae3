use Rattle.std.proofs.Common.{◌≡◌, ap, sym, ◌∙◌, subst}
use Rattle.std.specs.Prelude.{string_bytes}
use Rattle.std.proofs.lemmas.Result.{err_from_is_err_and}
use Rattle.serde_json.specs.Data.{member}
use Rattle.serde_json.specs.View.{view, members_view}
use Rattle.grammar_defs.specs.GrammarShape.{named_member_faults, nameds_faults}
use Rattle.grammar_json.specs.Faults.{IsFirst}
use Rattle.grammar_json.proofs.FaultLemmas.{IsFirst_append}
use Rattle.grammar_json.proofs.named.read_named.Goals as goal

pub returns-in_err-push_named : goal.returns-in_err-push_named
returns-in_err-push_named c =
    let k = string_bytes c.in-Some.key.now in
    let d = view c.in-Some.member.now in
    let rest = members_view c.next.new.self in
    let told = subst (λ k. IsFirst c.in_err-push_named.field-0.0 (named_member_faults k d)) c.as_str.ensures.value
    c.in_err-push_named.ensures in
    let steps : members_view c.loop-key.key-iterator ≡ member k d rest = ap members_view c.in-Some.ensures.steps in
    let p = err_from_is_err_and c.from_residual.result c.from_residual.ensures.1 in
    rw (p.1, p.2) (subst (IsFirst _) (sym (c.loop-key.invariant.faults ∙ ap nameds_faults steps))
    (IsFirst_append _ _ _ told))
