use Rattle.std.proofs.Common.{rules, ap, ap₂, codes, true, ◌≡◌, ◌∙◌}
use Rattle.std.proofs.lemmas.Result.{IfOk-weaker}
use Rattle.clap.specs.Simple.{app_of_fields, on_top, with_rule}
use Rattle.clap.specs.Words.{app_of, rule_of}
use Rattle.command_line.specs.Command.{option_rule}
use Rattle.command_line.proofs.words.words_command.Goals as goal

pub returns : goal.returns
returns c =
    let grammar : rule_of c.option_arg.result ≡ option_rule (codes "grammar") = search rules in
    let brackets : rule_of c.option_arg-2.result ≡ option_rule (codes "brackets") = search rules in
    let nesting : rule_of c.option_arg-3.result ≡ option_rule (codes "nesting") = search rules in
    let steps : rule_of c.option_arg-4.result ≡ option_rule (codes "steps") = search rules in
    let long : rule_of c.option_arg-5.result ≡ option_rule (codes "long") = search rules in
    let tab : rule_of c.option_arg-6.result ≡ option_rule (codes "tab") = search rules in
    let make : rule_of c.option_arg-7.result ≡ option_rule (codes "make") = search rules in
    let start : app_of c.disable_help_flag.result ≡ on_top (λ s. record s { disable_help_flag = true }) (app_of c.new.result) =
    ap app_of_fields c.disable_help_flag.ensures in
    IfOk-weaker c.arg-8.result _ _ (λ command h.
    h.shape c.option_arg-7.ensures.own ∙ ap₂ with_rule (c.in_ok-arg-7.ensures.shape c.option_arg-6.ensures.own
    ∙ ap₂ with_rule (c.in_ok-arg-6.ensures.shape c.option_arg-5.ensures.own
    ∙ ap₂ with_rule (c.in_ok-arg-5.ensures.shape c.option_arg-4.ensures.own
    ∙ ap₂ with_rule (c.in_ok-arg-4.ensures.shape c.option_arg-3.ensures.own
    ∙ ap₂ with_rule (c.in_ok-arg-3.ensures.shape c.option_arg-2.ensures.own
    ∙ ap₂ with_rule (c.in_ok-arg-2.ensures.shape c.option_arg.ensures.own
    ∙ ap₂ with_rule (c.in_ok-arg.ensures.shape c.name_arg.ensures.own
    ∙ ap₂ with_rule (start ∙ ap (on_top (λ s. record s { disable_help_flag = true })) c.new.ensures.app)
    c.name_arg.ensures.rule) grammar) brackets) nesting) steps) long) tab) make) c.arg-8.ensures
