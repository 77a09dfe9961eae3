use Rattle.std.proofs.Common.{◌≡◌, ◌≢◌, ◌∙◌, length, arith, ap}
use Rattle.std.specs.Prelude.{Some}
use Rattle.serde_json.specs.View.{view}
use Rattle.script_words.proofs.DataLemmas.{no_only_member, the_only_member}
use Rattle.script_words.proofs.command.only_member.Goals as goal

pub returns-then-len-ne1 : goal.returns-then-len-ne1
returns-then-len-ne1 c =
    let other : length c.in_ok-members.members.now.entries ≢ 1 = λ one. c.if-len-ne1.true (c.len.ensures.len ∙ one) in
    no_only_member _ c.in_ok-members.members.now.entries c.in_ok-members.ensures other

pub returns : goal.returns
returns c =
    let one : length c.in_ok-members.members.now.entries ≡ 1 = omega arith in
    ap (λ k. Some (k, view c.in_ok-key.member.now)) c.as_str.ensures.value
    ∙ the_only_member _ c.in_ok-members.members.now.entries (c.in_ok-key.key.now, c.in_ok-key.member.now)
    c.in_ok-members.ensures one c.in_ok-key.ensures.first
