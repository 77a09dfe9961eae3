use Rattle.std.proofs.Common.{map}
use Rattle.std.specs.Prelude.{string_bytes}
use Rattle.std.proofs.lemmas.Result.{IfOk-weaker}
use Rattle.command_line.proofs.WordLaws.{if_some, request_tab, request_range}
use Rattle.command_line.proofs.words.read_words.Goals as goal

pub returns-clause-some_columns : goal.returns-clause-some_columns
returns-clause-some_columns c =
    IfOk-weaker c.request_of.result _ _ (λ asked h. if_some (map string_bytes c.args.words.now) asked _
    (λ r e. (request_tab (map string_bytes c.args.words.now) r e).0) h) c.request_of.ensures

pub returns-clause-few_columns : goal.returns-clause-few_columns
returns-clause-few_columns c =
    IfOk-weaker c.request_of.result _ _ (λ asked h. if_some (map string_bytes c.args.words.now) asked _
    (λ r e. (request_tab (map string_bytes c.args.words.now) r e).1) h) c.request_of.ensures

pub returns-clause-in_range : goal.returns-clause-in_range
returns-clause-in_range c =
    IfOk-weaker c.request_of.result _ _ (λ asked h. if_some (map string_bytes c.args.words.now) asked _
    (λ r e. request_range (map string_bytes c.args.words.now) r e) h) c.request_of.ensures
