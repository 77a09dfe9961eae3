use Rattle.std.proofs.Common.{◌≡◌, take}
use Rattle.answer_defs.specs.TokenAnswers.{tokens_in}
use Rattle.document.proofs.answers.typed_tokens.Given as goal

abbrev pub invariant-loop-token : goal.invariant-loop-token
invariant-loop-token l = l.typed ≡ tokens_in (take l.token-index l.tokens)
