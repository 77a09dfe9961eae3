-- Why a question has no answer: the cause of `answer_defs`, or want of memory.
use Rattle.std.specs.Prelude.{◌≡◌, Bool, true, false, Option, Some}
use Rattle.answer_defs.specs.declared.refusal.QuestionRefusal.{QuestionRefusal}
use Rattle.answer_defs.specs.declared.refusal.QuestionRefusal.TheVariants as cause
use Rattle.document.specs.declared.document.AskRefusal.{AskRefusal}
use Rattle.document.specs.declared.document.AskRefusal.TheVariants.{Line, Place, Memory}

abbrev pub HasAskCause : Option QuestionRefusal → AskRefusal → Type 0
HasAskCause why (Line lines) = why ≡ Some (cause.Line lines)
HasAskCause why (Place length) = why ≡ Some (cause.Place length)
HasAskCause why (Memory error) = Unit {0}

-- want of memory says nothing of the question
abbrev pub is_memory : AskRefusal → Bool
is_memory (Line lines) = false
is_memory (Place length) = false
is_memory (Memory error) = true
