-- How the answers of a batch stand for the causes of its refusal, which are this project's own.
use Rattle.std.specs.Prelude.{◌≡◌, Option, Some}
use Rattle.text_defs.specs.Batch.{BatchRefusal, range, order, too_many_chars, too_many_lines}
use Rattle.line_text.specs.declared.edit.EditRefusal.{EditRefusal}
use Rattle.line_text.specs.declared.edit.EditRefusal.TheVariants.{Range, Order, TooManyChars, TooManyLines, Memory}

-- this is why the batch is refused; want of memory needs no cause
abbrev pub HasCause : Option BatchRefusal → EditRefusal → Type 0
HasCause cause (Range index) = cause ≡ Some (range index)
HasCause cause (Order index) = cause ≡ Some (order index)
HasCause cause (TooManyChars count) = cause ≡ Some (too_many_chars count)
HasCause cause (TooManyLines count) = cause ≡ Some (too_many_lines count)
HasCause cause (Memory fault) = Unit {0}
