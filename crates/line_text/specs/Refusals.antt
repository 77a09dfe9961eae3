-- Which refusals say something of what was handed in. That want of memory doesn't is this project's own.
use Rattle.std.specs.Prelude.{Bool, true, false}
use Rattle.line_text.specs.declared.read.TextRefusal.{TextRefusal}
use Rattle.line_text.specs.declared.read.TextRefusal.TheVariants.{NotUtf8, TooManyChars, TooManyLines, Memory}

-- want of memory says nothing of the file
abbrev pub is_memory : TextRefusal → Bool
is_memory (NotUtf8 at) = false
is_memory (TooManyChars count) = false
is_memory (TooManyLines count) = false
is_memory (Memory fault) = true
