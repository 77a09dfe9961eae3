-- What a reader answers, and where it stands then.
use Rattle.std.specs.Prelude.{◌≡◌, ℕ, List, Bool, Result, Ok, Err}
use Rattle.pattern_defs.specs.Patterns.{Tree}
use Rattle.syntax_defs.specs.PatternMeaning.{IsReadAs}
use Rattle.syntax_defs.specs.declared.refusal.PatternRefusal.{PatternRefusal}
use Rattle.syntax_defs.specs.Reading.{Fault, Fails}
use Rattle.syntax_defs.specs.PatternSyntax.{Seen, Body, Stepped, Parsed}

-- a value that contracts see by view, and how far the text is read then, are what reading gives, unless memory ran out
abbrev pub GivesNow : {X Y : Type 0} → (X → Y) → Result X PatternRefusal → Seen → Result (Y × Seen) Fault → Type 0
GivesNow view (Ok x) now read = read ≡ Ok (view x, now)
GivesNow view (Err refusal) now read = Fails refusal read

-- whether the body goes on, the body and how far the text is read then are what a step gives
abbrev pub GivesStep : Result Bool PatternRefusal → Body → Seen → Result Stepped Fault → Type 0
GivesStep (Ok more) body now read = read ≡ Ok (record { more = more; body = body; seen = now })
GivesStep (Err refusal) body now read = Fails refusal read

-- how far the text is read then is what reading gives
abbrev pub GivesPlace : Result (Unit {0}) PatternRefusal → Seen → Result Seen Fault → Type 0
GivesPlace (Ok _) now read = read ≡ Ok now
GivesPlace (Err refusal) now read = Fails refusal read

-- the pattern stands for what is read from the text, and a refusal is the fault, unless memory ran out
abbrev pub GivesPattern : List ℕ → Result Tree PatternRefusal → Result Parsed Fault → Type 0
GivesPattern text (Ok pattern) read = IsReadAs text pattern read
GivesPattern text (Err refusal) read = Fails refusal read
