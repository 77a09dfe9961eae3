-- What follows where a call succeeds.
use Rattle.std.proofs.Common.{Result, Ok, Err, IfOk}

pub if_ok : {T E : Type 0} {P Q : T → Type 0} (r : Result T E) → ((x : T) → P x → Q x) → IfOk r P → IfOk r Q
if_ok (Ok x) more holds = more x holds
if_ok (Err e) more holds = tt
