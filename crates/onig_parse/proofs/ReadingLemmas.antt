-- What holds of a value that is read, if one is.
use Rattle.std.proofs.Common.{◌≡◌, Bool, true, false, if◌then◌else◌, Result, Ok, Err, IfOk, refl}
use Rattle.syntax_defs.specs.Reading.{Fault, ◌>>=◌}

-- what holds of a value that is read, and of what is read behind it
pub IfOk-bind : {A B : Type 0} (P : A → Type 0) (Q : B → Type 0) (read : Result A Fault) (next : A → Result B Fault)
    → IfOk read P → ((x : A) → P x → IfOk (next x) Q) → IfOk (read >>= next) Q
IfOk-bind P Q (Ok x) next holds then_next = then_next x holds
IfOk-bind P Q (Err fault) next holds then_next = tt

-- what is read, of which nothing is said
pub IfOk-any : {A : Type 0} (read : Result A Fault) → IfOk read (λ _. Unit {0})
IfOk-any (Ok x) = tt
IfOk-any (Err fault) = tt

-- what is read after a test that refuses
pub IfOk-else : {A : Type 0} (P : A → Type 0) (b : Bool) (fault : Fault) (read : Result A Fault)
    → (b ≡ false → IfOk read P) → IfOk (if b then Err fault else read) P
IfOk-else P true fault read holds = tt
IfOk-else P false fault read holds = holds refl
