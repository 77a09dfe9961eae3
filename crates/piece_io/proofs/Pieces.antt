-- What has come of a file, and what a sink has taken, after one more piece.
use Rattle.std.proofs.Common.{◌≡◌, ℕ, ◌+◌, ◌<◌, ◌≤◌, List, [], ◌++◌, length, take, drop, Option, Some, None, refl, ap}
use Rattle.std.proofs.Common.{append_assoc, arith, sym, ◌∙◌, length-append, length-drop}
use Rattle.std.specs.Prelude.{Result, Ok, Err, OnOk, is_ok, true}
use Rattle.std.proofs.Math.Seq.{take-add}
use Rattle.std.proofs.lemmas.List.{length-take-le, take_all}
use Rattle.piece_io.specs.Told.{Told, Untold, Missing, Holds, GivesFrom, appended}
use Rattle.piece_io.specs.FileEnds.{ReadsWhole, IsTooLong}

-- the bytes are the first of the file's, where these are told
abbrev pub IsFront : Told → List ℕ → Type 0
IsFront Untold read = Unit {0}
IsFront Missing read = read ≡ []
IsFront (Holds bytes) read = (length read ≤ length bytes) × (read ≡ take (length read) bytes)

pub IsFront-nil : (told : Told) → IsFront told []
IsFront-nil Untold = tt
IsFront-nil Missing = refl
IsFront-nil (Holds bytes) = (omega arith, refl)

-- more bytes from the place where the first ones end
pub IsFront-append : (told : Told) (read : List ℕ) (n : ℕ) (into : List ℕ) → n ≤ length into → IsFront told read
    → GivesFrom told (length read) n into → IsFront told (read ++ take n into)
IsFront-append Untold read n into fits front gives = tt
IsFront-append Missing read n into fits front gives = absurd gives
IsFront-append (Holds bytes) read n into fits front gives =
    let here : length (take n into) ≡ n = length-take-le n into fits in
    let total : length (read ++ take n into) ≡ length read + n =
    omega (arith, length-append read (take n into), here) in
    let within : length read + n ≤ length bytes = omega (arith, gives.0, front.0, length-drop (length read) bytes) in
    let joined : read ++ take n (drop (length read) bytes) ≡ take (length read + n) bytes =
    ap (λ xs. xs ++ take n (drop (length read) bytes)) front.1 ∙ sym (take-add (length read) n bytes) in
    (omega (arith, total, within), ap (λ xs. read ++ xs) gives.1 ∙ joined ∙ ap (λ k. take k bytes) (sym total))

-- nothing came behind the bytes so far: they are all of it
pub ReadsWhole-front : (told : Told) (most : ℕ) (read : List ℕ) (into : List ℕ) → length read ≤ most → IsFront told read
    → GivesFrom told (length read) 0 into → ReadsWhole told most read
ReadsWhole-front Untold most read into fits front gives = fits
ReadsWhole-front Missing most read into fits front gives = absurd gives
ReadsWhole-front (Holds bytes) most read into fits front gives =
    let all : length bytes ≤ length read = gives.2.0 refl in
    (front.1 ∙ take_all (length read) bytes all, omega arith)

-- more bytes came than are allowed
pub IsTooLong-front : (told : Told) (most : ℕ) (read : List ℕ) → most < length read → IsFront told read
    → IsTooLong told most (length read)
IsTooLong-front Untold most read long front = tt
IsTooLong-front Missing most read long front = let none : length read ≡ 0 = ap length front in omega arith
IsTooLong-front (Holds bytes) most read long front = (omega (arith, front.0), front.0)

pub appended-take : (held : Option (List ℕ)) (done n : ℕ) (bytes : List ℕ)
    → appended (appended held (take done bytes)) (take n (drop done bytes)) ≡ appended held (take (done + n) bytes)
appended-take None done n bytes = refl
appended-take (Some before) done n bytes =
    ap Some (append_assoc before (take done bytes) (take n (drop done bytes))
    ∙ ap (λ xs. before ++ xs) (sym (take-add done n bytes)))

-- what a call says of its `Ok` holds where the `Ok` of the same call under `map_err` was taken
pub on_ok-map_err : {T U E D P : Type 0} (r : Result T E) (mapped : Result U D) (x : U) → is_ok mapped ≡ is_ok r
    → mapped ≡ Ok x → OnOk r P → P
on_ok-map_err (Ok y) mapped x same was holds = holds
on_ok-map_err (Err e) mapped x same was holds = let t : is_ok mapped ≡ true = ap is_ok was in cc
