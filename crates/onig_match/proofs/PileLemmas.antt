-- Lists of which the newest item is the first.
use Rattle.std.proofs.Common.{◌≡◌, ℕ, ◌-◌, List, ◌++◌, length, reverse, take, drop, sym, ap, ◌∙◌, arith}
use Rattle.std.proofs.lemmas.List.{reverse-append, length-reverse, length-drop, take-append-drop}
use Rattle.std.proofs.Math.Seq.{drop-append_seam}

pub reverse-take : {A : Type 0} (xs : List A) (h : ℕ) →
    reverse (take h xs) ≡ drop (length (reverse xs) - h) (reverse xs)
reverse-take xs h =
    let parts : reverse (take h xs ++ drop h xs) ≡ reverse (drop h xs) ++ reverse (take h xs) =
    reverse-append (take h xs) (drop h xs) in
    let whole : reverse xs ≡ reverse (drop h xs) ++ reverse (take h xs) =
    sym (ap reverse (take-append-drop h xs)) ∙ parts in
    let many : length (reverse xs) - h ≡ length (reverse (drop h xs)) =
    omega (arith, length-reverse xs, length-reverse (drop h xs), length-drop h xs) in
    rw (many, whole) (sym (drop-append_seam (reverse (drop h xs)) (reverse (take h xs))))
