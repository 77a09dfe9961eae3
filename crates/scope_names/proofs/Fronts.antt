-- Fronts of lists of names, and the names of a list from the last to the first.
use Rattle.std.proofs.Common.{◌≡◌, ◌≢◌, ℕ, zero, suc, ◌+◌, ◌-◌, ◌<◌, [], ◌∷◌, ◌++◌, length, take, reverse, Option}
use Rattle.std.proofs.Common.{Some, refl, sym, ◌∙◌, ap, subst, arith}
use Rattle.std.specs.List.{slice_get}
use Rattle.std.proofs.lemmas.List.{take-append-le, reverse-append, reverse-reverse, length-reverse}
use Rattle.std.specs.declared.rc.Rc.{Rc}
use Rattle.std.specs.declared.alloc.Global.{Global}
use Rattle.scope_defs.specs.Scopes.{Name, Scopes}
use Rattle.scope_names.specs.declared.scopes.Pushed.{Pushed}
use Rattle.scope_names.specs.View.{names_of, pushed_names}

slice_get-front : (xs ys : Scopes) (n : ℕ) → n < length xs → slice_get (xs ++ ys) n ≡ slice_get xs n
slice_get-front [] ys n lt = absurd (omega arith)
slice_get-front (x ∷ xs) ys zero lt = refl
slice_get-front (x ∷ xs) ys (suc n) lt = slice_get-front xs ys n (omega arith)

-- where a list's last names are those of one push

pub shown_names : (top : Option (Rc Pushed Global)) (names : Scopes) (shared : Rc Pushed Global) (p : Pushed)
    → names_of top ≡ names → top ≡ Some shared → p ≡ shared.value → names ≡ pushed_names p
shown_names top names shared p shows is same = sym shows ∙ (ap names_of is ∙ ap pushed_names (sym same))

pub name_below : (p : Pushed) (names all : Scopes) (n : ℕ) → names ≡ pushed_names p → n < length p.below
    → slice_get names n ≡ slice_get all n → slice_get p.below n ≡ slice_get all n
name_below p names all n is lt so_far =
    sym (slice_get-front p.below (take (p.len - length p.below) p.name) n lt)
    ∙ (ap (λ xs. slice_get xs n) (sym is) ∙ so_far)

pub front_below : (p : Pushed) (names all : Scopes) (n : ℕ) → names ≡ pushed_names p → n < length p.below
    → take (n + 1) names ≡ take (n + 1) all → take (n + 1) p.below ≡ take (n + 1) all
front_below p names all n is lt so_far =
    sym (take-append-le (n + 1) p.below (take (p.len - length p.below) p.name) (omega arith))
    ∙ (ap (take (n + 1)) (sym is) ∙ so_far)

-- the last name of a front

take_suc_at : (xs : Scopes) (k : ℕ) (x : Name) → slice_get xs k ≡ Some x → take (suc k) xs ≡ take k xs ++ x ∷ []
take_suc_at [] k x is = cc
take_suc_at (y ∷ ys) zero x is = cc
take_suc_at (y ∷ ys) (suc k) x is = ap (λ zs. y ∷ zs) (take_suc_at ys k x is)

take_of_more : (k : ℕ) (xs : Scopes) → take k (take (suc k) xs) ≡ take k xs
take_of_more zero xs = refl
take_of_more (suc k) [] = refl
take_of_more (suc k) (x ∷ xs) = ap (λ zs. x ∷ zs) (take_of_more k xs)

fewer_alike : (k : ℕ) (xs ys : Scopes) → take (suc k) xs ≡ take (suc k) ys → take k xs ≡ take k ys
fewer_alike k xs ys alike = sym (take_of_more k xs) ∙ (ap (take k) alike ∙ take_of_more k ys)

next_of : (k : ℕ) (scopes front : Scopes) (name : Name) → slice_get scopes k ≡ Some name → take (suc k) front
    ≡ take (suc k) scopes → reverse (take (suc k) scopes) ≡ name ∷ reverse (take k front)
next_of k scopes front name is alike =
    ap reverse (take_suc_at scopes k name is)
    ∙ (reverse-append (take k scopes) (name ∷ [])
    ∙ ap (λ xs. name ∷ reverse xs) (sym (fewer_alike k front scopes alike)))

one_less : (k : ℕ) → suc k - 1 ≡ k
one_less k = omega arith

one_more : (k : ℕ) → suc k - 1 + 1 ≡ suc k
one_more k = omega arith

pub next_back : (scopes front : Scopes) (left : ℕ) (name : Name) → left ≢ 0 → slice_get scopes (left - 1) ≡ Some name
    → take (left - 1 + 1) front ≡ take (left - 1 + 1) scopes → reverse (take left scopes)
    ≡ name ∷ reverse (take (left - 1) front)
next_back scopes front zero name some is alike = absurd (some refl)
next_back scopes front (suc k) name some is alike =
    next_of k scopes front name (subst (λ n. slice_get scopes n ≡ Some name) (one_less k) is)
    (subst (λ n. take n front ≡ take n scopes) (one_more k) alike)
    ∙ ap (λ n. name ∷ reverse (take n front)) (sym (one_less k))

-- two lists are the same where they are so backwards
pub same_backwards : (xs ys back others : Scopes) → back ≡ reverse xs → others ≡ reverse ys → length xs ≡ length ys
    → record { alike : length back ≡ length others; forth : back ≡ others → xs ≡ ys; back : xs ≡ ys → back ≡ others }
same_backwards xs ys back others a b alike = record {
  alike = ap length a ∙ (length-reverse xs ∙ (alike ∙ (sym (length-reverse ys) ∙ sym (ap length b))));
  forth = λ e. sym (reverse-reverse xs) ∙ (ap reverse (sym a ∙ (e ∙ b)) ∙ reverse-reverse ys);
  back = λ e. a ∙ (ap reverse e ∙ sym b);
}
