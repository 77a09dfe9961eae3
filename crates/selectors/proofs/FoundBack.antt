-- A path may be looked for from its last name back, where each name takes the last scope that it matches.
use Rattle.std.proofs.Common.{◌≡◌, ◌≢◌, ℕ, zero, suc, nat_eq, ◌-◌, ◌<◌, ◌≤◌, List, [], ◌∷◌, ◌++◌, length, take}
use Rattle.std.proofs.Common.{reverse, get_or, Bool, true, false, ◌&&◌, ◌||◌, cond, refl, sym, ◌∙◌, ap, subst, arith}
use Rattle.std.proofs.lemmas.List.{reverse-append}
use Rattle.std.proofs.Math.Seq.{take-suc}
use Rattle.std.proofs.Math.Dec.{eqb-suc-zero}
use Rattle.scope_defs.specs.Scopes.{Name, Scopes}
use Rattle.scope_defs.specs.Selectors.{name_matches, path_holds}

-- each name takes the first scope that it matches
abbrev pub first_found : List Name → Scopes → Bool
first_found [] scopes = true
first_found (name ∷ names) [] = false
first_found (name ∷ names) (scope ∷ scopes) =
    cond (name_matches name scope) (first_found names scopes) (first_found (name ∷ names) scopes)

-- a path without its first name holds where the path does

absorbs : (w b y z : Bool) → (y || z) ≡ y → ((w || y) || ((b && y) || z)) ≡ (w || y)
absorbs true b y z e = refl
absorbs false b true z e = refl
absorbs false true false z e = e
absorbs false false false z e = e

pub shorter_holds : (name : Name) (names : List Name) (scopes : Scopes)
    → (path_holds names scopes || path_holds (name ∷ names) scopes) ≡ path_holds names scopes
shorter_holds name [] scopes = refl
shorter_holds name (n ∷ ns) [] = refl
shorter_holds name (n ∷ ns) (s ∷ ss) =
    absorbs (name_matches n s && path_holds ns ss) (name_matches name s) (path_holds (n ∷ ns) ss)
    (path_holds (name ∷ n ∷ ns) ss) (shorter_holds name (n ∷ ns) ss)

-- so the first scope that a name matches may be taken

chosen : (b f g p q : Bool) → f ≡ p → g ≡ q → (p || q) ≡ p → cond b f g ≡ ((b && p) || q)
chosen true f g p q fp gq e = fp ∙ sym e
chosen false f g p q fp gq e = gq

pub first_serves : (names : List Name) (scopes : Scopes) → first_found names scopes ≡ path_holds names scopes
first_serves [] scopes = refl
first_serves (n ∷ ns) [] = refl
first_serves (n ∷ ns) (s ∷ ss) =
    chosen (name_matches n s) (first_found ns ss) (first_found (n ∷ ns) ss) (path_holds ns ss)
    (path_holds (n ∷ ns) ss) (first_serves ns ss) (first_serves (n ∷ ns) ss)
    (shorter_holds n ns ss)

-- a last name matches the last scope and the others before it, or all match before that scope

two_ways : (a b p q u v : Bool) → ((b && ((a && p) || u)) || ((a && q) || v))
    ≡ ((a && ((b && p) || q)) || ((b && u) || v))
two_ways true true true q u v = refl
two_ways true true false true true v = refl
two_ways true true false false true v = refl
two_ways true true false true false v = refl
two_ways true true false false false v = refl
two_ways true false p q u v = refl
two_ways false true p q u v = refl
two_ways false false p q u v = refl

turned : (a b v : Bool) → ((b && true) || ((a && true) || v)) ≡ ((a && true) || ((b && true) || v))
turned true true v = refl
turned true false v = refl
turned false true v = refl
turned false false v = refl

nothing_left : (names : List Name) (name : Name) → path_holds (names ++ name ∷ []) [] ≡ false
nothing_left [] name = refl
nothing_left (n ∷ ns) name = refl

neither : (a b x : Bool) → x ≡ false → ((b && x) || false) ≡ ((a && false) || false)
neither true true x e = ap (λ y. y || false) e
neither true false x e = refl
neither false true x e = ap (λ y. y || false) e
neither false false x e = refl

pub last_name : (names : List Name) (name : Name) (scopes : Scopes) (scope : Name)
    → path_holds (names ++ name ∷ []) (scopes ++ scope ∷ [])
    ≡ ((name_matches name scope && path_holds names scopes) || path_holds (names ++ name ∷ []) scopes)
last_name [] name [] scope = refl
last_name [] name (s ∷ ss) scope =
    ap (λ x. (name_matches name s && true) || x) (last_name [] name ss scope)
    ∙ turned (name_matches name scope) (name_matches name s) (path_holds (name ∷ []) ss)
last_name (n ∷ ns) name [] scope = neither (name_matches name scope) (name_matches n scope)
    (path_holds (ns ++ name ∷ []) []) (nothing_left ns name)
last_name (n ∷ ns) name (s ∷ ss) scope =
    ap (λ x. (name_matches n s && x) || path_holds (n ∷ (ns ++ name ∷ [])) (ss ++ scope ∷ []))
    (last_name ns name ss scope)
    ∙ (ap (λ x. (name_matches n s && ((name_matches name scope && path_holds ns ss) || path_holds (ns ++ name ∷ [])
    ss)) || x) (last_name (n ∷ ns) name ss scope)
    ∙ two_ways (name_matches name scope) (name_matches n s) (path_holds ns ss) (path_holds (n ∷ ns) ss)
    (path_holds (ns ++ name ∷ []) ss) (path_holds (n ∷ (ns ++ name ∷ [])) ss))

-- so a path holds where it holds backwards

snoc : (x : Name) (xs : List Name) → reverse (x ∷ xs) ≡ reverse xs ++ x ∷ []
snoc x xs = reverse-append (x ∷ []) xs

last_nothing : (n : Name) (ns : List Name) → path_holds (reverse (n ∷ ns)) [] ≡ false
last_nothing n ns = ap (λ xs. path_holds xs []) (snoc n ns) ∙ nothing_left (reverse ns) n

pub backwards : (names : List Name) (scopes : Scopes) → path_holds (reverse names) (reverse scopes)
    ≡ path_holds names scopes
backwards [] scopes = refl
backwards (n ∷ ns) [] = last_nothing n ns
backwards (n ∷ ns) (s ∷ ss) =
    ap (λ xs. path_holds xs (reverse (s ∷ ss))) (snoc n ns)
    ∙ (ap (path_holds (reverse ns ++ n ∷ [])) (snoc s ss)
    ∙ (last_name (reverse ns) n (reverse ss) s
    ∙ (ap (λ x. (name_matches n s && x) || path_holds (reverse ns ++ n ∷ []) (reverse ss)) (backwards ns ss)
    ∙ ap (λ x. (name_matches n s && path_holds ns ss) || x)
    (ap (λ xs. path_holds xs (reverse ss)) (sym (snoc n ns)) ∙ backwards (n ∷ ns) ss))))

pub found_back : (names : List Name) (scopes : Scopes) → first_found (reverse names) (reverse scopes)
    ≡ path_holds names scopes
found_back names scopes = first_serves (reverse names) (reverse scopes) ∙ backwards names scopes

-- the names that are left

pub last_left : (names : List Name) (left : ℕ) (default : Name) → left < length names
    → reverse (take (suc left) names) ≡ get_or names left default ∷ reverse (take left names)
last_left names left default lt =
    ap reverse (take-suc names left default lt) ∙ reverse-append (take left names) (get_or names left default ∷ [])

-- one scope more, from the back

left_cases : (names : List Name) (left : ℕ) (scope : Name) (rest : Scopes) (b : Bool) → left < length names
    → name_matches (get_or names left []) scope ≡ b
    → first_found (reverse (take (suc left) names)) (scope ∷ rest)
    ≡ cond b (first_found (reverse (take left names)) rest) (first_found (reverse (take (suc left) names)) rest)
left_cases names left scope rest b lt matches =
    let name = get_or names left [] in
    let back : reverse (take (suc left) names) ≡ name ∷ reverse (take left names) = last_left names left [] lt in
    ap (λ xs. first_found xs (scope ∷ rest)) back
    ∙ (ap (λ x. cond x (first_found (reverse (take left names)) rest)
    (first_found (name ∷ reverse (take left names)) rest)) matches
    ∙ ap (λ xs. cond b (first_found (reverse (take left names)) rest) (first_found xs rest)) (sym back))

one_less : (k : ℕ) → suc k - 1 ≡ k
one_less k = omega arith

pub one_more : (names : List Name) (left : ℕ) (scope : Name) (rest : Scopes) (b : Bool) → left ≢ 0
    → left ≤ length names → name_matches (get_or names (left - 1) []) scope ≡ b
    → first_found (reverse (take left names)) (scope ∷ rest)
    ≡ cond b (first_found (reverse (take (left - 1) names)) rest) (first_found (reverse (take left names)) rest)
one_more names zero scope rest b some within matches = absurd (some refl)
one_more names (suc k) scope rest b some within matches =
    left_cases names k scope rest b (omega arith)
    (subst (λ n. name_matches (get_or names n []) scope ≡ b) (one_less k) matches)
    ∙ ap (λ n. cond b (first_found (reverse (take n names)) rest) (first_found (reverse (take (suc k) names)) rest))
    (sym (one_less k))

-- where no scope is left

none_found : (names : List Name) → names ≢ [] → first_found (reverse names) [] ≡ false
none_found [] some = absurd (some refl)
none_found (n ∷ ns) some = first_serves (reverse (n ∷ ns)) [] ∙ last_nothing n ns

pub at_front : (names : List Name) (left : ℕ) → left ≤ length names → first_found (reverse (take left names)) []
    ≡ nat_eq left 0
at_front names zero within = refl
at_front [] (suc left) within = absurd (omega arith)
at_front (n ∷ ns) (suc left) within = none_found (n ∷ take left ns) (λ e. cc) ∙ sym (eqb-suc-zero left)

pub same_test : (a b x y : Name) (r v : Bool) → r ≡ name_matches a x → r ≡ v → a ≡ b → x ≡ y → name_matches b y ≡ v
same_test a b x y r v is told ab xy = sym (ap (λ n. name_matches n y) ab)
    ∙ (sym (ap (name_matches a) xy) ∙ (sym is ∙ told))
