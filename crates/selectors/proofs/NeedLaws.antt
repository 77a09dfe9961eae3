-- A path needs names with the keys of its own names.
use Rattle.std.proofs.Common.{◌≡◌, ℕ, Bool, true, false, ◌&&◌, ◌||◌, List, [], ◌∷◌, ◌++◌, length, drop, map, refl, sym, ◌∙◌, ap}
use Rattle.std.proofs.Common.{nat_eq, ◌⊎◌, inl, inr}
use Rattle.std.specs.Prelude.{◌==◌, if◌then◌else◌}
use Rattle.std.specs.List.{starts_with}
use Rattle.std.proofs.lemmas.Bool.{and_parts, true≢false}
use Rattle.std.proofs.lemmas.Bool.Decides.{Decides-eqb}
use Rattle.std.proofs.lemmas.Slice.Eq.{starts_is}
use Rattle.scope_defs.specs.Scopes.{Name, Scopes}
use Rattle.scope_defs.specs.Selectors.{ends_part, name_matches, path_holds}
use Rattle.scope_names.specs.Numbers.{mixed}
use Rattle.scope_names.specs.Keys.{key_from, key_of, first_key}
use Rattle.scope_names.specs.declared.numbers.TheConstants.{SEED}
use Rattle.selectors.specs.Needs.{LacksOne}

abbrev has_dot : Name → Bool
has_dot [] = false
has_dot (c ∷ cs) = if c == 46 then true else has_dot cs

-- where a part ends behind a name with a dot, its key is that of the whole

ended : (number : ℕ) (b : Bool) (more : ℕ) → b ≡ true → (if b then number else more) ≡ number
ended number true more is = refl
ended number false more is = absurd (true≢false (sym is))

same_unless : (b : Bool) (number one other : ℕ) → one ≡ other → (if b then number else one) ≡ (if b then number else other)
same_unless true number one other same = refl
same_unless false number one other same = same

key_behind : (number : ℕ) (name rest : Name) → ends_part rest ≡ true → key_from number true (name ++ rest)
    ≡ key_from number true name
key_behind number [] [] ends = refl
key_behind number [] (c ∷ cs) ends = ended number (c == 46) (key_from (mixed number c) true cs) ends
key_behind number (c ∷ cs) rest ends =
    same_unless (c == 46) number (key_from (mixed number c) true (cs ++ rest)) (key_from (mixed number c) true cs)
    (key_behind (mixed number c) cs rest ends)

same_either : (b dot : Bool) (one other third fourth : ℕ) → (if b then true else dot) ≡ true → one ≡ other
    → (dot ≡ true → third ≡ fourth) → (if b then one else third) ≡ (if b then other else fourth)
same_either true dot one other third fourth is same alike = same
same_either false dot one other third fourth is same alike = alike is

key_of_front : (number : ℕ) (name rest : Name) → has_dot name ≡ true → ends_part rest ≡ true
    → key_from number false (name ++ rest) ≡ key_from number false name
key_of_front number [] rest dot ends = absurd (true≢false (sym dot))
key_of_front number (c ∷ cs) rest dot ends =
    same_either (c == 46) (has_dot cs) (key_from (mixed number c) true (cs ++ rest)) (key_from (mixed number c) true cs)
    (key_from (mixed number c) false (cs ++ rest)) (key_from (mixed number c) false cs) dot
    (key_behind (mixed number c) cs rest ends) (λ is. key_of_front (mixed number c) cs rest is ends)

-- behind one without a dot, it is that of the first part

same_plain : (b dot : Bool) (one other third fourth : ℕ) → (if b then true else dot) ≡ false
    → (dot ≡ false → third ≡ fourth) → (if b then one else third) ≡ (if b then other else fourth)
same_plain true dot one other third fourth is alike = absurd (true≢false is)
same_plain false dot one other third fourth is alike = alike is

first_of_front : (number : ℕ) (name rest : Name) → has_dot name ≡ false → ends_part rest ≡ true
    → key_from number true (name ++ rest) ≡ key_from number false name
first_of_front number [] [] dot ends = refl
first_of_front number [] (c ∷ cs) dot ends = ended number (c == 46) (key_from (mixed number c) true cs) ends
first_of_front number (c ∷ cs) rest dot ends =
    same_plain (c == 46) (has_dot cs) number (key_from (mixed number c) true cs)
    (key_from (mixed number c) true (cs ++ rest)) (key_from (mixed number c) false cs) dot
    (λ is. first_of_front (mixed number c) cs rest is ends)

-- so a scope which a name matches has the name's key

has_key : (dot : Bool) (name rest : Name) → has_dot name ≡ dot → ends_part rest ≡ true
    → (key_of (name ++ rest) ≡ key_of name) ⊎ (first_key (name ++ rest) ≡ key_of name)
has_key true name rest dot ends = inl (key_of_front SEED name rest dot ends)
has_key false name rest dot ends = inr (first_of_front SEED name rest dot ends)

match_has : (name scope : Name) → name_matches name scope ≡ true
    → (key_of scope ≡ key_of name) ⊎ (first_key scope ≡ key_of name)
match_has name scope matches =
    let parts = and_parts (starts_with nat_eq scope name) (ends_part (drop (length name) scope)) matches in
    let split : scope ≡ name ++ drop (length name) scope =
    (starts_is Decides-eqb scope name true (sym parts.0)).0 refl in
    elim (has_key (has_dot name) name (drop (length name) scope) refl parts.1) [
      | inl is ↦ inl (ap key_of split ∙ is)
      | inr is ↦ inr (ap first_key split ∙ is)
    ]

differs : (name scope : Name) → (key_of scope ≡ key_of name → ⊥) → (first_key scope ≡ key_of name → ⊥)
    → name_matches name scope ≡ true → ⊥
differs name scope whole first matches = elim (match_has name scope matches) [ inl is ↦ whole is | inr is ↦ first is ]

no_match : (matches further behind : Bool) → (matches ≡ true → ⊥) → behind ≡ false
    → ((matches && further) || behind) ≡ false
no_match true further behind none is = absurd (none refl)
no_match false further behind none is = is

none_further : (matches further behind : Bool) → further ≡ false → behind ≡ false
    → ((matches && further) || behind) ≡ false
none_further true further behind fails is = ap (λ b. b || behind) fails ∙ is
none_further false further behind fails is = is

lacks_behind : (keys : List ℕ) (scope : Name) (scopes : Scopes) → LacksOne keys (scope ∷ scopes) → LacksOne keys scopes
lacks_behind [] scope scopes lacks = lacks
lacks_behind (key ∷ keys) scope scopes (inl none) = inl none.2
lacks_behind (key ∷ keys) scope scopes (inr lacks) = inr (lacks_behind keys scope scopes lacks)

pub path_lacks : (scopes : Scopes) (names : List Name) → LacksOne (map key_of names) scopes
    → path_holds names scopes ≡ false
path_lacks scopes [] lacks = absurd lacks
path_lacks [] (name ∷ names) lacks = refl
path_lacks (scope ∷ scopes) (name ∷ names) (inl none) =
    no_match (name_matches name scope) (path_holds names scopes) (path_holds (name ∷ names) scopes)
    (differs name scope none.0 none.1) (path_lacks scopes (name ∷ names) (inl none.2))
path_lacks (scope ∷ scopes) (name ∷ names) (inr lacks) =
    let rest = lacks_behind (map key_of names) scope scopes lacks in
    none_further (name_matches name scope) (path_holds names scopes) (path_holds (name ∷ names) scopes)
    (path_lacks scopes names rest) (path_lacks scopes (name ∷ names) (inr rest))
