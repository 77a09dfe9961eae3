-- What a list keeps whose last names are those of one push.
use Rattle.std.proofs.Common.{◌≡◌, ℕ, ◌+◌, ◌-◌, ◌<◌, ◌≤◌, List, [], ◌∷◌, ◌++◌, length, take, fold, refl, sym, ◌∙◌, ap}
use Rattle.std.proofs.Common.{arith}
use Rattle.std.specs.List.{filter_map}
use Rattle.std.proofs.lemmas.List.Elements.{filter_map-append}
use Rattle.std.proofs.lemmas.List.Sums.{fold-append}
use Rattle.scope_defs.specs.declared.limits.TheConstants.{MOST_NAMES}
use Rattle.scope_defs.specs.declared.types.StdType.{StdType}
use Rattle.scope_defs.specs.declared.types.StdType.TheVariants.{Other}
use Rattle.scope_defs.specs.Scopes.{Name, Scopes}
use Rattle.scope_defs.specs.StandardType.{type_of_name, last_or, type_of}
use Rattle.scope_names.specs.Keys.{keys_of, with_name}
use Rattle.scope_names.specs.Numbers.{mixed, name_number, scopes_number}
use Rattle.scope_names.specs.declared.keys.KeyBits.{KeyBits}
use Rattle.scope_names.specs.declared.scopes.Pushed.{Pushed}
use Rattle.scope_names.specs.View.{pushed_names, Keeps}

last_or-append : (kind : StdType) (xs ys : List StdType) → last_or kind (xs ++ ys) ≡ last_or (last_or kind xs) ys
last_or-append kind [] ys = refl
last_or-append kind (x ∷ xs) ys = last_or-append x xs ys

type_of-append : (xs ys : Scopes) → type_of (xs ++ ys) ≡ last_or (type_of xs) (filter_map type_of_name ys)
type_of-append xs ys = ap (last_or Other) (filter_map-append type_of_name xs ys)
    ∙ last_or-append Other (filter_map type_of_name xs) (filter_map type_of_name ys)

-- the fields of names that are pushed on some scopes, so many of them
pub record Pushes (scopes : Scopes) (names : List Name) (added : ℕ) (p : Pushed) : Type 0 where
  pub below : p.below ≡ scopes
  pub name : p.name ≡ names
  pub len : p.len ≡ length scopes + added
  pub kind : p.kind ≡ last_or (type_of scopes) (filter_map type_of_name (take added names))
  pub number : p.number ≡ fold (λ before name. mixed before (name_number name)) (scopes_number scopes)
      (take added names)
  pub keys : p.keys ≡ fold with_name (keys_of scopes) (take added names)

pushes_names : (scopes : Scopes) (names : List Name) (added : ℕ) (p : Pushed) → Pushes scopes names added p
    → pushed_names p ≡ scopes ++ take added names
pushes_names scopes names added p is =
    let count : p.len - length p.below ≡ added = omega (arith, ap length is.below) in
    cc

pub pushes_kept : (scopes : Scopes) (names : List Name) (added : ℕ) (p : Pushed) → Pushes scopes names added p
    → 0 < added → added ≤ length names → length scopes + added ≤ MOST_NAMES → Keeps p
pushes_kept scopes names added p is some within few =
    let all = pushes_names scopes names added p is in
    record {
      rises = omega (arith, ap length is.below);
      within = omega (arith, ap length is.below, ap length is.name);
      few = omega arith;
      kind = is.kind ∙ (sym (type_of-append scopes (take added names)) ∙ ap type_of (sym all));
      number = is.number ∙ (sym (fold-append (λ before name. mixed before (name_number name)) _ scopes
          (take added names)) ∙ ap scopes_number (sym all));
      keys = is.keys ∙ (sym (fold-append with_name _ scopes
          (take added names)) ∙ ap keys_of (sym all));
    }

-- the type and the number of the fields, of those of the calls that made them

pub kind_is : (kind before after : StdType) (xs ys : List Name) → kind ≡ last_or before (filter_map type_of_name xs)
    → before ≡ after → xs ≡ ys → kind ≡ last_or after (filter_map type_of_name ys)
kind_is kind before after xs ys is same alike =
    is ∙ (ap (λ k. last_or k (filter_map type_of_name xs)) same
    ∙ ap (λ zs. last_or after (filter_map type_of_name zs)) alike)

abbrev pub numbered : ℕ → List Name → ℕ
numbered number names = fold (λ before name. mixed before (name_number name)) number names

pub number_is : (number before after : ℕ) (xs ys : List Name) → number ≡ numbered before xs → before ≡ after → xs ≡ ys
    → number ≡ numbered after ys
number_is number before after xs ys is same alike =
    is ∙ (ap (λ k. numbered k xs) same ∙ ap (λ zs. numbered after zs) alike)

abbrev pub keyed : KeyBits → List Name → KeyBits
keyed keys names = fold with_name keys names

pub keys_are : (keys before after : KeyBits) (xs ys : List Name) → keys ≡ keyed before xs → before ≡ after → xs ≡ ys
    → keys ≡ keyed after ys
keys_are keys before after xs ys is same alike =
    is ∙ (ap (λ k. keyed k xs) same ∙ ap (λ zs. keyed after zs) alike)
