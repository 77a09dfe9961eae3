-- Scopes, as the TextMate manual has them: the names that hold at a place of a text, the outermost first. A name is a
-- list of numbers, its characters or their UTF-8 bytes: all signs that the rules of scopes and selectors speak of are
-- ASCII, so these rules read both alike. Clauses see the bytes of a `&str`.
use Rattle.std.specs.Prelude.{ℕ, ◌-◌, ◌==◌, List, [], ◌∷◌, ◌++◌, length, take, filter, Bool, true, false, if◌then◌else◌}
use Rattle.scope_defs.specs.declared.limits.TheConstants.{MOST_NAMES}

abbrev pub Name : Type 0
Name = List ℕ

abbrev pub Scopes : Type 0
Scopes = List Name

-- the pieces of a text between spaces, empty ones too, behind a piece that is begun
abbrev pub cut : Name → List ℕ → List Name
cut begun [] = begun ∷ []
cut begun (c ∷ cs) = if c == 32 then begun ∷ cut [] cs else cut (begun ++ c ∷ []) cs

abbrev pub has_characters : Name → Bool
has_characters [] = false
has_characters (c ∷ cs) = true

-- the pieces of a text between spaces that aren't empty
abbrev pub pieces : List ℕ → List Name
pieces text = filter has_characters (cut [] text)

-- Scopes with further names. That a list has so many names at most, and that those past them are dropped, is this
-- project's own.
abbrev pub with_names : Scopes → List Name → Scopes
with_names scopes names = scopes ++ take (MOST_NAMES - length scopes) names

-- scopes with the pieces of a text pushed
abbrev pub push : Scopes → List ℕ → Scopes
push scopes text = with_names scopes (pieces text)
