-- Lists of open entries: the numbers of their rows, and those of one kind.
use Rattle.std.proofs.Common.{◌≡◌, ℕ, ◌==◌, List, [], ◌∷◌, length, map, Bool, true, refl, sym, ap, ◌∙◌, arith, inl}
use Rattle.std.proofs.Common.{inr, subst}
use Rattle.std.specs.List.{filter}
use Rattle.std.proofs.lemmas.Bool.{cases_Bool}
use Rattle.std.proofs.lemmas.List.{length-map}
use Rattle.pairing_defs.specs.Pairing.{Entry}
use Rattle.bracket_lex.specs.LevelLaws.{FallBelow, IsAmong, Counts}
use Rattle.bracket_lex.proofs.OpenEntries.{IsStack, IsEntry, stack_more}
use Rattle.bracket_lex.proofs.OpenStacks.{IsIn}

-- ---- the rows of entries
abbrev rows_in : List Entry → List ℕ
rows_in es = map (λ e. e.row) es

rows_fall : (n : ℕ) (es : List Entry) → IsStack n es → FallBelow n (rows_in es)
rows_fall n [] stack = tt
rows_fall n (e ∷ es) stack = (stack.0, rows_fall e.row es stack.1)

row_among : (es : List Entry) (e : Entry) (under : List Entry) → IsEntry e under es → IsAmong e.row (rows_in es)
row_among [] e under among = among
row_among (x ∷ es) e under (inl same) = inl (ap (λ y. y.row) same.0)
row_among (x ∷ es) e under (inr deeper) = inr (row_among es e under deeper)

pub record EntryOf (k : ℕ) (es : List Entry) : Type 0 where
  pub entry : Entry
  pub row : entry.row ≡ k
  pub among : IsIn entry es

entry_of : (es : List Entry) (k : ℕ) → IsAmong k (rows_in es) → EntryOf k es
entry_of [] k among = absurd among
entry_of (x ∷ es) k (inl same) = record { entry = x; row = same; among = (es, inl (refl, refl)) }
entry_of (x ∷ es) k (inr deeper) =
    let found : EntryOf k es = entry_of es k deeper in
    record { entry = found.entry; row = found.row; among = (found.among.0, inr found.among.1) }

pub counted : (n : ℕ) (Holds : ℕ → Type 0) (es : List Entry) (count : ℕ) → IsStack n es → length es ≡ count
    → ((e : Entry) → IsIn e es → Holds e.row) → ((k : ℕ) → Holds k → EntryOf k es) → Counts n Holds count
counted n Holds es count stack many only all = record {
  numbers = rows_in es;
  fall = rows_fall n es stack;
  only = λ k among. (let found : EntryOf k es =
      entry_of es k among in subst Holds found.row (only found.entry found.among));
  all = λ k holds. (let found : EntryOf k es =
      all k holds in subst (λ j. IsAmong j (rows_in es)) found.row
      (row_among es found.entry found.among.0 found.among.1));
  many = length-map es (λ e. e.row) ∙ many;
}

-- ---- those of a kind
abbrev pub is_of : ℕ → Entry → Bool
is_of kind e = e.kind == kind

pub filter_falls : (p : Entry → Bool) (n : ℕ) (es : List Entry) → IsStack n es → IsStack n (filter p es)
filter_falls p n [] stack = tt
filter_falls p n (e ∷ es) stack = elim (cases_Bool (p e)) [
  | inl passes ↦ rw passes (stack.0, filter_falls p e.row es stack.1)
  | inr fails ↦ rw fails (let falls = stack.0 in
      stack_more e.row n (filter p es) (filter_falls p e.row es stack.1) (omega arith))
]

filter_more : (p : Entry → Bool) (x : Entry) (es : List Entry) (e : Entry) → IsIn e (filter p es)
    → IsIn e (filter p (x ∷ es))
filter_more p x es e among = elim (cases_Bool (p x)) [
  | inl passes ↦ rw passes (among.0, inr among.1)
  | inr fails ↦ rw fails among
]

pub into_filter : (p : Entry → Bool) (es : List Entry) (e : Entry) (under : List Entry) → IsEntry e under es → p e
    ≡ true → IsIn e (filter p es)
into_filter p [] e under among passes = absurd among
into_filter p (x ∷ es) e under (inl same) passes = rw (ap p same.0 ∙ passes) (filter p es, inl (same.0, refl))
into_filter p (x ∷ es) e under (inr deeper) passes = filter_more p x es e (into_filter p es e under deeper passes)

pub record Filtered (p : Entry → Bool) (es : List Entry) (e : Entry) : Type 0 where
  pub among : IsIn e es
  pub passes : p e ≡ true

filtered_more : (p : Entry → Bool) (x : Entry) (es : List Entry) (e : Entry) → Filtered p es e → Filtered p (x ∷ es) e
filtered_more p x es e f = record { among = (f.among.0, inr f.among.1); passes = f.passes }

filtered_here : (p : Entry → Bool) (x : Entry) (es : List Entry) (e : Entry) (under : List Entry) → p x ≡ true
    → ((under : List Entry) → IsEntry e under (filter p es) → Filtered p es e)
    → IsEntry e under (x ∷ filter p es) → Filtered p (x ∷ es) e
filtered_here p x es e under passes later (inl same) =
    record { among = (es, inl (same.0, refl)); passes = ap p (sym same.0) ∙ passes }
filtered_here p x es e under passes later (inr deeper) = filtered_more p x es e (later under deeper)

pub from_filter : (p : Entry → Bool) (es : List Entry) (e : Entry) (under : List Entry)
    → IsEntry e under (filter p es) → Filtered p es e
from_filter p [] e under among = absurd among
from_filter p (x ∷ es) e under among = elim (cases_Bool (p x)) [
  | inl passes ↦ filtered_here p x es e under passes (from_filter p es e) (rw passes at among)
  | inr fails ↦ filtered_more p x es e (from_filter p es e under (rw fails at among))
]
