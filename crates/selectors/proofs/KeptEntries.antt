-- The entries that a selector keeps are those of its text.
use Rattle.std.proofs.Common.{◌≡◌, ℕ, zero, suc, ◌<◌, List, [], ◌∷◌, length, get_or, Result}
use Rattle.std.proofs.Common.{Ok, Err, IsOk, unwrap_or, slice_get, refl, sym, ◌∙◌, ap, subst, arith}
use Rattle.std.specs.Result.{result_unwrap_or}
use Rattle.scope_defs.specs.Selectors.{Entry}
use Rattle.scope_defs.specs.SelectorSyntax.{read_selector, entries_of, no_entry, entry_at}
use Rattle.selectors.specs.declared.sign.KeptEntry.{KeptEntry}
use Rattle.selectors.specs.Machine.{read_kept}
use Rattle.selectors.specs.Meanings.{IsKept, AreKept, ReadAlike}
use Rattle.selectors.proofs.Alike.{texts_read_alike}

alike_ok : (ks : List KeptEntry) (read : Result (List Entry) ℕ) → ReadAlike (Ok ks) read → IsOk read
    × AreKept ks (result_unwrap_or read [])
alike_ok ks (Ok es) is = (refl, is)
alike_ok ks (Err at) is = absurd is

alike_err : (at : ℕ) (read : Result (List Entry) ℕ) → ReadAlike (Err at) read → read ≡ Err at
alike_err at (Ok es) is = absurd is
alike_err at (Err other) is = ap Err (sym is)

pub read_ok : (text : List ℕ) (ks : List KeptEntry) → read_kept text ≡ Ok ks → IsOk (read_selector text)
    × AreKept ks (entries_of text)
read_ok text ks is =
    let P : Result (List KeptEntry) ℕ → Type 0 = λ kept. ReadAlike kept (read_selector text) in
    alike_ok ks (read_selector text) (subst P is (texts_read_alike text))

pub read_err : (text : List ℕ) (at : ℕ) → read_kept text ≡ Err at → read_selector text ≡ Err at
read_err text at is =
    let P : Result (List KeptEntry) ℕ → Type 0 = λ kept. ReadAlike kept (read_selector text) in
    alike_err at (read_selector text) (subst P is (texts_read_alike text))

pub as_many : (ks : List KeptEntry) (es : List Entry) → AreKept ks es → length ks ≡ length es
as_many [] [] all = refl
as_many [] (e ∷ es) all = absurd all
as_many (k ∷ ks) [] all = absurd all
as_many (k ∷ ks) (e ∷ es) all = omega (arith, as_many ks es all.1)

kept_at : (ks : List KeptEntry) (es : List Entry) (n : ℕ) (k : KeptEntry) → AreKept ks es → n < length ks → k
    ≡ get_or ks n k → IsKept k (unwrap_or (slice_get es n) no_entry)
kept_at [] es n k all lt is = absurd (omega arith)
kept_at (x ∷ ks) [] n k all lt is = absurd all
kept_at (x ∷ ks) (e ∷ es) zero k all lt is = subst (λ y. IsKept y e) (sym is) all.0
kept_at (x ∷ ks) (e ∷ es) (suc n) k all lt is = kept_at ks es n k all.1 (omega arith) is

pub entry_kept : (text : List ℕ) (ks : List KeptEntry) (n : ℕ) (k : KeptEntry) → read_kept text ≡ Ok ks
    → n < length ks → k ≡ get_or ks n k → IsKept k (entry_at text n)
entry_kept text ks n k read lt is = kept_at ks (entries_of text) n k (read_ok text ks read).1 lt is

pub entry_count : (text : List ℕ) (ks : List KeptEntry) → read_kept text ≡ Ok ks → length ks ≡ length (entries_of text)
entry_count text ks read = as_many ks (entries_of text) (read_ok text ks read).1

-- where the text and the entries are those of a selector

pub in_range : (text self : List ℕ) (ks items : List KeptEntry) (n : ℕ) → read_kept text ≡ Ok ks → text ≡ self → items
    ≡ ks → n < length (entries_of self) → n < length items
in_range text self ks items n read shows same lt =
    omega (arith, entry_count text ks read, ap (λ t. length (entries_of t)) shows, ap length same)

pub entry_here : (text self : List ℕ) (ks items : List KeptEntry) (n : ℕ) (k : KeptEntry) → read_kept text ≡ Ok ks
    → text ≡ self → items ≡ ks → n < length (entries_of self) → k ≡ get_or items n k
    → IsKept k (entry_at self n)
entry_here text self ks items n k read shows same lt is =
    subst (λ t. IsKept k (entry_at t n)) shows
    (entry_kept text ks n k read (omega (arith, in_range text self ks items n read shows same lt, ap length same))
    (is ∙ ap (λ xs. get_or xs n k) same))

pub count_here : (text self : List ℕ) (ks items : List KeptEntry) → read_kept text ≡ Ok ks → text ≡ self → items ≡ ks
    → length items ≡ length (entries_of self)
count_here text self ks items read shows same =
    ap length same ∙ (entry_count text ks read ∙ ap (λ t. length (entries_of t)) shows)
