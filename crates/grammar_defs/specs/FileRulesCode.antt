-- How the logic stores a list of a grammar file: as words, each behind those of its parts.
use Rattle.std.specs.Prelude.{◌≡◌, ℕ, List, [], ◌∷◌, Bool, ◌⊎◌, Option, refl}
use Rattle.std.specs.Coded.{Coded, code_by, coded×, coded⊎, coded_ℕ, coded_bool, coded_list, coded_option}
use Rattle.std.proofs.Common.{inl, inr, ap, ◌∙◌}
use Rattle.grammar_defs.specs.FileRules.{Texts, FileList, absent, nothing, include, rule, capture}

abbrev Text : Type 0
Text = Option (List ℕ)

abbrev SevenTexts : Type 0
SevenTexts = Text × Text × Text × Text × Text × Text × Text

abbrev coded_text : Coded (Option (List ℕ))
coded_text = coded_option (coded_list coded_ℕ)

-- absent or nothing; an include; a rule; a capture
abbrev Word : Type 0
Word = Bool ⊎ (List ℕ ⊎ ((List Text × Bool) ⊎ (ℕ × List Text)))

abbrev seven : Texts → List Text
seven t = t.name ∷ t.content ∷ t.single ∷ t.begin ∷ t.finish ∷ t.keep ∷ t.include ∷ []

abbrev words_then : FileList → List Word → List Word
words_then absent rest = inl Bool.false ∷ rest
words_then nothing rest = inl Bool.true ∷ rest
words_then (include name others) rest = words_then others (inr (inl name) ∷ rest)
words_then (rule texts a b c d finish_last patterns others) rest =
    words_then a (words_then b (words_then c
    (words_then d (words_then patterns (words_then others (inr (inr (inl (seven texts, finish_last))) ∷ rest))))))
words_then (capture number name content patterns others) rest =
    words_then patterns (words_then others (inr (inr (inr (number, name ∷ content ∷ []))) ∷ rest))

abbrev included : List ℕ → List FileList → List FileList
included name [] = []
included name (others ∷ xs) = include name others ∷ xs

abbrev placed : List Text → Bool → List FileList → List FileList
placed (n ∷ c ∷ s ∷ b ∷ f ∷ k ∷ i ∷ []) finish_last (others ∷ patterns ∷ w ∷ e ∷ g ∷ a ∷ xs) =
    rule (record { name = n; content = c; single = s; begin = b; finish = f; keep = k; include = i }) a g e w
    finish_last patterns others ∷ xs
placed texts finish_last xs = xs

abbrev captured : ℕ → List Text → List FileList → List FileList
captured number (name ∷ content ∷ []) (others ∷ patterns ∷ xs) = capture number name content patterns others ∷ xs
captured number texts xs = xs

abbrev read : Word → List FileList → List FileList
read (inl Bool.false) xs = absent ∷ xs
read (inl Bool.true) xs = nothing ∷ xs
read (inr (inl name)) xs = included name xs
read (inr (inr (inl (texts, finish_last)))) xs = placed texts finish_last xs
read (inr (inr (inr (number, texts)))) xs = captured number texts xs

abbrev read_all : List Word → List FileList → List FileList
read_all [] xs = xs
read_all (w ∷ ws) xs = read_all ws (read w xs)

abbrev first : List FileList → FileList
first [] = nothing
first (x ∷ xs) = x

read_words : (l : FileList) (rest : List Word) (xs : List FileList) → read_all (words_then l rest) xs
    ≡ read_all rest (l ∷ xs)
read_words absent rest xs = refl
read_words nothing rest xs = refl
read_words (include name others) rest xs = read_words others _ xs
read_words (rule texts a b c d finish_last patterns others) rest xs =
    read_words a _ xs ∙ read_words b _ (a ∷ xs) ∙ read_words c _ (b ∷ a ∷ xs) ∙ read_words d _ (c ∷ b ∷ a ∷ xs)
    ∙ read_words patterns _ (d ∷ c ∷ b ∷ a ∷ xs) ∙ read_words others _ (patterns ∷ d ∷ c ∷ b ∷ a ∷ xs)
read_words (capture number name content patterns others) rest xs =
    read_words patterns _ xs ∙ read_words others _ (patterns ∷ xs)

abbrev pub words : FileList → List Word
words l = words_then l []

abbrev pub unwords : List Word → FileList
unwords ws = first (read_all ws [])

pub unwords-words : (l : FileList) → unwords (words l) ≡ l
unwords-words l = ap first (read_words l [] [])

abbrev pub file_list_code : Coded FileList
file_list_code = code_by (List Word)
    (coded_list (coded⊎ coded_bool (coded⊎ (coded_list coded_ℕ)
    (coded⊎ (coded× (coded_list coded_text) coded_bool) (coded× coded_ℕ (coded_list coded_text))))))
    words unwords unwords-words
