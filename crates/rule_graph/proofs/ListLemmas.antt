-- Lists of rules and captures, member by member.
use Rattle.std.proofs.Common.{◌≡◌, ℕ, ◌+◌, ◌<◌, List, [], ◌∷◌, length, drop, get_or, refl, ap, arith}
use Rattle.std.specs.Prelude.{Some, true}
use Rattle.std.proofs.lemmas.List.{drop_more}
use Rattle.grammar_defs.specs.FileRules.{FileList, absent, nothing, include, rule, capture}
use Rattle.grammar_defs.specs.GrammarShape.{own_rule}
use Rattle.grammar_json.specs.FileViews.{entry_list, entry_then, capture_list, capture_then}
use Rattle.grammar_json.specs.declared.file_rules.Entry.{Entry}
use Rattle.grammar_json.specs.declared.file_rules.Entry.TheVariants.{Include, Rule}
use Rattle.grammar_json.specs.declared.file_rules.Capture.{Capture}
use Rattle.grammar_defs.specs.FileRules.{weight}
use Rattle.grammar_json.specs.declared.file_rules.Captures.TheDeep.{deep-Entry, deep-Capture}
use Rattle.grammar_json.specs.FileFalls.{entries_fall, captures_fall}
use denote.Param.Weighed.{most}
use Rattle.std.proofs.Common.{◌≤◌, zero, suc}
use Rattle.graph_defs.specs.ListedRules.{is_there, inner_of}

pub entries_are_there : (es : List Entry) → is_there (entry_list es) ≡ true
entries_are_there [] = refl
entries_are_there (Include name ∷ es) = refl
entries_are_there (Rule r ∷ es) = refl

pub captures_are_there : (cs : List Capture) → is_there (capture_list cs) ≡ true
captures_are_there [] = refl
captures_are_there (c ∷ cs) = refl

-- a list that counts as a rule is there
pub inner_of_own : (n : ℕ) (list : FileList) → own_rule list ≡ 1 → inner_of n list ≡ Some n
inner_of_own n absent own = absurd (omega (arith, own))
inner_of_own n nothing own = refl
inner_of_own n (include name others) own = refl
inner_of_own n (rule t a b c d last p others) own = refl
inner_of_own n (capture number name content p others) own = refl

pub entries_more : (es : List Entry) (i : ℕ) (e : Entry) → i < length es
    → entry_list (drop i es) ≡ entry_then (get_or es i e) (entry_list (drop (i + 1) es))
entries_more es i e h = ap entry_list (drop_more es i e h)

pub captures_more : (cs : List Capture) (i : ℕ) (c : Capture) → i < length cs
    → capture_list (drop i cs) ≡ capture_then (get_or cs i c) (capture_list (drop (i + 1) cs))
captures_more cs i c h = ap capture_list (drop_more cs i c h)

-- a member weighs no more than its list

entry_most : (es : List Entry) (i : ℕ) (e : Entry) → i < length es → deep-Entry (get_or es i e) ≤ most deep-Entry es
entry_most [] i e h = absurd (omega arith)
entry_most (x ∷ es) zero e h = omega arith
entry_most (x ∷ es) (suc i) e h = omega (arith, entry_most es i e (omega arith))

capture_most : (cs : List Capture) (i : ℕ) (c : Capture) → i < length cs
    → deep-Capture (get_or cs i c) ≤ most deep-Capture cs
capture_most [] i c h = absurd (omega arith)
capture_most (x ∷ cs) zero c h = omega arith
capture_most (x ∷ cs) (suc i) c h = omega (arith, capture_most cs i c (omega arith))

pub entry_weighs : (es : List Entry) (i : ℕ) (e : Entry) (list : FileList) → i < length es → e ≡ get_or es i e
    → entry_list es ≡ list → deep-Entry e ≤ weight list
entry_weighs es i e list h is all =
    let same = ap deep-Entry is in
    let whole = ap weight all in
    omega (arith, entry_most es i e h, entries_fall es, same, whole)

pub capture_weighs : (cs : List Capture) (i : ℕ) (c : Capture) (list : FileList) → i < length cs → c ≡ get_or cs i c
    → capture_list cs ≡ list → deep-Capture c ≤ weight list
capture_weighs cs i c list h is all =
    let same = ap deep-Capture is in
    let whole = ap weight all in
    omega (arith, capture_most cs i c h, captures_fall cs, same, whole)
