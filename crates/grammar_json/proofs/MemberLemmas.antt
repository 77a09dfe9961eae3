-- What is found at a key of an object.
use Rattle.std.proofs.Common.{append_assoc, true≢false, subst, ◌≡◌, ℕ, ◌≤◌, ◌<◌, max, List, [], ◌∷◌, ◌++◌, Option}
use Rattle.std.proofs.Common.{Some, None, Ordering, Less, Equal, Greater, nat_cmp, is_eq, bytes_eq, refl, ap, sym}
use Rattle.std.proofs.Common.{◌∙◌, arith}
use Rattle.std.proofs.lemmas.Map.Text.{is_eq-slice_cmp}
use Rattle.std.specs.Prelude.{codes, if◌then◌else◌, true, false, Bool, is_some, Result, Ok, Err}
use Rattle.std.specs.Cmp.Lexicographic.{slice_cmp}
use Rattle.std.specs.Ordering.{match_ordering}
use Rattle.serde_json.specs.Data.{Data, null, boolean, number, string, array, object, Members, no_members, member}
use Rattle.serde_json.specs.Data.{depth, members_depth}
use Rattle.serde_json.specs.Find.{get, get_member, as_object}
use Rattle.grammar_defs.specs.FileRules.{FileList, absent, nothing, include, placed}
use Rattle.grammar_defs.specs.Pointers.{Pointer, all_below, itself}
use Rattle.grammar_defs.specs.RuleShape.{number_after, capture_of, is_capture_key, members_of, list_of, patterns_in}
use Rattle.grammar_defs.specs.RuleShape.{captures_in, captures_of}
use Rattle.grammar_defs.specs.RuleFaults.{texts_faults, finish_last_faults, rule_faults, wide_faults, capture_faults}
use Rattle.grammar_defs.specs.RuleFaults.{list_faults, patterns_faults_at, captures_faults, captures_faults_at}
use Rattle.grammar_json.specs.Faults.{IsFirst, Tells}
use Rattle.grammar_json.specs.FileViews.{entry_then, entries_then, capture_then, captures_then, capture_if_there}
use Rattle.grammar_json.specs.FileViews.{entry_list, capture_list, rule_of, joined}
use Rattle.grammar_json.specs.Members.{Pushes, member_capture, member_faults, member_faults_of}
use Rattle.grammar_json.specs.declared.fault.Fault.{Fault}
use Rattle.grammar_json.specs.declared.file_rules.Entry.{Entry}
use Rattle.grammar_json.specs.declared.file_rules.Entry.TheVariants.{Include, Rule}
use Rattle.grammar_json.specs.declared.file_rules.Capture.{Capture}
use Rattle.grammar_json.proofs.FaultLemmas.{IsFirst_append}

-- what f makes of a member, or of none
by_order : {A : Type 0} (o : Ordering) (f : Option Data → A) (here later : Option Data)
    → f (match_ordering o later here later) ≡ (if is_eq o then f here else f later)
by_order Less f here later = refl
by_order Equal f here later = refl
by_order Greater f here later = refl

at_key : {A : Type 0} (f : Option Data → A) (key k : List ℕ) (d : Data) (ms : Members)
    → f (get_member key (member k d ms)) ≡ (if bytes_eq key k then f (Some d) else f (get_member key ms))
at_key f key k d ms =
    by_order (slice_cmp nat_cmp key k) f (Some d) (get_member key ms)
    ∙ ap (λ b. if b then f (Some d) else f (get_member key ms)) (is_eq-slice_cmp key k)

abbrev pub list_if : Option Data → FileList
list_if None = absent
list_if (Some d) = list_of d

abbrev pub captures_if : Option Data → FileList
captures_if None = absent
captures_if (Some d) = captures_of d

abbrev pub faults_if : (Data → List Pointer) → List ℕ → Option Data → List Pointer
faults_if faults key None = []
faults_if faults key (Some d) = all_below key (faults d)

patterns_in_members : (ms : Members) → patterns_in ms ≡ list_if (get_member (codes "patterns") ms)
patterns_in_members no_members = refl
patterns_in_members (member k d ms) =
    ap (λ x. if bytes_eq (codes "patterns") k then list_of d else x) (patterns_in_members ms)
    ∙ sym (at_key list_if (codes "patterns") k d ms)

patterns_faults_in_members : (ms : Members) → patterns_faults_at ms
    ≡ faults_if list_faults (codes "patterns") (get_member (codes "patterns") ms)
patterns_faults_in_members no_members = refl
patterns_faults_in_members (member k d ms) =
    ap (λ x. if bytes_eq (codes "patterns") k then all_below (codes "patterns") (list_faults d) else x)
    (patterns_faults_in_members ms)
    ∙ sym (at_key (faults_if list_faults (codes "patterns")) (codes "patterns") k d ms)

captures_in_members : (key : List ℕ) (ms : Members) → captures_in key ms ≡ captures_if (get_member key ms)
captures_in_members key no_members = refl
captures_in_members key (member k d ms) =
    ap (λ x. if bytes_eq key k then captures_of d else x) (captures_in_members key ms)
    ∙ sym (at_key captures_if key k d ms)

captures_faults_in_members : (key : List ℕ) (ms : Members) → captures_faults_at key ms
    ≡ faults_if captures_faults key (get_member key ms)
captures_faults_in_members key no_members = refl
captures_faults_in_members key (member k d ms) =
    ap (λ x. if bytes_eq key k then all_below key (captures_faults d) else x) (captures_faults_in_members key ms)
    ∙ sym (at_key (faults_if captures_faults key) key k d ms)

-- the members of a value that has any are those in which it is looked up
got_by : {A : Type 0} (f : Option Data → A) (g : Members → A) (key : List ℕ)
    → ((ms : Members) → g ms ≡ f (get_member key ms)) → (d : Data) → g (members_of d) ≡ f (get key d)
got_by f g key h null = h no_members
got_by f g key h (boolean b) = h no_members
got_by f g key h (number n) = h no_members
got_by f g key h (string s) = h no_members
got_by f g key h (array ds) = h no_members
got_by f g key h (object ms) = h ms

pub patterns_found : (d : Data) → patterns_in (members_of d) ≡ list_if (get (codes "patterns") d)
patterns_found d = got_by list_if patterns_in (codes "patterns") patterns_in_members d

pub patterns_faults_found : (d : Data) → patterns_faults_at (members_of d)
    ≡ faults_if list_faults (codes "patterns") (get (codes "patterns") d)
patterns_faults_found d = got_by (faults_if list_faults (codes "patterns")) patterns_faults_at (codes "patterns")
    patterns_faults_in_members d

pub captures_found : (key : List ℕ) (d : Data) → captures_in key (members_of d) ≡ captures_if (get key d)
captures_found key d = got_by captures_if (captures_in key) key (captures_in_members key) d

pub captures_faults_found : (key : List ℕ) (d : Data) → captures_faults_at key (members_of d)
    ≡ faults_if captures_faults key (get key d)
captures_faults_found key d = got_by (faults_if captures_faults key) (captures_faults_at key) key
    (captures_faults_in_members key) d

-- a member nests less deep than its object
members_depth_below : (key : List ℕ) (ms : Members) (d : Data) → get_member key ms ≡ Some d → depth d ≤ members_depth ms
members_depth_below key no_members d h = absurd (grind (arith, h))
members_depth_below key (member k e ms) d h =
    one_of (slice_cmp nat_cmp key k) e (get_member key ms) d h (members_depth_below key ms d)
  where
    one_of : (o : Ordering) (e : Data) (later : Option Data) (d : Data) → match_ordering o later (Some e) later
        ≡ Some d → (later ≡ Some d → depth d ≤ members_depth ms) → depth d ≤ max (depth e) (members_depth ms)
    one_of Less e later d h rest = omega (arith, rest h)
    one_of Equal e later d h rest = let same : e ≡ d = grind (arith, h) in rw same (omega arith)
    one_of Greater e later d h rest = omega (arith, rest h)

pub depth_below : (key : List ℕ) (d e : Data) → get key d ≡ Some e → depth e < depth d
depth_below key null e h = absurd (grind (arith, h))
depth_below key (boolean b) e h = absurd (grind (arith, h))
depth_below key (number n) e h = absurd (grind (arith, h))
depth_below key (string s) e h = absurd (grind (arith, h))
depth_below key (array ds) e h = absurd (grind (arith, h))
depth_below key (object ms) e h = omega (arith, members_depth_below key ms e h)

pub faults_of_object : (d : Data) → is_some (as_object d) ≡ true → rule_faults false d ≡ member_faults_of d
faults_of_object (object ms) h = split (texts_faults (object ms)) (captures_faults_at (codes "captures") ms)
    (captures_faults_at (codes "beginCaptures") ms)
    (captures_faults_at (codes "endCaptures") ms) (captures_faults_at (codes "whileCaptures") ms)
    (finish_last_faults (object ms) ++ patterns_faults_at ms)
  where
    split : (t a b c d rest : List Pointer) → t ++ (a ++ (b ++ (c ++ (d ++ rest))))
        ≡ t ++ ((a ++ (b ++ (c ++ d))) ++ rest)
    split t a b c d rest = ap (λ x. t ++ x) (grind (arith, append_assoc))
faults_of_object null h = absurd (true≢false (sym h))
faults_of_object (boolean b) h = absurd (true≢false (sym h))
faults_of_object (number n) h = absurd (true≢false (sym h))
faults_of_object (string s) h = absurd (true≢false (sym h))
faults_of_object (array ds) h = absurd (true≢false (sym h))

pub faults_of_other : (d : Data) → is_some (as_object d) ≡ false → rule_faults false d ≡ itself
faults_of_other (object ms) h = absurd (true≢false h)
faults_of_other null h = refl
faults_of_other (boolean b) h = refl
faults_of_other (number n) h = refl
faults_of_other (string s) h = refl
faults_of_other (array ds) h = refl

-- a key that isn't there, or is
pub patterns_none : (d : Data) → get (codes "patterns") d ≡ None → (patterns_faults_at (members_of d) ≡ [])
    × (absent ≡ patterns_in (members_of d))
patterns_none d h = (
  patterns_faults_found d
      ∙ ap (faults_if list_faults (codes "patterns")) h,
  sym (patterns_found d ∙ ap list_if h),
)

pub patterns_some : (d e : Data) → get (codes "patterns") d ≡ Some e
    → (patterns_faults_at (members_of d) ≡ all_below (codes "patterns") (list_faults e))
    × (patterns_in (members_of d) ≡ list_of e)
patterns_some d e h = (
  patterns_faults_found d ∙ ap (faults_if list_faults (codes "patterns")) h,
  patterns_found d
      ∙ ap list_if h,
)

pub captures_none : (key : List ℕ) (d : Data) → get key d ≡ None → (captures_faults_at key (members_of d) ≡ [])
    × (absent ≡ captures_in key (members_of d))
captures_none key d h = (
  captures_faults_found key d
      ∙ ap (faults_if captures_faults key) h,
  sym (captures_found key d ∙ ap captures_if h),
)

pub captures_some : (key : List ℕ) (d e : Data) → get key d ≡ Some e
    → (captures_faults_at key (members_of d) ≡ all_below key (captures_faults e))
    × (captures_in key (members_of d) ≡ captures_of e)
captures_some key d e h = (
  captures_faults_found key d ∙ ap (faults_if captures_faults key) h,
  captures_found key d
      ∙ ap captures_if h,
)

-- captures of so many digits, member by member
wide_faults_split : (width : ℕ) (k : List ℕ) (d : Data) (ms : Members) (b : Bool)
    → (if b then all_below k (capture_faults d) ++ wide_faults width ms else wide_faults width ms)
    ≡ (if b then all_below k (capture_faults d) else []) ++ wide_faults width ms
wide_faults_split width k d ms true = refl
wide_faults_split width k d ms false = refl

pub wide_faults_member : (width : ℕ) (k : List ℕ) (d : Data) (ms : Members) → wide_faults width (member k d ms)
    ≡ member_faults width k d ++ wide_faults width ms
wide_faults_member width k d ms = wide_faults_split width k d ms (is_capture_key width k)

pub wide_step : (width : ℕ) (k : List ℕ) (d : Data) (ms : Members) → member_faults width k d ≡ []
    → wide_faults width (member k d ms) ≡ wide_faults width ms
wide_step width k d ms h = wide_faults_member width k d ms ∙ ap (λ x. x ++ wide_faults width ms) h

pub wide_stop : (e : Fault) (width : ℕ) (k : List ℕ) (d : Data) (ms : Members) → IsFirst e (member_faults width k d)
    → IsFirst e (wide_faults width (member k d ms))
wide_stop e width k d ms h = subst (IsFirst e) (sym (wide_faults_member width k d ms)) (IsFirst_append e _ _ h)

-- an entry more at the end of a list
pub entries_then_more : (es : List Entry) (e : Entry) (others : FileList) → entries_then (es ++ e ∷ []) others
    ≡ entries_then es (entry_then e others)
entries_then_more [] e others = refl
entries_then_more (x ∷ es) e others = ap (entry_then x) (entries_then_more es e others)

pub captures_then_more : (cs : List Capture) (c : Capture) (others : FileList) → captures_then (cs ++ c ∷ []) others
    ≡ captures_then cs (capture_then c others)
captures_then_more [] c others = refl
captures_then_more (x ∷ cs) c others = ap (capture_then x) (captures_then_more cs c others)

-- the same, as lists that are joined
pub entry_list_more : (es : List Entry) (e : Entry) → entry_list (es ++ e ∷ [])
    ≡ joined (entry_list es) (entry_then e nothing)
entry_list_more [] e = refl
entry_list_more (Include name ∷ es) e = ap (include name) (entry_list_more es e)
entry_list_more (Rule r ∷ es) e = ap (placed (rule_of r)) (entry_list_more es e)

pub capture_list_more : (cs : List Capture) (c : Capture) → capture_list (cs ++ c ∷ [])
    ≡ joined (capture_list cs) (capture_then c nothing)
capture_list_more [] c = refl
capture_list_more (x ∷ cs) c = ap (capture_then x) (capture_list_more cs c)

-- a number is read exactly of a key of so many digits
key_number : (b : Bool) (n m : ℕ) → Some n ≡ (if b then Some m else None) → (b ≡ true) × (n ≡ m)
key_number true n m h = (refl, grind (arith, h))
key_number false n m h = absurd (grind (arith, h))

pub member_read : (width n : ℕ) (k : List ℕ) (d : Data) (c : Option Capture) → Some n
    ≡ (if is_capture_key width k then Some (number_after 0 k) else None)
    → (capture_faults d ≡ []) × ((others : FileList) (key : List ℕ) → n ≡ number_after 0 key
    → capture_if_there c others ≡ capture_of key d others)
    → (member_faults width k d ≡ []) × ((others : FileList) → capture_if_there c others
    ≡ member_capture width k d others)
member_read width n k d c is told =
    let key = key_number (is_capture_key width k) n (number_after 0 k) is in
    (rw key.0 (ap (all_below k) told.0), λ others. rw key.0 (told.1 others k key.1))

pub pushed_member : (r : Result (Unit {0}) Fault) (old new : List Capture) (c : Option Capture) (width n : ℕ)
    (k : List ℕ) (d : Data) → Some n ≡ (if is_capture_key width k then Some (number_after 0 k) else None)
    → (capture_faults d ≡ []) × ((others : FileList) (key : List ℕ) → n ≡ number_after 0 key
    → capture_if_there c others ≡ capture_of key d others)
    → Pushes r old new c → Tells r (member_faults width k d)
    (λ _. (others : FileList) → captures_then new others ≡ captures_then old (member_capture width k d others))
pushed_member (Ok u) old new c width n k d is told h =
    let m = member_read width n k d c is told in
    (m.0, λ others. h others ∙ ap (captures_then old) (m.1 others))
pushed_member (Err e) old new c width n k d is told h = subst (λ e. IsFirst e (member_faults width k d)) (sym h) tt
