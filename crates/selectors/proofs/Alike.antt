-- Reading into signs goes as the definition's reading does, character by character.
use Rattle.std.proofs.Common.{◌≡◌, ℕ, zero, suc, ◌+◌, ◌%◌, ◌==◌, nat_lt, Bool, true, false, ◌&&◌, ◌||◌, not, cond}
use Rattle.std.proofs.Common.{List, [], ◌∷◌, ◌++◌, map, sum_by, Option, Some, None, Result, Err, ℤ, pos}
use Rattle.std.proofs.Common.{refl, sym, ◌∙◌, ap, subst, arith}
use Rattle.std.proofs.lemmas.List.Sums.{sum_by-cons}
use Rattle.scope_defs.specs.declared.limits.TheConstants.{MOST_NESTED}
use Rattle.scope_defs.specs.Scopes.{Name, Scopes}
use Rattle.scope_defs.specs.Selectors.{Matcher, Path, Not, Entry, holds, path_holds}
use Rattle.scope_defs.specs.SelectorSyntax as syntax
use Rattle.scope_defs.specs.SelectorSyntax.{Reading, Level, Sign, Space, Letter, Minus, Opens, Closes, Bar, Comma}
use Rattle.scope_defs.specs.SelectorSyntax.{Other, sign_of, negated, and_also, or_also, all_of, whole, with_operand}
use Rattle.scope_defs.specs.SelectorSyntax.{operand_of, priority_by}
use Rattle.selectors.specs.declared.pile.Outer.{Outer}
use Rattle.selectors.specs.declared.sign.KeptEntry.{KeptEntry}
use Rattle.selectors.specs.declared.sign.Sign.{Sign as KeptSign}
use Rattle.selectors.specs.declared.sign.Sign.TheVariants as kept
use Rattle.selectors.specs.declared.reader.Reader.{Reader}
use Rattle.selectors.specs.declared.reader.Stand.{Stand}
use Rattle.selectors.specs.declared.reader.Stand.TheVariants as stands
use Rattle.selectors.specs.declared.verdict.Verdict.TheVariants.{Holds}
use Rattle.selectors.specs.Machine as machine
use Rattle.selectors.specs.Machine.{is_even}
use Rattle.selectors.specs.Meanings.{IsKept, AreKept, ReadAlike}
use Rattle.selectors.specs.Truths.{Truth, some_holds, all_hold, truth, turned, with_test, Tells}
use Rattle.selectors.specs.Verdicts.{run, behind}
use Rattle.selectors.proofs.Passing.{fresh, value, run-snoc, path_tells, opens_tells, next_tells, closes_tells}
use Rattle.selectors.proofs.Passing.{told}

-- minus signs

even_again : (n : ℕ) → (suc (suc n) % 2) ≡ (n % 2)
even_again n = omega arith

other_parity : (n : ℕ) → is_even (suc n) ≡ not (is_even n)
other_parity zero = refl
other_parity (suc zero) = refl
other_parity (suc (suc n)) = ap (λ m. m == 0) (even_again (suc n))
    ∙ (other_parity n ∙ ap (λ m. not (m == 0)) (sym (even_again n)))

turned_over : (wanted x : Bool) → turned wanted (not x) ≡ turned (not wanted) x
turned_over true x = refl
turned_over false true = refl
turned_over false false = refl

negated_is : (scopes : Scopes) (minuses : ℕ) (matcher : Matcher) → holds (negated minuses matcher) scopes
    ≡ turned (is_even minuses) (holds matcher scopes)
negated_is scopes zero matcher = refl
negated_is scopes (suc minuses) matcher =
    negated_is scopes minuses (Not matcher)
    ∙ (turned_over (is_even minuses) (holds matcher scopes)
    ∙ ap (λ w. turned w (holds matcher scopes)) (sym (other_parity minuses)))

-- operands and alternatives

and_is : (scopes : Scopes) (before : Option Matcher) (matcher : Matcher) → holds (and_also before matcher) scopes
    ≡ (all_hold scopes before && holds matcher scopes)
and_is scopes None matcher = refl
and_is scopes (Some before) matcher = refl

or_is : (scopes : Scopes) (before : Option Matcher) (matcher : Matcher) → holds (or_also before matcher) scopes
    ≡ (some_holds scopes before || holds matcher scopes)
or_is scopes None matcher = refl
or_is scopes (Some before) matcher = refl

operand_truth : (scopes : Scopes) (operand : Matcher) (level : Level)
    → truth scopes (with_operand (Some operand) level)
    ≡ with_test (turned (is_even level.minuses) (holds operand scopes)) (truth scopes level)
operand_truth scopes operand level =
    let both : holds (all_of level operand) scopes
    ≡ (all_hold scopes level.both && turned (is_even level.minuses) (holds operand scopes)) =
    and_is scopes level.both (negated level.minuses operand)
    ∙ ap (λ x. all_hold scopes level.both && x) (negated_is scopes level.minuses operand) in
    let P : Bool → Truth = λ b. record { either = some_holds scopes level.either; both = b } in
    ap P both

whole_truth : (scopes : Scopes) (operand : Matcher) (level : Level) → holds (whole level operand) scopes
    ≡ value (truth scopes (with_operand (Some operand) level))
whole_truth scopes operand level = or_is scopes level.either (all_of level operand)

-- what is read and what is kept of it

abbrev pub stand_of : syntax.Stand → Stand
stand_of syntax.Start = stands.Start
stand_of syntax.Wanting = stands.Wanting
stand_of (syntax.Naming names name begins) = stands.Naming names name begins
stand_of (syntax.Spaced names) = stands.Spaced names
stand_of (syntax.Closed inside) = stands.Closed

-- the level at hand, with what stands in the parentheses that closed last
abbrev pub kept_level : syntax.Stand → Level → Level
kept_level syntax.Start level = level
kept_level syntax.Wanting level = level
kept_level (syntax.Naming names name begins) level = level
kept_level (syntax.Spaced names) level = level
kept_level (syntax.Closed inside) level = with_operand (Some inside) level

abbrev pub Around : List Outer → ℕ → List Level → Type 0
Around [] outside [] = outside ≡ 0
Around [] outside (level ∷ around) = ⊥
Around (outer ∷ others) outside [] = ⊥
Around (outer ∷ others) outside (level ∷ around) =
    (outer.minuses ≡ level.minuses) × (outside ≡ outer.outside + outer.minuses + 1) × Around others outer.outside around

abbrev pub levels : Scopes → Level → List Level → List Truth
levels scopes level around = truth scopes level ∷ map (truth scopes) around

abbrev pub TellsLevels : List KeptSign → Level → List Level → Type 0
TellsLevels signs level around = (scopes : Scopes) → Tells (run scopes signs Holds) (levels scopes level around)

abbrev pub Reads : List Entry → ℤ → List Level → Level → Reader → Type 0
Reads entries priority around level k =
    AreKept k.entries entries × (k.priority ≡ priority) × Around k.around k.outside around
    × (k.minuses ≡ level.minuses) × TellsLevels k.signs level around

abbrev pub ReadsAs : Reading → Reader → Type 0
ReadsAs r k = Reads r.entries r.priority r.around (kept_level r.stand r.level) k × (k.stand ≡ stand_of r.stand)

abbrev pub Alike : Option Reading → Option Reader → Type 0
Alike None None = Unit {0}
Alike (Some r) (Some k) = ReadsAs r k
Alike _ _ = ⊥

abbrev pub standing : syntax.Stand → Reader → Reader
standing stand k = record k { stand = stand_of stand }

abbrev pub reading : List Entry → ℤ → List Level → Level → syntax.Stand → Reading
reading entries priority around level stand =
    record { entries = entries; priority = priority; around = around; level = level; stand = stand }

-- signs that are added

one_sign : (signs : List KeptSign) (sign : KeptSign) (scopes : Scopes) (ts : List Truth)
    → Tells (behind scopes sign (run scopes signs Holds)) ts → Tells (run scopes (signs ++ sign ∷ []) Holds) ts
one_sign signs sign scopes ts is = subst (λ v. Tells v ts) (sym (run-snoc scopes signs sign Holds)) is

path_verdict : (signs : List KeptSign) (names : List Name) (minuses : ℕ) (level : Level) (around : List Level)
    → minuses ≡ level.minuses → TellsLevels signs level around
    → TellsLevels (signs ++ kept.Path names (is_even minuses) ∷ []) (with_operand (Some (Path names)) level) around
path_verdict signs names minuses level around same is scopes =
    one_sign signs (kept.Path names (is_even minuses)) scopes
    (levels scopes (with_operand (Some (Path names)) level) around)
    (subst (λ t. Tells (behind scopes (kept.Path names (is_even minuses)) (run scopes signs Holds))
    (t ∷ map (truth scopes) around)) (sym (operand_truth scopes (Path names) level))
    (subst (λ n. Tells (behind scopes (kept.Path names (is_even minuses)) (run scopes signs Holds))
    (with_test (turned (is_even n) (path_holds names scopes)) (truth scopes level) ∷ map (truth scopes) around))
    same
    (path_tells scopes names (is_even minuses) (run scopes signs Holds) (truth scopes level)
    (map (truth scopes) around) (is scopes))))

path_reads : (entries : List Entry) (priority : ℤ) (around : List Level) (level : Level) (names : List Name)
    (k : Reader) → Reads entries priority around level k
    → Reads entries priority around (with_operand (Some (Path names)) level) (machine.with_path names k)
path_reads entries priority around level names k h =
    (h.0, h.1, h.2, refl, path_verdict k.signs names k.minuses level around h.3 h.4)

ended_reads : (entries : List Entry) (priority : ℤ) (around : List Level) (level : Level) (stand : syntax.Stand)
    (k : Reader) → Reads entries priority around (kept_level stand level) k
    → Reads entries priority around (with_operand (operand_of stand) level) (machine.ended (standing stand k))
ended_reads entries priority around level syntax.Start k h = h
ended_reads entries priority around level syntax.Wanting k h = h
ended_reads entries priority around level (syntax.Naming names name begins) k h =
    path_reads entries priority around level (names ++ name ∷ []) (standing (syntax.Naming names name begins) k) h
ended_reads entries priority around level (syntax.Spaced names) k h =
    path_reads entries priority around level names (standing (syntax.Spaced names) k) h
ended_reads entries priority around level (syntax.Closed inside) k h = h

-- the rows, sign by sign

name_alike : (entries : List Entry) (priority : ℤ) (around : List Level) (level : Level) (k : Reader)
    (names : List Name) (name : Name) (begins : Bool) (old : syntax.Stand) (set : Option ℤ)
    → Reads entries priority around level k
    → Alike (syntax.in_name set names name begins (reading entries priority around level old))
    (Some (machine.in_name set names name begins (standing old k)))
name_alike entries priority around level k names name begins old None h = (h, refl)
name_alike entries priority around level k names name begins old (Some p) h = ((h.0, refl, h.2, h.3, h.4), refl)

letter_alike : (c : ℕ) (entries : List Entry) (priority : ℤ) (around : List Level) (level : Level)
    (stand : syntax.Stand) (k : Reader) → Reads entries priority around (kept_level stand level) k
    → Alike (syntax.on_letter c stand (reading entries priority around level stand))
    (Some (machine.on_letter c (stand_of stand) (standing stand k)))
letter_alike c entries priority around level syntax.Start k h = (h, refl)
letter_alike c entries priority around level syntax.Wanting k h = (h, refl)
letter_alike c entries priority around level (syntax.Naming names name begins) k h =
    name_alike entries priority around level k names (name ++ c ∷ []) begins (syntax.Naming names name begins)
    (priority_by begins name c) h
letter_alike c entries priority around level (syntax.Spaced names) k h = (h, refl)
letter_alike c entries priority around level (syntax.Closed inside) k h = (h, refl)

space_alike : (entries : List Entry) (priority : ℤ) (around : List Level) (level : Level) (stand : syntax.Stand)
    (k : Reader) → Reads entries priority around (kept_level stand level) k
    → Alike (syntax.on_space stand (reading entries priority around level stand))
    (Some (machine.on_space (stand_of stand) (standing stand k)))
space_alike entries priority around level syntax.Start k h = (h, refl)
space_alike entries priority around level syntax.Wanting k h = (h, refl)
space_alike entries priority around level (syntax.Naming names name begins) k h = (h, refl)
space_alike entries priority around level (syntax.Spaced names) k h = (h, refl)
space_alike entries priority around level (syntax.Closed inside) k h = (h, refl)

minus_reads : (entries : List Entry) (priority : ℤ) (around : List Level) (level : Level) (k : Reader)
    → Reads entries priority around level k → Reads entries priority around (syntax.with_minus level)
    (machine.one_minus k)
minus_reads entries priority around level k h = (h.0, h.1, h.2, ap (λ n. n + 1) h.3, h.4)

minus_alike : (entries : List Entry) (priority : ℤ) (around : List Level) (level : Level) (stand : syntax.Stand)
    (k : Reader) → Reads entries priority around (kept_level stand level) k
    → Alike (syntax.on_minus stand (reading entries priority around level stand))
    (Some (machine.on_minus (stand_of stand) (standing stand k)))
minus_alike entries priority around level syntax.Start k h = (minus_reads entries priority around level k h, refl)
minus_alike entries priority around level syntax.Wanting k h = (minus_reads entries priority around level k h, refl)
minus_alike entries priority around level (syntax.Naming names name begins) k h = (h, refl)
minus_alike entries priority around level (syntax.Spaced names) k h = (
  minus_reads entries priority around (with_operand (Some (Path names)) level)
      (machine.ended (standing (syntax.Spaced names) k))
      (ended_reads entries priority around level (syntax.Spaced names) k h),
  refl,
)
minus_alike entries priority around level (syntax.Closed inside) k h =
    (minus_reads entries priority around (with_operand (Some inside) level) k h, refl)

opened_reads : (entries : List Entry) (priority : ℤ) (around : List Level) (level : Level) (k : Reader)
    → Reads entries priority around level k → Reads entries priority (level ∷ around) syntax.empty_level
    (machine.opened k)
opened_reads entries priority around level k h = (
  h.0,
  h.1,
  (h.3, refl, h.2),
  refl,
  λ scopes. one_sign k.signs kept.Opens scopes
      (fresh ∷ levels scopes level around) (opens_tells scopes (run scopes k.signs Holds)
      (levels scopes level around) (h.4 scopes)),
)

opening_alike : (entries : List Entry) (priority : ℤ) (around : List Level) (level : Level) (stand : syntax.Stand)
    (k : Reader) → Reads entries priority around (kept_level stand level) k
    → Alike (syntax.on_opening (reading entries priority around level stand))
    (Some (machine.opened (machine.ended (standing stand k))))
opening_alike entries priority around level stand k h = (
  opened_reads entries priority around (with_operand (operand_of stand) level) (machine.ended (standing stand k))
      (ended_reads entries priority around level stand k h),
  refl,
)

-- what a parenthesis closes

closed_verdict : (signs : List KeptSign) (minuses : ℕ) (operand : Matcher) (level outer : Level) (around : List Level)
    → minuses ≡ outer.minuses → TellsLevels signs (with_operand (Some operand) level) (outer ∷ around)
    → TellsLevels (signs ++ kept.Closes (is_even minuses) ∷ []) (with_operand (Some (whole level operand)) outer) around
closed_verdict signs minuses operand level outer around same is scopes =
    let v = run scopes signs Holds in
    let t = truth scopes (with_operand (Some operand) level) in
    let rest = map (truth scopes) around in
    let P : ℕ → Type 0 = λ n. Tells (behind scopes (kept.Closes (is_even minuses)) v)
    (with_test (turned (is_even n) (value t)) (truth scopes outer) ∷ rest) in
    let Q : Bool → Type 0 = λ b. Tells (behind scopes (kept.Closes (is_even minuses)) v)
    (with_test (turned (is_even outer.minuses) b) (truth scopes outer) ∷ rest) in
    let R : Truth → Type 0 = λ u. Tells (behind scopes (kept.Closes (is_even minuses)) v) (u ∷ rest) in
    one_sign signs (kept.Closes (is_even minuses)) scopes
    (levels scopes (with_operand (Some (whole level operand)) outer) around)
    (subst R (sym (operand_truth scopes (whole level operand) outer))
    (subst Q (sym (whole_truth scopes operand level))
    (subst P same (closes_tells scopes (is_even minuses) v t (truth scopes outer) rest (is scopes)))))

closing_alike : (others : List Outer) (around : List Level) (entries : List Entry) (priority : ℤ) (operand : Matcher)
    (level : Level) (stand : syntax.Stand) (k : Reader) (outside : ℕ) → Around others outside around
    → AreKept k.entries entries → k.priority ≡ priority → TellsLevels k.signs (with_operand (Some operand) level) around
    → Alike (syntax.on_closing (Some operand) around (reading entries priority around level stand))
    (machine.closed others k)
closing_alike [] [] entries priority operand level stand k outside lie e p is = tt
closing_alike [] (outer ∷ around) entries priority operand level stand k outside lie e p is = absurd lie
closing_alike (o ∷ others) [] entries priority operand level stand k outside lie e p is = absurd lie
closing_alike (o ∷ others) (outer ∷ around) entries priority operand level stand k outside lie e p is =
    ((e, p, lie.2, refl, closed_verdict k.signs o.minuses operand level outer around lie.0 is), refl)

-- alternatives

next_verdict : (signs : List KeptSign) (operand : Matcher) (level : Level) (around : List Level)
    → TellsLevels signs (with_operand (Some operand) level) around
    → TellsLevels (signs ++ kept.Next ∷ []) (syntax.next_alternative (whole level operand)) around
next_verdict signs operand level around is scopes =
    let v = run scopes signs Holds in
    let rest = map (truth scopes) around in
    let Q : Bool → Type 0 = λ b. Tells (behind scopes kept.Next v) (record { either = b; both = true } ∷ rest) in
    one_sign signs kept.Next scopes (levels scopes (syntax.next_alternative (whole level operand)) around)
    (subst Q (sym (whole_truth scopes operand level))
    (next_tells scopes v (truth scopes (with_operand (Some operand) level)) rest (is scopes)))

next_reads : (entries : List Entry) (priority : ℤ) (around : List Level) (operand : Matcher) (level : Level)
    (k : Reader) → Reads entries priority around (with_operand (Some operand) level) k
    → Reads entries priority around (syntax.next_alternative (whole level operand)) (machine.on_alternative k)
next_reads entries priority around operand level k h =
    (h.0, h.1, h.2, refl, next_verdict k.signs operand level around h.4)

-- entries

kept_more : (ks : List KeptEntry) (es : List Entry) (k : KeptEntry) (e : Entry) → AreKept ks es → IsKept k e
    → AreKept (ks ++ k ∷ []) (es ++ e ∷ [])
kept_more [] [] k e all one = (one, tt)
kept_more [] (x ∷ es) k e all one = absurd all
kept_more (x ∷ ks) [] k e all one = absurd all
kept_more (x ∷ ks) (y ∷ es) k e all one = (all.0, kept_more ks es k e all.1 one)

entry_kept : (entries : List Entry) (priority : ℤ) (operand : Matcher) (level : Level) (stand : syntax.Stand)
    (k : Reader) → AreKept k.entries entries → k.priority ≡ priority
    → TellsLevels k.signs (with_operand (Some operand) level) []
    → AreKept (machine.with_entry k) (syntax.with_entry (reading entries priority [] level stand) operand)
entry_kept entries priority operand level stand k e p is =
    kept_more k.entries entries (record { priority = k.priority; signs = k.signs })
    (record { priority = priority; matcher = whole level operand }) e
    (record {
      priority = p;
      truth = λ scopes. told (run scopes k.signs Holds) (truth scopes (with_operand (Some operand) level)) (is scopes)
          ∙ sym (whole_truth scopes operand level);
    })

entry_alike : (others : List Outer) (outside : ℕ) (entries : List Entry) (priority : ℤ) (operand : Matcher)
    (level : Level) (stand : syntax.Stand) (k : Reader) → Around others outside [] → AreKept k.entries entries
    → k.priority ≡ priority
    → TellsLevels k.signs (with_operand (Some operand) level) []
    → ReadsAs (record syntax.nothing {
      entries =
          syntax.with_entry (reading entries priority [] level stand) operand;
    }) (machine.on_entry k)
entry_alike others outside entries priority operand level stand k lie e p is =
    ((entry_kept entries priority operand level stand k e p is, refl, refl, refl, λ scopes. (refl, refl, tt)), refl)

-- bars and commas, where an operand has ended and where none has

bar_alike : (others : List Outer) (outside : ℕ) (entries : List Entry) (priority : ℤ) (around : List Level)
    (operand : Matcher) (level : Level) (stand : syntax.Stand) (k : Reader) → Around others outside around
    → Reads entries priority around (with_operand (Some operand) level) k
    → Alike (syntax.on_bar (Some operand) around (reading entries priority around level stand))
    (machine.bar_on others k)
bar_alike [] outside entries priority [] operand level stand k lie h = tt
bar_alike [] outside entries priority (outer ∷ around) operand level stand k lie h = absurd lie
bar_alike (o ∷ others) outside entries priority [] operand level stand k lie h = absurd lie
bar_alike (o ∷ others) outside entries priority (outer ∷ around) operand level stand k lie h =
    (next_reads entries priority (outer ∷ around) operand level k h, refl)

comma_alike : (others : List Outer) (outside : ℕ) (entries : List Entry) (priority : ℤ) (around : List Level)
    (operand : Matcher) (level : Level) (stand : syntax.Stand) (k : Reader) → Around others outside around
    → Reads entries priority around (with_operand (Some operand) level) k
    → Alike (syntax.on_comma (Some operand) around (reading entries priority around level stand))
    (machine.comma_on others k)
comma_alike [] outside entries priority [] operand level stand k lie h =
    entry_alike [] outside entries priority operand level stand k lie h.0 h.1 h.4
comma_alike [] outside entries priority (outer ∷ around) operand level stand k lie h = absurd lie
comma_alike (o ∷ others) outside entries priority [] operand level stand k lie h = absurd lie
comma_alike (o ∷ others) outside entries priority (outer ∷ around) operand level stand k lie h =
    (next_reads entries priority (outer ∷ around) operand level k h, refl)

-- all rows

sign_alike : (s : Sign) (c : ℕ) (entries : List Entry) (priority : ℤ) (around : List Level) (level : Level)
    (stand : syntax.Stand) (k : Reader) → Reads entries priority around (kept_level stand level) k
    → Alike (syntax.on_sign s c (reading entries priority around level stand)) (machine.on_sign s c (standing stand k))
sign_alike Space c entries priority around level stand k h = space_alike entries priority around level stand k h
sign_alike Letter c entries priority around level stand k h = letter_alike c entries priority around level stand k h
sign_alike Minus c entries priority around level stand k h = minus_alike entries priority around level stand k h
sign_alike Opens c entries priority around level stand k h = opening_alike entries priority around level stand k h
sign_alike Closes c entries priority around level syntax.Start k h = tt
sign_alike Closes c entries priority around level syntax.Wanting k h = tt
sign_alike Closes c entries priority around level (syntax.Naming names name begins) k h =
    let r = ended_reads entries priority around level (syntax.Naming names name begins) k h in
    closing_alike k.around around entries priority (Path (names ++ name ∷ [])) level (syntax.Naming names name begins)
    (machine.ended (standing (syntax.Naming names name begins) k)) k.outside h.2 r.0 r.1 r.4
sign_alike Closes c entries priority around level (syntax.Spaced names) k h =
    let r = ended_reads entries priority around level (syntax.Spaced names) k h in
    closing_alike k.around around entries priority (Path names) level (syntax.Spaced names)
    (machine.ended (standing (syntax.Spaced names) k)) k.outside h.2 r.0 r.1 r.4
sign_alike Closes c entries priority around level (syntax.Closed inside) k h =
    closing_alike k.around around entries priority inside level (syntax.Closed inside)
    (standing (syntax.Closed inside) k) k.outside h.2 h.0 h.1 h.4
sign_alike Bar c entries priority around level syntax.Start k h = tt
sign_alike Bar c entries priority around level syntax.Wanting k h = tt
sign_alike Bar c entries priority around level (syntax.Naming names name begins) k h =
    bar_alike k.around k.outside entries priority around (Path (names ++ name ∷ [])) level
    (syntax.Naming names name begins) (machine.ended (standing (syntax.Naming names name begins) k)) h.2
    (ended_reads entries priority around level (syntax.Naming names name begins) k h)
sign_alike Bar c entries priority around level (syntax.Spaced names) k h =
    bar_alike k.around k.outside entries priority around (Path names) level (syntax.Spaced names)
    (machine.ended (standing (syntax.Spaced names) k)) h.2
    (ended_reads entries priority around level (syntax.Spaced names) k h)
sign_alike Bar c entries priority around level (syntax.Closed inside) k h =
    bar_alike k.around k.outside entries priority around inside level (syntax.Closed inside)
    (standing (syntax.Closed inside) k) h.2 h
sign_alike Comma c entries priority around level syntax.Start k h = tt
sign_alike Comma c entries priority around level syntax.Wanting k h = tt
sign_alike Comma c entries priority around level (syntax.Naming names name begins) k h =
    comma_alike k.around k.outside entries priority around (Path (names ++ name ∷ [])) level
    (syntax.Naming names name begins) (machine.ended (standing (syntax.Naming names name begins) k)) h.2
    (ended_reads entries priority around level (syntax.Naming names name begins) k h)
sign_alike Comma c entries priority around level (syntax.Spaced names) k h =
    comma_alike k.around k.outside entries priority around (Path names) level (syntax.Spaced names)
    (machine.ended (standing (syntax.Spaced names) k)) h.2
    (ended_reads entries priority around level (syntax.Spaced names) k h)
sign_alike Comma c entries priority around level (syntax.Closed inside) k h =
    comma_alike k.around k.outside entries priority around inside level (syntax.Closed inside)
    (standing (syntax.Closed inside) k) h.2 h
sign_alike Other c entries priority around level stand k h = tt

-- nesting

begins_alike : (s : Sign) (stand : syntax.Stand) → syntax.begins_operand s stand
    ≡ machine.begins_operand s (stand_of stand)
begins_alike Space stand = refl
begins_alike Letter syntax.Start = refl
begins_alike Letter syntax.Wanting = refl
begins_alike Letter (syntax.Naming names name begins) = refl
begins_alike Letter (syntax.Spaced names) = refl
begins_alike Letter (syntax.Closed inside) = refl
begins_alike Minus syntax.Start = refl
begins_alike Minus syntax.Wanting = refl
begins_alike Minus (syntax.Naming names name begins) = refl
begins_alike Minus (syntax.Spaced names) = refl
begins_alike Minus (syntax.Closed inside) = refl
begins_alike Opens stand = refl
begins_alike Closes stand = refl
begins_alike Bar stand = refl
begins_alike Comma stand = refl
begins_alike Other stand = refl

outside_is : (others : List Outer) (outside : ℕ) (around : List Level) → Around others outside around
    → sum_by (λ (outer : Level). outer.minuses + 1) around ≡ outside
outside_is [] outside [] lie = sym lie
outside_is [] outside (level ∷ around) lie = absurd lie
outside_is (o ∷ others) outside [] lie = absurd lie
outside_is (o ∷ others) outside (level ∷ around) lie =
    sum_by-cons (λ (outer : Level). outer.minuses + 1) level around
    ∙ omega (arith, outside_is others o.outside around lie.2, lie.0, lie.1)

minuses_alike : (stand : syntax.Stand) (level : Level) (minuses : ℕ) → minuses ≡ (kept_level stand level).minuses
    → (with_operand (operand_of stand) level).minuses ≡ machine.minuses_before (stand_of stand) minuses
minuses_alike syntax.Start level minuses same = sym same
minuses_alike syntax.Wanting level minuses same = sym same
minuses_alike (syntax.Naming names name begins) level minuses same = refl
minuses_alike (syntax.Spaced names) level minuses same = refl
minuses_alike (syntax.Closed inside) level minuses same = sym same

deep_alike : (c : ℕ) (entries : List Entry) (priority : ℤ) (around : List Level) (level : Level)
    (stand : syntax.Stand) (k : Reader) → Reads entries priority around (kept_level stand level) k
    → syntax.is_too_deep MOST_NESTED c (reading entries priority around level stand)
    ≡ machine.is_too_deep c (standing stand k)
deep_alike c entries priority around level stand k h =
    let n : syntax.nesting (reading entries priority around level stand)
    ≡ k.outside + machine.minuses_before (stand_of stand) k.minuses =
    ap (λ m. m + (with_operand (operand_of stand) level).minuses) (outside_is k.around k.outside around h.2)
    ∙ ap (λ m. k.outside + m) (minuses_alike stand level k.minuses h.3) in
    ap (λ b. b && nat_lt MOST_NESTED (syntax.nesting (reading entries priority around level stand)))
    (begins_alike (sign_of c) stand)
    ∙ ap (λ m. machine.begins_operand (sign_of c) (stand_of stand) && nat_lt MOST_NESTED m) n

-- the whole text

end_alike : (others : List Outer) (outside : ℕ) (entries : List Entry) (priority : ℤ) (around : List Level)
    (operand : Matcher) (level : Level) (stand : syntax.Stand) (k : Reader) (at : ℕ) → Around others outside around
    → Reads entries priority around (with_operand (Some operand) level) k
    → ReadAlike (machine.ok_or_at (machine.end_on others k) at)
    (syntax.at_end (Some operand) around (reading entries priority around level stand) at)
end_alike [] outside entries priority [] operand level stand k at lie h =
    entry_kept entries priority operand level stand k h.0 h.1 h.4
end_alike [] outside entries priority (outer ∷ around) operand level stand k at lie h = absurd lie
end_alike (o ∷ others) outside entries priority [] operand level stand k at lie h = absurd lie
end_alike (o ∷ others) outside entries priority (outer ∷ around) operand level stand k at lie h = refl

ends_alike : (entries : List Entry) (priority : ℤ) (around : List Level) (level : Level) (stand : syntax.Stand)
    (k : Reader) (at : ℕ) → Reads entries priority around (kept_level stand level) k
    → ReadAlike (machine.ok_or_at (machine.at_end k.around (standing stand k)) at)
    (syntax.at_end (operand_of stand) around (reading entries priority around level stand) at)
ends_alike entries priority around level syntax.Start k at h = refl
ends_alike entries priority around level syntax.Wanting k at h = refl
ends_alike entries priority around level (syntax.Naming names name begins) k at h =
    end_alike k.around k.outside entries priority around (Path (names ++ name ∷ [])) level
    (syntax.Naming names name begins) (machine.ended (standing (syntax.Naming names name begins) k)) at h.2
    (ended_reads entries priority around level (syntax.Naming names name begins) k h)
ends_alike entries priority around level (syntax.Spaced names) k at h =
    end_alike k.around k.outside entries priority around (Path names) level (syntax.Spaced names)
    (machine.ended (standing (syntax.Spaced names) k)) at h.2
    (ended_reads entries priority around level (syntax.Spaced names) k h)
ends_alike entries priority around level (syntax.Closed inside) k at h =
    end_alike k.around k.outside entries priority around inside level (syntax.Closed inside)
    (standing (syntax.Closed inside) k) at h.2 h

step_on : (b : Bool) (x : Option Reading) (y : Option Reader) (at : ℕ) (old : Reading → ℕ → Result (List Entry) ℕ)
    (new : Reader → ℕ → Result (List KeptEntry) ℕ) → Alike x y
    → ((r : Reading) (k : Reader) → ReadsAs r k → ReadAlike (new k (at + 1)) (old r (at + 1)))
    → ReadAlike (machine.on_step (cond b None y) at new) (cond b (Err at) (syntax.on_step x at old))
step_on true x y at old new alike rest = refl
step_on false None None at old new alike rest = refl
step_on false None (Some k) at old new alike rest = absurd alike
step_on false (Some r) None at old new alike rest = absurd alike
step_on false (Some r) (Some k) at old new alike rest = rest r k alike

read_alike : (cs : List ℕ) (entries : List Entry) (priority : ℤ) (around : List Level) (level : Level)
    (stand : syntax.Stand) (k : Reader) (at : ℕ) → Reads entries priority around (kept_level stand level) k
    → ReadAlike (machine.read_on cs (standing stand k) at)
    (syntax.read_on MOST_NESTED cs (reading entries priority around level stand) at)
read_alike [] entries priority around level stand k at h = ends_alike entries priority around level stand k at h
read_alike (c ∷ cs) entries priority around level stand k at h =
    let deep = deep_alike c entries priority around level stand k h in
    let r = reading entries priority around level stand in
    let P : Bool → Type 0 = λ b. ReadAlike (machine.on_step
    (cond b None (machine.on_sign (sign_of c) c (standing stand k))) at (machine.read_on cs))
    (cond (syntax.is_too_deep MOST_NESTED c r) (Err at)
    (syntax.on_step (syntax.step c r) at (syntax.read_on MOST_NESTED cs))) in
    subst P deep
    (step_on (syntax.is_too_deep MOST_NESTED c r) (syntax.step c r)
    (machine.on_sign (sign_of c) c (standing stand k)) at (syntax.read_on MOST_NESTED cs) (machine.read_on cs)
    (sign_alike (sign_of c) c entries priority around level stand k h)
    (λ r2 k2 is. let same : standing r2.stand k2 ≡ k2 = ap (λ s. record k2 { stand = s }) (sym is.1) in
    subst (λ x. ReadAlike (machine.read_on cs x (at + 1)) (syntax.read_on MOST_NESTED cs r2 (at + 1))) same
    (read_alike cs r2.entries r2.priority r2.around r2.level r2.stand k2 (at + 1) is.0)))

pub texts_read_alike : (text : List ℕ) → ReadAlike (machine.read_kept text) (syntax.read_selector text)
texts_read_alike text = read_alike text [] (pos 0) [] syntax.empty_level syntax.Start machine.nothing 0
    (tt, refl, refl, refl, λ scopes. (refl, refl, tt))
