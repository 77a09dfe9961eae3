-- What stands at a place takes a character at least.
use Rattle.std.proofs.Common.{◌≡◌, ℕ, ◌+◌, ◌<◌, ◌==◌, List, [], ◌∷◌, drop, Bool, true, false, ◌&&◌, not, Option, Some}
use Rattle.std.proofs.Common.{None, IfSome, arith}
use Rattle.std.specs.List.{prefix_len}
use Rattle.std.proofs.lemmas.Bool.{cond_both, and_parts, eqb-true}
use Rattle.syntax_defs.specs.declared.items.Options.{Options}
use Rattle.syntax_defs.specs.declared.items.Sight.{Sight}
use Rattle.syntax_defs.specs.declared.items.Sight.TheVariants.{End, Bar, Close, Blank, Remark, Comment, Repeat, Open}
use Rattle.syntax_defs.specs.declared.items.Sight.TheVariants.{Edge, Number, Reference, Single}
use Rattle.syntax_defs.specs.Sights.{digits, behind_digits, begins_with, is_empty, range_sight, brace_sight}
use Rattle.syntax_defs.specs.Sights.{paren_sight, is_number_start, slash_sight, is_blank, plain_sight, sight_at}
use Rattle.syntax_defs.specs.PatternSyntax.{comment_length}

-- what is told of the length of what stands at the front of these characters is above 0
abbrev pub Takes : (cs : List ℕ) → Sight → Type 0
Takes cs End = Unit {0}
Takes cs Bar = Unit {0}
Takes cs Close = Unit {0}
Takes cs Blank = Unit {0}
Takes cs Remark = 0 < prefix_len (λ c. not (c == 10)) cs
Takes cs Comment = Unit {0}
Takes cs (Repeat bounds) = 0 < bounds.length
Takes cs Open = Unit {0}
Takes cs (Edge anchor size) = 0 < size
Takes cs Number = Unit {0}
Takes cs Reference = Unit {0}
Takes cs Single = Unit {0}

range_sight-takes : (cs least most rest : List ℕ) → Takes cs (range_sight least most rest)
range_sight-takes cs least most rest =
    cond_both (begins_with 125 rest && not (is_empty least && is_empty most)) _ _ (Takes cs) (λ _. omega arith)
    (λ _. tt)

brace_sight-takes : (cs rest : List ℕ) → Takes cs (brace_sight rest)
brace_sight-takes cs rest =
    cond_both (begins_with 125 (behind_digits rest) && not (is_empty (digits rest))) _ _ (Takes cs)
    (λ _. omega arith) λ _.
    cond_both (begins_with 44 (behind_digits rest)) _ _ (Takes cs)
    (λ _. range_sight-takes cs (digits rest) (digits (drop 1 (behind_digits rest)))
    (behind_digits (drop 1 (behind_digits rest))))
    (λ _. tt)

paren_sight-takes : (cs rest : List ℕ) → Takes cs (paren_sight rest)
paren_sight-takes cs rest = cond_both (begins_with 63 rest && begins_with 35 (drop 1 rest)) _ _ (Takes cs) (λ _. tt)
    (λ _. tt)

slash_sight-takes : (cs rest : List ℕ) → Takes cs (slash_sight rest)
slash_sight-takes cs [] = tt
slash_sight-takes cs (c ∷ rest) =
    cond_both (c == 65) _ _ (Takes cs) (λ _. omega arith) λ _.
    cond_both (c == 71) _ _ (Takes cs) (λ _. omega arith) λ _.
    cond_both (c == 122) _ _ (Takes cs) (λ _. omega arith) λ _.
    cond_both (c == 90) _ _ (Takes cs) (λ _. omega arith) λ _.
    cond_both (c == 98) _ _ (Takes cs) (λ _. omega arith) λ _.
    cond_both (c == 66) _ _ (Takes cs) (λ _. omega arith) λ _.
    cond_both (c == 107) _ _ (Takes cs) (λ _. tt) λ _.
    cond_both (is_number_start c) _ _ (Takes cs) (λ _. tt) (λ _. tt)

remark_takes : (c : ℕ) (cs : List ℕ) → c ≡ 35 → 0 < prefix_len (λ d. not (d == 10)) (c ∷ cs)
remark_takes c cs e = rw e (omega arith)

plain_sight-takes : (options : Options) (c : ℕ) (cs : List ℕ) → Takes (c ∷ cs) (plain_sight options c)
plain_sight-takes options c cs =
    cond_both (options.spaced && is_blank c) _ _ (Takes (c ∷ cs)) (λ _. tt) λ _.
    cond_both (options.spaced && (c == 35)) _ _ (Takes (c ∷ cs))
    (λ e. remark_takes c cs (eqb-true c 35 (and_parts options.spaced _ e).1)) (λ _. tt)

pub sight_at-takes : (options : Options) (cs : List ℕ) → Takes cs (sight_at options cs)
sight_at-takes options [] = tt
sight_at-takes options (c ∷ cs) =
    cond_both (c == 124) _ _ (Takes (c ∷ cs)) (λ _. tt) λ _.
    cond_both (c == 41) _ _ (Takes (c ∷ cs)) (λ _. tt) λ _.
    cond_both (c == 40) _ _ (Takes (c ∷ cs)) (λ _. paren_sight-takes (c ∷ cs) cs) λ _.
    cond_both (c == 42) _ _ (Takes (c ∷ cs)) (λ _. omega arith) λ _.
    cond_both (c == 43) _ _ (Takes (c ∷ cs)) (λ _. omega arith) λ _.
    cond_both (c == 63) _ _ (Takes (c ∷ cs)) (λ _. omega arith) λ _.
    cond_both (c == 123) _ _ (Takes (c ∷ cs)) (λ _. brace_sight-takes (c ∷ cs) cs) λ _.
    cond_both (c == 94) _ _ (Takes (c ∷ cs)) (λ _. omega arith) λ _.
    cond_both (c == 36) _ _ (Takes (c ∷ cs)) (λ _. omega arith) λ _.
    cond_both (c == 92) _ _ (Takes (c ∷ cs)) (λ _. slash_sight-takes (c ∷ cs) cs) λ _.
    plain_sight-takes options c cs

above_next : (count : ℕ) (o : Option ℕ) → IfSome o (λ n. count + 1 < n) → IfSome o (λ n. count < n)
above_next count None more = tt
above_next count (Some n) more = omega arith

-- a comment has more characters than those that are counted already
pub comment_length-more : (escaped : Bool) (count : ℕ) (cs : List ℕ)
    → IfSome (comment_length escaped count cs) (λ n. count < n)
comment_length-more escaped count [] = tt
comment_length-more true count (c ∷ cs) =
    above_next count (comment_length false (count + 1) cs) (comment_length-more false (count + 1) cs)
comment_length-more false count (c ∷ cs) =
    cond_both (c == 41) _ _ (λ o. IfSome o (λ n. count < n)) (λ _. omega arith)
    (λ _. above_next count (comment_length (c == 92) (count + 1) cs) (comment_length-more (c == 92) (count + 1) cs))
