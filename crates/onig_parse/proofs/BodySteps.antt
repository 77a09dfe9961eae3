-- The steps of the body of a form.
use Rattle.std.proofs.Common.{◌≡◌, ℕ, zero, suc, ◌+◌, ◌-◌, ◌<◌, length, true, false, Ok, Err, refl, ap, arith}
use Rattle.syntax_defs.specs.declared.items.Options.{Options}
use Rattle.syntax_defs.specs.declared.refusal.PatternRefusal.{PatternRefusal}
use Rattle.syntax_defs.specs.declared.refusal.PatternRefusal.TheVariants as refusals
use Rattle.syntax_defs.specs.Limits.{most_levels}
use Rattle.syntax_defs.specs.Reading.{Fault, Syntax, TooDeep, Fails, ◌>>=◌}
use Rattle.syntax_defs.specs.PatternSyntax.{Seen, Body, BodyReader, step, steps, after_step, body_at, empty_body}

pub body_at-none : (n : ℕ) (o : Options) (s : Seen) → n ≡ 0 → body_at n o s ≡ Err (TooDeep (most_levels + 1))
unfolding body_at
body_at-none zero o s e = refl
body_at-none (suc n) o s e = absurd (omega arith)

pub body_at-steps : (n : ℕ) (o : Options) (s : Seen) → 0 < n
    → steps (body_at (n - 1)) (length s.text + 1) (n - 1) o empty_body s ≡ body_at n o s
unfolding body_at
body_at-steps zero o s h = absurd (omega arith)
body_at-steps (suc n) o s h = let e : suc n - 1 ≡ n = omega arith in rw e refl

pub steps-more : (go : BodyReader) (k n : ℕ) (o : Options) (b : Body) (s : Seen) (b' : Body) (s' : Seen) → 0 < k
    → step go n o b s ≡ Ok (record { more = true; body = b'; seen = s' }) → steps go k n o b s
    ≡ steps go (k - 1) n o b' s'
unfolding steps
steps-more go zero n o b s b' s' h e = absurd (omega arith)
steps-more go (suc k) n o b s b' s' h e =
    let less : suc k - 1 ≡ k = omega arith in
    rw less (ap (λ r. r >>= (λ x. after_step (steps go k n o) x.more x.body x.seen)) e)

pub steps-end : (go : BodyReader) (k n : ℕ) (o : Options) (b : Body) (s : Seen) (b' : Body) (s' : Seen) → 0 < k
    → step go n o b s ≡ Ok (record { more = false; body = b'; seen = s' }) → steps go k n o b s ≡ Ok (b', s')
unfolding steps
steps-end go zero n o b s b' s' h e = absurd (omega arith)
steps-end go (suc k) n o b s b' s' h e = ap (λ r. r >>= (λ x. after_step (steps go k n o) x.more x.body x.seen)) e

pub steps-out : (go : BodyReader) (k n : ℕ) (o : Options) (b : Body) (s : Seen) → k ≡ 0 → steps go k n o b s
    ≡ Err (Syntax s.place)
unfolding steps
steps-out go zero n o b s e = refl
steps-out go (suc k) n o b s e = absurd (omega arith)

pub steps-err : (go : BodyReader) (k n : ℕ) (o : Options) (b : Body) (s : Seen) (f : Fault) → 0 < k → step go n o b s
    ≡ Err f → steps go k n o b s ≡ Err f
unfolding steps
steps-err go zero n o b s f h e = absurd (omega arith)
steps-err go (suc k) n o b s f h e = ap (λ r. r >>= (λ x. after_step (steps go k n o) x.more x.body x.seen)) e

pub steps-fails : (go : BodyReader) (k n : ℕ) (o : Options) (b : Body) (s : Seen) (refusal : PatternRefusal) → 0 < k
    → Fails refusal (step go n o b s) → Fails refusal (steps go k n o b s)
steps-fails go k n o b s (refusals.Syntax at) h e = steps-err go k n o b s _ h e
steps-fails go k n o b s (refusals.LeftOut at) h e = steps-err go k n o b s _ h e
steps-fails go k n o b s (refusals.TooDeep depth) h e = steps-err go k n o b s _ h e
steps-fails go k n o b s (refusals.TooLong count) h e = steps-err go k n o b s _ h e
steps-fails go k n o b s refusals.Memory h e = tt
