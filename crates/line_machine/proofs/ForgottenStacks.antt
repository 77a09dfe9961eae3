-- Stacks of which no frame tells where it was entered, nor an anchor.
use Rattle.std.proofs.Common.{◌≡◌, suc, ◌+◌, List, [], ◌∷◌, length, map, refl, ap, sym, ◌∙◌, subst, arith}
use Rattle.std.specs.Prelude.{Some, None}
use Rattle.std.proofs.lemmas.List.{length-map}
use Rattle.scope_defs.specs.Frames.{Frame, Stack, frames, depth, stack_of, forgotten, forgotten_all}

pub none-told : (frame : Frame) → frame.enter ≡ None → frame.anchor ≡ None → forgotten frame ≡ frame
none-told frame enter anchor =
    ap (λ e. let f : Frame = record frame { enter = e; anchor = None } in f) (sym enter)
    ∙ ap (λ a. let f : Frame = record frame { anchor = a } in f) (sym anchor)

both : (top : Frame) (below : List Frame) → forgotten top ≡ top → map forgotten below ≡ below
    → forgotten_all (record { top = top; below = below }) ≡ record { top = top; below = below }
both top below one rest =
    ap (λ t. let s : Stack = record { top = t; below = map forgotten below } in s) one
    ∙ ap (λ b. let s : Stack = record { top = top; below = b } in s) rest

below-told : (below : List Frame) (stack : Stack) → stack_of below ≡ Some stack → forgotten_all stack ≡ stack
    → map forgotten below ≡ below
below-told [] stack is e = refl
below-told (top ∷ rest) stack is e =
    let same : record { top = top; below = rest } ≡ stack = cc in
    ap frames (subst (λ s. forgotten_all s ≡ s) (sym same) e)

none-below : (below : List Frame) → stack_of below ≡ None → map forgotten below ≡ below
none-below [] is = refl
none-below (top ∷ rest) is = absurd (cc)

pub all-told : (at below : Stack) → forgotten at.top ≡ at.top → stack_of at.below ≡ Some below
    → forgotten_all below ≡ below → forgotten_all at ≡ at
all-told at below one is e = both at.top at.below one (below-told at.below below is e)

pub last-told : (at : Stack) → forgotten at.top ≡ at.top → stack_of at.below ≡ None → forgotten_all at ≡ at
last-told at one is = both at.top at.below one (none-below at.below is)

pub below-less : (stack below new : Stack) → stack_of stack.below ≡ Some below → new ≡ forgotten_all below
    → depth new + 1 ≡ depth stack
below-less stack below new is e = rw e (by_below stack.below below is)
  where
    by_below : (frames : List Frame) (b : Stack) → stack_of frames ≡ Some b
        → depth (forgotten_all b) + 1 ≡ suc (length frames)
    by_below [] b h = absurd (cc)
    by_below (top ∷ rest) b h =
        let same : record { top = top; below = rest } ≡ b = cc in
        rw (← same, length-map rest forgotten) (omega arith)
