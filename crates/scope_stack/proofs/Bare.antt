-- Stacks without the places where frames were entered and their anchors.
use Rattle.std.proofs.Common.{◌≡◌, List, [], ◌∷◌, length, map, Some, None, refl, sym, ◌∙◌, ap, arith}
use Rattle.scope_defs.specs.Frames.{Frame, Stack, frames, depth, stack_of, forgotten, forgotten_all}
use Rattle.scope_stack.specs.Numbers.{frame_number, frames_number}

-- numbers and counts stay

number-forgotten : (fs : List Frame) → frames_number (map forgotten fs) ≡ frames_number fs
number-forgotten [] = refl
number-forgotten (f ∷ fs) = ap (λ n. frame_number n f) (number-forgotten fs)

pub number_same : (s t : Stack) → forgotten_all s ≡ forgotten_all t → frames_number (frames s)
    ≡ frames_number (frames t)
number_same s t same =
    sym (number-forgotten (frames s)) ∙ (ap (λ (u : Stack). frames_number (frames u)) same
    ∙ number-forgotten (frames t))

length-forgotten : (fs : List Frame) → length (map forgotten fs) ≡ length fs
length-forgotten [] = refl
length-forgotten (f ∷ fs) = omega (arith, length-forgotten fs)

pub depth_same : (s t : Stack) → forgotten_all s ≡ forgotten_all t → depth s ≡ depth t
depth_same s t same =
    omega (arith, length-forgotten s.below, length-forgotten t.below, ap (λ (u : Stack). length u.below) same)

-- one frame after the other

frames_below : (fs : List Frame) (s : Stack) → Some s ≡ stack_of fs → fs ≡ frames s
frames_below [] s is = cc
frames_below (f ∷ fs) s is = let e : s ≡ record { top = f; below = fs } = cc in sym (ap frames e)

none_below : (fs : List Frame) → None ≡ stack_of fs → fs ≡ []
none_below [] is = refl
none_below (f ∷ fs) is = cc

pub record Alike (s t : Stack) (a b : Stack) : Type 0 where
  pub forth : forgotten_all s ≡ forgotten_all t → forgotten_all a ≡ forgotten_all b
  pub back : forgotten_all a ≡ forgotten_all b → forgotten_all s ≡ forgotten_all t

joined : (top other : Frame) (fs gs : List Frame) → forgotten top ≡ forgotten other → map forgotten fs
    ≡ map forgotten gs
    → forgotten_all (record { top = top; below = fs }) ≡ forgotten_all (record { top = other; below = gs })
joined top other fs gs a b = cc

-- below tops that are alike the stacks are alike where what is below is
pub alike_below : (s t a b u v : Stack) → Alike s t a b → forgotten s.top ≡ forgotten t.top → Some u
    ≡ stack_of s.below → Some v ≡ stack_of t.below → Alike u v a b
alike_below s t a b u v so_far tops su tv =
    let fs = frames_below s.below u su in
    let gs = frames_below t.below v tv in
    record {
      forth = λ e. so_far.forth (joined s.top t.top s.below t.below tops
          (ap (map forgotten) fs ∙ (ap frames e ∙ ap (map forgotten) (sym gs))));
      back = λ e. let h : map forgotten s.below ≡ map forgotten t.below = ap (λ (x : Stack). x.below) (so_far.back e) in
          let k : map forgotten (frames u) ≡ map forgotten (frames v) =
          ap (map forgotten) (sym fs) ∙ (h ∙ ap (map forgotten) gs) in
          cc;
    }

pub alike_at_end : (s t a b : Stack) → Alike s t a b → forgotten s.top ≡ forgotten t.top → None ≡ stack_of s.below
    → None ≡ stack_of t.below → forgotten_all a ≡ forgotten_all b
alike_at_end s t a b so_far tops su tv =
    so_far.forth (joined s.top t.top s.below t.below tops
    (ap (map forgotten) (none_below s.below su ∙ sym (none_below t.below tv))))
