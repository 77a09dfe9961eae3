-- Numbers that are made of frames, so that most unequal stacks are told apart at once. Places where frames were entered
-- and their anchors play no part.
use Rattle.std.specs.Prelude.{ℕ, Bool, List, [], ◌∷◌, Option, Some, None, if◌then◌else◌}
use Rattle.scope_names.specs.Numbers.{mixed, name_number, scopes_number}
use Rattle.scope_names.specs.declared.numbers.TheConstants.{SEED}
use Rattle.scope_defs.specs.Frames.{Frame}

abbrev pub end_number : Option (List ℕ) → ℕ
end_number None = 0
end_number (Some text) = name_number text

abbrev pub flag_number : Bool → ℕ
flag_number flag = if flag then 1 else 0

-- the number of frames, of that of those below and the innermost
abbrev pub frame_number : ℕ → Frame → ℕ
frame_number below frame =
    mixed (mixed (mixed (mixed (mixed below frame.rule) (flag_number frame.took_end)) (end_number frame.end_text))
    (scopes_number frame.name)) (scopes_number frame.content)

abbrev pub frames_number : List Frame → ℕ
frames_number [] = SEED
frames_number (frame ∷ frames) = frame_number (frames_number frames) frame
