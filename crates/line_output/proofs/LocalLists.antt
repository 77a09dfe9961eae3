-- Open captures, kept the outermost first.
use Rattle.std.proofs.Common.{◌≡◌, List, [], ◌∷◌, ◌++◌, reverse, map, ap, ◌∙◌}
use Rattle.std.proofs.lemmas.List.{map-append, reverse-append}
use Rattle.line_output.specs.declared.locals.Local.{Local as Kept}
use Rattle.line_output.specs.Locals.{local_of, innermost_first}

pub innermost_first-last : (some : List Kept) (last : Kept)
    → innermost_first (some ++ last ∷ []) ≡ local_of last ∷ innermost_first some
innermost_first-last some last =
    ap reverse (map-append local_of some (last ∷ [])) ∙ reverse-append (map local_of some) (local_of last ∷ [])
