-- Further worked examples of scopes, types, selectors and frames, each named by what it shows.
use Rattle.std.specs.Prelude.{◌≡◌, ◌-◌, [], ◌∷◌, ◌++◌, codes, map, length, take, replicate, true, false, Some, None, Err, refl}
use Rattle.std.proofs.Common.{ap}
use Rattle.scope_defs.specs.declared.types.StdType.TheVariants.{Other, Comment, Text, RegEx}
use Rattle.scope_defs.specs.Scopes.{Scopes, with_names}
use Rattle.scope_defs.specs.StandardType.{type_of, type_of_name}
use Rattle.scope_defs.specs.Frames.{forgotten}
use Rattle.scope_defs.specs.Selectors.{Path}
use Rattle.scope_defs.specs.SelectorSyntax.{read_selector}
use Rattle.scope_defs.specs.SelectorExamples.{matchers, first_holds}

-- ---- types

pub each_word_has_its_type : map type_of_name (codes "comment" ∷ codes "string" ∷ codes "regex" ∷ codes "meta.embedded" ∷ [])
    ≡ Some Comment ∷ Some Text ∷ Some RegEx ∷ Some Other ∷ []
each_word_has_its_type = refl

pub a_comment_has_its_type : type_of (codes "s" ∷ codes "comment.block" ∷ []) ≡ Comment
a_comment_has_its_type = refl

pub letters_digits_and_the_low_line_go_on_with_a_word :
    map type_of_name (codes "acomment.zcomment.Acomment.Zcomment.0comment.9comment._comment"
    ∷ codes "commenta.commentz.commentA.commentZ.comment0.comment9.comment_" ∷ [])
    ≡ None ∷ None ∷ []
letters_digits_and_the_low_line_go_on_with_a_word = refl

-- the characters beside them do not
pub their_neighbours_part_words :
    map type_of_name (codes "@comment" ∷ codes "comment[" ∷ codes "`comment" ∷ codes "comment{" ∷ codes "/comment" ∷ codes "comment:"
    ∷ codes "^comment" ∷ [])
    ≡ replicate 7 (Some Comment)
their_neighbours_part_words = refl

-- ---- selectors

pub one_alternative_is_enough :
    map (first_holds (codes "(a|b) c")) ((codes "a" ∷ codes "c" ∷ []) ∷ (codes "b" ∷ codes "c" ∷ []) ∷ (codes "a" ∷ codes "b" ∷ []) ∷ [])
    ≡ Some true ∷ Some true ∷ Some false ∷ []
one_alternative_is_enough = refl

pub names_have_dots_colons_digits_and_low_lines : matchers (codes "source.js .a :b _c 9d Z z")
    ≡ Some (Path (codes "source.js" ∷ codes ".a" ∷ codes ":b" ∷ codes "_c" ∷ codes "9d" ∷ codes "Z" ∷ codes "z" ∷ []) ∷ [])
names_have_dots_colons_digits_and_low_lines = refl

pub a_comma_wants_an_operand_before_it :
    map read_selector (codes "a,,b" ∷ codes ",a" ∷ codes "(,a)" ∷ codes "(a,|b)" ∷ []) ≡ Err 2 ∷ Err 0 ∷ Err 1 ∷ Err 3 ∷ []
a_comma_wants_an_operand_before_it = refl

-- ---- frames

pub places_and_anchors_are_forgotten :
    forgotten (record {
      rule = 3;
      enter = Some 1;
      anchor = Some 2;
      took_end = true;
      end_text = Some (codes "x");
      name = codes "s" ∷ [];
      content = codes "s" ∷ codes "c" ∷ [];
    })
    ≡ record {
      rule = 3;
      enter = None;
      anchor = None;
      took_end = true;
      end_text = Some (codes "x");
      name = codes "s" ∷ [];
      content = codes "s" ∷ codes "c" ∷ [];
    }
places_and_anchors_are_forgotten = refl

-- ---- how many names a list has

pub a_list_has_at_most_1048576_names :
    (scopes : Scopes) → length scopes ≡ 1_048_575
    → with_names scopes (codes "b" ∷ codes "c" ∷ []) ≡ scopes ++ codes "b" ∷ []
a_list_has_at_most_1048576_names scopes is =
    ap (λ n. scopes ++ take (1_048_576 - n) (codes "b" ∷ codes "c" ∷ [])) is
