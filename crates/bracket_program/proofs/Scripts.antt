-- A script that is taken piece by piece, and the replies to its lines.
use Rattle.std.proofs.Common.{◌≡◌, ℕ, List, [], ◌∷◌, ◌++◌, map, take, drop, refl, sym, ap, subst, ◌∙◌, append_assoc}
use Rattle.std.proofs.Common.{append-nil}
use Rattle.std.specs.Prelude.{Option, Some, None, IfSome, option_map}
use Rattle.std.proofs.lemmas.List.{take-append-drop, map-append}
use Rattle.text_defs.specs.Text.{whole_lines, unfinished}
use Rattle.piece_io.specs.Told.{GivesFront}
use Rattle.piece_io.specs.CutLaws.{whole_lines-append, unfinished-append}
use Rattle.document_defs.specs.TextRows.{Settings}
use Rattle.script_words.specs.ReplyText.{reply_text}
use Rattle.script_words.specs.Script.{Reading, reading_of}
use Rattle.session_defs.specs.Opening.{Session}
use Rattle.session_defs.specs.Session.{reading_step, replies_to, text_behind, opened}
use Rattle.session_defs.specs.Output.{written_for, script_lines, line_if_any}
use Rattle.bracket_program.specs.Ends.{Takes}

pub takes-nothing : (left : Option (List ℕ)) → Takes left left []
takes-nothing None = refl
takes-nothing (Some bytes) = refl

pub takes-more : (before now after : Option (List ℕ)) (script piece : List ℕ) → Takes before now script
    → Takes now after piece → Takes before after (script ++ piece)
takes-more before now None script piece t e = t ∙ ap (option_map (λ rest. script ++ rest)) e
takes-more before now (Some rest) script piece t e =
    t ∙ (ap (option_map (λ rest. script ++ rest)) e ∙ ap Some (sym (append_assoc script piece rest)))

-- what a read gives is taken
pub gives-takes : (left after : Option (List ℕ)) (n : ℕ) (into : List ℕ) → GivesFront left after n into
    → Takes left after (take n into)
gives-takes None after n into g = sym (ap (option_map (λ rest. take n into ++ rest)) g)
gives-takes (Some bytes) after n into g =
    ap Some (sym (take-append-drop n bytes) ∙ ap (λ front. front ++ drop n bytes) (sym g.1))
    ∙ ap (option_map (λ rest. take n into ++ rest)) (sym g.2)

nothing-left : (after : Option (List ℕ)) (rest : List ℕ) → after ≡ Some rest → rest ≡ []
    → IfSome after (λ rest. rest ≡ [])
nothing-left None rest e n = tt
nothing-left (Some bytes) rest e n = cc

untold-left : (after : Option (List ℕ)) → after ≡ None → IfSome after (λ rest. rest ≡ [])
untold-left None e = tt
untold-left (Some bytes) e = cc

-- a read that gives nothing is at the end
pub gives-end : (left after : Option (List ℕ)) (n : ℕ) (into : List ℕ) → n ≡ 0 → GivesFront left after n into
    → IfSome after (λ rest. rest ≡ [])
gives-end None after n into z g = untold-left after g
gives-end (Some bytes) after n into z g = nothing-left after bytes (g.2 ∙ ap (λ k. Some (drop k bytes)) z) (g.3.0 z)

pub takes-end : (before now after : Option (List ℕ)) (script : List ℕ) (n : ℕ) (into : List ℕ) → n ≡ 0
    → GivesFront now after n into → Takes before now script → Takes before after script
takes-end before now after script n into z g t =
    subst (λ taken. Takes before after taken) (ap (λ k. script ++ take k into) z ∙ append-nil script)
    (takes-more before now after script (take n into) t (gives-takes now after n into g))

-- replies to readings, and then to others
pub replies_to-append : (settings : Settings) (text : List ℕ) (xs ys : List Reading)
    → replies_to settings text (xs ++ ys) ≡ replies_to settings text xs ++ replies_to settings
    (text_behind settings text xs) ys
replies_to-append settings text [] ys = refl
replies_to-append settings text (x ∷ xs) ys =
    let reply = reply_text (reading_step settings text x).reply in
    let next = (reading_step settings text x).text in
    ap (λ later. reply ++ later) (replies_to-append settings next xs ys)
    ∙ sym (append_assoc reply (replies_to settings next xs) (replies_to settings (text_behind settings next xs) ys))

pub text_behind-append : (settings : Settings) (text : List ℕ) (xs ys : List Reading)
    → text_behind settings text (xs ++ ys) ≡ text_behind settings (text_behind settings text xs) ys
text_behind-append settings text [] ys = refl
text_behind-append settings text (x ∷ xs) ys = text_behind-append settings (reading_step settings text x).text xs ys

pub written_for-append : (session : Session) (xs ys : List (List ℕ))
    → written_for session (xs ++ ys) ≡ written_for session xs ++ replies_to session.settings
    (text_behind session.settings session.text (map reading_of xs)) (map reading_of ys)
written_for-append session xs ys =
    let start = reply_text (opened session) in
    let settings = session.settings in
    let text = session.text in
    ap (λ rs. start ++ replies_to settings text rs) (map-append reading_of xs ys)
    ∙ (ap (λ later. start ++ later) (replies_to-append settings text (map reading_of xs) (map reading_of ys))
    ∙ sym (append_assoc start (replies_to settings text (map reading_of xs))
    (replies_to settings (text_behind settings text (map reading_of xs)) (map reading_of ys))))

pub text_behind-lines : (settings : Settings) (text : List ℕ) (xs ys : List (List ℕ))
    → text_behind settings text (map reading_of (xs ++ ys))
    ≡ text_behind settings (text_behind settings text (map reading_of xs)) (map reading_of ys)
text_behind-lines settings text xs ys =
    ap (text_behind settings text) (map-append reading_of xs ys)
    ∙ text_behind-append settings text (map reading_of xs) (map reading_of ys)

-- the lines of a script, of which a front is told
pub script_lines-append : (xs ys : List ℕ) → script_lines (xs ++ ys)
    ≡ whole_lines xs ++ script_lines (unfinished xs ++ ys)
script_lines-append xs ys =
    ap (λ lines. lines ++ line_if_any (unfinished (xs ++ ys))) (whole_lines-append xs ys)
    ∙ (ap (λ last. (whole_lines xs ++ whole_lines (unfinished xs ++ ys)) ++ line_if_any last) (unfinished-append xs ys)
    ∙ append_assoc (whole_lines xs) (whole_lines (unfinished xs ++ ys))
    (line_if_any (unfinished (unfinished xs ++ ys))))

-- of a told script, what was taken is a front
pub taken_of : (script taken : List ℕ) (before after : Option (List ℕ)) → before ≡ Some script
    → Takes before after taken → (rest : List ℕ) × (script ≡ taken ++ rest) × (after ≡ Some rest)
taken_of script taken before None e t = cc
taken_of script taken before (Some rest) e t = let same : script ≡ taken ++ rest = cc in (rest, same, refl)

-- nothing is left of a script that was read to its end
pub nothing_rest : (after : Option (List ℕ)) (rest : List ℕ) → after ≡ Some rest → IfSome after (λ rest. rest ≡ [])
    → rest ≡ []
nothing_rest None rest e n = cc
nothing_rest (Some bytes) rest e n = let same : bytes ≡ rest = cc in sym same ∙ n
