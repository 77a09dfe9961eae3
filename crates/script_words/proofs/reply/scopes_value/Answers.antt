use Rattle.std.proofs.Common.{◌∙◌, map, ap}
use Rattle.serde_json.specs.Data.{array, string}
use Rattle.serde_json.specs.View.{view, items_of}
use Rattle.serde_json.proofs.Views.{view-Array}
use Rattle.script_words.proofs.ScopeLemmas.{seen_from_the_end}
use Rattle.script_words.proofs.reply.scopes_value.Goals as goal

pub returns : goal.returns
returns c =
    let names =
    seen_from_the_end view string c.loop-name.list.items c.loop-name.name-iterator c.args.scopes.now
    c.loop-name.invariant c.in-None.ensures.steps.0 in
    view-Array c.reverse.new.self
    ∙ (ap (λ vs. array (items_of (map view vs))) c.reverse.ensures.items ∙ ap (λ ds. array (items_of ds)) names)
