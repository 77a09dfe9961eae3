use Rattle.grammar_json.specs.GrammarViews.{grammar_view}
use Rattle.rule_graph.proofs.FileLemmas.{read_few}
use Rattle.bracket_program.proofs.open.machine_in.Goals as goal

pub build-requires : goal.build-requires
build-requires c = read_few c.args.bytes.now (grammar_view c.in-Ok.grammar) c.in-Ok.ensures
