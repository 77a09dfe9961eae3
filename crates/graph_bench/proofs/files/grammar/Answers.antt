use Rattle.grammar_json.specs.GrammarViews.{grammar_view}
use Rattle.rule_graph.proofs.FileLemmas.{read_few}
use Rattle.graph_bench.proofs.files.grammar.Goals as goal

pub returns-in-Ok : goal.returns-in-Ok
returns-in-Ok c = read_few c.as_bytes.result.now (grammar_view c.in-Ok.grammar) c.in-Ok.ensures
