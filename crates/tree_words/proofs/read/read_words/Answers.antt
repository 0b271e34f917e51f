use Rattle.tree_words.proofs.Laws.{answer_is_written_tree}
use Rattle.tree_words.proofs.read.read_words.Goals as goal

pub returns-clause-whole : goal.returns-clause-whole
returns-clause-whole c = answer_is_written_tree c.read_tree.result c.args.text.now c.read_tree.ensures.ok c.read_tree.ensures.exact
