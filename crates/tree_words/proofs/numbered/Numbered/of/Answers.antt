use Rattle.std.proofs.Common.{ap, arith, length}
use Rattle.tree_words.proofs.Cuts.{few_words_of}
use Rattle.tree_words.proofs.numbered.Numbered.of.Goals as goal

pub invariant_of-result : goal.invariant_of-result
invariant_of-result c = omega (arith, few_words_of c.args.text.now, ap length c.of.ensures)
