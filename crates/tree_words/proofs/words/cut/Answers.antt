use Rattle.std.proofs.Common.{sym}
use Rattle.tree_words.proofs.Cuts.{slice_to_end, words_of-at_space, words_of-no_space}
use Rattle.tree_words.proofs.words.cut.Goals as goal

pub returns-in-Some : goal.returns-in-Some
returns-in-Some c = words_of-at_space c.args.text.now _ c.in-Some.end (sym c.in-Some.ensures) (slice_to_end c.args.text.now c.in-Some.end)

pub returns-in-None : goal.returns-in-None
returns-in-None c = words_of-no_space c.args.text.now (sym c.in-None.ensures)
