use Rattle.std.proofs.Common.{ap}
use Rattle.std.specs.Option.{option_copied}
use Rattle.tree_words.proofs.Cuts.{word_is_left}
use Rattle.tree_words.proofs.words.Words.is_empty.Goals as goal

pub returns-in-Some : goal.returns-in-Some
returns-in-Some c = word_is_left (option_copied c.self.inside.rest) c.in-Some.field-0.now c.args.self.now c.self.view_is (ap option_copied c.in-Some.is)
