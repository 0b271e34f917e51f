use Rattle.std.proofs.Common.{Some, None}
use Rattle.path_trie.proofs.RootLemmas.{found_as}
use Rattle.path_trie.proofs.trie.Trie.get.Goals as goal

pub returns-in-Some : goal.returns-in-Some
returns-in-Some g c = found_as c.self.inside.root c.names.result.now c.args.path.now c.args.self.now (Some c.in-Some.entry.now) c.names.ensures.value c.self.view_is c.in-Some.ensures

pub returns-in-None : goal.returns-in-None
returns-in-None g c = found_as c.self.inside.root c.names.result.now c.args.path.now c.args.self.now None c.names.ensures.value c.self.view_is c.in-None.ensures
