use Rattle.std.proofs.Common.{None, arith}
use Rattle.path_trie.proofs.ShownLemmas.{cover_as, path_short}
use Rattle.path_trie.proofs.trie.Trie.cover.Goals as goal

pub cover_at-requires-clause-depth : goal.cover_at-requires-clause-depth
cover_at-requires-clause-depth g c = let short = path_short c.names.result.now c.args.path.now c.names.ensures.value c.names.ensures.path in omega (arith, short)

pub returns-in-Some-clause-value : goal.returns-in-Some-clause-value
returns-in-Some-clause-value g c = cover_as c.self.inside.root c.names.result.now c.args.path.now c.args.self.now _ c.names.ensures.value c.self.view_is c.in-Some.ensures.value

pub returns-in-None-clause-value : goal.returns-in-None-clause-value
returns-in-None-clause-value g c = cover_as c.self.inside.root c.names.result.now c.args.path.now c.args.self.now None c.names.ensures.value c.self.view_is c.in-None.ensures.value
