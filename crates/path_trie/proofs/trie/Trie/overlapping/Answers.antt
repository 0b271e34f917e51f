use Rattle.path_trie.proofs.ShownLemmas.{paths_as}
use Rattle.path_trie.proofs.trie.Trie.overlapping.Goals as goal

pub returns-in-Ok : goal.returns-in-Ok
returns-in-Ok g c =
    record {
      ok =
          paths_as c.self.inside.root c.names.result.now c.args.path.now c.args.self.now c.new-found.result.items c.gather_at.new.found.items c.self.invariant.placed c.names.ensures.value c.self.view_is
          c.new-found.ensures.items c.in-Ok.ensures;
    }
