use Rattle.std.proofs.Common.{rules, of_calls}
use Rattle.std.proofs.lemmas.Fn.{always_returns_same}
use Rattle.path_trie.proofs.Halves.{edge_cmp}
use Rattle.path_trie.proofs.Kept.{place_found, place_before, place_behind}
use Rattle.path_trie.proofs.find.place_of.Goals as goal

pub returns-clause-found : goal.returns-clause-found
returns-clause-found g c =
    place_found c.args.name.now c.args.edges.now c.binary_search_by.result c.binary_search_by.ensures.bound
    (c.binary_search_by.ensures.position (edge_cmp c.args.name.now) (always_returns_same _ _ _ (λ a r f k. search (rules, of_calls))))

pub returns-clause-before : goal.returns-clause-before
returns-clause-before g c =
    place_before c.args.name.now c.args.edges.now c.binary_search_by.result c.requires c.binary_search_by.ensures.bound
    (c.binary_search_by.ensures.position (edge_cmp c.args.name.now) (always_returns_same _ _ _ (λ a r f k. search (rules, of_calls))))

pub returns-clause-behind : goal.returns-clause-behind
returns-clause-behind g c =
    place_behind c.args.name.now c.args.edges.now c.binary_search_by.result c.requires
    (c.binary_search_by.ensures.position (edge_cmp c.args.name.now) (always_returns_same _ _ _ (λ a r f k. search (rules, of_calls))))
