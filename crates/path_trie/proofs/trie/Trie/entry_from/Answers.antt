use Rattle.std.proofs.Common.{None, ap, sym, ◌∙◌}
use Rattle.path_trie.specs.Entries.{is_at}
use Rattle.path_trie.proofs.Onwards.{found_shown, from_at, from_none}
use Rattle.path_trie.proofs.ShownLemmas.{ascends_as}
use Rattle.path_trie.proofs.trie.Trie.entry_from.Goals as goal

pub returns-in-Some : goal.returns-in-Some
returns-in-Some g c =
    sym (from_at c.args.path.now c.args.self.now c.in-Some.entry.now (ascends_as c.self.inside.root c.args.self.now c.self.invariant.ascending c.self.view_is)
    (sym (found_shown c.self.inside.root c.args.self.now (is_at c.names.result.now) (is_at c.args.path.now) _ (λ x. ap (λ p. is_at p x) c.names.ensures.value)
    c.self.invariant.placed c.self.view_is c.in-Some.ensures)))

pub returns-in-None : goal.returns-in-None
returns-in-None g c =
    c.entry_behind.ensures
    ∙ from_none c.args.path.now c.args.self.now
    (found_shown c.self.inside.root c.args.self.now (is_at c.names.result.now) (is_at c.args.path.now) None (λ x. ap (λ p. is_at p x) c.names.ensures.value)
    c.self.invariant.placed c.self.view_is c.in-None.ensures)
