use Rattle.std.proofs.Common.{◌≡◌, length}
use Rattle.std.specs.List.{filter}
use Rattle.path_trie.specs.Entries.{is_outside}
use Rattle.path_trie.proofs.trie.Trie.clear_under.Given as goal

abbrev pub invariant-entries : goal.invariant-entries
invariant-entries g l = filter (is_outside l.path) l.self ≡ filter (is_outside l.path) l.initial.self

abbrev pub decreases-entries : goal.decreases-entries
decreases-entries g l = length l.self
