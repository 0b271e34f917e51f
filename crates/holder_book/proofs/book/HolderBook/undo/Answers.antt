use Rattle.std.proofs.Common.{sym, subst, ℕ, List}
use Rattle.path_trie.specs.declared.entry.Entry.{Entry}
use Rattle.holder_book.specs.Counts.{AreCounted}
use Rattle.holder_book.proofs.CountLemmas.{counted_without_last}
use Rattle.holder_book.proofs.book.HolderBook.undo.Goals as goal

pub invariant_of-self : goal.invariant_of-self
invariant_of-self c =
    subst (λ (counts : List (Entry ℕ)). AreCounted c.pop.new.self.items counts) (sym c.take_one.ensures)
    (counted_without_last _ _ c.in-Some.hold _ c.self.invariant c.in-Some.ensures.items)
