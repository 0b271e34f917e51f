use Rattle.std.proofs.Common.{◌≡◌, ◌++◌, length}
use Rattle.std.specs.List.{filter}
use Rattle.std.specs.Vec.{vec_capacity}
use Rattle.path_trie.specs.Entries.{is_next_under}
use Rattle.ticket_book.specs.ByPath.{all_numbers, is_inside}
use Rattle.ticket_book.proofs.by_path.list_inside.Given as goal

-- what is listed, and what stands behind the last entry, is all
abbrev pub invariant-entries : goal.invariant-entries
invariant-entries l =
    (l.numbers.items ++ all_numbers (filter (is_next_under l.path l.last) l.entries) ≡ l.fn.numbers.items ++ all_numbers (filter (is_inside l.path) l.entries))
    × (vec_capacity l.numbers ≡ vec_capacity l.fn.numbers)

abbrev pub decreases-entries : goal.decreases-entries
decreases-entries l = length (filter (is_next_under l.path l.last) l.entries)
