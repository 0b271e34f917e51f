-- What the tables of numbers keep of a book's tickets: no contract outside speaks of it.
use Rattle.std.specs.Prelude.{ℕ, ◌++◌, List}
use Rattle.std.specs.BTreeMap.{BTreeMap}
use Rattle.std.specs.List.{filter}
use Rattle.std.specs.declared.alloc.Global.{Global}
use Rattle.std.specs.declared.vec.Vec.{Vec}
use Rattle.mat_model.specs.declared.book.Ticket.{Ticket}
use Rattle.path_trie.specs.Entries.{is_above}
use Rattle.path_trie.specs.declared.entry.Entry.{Entry}
use Rattle.ticket_book.specs.Below.{IsGathered}
use Rattle.ticket_book.specs.ByPath.{IsFiled, IsIndexed, all_numbers, is_inside}

-- the tables are of these tickets
pub record IsIndex (tickets : List Ticket) (entries : List (Entry (List ℕ))) (gathered : BTreeMap (Vec (List ℕ) Global) (List ℕ)) (filed : BTreeMap ℕ (List ℕ)) : Type 0 where
  pub paths : IsIndexed tickets entries
  pub below : IsGathered tickets gathered
  pub commands : IsFiled tickets filed

-- the numbers at the paths that overlap a path
abbrev pub overlap_numbers : List (List ℕ) → List (Entry (List ℕ)) → List ℕ
overlap_numbers path entries = all_numbers (filter (is_above path) entries) ++ all_numbers (filter (is_inside path) entries)
