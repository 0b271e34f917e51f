-- The rules of a point together: those of its book, of its work state, of its trees and ways, and of its kept rows.
use Rattle.mat_model.specs.Books.{IsBook}
use Rattle.mat_model.specs.History.{Point, next_number}
use Rattle.mat_model.specs.Legal.{ComesInOrder, IsAskable}
use Rattle.mat_model.specs.declared.entries.Entry.{Entry}
use Rattle.model_laws.specs.StoredRules.{IsStored}
use Rattle.model_laws.specs.WorkRules.{IsPlaced, IsWork}

-- a point keeps its rules
pub record IsPoint (point : Point) : Type 0 where
  -- those of its book
  pub book : IsBook (next_number point) point.book
  -- those of its work state: no path is claimed twice, and what goes with that
  pub work : IsWork (next_number point) point.book.rows point.work
  -- its trees lie at paths, and so does what its ways read
  pub placed : IsPlaced point.book.rows point.work point.kept
  -- its kept rows are those of rows that stand and of parts that are lent, where they overlap them, and overlap no task
  pub kept : IsStored point.book.rows point.work.jobs point.kept

-- an entry goes on rightly: its work comes in order, and it asks for what may be asked, at paths
abbrev pub GoesOn : Point → Entry → Type 0
GoesOn point entry = ComesInOrder point entry × IsAskable point entry
