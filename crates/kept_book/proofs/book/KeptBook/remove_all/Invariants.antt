use Rattle.std.proofs.Common.{◌≡◌, take}
use Rattle.std.specs.List.{filter}
use Rattle.kept_book.specs.Marks.{is_mark_unlisted}
use Rattle.kept_book.proofs.book.KeptBook.remove_all.Given as goal

abbrev pub invariant-loop-path : goal.invariant-loop-path
invariant-loop-path l = (l.self.marks ≡ filter (is_mark_unlisted (take l.path-index l.paths)) l.fn.self.marks) × (l.self.reserved ≡ l.fn.self.reserved)
