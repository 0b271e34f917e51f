use Rattle.row_book.proofs.book.RowBook.cover_free.Given as goal

abbrev pub ghosts-cover_in : goal.ghosts-cover_in
ghosts-cover_in a = record { name = a.blank.name; parts = a.blank.parts }
