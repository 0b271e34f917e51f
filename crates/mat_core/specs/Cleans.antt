-- What a clean tells: the rows that it lists, the debris that belongs to nobody, and the kept rows at the paths of those.
use Rattle.std.specs.Prelude.{ℕ, Bool, true, List, [], ◌∷◌, map, filter, find}
use Rattle.std.specs.Option.{is_some}
use Rattle.mat_model.specs.declared.answers.Gone.{Gone}
use Rattle.mat_model.specs.declared.book.Hold.{Hold}
use Rattle.mat_model.specs.Cleaning.{gone_row, is_stale}
use Rattle.mat_model.specs.WorkState.{Debris, Job, is_stray, marked, path_of_debris}
use Rattle.kept_book.specs.declared.mark.Mark.{Mark}
use Rattle.kept_book.specs.Marks.{gone_path, is_mark_at}
use Rattle.row_book.specs.declared.stock.Stock.{Stock}
use Rattle.row_book.specs.Stocks.{rows_of}

-- the rows that a clean at a cutoff lists, of some stocks beside some holds
abbrev pub gone_in : ℕ → List Hold → List Stock → List Gone
gone_in cutoff holds stocks = map gone_row (filter (is_stale cutoff holds) (rows_of stocks))

-- the paths of the debris that one of all would condemn, beside some jobs
abbrev pub strays_in : List Job → List Debris → List (List (List ℕ))
strays_in jobs debris = map path_of_debris (filter (is_stray jobs) debris)

-- whether a row that is listed has a kept row at its path, and the paths of those that have
abbrev pub has_mark : List Mark → Gone → Bool
has_mark marks gone = is_some (find (is_mark_at gone.path) marks)

abbrev pub kept_among : List Mark → List Gone → List (List (List ℕ))
kept_among marks gone = map gone_path (filter (has_mark marks) gone)

-- debris that is condemned at each of some paths, one after the other
abbrev pub condemned_at : List (List (List ℕ)) → List Debris → List Debris
condemned_at [] debris = debris
condemned_at (path ∷ paths) debris = condemned_at paths (map (marked true path) debris)
