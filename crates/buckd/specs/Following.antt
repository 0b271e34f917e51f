-- What holds of the history of a run at each point.
use Rattle.std.specs.Prelude.{◌≡◌, Bool, true, false, []}
use Rattle.std.specs.List.{list_all}
use Rattle.mat_model.specs.History.{book_of, point_of}
use Rattle.mat_model.specs.Legal.{FollowsFrom, is_of}
use Rattle.mat_model.specs.declared.opening.Opening.{Opening}
use Rattle.mat_model.specs.WorkState.{Way, WayOf, copied, held, store}
use Rattle.buckd.specs.declared.daemon.Run.{Run}
use Rattle.buckd.specs.Run.{Point}

-- a daemon begins with no kept row and an empty disk
abbrev pub new_daemon : Opening
new_daemon = record { rows = []; version1 = []; lost = []; strays = [] }

-- whether a row's bytes come from no other row
abbrev pub is_own : Way → Bool
is_own held = true
is_own store = true
is_own (copied source rest stamp holds) = false

abbrev pub is_own_way : WayOf → Bool
is_own_way entry = is_own entry.way

-- a run is lawful at a point: each entry of its history follows, its book is the history's, all entries are of the one caller, and the
-- first number and the moment are 0
pub record IsLawful (point : Point) : Type 0 where
  pub follows : FollowsFrom new_daemon point.history
  pub book : point.book ≡ book_of new_daemon point.history
  pub own : list_all (is_of 0) point.history ≡ true
  pub first : point.book.first ≡ 0
  pub now : point.book.now ≡ 0

-- between two lines also no job runs, nothing is debris, and no row was copied
pub record IsFollowingAt (point : Point) : Type 0 where
  pub lawful : IsLawful point
  pub jobs : (point_of new_daemon point.history).work.jobs ≡ []
  pub debris : (point_of new_daemon point.history).work.debris ≡ []
  pub ways : list_all is_own_way (point_of new_daemon point.history).work.ways ≡ true

-- what is left of a run: a history from an empty book and an empty disk each of whose entries has the reply, the moment and the number of the
-- definitions, and brings work in order; and the book of it
pub record IsFollowingRun (run : Run) : Type 0 where
  pub follows : FollowsFrom new_daemon run.history
  pub book : run.book ≡ book_of new_daemon run.history
