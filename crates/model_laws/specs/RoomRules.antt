-- A point that is within the limits of a daemon.
use Rattle.std.specs.Prelude.{◌≤◌, length, count_by}
use Rattle.mat_model.specs.declared.limits.Limits.{Limits}
use Rattle.mat_model.specs.History.{Point}
use Rattle.mat_model.specs.Room.{held_bytes, row_paths, spent}
use Rattle.mat_model.specs.Tickets.{is_open}

-- all that is counted at a point is within the limits
pub record IsRoomy (limits : Limits) (point : Point) : Type 0 where
  -- the entries that are spent: those that are there, and one for each job that runs and each command that is live or waits
  pub history : spent point ≤ limits.history
  -- the nodes that were declared
  pub nodes : point.nodes ≤ limits.nodes
  -- the paths that have a row, a kept row or both
  pub rows : row_paths point.book point.kept ≤ limits.rows
  -- the bytes that are held for rows
  pub held : held_bytes point.work.ways point.book.rows ≤ limits.held
  -- the open tickets
  pub asked : count_by is_open point.book.tickets ≤ limits.asked
  -- the holds
  pub holds : length point.book.holds ≤ limits.holds
  -- the commands that wait
  pub waiting : length point.book.waiting ≤ 64
