-- When all work is done.
use Rattle.std.specs.Prelude.{◌≡◌, false, []}
use Rattle.std.specs.List.{list_any}
use Rattle.mat_model.specs.History.{Point}
use Rattle.mat_model.specs.Tickets.{is_open}
use Rattle.mat_model.specs.WorkState.{is_condemned}

-- at a point no ticket is open, no job runs, and nothing is condemned
pub record IsDrained (point : Point) : Type 0 where
  pub answered : list_any is_open point.book.tickets ≡ false
  pub jobs : point.work.jobs ≡ []
  pub clean : list_any is_condemned point.work.debris ≡ false
