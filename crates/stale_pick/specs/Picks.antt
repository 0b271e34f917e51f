-- What a clean takes of some rows, and why each other one stays.
use Rattle.std.specs.Prelude.{ℕ, not, if◌then◌else◌, List, [], ◌∷◌, ◌++◌, map, filter, Option, Some, None}
use Rattle.mat_model.specs.declared.answers.Gone.{Gone}
use Rattle.mat_model.specs.declared.book.Hold.{Hold}
use Rattle.mat_model.specs.declared.book.Row.{Row}
use Rattle.mat_model.specs.Cleaning.{gone_row, is_held, is_not_stale, is_stale}
use Rattle.stale_pick.specs.declared.picked.Spared.{Spared}
use Rattle.stale_pick.specs.declared.picked.Why.{Why}
use Rattle.stale_pick.specs.declared.picked.Why.TheVariants as why

-- why a row that isn't stale stays: the first of three reasons that holds
abbrev pub why_spared : List Hold → Row → Why
why_spared holds row = if not row.stands then why.NotStanding else if is_held holds row then why.Held else why.Used

-- a row that stays, by its path and the reason
abbrev pub spared_row : List Hold → Row → Spared
spared_row holds row = record { path = row.path; why = why_spared holds row }

-- the rows that a clean lists, and the rows that stay, each in order
abbrev pub gone_of : ℕ → List Hold → List Row → List Gone
gone_of cutoff holds rows = map gone_row (filter (is_stale cutoff holds) rows)

abbrev pub kept_of : ℕ → List Hold → List Row → List Spared
kept_of cutoff holds rows = map (spared_row holds) (filter (is_not_stale cutoff holds) rows)

-- a pick so far: the cutoff, the rows that go, and those that stay
pub record Picking : Type 0 where
  pub cutoff : ℕ
  pub gone : List Gone
  pub kept : List Spared

-- the pick of some rows
abbrev pub picking_of : ℕ → List Hold → List Row → Picking
picking_of cutoff holds rows = record { cutoff = cutoff; gone = gone_of cutoff holds rows; kept = kept_of cutoff holds rows }

-- a pick with one row more
abbrev pub fed : List Hold → Row → Picking → Picking
fed holds row picking =
    if is_stale picking.cutoff holds row then record picking { gone = picking.gone ++ gone_row row ∷ [] }
    else record picking { kept = picking.kept ++ spared_row holds row ∷ [] }

-- why a row stays, if it does
abbrev pub why_stays : ℕ → List Hold → Row → Option Why
why_stays cutoff holds row = if is_stale cutoff holds row then None else Some (why_spared holds row)
