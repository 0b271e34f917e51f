-- A point keeps all its rules: after an entry, after a history, and from an opening that is right.
use Rattle.std.proofs.Common.{List, [], ◌∷◌}
use Rattle.mat_model.specs.declared.entries.Entry.{Entry}
use Rattle.mat_model.specs.declared.opening.Opening.{Opening}
use Rattle.mat_model.specs.History.{Point, after, after_all, opened, point_of}
use Rattle.mat_model.specs.Legal.{IsEach}
use Rattle.mat_model.specs.Openings.{IsOpening}
use Rattle.model_laws.specs.PointRules.{GoesOn, IsPoint}
use Rattle.model_laws.proofs.BooksKept.{entry_rules, opened_rules}
use Rattle.model_laws.proofs.PlacedLemmas.{entry_placed, opening_placed}
use Rattle.model_laws.proofs.StoredKept.{entry_stored, opening_stored}
use Rattle.model_laws.proofs.WorkKept.{entry_work, opening_work}

-- an entry keeps them
pub entry_point : (point : Point) (entry : Entry) → GoesOn point entry → IsPoint point → IsPoint (after point entry)
entry_point point entry (order, asks) rules = record {
  book = entry_rules point entry rules.book;
  work = entry_work point entry order rules.work;
  placed = entry_placed point entry rules.work.apart rules.work.stamped rules.kept.order asks rules.placed;
  kept = entry_stored point entry order rules.work rules.kept;
}

-- a history keeps them
pub history_point : (point : Point) (later : List Entry) → IsEach GoesOn point later → IsPoint point → IsPoint (after_all point later)
history_point point [] each rules = rules
history_point point (entry ∷ later) each rules = history_point (after point entry) later each.1 (entry_point point entry each.0 rules)

-- an opening that is right keeps them, and so does each point of a history from there
pub opening_point : (opening : Opening) → IsOpening opening → IsPoint (opened opening)
opening_point opening right = record {
  book = opened_rules opening [] right;
  work = opening_work opening right;
  placed = opening_placed opening right;
  kept = opening_stored opening right;
}

pub opened_point : (opening : Opening) (history : List Entry) → IsOpening opening → IsEach GoesOn (opened opening) history → IsPoint (point_of opening history)
opened_point opening history right each = history_point (opened opening) history each (opening_point opening right)
