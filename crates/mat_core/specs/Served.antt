-- How a request that calls no device is served by the parts of a core.
use Rattle.std.specs.Prelude.{◌≡◌, ◌+◌, ℕ, Bool, true, false, not, ◌&&◌, List, map, Option, Some, None}
use Rattle.std.specs.Option.{is_none}
use Rattle.mat_model.specs.declared.answers.Limit.{Limit}
use Rattle.mat_model.specs.declared.answers.Reply.{Reply}
use Rattle.mat_model.specs.declared.answers.Reply.TheVariants as reply
use Rattle.mat_model.specs.declared.requests.Asked.{Asked}
use Rattle.mat_model.specs.History.{Point, nodes_of}
use Rattle.mat_model.specs.Kept.{KeptRow}
use Rattle.mat_model.specs.Requests.{RequestContext, serve_now}
use Rattle.mat_model.specs.Room.{full_served, row_paths}
use Rattle.mat_model.specs.WorkState.{WorkState, work_asked}
use Rattle.model_laws.specs.RoomRules.{IsRoomy}
use Rattle.model_laws.specs.WorkRules.{IsWork}
use Rattle.kept_book.specs.Marks.{mark_of}
use Rattle.mat_core.specs.Books.{AreWork, StandFor, book_in}
use Rattle.mat_core.specs.Rooms.{KeepsReserves}
use Rattle.mat_core.specs.declared.parts.Parts.{Parts}

-- the limit that a reply says is reached, if it says that
abbrev pub full_of : Reply → Option Limit
full_of (reply.Full which) = Some which
full_of _ = None

-- whether a reply is want of memory
abbrev pub is_want : Reply → Bool
is_want reply.NoMemory = true
is_want _ = false

-- whether a reply is entered in the history
abbrev pub is_entered : Reply → Bool
is_entered said = is_none (full_of said) && not (is_want said)

-- whether a reply leaves the state store as it is, and lists nothing
abbrev pub is_quiet : Reply → Bool
is_quiet (reply.Cleaned dry rows strays) = false
is_quiet (reply.Invalid count) = false
is_quiet (reply.Flushed count) = false
is_quiet (reply.Fault note) = false
is_quiet reply.Started = false
is_quiet (reply.Refused note) = false
is_quiet (reply.Fresh how) = false
is_quiet _ = true

-- whether a reply is that a request did nothing to the book but for the moment: it was refused, or only looked
abbrev pub leaves_book : Reply → Bool
leaves_book reply.Other = true
leaves_book reply.Nothing = true
leaves_book (reply.Stands stamp) = true
leaves_book (reply.NotMade stamp) = true
leaves_book reply.NotLive = true
leaves_book reply.Known = true
leaves_book (reply.Differs state) = true
leaves_book reply.Unknown = true
leaves_book (reply.Busy count) = true
leaves_book reply.NoSource = true
leaves_book reply.TooLong = true
leaves_book reply.Undeclared = true
leaves_book _ = false

-- what no request changes, and what a request that is refused for want of room or memory leaves
pub record IsBeside {D K : Type 0} (old new : Parts D K) : Type 0 where
  pub base : new.base ≡ old.base
  pub first : new.first ≡ old.first
  pub moment : new.moment ≡ old.moment
  pub history : new.history ≡ old.history
  pub lost : new.lost ≡ old.lost
  pub disk : new.disk ≡ old.disk
  pub keeper : new.keeper ≡ old.keeper

-- what a request leaves that changes the book alone, and no row
pub record IsBesideBook {D K : Type 0} (old new : Parts D K) : Type 0 where
  pub beside : IsBeside old new
  pub rows : new.rows ≡ old.rows
  pub debris : new.debris ≡ old.debris
  pub jobs : new.jobs ≡ old.jobs
  pub kept : new.kept ≡ old.kept
  pub nodes : new.nodes ≡ old.nodes
  pub paths : new.paths ≡ old.paths

pub record IsUnchanged {D K : Type 0} (old new : Parts D K) : Type 0 where
  pub beside : IsBeside old new
  pub book : book_in new ≡ book_in old
  pub rows : new.rows ≡ old.rows
  pub debris : new.debris.list ≡ old.debris.list
  pub jobs : new.jobs ≡ old.jobs
  pub kept : new.kept.marks ≡ old.kept.marks
  pub reserves : KeepsReserves old new
  pub nodes : new.nodes ≡ old.nodes
  pub paths : new.paths ≡ old.paths

-- a request was answered so, under a number, by some parts that became others: where the reply is entered, it, the book and the work state are those
-- of the definitions, where the work state keeps its rules, and the kept rows stay; where it isn't, nothing changed; and a limit is told exactly where the
-- request would pass it
pub record Serves {D K : Type 0} (number : ℕ) (request : Asked) (said : Reply) (old new : Parts D K) : Type 0 where
  pub quiet : is_quiet said ≡ true
  pub beside : IsBeside old new
  pub unchanged : is_entered said ≡ false → IsUnchanged old new
  pub served : is_entered said ≡ true → (context : RequestContext) →
      record { reply = said; book = book_in new } ≡ serve_now number context request (book_in old)
  pub work : is_entered said ≡ true → (work : WorkState) → IsWork number (book_in old).rows work → AreWork old work →
      AreWork new (work_asked request said (book_in old).rows (book_in new).rows work)
  pub kept : new.kept.marks ≡ old.kept.marks
  pub reserves : KeepsReserves old new
  pub nodes : is_entered said ≡ true → new.nodes ≡ old.nodes + nodes_of request said (book_in old)
  pub paths : is_entered said ≡ true → (kept : List KeptRow) → old.kept.marks ≡ map mark_of kept → old.paths ≡ row_paths (book_in old) kept →
      new.paths ≡ row_paths (book_in new) kept
  pub room : is_want said ≡ false → (point : Point) (context : RequestContext) → StandFor old point → IsRoomy old.base.limits point →
      full_of said ≡ full_served old.base.limits point request (serve_now number context request (book_in old))

-- what a call that calls no device leaves of the rest
pub record AreSameDevices {D K : Type 0} (old new : Parts D K) : Type 0 where
  pub base : new.base ≡ old.base
  pub lost : new.lost ≡ old.lost
  pub disk : new.disk ≡ old.disk
  pub keeper : new.keeper ≡ old.keeper

-- parts that stand for a point still do
abbrev pub StandsStill : {D K : Type 0} → Parts D K → Parts D K → Type 0
StandsStill old new = (point : Point) → StandFor old point → StandFor new point
