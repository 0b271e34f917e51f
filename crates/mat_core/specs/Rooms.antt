-- What the parts of a core count of room, and what they have reserved.
use Rattle.std.specs.Prelude.{◌≡◌, ◌≤◌, ℕ, ◌+◌, ◌*◌, nat_lt, ◌&&◌, Bool, true, if◌then◌else◌, List, length, count_by, Option, Some, None}
use Rattle.std.specs.List.{Contains}
use Rattle.std.specs.Vec.{vec_capacity}
use Rattle.mat_model.specs.declared.answers.Limit.{Limit}
use Rattle.mat_model.specs.declared.answers.Limit.TheVariants as limit
use Rattle.mat_model.specs.declared.answers.Reply.{Reply}
use Rattle.mat_model.specs.declared.answers.Reply.TheVariants as reply
use Rattle.mat_model.specs.declared.entries.Task.{Task}
use Rattle.mat_model.specs.declared.entries.Task.TheVariants as task
use Rattle.mat_model.specs.declared.requests.Asked.{Asked}
use Rattle.mat_model.specs.Requests.{RequestContext, serve}
use Rattle.mat_model.specs.Room.{entries_for}
use Rattle.mat_model.specs.Tickets.{is_open, with_hold}
use Rattle.mat_model.specs.WorkState.{Job}
use Rattle.job_book.specs.Jobs.{jobs_of}
use Rattle.kept_book.specs.Marks.{is_reserved}
use Rattle.mat_core.specs.Books.{book_in}
use Rattle.mat_core.specs.declared.parts.Parts.{Parts}

-- how many entries are spent
abbrev pub spent_in : {D K : Type 0} → Parts D K → ℕ
spent_in parts = length parts.history.items + length parts.jobs + length parts.gate.live + length parts.gate.waiting

-- a reply that wants so many entries, or that there is no room for them
abbrev pub if_room : {D K : Type 0} → Parts D K → ℕ → Reply → Reply
if_room parts entries said = if nat_lt parts.base.limits.history (spent_in parts + entries) then reply.Full limit.History else said

-- the limit that an entry would pass which gives a command a hold on a path, and opens a ticket, if it asks for one
abbrev pub full_grant : {D K : Type 0} → Parts D K → ℕ → List (List ℕ) → Bool → Option Limit
full_grant parts command path asks =
    if nat_lt parts.base.limits.history (spent_in parts + 1) then Some limit.History
    else if asks && nat_lt parts.base.limits.asked (count_by is_open parts.tickets.all + 1) then Some limit.Asked
    else if nat_lt parts.base.limits.holds (length (with_hold command path parts.holds)) then Some limit.Holds
    else None

-- ---- what is reserved

-- a place is reserved for the kept row that a task may leave
abbrev pub IsReservedFor : List (List (List ℕ)) → Task → Type 0
IsReservedFor reserved (task.Make path stamp) = is_reserved reserved path ≡ true
IsReservedFor reserved (task.Wipe path) = Unit {0}

-- what some parts have reserved, so that a leave and the end of a job take no memory
pub record HasReserves {D K : Type 0} (parts : Parts D K) : Type 0 where
  -- room in the history for each entry that is spent
  pub history : spent_in parts ≤ vec_capacity parts.history
  -- room for two pieces of debris for each job: its task's part, and the part that it reads
  pub debris : 2 * length parts.jobs ≤ parts.debris.spare
  -- a place for the kept row of each make
  pub places : (job : Job) → Contains (jobs_of parts.jobs) job → IsReservedFor parts.kept.reserved job.task

-- there is room in the history for all entries that a request wants, beside those that are spent
abbrev pub FitsEntries : {D K : Type 0} → Asked → Parts D K → Type 0
FitsEntries request parts = (number moment : ℕ) (context : RequestContext) →
    spent_in parts + entries_for request (serve number moment context request (book_in parts)).reply ≤ vec_capacity parts.history

-- what is reserved for jobs stays: the jobs, the room for their debris, and the places of their kept rows
pub record KeepsReserves {D K : Type 0} (old new : Parts D K) : Type 0 where
  pub jobs : new.jobs ≡ old.jobs
  pub debris : 2 * length old.jobs ≤ old.debris.spare → 2 * length old.jobs ≤ new.debris.spare
  pub places : new.kept.reserved ≡ old.kept.reserved
