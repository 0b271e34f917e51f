-- The first run, as a history: a command writes a file, asks for it, and a job makes it.
use Rattle.std.specs.Prelude.{ℕ, false, List, [], ◌∷◌, ◌++◌, codes, None}
use Rattle.mat_digest.specs.declared.digest.Digest.{Digest}
use Rattle.mat_tree.specs.Trees.{file_sum}
use Rattle.mat_model.specs.declared.book.Book.{Book}
use Rattle.mat_model.specs.declared.answers.Recorded.TheVariants as recorded
use Rattle.mat_model.specs.declared.answers.Reply.{Reply}
use Rattle.mat_model.specs.declared.answers.Reply.TheVariants as reply
use Rattle.mat_model.specs.declared.entries.Entry.{Entry}
use Rattle.mat_model.specs.declared.entries.Event.{Event}
use Rattle.mat_model.specs.declared.entries.Event.TheVariants as event
use Rattle.mat_model.specs.declared.entries.Outcome.TheVariants as outcome
use Rattle.mat_model.specs.declared.entries.Task.TheVariants as task
use Rattle.mat_model.specs.declared.requests.Asked.TheVariants as asked
use Rattle.mat_model.specs.Gate.{Served}
use Rattle.mat_model.specs.History.{answer, point_of}
use Rattle.mat_model.specs.declared.opening.Opening.{Opening}

-- the book that knows nothing yet
abbrev pub empty_book : Book
empty_book = record {
  first = 0;
  now = 0;
  state = None;
  live = [];
  waiting = [];
  soft = [];
  rows = [];
  holds = [];
  tickets = [];
}

-- a daemon that begins with nothing
abbrev pub new_daemon : Opening
new_daemon = record { rows = []; version1 = []; lost = []; strays = [] }

-- the path `out`
abbrev pub out_path : List (List ℕ)
out_path = codes "out" ∷ []

-- the path `out/f`
abbrev pub file_path : List (List ℕ)
file_path = codes "out" ∷ codes "f" ∷ []

-- the path `out/f/x`
abbrev pub deep_path : List (List ℕ)
deep_path = codes "out" ∷ codes "f" ∷ codes "x" ∷ []

-- the event that a command comes for a state
abbrev pub enters : ℕ → ℕ → Event
enters command state = event.Asked (asked.Enter command state false false)

-- the event that a command writes a file, not executable, of a digest
abbrev pub writes : ℕ → List (List ℕ) → Digest → Event
writes command path digest = event.Asked (asked.Write command path (file_sum digest false))

-- the event that a command asks for a path
abbrev pub asks : ℕ → List (List ℕ) → Event
asks command path = event.Asked (asked.Ensure command path)

-- an entry at the moment 0, by its caller and its number among that caller's
abbrev pub an_entry : ℕ → ℕ → Event → Reply → Entry
an_entry caller number what answer = record { by = record { caller = caller; number = number }; now = 0; event = what; reply = answer }

-- a history in which a file is written and asked for
abbrev pub asked_run : Digest → List Entry
asked_run digest =
    an_entry 1 0 (enters 1 7) reply.Entered
    ∷ an_entry 1 1 (writes 1 file_path digest) (reply.Declared 1)
    ∷ an_entry 1 2 (asks 1 file_path) (reply.Asked 2)
    ∷ []

-- the same, and then the file is made
abbrev pub made_run : Digest → List Entry
made_run digest =
    asked_run digest
    ++ an_entry 2 0 (event.Begin (task.Make file_path 1)) reply.Started
    ∷ an_entry 2 1 (event.Done 3 outcome.Made) (reply.Fresh recorded.Kept)
    ∷ []

-- the same, and then it is asked for again, its folder is asked for, and a command that isn't live writes
abbrev pub first_run : Digest → List Entry
first_run digest =
    made_run digest
    ++ an_entry 1 3 (asks 1 file_path) (reply.Ready 1 (file_sum digest false))
    ∷ an_entry 1 4 (asks 1 out_path) reply.Undeclared
    ∷ an_entry 1 5 (writes 9 file_path digest) reply.NotLive
    ∷ []

-- what comes of an event at the moment 0 behind a history that began with the empty book
abbrev pub served_next : List Entry → Event → Served
served_next history what = answer (point_of new_daemon history) 0 what reply.Started
