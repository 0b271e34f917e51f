-- Worked histories of full tables: which limit a request would pass.
use Rattle.std.specs.Prelude.{ℕ, zero, suc, ◌+◌, List, [], ◌∷◌, ◌++◌, false, map, Option, Some}
use Rattle.mat_digest.specs.declared.digest.Digest.{Digest}
use Rattle.mat_tree.specs.Trees.{file_tree}
use Rattle.mat_model.specs.declared.answers.Limit.{Limit}
use Rattle.mat_model.specs.declared.answers.Reply.TheVariants as reply
use Rattle.mat_model.specs.declared.book.Book.{Book}
use Rattle.mat_model.specs.declared.book.Waiter.{Waiter}
use Rattle.mat_model.specs.declared.entries.Entry.{Entry}
use Rattle.mat_model.specs.declared.entries.Event.{Event}
use Rattle.mat_model.specs.declared.limits.Limits.{Limits}
use Rattle.model_examples.specs.FirstRuns.{asks, empty_book, enters, new_daemon, writes}
use Rattle.mat_model.specs.History.{Point, opened, point_of}
use Rattle.mat_model.specs.Room.{full_event}
use Rattle.model_examples.specs.Steps.{declares, digest_a, entry, path_p}

-- much room
abbrev pub roomy : Limits
roomy = record { history = 1000; nodes = 1000; rows = 1000; held = 1000; asked = 1000; holds = 1000 }

-- the limit that an event at the moment 0 would pass behind a history, if it would pass one
abbrev pub full_next : Limits → List Entry → Event → Option Limit
full_next limits history what = full_event limits (point_of new_daemon history) 0 what

-- a command is live
abbrev pub entered_run : List Entry
entered_run = entry 0 (enters 1 7) reply.Entered ∷ []

-- and it declares a file at `p`
abbrev pub declared_run : List Entry
declared_run = entered_run ++ entry 1 (declares 1 path_p (file_tree digest_a false)) (reply.Declared 1) ∷ []

-- or it writes one there
abbrev pub written_run : Digest → List Entry
written_run digest = entered_run ++ entry 1 (writes 1 path_p digest) (reply.Declared 1) ∷ []

-- and asks for what it wrote
abbrev pub asked_once : Digest → List Entry
asked_once digest = written_run digest ++ entry 2 (asks 1 path_p) (reply.Asked 2) ∷ []

-- so many commands, by numbers from one on
abbrev pub commands : ℕ → ℕ → List ℕ
commands first zero = []
commands first (suc count) = first ∷ commands (first + 1) count

-- a command that waits for state 8
abbrev pub waits_for_eight : ℕ → Waiter
waits_for_eight command = record { command = command; state = 8 }

-- a book in which 64 commands are live on state 7, and so many wait
abbrev pub crowded : ℕ → Book
crowded count = record empty_book {
  state = Some 7;
  live = commands 0 64;
  waiting = map waits_for_eight (commands 64 count);
}

-- a point with that book
abbrev pub crowded_point : ℕ → Point
crowded_point count = record (opened new_daemon) { book = crowded count }
