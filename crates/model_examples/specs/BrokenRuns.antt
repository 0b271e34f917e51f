-- Entries that are legal, and entries that break one rule of a legal history each.
use Rattle.std.specs.Prelude.{◌^◌, List, [], ◌∷◌, ◌++◌, true}
use Rattle.mat_tree.specs.Trees.{file_sum}
use Rattle.mat_model.specs.declared.answers.Recorded.TheVariants as recorded
use Rattle.mat_model.specs.declared.answers.Reply.TheVariants as reply
use Rattle.mat_model.specs.declared.entries.Entry.{Entry}
use Rattle.mat_model.specs.declared.entries.Event.TheVariants as event
use Rattle.mat_model.specs.declared.entries.Outcome.TheVariants as outcome
use Rattle.mat_model.specs.declared.limits.Limits.{Limits}
use Rattle.mat_model.specs.declared.requests.Asked.TheVariants as asked
use Rattle.mat_model.specs.declared.requests.CleanMode.TheVariants as mode
use Rattle.mat_model.specs.History.{Point, point_of}
use Rattle.mat_model.specs.Room.{greatest_limits}
use Rattle.model_examples.specs.FirstRuns.{asks, enters, new_daemon, writes}
use Rattle.model_examples.specs.Steps.{cleans, declares, digest_a, disk_note, done, ends, entry_at, made, makes, path_p, path_q, store_note, stored}

-- a command comes at the moment 9 and writes a file, and that is the point at which the next entry comes
abbrev pub written_run : List Entry
written_run =
    entry_at 9 0 (enters 1 7) reply.Entered
    ∷ entry_at 9 1 (writes 1 path_p digest_a) (reply.Declared 1)
    ∷ []

abbrev pub written : Point
written = point_of new_daemon written_run

-- the file is asked for
abbrev pub asked_next : Entry
asked_next = entry_at 9 2 (asks 1 path_p) (reply.Asked 2)

-- the same with another reply, with an earlier moment, and with a number that its caller has used
abbrev pub told_otherwise : Entry
told_otherwise = record asked_next { reply = reply.Undeclared }

abbrev pub told_earlier : Entry
told_earlier = record asked_next { now = 8 }

abbrev pub counted_again : Entry
counted_again = record asked_next { by = record { caller = 0; number = 1 } }

-- a make begins that nobody asked for
abbrev pub begun_unasked : Entry
begun_unasked = entry_at 9 2 (makes path_p 1) reply.Started

-- a job ends that never began
abbrev pub ended_unbegun : Entry
ended_unbegun = entry_at 9 2 (made 1) reply.Stale

-- a daemon that takes no ticket
abbrev pub no_ticket : Limits
no_ticket = record greatest_limits { asked = 0 }

-- what is asked for comes at the first moment that can't come
abbrev pub asked_too_late : Entry
asked_too_late = record asked_next { now = 2 ^ 63 }

-- what is declared at `q` is no tree
abbrev pub declared_nothing : Entry
declared_nothing = entry_at 9 2 (declares 1 path_q []) (reply.Declared 2)

-- what is written at `q` is an executable file
abbrev pub written_executable : Entry
written_executable = entry_at 9 2 (event.Asked (asked.Write 1 path_q (file_sum digest_a true))) (reply.Declared 2)

-- a dry clean has the first cutoff that can't come
abbrev pub cleaned_too_late : Entry
cleaned_too_late = entry_at 9 2 (cleans (2 ^ 63) mode.Dry) (reply.Cleaned true [] [])

-- the file is asked for and its make begins, and that is the point at which it ends
abbrev pub making_run : List Entry
making_run = written_run ++ asked_next ∷ entry_at 9 3 (makes path_p 1) reply.Started ∷ []

abbrev pub making : Point
making = point_of new_daemon making_run

-- it is made, and its row is stored
abbrev pub made_next : Entry
made_next = entry_at 9 4 (made 3) stored

-- the same, but nothing is said of the state store
abbrev pub made_unrecorded : Entry
made_unrecorded = record made_next { reply = done }

-- the same, but the state store failed, and its count didn't rise
abbrev pub made_unrisen : Entry
made_unrisen = record made_next { reply = reply.Fresh (recorded.NotKept (store_note 1 1)) }

-- the disk failed the make, and its count rose
abbrev pub failed_next : Entry
failed_next = entry_at 9 4 (ends 3 (outcome.Fault (disk_note 0 1))) done

-- the same, but the count didn't rise
abbrev pub failed_unrisen : Entry
failed_unrisen = entry_at 9 4 (ends 3 (outcome.Fault (disk_note 1 1))) done

-- the same, but the fault is the state store's, which no make calls
abbrev pub failed_elsewhere : Entry
failed_elsewhere = entry_at 9 4 (ends 3 (outcome.Fault (store_note 0 1))) done
