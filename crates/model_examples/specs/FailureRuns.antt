-- Worked histories of jobs that fail: what their tickets are answered, and what they leave.
use Rattle.std.specs.Prelude.{ℕ, false, List, [], ◌∷◌, ◌++◌, codes}
use Rattle.mat_digest.specs.declared.digest.Digest.{Digest}
use Rattle.mat_tree.specs.Trees.{file_tree}
use Rattle.mat_model.specs.declared.answers.Reply.TheVariants as reply
use Rattle.mat_model.specs.declared.entries.Entry.{Entry}
use Rattle.mat_model.specs.declared.entries.Outcome.TheVariants as outcome
use Rattle.model_examples.specs.FirstRuns.{asks, enters, writes}
use Rattle.model_examples.specs.Steps.{declares, disk_note, done, ends, entry, made, makes, path_p, removes, stored, wiped, wipes}

-- the path `p/x`
abbrev pub path_px : List (List ℕ)
path_px = codes "p" ∷ codes "x" ∷ []

-- a command declares a file and asks for it, and the store lacks it
abbrev pub missing_run : Digest → List Entry
missing_run digest =
    entry 0 (enters 1 7) reply.Entered
    ∷ entry 1 (declares 1 path_p (file_tree digest false)) (reply.Declared 1)
    ∷ entry 2 (asks 1 path_p) (reply.Asked 2)
    ∷ entry 3 (makes path_p 1) reply.Started
    ∷ entry 4 (ends 3 (outcome.Missing digest)) done
    ∷ []

-- the same, and then it is asked for again, and made
abbrev pub found_run : Digest → List Entry
found_run digest =
    missing_run digest
    ++ entry 5 (asks 1 path_p) (reply.Asked 5)
    ∷ entry 6 (makes path_p 1) reply.Started
    ∷ entry 7 (made 6) stored
    ∷ []

-- the file that the store lacks is removed, and another one is written below its path and asked for
abbrev pub dirty_run : Digest → Digest → List Entry
dirty_run digest other =
    missing_run digest
    ++ entry 5 (removes 1 path_p) (reply.Invalid 1)
    ∷ entry 6 (writes 1 path_px other) (reply.Declared 6)
    ∷ entry 7 (asks 1 path_px) (reply.Asked 7)
    ∷ []

-- the same, and then the disk fails at the wipe of what the first make left
abbrev pub unwiped_run : Digest → Digest → List Entry
unwiped_run digest other =
    dirty_run digest other
    ++ entry 8 (wipes path_p) reply.Started
    ∷ entry 9 (ends 8 (outcome.Fault (disk_note 0 1))) done
    ∷ []

-- the same, and then the second file is asked for again, and made behind another wipe
abbrev pub failure_run : Digest → Digest → List Entry
failure_run digest other =
    unwiped_run digest other
    ++ entry 10 (asks 1 path_px) (reply.Asked 10)
    ∷ entry 11 (wipes path_p) reply.Started
    ∷ entry 12 (wiped 11) done
    ∷ entry 13 (makes path_px 6) reply.Started
    ∷ entry 14 (made 13) stored
    ∷ []
