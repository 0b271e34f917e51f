-- Worked histories of the gate: how commands come, wait, are admitted and go; and how a command compares, asks and removes.
use Rattle.std.specs.Prelude.{false, true, List, [], ◌∷◌, ◌++◌}
use Rattle.mat_tree.specs.Trees.{file_sum}
use Rattle.mat_model.specs.declared.answers.Reply.TheVariants as reply
use Rattle.mat_model.specs.declared.entries.Entry.{Entry}
use Rattle.model_examples.specs.FirstRuns.{asks, enters, writes}
use Rattle.model_examples.specs.Steps.{compares, digest_a, entry, leaves, looks, path_p, path_q, removes}

-- commands 1 and 2 come for state 1 and are live, 3 waits for state 2 and 4 behind it for state 1, and 1 goes
abbrev pub queued_run : List Entry
queued_run =
    entry 0 (enters 1 1) reply.Entered
    ∷ entry 1 (enters 2 1) reply.Entered
    ∷ entry 2 (enters 3 2) (reply.Queued 1)
    ∷ entry 3 (enters 4 1) (reply.Queued 2)
    ∷ entry 4 (enters 3 2) reply.Known
    ∷ entry 5 (leaves 1) (reply.Left 0)
    ∷ []

-- the same, and 2 goes too
abbrev pub admitted_run : List Entry
admitted_run = queued_run ++ entry 6 (leaves 2) (reply.Left 1) ∷ []

-- the same, and then 3, which is live, looks, 4, which isn't, looks, one that never came goes, and 3 goes
abbrev pub gate_run : List Entry
gate_run =
    admitted_run
    ++ entry 7 (looks 3 path_p) reply.Nothing
    ∷ entry 8 (looks 4 path_p) reply.NotLive
    ∷ entry 9 (leaves 9) reply.Unknown
    ∷ entry 10 (leaves 3) (reply.Left 1)
    ∷ []

-- a command writes a file at `p`, compares sums, looks, asks for the file, and can't go while its ticket is open
abbrev pub busy_run : List Entry
busy_run =
    entry 0 (enters 1 7) reply.Entered
    ∷ entry 1 (writes 1 path_p digest_a) (reply.Declared 1)
    ∷ entry 2 (compares 1 path_p (file_sum digest_a false)) (reply.Same 1)
    ∷ entry 3 (compares 1 path_p (file_sum digest_a true)) reply.Other
    ∷ entry 4 (compares 1 path_q (file_sum digest_a false)) reply.Nothing
    ∷ entry 5 (looks 1 path_p) (reply.NotMade 1)
    ∷ entry 6 (asks 1 path_p) (reply.Asked 6)
    ∷ entry 7 (leaves 1) (reply.Busy 1)
    ∷ []

-- the same, and then it removes the row, and goes
abbrev pub removed_run : List Entry
removed_run =
    busy_run
    ++ entry 8 (removes 1 path_p) (reply.Invalid 1)
    ∷ entry 9 (leaves 1) (reply.Left 0)
    ∷ []

-- commands 3 for state 2 and 4 for the live state wait, and 3 goes before it was live
abbrev pub given_up_run : List Entry
given_up_run = queued_run ++ entry 6 (leaves 3) (reply.Left 1) ∷ []
