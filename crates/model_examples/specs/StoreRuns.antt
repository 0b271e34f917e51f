-- Worked histories of the state store: what it keeps, and what its failures do.
use Rattle.std.specs.Prelude.{false, true, List, [], ◌∷◌, ◌++◌}
use Rattle.mat_tree.specs.Trees.{file_sum, file_tree}
use Rattle.mat_model.specs.declared.answers.Recorded.TheVariants as recorded
use Rattle.mat_model.specs.declared.answers.Reply.TheVariants as reply
use Rattle.mat_model.specs.declared.book.Row.{Row}
use Rattle.mat_model.specs.declared.entries.Entry.{Entry}
use Rattle.model_examples.specs.FirstRuns.{asks, enters, writes}
use Rattle.mat_model.specs.declared.opening.Opening.{Opening}
use Rattle.model_examples.specs.Steps.{digest_a, digest_b, entry, flushes, made, makes, path_p, removes, store_note}

-- the row of the file `a` at `p`, as it stands when a daemon begins with it
abbrev pub stored_row : Row
stored_row = record {
  path = path_p;
  tree = file_tree digest_a false;
  sum = file_sum digest_a false;
  stamp = 0;
  stands = true;
  last = 0;
}

-- a daemon that begins with this row
abbrev pub stored_daemon : Opening
stored_daemon = record { rows = stored_row ∷ []; version1 = []; lost = []; strays = [] }

-- another file is written there and asked for, and its make can't begin, since the store fails to remove the old row
abbrev pub refused_run : List Entry
refused_run =
    entry 0 (enters 1 7) reply.Entered
    ∷ entry 1 (writes 1 path_p digest_b) (reply.Declared 2)
    ∷ entry 2 (asks 1 path_p) (reply.Asked 3)
    ∷ entry 3 (makes path_p 2) (reply.Refused (store_note 0 1))
    ∷ []

-- the same, and then the file is asked for again, and made, but the store fails to take the new row
abbrev pub not_kept_run : List Entry
not_kept_run =
    refused_run
    ++ entry 4 (asks 1 path_p) (reply.Asked 5)
    ∷ entry 5 (makes path_p 2) reply.Started
    ∷ entry 6 (made 6) (reply.Fresh (recorded.NotKept (store_note 1 2)))
    ∷ []

-- the same, and then the store fails at a flush, takes the row at the next one, and has nothing to take at a third
abbrev pub flushed_run : List Entry
flushed_run =
    not_kept_run
    ++ entry 7 flushes (reply.Fault (store_note 2 3))
    ∷ entry 8 flushes (reply.Flushed 1)
    ∷ entry 9 flushes (reply.Flushed 0)
    ∷ []

-- the same, and then the store fails to remove the row for a command that asks for that
abbrev pub unremoved_run : List Entry
unremoved_run = flushed_run ++ entry 10 (removes 1 path_p) (reply.Fault (store_note 3 4)) ∷ []

-- the same, and then a command that isn't live asks for it in vain, and the first one again
abbrev pub store_run : List Entry
store_run =
    unremoved_run
    ++ entry 11 (removes 9 path_p) reply.NotLive
    ∷ entry 12 (removes 1 path_p) (reply.Invalid 1)
    ∷ []
