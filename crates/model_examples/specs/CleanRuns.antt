-- Worked histories of cleaning: what a clean takes, what it leaves, and the wipe that follows.
use Rattle.std.specs.Prelude.{false, true, List, [], ◌∷◌, ◌++◌}
use Rattle.mat_digest.specs.declared.digest.Digest.{Digest}
use Rattle.mat_tree.specs.Trees.{bytes_of, file_sum, file_tree}
use Rattle.mat_model.specs.declared.answers.Gone.{Gone}
use Rattle.mat_model.specs.declared.answers.Reply.{Reply}
use Rattle.mat_model.specs.declared.answers.Reply.TheVariants as reply
use Rattle.mat_model.specs.declared.entries.Entry.{Entry}
use Rattle.mat_model.specs.declared.requests.CleanMode.TheVariants as mode
use Rattle.model_examples.specs.FirstRuns.{asks, enters, writes}
use Rattle.mat_model.specs.declared.opening.Opening.{Opening}
use Rattle.model_examples.specs.Steps.{cleans, done, entry, entry_at, leaves, made, makes, path_p, path_q, stored, wiped, wipes}

-- the reply that nothing was cleaned
abbrev pub nothing_cleaned : Reply
nothing_cleaned = reply.Cleaned false [] []

-- the row of a file at `p` as a clean lists it
abbrev pub gone_file : Digest → Gone
gone_file digest = record { path = path_p; bytes = bytes_of (file_tree digest false) }

-- at the moment 5 a command writes a file at `p` and asks for it, and it is made
abbrev pub standing_run : Digest → List Entry
standing_run digest =
    entry_at 5 0 (enters 1 7) reply.Entered
    ∷ entry_at 5 1 (writes 1 path_p digest) (reply.Declared 1)
    ∷ entry_at 5 2 (asks 1 path_p) (reply.Asked 2)
    ∷ entry_at 5 3 (makes path_p 1) reply.Started
    ∷ entry_at 5 4 (made 3) stored
    ∷ []

-- the same, and then cleans that take nothing: while the command holds the row, and once it is gone with cutoffs up to the
-- row's last use; and a dry clean with a cutoff behind it
abbrev pub spared_run : Digest → List Entry
spared_run digest =
    standing_run digest
    ++ entry_at 5 5 (cleans 9 mode.Real) nothing_cleaned
    ∷ entry_at 5 6 (leaves 1) (reply.Left 0)
    ∷ entry_at 5 7 (cleans 4 mode.Real) nothing_cleaned
    ∷ entry_at 5 8 (cleans 5 mode.Real) nothing_cleaned
    ∷ entry_at 5 9 (cleans 6 mode.Dry) (reply.Cleaned true (gone_file digest ∷ []) [])
    ∷ []

-- the same, and then a clean takes the row
abbrev pub cleaned_run : Digest → List Entry
cleaned_run digest =
    spared_run digest
    ++ entry_at 5 10 (cleans 6 mode.Real) (reply.Cleaned false (gone_file digest ∷ []) [])
    ∷ []

-- the same, and then the row's part of the disk is wiped
abbrev pub wiped_run : Digest → List Entry
wiped_run digest =
    cleaned_run digest
    ++ entry_at 5 11 (wipes path_p) reply.Started
    ∷ entry_at 5 12 (wiped 11) done
    ∷ []

-- a daemon that begins with a disk that has something at `p`, of which the book knows nothing
abbrev pub stray_daemon : Opening
stray_daemon = record { rows = []; version1 = []; lost = []; strays = path_p ∷ [] }

-- a clean that is not of all
abbrev pub stray_run : List Entry
stray_run = entry 0 (cleans 9 mode.Real) nothing_cleaned ∷ []

-- the same, and then a clean of all lists the stray, and a second one nothing more
abbrev pub condemned_run : List Entry
condemned_run =
    stray_run
    ++ entry 1 (cleans 0 mode.All) (reply.Cleaned false [] (path_p ∷ []))
    ∷ entry 2 (cleans 0 mode.All) nothing_cleaned
    ∷ []

-- the same, and then the stray is wiped
abbrev pub stray_wiped_run : List Entry
stray_wiped_run =
    condemned_run
    ++ entry 3 (wipes path_p) reply.Started
    ∷ entry 4 (wiped 3) done
    ∷ []

-- a daemon that begins with a row of a file at `p`, and with something at `q`
abbrev pub mixed_daemon : Digest → Opening
mixed_daemon digest = record {
  rows = record {
    path = path_p;
    tree = file_tree digest false;
    sum = file_sum digest false;
    stamp = 0;
    stands = true;
    last = 0;
  } ∷ [];
  version1 = [];
  lost = [];
  strays = path_q ∷ [];
}

-- a clean of all takes the row and lists the stray, and then both are wiped
abbrev pub mixed_clean : Digest → List Entry
mixed_clean digest = entry 0 (cleans 1 mode.All) (reply.Cleaned false (gone_file digest ∷ []) (path_q ∷ [])) ∷ []

abbrev pub mixed_run : Digest → List Entry
mixed_run digest =
    mixed_clean digest
    ++ entry 1 (wipes path_p) reply.Started
    ∷ entry 2 (wipes path_q) reply.Started
    ∷ entry 3 (wiped 3) done
    ∷ entry 4 (wiped 2) done
    ∷ []
