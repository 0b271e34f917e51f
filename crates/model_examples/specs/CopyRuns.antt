-- Worked histories of copies: where their bytes come from, and what becomes of a source that is cleaned while it is read.
use Rattle.std.specs.Prelude.{ℕ, false, List, [], ◌∷◌, ◌++◌, true, codes}
use Rattle.mat_digest.specs.declared.digest.Digest.{Digest}
use Rattle.mat_tree.specs.declared.flat.Flat.{Flat}
use Rattle.mat_tree.specs.declared.flat.What.TheVariants as what
use Rattle.mat_tree.specs.Trees.{file_tree}
use Rattle.mat_model.specs.declared.answers.Reply.TheVariants as reply
use Rattle.mat_model.specs.declared.entries.Entry.{Entry}
use Rattle.mat_model.specs.declared.requests.CleanMode.TheVariants as mode
use Rattle.model_examples.specs.FirstRuns.{asks, enters, writes}
use Rattle.model_examples.specs.CleanRuns.{gone_file}
use Rattle.model_examples.specs.Steps.{cleans, copies, declares, digest_a, digest_b, done, entry, entry_at, leaves, looks, made, makes, path_p, path_q, path_r, path_s, stored, wiped, wipes}

-- a command declares a file at `p`, copies it to `q`, and asks for `p`, which is made, and then for `q`
abbrev pub copy_asked : List Entry
copy_asked =
    entry 0 (enters 1 7) reply.Entered
    ∷ entry 1 (declares 1 path_p (file_tree digest_a false)) (reply.Declared 1)
    ∷ entry 2 (copies 1 path_q path_p) (reply.Declared 2)
    ∷ entry 3 (asks 1 path_p) (reply.Asked 3)
    ∷ entry 4 (makes path_p 1) reply.Started
    ∷ entry 5 (made 4) stored
    ∷ entry 6 (asks 1 path_q) (reply.Asked 6)
    ∷ []

-- the same, and then the make of the copy begins
abbrev pub copy_begun : List Entry
copy_begun = copy_asked ++ entry 7 (makes path_q 2) reply.Started ∷ []

-- the same, and it ends, `p` is copied to `r` too, another file is written at `p`, and `r` is asked for
abbrev pub late_copy_asked : List Entry
late_copy_asked =
    copy_begun
    ++ entry 8 (made 7) stored
    ∷ entry 9 (copies 1 path_r path_p) (reply.Declared 9)
    ∷ entry 10 (writes 1 path_p digest_b) (reply.Declared 10)
    ∷ entry 11 (asks 1 path_r) (reply.Asked 11)
    ∷ []

-- the same, and then the make of that copy begins
abbrev pub late_copy_begun : List Entry
late_copy_begun = late_copy_asked ++ entry 12 (makes path_r 9) reply.Started ∷ []

-- the same, and it ends, and a copy is asked of a path where nothing is declared
abbrev pub copy_run : List Entry
copy_run =
    late_copy_begun
    ++ entry 13 (made 12) stored
    ∷ entry 14 (copies 1 path_r path_s) reply.NoSource
    ∷ []

-- a command writes a file at `p`, has it made and goes; another one comes, copies `p` to `q`, asks for `q` at the moment 9,
-- and the make of the copy begins
abbrev pub lent_begun : Digest → List Entry
lent_begun digest =
    entry 0 (enters 1 7) reply.Entered
    ∷ entry 1 (writes 1 path_p digest) (reply.Declared 1)
    ∷ entry 2 (asks 1 path_p) (reply.Asked 2)
    ∷ entry 3 (makes path_p 1) reply.Started
    ∷ entry 4 (made 3) stored
    ∷ entry 5 (leaves 1) (reply.Left 0)
    ∷ entry 6 (enters 2 7) reply.Entered
    ∷ entry 7 (copies 2 path_q path_p) (reply.Declared 7)
    ∷ entry_at 9 8 (asks 2 path_q) (reply.Asked 8)
    ∷ entry_at 9 9 (makes path_q 7) reply.Started
    ∷ []

-- the same, and then the source is cleaned
abbrev pub lent_cleaned : Digest → List Entry
lent_cleaned digest =
    lent_begun digest
    ++ entry_at 9 10 (cleans 5 mode.Real) (reply.Cleaned false (gone_file digest ∷ []) [])
    ∷ []

-- the same, and then the make ends
abbrev pub lent_returned : Digest → List Entry
lent_returned digest = lent_cleaned digest ++ entry_at 9 11 (made 9) stored ∷ []

-- the same, and then the source's part of the disk is wiped
abbrev pub lent_run : Digest → List Entry
lent_run digest =
    lent_returned digest
    ++ entry_at 9 12 (wipes path_p) reply.Started
    ∷ entry_at 9 13 (wiped 12) done
    ∷ []

-- the make of `q` as a copy of `p` has begun, another file is written at `p`, and `p` is asked for
abbrev pub source_declared_anew : List Entry
source_declared_anew =
    copy_begun
    ++ entry 8 (writes 1 path_p digest_b) (reply.Declared 8)
    ∷ entry 9 (asks 1 path_p) (reply.Asked 9)
    ∷ []

-- the same, and then the make of the copy ends
abbrev pub old_source_returned : List Entry
old_source_returned = source_declared_anew ++ entry 10 (made 7) stored ∷ []

-- the same, and then the new file is made at `p`
abbrev pub declared_anew_run : List Entry
declared_anew_run =
    old_source_returned
    ++ entry 11 (makes path_p 8) reply.Started
    ∷ entry 12 (made 11) stored
    ∷ []

-- `p` stands, `q` and `r` are copies of it, both are asked for, and the make of `q` begins
abbrev pub two_copies_begun : Digest → List Entry
two_copies_begun digest =
    entry 0 (enters 1 7) reply.Entered
    ∷ entry 1 (writes 1 path_p digest) (reply.Declared 1)
    ∷ entry 2 (asks 1 path_p) (reply.Asked 2)
    ∷ entry 3 (makes path_p 1) reply.Started
    ∷ entry 4 (made 3) stored
    ∷ entry 5 (copies 1 path_q path_p) (reply.Declared 5)
    ∷ entry 6 (copies 1 path_r path_p) (reply.Declared 6)
    ∷ entry 7 (asks 1 path_q) (reply.Asked 7)
    ∷ entry 8 (asks 1 path_r) (reply.Asked 8)
    ∷ entry 9 (makes path_q 5) reply.Started
    ∷ []

-- the same, and then it ends
abbrev pub two_copies_run : Digest → List Entry
two_copies_run digest =
    two_copies_begun digest
    ++ entry 10 (made 9) stored
    ∷ entry 11 (makes path_r 6) reply.Started
    ∷ []

-- the paths `p/l` and `p/x`
abbrev pub link_path : List (List ℕ)
link_path = codes "p" ∷ codes "l" ∷ []

abbrev pub inner_path : List (List ℕ)
inner_path = codes "p" ∷ codes "x" ∷ []

-- the tree of a directory with a link, `l`, and a file, `x`
abbrev pub linked_tree : Digest → List Flat
linked_tree digest =
    record { rel = []; what = what.Dir }
    ∷ record { rel = codes "l" ∷ []; what = what.Link (codes "x") }
    ∷ record { rel = codes "x" ∷ []; what = what.File digest true }
    ∷ []

-- a command declares this tree at `p`, looks for the link, copies it in vain, and copies the file
abbrev pub inner_run : Digest → List Entry
inner_run digest =
    entry 0 (enters 1 7) reply.Entered
    ∷ entry 1 (declares 1 path_p (linked_tree digest)) (reply.Declared 1)
    ∷ entry 2 (looks 1 link_path) (reply.NotMade 1)
    ∷ entry 3 (copies 1 path_q link_path) reply.NoSource
    ∷ entry 4 (copies 1 path_q inner_path) (reply.Declared 4)
    ∷ []

-- the same, and then the file is copied over the whole directory
abbrev pub self_run : Digest → List Entry
self_run digest = inner_run digest ++ entry 5 (copies 1 path_p inner_path) (reply.Declared 5) ∷ []
