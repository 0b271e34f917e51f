-- Worked histories of declarations: of an equal tree, inside a directory, and over and below a make that runs.
use Rattle.std.specs.Prelude.{ℕ, false, true, List, [], ◌∷◌, ◌++◌, codes}
use Rattle.mat_digest.specs.declared.digest.Digest.{Digest}
use Rattle.mat_tree.specs.declared.flat.Flat.{Flat}
use Rattle.mat_tree.specs.declared.flat.What.TheVariants as what
use Rattle.mat_tree.specs.Sums.{sum_of}
use Rattle.mat_tree.specs.Trees.{file_sum, file_tree}
use Rattle.mat_model.specs.declared.answers.Reply.TheVariants as reply
use Rattle.mat_model.specs.declared.entries.Entry.{Entry}
use Rattle.model_examples.specs.FirstRuns.{asks, enters, out_path, writes}
use Rattle.model_examples.specs.Steps.{declares, digest_a, digest_b, done, entry, looks, made, makes, path_p, stored, wiped, wipes}

-- a command declares a file at `p` and asks for it, it is made, and then the same is declared again and asked for
abbrev pub equal_run : List Entry
equal_run =
    entry 0 (enters 1 7) reply.Entered
    ∷ entry 1 (declares 1 path_p (file_tree digest_a false)) (reply.Declared 1)
    ∷ entry 2 (asks 1 path_p) (reply.Asked 2)
    ∷ entry 3 (makes path_p 1) reply.Started
    ∷ entry 4 (made 3) stored
    ∷ entry 5 (declares 1 path_p (file_tree digest_a false)) (reply.Kept 1)
    ∷ entry 6 (asks 1 path_p) (reply.Ready 1 (file_sum digest_a false))
    ∷ []

-- the same, and then the executable file of the same bytes is declared
abbrev pub executable_run : List Entry
executable_run = equal_run ++ entry 7 (declares 1 path_p (file_tree digest_a true)) (reply.Declared 7) ∷ []

-- the path `out/d`, and in it `x` and `y`
abbrev pub folder_path : List (List ℕ)
folder_path = codes "out" ∷ codes "d" ∷ []

abbrev pub path_x : List (List ℕ)
path_x = codes "out" ∷ codes "d" ∷ codes "x" ∷ []

abbrev pub path_y : List (List ℕ)
path_y = codes "out" ∷ codes "d" ∷ codes "y" ∷ []

-- the tree of a directory with one file, `x`
abbrev pub folder_tree : Digest → List Flat
folder_tree digest =
    record { rel = []; what = what.Dir } ∷ record { rel = codes "x" ∷ []; what = what.File digest false } ∷ []

-- a command declares this tree at `out/d` and asks for a file in it, for one that isn't in it, and for what is above
abbrev pub folder_asked : Digest → List Entry
folder_asked digest =
    entry 0 (enters 1 7) reply.Entered
    ∷ entry 1 (declares 1 folder_path (folder_tree digest)) (reply.Declared 1)
    ∷ entry 2 (asks 1 path_x) (reply.Asked 2)
    ∷ entry 3 (asks 1 path_y) reply.Undeclared
    ∷ entry 4 (asks 1 out_path) reply.Undeclared
    ∷ []

-- the same, and then the tree is made and the file is asked for again
abbrev pub folder_run : Digest → List Entry
folder_run digest =
    folder_asked digest
    ++ entry 5 (makes folder_path 1) reply.Started
    ∷ entry 6 (made 5) stored
    ∷ entry 7 (asks 1 path_x) (reply.Ready 1 (sum_of (folder_tree digest)))
    ∷ []

-- while a file that is asked for is made at `p`, another one is written there
abbrev pub redeclared_run : List Entry
redeclared_run =
    entry 0 (enters 1 7) reply.Entered
    ∷ entry 1 (writes 1 path_p digest_a) (reply.Declared 1)
    ∷ entry 2 (asks 1 path_p) (reply.Asked 2)
    ∷ entry 3 (makes path_p 1) reply.Started
    ∷ entry 4 (writes 1 path_p digest_b) (reply.Declared 4)
    ∷ []

-- the same, and then the make ends
abbrev pub stale_run : List Entry
stale_run = redeclared_run ++ entry 5 (made 3) reply.Stale ∷ []

-- the same, and then the new file is made
abbrev pub remade_run : List Entry
remade_run =
    stale_run
    ++ entry 6 (makes path_p 4) reply.Started
    ∷ entry 7 (made 6) stored
    ∷ []

-- the paths `a/b` and `a/b/c`
abbrev pub path_above : List (List ℕ)
path_above = codes "a" ∷ codes "b" ∷ []

abbrev pub path_below : List (List ℕ)
path_below = codes "a" ∷ codes "b" ∷ codes "c" ∷ []

-- while a file that is asked for is made at `a/b`, another one is written at `a/b/c` and asked for
abbrev pub below_asked : Digest → Digest → List Entry
below_asked digest other =
    entry 0 (enters 1 7) reply.Entered
    ∷ entry 1 (writes 1 path_above digest) (reply.Declared 1)
    ∷ entry 2 (asks 1 path_above) (reply.Asked 2)
    ∷ entry 3 (makes path_above 1) reply.Started
    ∷ entry 4 (writes 1 path_below other) (reply.Declared 4)
    ∷ entry 5 (asks 1 path_below) (reply.Asked 5)
    ∷ []

-- the same, and then the make ends
abbrev pub below_stale : Digest → Digest → List Entry
below_stale digest other = below_asked digest other ++ entry 6 (made 3) reply.Stale ∷ []

-- the same, and then what it left is wiped
abbrev pub below_wiped : Digest → Digest → List Entry
below_wiped digest other =
    below_stale digest other
    ++ entry 7 (wipes path_above) reply.Started
    ∷ entry 8 (wiped 7) done
    ∷ []

-- the same, and then the file below is made
abbrev pub below_run : Digest → Digest → List Entry
below_run digest other =
    below_wiped digest other
    ++ entry 9 (makes path_below 4) reply.Started
    ∷ entry 10 (made 9) stored
    ∷ []

-- the path `a`
abbrev pub path_top : List (List ℕ)
path_top = codes "a" ∷ []

-- a file is made at `a/b`, and another one is written at `a` and asked for
abbrev pub above_asked : List Entry
above_asked =
    entry 0 (enters 1 7) reply.Entered
    ∷ entry 1 (writes 1 path_above digest_a) (reply.Declared 1)
    ∷ entry 2 (asks 1 path_above) (reply.Asked 2)
    ∷ entry 3 (makes path_above 1) reply.Started
    ∷ entry 4 (made 3) stored
    ∷ entry 5 (writes 1 path_top digest_b) (reply.Declared 5)
    ∷ entry 6 (looks 1 path_above) reply.Nothing
    ∷ entry 7 (asks 1 path_top) (reply.Asked 7)
    ∷ []

-- the same, and then it is made
abbrev pub above_run : List Entry
above_run =
    above_asked
    ++ entry 8 (makes path_top 5) reply.Started
    ∷ entry 9 (made 8) stored
    ∷ []
