-- A worked opening: of three kept rows one is lost, another is stored in the first version of the bytes, and the disk has a stray.
use Rattle.std.specs.Prelude.{ℕ, Bool, false, true, List, [], ◌∷◌}
use Rattle.mat_digest.specs.declared.digest.Digest.{Digest}
use Rattle.mat_tree.specs.Trees.{file_sum, file_tree}
use Rattle.mat_model.specs.declared.answers.Reply.TheVariants as reply
use Rattle.mat_model.specs.declared.book.Row.{Row}
use Rattle.mat_model.specs.declared.entries.Entry.{Entry}
use Rattle.mat_model.specs.declared.opening.Opening.{Opening}
use Rattle.mat_model.specs.Kept.{KeptRow}
use Rattle.model_examples.specs.Steps.{digest_a, digest_b, entry_at, flushes, path_p, path_q, path_r, path_s}

-- a file as the state store has it
abbrev pub stored_file : List (List ℕ) → Digest → ℕ → Bool → KeptRow
stored_file path digest last new = record { path = path; tree = file_tree digest false; last = last; new = new }

-- what the state store has: the file `a` at `p` in the first version, and in the second one `b` at `q` and `a` at `r`
abbrev pub three_kept : List KeptRow
three_kept =
    stored_file path_p digest_a 5 false
    ∷ stored_file path_q digest_b 9 true
    ∷ stored_file path_r digest_a 2 true
    ∷ []

-- a file as a row that stands
abbrev pub standing_file : ℕ → List (List ℕ) → Digest → ℕ → Row
standing_file stamp path digest last = record {
  path = path;
  tree = file_tree digest false;
  sum = file_sum digest false;
  stamp = stamp;
  stands = true;
  last = last;
}

-- what an opening finds where the disk hasn't the file at `r`, and has something at `s`
abbrev pub found_opening : Opening
found_opening = record {
  rows = standing_file 0 path_p digest_a 5 ∷ standing_file 1 path_q digest_b 9 ∷ [];
  version1 = path_p ∷ [];
  lost = path_r ∷ [];
  strays = path_s ∷ [];
}

-- the rows that are due are stored, and then none is due
abbrev pub stored_again_run : List Entry
stored_again_run =
    entry_at 9 0 flushes (reply.Flushed 1)
    ∷ entry_at 9 1 flushes (reply.Flushed 0)
    ∷ []
