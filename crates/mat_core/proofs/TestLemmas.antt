-- What a test may ask.
use Rattle.std.proofs.Common.{◌≡◌, ◌≤◌, ℕ, true, false, List, length, arith}
use Rattle.std.proofs.lemmas.Bool.{le-leb}
use Rattle.mat_digest.specs.Digests.{digest_of}
use Rattle.mat_path.specs.Names.{is_path}
use Rattle.mat_tree.specs.Trees.{file_sum, greatest_file}
use Rattle.mat_model.specs.Legal.{MayWrite}

-- a small file may be written at a path
pub may_write_small : (path : List (List ℕ)) (bytes : List ℕ) → is_path path ≡ true → length bytes ≤ 1024 → MayWrite path (file_sum (digest_of bytes) false)
unfolding digest_of
may_write_small path bytes at small = record { placed = at; plain = le-leb (length bytes) greatest_file (omega (arith, small)) }
