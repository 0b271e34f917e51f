use Rattle.std.proofs.Common.{◌≡◌, ◌≤◌, [], length, map}
use Rattle.reapi_dir.specs.Grammar.{file_name}
use Rattle.reapi_dir.specs.Reading.{dirs_read}
use Rattle.reapi_dir.proofs.read_list.read_dirs.Given as goal

abbrev pub invariant-dirs : goal.invariant-dirs
invariant-dirs l = record {
  read : dirs_read (map file_name l.files) l.room [] l.end l.bytes ≡ dirs_read (map file_name l.files) l.left l.dirs.items l.end l.rest;
  within : length l.rest ≤ length l.bytes;
}

abbrev pub decreases-dirs : goal.decreases-dirs
decreases-dirs l = l.left
