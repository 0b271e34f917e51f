use Rattle.std.proofs.Common.{◌≡◌, ◌≤◌, [], length}
use Rattle.reapi_dir.specs.Reading.{files_read}
use Rattle.reapi_dir.proofs.read_list.read_files.Given as goal

abbrev pub invariant-files : goal.invariant-files
invariant-files l = record {
  read : files_read l.room [] l.end l.bytes ≡ files_read l.left l.files.items l.end l.rest;
  within : length l.rest ≤ length l.bytes;
}

abbrev pub decreases-files : goal.decreases-files
decreases-files l = l.left
