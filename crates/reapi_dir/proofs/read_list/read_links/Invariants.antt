use Rattle.std.proofs.Common.{◌≡◌, ◌≤◌, ◌++◌, [], length, map}
use Rattle.reapi_dir.specs.Grammar.{dir_name, file_name}
use Rattle.reapi_dir.specs.Reading.{links_read}
use Rattle.reapi_dir.proofs.read_list.read_links.Given as goal

abbrev pub invariant-links : goal.invariant-links
invariant-links l = record {
  read : links_read (map file_name l.files ++ map dir_name l.dirs) l.room [] l.end l.bytes ≡ links_read (map file_name l.files ++ map dir_name l.dirs) l.left l.links.items l.end l.rest;
  within : length l.rest ≤ length l.bytes;
}

abbrev pub decreases-links : goal.decreases-links
decreases-links l = l.left
