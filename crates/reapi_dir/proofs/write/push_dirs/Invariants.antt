use Rattle.std.proofs.Common.{◌≡◌, ◌++◌, take}
use Rattle.std.specs.List.{flat_map}
use Rattle.reapi_dir.specs.Spelling.{dir_text}
use Rattle.reapi_dir.proofs.write.push_dirs.Given as goal

abbrev pub invariant-loop-dir : goal.invariant-loop-dir
invariant-loop-dir l = l.out.items ≡ l.initial.out.items ++ flat_map dir_text (take l.dir-index l.dirs)
