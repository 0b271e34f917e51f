use Rattle.reapi_dir.specs.Spelling.{dir_text}
use Rattle.reapi_dir.proofs.Appends.{fields_more}
use Rattle.reapi_dir.proofs.write.push_dirs.Goals as goal

pub loop-dir-preserved : goal.loop-dir-preserved
loop-dir-preserved c =
    fields_more dir_text c.args.dirs.now c.loop-dir.dir-index c.dir-item.result c.args.out.now.items c.loop-dir.out.items _
    c.loop-dir-test.true c.dir-item.is c.loop-dir.invariant c.in_ok-push_dir.ensures
