use Rattle.reapi_dir.specs.Spelling.{file_text}
use Rattle.reapi_dir.proofs.Appends.{fields_more}
use Rattle.reapi_dir.proofs.write.push_files.Goals as goal

pub loop-file-preserved : goal.loop-file-preserved
loop-file-preserved c =
    fields_more file_text c.args.files.now c.loop-file.file-index c.file-item.result c.args.out.now.items c.loop-file.out.items _
    c.loop-file-test.true c.file-item.is c.loop-file.invariant c.in_ok-push_file.ensures
