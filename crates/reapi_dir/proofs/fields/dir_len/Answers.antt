use Rattle.mat_tree.specs.Messages.{digest_message}
use Rattle.reapi_dir.proofs.Measures.{length_two}
use Rattle.reapi_dir.proofs.fields.dir_len.Goals as goal

pub returns : goal.returns
returns c =
    length_two c.args.name.now (digest_message c.args.digest.now) c.name_len.result c.digest_len.result c.field_len.result c.field_len-2.result
    c.name_len.ensures.value c.digest_len.ensures.value c.field_len.ensures.value c.field_len-2.ensures.value
