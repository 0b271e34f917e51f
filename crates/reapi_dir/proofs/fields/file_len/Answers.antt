use Rattle.std.proofs.Common.{ap, ◌∙◌}
use Rattle.mat_tree.specs.Messages.{digest_message, flag}
use Rattle.reapi_dir.specs.Lengths.{number_length}
use Rattle.reapi_dir.proofs.Measures.{length_three}
use Rattle.reapi_dir.proofs.fields.file_len.Goals as goal

pub returns : goal.returns
returns c =
    length_three c.args.name.now (digest_message c.args.digest.now) c.name_len.result c.digest_len.result (flag c.args.exec) c.field_len.result
    c.field_len-2.result c.number_len.result c.name_len.ensures.value c.digest_len.ensures.value c.field_len.ensures.value c.field_len-2.ensures.value
    (c.number_len.ensures.value ∙ ap number_length c.flag.ensures)
