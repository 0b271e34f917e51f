use Rattle.reapi_dir.proofs.Measures.{length_two}
use Rattle.reapi_dir.proofs.fields.link_len.Goals as goal

pub returns : goal.returns
returns c =
    length_two c.args.name.now c.args.target.now c.name_len.result c.target_len.result c.field_len.result c.field_len-2.result
    c.name_len.ensures.value c.target_len.ensures.value c.field_len.ensures.value c.field_len-2.ensures.value
