use Rattle.reapi_dir.proofs.SumMessageBack.{sum_digest, sum_spells}
use Rattle.reapi_dir.proofs.sum_laws.sum_is_of_message.Goals as goal

pub returns : goal.returns
returns c = record {
  digest = λ nodes tree at_dir. sum_digest nodes tree.root at_dir;
  spelled = λ nodes tree known at_dir. sum_spells nodes tree known;
}
