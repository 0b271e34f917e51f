use Rattle.mat_path.proofs.ReadLemmas.{piece_count_is}
use Rattle.mat_path.proofs.reading.piece_count.Goals as goal

pub returns : goal.returns
returns c = piece_count_is c.args.text.now c.slash_count.result c.slash_count.ensures
