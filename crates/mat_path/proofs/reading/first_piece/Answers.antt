use Rattle.std.proofs.Common.{sym}
use Rattle.mat_path.proofs.ReadLemmas.{piece_end, piece_whole}
use Rattle.mat_path.proofs.reading.first_piece.Goals as goal

pub returns-in-Some : goal.returns-in-Some
returns-in-Some c = piece_end _ _ (sym c.in-Some.ensures)

pub returns-in-None : goal.returns-in-None
returns-in-None c = piece_whole _ (sym c.in-None.ensures)
