use Rattle.row_book.proofs.HeldLemmas.{held_most, held_put, held_sides, held_supplied, held_unheld}
use Rattle.row_book.proofs.laws.held_is_in_step.Goals as goal

pub returns : goal.returns
returns c = record { put = held_put; parted = held_sides; most = held_most; supplied = held_supplied; unheld = held_unheld }
