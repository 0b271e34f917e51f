use Rattle.std.proofs.Common.{sym}
use Rattle.mat_tree.proofs.Turns.{in_turn_no_fault}
use Rattle.mat_tree.proofs.refuse.first_fault.Goals as goal

pub returns-then-are_in_turn : goal.returns-then-are_in_turn
returns-then-are_in_turn c =
    sym (in_turn_no_fault c.args.nodes.now c.args.root.now c.args.rest.now c.requires.whole c.requires.root (sym c.if-are_in_turn.ensures))
