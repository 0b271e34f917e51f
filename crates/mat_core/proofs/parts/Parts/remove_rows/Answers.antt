use Rattle.std.proofs.Common.{◌≡◌, length, ap, arith}
use Rattle.mat_core.specs.Removing.{taken_at}
use Rattle.mat_core.proofs.RemoveLemmas.{taken_few}
use Rattle.mat_core.proofs.parts.Parts.remove_rows.Goals as goal

pub add_remains-requires-clause-room : goal.add_remains-requires-clause-room
add_remains-requires-clause-room g c =
    let all : length c.take_rows-taken.result.items ≡ length (taken_at c.args.paths.now c.args.self.now.rows) = ap length c.take_rows-taken.ensures.taken in
    let few = taken_few c.args.paths.now c.args.self.now.rows in
    let room = c.requires.debris in
    omega (arith, all, few, room)
