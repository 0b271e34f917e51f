use Rattle.std.proofs.Common.{arith, length, drop, ◌-◌, ◌∙◌, sym}
use Rattle.std.proofs.lemmas.List.{length-drop, length-take, take_all}
use Rattle.job_run.specs.Pieces.{most_bytes}
use Rattle.job_run.proofs.acts.held_piece.Goals as goal

pub returns-then-rest : goal.returns-then-rest
returns-then-rest c =
    take_all (length c.args.bytes.now - c.args.at) (drop c.args.at c.args.bytes.now) (rw length-drop (omega arith))
    ∙ sym (take_all most_bytes (drop c.args.at c.args.bytes.now) (rw length-drop (omega arith)))

pub slice_bounds-result-end : goal.slice_bounds-result-end
slice_bounds-result-end c = simp (length-take, length-drop) (omega arith)
