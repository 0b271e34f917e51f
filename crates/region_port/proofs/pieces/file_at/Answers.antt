use Rattle.std.proofs.Common.{◌≡◌, ◌++◌, true, ap, sym, ◌∙◌}
use Rattle.mat_path.specs.Names.{is_path}
use Rattle.region_port.proofs.Shown.{on_some}
use Rattle.region_port.proofs.Walks.{found_at}
use Rattle.region_port.proofs.pieces.file_at.Goals as goal

pub returns-in-Some-clause-path : goal.returns-in-Some-clause-path
returns-in-Some-clause-path c =
    let place = c.args.place.now in
    let rel = c.args.rel.now in
    on_some c.bytes_kept.result (is_path (place ++ rel) ≡ true)
    (ap is_path (sym (found_at (place ++ c.names.result.now) c.in-Some.path.now c.in-Some.kept.now c.args.nodes.now c.in-Some.ensures ∙ ap (λ r. place ++ r) c.names.ensures.value)) ∙ c.names-names.ensures.path)
