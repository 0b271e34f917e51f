use Rattle.std.proofs.Common.{◌≡◌, false, List, subst, sym, ◌∙◌}
use Rattle.std.specs.List.{list_any}
use Rattle.mat_model.specs.WorkState.{Debris}
use Rattle.debris_list.specs.Pieces.{IsFound, is_at}
use Rattle.debris_list.proofs.Zones.{nothing_out, taken_out_at}
use Rattle.debris_list.proofs.pieces.take_out.Goals as goal

pub returns-in_err-place-clause-pieces : goal.returns-in_err-place-clause-pieces
returns-in_err-place-clause-pieces c =
    sym (nothing_out c.args.path.now c.args.pieces.now.items
    (subst (λ (ps : List Debris). list_any (is_at c.args.path.now) ps ≡ false) c.as_slice.ensures.value c.in_err-place.ensures.absent))

pub returns-clause-pieces : goal.returns-clause-pieces
returns-clause-pieces c =
    c.remove.ensures.by_index.2
    ∙ taken_out_at c.args.path.now c.args.pieces.now.items c.in_ok-place.place c.requires
    (subst (λ (ps : List Debris). IsFound c.args.path.now ps c.in_ok-place.place) c.as_slice.ensures.value c.in_ok-place.ensures.found)
