use Rattle.std.proofs.Common.{◌+◌, ℕ, ap, ◌∙◌}
use Rattle.std.specs.List.{position_or_len}
use Rattle.std.proofs.lemmas.List.{take_rest}
use Rattle.mat_model.specs.WorkState.{is_condemned}
use Rattle.debris_list.proofs.Zones.{place_from}
use Rattle.debris_list.proofs.pieces.first_condemned.Goals as goal

pub returns : goal.returns
returns c =
    ap (λ (n : ℕ). c.args.from + n) (c.count_free.ensures.value ∙ ap (position_or_len is_condemned) (take_rest c.args.pieces.now c.args.from))
    ∙ place_from c.args.pieces.now c.args.from c.requires.within c.requires.none
