use Rattle.std.proofs.Common.{◌+◌, ◌-◌, ℕ, List, ◌++◌, ap, drop, length, sym, take, ◌∙◌}
use Rattle.std.proofs.lemmas.List.{take-append-drop}
use Rattle.mat_model.specs.WorkState.{Debris}
use Rattle.debris_list.proofs.Zones.{cut_count, cut_is, in_order}
use Rattle.debris_list.proofs.pieces.range_below.Goals as goal

pub returns-clause-order : goal.returns-clause-order
returns-clause-order c =
    in_order c.args.path.now c.args.pieces.now c.count_before.result c.count_up_to.result c.count_before.ensures.within c.count_before.ensures.front
    c.count_up_to.ensures.rest

pub returns-clause-rest : goal.returns-clause-rest
returns-clause-rest c =
    cut_is c.args.path.now c.args.pieces.now c.count_before.result c.count_up_to.result
    (in_order c.args.path.now c.args.pieces.now c.count_before.result c.count_up_to.result c.count_before.ensures.within c.count_before.ensures.front
    c.count_up_to.ensures.rest)
    c.count_up_to.ensures.within c.count_before.ensures.front c.count_before.ensures.rest c.count_up_to.ensures.front c.count_up_to.ensures.rest

pub returns-clause-empty : goal.returns-clause-empty
returns-clause-empty c none =
    sym (cut_is c.args.path.now c.args.pieces.now c.count_before.result c.count_up_to.result
    (in_order c.args.path.now c.args.pieces.now c.count_before.result c.count_up_to.result c.count_before.ensures.within c.count_before.ensures.front
    c.count_up_to.ensures.rest)
    c.count_up_to.ensures.within c.count_before.ensures.front c.count_before.ensures.rest c.count_up_to.ensures.front c.count_up_to.ensures.rest)
    ∙ ap (λ (n : ℕ). take c.count_before.result c.args.pieces.now ++ drop n c.args.pieces.now) (sym none)
    ∙ take-append-drop c.count_before.result c.args.pieces.now

pub returns-clause-count : goal.returns-clause-count
returns-clause-count c =
    ap (λ (ps : List Debris). length ps + (c.count_up_to.result - c.count_before.result))
    (sym (cut_is c.args.path.now c.args.pieces.now c.count_before.result c.count_up_to.result
    (in_order c.args.path.now c.args.pieces.now c.count_before.result c.count_up_to.result c.count_before.ensures.within c.count_before.ensures.front
    c.count_up_to.ensures.rest)
    c.count_up_to.ensures.within c.count_before.ensures.front c.count_before.ensures.rest c.count_up_to.ensures.front c.count_up_to.ensures.rest))
    ∙ cut_count c.args.pieces.now c.count_before.result c.count_up_to.result (in_order c.args.path.now c.args.pieces.now c.count_before.result c.count_up_to.result c.count_before.ensures.within c.count_before.ensures.front
    c.count_up_to.ensures.rest) c.count_up_to.ensures.within
