use Rattle.std.proofs.Common.{◌∙◌, sym, ap, arith}
use Rattle.mat_core.specs.Flushing.{use_at}
use Rattle.mat_core.proofs.DueLemmas.{walk_begins, walk_ends, walk_fewer, walk_goes}
use Rattle.mat_core.proofs.flushing.due_rows.Goals as goal

pub rows-init : goal.rows-init
rows-init c =
    walk_begins c.args.identity c.args.kept.now.marks c.args.rows.now (record { uses = c.new.result; puts = c.new-2.result; touches = c.new-3.result })
    c.new.ensures.items c.new-2.ensures.items c.new-3.ensures.items

pub rows-smaller : goal.rows-smaller
rows-smaller c =
    let step = walk_fewer c.args.rows.now _ c.in-Some.stock.now c.path_of-in-Some.result.now c.is_in_order.ensures c.in-Some.ensures c.path_of-in-Some.ensures in
    omega (arith, step)

pub rows-preserved : goal.rows-preserved
rows-preserved c =
    walk_goes c.args.identity c.args.kept.now.marks c.args.rows.now _ c.in-Some.stock.now c.path_of-in-Some.result.now c.get-used.result c.rows.due c.look_at.new.due
    c.is_in_order.ensures c.in-Some.ensures c.path_of-in-Some.ensures
    (c.get-used.ensures ∙ ap (use_at c.args.kept.now.marks) (c.path_of.ensures ∙ sym c.path_of-in-Some.ensures)) c.in_ok-look_at.ensures c.rows.invariant

pub returns : goal.returns
returns c = walk_ends c.args.identity c.args.kept.now.marks c.args.rows.now _ _ c.in_default.ensures c.rows.invariant
