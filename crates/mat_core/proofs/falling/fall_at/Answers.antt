use Rattle.std.proofs.Common.{refl, arith}
use Rattle.mat_core.proofs.FallLemmas.{overlap_most, walked, walks}
use Rattle.mat_core.proofs.falling.fall_at.Goals as goal

pub overflow_add-count : goal.overflow_add-count
overflow_add-count c =
    let step = walks c.args.kept.now.marks c.args.path.now _ c.args.rows.now _ c.in-Some.stock.now c.is_in_order.ensures c.in-Some.ensures refl in
    let most = overlap_most c.args.kept.now.marks c.args.path.now c.args.rows.now in
    let a = step.rows in let b = most.0 in let i = c.rows.invariant.rows in let e = c.len-most.ensures in
    omega (arith, a, b, i, e)

pub overflow_add-unkept : goal.overflow_add-unkept
overflow_add-unkept c =
    let step = walks c.args.kept.now.marks c.args.path.now _ c.args.rows.now _ c.in-Some.stock.now c.is_in_order.ensures c.in-Some.ensures refl in
    let most = overlap_most c.args.kept.now.marks c.args.path.now c.args.rows.now in
    let a = step.unkept in let b = most.1 in let i = c.rows.invariant.unkept in let e = c.len-most.ensures in let u = c.unkept_count-unkept.ensures in
    omega (arith, a, b, i, e, u)

pub overflow_add-held : goal.overflow_add-held
overflow_add-held c =
    let step = walks c.args.kept.now.marks c.args.path.now _ c.args.rows.now _ c.in-Some.stock.now c.is_in_order.ensures c.in-Some.ensures refl in
    let most = overlap_most c.args.kept.now.marks c.args.path.now c.args.rows.now in
    let a = step.held in let b = most.2 in let i = c.rows.invariant.held in let e = c.held_bytes-held.ensures in let u = c.held_of-held.ensures in
    omega (arith, a, b, i, e, u)

pub rows-smaller : goal.rows-smaller
rows-smaller c =
    let step = walks c.args.kept.now.marks c.args.path.now c.path_of.result.now c.args.rows.now _ c.in-Some.stock.now c.is_in_order.ensures c.in-Some.ensures c.path_of.ensures in
    let a = step.rows in omega (arith, a)

pub rows-preserved : goal.rows-preserved
rows-preserved c =
    let step = walks c.args.kept.now.marks c.args.path.now c.path_of.result.now c.args.rows.now _ c.in-Some.stock.now c.is_in_order.ensures c.in-Some.ensures c.path_of.ensures in
    record {
      rows = let a = step.rows in let i = c.rows.invariant.rows in omega (arith, a, i);
      unkept = let a = step.unkept in let i = c.rows.invariant.unkept in let u = c.unkept_count-unkept.ensures in omega (arith, a, i, u);
      held = let a = step.held in let i = c.rows.invariant.held in let u = c.held_of-held.ensures in omega (arith, a, i, u);
    }

pub returns : goal.returns
returns c =
    walked c.args.kept.now.marks c.args.path.now c.args.rows.now _ c.rows.count c.rows.unkept c.rows.held c.is_unkept.result c.in_default.ensures
    c.rows.invariant.rows c.rows.invariant.unkept c.rows.invariant.held c.is_unkept.ensures
