use Rattle.std.proofs.Common.{◌∙◌, ◌++◌, ◌∷◌, [], ap, sym}
use Rattle.mat_core.proofs.RemoveLemmas.{listed_fewer, listed_last, listed_more}
use Rattle.mat_core.proofs.removing.list_overlapping.Goals as goal

pub rows-smaller : goal.rows-smaller
rows-smaller c =
    listed_fewer c.args.path.now c.path_of.result.now c.args.rows.now _ c.in-Some.stock.now c.is_in_order.ensures c.in-Some.ensures c.path_of.ensures

pub rows-preserved : goal.rows-preserved
rows-preserved c =
    listed_more c.args.path.now c.path_of.result.now c.args.rows.now _ c.in-Some.stock.now c.rows.paths.items c.push.new.self.items _ c.is_in_order.ensures
    c.in-Some.ensures c.path_of.ensures c.rows.invariant
    (c.in_ok-push.ensures.items ∙ ap (λ p. c.rows.paths.items ++ p ∷ []) (c.in_ok-copy.ensures.ok ∙ sym c.path_of.ensures))

pub returns : goal.returns
returns c = listed_last c.args.path.now c.args.rows.now _ c.rows.paths.items _ c.in_default.ensures c.rows.invariant
