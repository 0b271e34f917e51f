use Rattle.std.proofs.Common.{◌++◌, Some, None, sym, ap, subst, ◌∙◌, filter}
use Rattle.row_book.specs.Stocks.{is_past}
use Rattle.stale_pick.specs.Picks.{Picking}
use Rattle.mat_core.specs.Cleans.{gone_in}
use Rattle.mat_core.proofs.CleanLemmas.{IsPickedTo, behind_fewer, stale_all, stale_first, stale_on}
use Rattle.mat_core.proofs.cleaning.list_stale.Goals as goal

pub rows-init : goal.rows-init
rows-init c = record {
  cutoff = ap (λ (p : Picking). p.cutoff) c.new-picker.ensures;
  gone = ap (λ (p : Picking). p.gone ++ gone_in c.args.cutoff c.args.holds.now (filter (is_past None) c.args.rows.now)) c.new-picker.ensures
      ∙ stale_first c.args.cutoff c.args.holds.now c.args.rows.now;
}

pub rows-smaller : goal.rows-smaller
rows-smaller c =
    behind_fewer c.args.cutoff c.args.holds.now c.args.rows.now _ c.in-Some.stock.now c.is_in_order.ensures (sym c.in-Some.ensures)
    c.path_of.result.now c.path_of.ensures

pub rows-preserved : goal.rows-preserved
rows-preserved c =
    let next = stale_on c.args.cutoff c.args.holds.now c.args.rows.now _ c.in-Some.stock.now c.is_in_order.ensures (sym c.in-Some.ensures)
    c.rows.picker c.feed.new.self (record { cutoff = c.rows.invariant.cutoff; gone = c.rows.invariant.gone }) c.in_ok-feed.ensures in
    subst (λ p. IsPickedTo c.args.cutoff c.args.holds.now c.args.rows.now (Some p) c.feed.new.self) (sym c.path_of.ensures) next

pub returns : goal.returns
returns c =
    c.gone_of.ensures ∙ stale_all c.args.cutoff c.args.holds.now c.args.rows.now _ c.rows.picker (sym c.in_default.ensures) c.rows.invariant.gone
