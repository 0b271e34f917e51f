use Rattle.std.proofs.Common.{true, not, ap, sym, ◌∙◌, cond}
use Rattle.std.specs.BTreeSet.{contains}
use Rattle.mat_path.specs.Names.{path_cmp, same_names}
use Rattle.mat_path.specs.Order.{same_names_ties}
use Rattle.region_port.specs.Strays.{is_clear}
use Rattle.region_port.proofs.StrayLemmas.{added, not_added}
use Rattle.region_port.proofs.strays.add_apart.Goals as goal

pub returns-in_ok-insert : goal.returns-in_ok-insert
returns-in_ok-insert c path =
    let old = contains path_cmp c.args.found.now path in
    c.in_ok-insert.ensures.updates.0 path
    ∙ ap (λ b. cond b true old) (sym (same_names_ties c.in_ok-copy.field-0 path))
    ∙ ap (λ k. cond (same_names k path) true old) c.in_ok-copy.ensures.ok
    ∙ added (is_clear c.args.known.now) c.args.at.now path old (ap not (sym c.overlaps.ensures ∙ c.if-not-overlaps.true))

pub returns-else-not-overlaps : goal.returns-else-not-overlaps
returns-else-not-overlaps c path =
    not_added (is_clear c.args.known.now) c.args.at.now path (contains path_cmp c.args.found.now path) (ap not (sym c.overlaps.ensures ∙ c.if-not-overlaps.false))
