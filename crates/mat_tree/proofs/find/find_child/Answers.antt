use Rattle.std.proofs.Common.{rules, of_calls, ◌∙◌, ap}
use Rattle.std.proofs.lemmas.Fn.{always_returns_same}
use Rattle.std.specs.declared.option.Option.TheVariants.{Some}
use Rattle.mat_tree.specs.Nodes.{child_cmp}
use Rattle.mat_tree.proofs.Search.{found_at, not_found, order_rises}
use Rattle.mat_tree.proofs.find.find_child.Goals as goal

pub returns-in-Ok : goal.returns-in-Ok
returns-in-Ok c =
    let by_name = c.in-Ok.ensures.position (child_cmp c.args.name.now) (always_returns_same _ _ _ (λ a r f k. search (rules, of_calls))) in
    ap Some c.index-children-place.is
    ∙ found_at c.args.name.now c.args.children.now c.in-Ok.place _ c.requires c.in-Ok.ensures.bound (by_name _)

pub returns-in-Err : goal.returns-in-Err
returns-in-Err c =
    let by_name = c.in-Err.ensures.position (child_cmp c.args.name.now) (always_returns_same _ _ _ (λ a r f k. search (rules, of_calls))) in
    not_found c.args.name.now c.args.children.now c.in-Err.field-0 (by_name (order_rises c.args.name.now c.args.children.now c.requires))
