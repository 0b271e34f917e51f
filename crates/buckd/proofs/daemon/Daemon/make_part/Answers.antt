use Rattle.std.proofs.Common.{◌≡◌, List, None, Some, IfOk, find, sym, ap, subst, ◌∙◌}
use Rattle.mat_tree.specs.declared.flat.Flat.{Flat}
use Rattle.mat_model.specs.declared.book.Row.{Row}
use Rattle.mat_model.specs.Work.{is_declared}
use Rattle.write_plan.specs.declared.act.Act.{Act}
use Rattle.mat_model.specs.declared.entries.Task.TheVariants as task
use Rattle.buckd.specs.Daemon.{Makes, point_of}
use Rattle.buckd.specs.Run.{acts_of}
use Rattle.buckd.specs.Making.{is_write, make_acts}
use Rattle.buckd.proofs.PartLemmas.{Supplies, method_kept, part_made, supplies}
use Rattle.buckd.proofs.daemon.Daemon.make_part.Goals as goal

-- the row's bytes are at hand
at_hand : (c : goal.After-make_on_disk-arg-in-Some-get-1) →
    Supplies c.args.self.now c.args.path.now c.args.stamp c.in-Some.row.now c.in-Some-get.method.now
at_hand c =
    supplies c.args.self.now c.args.path.now c.args.stamp c.in-Some.row.now c.in-Some-get.method.now c.requires.kept
    (ap (λ (rows : List Row). find (is_declared c.args.path.now c.args.stamp) rows) (sym c.as_slice.ensures.value) ∙ sym c.in-Some.ensures)
    (sym c.in-Some-get.ensures.value)

pub make_on_disk-requires-clause-places : goal.make_on_disk-requires-clause-places
make_on_disk-requires-clause-places c = (at_hand c).places

pub make_on_disk-requires-clause-bytes : goal.make_on_disk-requires-clause-bytes
make_on_disk-requires-clause-bytes c = (at_hand c).bytes

pub returns-clause-made : goal.returns-clause-made
returns-clause-made c =
    let s = supplies c.args.self.now c.args.path.now c.args.stamp c.in-Some.row.now c.in-Some-get.method.now c.requires.kept
    (ap (λ (rows : List Row). find (is_declared c.args.path.now c.args.stamp) rows) (sym c.as_slice.ensures.value) ∙ sym c.in-Some.ensures)
    (sym c.in-Some-get.ensures.value) in
    let new = record c.args.self.now { disk = c.make_on_disk.new.disk; store = c.make_on_disk.new.store } in
    subst (λ (tree : List Flat). IfOk c.make_on_disk.result (λ ended. Makes c.args.path.now (acts_of (task.Make c.args.path.now c.args.stamp) (point_of c.args.self.now)) tree c.args.self.now new ended)) s.tree
    (subst (λ (acts : List Act). IfOk c.make_on_disk.result (λ ended. Makes c.args.path.now acts c.in-Some.row.now.tree c.args.self.now new ended)) s.acts
    (part_made c.make_on_disk.result c.args.path.now (make_acts (is_write c.in-Some-get.method.now) c.in-Some.row.now.tree) c.in-Some.row.now.tree
    c.args.self.now new c.make_on_disk.ensures.asks c.make_on_disk.ensures.outcome c.make_on_disk.ensures.shown c.make_on_disk.ensures.holds
    c.make_on_disk.ensures.synced c.make_on_disk.ensures.elsewhere))

pub unreachable-requires : goal.unreachable-requires
unreachable-requires c =
    let at = method_kept c.args.self.now c.args.path.now c.args.stamp c.in-Some.row.now c.requires.kept
    (ap (λ (rows : List Row). find (is_declared c.args.path.now c.args.stamp) rows) (sym c.as_slice.ensures.value) ∙ sym c.in-Some.ensures) in
    let none : None ≡ Some at.0 = c.in-None-get.ensures.value ∙ at.1 in cc
