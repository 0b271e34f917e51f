use Rattle.std.proofs.Common.{◌≤◌, length, refl, sym, ap, ◌∙◌, arith}
use Rattle.mat_tree.specs.declared.node.Node.TheVariants as variant
use Rattle.mat_tree.specs.Trees.{follows_all}
use Rattle.mat_tree.proofs.Folds.{below_dir_out}
use Rattle.mat_tree.proofs.Last.{grown_dir, grown_child, grown_more, follows_more, one_name, two_names, more_names}
use Rattle.mat_tree.proofs.build.+build.Goals as goal

pub with_last-with_last_child-requires : goal.with_last-with_last_child-requires
with_last-with_last_child-requires t c = (
  omega arith,
  (
    c.requires.below,
    ap (follows_all c.args.names.now) (sym (below_dir_out c.args.node c.in-Dir.children c.into_list.result.items c.in-Dir.is c.into_list.ensures)) ∙ c.requires.follows,
  ),
)

pub with_last-returns : goal.with_last-returns
with_last-returns t c =
    grown_dir c.args.node (variant.Dir c.of.result) c.in-Dir.children c.of.result c.into_list.result.items c.in_ok-list-in-Dir.list.items
    (record { rel = c.args.names.now; what = c.args.leaf.now }) c.in-Dir.is c.into_list.ensures refl c.of.ensures c.in_ok-list-in-Dir.ensures

pub with_last_child-with_last-requires : goal.with_last_child-with_last-requires
with_last_child-with_last-requires t c =
    let two : 2 ≤ length c.args.names.now = omega arith in
    let told = follows_more c.args.names.now c.args.list.items c.pop.new.self.items c.in-Some.field-0 two c.in-Some.ensures.items c.requires.follows in (
      omega (arith, ap length (more_names c.args.names.now two), ap length (two_names c.args.names.now two)),
      (omega (arith, ap length (more_names c.args.names.now two)), told),
    )

pub with_last_child-returns-in_ok-push-in-len1 : goal.with_last_child-returns-in_ok-push-in-len1
with_last_child-returns-in_ok-push-in-len1 t c =
    grown_child c.args.names.now c.name-item.result c.args.leaf.now c.args.list.items c.push.new.self.items
    (record { name = c.in_ok-name-in-len1.name; node = c.in_ok-node-in-len1.node })
    (one_name c.args.names.now c.name-item.result (omega arith) c.requires.below c.name-item.is)
    c.in_ok-name-in-len1.ensures.ok c.in_ok-node-in-len1.ensures.ok c.in_ok-push-in-len1.ensures.items

pub with_last_child-returns-in_ok-push-in-Some : goal.with_last_child-returns-in_ok-push-in-Some
with_last_child-returns-in_ok-push-in-Some t c =
    grown_more c.args.names.now c.args.leaf.now c.args.list.items c.pop.new.self.items c.push-in-Some.new.self.items c.in-Some.field-0
    (record { name = c.in-Some.field-0.name; node = c.in_ok-node-in-Some.node }) (omega arith) c.in-Some.ensures.items c.requires.follows
    c.in_ok-push-in-Some.ensures.items refl c.in_ok-node-in-Some.ensures
