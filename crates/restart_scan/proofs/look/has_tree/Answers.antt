use Rattle.std.proofs.Common.{◌∙◌, rules}
use Rattle.restart_scan.proofs.LookLemmas.{files_shown, none_shown, unlike_shown}
use Rattle.restart_scan.proofs.look.has_tree.Goals as goal

pub returns-in_default-clause-tells : goal.returns-in_default-clause-tells
returns-in_default-clause-tells g c =
    none_shown (g.R.Region.part c.sync.new.region) (g.R.Region.part c.args.region.now) c.args.nodes.now c.in_ok-seen.field-0 c.in_ok-sync.ensures.part
    c.requires.tree c.in_ok-seen.ensures.shows (search rules)

pub returns-then-not-are_alike-clause-tells : goal.returns-then-not-are_alike-clause-tells
returns-then-not-are_alike-clause-tells g c =
    unlike_shown (g.R.Region.part c.sync.new.region) (g.R.Region.part c.args.region.now) c.args.nodes.now c.in_ok-seen.field-0 c.as_slice.result.now
    c.in_ok-sync.ensures.part c.requires.tree c.in_ok-seen.ensures.shows (search rules) (search rules)

pub returns-clause-tells : goal.returns-clause-tells
returns-clause-tells g c =
    files_shown (g.R.Region.part c.sync.new.region) (g.R.Region.part c.args.region.now) (g.R.Region.part c.list.new.region) c.args.nodes.now
    c.in_ok-seen.field-0 c.as_slice.result.now c.are_right.result c.in_ok-sync.ensures.part (c.in_ok-seen.ensures.part ∙ c.in_ok-sync.ensures.part)
    c.requires.tree c.in_ok-seen.ensures.shows (search rules) (search rules) c.are_right.ensures.has
