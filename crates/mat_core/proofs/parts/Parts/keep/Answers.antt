use Rattle.std.proofs.Common.{◌∙◌, ◌+◌, ap, subst, sym}
use Rattle.mat_model.specs.declared.answers.Reply.TheVariants as reply
use Rattle.mat_core.specs.Served.{Serves}
use Rattle.mat_core.proofs.DeclareLemmas.{found_stamp, has_nodes, keep_full, keep_serves, nodes_still_fit}
use Rattle.mat_core.proofs.ServeLemmas.{unchanged_serves}
use Rattle.mat_core.proofs.parts.Parts.keep.Goals as goal

pub returns-in-Some : goal.returns-in-Some
returns-in-Some g c number request way is =
    let (row, found, same) = found_stamp c.args.path.now c.args.tree.now c.args.stamp c.args.self.now.rows c.requires.found in
    keep_full number c.args.command c.args.stamp c.args.path.now c.args.tree.now way row request c.args.self.now is found same
    (has_nodes c.args.self.now _ c.requires.room) c.in-Some.limit (sym c.full_grant.ensures ∙ c.in-Some.is)

pub count_nodes-requires : goal.count_nodes-requires
count_nodes-requires g c =
    nodes_still_fit c.args.self.now c.grant.new.self _ _ (has_nodes c.args.self.now _ c.requires.room) c.in-Ok.ensures.granted.beside.base
    c.in-Ok.ensures.granted.nodes c.nodes.ensures

pub returns : goal.returns
returns g c number request way is =
    let (row, found, same) = found_stamp c.args.path.now c.args.tree.now c.args.stamp c.args.self.now.rows c.requires.found in
    subst (λ new. Serves number request (reply.Kept c.args.stamp) c.args.self.now new) (sym c.count_nodes.ensures)
    (keep_serves number c.args.command c.args.stamp c.args.path.now c.args.tree.now way row request c.args.self.now is found same
    (has_nodes c.args.self.now _ c.requires.room) c.grant.new.self _ (sym c.full_grant.ensures ∙ c.in_default.is) c.in-Ok.ensures.granted
    (ap (λ n. c.grant.new.self.nodes + n) c.nodes.ensures))

pub returns-in_default-grant : goal.returns-in_default-grant
returns-in_default-grant g c number request way is =
    unchanged_serves number request c.args.self.now c.grant.new.self c.in_default-grant.ensures.wants
