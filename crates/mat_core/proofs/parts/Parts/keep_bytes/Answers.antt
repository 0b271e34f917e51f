use Rattle.std.proofs.Common.{◌∙◌, ◌+◌, ap, subst, sym}
use Rattle.mat_model.specs.declared.answers.Reply.TheVariants as reply
use Rattle.mat_core.specs.Served.{Serves}
use Rattle.mat_core.proofs.DeclareLemmas.{has_nodes, nodes_still_fit}
use Rattle.mat_core.proofs.ServeLemmas.{unchanged_serves}
use Rattle.mat_core.proofs.WriteLemmas.{lying_stock, write_few, write_full, write_held_full, write_serves}
use Rattle.mat_core.proofs.parts.Parts.keep_bytes.Goals as goal

pub returns-then-full_bytes : goal.returns-then-full_bytes
returns-then-full_bytes g c request is =
    let (stock, found, told) = lying_stock c.args.path.now c.args.tree.now c.args.lying c.args.self.now.rows c.requires.found in
    write_held_full c.args.number c.args.command c.args.path.now c.args.tree.now c.args.method c.args.lying stock request c.args.self.now is c.requires.rules found
    told (has_nodes c.args.self.now _ c.requires.room) (sym c.full_bytes.ensures ∙ c.if-full_bytes.true)

pub returns-in-Some : goal.returns-in-Some
returns-in-Some g c request is =
    let (stock, found, told) = lying_stock c.args.path.now c.args.tree.now c.args.lying c.args.self.now.rows c.requires.found in
    write_full c.args.number c.args.command c.args.path.now c.args.tree.now c.args.method c.args.lying stock request c.args.self.now is c.requires.rules found
    told (has_nodes c.args.self.now _ c.requires.room) c.in-Some.limit (sym c.full_bytes.ensures ∙ c.if-full_bytes.false)
    (sym c.full_grant.ensures ∙ c.in-Some.is)

pub count_nodes-requires : goal.count_nodes-requires
count_nodes-requires g c =
    nodes_still_fit c.args.self.now c.grant.new.self _ _ (has_nodes c.args.self.now _ c.requires.room) c.in-Ok.ensures.granted.beside.base
    c.in-Ok.ensures.granted.nodes c.nodes.ensures

pub take_method-requires : goal.take_method-requires
take_method-requires g c =
    let (stock, found, told) = lying_stock c.args.path.now c.args.tree.now c.args.lying c.args.self.now.rows c.requires.found in
    record {
      few = write_few c.args.number c.args.command c.args.path.now c.args.tree.now c.args.method c.args.lying stock c.args.self.now c.grant.new.self
          c.requires.rules found told c.requires.holds (sym c.full_bytes.ensures ∙ c.if-full_bytes.false) c.in-Ok.ensures.granted;
    }

pub returns : goal.returns
returns g c request is =
    let (stock, found, told) = lying_stock c.args.path.now c.args.tree.now c.args.lying c.args.self.now.rows c.requires.found in
    subst (λ new. Serves c.args.number request (reply.Kept c.args.lying.stamp) c.args.self.now new) (sym c.count_nodes.ensures)
    (write_serves c.args.number c.args.command c.args.path.now c.args.tree.now c.args.method c.args.lying stock request c.args.self.now is c.requires.rules found
    told (has_nodes c.args.self.now _ c.requires.room) c.grant.new.self c.take_method.new.self _ (sym c.full_bytes.ensures ∙ c.if-full_bytes.false)
    (sym c.full_grant.ensures ∙ c.in_default.is) c.in-Ok.ensures.granted c.take_method.ensures.stocks
    (ap (λ n. c.grant.new.self.nodes + n) c.nodes.ensures))

pub returns-in_default-grant : goal.returns-in_default-grant
returns-in_default-grant g c request is =
    unchanged_serves c.args.number request c.args.self.now c.grant.new.self c.in_default-grant.ensures.wants
