use Rattle.std.proofs.Common.{refl, sym, ◌∙◌, ap, subst}
use Rattle.mat_model.specs.declared.answers.Reply.TheVariants as reply
use Rattle.mat_model.specs.declared.requests.Asked.TheVariants as asked
use Rattle.mat_core.specs.Declaring.{full_nodes}
use Rattle.mat_core.specs.Served.{Serves}
use Rattle.mat_core.proofs.DeclareLemmas.{has_nodes, nodes_full, refused_serves, tree_declaring, tree_refused}
use Rattle.mat_core.proofs.parts.Parts.serve_declare.Goals as goal

pub returns-in-Some : goal.returns-in-Some
returns-in-Some g c =
    nodes_full c.args.number c.nodes-nodes.result (asked.Declare c.args.command c.args.path c.args.tree) c.in-Some.limit c.args.self.now refl
    (λ said book. sym c.nodes-nodes.ensures) (λ said. refl) (sym c.full_nodes.ensures ∙ c.in-Some.is)

pub count_nodes-requires : goal.count_nodes-requires
count_nodes-requires g c = (has_nodes c.args.self.now c.nodes-nodes.result (sym c.full_nodes.ensures ∙ c.in_default.is)).nodes_fit

pub returns-then-not-is_live : goal.returns-then-not-is_live
returns-then-not-is_live g c =
    subst (λ new. Serves c.args.number (asked.Declare c.args.command c.args.path c.args.tree) reply.NotLive c.args.self.now new) (sym c.count_nodes.ensures)
    (refused_serves c.args.number c.nodes-nodes.result _ (asked.Declare c.args.command c.args.path c.args.tree) c.args.self.now
    (sym c.full_nodes.ensures ∙ c.in_default.is) (λ said book. sym c.nodes-nodes.ensures) (λ said. refl)
    (λ context. tree_refused c.args.number c.args.command c.args.path c.args.tree c.args.self.now context (sym c.is_live.ensures ∙ c.if-not-is_live.true)) refl)

pub declare-requires : goal.declare-requires
declare-requires g c = record {
  rules = c.requires;
  room = ap (full_nodes c.args.self.now) (sym c.nodes-nodes.ensures) ∙ sym c.full_nodes.ensures ∙ c.in_default.is;
}

pub returns : goal.returns
returns g c =
    c.declare.ensures (asked.Declare c.args.command c.args.path c.args.tree)
    (tree_declaring c.args.number c.args.command c.args.path c.args.tree c.args.self.now (sym c.is_live.ensures ∙ c.if-not-is_live.false))
