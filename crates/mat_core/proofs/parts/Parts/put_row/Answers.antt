use Rattle.std.proofs.Common.{◌≡◌, ◌∙◌, ◌+◌, ◌-◌, refl, sym, ap, subst, arith}
use Rattle.mat_model.specs.declared.answers.Reply.TheVariants as reply
use Rattle.mat_core.specs.Served.{Serves}
use Rattle.mat_core.proofs.DeclareLemmas.{fall_small, has_nodes, nodes_still_fit, put_few, put_row_serves, ruled_small}
use Rattle.mat_core.proofs.ServeLemmas.{unchanged_serves}
use Rattle.mat_core.proofs.parts.Parts.put_row.Goals as goal

pub overflow_add-spare : goal.overflow_add-spare
overflow_add-spare g c =
    let jobs = (ruled_small c.args.number c.args.self.now c.requires.rules).jobs in
    let rows = (fall_small c.args.number c.args.path c.args.fall c.args.self.now c.requires.rules c.requires.fall).1 in
    let len = c.len.ensures in omega (arith, jobs, rows, len)

pub replace-requires-clause-few : goal.replace-requires-clause-few
replace-requires-clause-few g c =
    put_few c.args.number c.args.path _ _ c.args.fall c.args.self.now c.requires.rules refl refl c.requires.fall c.requires.free

pub count_nodes-requires : goal.count_nodes-requires
count_nodes-requires g c =
    nodes_still_fit c.args.self.now c.replace.new.self _ _ (has_nodes c.args.self.now _ c.requires.room) c.in-Ok-replace.ensures.replaced.beside.base
    c.in-Ok-replace.ensures.replaced.nodes c.nodes-nodes.ensures

pub overflow_sub-self : goal.overflow_sub-self
overflow_sub-self g c =
    let same : c.count_nodes.new.self.paths ≡ c.args.self.now.paths = ap (λ p. p.paths) c.count_nodes.ensures ∙ c.in-Ok-replace.ensures.replaced.paths in
    let less = (fall_small c.args.number c.args.path c.args.fall c.args.self.now c.requires.rules c.requires.fall).0 in omega (arith, same, less)

pub returns : goal.returns
returns g c request is =
    let less = (fall_small c.args.number c.args.path c.args.fall c.args.self.now c.requires.rules c.requires.fall).0 in
    let same : c.replace.new.self.paths ≡ c.args.self.now.paths = c.in-Ok-replace.ensures.replaced.paths in
    let one = c.one_if.ensures in
    subst (λ new. Serves c.args.number request (reply.Declared c.args.number) c.args.self.now (record new { paths = new.paths + c.one_if.result - c.args.fall.unkept }))
    (sym c.count_nodes.ensures)
    (put_row_serves c.args.number c.args.command c.args.path c.args.tree c.args.method request c.args.self.now is c.requires.rules c.requires.new
    (has_nodes c.args.self.now _ c.requires.room) c.in-Ok-sum_of.sum c.args.fall c.replace.new.self _ _ c.in-Ok-sum_of.ensures.ok c.requires.fall c.requires.free
    c.requires.hold c.in-Ok-replace.ensures.replaced (ap (λ n. c.replace.new.self.nodes + n) c.nodes-nodes.ensures) (omega (arith, less, same, one)))

pub returns-in_default-replace : goal.returns-in_default-replace
returns-in_default-replace g c request is =
    unchanged_serves c.args.number request c.args.self.now c.replace.new.self c.in_default-replace.ensures.wants
