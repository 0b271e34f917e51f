use Rattle.std.proofs.Common.{◌≡◌, ◌++◌, ◌∷◌, [], ◌∙◌, ap, sym, true}
use Rattle.std.proofs.lemmas.Result.{err_from_is_err_and}
use Rattle.mat_tree.specs.declared.flat.What.TheVariants as what
use Rattle.row_bytes.specs.Reading.{is_begun, nodes_at, rooted}
use Rattle.row_bytes.proofs.Fronts.{begun_more}
use Rattle.row_bytes.proofs.NodesBack.{goes_on, is_done, node_comes, stops}
use Rattle.row_bytes.proofs.nodes.read_nodes.Goals as goal

pub read_node-requires : goal.read_node-requires
read_node-requires c = rw c.as_slice.ensures.value c.loop.invariant.begun

pub returns-in_err-node : goal.returns-in_err-node
returns-in_err-node c =
    let p = err_from_is_err_and c.from_residual-in_err-node.result c.from_residual-in_err-node.ensures.1 in
    rw (p.1, p.2)
    (stops c.in_err-node.field-0.0 c.args.count c.loop.counter c.args.end c.loop.nodes.items c.loop.rest.now (nodes_at c.args.count (rooted what.Dir) c.args.end c.args.bytes.now)
    c.loop-test.true (rw c.as_slice.ensures.value at c.in_err-node.ensures) c.loop.invariant.read)

pub loop-preserved : goal.loop-preserved
loop-preserved c =
    let told = rw c.as_slice.ensures.value at c.in_ok-node.ensures in
    let node = c.in_ok-node.node in
    let nodes = c.loop.nodes.items in
    rw c.in_ok-push.ensures.items
    (record {
      read = goes_on c.args.count c.loop.counter c.args.end nodes c.loop.rest.now node c.in_ok-node.behind.now
          (nodes_at c.args.count (rooted what.Dir) c.args.end c.args.bytes.now) c.loop-test.true told c.loop.invariant.read;
      begun = begun_more nodes node c.loop.invariant.begun (node_comes nodes c.args.end c.loop.rest.now (node, c.in_ok-node.behind.now) told);
    })

pub returns : goal.returns
returns c =
    is_done c.args.count c.loop.counter c.args.end c.loop.nodes.items c.loop.rest.now (nodes_at c.args.count (rooted what.Dir) c.args.end c.args.bytes.now)
    c.loop-test.false c.loop.invariant.read
