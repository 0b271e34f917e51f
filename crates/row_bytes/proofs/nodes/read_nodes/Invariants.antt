use Rattle.std.proofs.Common.{◌≡◌, ◌-◌, true}
use Rattle.mat_tree.specs.declared.flat.What.TheVariants as what
use Rattle.row_bytes.specs.Reading.{is_begun, nodes_at, rooted}
use Rattle.row_bytes.proofs.nodes.read_nodes.Given as goal

abbrev pub invariant-loop : goal.invariant-loop
invariant-loop l = record {
  read : nodes_at (l.count - l.counter) l.nodes.items l.end l.rest ≡ nodes_at l.count (rooted what.Dir) l.end l.bytes;
  begun : is_begun l.nodes.items ≡ true;
}
