use Rattle.std.proofs.Common.{◌≡◌}
use Rattle.region_port.specs.Listing.{seen_of}
use Rattle.region_port.proofs.listing.seen_in.Given as goal

-- the pairs so far
abbrev pub invariant-loop-rel : goal.invariant-loop-rel
invariant-loop-rel l = l.nodes.items ≡ seen_of l.yielded
