use Rattle.std.proofs.Common.{◌≡◌}
use Rattle.region_port.specs.Listing.{flats_of}
use Rattle.region_port.proofs.listing.flat_of.Given as goal

-- the pairs so far
abbrev pub invariant-loop-rel : goal.invariant-loop-rel
invariant-loop-rel l = l.nodes.items ≡ flats_of l.yielded
