use Rattle.std.proofs.Common.{◌≡◌, ℕ, List, length}
use Rattle.std.specs.BTreeMap.{get}
use Rattle.std.specs.List.{filter}
use Rattle.std.specs.Option.{option_map, option_or}
use Rattle.mat_path.specs.Names.{path_cmp}
use Rattle.region_port.specs.Entries.{is_later_under}
use Rattle.region_port.specs.Listing.{shown}
use Rattle.region_port.proofs.listing.nodes_below.Given as goal

-- what the map has so far, and what stands behind the last entry, show all
abbrev pub invariant-entries : goal.invariant-entries
invariant-entries g l = (rel : List (List ℕ)) →
    option_or (shown g.V.View.show l.path (filter (is_later_under l.path (option_map (λ path. path.now) l.last)) l.entries) rel) (get path_cmp l.nodes rel) ≡ shown g.V.View.show l.path l.entries rel

abbrev pub decreases-entries : goal.decreases-entries
decreases-entries g l = length (filter (is_later_under l.path (option_map (λ path. path.now) l.last)) l.entries)
