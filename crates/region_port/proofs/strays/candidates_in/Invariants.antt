use Rattle.std.proofs.Common.{◌≡◌, ◌&&◌, ◌||◌, ℕ, List, length}
use Rattle.std.specs.BTreeSet.{contains}
use Rattle.std.specs.List.{filter}
use Rattle.std.specs.Option.{is_some, option_map}
use Rattle.mat_path.specs.Names.{path_cmp}
use Rattle.region_port.specs.Entries.{content_of, is_later}
use Rattle.region_port.specs.Strays.{is_clear}
use Rattle.region_port.proofs.strays.candidates_in.Given as goal

-- what was found so far, and what stands behind the last entry, are all candidates
abbrev pub invariant-entries : goal.invariant-entries
invariant-entries l = (path : List (List ℕ)) →
    ((is_some (content_of (filter (is_later (option_map (λ path. path.now) l.last)) l.entries) path) && is_clear l.known path) || contains path_cmp l.found path) ≡ (is_some (content_of l.entries path) && is_clear l.known path)

abbrev pub decreases-entries : goal.decreases-entries
decreases-entries l = length (filter (is_later (option_map (λ path. path.now) l.last)) l.entries)
