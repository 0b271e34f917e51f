use Rattle.std.proofs.Common.{◌≡◌, ◌+◌, ◌≤◌, ◌++◌, vec_len, vec_capacity}
use Rattle.std.specs.List.{filter}
use Rattle.std.specs.VecDeque.{deque_len}
use Rattle.region_port.specs.Entries.{is_within, is_outside}
use Rattle.region_port.proofs.segments.Parted.add_all.Given as goal

-- what was added and what is left make what there was
abbrev pub invariant-items : goal.invariant-items
invariant-items g l =
    (l.self.within.items ++ filter (is_within g.T.Placed.place l.path) l.rest.items ≡ l.initial.self.within.items ++ filter (is_within g.T.Placed.place l.path) l.initial.rest.items)
    × (l.self.others.items ++ filter (is_outside g.T.Placed.place l.path) l.rest.items ≡ l.initial.self.others.items ++ filter (is_outside g.T.Placed.place l.path) l.initial.rest.items)
    × (vec_len l.self.within + deque_len l.rest ≤ vec_len l.initial.self.within + deque_len l.initial.rest)
    × (vec_len l.self.others + deque_len l.rest ≤ vec_len l.initial.self.others + deque_len l.initial.rest)
    × (vec_capacity l.self.within ≡ vec_capacity l.initial.self.within)
    × (vec_capacity l.self.others ≡ vec_capacity l.initial.self.others)

abbrev pub decreases-items : goal.decreases-items
decreases-items g l = deque_len l.rest
