use Rattle.std.proofs.Common.{◌≡◌, ◌+◌, ◌≤◌, ◌++◌, vec_len, vec_capacity}
use Rattle.std.specs.List.{filter}
use Rattle.std.specs.VecDeque.{deque_len, deque_capacity}
use Rattle.region_port.specs.Entries.{is_within, is_outside}
use Rattle.region_port.specs.Lists.{all_of, count_of}
use Rattle.region_port.proofs.segments.Segments.take_out.Given as goal

-- what was parted and what is left make what there was, and there is room for it
abbrev pub invariant-segments : goal.invariant-segments
invariant-segments g l =
    (l.parted.within.items ++ filter (is_within g.T.Placed.place l.path) (all_of l.self.segments.items) ≡ filter (is_within g.T.Placed.place l.path) (all_of l.initial.self.segments.items))
    × (l.parted.others.items ++ filter (is_outside g.T.Placed.place l.path) (all_of l.self.segments.items) ≡ filter (is_outside g.T.Placed.place l.path) (all_of l.initial.self.segments.items))
    × (vec_len l.parted.within + (count_of l.self.segments.items + 1) ≤ vec_capacity l.parted.within)
    × (vec_len l.parted.others + (count_of l.self.segments.items + 1) ≤ vec_capacity l.parted.others)
    × (deque_len l.self.segments ≤ deque_len l.initial.self.segments)
    × (deque_capacity l.self.segments ≡ deque_capacity l.initial.self.segments)

abbrev pub decreases-segments : goal.decreases-segments
decreases-segments g l = deque_len l.self.segments
