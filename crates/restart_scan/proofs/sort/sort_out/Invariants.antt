use Rattle.std.proofs.Common.{◌≡◌, ◌≤◌, ◌++◌, [], map}
use Rattle.std.specs.Vec.Iter.{into_iter_items}
use Rattle.restart_scan.specs.Looks.{HasStill, IsNoRougher}
use Rattle.restart_scan.specs.Rows.{kept_list, kept_view}
use Rattle.restart_scan.specs.Sorting.{AreSettled, AreSorted}
use Rattle.restart_scan.proofs.sort.sort_out.Given as goal

-- the rows so far are sorted by what the disk had at first, which it still has
abbrev pub invariant-loop-one : goal.invariant-loop-one
invariant-loop-one g l = record {
  whole : l.yielded ++ into_iter_items l.one-iterator ≡ l.fn.kept.items;
  sorted : AreSorted (g.D.Disk.content l.initial.disk) (map kept_view l.yielded) (kept_list l.sorted.found) l.sorted.lost.items;
  settled : AreSettled (map kept_view l.yielded) (g.D.Disk.rough l.disk);
  content : HasStill (g.D.Disk.content l.initial.disk) (g.D.Disk.content l.disk);
  lent : g.D.Disk.lent l.disk ≡ [];
  rough : IsNoRougher (g.D.Disk.rough l.initial.disk) (g.D.Disk.rough l.disk);
  counts : g.D.Disk.fault_count l.initial.disk ≤ g.D.Disk.fault_count l.disk;
}
