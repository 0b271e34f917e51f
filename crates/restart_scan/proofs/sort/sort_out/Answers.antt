use Rattle.std.proofs.Common.{List, arith, map, rules, subst, sym}
use Rattle.std.proofs.lemmas.List.{map_push}
use Rattle.std.specs.Vec.Iter.{into_iter_items}
use Rattle.mat_model.specs.Kept.{KeptRow}
use Rattle.restart_scan.specs.Rows.{kept_list, kept_view}
use Rattle.restart_scan.specs.Sorting.{AreSettled, AreSorted}
use Rattle.restart_scan.proofs.SortLemmas.{apart_here, no_rougher_later, passes_on, settles_on, sorts_on, still_later}
use Rattle.restart_scan.proofs.sort.sort_out.Goals as goal

pub loop-one-preserved : goal.loop-one-preserved
loop-one-preserved g c =
    let some = c.loop-one.yielded in
    let one = c.in-Some.one in
    let start = g.D.Disk.content c.args.disk.now in
    let mid = g.D.Disk.content c.loop-one.disk in
    let before = g.D.Disk.rough c.loop-one.disk in
    let after = g.D.Disk.rough c.sort_one.new.disk in
    let whole = passes_on some (into_iter_items c.loop-one.one-iterator) (into_iter_items c.next.new.self) c.args.kept.items one c.loop-one.invariant.whole (search rules) in
    record {
      whole = whole;
      sorted = subst
          (λ (rows : List KeptRow). AreSorted start rows (kept_list c.sort_one.new.sorted.found) c.sort_one.new.sorted.lost.items)
          (sym (map_push kept_view some one))
          (sorts_on start mid (map kept_view some) (kept_view one) (kept_list c.loop-one.sorted.found) (kept_list c.sort_one.new.sorted.found)
          c.loop-one.sorted.lost.items c.sort_one.new.sorted.lost.items c.loop-one.invariant.content
          (apart_here c.args.kept.items some one (into_iter_items c.next.new.self) c.requires.apart whole) c.loop-one.invariant.sorted c.in_ok-sort_one.ensures.put);
      settled = subst (λ (rows : List KeptRow). AreSettled rows after) (sym (map_push kept_view some one))
          (settles_on (map kept_view some) (kept_view one) before after c.loop-one.invariant.settled c.sort_one.ensures.rough c.in_ok-sort_one.ensures.settled);
      content = still_later start mid (g.D.Disk.content c.sort_one.new.disk) c.loop-one.invariant.content c.sort_one.ensures.content;
      lent = c.sort_one.ensures.lent;
      rough = no_rougher_later (g.D.Disk.rough c.args.disk.now) before after c.loop-one.invariant.rough c.sort_one.ensures.rough;
      counts = omega (arith, c.loop-one.invariant.counts, c.sort_one.ensures.cause.later);
    }
