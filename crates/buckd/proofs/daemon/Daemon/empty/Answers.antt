use Rattle.std.proofs.Common.{List, length, refl, sym, ap, subst}
use Rattle.std.specs.List.{list_all}
use Rattle.std.specs.BTreeMap.{get}
use Rattle.mat_path.specs.Names.{path_cmp}
use Rattle.mat_tree.specs.Parts.{Part}
use Rattle.mat_model.specs.declared.book.Row.{Row}
use Rattle.mat_model.specs.declared.book.Ticket.{Ticket}
use Rattle.mat_model.specs.OnDisk.{AreOnDisk}
use Rattle.mat_model.specs.Rows.{are_apart}
use Rattle.region_port.specs.Disks.{disk_content, disk_rough}
use Rattle.buckd.specs.Sound.{AreSupplied, AreSynced, is_answered_before}
use Rattle.buckd.proofs.daemon.Daemon.empty.Goals as goal

pub returns-clause-ready : goal.returns-clause-ready
returns-clause-ready c =
    let none = c.new-2.ensures.items in
    record {
      kept = record {
        apart = ap are_apart none;
        idle = λ alone. refl;
        supplied = subst (λ (rows : List Row). AreSupplied c.new-6.result.items (λ path. get path_cmp c.new-3.result path) rows) (sym none) tt;
        held = subst (λ (rows : List Row). AreOnDisk (disk_content c.new-7.result) rows) (sym none) tt;
        synced = subst (λ (rows : List Row). AreSynced (disk_rough c.new-7.result) rows) (sym none) tt;
        covered = λ place off. ap (λ (part : Part). part place) c.new-7.ensures.content;
        free = c.new-7.ensures.lent;
      };
      past = ap (λ (tickets : List Ticket). list_all (is_answered_before (length c.new-6.result.items)) tickets) c.new-5.ensures.items;
    }
