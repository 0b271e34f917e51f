use Rattle.std.proofs.Common.{◌∙◌, rules, subst}
use Rattle.std.proofs.lemmas.List.{length-map}
use Rattle.restart_scan.specs.Rows.{kept_list, kept_view}
use Rattle.restart_scan.specs.Sorting.{AreSorted}
use Rattle.restart_scan.proofs.LostLemmas.{checked_beside, count_beside, ready_beside, strays_beside}
use Rattle.restart_scan.proofs.scanning.looked_on.Goals as goal

pub opened-requires : goal.opened-requires
opened-requires g c =
    let content = g.D.Disk.content c.strays_past.new.disk in
    let found = kept_list c.in_ok-found.field-0.found in
    let sorted : AreSorted content (kept_list c.args.kept) found c.of.result =
    subst (AreSorted content (kept_list c.args.kept) found) (search rules) c.in_ok-found.ensures.sorted in
    ready_beside (g.D.Disk.content c.args.disk.now) (kept_list c.args.kept) found c.of.result c.in_ok-strays.strays c.requires.ready sorted.stay
    sorted.gone.order (search rules)

pub returns-clause-checked : goal.returns-clause-checked
returns-clause-checked g c =
    let content = g.D.Disk.content c.strays_past.new.disk in
    let found = kept_list c.in_ok-found.field-0.found in
    let sorted : AreSorted content (kept_list c.args.kept) found c.of.result =
    subst (AreSorted content (kept_list c.args.kept) found) (search rules) c.in_ok-found.ensures.sorted in
    checked_beside content (g.D.Disk.content c.sort_out.new.disk) (g.D.Disk.rough c.sort_out.new.disk) (kept_list c.args.kept) found c.of.result
    c.in_ok-strays.strays c.in_ok-opened.field-0 c.in_ok-found.ensures.content sorted.stay sorted.gone.each c.in_ok-found.ensures.settled
    c.in_ok-opened.ensures.made

pub returns-clause-strays : goal.returns-clause-strays
returns-clause-strays g c =
    let content = g.D.Disk.content c.strays_past.new.disk in
    let found = kept_list c.in_ok-found.field-0.found in
    let sorted : AreSorted content (kept_list c.args.kept) found c.of.result =
    subst (AreSorted content (kept_list c.args.kept) found) (search rules) c.in_ok-found.ensures.sorted in
    strays_beside (g.D.Disk.content c.args.disk.now) (kept_list c.args.kept) found c.of.result c.in_ok-strays.strays c.in_ok-opened.field-0 sorted.stay
    sorted.gone.order c.in_ok-opened.ensures.made (search rules)

pub returns-clause-count : goal.returns-clause-count
returns-clause-count g c =
    let content = g.D.Disk.content c.strays_past.new.disk in
    let found = kept_list c.in_ok-found.field-0.found in
    let sorted : AreSorted content (kept_list c.args.kept) found c.of.result =
    subst (AreSorted content (kept_list c.args.kept) found) (search rules) c.in_ok-found.ensures.sorted in
    count_beside (kept_list c.args.kept) found c.of.result c.in_ok-strays.strays c.in_ok-opened.field-0 sorted.stay sorted.gone.order
    c.in_ok-opened.ensures.made
    ∙ length-map c.args.kept.items kept_view
