use Rattle.std.proofs.Common.{◌≡◌, ◌++◌, ◌∙◌, ap, sym, rules}
use Rattle.std.specs.BTreeMap.{get}
use Rattle.std.specs.List.{filter}
use Rattle.std.specs.Option.{option_map, option_or}
use Rattle.std.specs.Prelude.{None, Some}
use Rattle.mat_path.proofs.PathLemmas.{prefix-append}
use Rattle.mat_path.specs.Names.{path_cmp}
use Rattle.region_port.specs.Entries.{is_later_under}
use Rattle.region_port.specs.Listing.{shown}
use Rattle.region_port.proofs.Shown.{option_or-none, shown_next}
use Rattle.region_port.proofs.Walks.{content_behind_under, content_under, fewer_left, no_next, under_next}
use Rattle.region_port.proofs.listing.nodes_below.Goals as goal

pub entries-init : goal.entries-init
entries-init g c rel =
    let show = g.V.View.show in
    let path = c.args.path.now in
    let all = c.args.entries.now in
    let none : get path_cmp c.new-nodes.result rel ≡ None = search (rules, c.new-nodes.ensures.empty) in
    ap (λ o. option_or (option_map show o) (get path_cmp c.new-nodes.result rel)) (content_under path all (path ++ rel) (prefix-append path rel))
    ∙ ap (option_or (shown show path all rel)) none ∙ option_or-none (shown show path all rel)

pub entries-smaller : goal.entries-smaller
entries-smaller g c =
    fewer_left _ _ _ (under_next c.args.entries.now c.is_in_order.ensures (option_map (λ path. path.now) c.entries.last) c.args.path.now c.in-Some.at.now c.in-Some.kept.now c.in-Some.ensures)

pub entries-preserved : goal.entries-preserved
entries-preserved g c rel =
    let show = g.V.View.show in
    let path = c.args.path.now in
    let at = c.in-Some.at.now in
    let all = c.args.entries.now in
    let left = filter (is_later_under path (Some at)) all in
    let old = get path_cmp c.entries.nodes rel in
    ap (option_or (shown show path left rel)) (c.in_ok-add_kept.ensures.ok rel)
    ∙ shown_next show path at c.in-Some.kept.now left rel old (content_behind_under path at all)
    ∙ ap (λ l. option_or (shown show path l rel) old) (sym (under_next all c.is_in_order.ensures (option_map (λ path. path.now) c.entries.last) path at c.in-Some.kept.now c.in-Some.ensures))
    ∙ c.entries.invariant rel

pub returns : goal.returns
returns g c = record {
  ok = λ rel.
      let path = c.args.path.now in
      let all = c.args.entries.now in
      let last = option_map (λ path. path.now) c.entries.last in
      sym (ap (λ l. option_or (shown g.V.View.show path l rel) (get path_cmp c.entries.nodes rel)) (no_next (is_later_under path last) all c.in_default.ensures)) ∙ c.entries.invariant rel;
}
