use Rattle.std.proofs.Common.{◌∙◌, ap, sym, arith, length}
use Rattle.std.proofs.lemmas.List.{length-map}
use Rattle.std.specs.List.{list_any}
use Rattle.path_trie.specs.Edits.{edited_entry}
use Rattle.region_port.specs.Crashes.{is_above, left_where, torn_where}
use Rattle.region_port.specs.Entries.{content_of}
use Rattle.region_port.specs.Lists.{all_of}
use Rattle.region_port.proofs.Crashed.{content_torn}
use Rattle.region_port.proofs.crash.crash_nodes.Goals as goal

pub returns-in-Nothing-clause-content : goal.returns-in-Nothing-clause-content
returns-in-Nothing-clause-content c path =
    let rough = all_of c.args.rough.segments.items in
    c.clear_rough.ensures.content path ∙ ap (λ r. left_where (list_any (is_above path) rough) r (content_of c.args.nodes.now path)) (sym c.in-Nothing.is)

pub returns-in-Torn-clause-content : goal.returns-in-Torn-clause-content
returns-in-Torn-clause-content c path =
    let rough = all_of c.args.rough.segments.items in
    ap (λ l. content_of l path) c.edit.ensures ∙ content_torn rough c.args.nodes.now path
    ∙ ap (λ r. left_where (list_any (is_above path) rough) r (content_of c.args.nodes.now path)) (sym c.in-Torn.is)

pub returns-in-Torn-clause-few : goal.returns-in-Torn-clause-few
returns-in-Torn-clause-few c =
    let rough = all_of c.args.rough.segments.items in
    omega (arith, ap length c.edit.ensures, length-map c.args.nodes.now (edited_entry (torn_where rough)))
