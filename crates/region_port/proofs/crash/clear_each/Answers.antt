use Rattle.std.proofs.Common.{◌∙◌, ap, sym, arith, cond, take}
use Rattle.std.specs.List.{list_any}
use Rattle.std.specs.Prelude.{None, length}
use Rattle.mat_path.specs.Names.{is_prefix}
use Rattle.path_trie.specs.Entries.{is_outside}
use Rattle.path_trie.proofs.Splices.{filter_few}
use Rattle.region_port.specs.Crashes.{is_above}
use Rattle.region_port.specs.Entries.{content_of}
use Rattle.region_port.proofs.Crashed.{any_taken, cleared_more, content_cleared}
use Rattle.region_port.proofs.crash.clear_each.Goals as goal

pub loop-path-preserved : goal.loop-path-preserved
loop-path-preserved c =
    let place = c.path-item.result in
    let paths = c.args.paths.now in
    let i = c.loop-path.path-index in
    let mid = c.loop-path.nodes in (
      λ q.
          cleared_more (content_of c.args.nodes.now q) (content_of mid q) (content_of c.clear_under.new.self q) (list_any (is_above q) (take i paths)) (is_prefix place q)
          (c.loop-path.invariant.0 q) (ap (λ l. content_of l q) c.clear_under.ensures ∙ content_cleared place mid q)
          ∙ ap (λ b. cond b None (content_of c.args.nodes.now q)) (sym (any_taken (is_above q) paths i place c.loop-path-test.true c.path-item.is)),
      omega (arith, filter_few (is_outside place) mid, ap length c.clear_under.ensures, c.loop-path.invariant.1),
    )
