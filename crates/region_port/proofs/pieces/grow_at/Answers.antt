use Rattle.std.proofs.Common.{ap, sym, ◌∙◌, if◌then◌else◌}
use Rattle.std.specs.Option.{is_some, option_map}
use Rattle.std.specs.Prelude.{Some}
use Rattle.region_port.specs.Calls.{with_more}
use Rattle.region_port.specs.Entries.{content_of, node_at}
use Rattle.region_port.proofs.Content.{appended_nothing, changed_few, changed_more, changed_same, place_kept}
use Rattle.region_port.proofs.pieces.grow_at.Goals as goal

pub returns-in_default-clause-done : goal.returns-in_default-clause-done
returns-in_default-clause-done c e =
    ap content_of c.in_default.ensures.nodes
    ∙ appended_nothing c.args.path.now c.args.more.now (content_of c.args.nodes.now) (ap node_at (sym c.in_default.ensures.kept))

pub put_back-requires : goal.put_back-requires
put_back-requires c =
    ap is_some (place_kept c.args.path.now c.args.nodes.now c.lift.new.nodes c.in-Some.ensures.nodes)

pub returns-clause-done : goal.returns-clause-done
returns-clause-done c e =
    changed_more c.args.path.now c.in-Some.kept c.more_kept-kept.result.0 c.args.nodes.now c.lift.new.nodes c.put_back.new.nodes c.in-Some.ensures.nodes c.put_back.ensures c.args.more.now c.in-Some.ensures.kept
    (c.more_kept-kept.ensures ∙ ap (λ b. if b then option_map (with_more c.args.more.now) (node_at (Some c.in-Some.kept)) else node_at (Some c.in-Some.kept)) e)

pub returns-clause-same : goal.returns-clause-same
returns-clause-same c e =
    changed_same c.args.path.now c.in-Some.kept c.more_kept-kept.result.0 c.args.nodes.now c.lift.new.nodes c.put_back.new.nodes c.in-Some.ensures.nodes c.put_back.ensures c.in-Some.ensures.kept
    (c.more_kept-kept.ensures ∙ ap (λ b. if b then option_map (with_more c.args.more.now) (node_at (Some c.in-Some.kept)) else node_at (Some c.in-Some.kept)) e)

pub returns-clause-few : goal.returns-clause-few
returns-clause-few c =
    changed_few c.args.path.now c.in-Some.kept c.more_kept-kept.result.0 c.args.nodes.now c.lift.new.nodes c.put_back.new.nodes c.in-Some.ensures.nodes c.put_back.ensures c.in-Some.ensures.kept
