use Rattle.std.proofs.Common.{◌&&◌, ap, ◌∙◌}
use Rattle.std.specs.Option.{is_some}
use Rattle.region_port.specs.Entries.{content_of}
use Rattle.region_port.proofs.Shown.{IfOk-then}
use Rattle.region_port.proofs.StrayLemmas.{contains_same, strays_found}
use Rattle.region_port.proofs.strays.strays_of.Goals as goal

pub returns : goal.returns
returns c =
    let paths = c.in_ok-paths.paths in
    IfOk-then c.topmost.result _ _ c.topmost.ensures (λ found gathered.
    strays_found c.args.known.now (content_of c.args.entries.now) paths.keys found.items (λ q. contains_same paths q ∙ c.in_ok-paths.ensures q ∙ ap (λ b. is_some (content_of c.args.entries.now q) && b) (c.in_ok-map.ensures q)) c.requires gathered)
