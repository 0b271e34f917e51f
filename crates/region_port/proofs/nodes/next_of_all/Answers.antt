use Rattle.std.proofs.Common.{ap, ◌∙◌, sym}
use Rattle.std.specs.List.{find}
use Rattle.std.specs.Option.{option_map}
use Rattle.path_trie.specs.Entries.{both}
use Rattle.region_port.specs.Entries.{is_later}
use Rattle.region_port.proofs.Walks.{first_found}
use Rattle.region_port.proofs.nodes.next_of_all.Goals as goal

pub returns-in-None : goal.returns-in-None
returns-in-None c =
    let nodes = c.args.nodes.now in
    c.at.ensures ∙ ap (option_map both) (first_found nodes ∙ ap (λ last. find (is_later (option_map (λ path. path.now) last)) nodes) (sym c.in-None.is))
