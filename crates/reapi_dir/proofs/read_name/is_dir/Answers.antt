use Rattle.std.proofs.Common.{◌∙◌, rules}
use Rattle.std.proofs.lemmas.Fn.{always_returns_same}
use Rattle.mat_path.specs.Names.{name_cmp}
use Rattle.reapi_dir.specs.Grammar.{dir_name}
use Rattle.reapi_dir.proofs.Search.{search_tells_name}
use Rattle.reapi_dir.proofs.read_name.is_dir.Goals as goal

pub returns : goal.returns
returns c =
    c.is_ok.ensures.value
    ∙ search_tells_name dir_name c.args.name.now c.args.dirs.now c.binary_search_by.result c.requires c.binary_search_by.ensures.bound
    (c.binary_search_by.ensures.position (λ node. name_cmp node.name c.args.name.now) (always_returns_same _ _ _ (λ x r f k. search rules)))
