use Rattle.std.proofs.Common.{rules}
use Rattle.std.proofs.lemmas.Fn.{filter_same}
use Rattle.kept_book.proofs.spot_map.keep_marked.Goals as goal

pub returns : goal.returns
returns c = filter_same _ _ _ (λ x b k h. search rules) _ _ c.retain.ensures.filtered
