use Rattle.std.proofs.Common.{ℕ, List, sym, subst}
use Rattle.reapi_dir.specs.Grammar.{Spells}
use Rattle.reapi_dir.specs.SumMessage.{children_message_of}
use Rattle.reapi_dir.proofs.SumMessageBack.{sum_spells}
use Rattle.reapi_dir.proofs.sum_laws.read_children.Goals as goal

pub returns-clause-children : goal.returns-clause-children
returns-clause-children c = λ nodes tree known at_dir is.
    c.read_dir.ensures.whole (children_message_of nodes)
    (subst (λ (bytes : List ℕ). Spells bytes (children_message_of nodes)) (sym is) (sum_spells nodes tree known))
