use Rattle.std.proofs.Common.{ap, sym, ◌∙◌}
use Rattle.mat_tree.specs.Trees.{ascends, what_at}
use Rattle.region_port.proofs.Shown.{ascends-flats, what_at-flats, IfOk-then}
use Rattle.region_port.proofs.listing.listed.Goals as goal

pub returns-clause-ascending : goal.returns-clause-ascending
returns-clause-ascending c = IfOk-then c.flat_of.result _ _ c.flat_of.ensures.ok (λ nodes p. ap (λ l. ascends l) p ∙ ascends-flats c.in_ok-nodes.nodes.entries c.flat_of.ensures.ordered)

pub returns-clause-ok : goal.returns-clause-ok
returns-clause-ok c = IfOk-then c.flat_of.result _ _ c.flat_of.ensures.ok (λ nodes p. λ rel. sym (c.in_ok-nodes.ensures.ok rel) ∙ sym (what_at-flats c.in_ok-nodes.nodes.entries rel) ∙ ap (λ l. what_at l rel) (sym p))
