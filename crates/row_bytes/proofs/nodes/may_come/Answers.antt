use Rattle.std.proofs.Common.{◌∙◌, sym}
use Rattle.row_bytes.proofs.Fronts.{may_come_is}
use Rattle.row_bytes.proofs.nodes.may_come.Goals as goal

pub returns-in-Some : goal.returns-in-Some
returns-in-Some c = c.may_follow.ensures ∙ may_come_is c.args.nodes.now c.in-Some.last.now c.args.rel.now c.requires (sym c.in-Some.ensures.value)
