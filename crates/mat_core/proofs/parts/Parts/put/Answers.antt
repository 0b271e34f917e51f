use Rattle.std.proofs.Common.{◌∙◌, ap₂, sym}
use Rattle.row_book.specs.Stocks.{held_bytes}
use Rattle.mat_core.specs.Replacing.{full_replaced}
use Rattle.mat_core.proofs.DeclareLemmas.{has_nodes, put_full, put_hold_full}
use Rattle.mat_core.proofs.parts.Parts.put.Goals as goal

pub returns-in-Some : goal.returns-in-Some
returns-in-Some g c request is =
    put_full c.args.number c.args.command c.args.path c.args.tree c.args.method request c.args.self.now is c.requires.rules c.requires.new
    (has_nodes c.args.self.now _ c.requires.room) c.in-Some.limit
    (sym (c.full_replace.ensures
    ∙ ap₂ (λ fall bytes. full_replaced c.args.self.now.base.limits c.args.self.now.paths (held_bytes c.args.self.now.rows) fall bytes) c.fall_at-fall.ensures
    c.held_by.ensures)
    ∙ c.in-Some.is)

pub returns-in-Some-full_grant : goal.returns-in-Some-full_grant
returns-in-Some-full_grant g c request is =
    put_hold_full c.args.number c.args.command c.args.path c.args.tree c.args.method request c.args.self.now is c.requires.rules c.requires.new
    (has_nodes c.args.self.now _ c.requires.room) c.in-Some-full_grant.limit
    (sym (c.full_replace.ensures
    ∙ ap₂ (λ fall bytes. full_replaced c.args.self.now.base.limits c.args.self.now.paths (held_bytes c.args.self.now.rows) fall bytes) c.fall_at-fall.ensures
    c.held_by.ensures)
    ∙ c.in_default.is)
    (sym c.full_grant.ensures ∙ c.in-Some-full_grant.is)
