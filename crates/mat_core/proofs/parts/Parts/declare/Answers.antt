use Rattle.std.proofs.Common.{sym, ◌∙◌}
use Rattle.mat_core.proofs.DeclareLemmas.{stamp_none}
use Rattle.mat_core.proofs.parts.Parts.declare.Goals as goal

pub put-requires : goal.put-requires
put-requires g c = record {
  rules = c.requires.rules;
  room = c.requires.room;
  new = stamp_none c.args.path c.args.tree c.args.self.now.rows (sym c.equal_row.ensures ∙ c.in-None.is);
}
