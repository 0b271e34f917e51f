use Rattle.std.proofs.Common.{List, ap, ◌++◌, ◌∙◌}
use Rattle.mat_tree.specs.declared.flat.Flat.{Flat}
use Rattle.script_lang.specs.declared.told.Said.TheVariants as said
use Rattle.buckd.specs.Texts.{said_line}
use Rattle.mat_tree.proofs.Joins.{on_ok}
use Rattle.buckd.proofs.Kept.{told-show}
use Rattle.buckd.proofs.daemon.Daemon.tell_show.Goals as goal

pub returns : goal.returns
returns c =
    on_ok c.push_said.result
    (λ text. told-show c.args.path.now c.args.self.now c.in_ok-nodes.nodes.items c.args.out.now.items c.push_said.new.out.items c.requires.kept
    c.in_ok-nodes.ensures.ascending c.in_ok-nodes.ensures.ok
    (text ∙ ap (λ (nodes : List Flat). c.args.out.now.items ++ said_line (said.Shown nodes)) c.of.ensures))
    c.push_said.ensures.ok
