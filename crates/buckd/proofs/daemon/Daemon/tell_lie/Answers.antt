use Rattle.std.proofs.Common.{refl}
use Rattle.mat_tree.proofs.Joins.{on_ok}
use Rattle.buckd.proofs.StoreLemmas.{told-stored}
use Rattle.buckd.proofs.daemon.Daemon.tell_lie.Goals as goal

pub returns-clause-told : goal.returns-clause-told
returns-clause-told c =
    on_ok c.push_said.result
    (λ text. told-stored c.args.digest c.args.bytes.items c.args.self.now (record c.args.self.now { store = c.lie.new.self }) c.args.out.now.items
    c.push_said.new.out.items c.in_ok-lie.ensures.put c.lie.ensures.calls refl refl text)
    c.push_said.ensures.ok
