use Rattle.std.proofs.Common.{refl}
use Rattle.buckd.proofs.Kept.{kept-served, kept-used}
use Rattle.buckd.specs.declared.daemon.Daemon.{Daemon}
use Rattle.buckd.proofs.daemon.Daemon.ensure.Goals as goal

pub returns-in_ok-at-in-Some-clause-kept : goal.returns-in_ok-at-in-Some-clause-kept
returns-in_ok-at-in-Some-clause-kept c =
    let noted : Daemon = record c.args.self.now { rows = c.note_use.new.rows } in
    kept-served c.grant.result _ noted c.grant.new.self c.grant.ensures.served c.grant.ensures.same
    (kept-used c.in_ok-at-in-Some.at 0 c.args.self.now noted c.requires c.note_use.ensures refl refl refl refl refl)
