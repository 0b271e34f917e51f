use Rattle.std.proofs.Common.{refl}
use Rattle.mat_model.specs.declared.requests.Asked.TheVariants as asked
use Rattle.buckd.proofs.Kept.{kept-after}
use Rattle.buckd.proofs.daemon.Daemon.serve_declare.Goals as goal

pub returns-clause-kept : goal.returns-clause-kept
returns-clause-kept c =
    kept-after (asked.Declare c.args.command c.args.path c.args.tree) c.args.self.now c.declare.new.self _ c.in_ok-reply.reply _ _
    c.in_ok-reply.ensures.served refl c.in_ok-reply.ensures.kept
    (record { state = refl; live = refl; rows = refl; methods = refl; disk = refl }) c.in_ok-enter_asked.ensures
