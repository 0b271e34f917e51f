use Rattle.buckd.proofs.RunLemmas.{stands_kept, stands_part}
use Rattle.std.proofs.Common.{refl}
use Rattle.buckd.proofs.session.Session.keep_rest.Goals as goal

pub returns-in-Ok-clause-fed : goal.returns-in-Ok-clause-fed
returns-in-Ok-clause-fed c = λ read before out stands.
    stands_kept read c.args.bytes.now before out c.args.self.now _ c.requires.line refl refl c.in-Ok.ensures.kept stands

pub returns-in-Err-clause-fed : goal.returns-in-Err-clause-fed
returns-in-Err-clause-fed c = λ read before out stands. stands_part read c.args.bytes.now before out c.args.self.now stands
