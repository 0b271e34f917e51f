use Rattle.buckd.proofs.Kept.{on_ok_both, sound-told}
use Rattle.buckd.proofs.daemon.Daemon.tell.Goals as goal

pub returns-clause-sound : goal.returns-clause-sound
returns-clause-sound c =
    on_ok_both c.tell_line.result
    (sound-told c.args.line c.args.self.now c.tell_line.new.self c.args.out.now.items c.tell_line.new.out.items c.requires.sound)
    c.tell_line.ensures.told c.tell_line.ensures.sound
