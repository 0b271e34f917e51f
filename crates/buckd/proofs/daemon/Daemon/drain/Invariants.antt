use Rattle.std.proofs.Common.{◌≡◌, ◌-◌}
use Rattle.buckd.specs.Daemon.{scene_of}
use Rattle.buckd.specs.Run.{drain, makes}
use Rattle.buckd.specs.Sound.{IsReady}
use Rattle.buckd.proofs.daemon.Daemon.drain.Given as goal

-- the makes that are left lead to where the drain does
abbrev pub invariant-loop-done : goal.invariant-loop-done
invariant-loop-done l =
    (makes (l.count - l.done) (scene_of l.self) ≡ drain (scene_of l.initial.self)) × IsReady l.self
