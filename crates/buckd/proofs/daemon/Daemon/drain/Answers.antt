use Rattle.std.proofs.Common.{◌≡◌, ℕ, ◌+◌, ◌-◌, sym, ap, ◌∙◌, arith}
use Rattle.buckd.specs.Daemon.{scene_of}
use Rattle.buckd.specs.Run.{makes}
use Rattle.buckd.proofs.Drained.{daemon-drained}
use Rattle.buckd.proofs.Kept.{drained-more, drained-none}
use Rattle.buckd.proofs.daemon.Daemon.drain.Goals as goal

pub loop-done-preserved : goal.loop-done-preserved
loop-done-preserved c =
    let left = c.open_count-count.result - (c.loop-done.done + 1) in
    let more : left + 1 ≡ c.open_count-count.result - c.loop-done.done = omega arith in (
      drained-more left (scene_of c.args.self.now) (scene_of c.loop-done.self) (scene_of c.make_first.new.self)
          (ap (λ (n : ℕ). makes n (scene_of c.loop-done.self)) more ∙ c.loop-done.invariant.0) c.in_ok-more.ensures.scene,
      c.in_ok-more.ensures.sound,
    )

pub returns-then-not-more-clause-scene : goal.returns-then-not-more-clause-scene
returns-then-not-more-clause-scene c =
    drained-none (c.open_count-count.result - c.loop-done.done) (scene_of c.args.self.now) (scene_of c.loop-done.self)
    (scene_of c.make_first.new.self) c.loop-done.invariant.0 (c.in_ok-more.ensures.none c.if-not-more.true) c.in_ok-more.ensures.scene

pub returns-then-not-more-clause-drained : goal.returns-then-not-more-clause-drained
returns-then-not-more-clause-drained c =
    daemon-drained c.args.self.now c.make_first.new.self
    (drained-none (c.open_count-count.result - c.loop-done.done) (scene_of c.args.self.now) (scene_of c.loop-done.self)
    (scene_of c.make_first.new.self) c.loop-done.invariant.0 (c.in_ok-more.ensures.none c.if-not-more.true) c.in_ok-more.ensures.scene)

pub returns-clause-drained : goal.returns-clause-drained
returns-clause-drained c =
    let over : c.open_count-count.result - c.loop-done.done ≡ 0 = omega (arith, c.loop-done-test.false) in
    daemon-drained c.args.self.now c.loop-done.self
    (sym (ap (λ (n : ℕ). makes n (scene_of c.loop-done.self)) over) ∙ c.loop-done.invariant.0)
