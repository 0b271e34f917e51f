use Rattle.std.proofs.Common.{◌∙◌, take}
use Rattle.mat_core.proofs.DueLemmas.{next_reserved, some_reserved}
use Rattle.mat_core.proofs.flushing.reserve_all.Goals as goal

pub returns-in_err-reserve-clause-others : goal.returns-in_err-reserve-clause-others
returns-in_err-reserve-clause-others c =
    some_reserved c.args.uses.now (take c.loop-one.one-index c.args.uses.now) c.args.kept.now.reserved c.reserve.new.self.reserved
    (c.in_err-reserve.ensures.reserved ∙ c.loop-one.invariant.1)

pub loop-one-preserved : goal.loop-one-preserved
loop-one-preserved c = (
  c.in_ok-reserve.ensures.marks ∙ c.loop-one.invariant.0,
  next_reserved c.args.uses.now c.loop-one.one-index c.one-item.result c.args.kept.now.reserved c.loop-one.kept.reserved c.reserve.new.self.reserved
      c.loop-one-test.true c.one-item.is c.loop-one.invariant.1 c.in_ok-reserve.ensures.reserved,
)

pub returns-clause-others : goal.returns-clause-others
returns-clause-others c =
    some_reserved c.args.uses.now (take c.loop-one.one-index c.args.uses.now) c.args.kept.now.reserved c.loop-one.kept.reserved c.loop-one.invariant.1
