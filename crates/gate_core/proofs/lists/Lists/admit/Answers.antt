use Rattle.std.proofs.Common.{sym, ◌∙◌, arith}
use Rattle.gate_core.specs.Lists.{admit_all, gate_in}
use Rattle.gate_core.proofs.Admitting.{one_counted, one_fewer}
use Rattle.gate_core.proofs.lists.Lists.admit.Goals as goal

pub admitting-preserved : goal.admitting-preserved
admitting-preserved c =
    let does = sym c.admit_first.ensures.yes_or_no ∙ c.admitting-test.true in
    let fewer = one_fewer (gate_in c.admitting.self) (gate_in c.admit_first.new.self) does c.admit_first.ensures.gate in
    let few = c.admitting.invariant.2 in (
      one_counted c.admitting.count (gate_in c.admitting.self) (gate_in c.admit_first.new.self) (admit_all (gate_in c.args.self.now)) does
          c.admit_first.ensures.gate c.admitting.invariant.0,
      c.admit_first.ensures.room,
      omega (arith, fewer, few),
    )
