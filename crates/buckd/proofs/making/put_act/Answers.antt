use Rattle.std.proofs.Common.{◌≡◌, if◌then◌else◌, IfOk, sym, subst}
use Rattle.std.specs.Option.{is_some}
use Rattle.fetch_port.specs.Memory.{blobs_of}
use Rattle.region_port.specs.Memory.{part_of}
use Rattle.write_plan.specs.Carried.{carry_one}
use Rattle.write_plan.specs.declared.act.Act.{Act}
use Rattle.buckd.specs.Making.{supplied}
use Rattle.buckd.proofs.making.put_act.Goals as goal

pub returns-in-File-clause-part : goal.returns-in-File-clause-part
returns-in-File-clause-part c =
    subst (λ (one : Act). IfOk c.put_supplied.result (λ failure. part_of c.put_supplied.new.region ≡ (if is_some failure then part_of c.args.region.now
    else carry_one (supplied (blobs_of c.args.store.now) c.args.method.now) one (part_of c.args.region.now))))
    (sym c.in-File.is) c.put_supplied.ensures.part
