use Rattle.std.proofs.Common.{arith}
use Rattle.reapi_dir.proofs.Appends.{group_more, group_last}
use Rattle.reapi_dir.proofs.varint.push_varint.Goals as goal

pub groups-preserved : goal.groups-preserved
groups-preserved c =
    group_more c.args.out.now.items c.groups.out.items c.push.new.self.items c.args.number c.groups.rest (omega arith) c.groups-test.true
    c.in_ok-push.ensures.items c.groups.invariant

pub returns : goal.returns
returns c =
    group_last c.args.out.now.items c.groups.out.items c.push-2.new.self.items c.args.number c.groups.rest c.groups-test.false
    c.in_ok-push-2.ensures.items c.groups.invariant
