use Rattle.std.proofs.Common.{◌≡◌, drop}
use Rattle.fetch_port.specs.Memory.{blobs_of}
use Rattle.buckd.proofs.CarryLemmas.{Leads, at}
use Rattle.buckd.proofs.making.carry_out.Given as goal

-- the acts that are left lead where all do
pub record Stands (l : goal.Live-loop-act) : Type 0 where
  pub place : l.region.place ≡ l.fn.region.place
  pub blobs : blobs_of l.store ≡ blobs_of l.fn.store
  pub leads : Leads (record { blobs = blobs_of l.fn.store; way = l.method; place = l.fn.region.place }) (drop l.act-index l.acts) (at l.region l.store) l.acts (at l.fn.region l.fn.store)

abbrev pub invariant-loop-act : goal.invariant-loop-act
invariant-loop-act l = Stands l
