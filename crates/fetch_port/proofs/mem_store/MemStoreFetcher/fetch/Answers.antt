use Rattle.std.proofs.Common.{Some, subst}
use Rattle.fetch_port.specs.Fetches.{Blobs, Fetches}
use Rattle.fetch_port.proofs.mem_store.MemStoreFetcher.fetch.Goals as goal

pub returns-clause-got : goal.returns-clause-got
returns-clause-got c =
    subst (λ (blobs : Blobs). Fetches (Some (blobs c.args.digest.now)) c.args.digest.now.size c.find.result) c.begin.ensures.holds c.find.ensures.found
