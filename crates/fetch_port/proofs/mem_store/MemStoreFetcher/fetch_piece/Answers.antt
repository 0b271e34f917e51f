use Rattle.std.proofs.Common.{Some, subst}
use Rattle.fetch_port.specs.Fetches.{Blobs, FetchesPiece}
use Rattle.fetch_port.proofs.mem_store.MemStoreFetcher.fetch_piece.Goals as goal

pub returns-clause-got : goal.returns-clause-got
returns-clause-got c =
    subst (λ (blobs : Blobs). FetchesPiece (Some (blobs c.args.digest.now)) c.args.at c.args.most c.find_piece.result) c.begin.ensures.holds c.find_piece.ensures.found
