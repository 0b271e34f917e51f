use Rattle.std.proofs.Common.{sym, subst}
use Rattle.buckd.specs.Following.{IsFollowingAt}
use Rattle.buckd.specs.Run.{Point}
use Rattle.buckd.proofs.FollowingRuns.{start-at}
use Rattle.buckd.proofs.StoreLemmas.{new-scene}
use Rattle.buckd.proofs.daemon.Daemon.new.Goals as goal

pub returns-clause-start : goal.returns-clause-start
returns-clause-start c = new-scene c.empty.result c.empty.ensures.point c.empty.ensures.blobs c.empty.ensures.asks c.empty.ensures.content

pub returns-clause-sound : goal.returns-clause-sound
returns-clause-sound c = record {
  ready = c.empty.ensures.ready;
  follows = subst (λ (point : Point). IsFollowingAt point) (sym c.empty.ensures.point) start-at;
}
