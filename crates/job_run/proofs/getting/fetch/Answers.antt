use Rattle.std.proofs.Common.{ℕ, Bool, List, sym, subst}
use Rattle.fetch_port.specs.Fetches.{GivesPiece, held_at}
use Rattle.mat_io.specs.Watches.{FailsSo}
use Rattle.job_run.specs.Pieces.{asked_for}
use Rattle.job_run.specs.Stages.{making_cost}
use Rattle.job_run.specs.declared.states.Doing.TheVariants as doing
use Rattle.job_run.specs.declared.states.Filling.TheVariants as filling
use Rattle.job_run.specs.declared.states.Source.TheVariants as source
use Rattle.job_run.specs.States.{failure_of}
use Rattle.mat_model.specs.declared.entries.Outcome.TheVariants as outcome
use Rattle.job_run.proofs.Gets.{file_among, judged_no_fault, stopped_goes, store_got}
use Rattle.job_run.proofs.getting.fetch.Goals as goal

pub returns-in-Bytes-clause-call : goal.returns-in-Bytes-clause-call
returns-in-Bytes-clause-call g c =
    let due = c.requires.at.1 in
    let judges = c.take_fetched.ensures.failure in
    record {
      later = c.fetch_piece.ensures.cause.later;
      why = store_got c.args.filing.digest c.args.reading (g.F.Fetcher.holds c.args.fetcher.now) (g.F.Fetcher.fault_count c.args.fetcher.now)
          (g.F.Fetcher.fault_count c.fetch_piece.new.self) due.given c.into_vec.result.items (failure_of c.take_fetched.result) due.has judges
          (subst (λ (l : List ℕ). GivesPiece (held_at (g.F.Fetcher.holds c.args.fetcher.now) c.args.filing.digest) c.args.reading.at (asked_for c.args.filing.digest.size c.args.reading.at) l)
          (sym c.into_vec.ensures)
          (subst (λ (n : ℕ). GivesPiece (held_at (g.F.Fetcher.holds c.args.fetcher.now) c.args.filing.digest) c.args.reading.at n c.in-Bytes.piece)
          c.asked_for-most.ensures c.in-Bytes.ensures.got.1));
      asks_so = c.fetch_piece.ensures.asks;
      watch = c.fetch_piece.ensures.watch;
      fails = subst (λ (b : Bool). FailsSo (g.F.Fetcher.watch c.args.fetcher.now) b)
          (sym (judged_no_fault c.args.filing.digest due.given c.into_vec.result.items (failure_of c.take_fetched.result) (judges due.given due.has)))
          c.in-Bytes.ensures.fails;
    }

pub returns-in-Absent-clause-goes : goal.returns-in-Absent-clause-goes
returns-in-Absent-clause-goes g c =
    stopped_goes c.args.region (outcome.Missing c.args.filing.digest) c.stop.result c.args.order.tree c.args.order.lent
    (making_cost c.args.order (doing.File c.args.filing (filling.Due source.Store c.args.reading))) c.stop.ensures.stopped
    (file_among (g.R.Region.place c.args.region) (g.R.Region.part c.args.region) c.args.order c.args.filing source.Store c.args.reading c.requires) (λ left. tt)
