use Rattle.std.proofs.Common.{◌≡◌, ◌+◌, ◌-◌, false, refl, arith}
use Rattle.buckd.specs.declared.session.Fed.TheVariants as fed
use Rattle.buckd.proofs.ReplayLemmas.{ends_alike, piece_ended, reading_cut, sound_alike, source_ended, source_failed, taken_more, taken_none, within_more, within_now, within_stays}
use Rattle.buckd.proofs.RunLemmas.{cause_after, no_cause}
use Rattle.buckd.proofs.replay.read_with.Goals as goal

pub chunks-init : goal.chunks-init
chunks-init g c = record {
  sound = c.requires.sound;
  small = c.requires.small;
  room = c.requires.room;
  taken = taken_none c.args.limit (g.S.Source.left c.args.input.now) (g.T.Sink.out c.args.output.now) c.args.session.now c.requires.start;
  source = omega arith;
  sink = omega arith;
}

pub chunks-preserved : goal.chunks-preserved
chunks-preserved g c =
    let fits = c.in-Taken.ensures.within in
    let less : (c.chunks.left - c.in-Taken.count) + c.in-Taken.count ≡ c.chunks.left = omega (arith, fits) in
    record {
      sound = c.in-Going.ensures.sound;
      small = c.in-Going.ensures.small;
      room = omega arith;
      taken = taken_more c.args.limit c.chunks.left _ c.in-Taken.count _ (g.S.Source.left c.chunks.input) _ _ (g.T.Sink.out c.chunks.output) _ c.chunks.session c.feed.new.self
          _ c.read_piece.new.buffer c.chunks.invariant.taken c.in-Taken.ensures.reads.2 refl c.in-Taken.ensures.reads.1 less c.in-Going.ensures.fed;
      source = (cause_after _ _ _ false c.chunks.invariant.source c.in-Taken.ensures.cause).later;
      sink = (cause_after _ _ _ _ c.chunks.invariant.sink c.in-Going.ensures.cause).later;
    }

pub returns-in-Ended-clause-ran : goal.returns-in-Ended-clause-ran
returns-in-Ended-clause-ran g c =
    piece_ended c.args.limit c.chunks.left c.in-Taken.count _ (g.S.Source.left c.chunks.input) _ _ (g.T.Sink.out c.chunks.output) _ c.chunks.session c.feed.new.self
    _ c.read_piece.new.buffer fed.Ended refl c.chunks.invariant.taken c.in-Taken.ensures.reads.2 refl c.in-Taken.ensures.reads.1 c.in-Taken.ensures.within c.in-Ended.ensures.fed

pub returns-in-Ended-clause-source : goal.returns-in-Ended-clause-source
returns-in-Ended-clause-source g c = cause_after _ _ _ false c.chunks.invariant.source c.in-Taken.ensures.cause

pub returns-in-Ended-clause-sink : goal.returns-in-Ended-clause-sink
returns-in-Ended-clause-sink g c = cause_after _ _ _ _ c.chunks.invariant.sink c.in-Ended.ensures.cause

pub returns-in-Failed-feed-clause-ran : goal.returns-in-Failed-feed-clause-ran
returns-in-Failed-feed-clause-ran g c =
    piece_ended c.args.limit c.chunks.left c.in-Taken.count _ (g.S.Source.left c.chunks.input) _ _ (g.T.Sink.out c.chunks.output) _ c.chunks.session c.feed.new.self
    _ c.read_piece.new.buffer fed.Failed refl c.chunks.invariant.taken c.in-Taken.ensures.reads.2 refl c.in-Taken.ensures.reads.1 c.in-Taken.ensures.within c.in-Failed-feed.ensures.fed

pub returns-in-Failed-feed-clause-source : goal.returns-in-Failed-feed-clause-source
returns-in-Failed-feed-clause-source g c = cause_after _ _ _ false c.chunks.invariant.source c.in-Taken.ensures.cause

pub returns-in-Failed-feed-clause-sink : goal.returns-in-Failed-feed-clause-sink
returns-in-Failed-feed-clause-sink g c = cause_after _ _ _ _ c.chunks.invariant.sink c.in-Failed-feed.ensures.cause

pub returns-in-NoMemory-clause-ran : goal.returns-in-NoMemory-clause-ran
returns-in-NoMemory-clause-ran g c =
    piece_ended c.args.limit c.chunks.left c.in-Taken.count _ (g.S.Source.left c.chunks.input) _ _ (g.T.Sink.out c.chunks.output) _ c.chunks.session c.feed.new.self
    _ c.read_piece.new.buffer fed.NoMemory refl c.chunks.invariant.taken c.in-Taken.ensures.reads.2 refl c.in-Taken.ensures.reads.1 c.in-Taken.ensures.within c.in-NoMemory.ensures.fed

pub returns-in-NoMemory-clause-source : goal.returns-in-NoMemory-clause-source
returns-in-NoMemory-clause-source g c = cause_after _ _ _ false c.chunks.invariant.source c.in-Taken.ensures.cause

pub returns-in-NoMemory-clause-sink : goal.returns-in-NoMemory-clause-sink
returns-in-NoMemory-clause-sink g c = cause_after _ _ _ _ c.chunks.invariant.sink c.in-NoMemory.ensures.cause

pub returns-in-End-clause-ran : goal.returns-in-End-clause-ran
returns-in-End-clause-ran g c = rw c.end_all.ensures
    (source_ended c.args.limit c.chunks.left _ (g.S.Source.left c.chunks.input) _ _ (g.T.Sink.out c.chunks.output) c.chunks.session c.feed_last.new.self c.feed_last.result
    c.chunks.invariant.taken c.chunks-test.true c.in-End.ensures.reads.0 c.feed_last.ensures.fed)

pub returns-in-End-clause-sound : goal.returns-in-End-clause-sound
returns-in-End-clause-sound g c = rw c.end_all.ensures (sound_alike c.feed_last.result c.feed_last.new.self.daemon c.feed_last.ensures.sound)

pub returns-in-End-clause-source : goal.returns-in-End-clause-source
returns-in-End-clause-source g c = rw (c.end_all.ensures, (ends_alike c.feed_last.result).0) (cause_after _ _ _ false c.chunks.invariant.source c.in-End.ensures.cause)

pub returns-in-End-clause-sink : goal.returns-in-End-clause-sink
returns-in-End-clause-sink g c = rw (c.end_all.ensures, (ends_alike c.feed_last.result).1, c.feed_last.ensures.fits) (no_cause _ _ c.chunks.invariant.sink)

pub returns-in-Failed-clause-ran : goal.returns-in-Failed-clause-ran
returns-in-Failed-clause-ran g c =
    source_failed c.args.limit c.chunks.left _ (g.S.Source.left c.chunks.input) _ _ _ c.chunks.session c.chunks.invariant.taken c.in-Failed.ensures.reads

pub returns-in-Failed-clause-source : goal.returns-in-Failed-clause-source
returns-in-Failed-clause-source g c = cause_after _ _ _ _ c.chunks.invariant.source c.in-Failed.ensures.cause

pub returns-in-Failed-clause-sink : goal.returns-in-Failed-clause-sink
returns-in-Failed-clause-sink g c = no_cause _ _ c.chunks.invariant.sink

pub returns-clause-ran : goal.returns-clause-ran
returns-clause-ran g c = reading_cut c.args.limit c.chunks.left _ _ _ _ c.chunks.session c.chunks.invariant.taken (omega arith)

pub returns-clause-source : goal.returns-clause-source
returns-clause-source g c = no_cause _ _ c.chunks.invariant.source

pub returns-clause-sink : goal.returns-clause-sink
returns-clause-sink g c = no_cause _ _ c.chunks.invariant.sink

pub returns-in-Ended-clause-taken : goal.returns-in-Ended-clause-taken
returns-in-Ended-clause-taken g c =
    within_more c.args.limit c.chunks.left c.in-Taken.count _ (g.S.Source.left c.chunks.input) _ _ (g.T.Sink.out c.chunks.output) c.chunks.session
    _ c.read_piece.new.buffer c.chunks.invariant.taken c.in-Taken.ensures.reads.2 refl c.in-Taken.ensures.reads.1 c.in-Taken.ensures.within

pub returns-in-Failed-feed-clause-taken : goal.returns-in-Failed-feed-clause-taken
returns-in-Failed-feed-clause-taken g c =
    within_more c.args.limit c.chunks.left c.in-Taken.count _ (g.S.Source.left c.chunks.input) _ _ (g.T.Sink.out c.chunks.output) c.chunks.session
    _ c.read_piece.new.buffer c.chunks.invariant.taken c.in-Taken.ensures.reads.2 refl c.in-Taken.ensures.reads.1 c.in-Taken.ensures.within

pub returns-in-NoMemory-clause-taken : goal.returns-in-NoMemory-clause-taken
returns-in-NoMemory-clause-taken g c =
    within_more c.args.limit c.chunks.left c.in-Taken.count _ (g.S.Source.left c.chunks.input) _ _ (g.T.Sink.out c.chunks.output) c.chunks.session
    _ c.read_piece.new.buffer c.chunks.invariant.taken c.in-Taken.ensures.reads.2 refl c.in-Taken.ensures.reads.1 c.in-Taken.ensures.within

pub returns-in-End-clause-taken : goal.returns-in-End-clause-taken
returns-in-End-clause-taken g c =
    within_stays c.args.limit c.chunks.left _ (g.S.Source.left c.chunks.input) _ _ (g.T.Sink.out c.chunks.output) c.chunks.session c.chunks.invariant.taken
    c.in-End.ensures.reads.1

pub returns-in-Failed-clause-taken : goal.returns-in-Failed-clause-taken
returns-in-Failed-clause-taken g c =
    within_stays c.args.limit c.chunks.left _ (g.S.Source.left c.chunks.input) _ _ (g.T.Sink.out c.chunks.output) c.chunks.session c.chunks.invariant.taken
    c.in-Failed.ensures.reads

pub returns-clause-taken : goal.returns-clause-taken
returns-clause-taken g c = within_now c.args.limit c.chunks.left _ _ _ (g.T.Sink.out c.chunks.output) c.chunks.session c.chunks.invariant.taken
