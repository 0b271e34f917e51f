-- How a run over a source ends, and what is left of it.
use Rattle.std.proofs.Common.{◌≡◌, ◌==◌, ℕ, ◌+◌, ◌<◌, ◌≤◌, Bool, true, false, List, [], ◌∷◌, ◌++◌, length, take, drop, Option, Some, None, le_trans, refl, sym, ◌∙◌, ap, subst, arith, append_assoc, length-append}
use Rattle.std.specs.Option.{is_some}
use Rattle.std.proofs.lemmas.List.{append-nil, length-take-le, take-append-drop, take-take, take_at}
use Rattle.mat_io.specs.Causes.{HasCause}
use Rattle.mat_io.specs.declared.answer.Got.{Got}
use Rattle.mat_io.specs.declared.answer.Got.TheVariants as got
use Rattle.mat_io.specs.Streams.{Grows, GrowsInPart, NoneLeft, Reads, Stays, TakesNext}
use Rattle.buckd.specs.declared.daemon.Daemon.{Daemon}
use Rattle.buckd.specs.declared.daemon.Run.{Run}
use Rattle.buckd.specs.declared.replay.Ended.{Ended}
use Rattle.buckd.specs.declared.replay.Ending.{Ending}
use Rattle.buckd.specs.declared.replay.Ending.TheVariants as ending
use Rattle.buckd.specs.declared.session.Fed.{Fed}
use Rattle.buckd.specs.declared.session.Fed.TheVariants as fed
use Rattle.buckd.specs.declared.session.Session.{Session}
use Rattle.buckd.specs.Daemon.{scene_of}
use Rattle.buckd.specs.Lines.{before_end, has_end, lines_of, script_lines, whole_lines}
use Rattle.buckd.specs.Run.{Scene}
use Rattle.buckd.specs.Streams.{TakesWithin, Feeds, FeedsLast, Flows, Follows, IsSoundAfter, Served, Stands, answered, fed_failed}
use Rattle.buckd.specs.Replay.{Answers, HasRun, IsAt, IsFinished, IsHeldBy, IsHome, IsFollowingWhere, IsSoundAtEnd, IsWithin, Leaves, LeavesAt, Ran, RanOver, Replays, ReplaysBytes, end_of, has_run, input_failed, is_lost, is_sink_fault, is_source_fault, is_status, output_failed, status_of}
use Rattle.buckd.proofs.CauseLemmas.{run-cause}
use Rattle.buckd.proofs.LineLemmas.{script_all, script_cut, script_ended, script_front}
use Rattle.buckd.proofs.RunLemmas.{Longer, broke_longer, flows_whole, is_going, longer_same, part_longer, served_broke, served_flows, served_same}

-- ---- reading

longer_script : (limit : ℕ) (read rest : List ℕ) → length read ≤ limit → Longer (whole_lines read) (script_lines limit (read ++ rest))
longer_script limit read rest fits = let next = script_front limit read rest fits in record { rest = next.0; parts = next.1 }

-- as a source was read so far
pub record Taken (limit left : ℕ) (all after before now : Option (List ℕ)) (s : Session) : Type 0 where
  pub read : List ℕ
  pub count : length read + left ≡ limit
  pub follows : Follows all read after
  pub stands : Stands read before now s

pub taken_none : (limit : ℕ) (all now : Option (List ℕ)) (s : Session) → Stands [] now now s → Taken limit limit all all now now s
taken_none limit all now s stands = record { read = []; count = omega arith; follows = by_all all; stands = stands }
  where
    by_all : (all : Option (List ℕ)) → Follows all [] all
    by_all None = tt
    by_all (Some bytes) = (bytes, refl, refl)

-- the next bytes of a source
pub follows_more : (all mid after : Option (List ℕ)) (read piece buffer : List ℕ) (n : ℕ) → Follows all read mid
    → TakesNext n mid after buffer → piece ≡ take n buffer → Follows all (read ++ piece) after
follows_more None mid after read piece buffer n follows takes same = tt
follows_more (Some bytes) mid after read piece buffer n (rest, parts, is) takes same =
    let next = subst (λ (o : Option (List ℕ)). TakesNext n o after buffer) is takes in (
      drop n rest,
      parts ∙ ap (λ (bs : List ℕ). read ++ bs) (sym (take-append-drop n rest)) ∙ sym (append_assoc read (take n rest) (drop n rest))
          ∙ ap (λ (bs : List ℕ). (read ++ bs) ++ drop n rest) (sym (same ∙ next.given)),
      next.rest,
    )

pub taken_more : (limit left less n : ℕ) (all mid after before out now : Option (List ℕ)) (old new : Session) (piece buffer : List ℕ)
    → (taken : Taken limit left all mid before out old) → TakesNext n mid after buffer → piece ≡ take n buffer → n ≤ length buffer → less + n ≡ left
    → ((read : List ℕ) (from : Option (List ℕ)) → Stands read from out old → Stands (read ++ piece) from now new)
    → Taken limit less all after before now new
taken_more limit left less n all mid after before out now old new piece buffer taken takes same fits count step = record {
  read = taken.read ++ piece;
  count =
      let long : length piece ≡ n = ap length same ∙ length-take-le n buffer fits in
      omega (arith, length-append taken.read piece, taken.count);
  follows = follows_more all mid after taken.read piece buffer n taken.follows takes same;
  stands = step taken.read before taken.stands;
}

-- a read into the front of a buffer
pub reads_wider : (before after : Option (List ℕ)) (front wide : List ℕ) (answer : Got) → take (length front) wide ≡ front → length front ≤ length wide
    → Reads before after front answer → Reads before after wide answer
reads_wider before after front wide (got.Taken n) is le (some, fits, takes) = (some, omega arith, by_told before takes)
  where
    by_told : (told : Option (List ℕ)) → TakesNext n told after front → TakesNext n told after wide
    by_told None t = tt
    by_told (Some bytes) t = record {
      within = t.within;
      given = sym (take-take n (length front) wide fits) ∙ ap (take n) is ∙ t.given;
      rest = t.rest;
    }
reads_wider before after front wide got.End is le reads = reads
reads_wider before after front wide got.Failed is le reads = reads

pub front_back : (front buffer : List ℕ) → take (length front) (front ++ drop (length front) buffer) ≡ front
front_back front buffer = take_at front (drop (length front) buffer) (length front) refl

pub reads_within : (before after : Option (List ℕ)) (front : List ℕ) (left : ℕ) (answer : Got) → length front ≤ left → Reads before after front answer → IsWithin left answer
reads_within before after front left (got.Taken n) le reads = le_trans reads.1 le
reads_within before after front left got.End le reads = tt
reads_within before after front left got.Failed le reads = tt

-- ---- how much is taken

-- bytes were taken within the limit, and one piece more
pub within_more : (limit left n : ℕ) (all mid after before out : Option (List ℕ)) (old : Session) (piece buffer : List ℕ)
    → Taken limit left all mid before out old → TakesNext n mid after buffer → piece ≡ take n buffer → n ≤ length buffer → n ≤ left
    → TakesWithin limit all after
within_more limit left n all mid after before out old piece buffer taken takes same fits below =
    let long : length piece ≡ n = ap length same ∙ length-take-le n buffer fits in (
      taken.read ++ piece,
      omega (arith, length-append taken.read piece, taken.count),
      follows_more all mid after taken.read piece buffer n taken.follows takes same,
    )

-- bytes were taken within the limit, and then none
pub within_stays : (limit left : ℕ) (all mid after before out : Option (List ℕ)) (old : Session) → Taken limit left all mid before out old
    → Stays mid after → TakesWithin limit all after
within_stays limit left all mid after before out old taken stays = (taken.read, omega (arith, taken.count), by_all all taken.follows)
  where
    by_all : (all : Option (List ℕ)) → Follows all taken.read mid → Follows all taken.read after
    by_all None follows = tt
    by_all (Some bytes) (rest, parts, is) = (rest, parts, subst (λ (o : Option (List ℕ)). Stays o after) is stays)

-- bytes were taken within the limit
pub within_now : (limit left : ℕ) (all mid before out : Option (List ℕ)) (old : Session) → Taken limit left all mid before out old → TakesWithin limit all mid
within_now limit left all mid before out old taken = (taken.read, omega (arith, taken.count), taken.follows)

-- none were taken
pub within_none : (limit : ℕ) (all : Option (List ℕ)) → TakesWithin limit all all
within_none limit None = ([], omega arith, tt)
within_none limit (Some bytes) = ([], omega arith, (bytes, refl, refl))

-- ---- the ends of reading

-- why a run ended behind a piece; one that goes on doesn't
abbrev pub piece_end : Fed → Ending
piece_end fed.Going = ending.Cut
piece_end fed.Ended = ending.End
piece_end fed.Failed = ending.SinkFault
piece_end fed.NoMemory = ending.NoMemory

over_piece : (limit : ℕ) (read rest : List ℕ) (after before now : Option (List ℕ)) (s : Session) (answer : Fed) → is_going answer ≡ false
    → length read ≤ limit → Feeds read before now s answer → RanOver limit (read ++ rest) after before now s (piece_end answer)
over_piece limit read rest after before now s fed.Going over fits feeds = absurd cc
over_piece limit read rest after before now s fed.Ended over fits feeds =
    let is = script_ended limit read rest fits feeds.ended in
    (is.0, served_same (whole_lines read) (script_lines limit (read ++ rest)) before now s is.1 feeds.served)
over_piece limit read rest after before now s fed.Failed over fits feeds =
    broke_longer (whole_lines read) (script_lines limit (read ++ rest)) before now s (longer_script limit read rest fits) feeds
over_piece limit read rest after before now s fed.NoMemory over fits feeds =
    part_longer (whole_lines read) (script_lines limit (read ++ rest)) before now (longer_script limit read rest fits) feeds

ran_piece : (limit : ℕ) (read : List ℕ) (all after before now : Option (List ℕ)) (s : Session) (answer : Fed) → is_going answer ≡ false
    → length read ≤ limit → Follows all read after → Feeds read before now s answer → Ran limit all after before now s (piece_end answer)
ran_piece limit read None after before now s answer over fits follows feeds = tt
ran_piece limit read (Some bytes) after before now s answer over fits (rest, parts, is) feeds =
    subst (λ (bs : List ℕ). RanOver limit bs after before now s (piece_end answer)) (sym parts) (over_piece limit read rest after before now s answer over fits feeds)

pub piece_ended : (limit left n : ℕ) (all mid after before out now : Option (List ℕ)) (old new : Session) (piece buffer : List ℕ) (answer : Fed)
    → is_going answer ≡ false → Taken limit left all mid before out old → TakesNext n mid after buffer → piece ≡ take n buffer → n ≤ length buffer → n ≤ left
    → ((read : List ℕ) (from : Option (List ℕ)) → Stands read from out old → Feeds (read ++ piece) from now new answer)
    → Ran limit all after before now new (piece_end answer)
piece_ended limit left n all mid after before out now old new piece buffer answer over taken takes same fits below step =
    let long : length piece ≡ n = ap length same ∙ length-take-le n buffer fits in
    ran_piece limit (taken.read ++ piece) all after before now new answer over
    (omega (arith, length-append taken.read piece, taken.count))
    (follows_more all mid after taken.read piece buffer n taken.follows takes same)
    (step taken.read before taken.stands)

-- the source has no more
over_all : (limit : ℕ) (read : List ℕ) (after before now : Option (List ℕ)) (s : Session) (answer : Fed) → length read < limit
    → FeedsLast (script_lines limit read) before now s answer → RanOver limit read after before now s (end_of answer)
over_all limit read after before now s fed.Going below feeds = (below, record { going = feeds.0; served = feeds.1 })
over_all limit read after before now s fed.Ended below feeds = (feeds.ended, feeds.served)
over_all limit read after before now s fed.Failed below feeds = feeds
over_all limit read after before now s fed.NoMemory below feeds = feeds

nothing : (rest : List ℕ) → length rest ≡ 0 → rest ≡ []
nothing [] e = refl
nothing (byte ∷ rest) e = absurd (omega arith)

ran_all : (limit : ℕ) (read : List ℕ) (all mid after before now : Option (List ℕ)) (s : Session) (answer : Fed) → length read < limit
    → Follows all read mid → NoneLeft mid → FeedsLast (lines_of read) before now s answer → Ran limit all after before now s (end_of answer)
ran_all limit read None mid after before now s answer below follows none feeds = tt
ran_all limit read (Some bytes) mid after before now s answer below (rest, parts, is) none feeds =
    let gone = nothing rest (subst NoneLeft is none) in
    subst (λ (bs : List ℕ). RanOver limit bs after before now s (end_of answer))
    (sym (parts ∙ ap (λ (bs : List ℕ). read ++ bs) gone ∙ append-nil read))
    (over_all limit read after before now s answer below
    (subst (λ (ls : List (List ℕ)). FeedsLast ls before now s answer) (sym (script_all limit read below)) feeds))

pub source_ended : (limit left : ℕ) (all mid after before now : Option (List ℕ)) (old new : Session) (answer : Fed)
    → Taken limit left all mid before now old → 0 < left → NoneLeft mid
    → ((read : List ℕ) (from out : Option (List ℕ)) → Stands read from out old → FeedsLast (lines_of read) from out new answer)
    → Ran limit all after before now new (end_of answer)
source_ended limit left all mid after before now old new answer taken some none step =
    ran_all limit taken.read all mid after before now new answer (omega (arith, taken.count)) taken.follows none (step taken.read before now taken.stands)

pub ends_alike : (answer : Fed) → (is_source_fault (end_of answer) ≡ false) × (is_sink_fault (end_of answer) ≡ fed_failed answer)
ends_alike fed.Going = (refl, refl)
ends_alike fed.Ended = (refl, refl)
ends_alike fed.Failed = (refl, refl)
ends_alike fed.NoMemory = (refl, refl)

pub sound_alike : (answer : Fed) (d : Daemon) → IsSoundAfter answer d → IsSoundAtEnd (end_of answer) d
sound_alike fed.Going d sound = sound
sound_alike fed.Ended d sound = sound
sound_alike fed.Failed d sound = sound
sound_alike fed.NoMemory d sound = tt

-- the source failed
pub source_failed : (limit left : ℕ) (all mid after before now : Option (List ℕ)) (s : Session)
    → Taken limit left all mid before now s → Stays mid after → Ran limit all after before now s ending.SourceFault
source_failed limit left all mid after before now s taken stays = by_all all taken.follows
  where
    by_all : (all : Option (List ℕ)) → Follows all taken.read mid → Ran limit all after before now s ending.SourceFault
    by_all None follows = tt
    by_all (Some bytes) (rest, parts, is) = record {
      taken = taken.read;
      rest = rest;
      parts = parts;
      fits = omega (arith, taken.count);
      left = subst (λ (o : Option (List ℕ)). Stays o after) is stays;
      going = taken.stands.going;
      served = taken.stands.served;
    }

-- the limit was read
pub reading_cut : (limit left : ℕ) (all after before now : Option (List ℕ)) (s : Session)
    → Taken limit left all after before now s → left ≤ 0 → Ran limit all after before now s ending.Cut
reading_cut limit left all after before now s taken none = by_all all taken.follows
  where
    by_all : (all : Option (List ℕ)) → Follows all taken.read after → Ran limit all after before now s ending.Cut
    by_all None follows = tt
    by_all (Some bytes) (rest, parts, is) =
        let same : length taken.read ≡ limit = omega (arith, taken.count) in
        let lines = ap (script_lines limit) parts ∙ script_cut limit taken.read rest same in (
          omega (arith, ap length parts, length-append taken.read rest),
          record {
            going = ap has_end lines ∙ taken.stands.going;
            served = subst (λ (ls : List (List ℕ)). Served ls before now s) (sym lines) taken.stands.served;
          },
        )

-- memory ran out before a byte was read
pub ran_nothing : (limit : ℕ) (all now : Option (List ℕ)) (s : Session) → Ran limit all all now now s ending.NoMemory
ran_nothing limit None now s = tt
ran_nothing limit (Some bytes) now s = (0, omega arith, by_out now)
  where
    by_out : (now : Option (List ℕ)) → Grows now now []
    by_out None = tt
    by_out (Some out) = ap Some (sym (append-nil out))

-- ---- the last text

-- some lines were served, and they begin those of the script
record Begun (lines : List (List ℕ)) (before now : Option (List ℕ)) (s : Session) : Type 0 where
  front : List (List ℕ)
  longer : Longer front lines
  served : Served front before now s

begun : (limit : ℕ) (bytes : List ℕ) (after before now : Option (List ℕ)) (s : Session) (e : Ending) → is_lost e ≡ false
    → RanOver limit bytes after before now s e → Begun (script_lines limit bytes) before now s
begun limit bytes after before now s ending.End kept ran =
    record { front = script_lines limit bytes; longer = longer_same (script_lines limit bytes); served = ran.1 }
begun limit bytes after before now s ending.NoMemory kept ran = absurd cc
begun limit bytes after before now s ending.SourceFault kept ran = record {
  front = whole_lines ran.taken;
  longer = subst (λ (bs : List ℕ). Longer (whole_lines ran.taken) (script_lines limit bs)) (sym ran.parts) (longer_script limit ran.taken ran.rest ran.fits);
  served = ran.served;
}
begun limit bytes after before now s ending.SinkFault kept ran = absurd cc
begun limit bytes after before now s ending.NoEnd kept ran =
    record { front = script_lines limit bytes; longer = longer_same (script_lines limit bytes); served = ran.1.served }
begun limit bytes after before now s ending.Cut kept ran =
    record { front = script_lines limit bytes; longer = longer_same (script_lines limit bytes); served = ran.1.served }

pub ran_failed : (limit : ℕ) (all after before mid now : Option (List ℕ)) (old new : Session) (e : Ending) → is_lost e ≡ false
    → scene_of new.daemon ≡ scene_of old.daemon
    → ((from : Option (List ℕ)) (text : List ℕ) → Flows from mid old.gathered.items text → GrowsInPart from now text)
    → Ran limit all after before mid old e → Ran limit all after before now new ending.SinkFault
ran_failed limit None after before mid now old new e kept scene flows ran = tt
ran_failed limit (Some bytes) after before mid now old new e kept scene flows ran =
    let is = begun limit bytes after before mid old e kept ran in
    broke_longer is.front (script_lines limit bytes) before now new is.longer
    (served_broke is.front before mid now old new scene is.served (flows before (answered is.front).text))

pub ran_memory : (limit : ℕ) (all after before mid now : Option (List ℕ)) (old new : Session) (e : Ending) → is_lost e ≡ false
    → ((from : Option (List ℕ)) (text : List ℕ) → Flows from mid old.gathered.items text → GrowsInPart from now text)
    → Ran limit all after before mid old e → Ran limit all after before now new ending.NoMemory
ran_memory limit None after before mid now old new e kept flows ran = tt
ran_memory limit (Some bytes) after before mid now old new e kept flows ran =
    let is = begun limit bytes after before mid old e kept ran in
    part_longer is.front (script_lines limit bytes) before now is.longer (flows before (answered is.front).text is.served.text)

over_flows : (limit : ℕ) (bytes : List ℕ) (after before mid now : Option (List ℕ)) (old new : Session) (e : Ending) → is_lost e ≡ false
    → ((lines : List (List ℕ)) → Served lines before mid old → Served lines before now new)
    → RanOver limit bytes after before mid old e → RanOver limit bytes after before now new e
over_flows limit bytes after before mid now old new ending.End kept step ran = (ran.0, step (script_lines limit bytes) ran.1)
over_flows limit bytes after before mid now old new ending.NoMemory kept step ran = absurd cc
over_flows limit bytes after before mid now old new ending.SourceFault kept step ran = record {
  taken = ran.taken;
  rest = ran.rest;
  parts = ran.parts;
  fits = ran.fits;
  left = ran.left;
  going = ran.going;
  served = step (whole_lines ran.taken) ran.served;
}
over_flows limit bytes after before mid now old new ending.SinkFault kept step ran = absurd cc
over_flows limit bytes after before mid now old new ending.NoEnd kept step ran =
    (ran.0, record { going = ran.1.going; served = step (script_lines limit bytes) ran.1.served })
over_flows limit bytes after before mid now old new ending.Cut kept step ran =
    (ran.0, record { going = ran.1.going; served = step (script_lines limit bytes) ran.1.served })

pub ran_flows : (limit : ℕ) (all after before mid now : Option (List ℕ)) (old new : Session) (e : Ending) → is_lost e ≡ false
    → scene_of new.daemon ≡ scene_of old.daemon
    → ((from : Option (List ℕ)) (text : List ℕ) → Flows from mid old.gathered.items text → Flows from now new.gathered.items text)
    → Ran limit all after before mid old e → Ran limit all after before now new e
ran_flows limit None after before mid now old new e kept scene flows ran = tt
ran_flows limit (Some bytes) after before mid now old new e kept scene flows ran =
    over_flows limit bytes after before mid now old new e kept
    (λ lines served. served_flows lines before mid now old new scene served (flows before (answered lines).text)) ran

-- ---- what is left

answers : (lines : List (List ℕ)) (before now : Option (List ℕ)) (s : Session) (ended : Ended) → s.gathered.items ≡ [] → HasRun (scene_of s.daemon) ended
    → Served lines before now s → Answers lines before now ended
answers lines before now s ended out has served =
    let at : IsAt (answered lines).scene ended = subst (λ (s : Scene). IsAt s ended) served.scene has.at in
    record {
      text = flows_whole before now s.gathered.items (answered lines).text out served.text;
      at = at;
      causes = run-cause (before_end lines) ended at;
    }

replays_bytes : (limit : ℕ) (bytes : List ℕ) (after before now : Option (List ℕ)) (s : Session) (e : Ending) (ended : Ended) → ended.status ≡ status_of e
    → LeavesAt e (scene_of s.daemon) ended → IsFinished e s.gathered.items → RanOver limit bytes after before now s e
    → ReplaysBytes limit bytes after before now ended
replays_bytes limit bytes after before now s ending.End ended is leaves out ran = record {
  at_end = λ h. (ran.0, answers (script_lines limit bytes) before now s ended out leaves ran.1);
  no_memory = λ h. absurd (omega arith);
  source_fault = λ h. absurd (omega arith);
  sink_fault = λ h. absurd (omega arith);
  no_end = λ h. absurd (omega arith);
  cut = λ h. absurd (omega arith);
}
replays_bytes limit bytes after before now s ending.NoMemory ended is leaves out ran = record {
  at_end = λ h. absurd (omega arith);
  no_memory = λ h. ran;
  source_fault = λ h. absurd (omega arith);
  sink_fault = λ h. absurd (omega arith);
  no_end = λ h. absurd (omega arith);
  cut = λ h. absurd (omega arith);
}
replays_bytes limit bytes after before now s ending.SourceFault ended is leaves out ran = record {
  at_end = λ h. absurd (omega arith);
  no_memory = λ h. absurd (omega arith);
  source_fault = λ h. record {
    taken = ran.taken;
    rest = ran.rest;
    parts = ran.parts;
    fits = ran.fits;
    left = ran.left;
    going = ran.going;
    answers = answers (whole_lines ran.taken) before now s ended out leaves ran.served;
  };
  sink_fault = λ h. absurd (omega arith);
  no_end = λ h. absurd (omega arith);
  cut = λ h. absurd (omega arith);
}
replays_bytes limit bytes after before now s ending.SinkFault ended is leaves out ran = record {
  at_end = λ h. absurd (omega arith);
  no_memory = λ h. absurd (omega arith);
  source_fault = λ h. absurd (omega arith);
  sink_fault = λ h. record {
    text = ran.text;
    front = ran.front;
    more = ran.more;
    parts = ran.parts;
    at = subst (λ (s : Scene). IsAt s ended) ran.scene leaves.at;
    causes = run-cause ran.front ended (subst (λ (s : Scene). IsAt s ended) ran.scene leaves.at);
  };
  no_end = λ h. absurd (omega arith);
  cut = λ h. absurd (omega arith);
}
replays_bytes limit bytes after before now s ending.NoEnd ended is leaves out ran = record {
  at_end = λ h. absurd (omega arith);
  no_memory = λ h. absurd (omega arith);
  source_fault = λ h. absurd (omega arith);
  sink_fault = λ h. absurd (omega arith);
  no_end = λ h. (ran.0, ran.1.going, answers (script_lines limit bytes) before now s ended out leaves ran.1.served);
  cut = λ h. absurd (omega arith);
}
replays_bytes limit bytes after before now s ending.Cut ended is leaves out ran = record {
  at_end = λ h. absurd (omega arith);
  no_memory = λ h. absurd (omega arith);
  source_fault = λ h. absurd (omega arith);
  sink_fault = λ h. absurd (omega arith);
  no_end = λ h. absurd (omega arith);
  cut = λ h. (ran.0, ran.1.going, answers (script_lines limit bytes) before now s ended out leaves ran.1.served);
}

pub replays : (limit : ℕ) (all after before now : Option (List ℕ)) (s : Session) (e : Ending) (ended : Ended) → ended.status ≡ status_of e
    → LeavesAt e (scene_of s.daemon) ended → IsFinished e s.gathered.items → Ran limit all after before now s e
    → Replays limit all after before now ended
replays limit None after before now s e ended is leaves out ran = tt
replays limit (Some bytes) after before now s e ended is leaves out ran = replays_bytes limit bytes after before now s e ended is leaves out ran

has_left : (ended : Ended) (scene : Scene) → has_run ended.status ≡ true → HasRun scene ended → Leaves ended
has_left ended scene is has = record { run = has.run ∙ sym is; disk = has.disk ∙ sym is; held = has.held; home = has.home; follows = has.follows }

pub leaves_by : (e : Ending) (scene : Scene) (ended : Ended) → ended.status ≡ status_of e → LeavesAt e scene ended → Leaves ended
leaves_by ending.End scene ended is leaves = has_left ended scene (ap has_run is) leaves
leaves_by ending.NoMemory scene ended is leaves = record {
  run = ap is_some leaves.run ∙ sym (ap has_run is);
  disk = ap is_some leaves.disk ∙ sym (ap has_run is);
  held = subst (λ (run : Option Run). IsHeldBy run ended.disk) (sym leaves.run) tt;
  home = subst IsHome (sym leaves.disk) tt;
  follows = subst IsFollowingWhere (sym leaves.run) tt;
}
leaves_by ending.SourceFault scene ended is leaves = has_left ended scene (ap has_run is) leaves
leaves_by ending.SinkFault scene ended is leaves = has_left ended scene (ap has_run is) leaves
leaves_by ending.NoEnd scene ended is leaves = has_left ended scene (ap has_run is) leaves
leaves_by ending.Cut scene ended is leaves = has_left ended scene (ap has_run is) leaves

pub status_by : (e : Ending) (status : ℕ) → status ≡ status_of e → is_status status ≡ true
status_by ending.End status is = ap is_status is
status_by ending.NoMemory status is = ap is_status is
status_by ending.SourceFault status is = ap is_status is
status_by ending.SinkFault status is = ap is_status is
status_by ending.NoEnd status is = ap is_status is
status_by ending.Cut status is = ap is_status is

pub source_by : (e : Ending) (ended : Ended) → ended.status ≡ status_of e → input_failed ended ≡ is_source_fault e
source_by ending.End ended is = ap (λ (n : ℕ). n == 3) is
source_by ending.NoMemory ended is = ap (λ (n : ℕ). n == 3) is
source_by ending.SourceFault ended is = ap (λ (n : ℕ). n == 3) is
source_by ending.SinkFault ended is = ap (λ (n : ℕ). n == 3) is
source_by ending.NoEnd ended is = ap (λ (n : ℕ). n == 3) is
source_by ending.Cut ended is = ap (λ (n : ℕ). n == 3) is

pub sink_by : (e : Ending) (ended : Ended) → ended.status ≡ status_of e → output_failed ended ≡ is_sink_fault e
sink_by ending.End ended is = ap (λ (n : ℕ). n == 4) is
sink_by ending.NoMemory ended is = ap (λ (n : ℕ). n == 4) is
sink_by ending.SourceFault ended is = ap (λ (n : ℕ). n == 4) is
sink_by ending.SinkFault ended is = ap (λ (n : ℕ). n == 4) is
sink_by ending.NoEnd ended is = ap (λ (n : ℕ). n == 4) is
sink_by ending.Cut ended is = ap (λ (n : ℕ). n == 4) is

-- an answer that fails only where another does
pub cause_of : (before now : ℕ) (failed other : Bool) → (failed ≡ true → other ≡ true) → HasCause before now other → HasCause before now failed
cause_of before now failed other only cause = record { later = cause.later; rose = λ yes. cause.rose (only yes) }
