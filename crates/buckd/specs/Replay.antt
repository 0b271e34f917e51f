-- What the run of a script from a source gives, and what it leaves.
use Rattle.std.specs.Prelude.{◌≡◌, ◌==◌, ◌&&◌, ◌∷◌, if◌then◌else◌, codes, String, ℕ, ◌<◌, ◌≤◌, Bool, true, false, ◌||◌, List, [], ◌++◌, length, ⊤, Option, Some, None, IfSome}
use Rattle.std.specs.Option.{is_some}
use Rattle.std.specs.String.{string_bytes}
use Rattle.mat_io.specs.declared.answer.Got.{Got}
use Rattle.mat_io.specs.declared.answer.Got.TheVariants as got
use Rattle.mat_io.specs.Streams.{Grows, GrowsInPart}
use Rattle.mat_model.specs.OnDisk.{AreOnDisk}
use Rattle.region_port.specs.declared.mem_disk.MemDisk.{MemDisk}
use Rattle.region_port.specs.Disks.{disk_content, disk_loans, disk_rough}
use Rattle.buckd.specs.declared.daemon.Daemon.{Daemon}
use Rattle.buckd.specs.declared.daemon.Run.{Run}
use Rattle.buckd.specs.declared.replay.Ended.{Ended}
use Rattle.buckd.specs.declared.replay.Ending.{Ending}
use Rattle.buckd.specs.declared.replay.Ending.TheVariants as ending
use Rattle.buckd.specs.declared.session.Fed.{Fed}
use Rattle.buckd.specs.declared.session.Fed.TheVariants as fed
use Rattle.buckd.specs.declared.session.Session.{Session}
use Rattle.mat_path.specs.Names.{same_name}
use Rattle.buckd.specs.Causes.{AreCaused}
use Rattle.buckd.specs.Following.{IsFollowingRun}
use Rattle.buckd.specs.Lines.{before_end, has_end, script_lines, whole_lines}
use Rattle.buckd.specs.Making.{shown_by}
use Rattle.buckd.specs.Run.{Point, Scene, start, tell_lines}
use Rattle.buckd.specs.Sound.{AreSynced, IsSound}
use Rattle.buckd.specs.Streams.{AnswersInPart, Broke, Served, answered}

-- ---- a run as it ends

-- unless memory ran out the daemon is sound
abbrev pub IsSoundAtEnd : Ending → Daemon → Type 0
IsSoundAtEnd ending.End d = IsSound d
IsSoundAtEnd ending.NoMemory d = ⊤
IsSoundAtEnd ending.SourceFault d = IsSound d
IsSoundAtEnd ending.SinkFault d = IsSound d
IsSoundAtEnd ending.NoEnd d = IsSound d
IsSoundAtEnd ending.Cut d = IsSound d

-- no more bytes were taken than may be read
abbrev pub IsWithin : ℕ → Got → Type 0
IsWithin left (got.Taken n) = n ≤ left
IsWithin left got.End = ⊤
IsWithin left got.Failed = ⊤

-- the status of the program
abbrev pub status_of : Ending → ℕ
status_of ending.End = 0
status_of ending.NoMemory = 1
status_of ending.SourceFault = 3
status_of ending.SinkFault = 4
status_of ending.NoEnd = 5
status_of ending.Cut = 7

-- the input failed once these bytes were taken: their whole lines were served
pub record Stopped (limit : ℕ) (bytes : List ℕ) (after before now : Option (List ℕ)) (s : Session) : Type 0 where
  pub taken : List ℕ
  pub rest : List ℕ
  pub parts : bytes ≡ taken ++ rest
  pub fits : length taken ≤ limit
  pub left : after ≡ Some rest
  pub going : has_end (whole_lines taken) ≡ false
  pub served : Served (whole_lines taken) before now s

-- the lines of a script were served, of which none ends it
pub record Open (limit : ℕ) (bytes : List ℕ) (before now : Option (List ℕ)) (s : Session) : Type 0 where
  pub going : has_end (script_lines limit bytes) ≡ false
  pub served : Served (script_lines limit bytes) before now s

-- where a run over a script of these bytes ends
abbrev pub RanOver : ℕ → List ℕ → Option (List ℕ) → Option (List ℕ) → Option (List ℕ) → Session → Ending → Type 0
RanOver limit bytes left before now s ending.End =
    (has_end (script_lines limit bytes) ≡ true) × Served (script_lines limit bytes) before now s
RanOver limit bytes left before now s ending.NoMemory = AnswersInPart (script_lines limit bytes) before now
RanOver limit bytes left before now s ending.SourceFault = Stopped limit bytes left before now s
RanOver limit bytes left before now s ending.SinkFault = Broke (script_lines limit bytes) before now s
RanOver limit bytes left before now s ending.NoEnd = (length bytes < limit) × Open limit bytes before now s
RanOver limit bytes left before now s ending.Cut = (limit ≤ length bytes) × Open limit bytes before now s

-- the same, where the source tells its bytes
abbrev pub Ran : ℕ → Option (List ℕ) → Option (List ℕ) → Option (List ℕ) → Option (List ℕ) → Session → Ending → Type 0
Ran limit None left before now s ending = ⊤
Ran limit (Some bytes) left before now s ending = RanOver limit bytes left before now s ending

-- whether the input failed, and whether the output did
abbrev pub input_failed : Ended → Bool
input_failed ended = ended.status == 3

abbrev pub output_failed : Ended → Bool
output_failed ended = ended.status == 4

abbrev pub is_source_fault : Ending → Bool
is_source_fault ending.End = false
is_source_fault ending.NoMemory = false
is_source_fault ending.SourceFault = true
is_source_fault ending.SinkFault = false
is_source_fault ending.NoEnd = false
is_source_fault ending.Cut = false

abbrev pub is_sink_fault : Ending → Bool
is_sink_fault ending.End = false
is_sink_fault ending.NoMemory = false
is_sink_fault ending.SourceFault = false
is_sink_fault ending.SinkFault = true
is_sink_fault ending.NoEnd = false
is_sink_fault ending.Cut = false

-- why a run ended whose last line left it here
abbrev pub end_of : Fed → Ending
end_of fed.Ended = ending.End
end_of fed.Going = ending.NoEnd
end_of fed.Failed = ending.SinkFault
end_of fed.NoMemory = ending.NoMemory

-- whether nothing more goes out
abbrev pub is_lost : Ending → Bool
is_lost ending.End = false
is_lost ending.NoMemory = true
is_lost ending.SourceFault = false
is_lost ending.SinkFault = true
is_lost ending.NoEnd = false
is_lost ending.Cut = false

-- no text is left, unless the output failed or memory ran out
abbrev pub IsFinished : Ending → List ℕ → Type 0
IsFinished ending.End gathered = gathered ≡ []
IsFinished ending.NoMemory gathered = ⊤
IsFinished ending.SourceFault gathered = gathered ≡ []
IsFinished ending.SinkFault gathered = ⊤
IsFinished ending.NoEnd gathered = gathered ≡ []
IsFinished ending.Cut gathered = gathered ≡ []

-- ---- what is left of a run

-- the book and the history of a run
abbrev pub run_at : Run → Point
run_at run = record { book = run.book; history = run.history }

-- what is left of a run is where it led: its book and history, and what the disk has
abbrev pub IsAt : Scene → Ended → Type 0
IsAt scene ended =
    IfSome ended.run (λ (r : Run). run_at r ≡ scene.point) × IfSome ended.disk (λ (d : MemDisk). shown_by (disk_content d) ≡ scene.disk)

-- a disk that is there has the tree of each row that stands in the run's book, and all of that is synced
abbrev pub IsHeldBy : Option Run → Option MemDisk → Type 0
IsHeldBy run disk =
    IfSome run (λ (r : Run). IfSome disk (λ (d : MemDisk). AreOnDisk (disk_content d) r.book.rows × AreSynced (disk_rough d) r.book.rows))

-- a disk that is there is lent nowhere
abbrev pub IsHome : Option MemDisk → Type 0
IsHome disk = IfSome disk (λ (d : MemDisk). disk_loans d ≡ [])

-- each entry of the history of a run that is there follows, and the book is the book of it
abbrev pub IsFollowingWhere : Option Run → Type 0
IsFollowingWhere run = IfSome run IsFollowingRun

-- a run that led to a scene is there, and its disk
pub record HasRun (scene : Scene) (ended : Ended) : Type 0 where
  pub run : is_some ended.run ≡ true
  pub disk : is_some ended.disk ≡ true
  pub at : IsAt scene ended
  pub held : IsHeldBy ended.run ended.disk
  pub home : IsHome ended.disk
  pub follows : IsFollowingWhere ended.run

-- no run is there, and no disk
pub record HasNone (ended : Ended) : Type 0 where
  pub run : ended.run ≡ None
  pub disk : ended.disk ≡ None

abbrev pub LeavesAt : Ending → Scene → Ended → Type 0
LeavesAt ending.End scene ended = HasRun scene ended
LeavesAt ending.NoMemory scene ended = HasNone ended
LeavesAt ending.SourceFault scene ended = HasRun scene ended
LeavesAt ending.SinkFault scene ended = HasRun scene ended
LeavesAt ending.NoEnd scene ended = HasRun scene ended
LeavesAt ending.Cut scene ended = HasRun scene ended

-- the statuses with which a script's run ends, and those of them with a run
abbrev pub has_run : ℕ → Bool
has_run status = (status == 0) || (status == 3) || (status == 4) || (status == 5) || (status == 7)

abbrev pub is_status : ℕ → Bool
is_status status = has_run status || (status == 1)

-- the run and the disk are there where the status has them, each entry of the history follows and the book is the book of it, and
-- the disk has the tree of each row that the book says stands, synced, and is lent nowhere
pub record Leaves (ended : Ended) : Type 0 where
  pub run : is_some ended.run ≡ has_run ended.status
  pub disk : is_some ended.disk ≡ has_run ended.status
  pub held : IsHeldBy ended.run ended.disk
  pub home : IsHome ended.disk
  pub follows : IsFollowingWhere ended.run

-- a run that is there has a history in which each make that failed did so for what the store held after some of these lines
abbrev pub IsCausedBy : List (List ℕ) → Option Run → Type 0
IsCausedBy lines run = IfSome run (λ (r : Run). AreCaused lines r.history)

-- ---- the run of a script

-- some lines were answered: their text went out, the run is where they lead, and each make that failed had its cause
pub record Answers (lines : List (List ℕ)) (before now : Option (List ℕ)) (ended : Ended) : Type 0 where
  pub text : Grows before now (answered lines).text
  pub at : IsAt (answered lines).scene ended
  pub causes : IsCausedBy (before_end lines) ended.run

-- the input failed once these bytes were taken: their whole lines were answered, and none of them ended the script
pub record Interrupted (limit : ℕ) (bytes : List ℕ) (after before now : Option (List ℕ)) (ended : Ended) : Type 0 where
  pub taken : List ℕ
  pub rest : List ℕ
  pub parts : bytes ≡ taken ++ rest
  pub fits : length taken ≤ limit
  pub left : after ≡ Some rest
  pub going : has_end (whole_lines taken) ≡ false
  pub answers : Answers (whole_lines taken) before now ended

-- the output failed: some of the lines from the front were answered, the run is where they lead, and a front of their text went out
pub record Failed (lines : List (List ℕ)) (before now : Option (List ℕ)) (ended : Ended) : Type 0 where
  pub front : List (List ℕ)
  pub more : List (List ℕ)
  pub parts : before_end lines ≡ front ++ more
  pub text : GrowsInPart before now (tell_lines front start).text
  pub at : IsAt (tell_lines front start).scene ended
  pub causes : IsCausedBy front ended.run

-- what the run of a script of these bytes gives, by its status
pub record ReplaysBytes (limit : ℕ) (bytes : List ℕ) (after before now : Option (List ℕ)) (ended : Ended) : Type 0 where
  pub at_end : ended.status ≡ 0 → (has_end (script_lines limit bytes) ≡ true) × Answers (script_lines limit bytes) before now ended
  pub no_memory : ended.status ≡ 1 → AnswersInPart (script_lines limit bytes) before now
  pub source_fault : ended.status ≡ 3 → Interrupted limit bytes after before now ended
  pub sink_fault : ended.status ≡ 4 → Failed (script_lines limit bytes) before now ended
  pub no_end : ended.status ≡ 5
      → (length bytes < limit) × (has_end (script_lines limit bytes) ≡ false) × Answers (script_lines limit bytes) before now ended
  pub cut : ended.status ≡ 7
      → (limit ≤ length bytes) × (has_end (script_lines limit bytes) ≡ false) × Answers (script_lines limit bytes) before now ended

-- the same of what the source had left, where it tells its bytes
abbrev pub Replays : ℕ → Option (List ℕ) → Option (List ℕ) → Option (List ℕ) → Option (List ℕ) → Ended → Type 0
Replays limit None left before now ended = ⊤
Replays limit (Some bytes) left before now ended = ReplaysBytes limit bytes left before now ended

-- ---- the words of the program

-- how many bytes of a script are read at most
abbrev pub input_limit : ℕ
input_limit = 4294967296

-- the words that ask for the run of a script
abbrev pub is_replay : {Z : Type 0} → List (String Z) → Bool
is_replay [] = false
is_replay (verb ∷ []) = false
is_replay (verb ∷ workers ∷ []) = same_name (string_bytes verb) (codes "replay") && same_name (string_bytes workers) (codes "1")
is_replay (verb ∷ workers ∷ word ∷ words) = false

-- the statuses of words that ask for it, and of others
abbrev pub is_status_of : Bool → ℕ → Bool
is_status_of asked status = if asked then is_status status else (status == 2)
