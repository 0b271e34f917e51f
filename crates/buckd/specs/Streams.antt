-- A run over a script that comes in pieces, and its text on the way out.
use Rattle.std.specs.Prelude.{◌≡◌, ℕ, Bool, true, false, List, [], ◌++◌, ◌<◌, ◌≤◌, length, take, ⊤, Option, Some, None}
use Rattle.mat_io.specs.declared.answer.Put.{Put}
use Rattle.mat_io.specs.declared.answer.Put.TheVariants as put
use Rattle.mat_io.specs.Streams.{GrowsInPart}
use Rattle.buckd.specs.declared.daemon.Daemon.{Daemon}
use Rattle.buckd.specs.declared.session.Fed.{Fed}
use Rattle.buckd.specs.declared.session.Fed.TheVariants as fed
use Rattle.buckd.specs.declared.session.Session.{Session}
use Rattle.buckd.specs.Daemon.{scene_of}
use Rattle.script_lang.specs.declared.items.Line.{Line}
use Rattle.script_lang.specs.declared.items.Line.TheVariants as line
use Rattle.buckd.specs.Lines.{before_end, has_end, last_line, line_of, whole_lines}
use Rattle.buckd.specs.Run.{Told, start, tell, tell_lines}
use Rattle.buckd.specs.Sound.{IsSound}

-- ---- text on the way out

-- a text's front went out, and the rest of it is gathered; this is known where the sink tells its bytes
abbrev pub Flows : Option (List ℕ) → Option (List ℕ) → List ℕ → List ℕ → Type 0
Flows None now gathered text = ⊤
Flows (Some out) now gathered text = (gone : List ℕ) × (now ≡ Some (out ++ gone)) × (gone ++ gathered ≡ text)

-- the same after a write; one that failed leaves a front of the text outside
abbrev pub Flowed : Option (List ℕ) → Option (List ℕ) → List ℕ → List ℕ → Put → Type 0
Flowed before now gathered text put.All = Flows before now gathered text
Flowed before now gathered text put.Failed = GrowsInPart before now text
Flowed before now gathered text put.NoMemory = GrowsInPart before now text

-- nothing is gathered, where the write went well
abbrev pub IsOut : Put → List ℕ → Type 0
IsOut put.All gathered = gathered ≡ []
IsOut put.Failed gathered = ⊤
IsOut put.NoMemory gathered = ⊤

-- after that, less than a piece of 64 KiB is still gathered
abbrev pub IsLittle : Put → List ℕ → Type 0
IsLittle put.All gathered = length gathered < 65536
IsLittle put.Failed gathered = ⊤
IsLittle put.NoMemory gathered = ⊤

-- ---- a run in pieces

-- how much of a line is kept: one byte more than the longest line that is read
abbrev pub kept : ℕ
kept = 1048577

-- what some lines are answered, up to one that ends the script, and where the run is then
abbrev pub answered : List (List ℕ) → Told
answered lines = tell_lines (before_end lines) start

-- whether a line ends the script
abbrev pub ends : Line → Bool
ends line.Skip = false
ends line.End = true
ends line.Unread = false
ends (line.Item it) = false
ends line.NoMemory = false

-- the bytes of a line were served
pub record TellsLine (said : List ℕ) (old : Daemon) (gathered : List ℕ) (new : Session) (ending : Bool) : Type 0 where
  pub scene : scene_of new.daemon ≡ (tell (line_of said) (scene_of old)).scene
  pub text : new.gathered.items ≡ gathered ++ (tell (line_of said) (scene_of old)).text
  pub partial : new.partial.items ≡ []
  pub ended : ending ≡ ends (line_of said)
  pub sound : IsSound new.daemon

-- these lines were served, and their text is on its way out
pub record Served (lines : List (List ℕ)) (before now : Option (List ℕ)) (s : Session) : Type 0 where
  pub scene : scene_of s.daemon ≡ (answered lines).scene
  pub text : Flows before now s.gathered.items (answered lines).text

-- these bytes were read: their whole lines were served, none of them ended the script, and the last line is kept
pub record Stands (read : List ℕ) (before now : Option (List ℕ)) (s : Session) : Type 0 where
  pub going : has_end (whole_lines read) ≡ false
  pub partial : s.partial.items ≡ take kept (last_line read)
  pub served : Served (whole_lines read) before now s

-- these lines end the script, and were served up to its end
pub record Ends (lines : List (List ℕ)) (before now : Option (List ℕ)) (s : Session) : Type 0 where
  pub ended : has_end lines ≡ true
  pub served : Served lines before now s

-- the output failed: some lines from the front of these were served, and a front of their text went out
pub record Broke (lines : List (List ℕ)) (before now : Option (List ℕ)) (s : Session) : Type 0 where
  pub front : List (List ℕ)
  pub more : List (List ℕ)
  pub parts : before_end lines ≡ front ++ more
  pub scene : scene_of s.daemon ≡ (tell_lines front start).scene
  pub text : GrowsInPart before now (tell_lines front start).text

-- a front of these lines' text went out
abbrev pub AnswersInPart : List (List ℕ) → Option (List ℕ) → Option (List ℕ) → Type 0
AnswersInPart lines before now = GrowsInPart before now (answered lines).text

-- where a run stands once these bytes were read
abbrev pub Feeds : List ℕ → Option (List ℕ) → Option (List ℕ) → Session → Fed → Type 0
Feeds read before now s fed.Going = Stands read before now s
Feeds read before now s fed.Ended = Ends (whole_lines read) before now s
Feeds read before now s fed.Failed = Broke (whole_lines read) before now s
Feeds read before now s fed.NoMemory = AnswersInPart (whole_lines read) before now

-- where a run stands once these were all the lines
abbrev pub FeedsLast : List (List ℕ) → Option (List ℕ) → Option (List ℕ) → Session → Fed → Type 0
FeedsLast lines before now s fed.Going = (has_end lines ≡ false) × Served lines before now s
FeedsLast lines before now s fed.Ended = Ends lines before now s
FeedsLast lines before now s fed.Failed = Broke lines before now s
FeedsLast lines before now s fed.NoMemory = AnswersInPart lines before now

-- where a run stands after a write
abbrev pub gone_to : Put → Fed
gone_to put.All = fed.Going
gone_to put.Failed = fed.Failed
gone_to put.NoMemory = fed.NoMemory

-- unless memory ran out the daemon is sound
abbrev pub IsSoundAfter : Fed → Daemon → Type 0
IsSoundAfter fed.Going d = IsSound d
IsSoundAfter fed.Ended d = IsSound d
IsSoundAfter fed.Failed d = IsSound d
IsSoundAfter fed.NoMemory d = ⊤

-- little of a run is in memory: less than a piece of its text waits, and of the line that isn't whole no more than is kept
pub record IsSmall (s : Session) : Type 0 where
  pub text : length s.gathered.items < 65536
  pub line : length s.partial.items ≤ kept

-- the same, where the run goes on
abbrev pub IsSmallAfter : Fed → Session → Type 0
IsSmallAfter fed.Going s = IsSmall s
IsSmallAfter fed.Ended s = ⊤
IsSmallAfter fed.Failed s = ⊤
IsSmallAfter fed.NoMemory s = ⊤

-- whether the output failed
abbrev pub fed_failed : Fed → Bool
fed_failed fed.Going = false
fed_failed fed.Ended = false
fed_failed fed.Failed = true
fed_failed fed.NoMemory = false

-- these bytes were taken from a source; this is known where it tells its bytes
abbrev pub Follows : Option (List ℕ) → List ℕ → Option (List ℕ) → Type 0
Follows None read now = ⊤
Follows (Some bytes) read now = (rest : List ℕ) × (bytes ≡ read ++ rest) × (now ≡ Some rest)

-- no more bytes than a limit were taken from a source
abbrev pub TakesWithin : ℕ → Option (List ℕ) → Option (List ℕ) → Type 0
TakesWithin limit before now = (read : List ℕ) × (length read ≤ limit) × Follows before read now
