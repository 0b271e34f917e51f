-- The text of what is told of an item.
use Rattle.std.specs.Prelude.{ℕ, ◌-◌, ◌^◌, min, codes, decimal, Bool, if◌then◌else◌, List, ◌++◌, length}
use Rattle.std.specs.List.{flat_map, sum_by}
use Rattle.mat_digest.specs.Digests.{digest_text}
use Rattle.mat_path.specs.Names.{joined}
use Rattle.mat_tree.specs.declared.flat.Flat.{Flat}
use Rattle.mat_tree.specs.declared.sum.Kind.{Kind}
use Rattle.mat_tree.specs.declared.sum.Kind.TheVariants as kind
use Rattle.mat_tree.specs.declared.sum.Sum.{Sum}
use Rattle.tree_words.specs.Words.{node_text}
use Rattle.mat_model.specs.declared.answers.Answer.{Answer}
use Rattle.mat_model.specs.declared.answers.Answer.TheVariants as answer
use Rattle.mat_model.specs.declared.answers.Device.{Device}
use Rattle.mat_model.specs.declared.answers.Device.TheVariants as device
use Rattle.mat_model.specs.declared.answers.FaultNote.{FaultNote}
use Rattle.mat_model.specs.declared.answers.Gone.{Gone}
use Rattle.mat_model.specs.declared.answers.Limit.{Limit}
use Rattle.mat_model.specs.declared.answers.Limit.TheVariants as limit
use Rattle.mat_model.specs.declared.answers.Reply.{Reply}
use Rattle.mat_model.specs.declared.answers.Reply.TheVariants as reply
use Rattle.mat_model.specs.declared.entries.Task.{Task}
use Rattle.mat_model.specs.declared.entries.Task.TheVariants as task
use Rattle.script_lang.specs.declared.told.Answered.{Answered}
use Rattle.script_lang.specs.declared.told.Said.{Said}
use Rattle.script_lang.specs.declared.told.Said.TheVariants as said
use Rattle.script_lang.specs.declared.told.ScanNote.{ScanNote}
use Rattle.script_lang.specs.declared.told.ScanNote.TheVariants as scan
use Rattle.script_lang.specs.declared.told.Told.{Told}

-- a word and a number
abbrev pub numbered : List ℕ → ℕ → List ℕ
numbered word number = word ++ decimal number

-- the letter of a kind
abbrev pub kind_text : Kind → List ℕ
kind_text kind.File = codes "f"
kind_text kind.Exec = codes "x"
kind_text kind.Dir = codes "d"

-- a row that is ready: its stamp, its kind and its digest
abbrev pub ready_text : ℕ → Sum → List ℕ
ready_text stamp sum = numbered (codes "ready ") stamp ++ codes " " ++ kind_text sum.kind ++ codes " " ++ digest_text sum.digest

-- a device's name
abbrev pub device_text : Device → List ℕ
device_text device.Disk = codes "disk"
device_text device.Store = codes "store"
device_text device.Keeper = codes "keeper"

-- a note of a failed call, behind a word: the device, and its counts around the call
abbrev pub note_text : List ℕ → FaultNote → List ℕ
note_text word note = numbered (numbered (word ++ device_text note.device ++ codes " ") note.before ++ codes " ") note.after

-- a limit's name
abbrev pub limit_text : Limit → List ℕ
limit_text limit.History = codes "history"
limit_text limit.Nodes = codes "nodes"
limit_text limit.Waiting = codes "waiting"
limit_text limit.Rows = codes "rows"
limit_text limit.Held = codes "held"
limit_text limit.Asked = codes "asked"
limit_text limit.Holds = codes "holds"

-- how many bytes some removed rows have, or 2^64 - 1 where that is less
abbrev pub gone_bytes : Gone → ℕ
gone_bytes gone = gone.bytes

abbrev pub all_bytes : List Gone → ℕ
all_bytes rows = min (sum_by gone_bytes rows) (2 ^ 64 - 1)

-- the line of a removed row and that of a stray, each behind a newline
abbrev pub gone_text : Gone → List ℕ
gone_text gone = numbered (codes "\nrow " ++ joined gone.path ++ codes " ") gone.bytes

abbrev pub stray_text : List (List ℕ) → List ℕ
stray_text path = codes "\nstray " ++ joined path

-- a clean: how many rows, their bytes, and how many strays; then a line for each
abbrev pub clean_text : Bool → List Gone → List (List (List ℕ)) → List ℕ
clean_text dry rows strays =
    numbered (numbered (numbered (if dry then codes "dry " else codes "clean ") (length rows) ++ codes " ") (all_bytes rows) ++ codes " ")
    (length strays)
    ++ flat_map gone_text rows ++ flat_map stray_text strays

-- a reply; behind its last line stands no newline
abbrev pub reply_text : Reply → List ℕ
reply_text reply.Entered = codes "entered"
reply_text (reply.Took count) = numbered (codes "took ") count
reply_text (reply.Left count) = numbered (codes "left ") count
reply_text (reply.Declared stamp) = numbered (codes "declared ") stamp
reply_text (reply.Kept stamp) = numbered (codes "kept ") stamp
reply_text (reply.Same stamp) = numbered (codes "same ") stamp
reply_text reply.Other = codes "other"
reply_text reply.Nothing = codes "none"
reply_text (reply.Stands stamp) = numbered (codes "stands ") stamp
reply_text (reply.NotMade stamp) = numbered (codes "not made ") stamp
reply_text (reply.Ready stamp sum) = ready_text stamp sum
reply_text (reply.Asked ticket) = numbered (codes "open ") ticket
reply_text (reply.Invalid count) = numbered (codes "invalid ") count
reply_text (reply.Cleaned dry rows strays) = clean_text dry rows strays
reply_text (reply.Flushed count) = numbered (codes "flushed ") count
reply_text reply.NotLive = codes "notlive"
reply_text reply.Known = codes "known"
reply_text (reply.Differs state) = numbered (codes "differs ") state
reply_text (reply.Queued place) = numbered (codes "queued ") place
reply_text reply.Unknown = codes "unknown"
reply_text (reply.Busy count) = numbered (codes "busy ") count
reply_text reply.NoSource = codes "nosource"
reply_text reply.TooLong = codes "toolong"
reply_text reply.Undeclared = codes "undeclared"
reply_text (reply.Fault note) = note_text (codes "fault ") note
reply_text (reply.Full limit) = codes "full " ++ limit_text limit
reply_text reply.NoMemory = codes "nomem"
reply_text reply.Started = codes "started"
reply_text (reply.Refused note) = note_text (codes "refused ") note
reply_text (reply.Fresh recorded) = codes "done fresh"
reply_text reply.Stale = codes "done stale"

-- an answer
abbrev pub answer_text : Answer → List ℕ
answer_text (answer.Ready stamp sum) = ready_text stamp sum
answer_text answer.Undeclared = codes "undeclared"
answer_text (answer.Missing digest) = codes "missing " ++ digest_text digest
answer_text (answer.Corrupt wanted found) = codes "corrupt " ++ digest_text wanted ++ codes " " ++ digest_text found
answer_text (answer.Fault note) = note_text (codes "fault ") note
answer_text answer.NoMemory = codes "nomem"
answer_text (answer.Preempted command) = numbered (codes "preempted ") command

-- a job that began
abbrev pub task_text : Task → List ℕ
task_text (task.Make path stamp) = codes "began make " ++ joined path
task_text (task.Wipe path) = codes "began wipe " ++ joined path

-- the line of a node, behind a newline: its words
abbrev pub node_line : Flat → List ℕ
node_line node = codes "\n" ++ node_text node

-- the nodes at and below a path: how many they are, and a line for each
abbrev pub shown_text : List Flat → List ℕ
shown_text nodes = numbered (codes "show ") (length nodes) ++ flat_map node_line nodes

-- why a daemon could not be opened
abbrev pub scan_text : ScanNote → List ℕ
scan_text (scan.Fault note) = note_text (codes "fault ") note
scan_text scan.NoMemory = codes "nomem"

-- what is said of an item; behind its last line stands no newline
abbrev pub said_text : Said → List ℕ
said_text (said.Reply reply) = reply_text reply
said_text (said.Stored digest) = codes "stored " ++ digest_text digest
said_text (said.At moment) = numbered (codes "at ") moment
said_text said.Idle = codes "idle"
said_text (said.Began task) = task_text task
said_text said.Going = codes "going"
said_text said.Ended = codes "ended"
said_text said.Drained = codes "drained"
said_text (said.Shown nodes) = shown_text nodes
said_text said.Busy = codes "busy"
said_text (said.Asks count) = numbered (codes "asks ") count
said_text said.Armed = codes "armed"
said_text (said.Restarted count) = numbered (codes "restarted ") count
said_text said.Stopped = codes "stopped"
said_text (said.Shut note) = scan_text note

-- the line of an answered ticket, behind a newline
abbrev pub answer_line : Answered → List ℕ
answer_line answered = numbered (codes "\nanswer ") answered.ticket ++ codes " " ++ answer_text answered.answer

-- what is told of an item: what is said, and a line for each answered ticket; each line ends with a newline
abbrev pub told_text : Told → List ℕ
told_text told = said_text told.said ++ flat_map answer_line told.answers ++ codes "\n"

-- what is told of a line that says nothing that a line may say
abbrev pub unread_text : List ℕ
unread_text = codes "unread\n"

-- what is told of an item that isn't served yet
abbrev pub not_yet_text : List ℕ
not_yet_text = codes "notyet\n"
