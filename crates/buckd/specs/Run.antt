-- What a script is answered, line by line.
use Rattle.std.specs.Prelude.{ℕ, zero, suc, ◌+◌, ◌-◌, ◌==◌, ◌&&◌, ◌||◌, codes, Bool, true, false, not, if◌then◌else◌, List, [], ◌∷◌, ◌++◌, length, count_by, find, Option, Some, None}
use Rattle.std.specs.List.{list_any, slice_get}
use Rattle.std.specs.Option.{option_map_or}
use Rattle.mat_digest.specs.Digests.{digest_of}
use Rattle.mat_digest.specs.declared.digest.Digest.{Digest}
use Rattle.mat_tree.specs.Trees.{file_sum, same_digest}
use Rattle.mat_tree.specs.declared.flat.Flat.{Flat}
use Rattle.mat_model.specs.declared.book.Book.{Book}
use Rattle.mat_model.specs.declared.book.Row.{Row}
use Rattle.mat_model.specs.declared.entries.Entry.{Entry}
use Rattle.mat_model.specs.declared.entries.Event.{Event}
use Rattle.mat_model.specs.declared.entries.Event.TheVariants as event
use Rattle.mat_model.specs.declared.entries.Outcome.{Outcome}
use Rattle.mat_model.specs.declared.entries.Outcome.TheVariants as outcome
use Rattle.mat_model.specs.declared.entries.Task.{Task}
use Rattle.mat_model.specs.declared.entries.Task.TheVariants as task
use Rattle.mat_model.specs.declared.answers.Recorded.TheVariants as recorded
use Rattle.mat_model.specs.declared.answers.Reply.{Reply}
use Rattle.mat_model.specs.declared.answers.Reply.TheVariants as reply
use Rattle.mat_model.specs.declared.requests.Asked.{Asked}
use Rattle.mat_model.specs.declared.requests.Asked.TheVariants as asked
use Rattle.mat_model.specs.declared.requests.Request.{Request}
use Rattle.mat_model.specs.declared.requests.Request.TheVariants as request
use Rattle.mat_model.specs.Gate.{Served, is_live}
use Rattle.mat_model.specs.Requests.{RequestContext, serve}
use Rattle.mat_model.specs.Rows.{overlaps_row}
use Rattle.mat_model.specs.Tickets.{is_open}
use Rattle.mat_model.specs.Work.{finish, is_declared}
use Rattle.mat_model.specs.WorkState.{WorkState, first_task, idle_work, path_of_task}
use Rattle.fetch_port.specs.Fetches.{Blobs}
use Rattle.write_plan.specs.declared.act.Act.{Act}
use Rattle.write_plan.specs.declared.act.Act.TheVariants as act
use Rattle.script_lang.specs.declared.items.Item.{Item}
use Rattle.script_lang.specs.declared.items.Item.TheVariants as item
use Rattle.script_lang.specs.declared.items.Line.{Line}
use Rattle.script_lang.specs.declared.items.Line.TheVariants as line
use Rattle.script_lang.specs.declared.told.Said.TheVariants as said
use Rattle.script_lang.specs.Texts.{not_yet_text, reply_text, unread_text}
use Rattle.buckd.specs.Lines.{line_of}
use Rattle.buckd.specs.Making.{Nodes, acts_done, asks_after, left_by, make_acts, no_nodes, nodes_below, outcome_of, with_nodes}
use Rattle.buckd.specs.Shows.{nodes_there}
use Rattle.buckd.specs.Texts.{answer_lines, said_line}

-- where a run is: the book, and the history that led to it
pub record Point : Type 0 where
  pub book : Book
  pub history : List Entry

-- the book of a daemon that just began
abbrev pub empty_book : Book
empty_book = record { first = 0; now = 0; state = None; live = []; waiting = []; soft = []; rows = []; holds = []; tickets = [] }

abbrev pub start_point : Point
start_point = record { book = empty_book; history = [] }

-- an event's reply, and where the run is then
pub record Step : Type 0 where
  pub reply : Reply
  pub point : Point

-- an entry of a run: its one caller is 0, so that its number among the caller's is its place, and the moment is 0
abbrev pub entry_at : ℕ → Event → Reply → Entry
entry_at place happened reply = record {
  by = record { caller = 0; number = place };
  now = 0;
  event = happened;
  reply = reply;
}

-- the number of the next entry
abbrev pub next : Point → ℕ
next point = point.book.first + length point.history

-- an event that was served so
abbrev pub entered : Event → Served → Point → Step
entered happened served point = record {
  reply = served.reply;
  point = record {
    book = served.book;
    history = point.history ++ entry_at (length point.history) happened served.reply ∷ [];
  };
}

-- beside the book no request finds anything here: no debris, and no rows to be stored
abbrev pub empty_context : RequestContext
empty_context = record { strays = []; due = 0 }

-- a request at moment 0
abbrev pub ask : Asked → Point → Step
ask request point = entered (event.Asked request) (serve (next point) 0 empty_context request point.book) point

-- a request as a history keeps it
abbrev pub asked_of : Request → Asked
asked_of (request.Enter command state soft refuse) = asked.Enter command state soft refuse
asked_of (request.Leave command) = asked.Leave command
asked_of (request.Write command path bytes) = asked.Write command path (file_sum (digest_of bytes) false)
asked_of (request.Declare command path tree) = asked.Declare command path tree
asked_of (request.Copy command path source) = asked.Copy command path source
asked_of (request.Matches command path sum) = asked.Matches command path sum
asked_of (request.Has command path) = asked.Has command path
asked_of (request.Ensure command path) = asked.Ensure command path
asked_of (request.Invalidate command path) = asked.Invalidate command path
asked_of (request.Clean cutoff mode) = asked.Clean cutoff mode
asked_of request.Flush = asked.Flush

-- a job begins
abbrev pub begin : Task → Point → Step
begin task point = entered (event.Begin task) (record { reply = reply.Started; book = point.book }) point

-- a job ends so, which nothing records
abbrev pub end_job : ℕ → Task → Outcome → Point → Step
end_job job task ended point =
    entered (event.Done job ended) (finish (next point) task ended recorded.Nothing point.book) point

-- a job begins and ends
abbrev pub worked : Task → Outcome → Point → Point
worked task ended point = (end_job (next point) task ended (begin task point).point).point

-- ---- where a run is with its devices

-- a run with its store and its disk: the bytes that the store holds, how often it was asked, and what the disk has at each place
pub record Scene : Type 0 where
  pub point : Point
  pub blobs : Blobs
  pub asks : ℕ
  pub disk : Nodes

-- a store that holds nothing
abbrev pub no_blobs : Blobs
no_blobs digest = None

-- a run that begins
abbrev pub start : Scene
start = record { point = start_point; blobs = no_blobs; asks = 0; disk = no_nodes }

-- a run whose store holds these bytes under a digest, in the place of what it held there
abbrev pub with_blob : Digest → List ℕ → Blobs → Blobs
with_blob digest bytes blobs other = if same_digest digest other then Some bytes else blobs other

-- ---- makes

-- whether an entry is a write
abbrev pub is_write_asked : Asked → Bool
is_write_asked (asked.Write command path sum) = true
is_write_asked _ = false

abbrev pub is_write_event : Event → Bool
is_write_event (event.Asked request) = is_write_asked request
is_write_event (event.Begin task) = false
is_write_event (event.Done job ended) = false

abbrev pub is_write_entry : Entry → Bool
is_write_entry entry = is_write_event entry.event

-- whether the row with a stamp was written, so that its bytes are held: it has the number of the entry that declared it
abbrev pub is_held : List Entry → ℕ → Bool
is_held history stamp = option_map_or is_write_entry (slice_get history stamp) false

-- the tree of the row that was declared at a path under a stamp
abbrev pub tree_of_row : Row → List Flat
tree_of_row row = row.tree

abbrev pub declared_tree : List (List ℕ) → ℕ → List Row → List Flat
declared_tree path stamp rows = option_map_or tree_of_row (find (is_declared path stamp) rows) []

-- the acts of a task: those of a make's plan, or a wipe and a sync
abbrev pub acts_of : Task → Point → List Act
acts_of (task.Make path stamp) point = make_acts (is_held point.history stamp) (declared_tree path stamp point.book.rows)
acts_of (task.Wipe path) point = act.Wipe ∷ act.Sync ∷ []

-- how a task ends whose acts came to an outcome: a wipe that was carried out ends wiped
abbrev pub ends_as : Task → Outcome → Outcome
ends_as (task.Make path stamp) ended = ended
ends_as (task.Wipe path) ended = outcome.Wiped

-- some acts for a task: they are carried out up to the first that fails, and so the task ends
abbrev pub carried : Task → List Act → Scene → Scene
carried task acts scene = record {
  point = worked task (ends_as task (outcome_of scene.blobs acts)) scene.point;
  blobs = scene.blobs;
  asks = asks_after scene.blobs acts scene.asks;
  disk = with_nodes (path_of_task task) (left_by (acts_done scene.blobs acts) (nodes_below (path_of_task task) scene.disk)) scene.disk;
}

-- a make
abbrev pub made : Task → Scene → Scene
made task scene = carried task (acts_of task scene.point) scene

abbrev pub made_if : Scene → Option Task → Scene
made_if scene None = scene
made_if scene (Some task) = made task scene

-- the work state of a daemon between two lines: no job runs, and no part of the disk is debris
abbrev pub idle : WorkState
idle = idle_work []

-- the make that comes first, if there is one
abbrev pub make_first : Scene → Scene
make_first scene = made_if scene (first_task idle scene.point.book)

-- some makes, each the first one then
abbrev pub makes : ℕ → Scene → Scene
makes zero scene = scene
makes (suc count) scene = makes count (make_first scene)

-- a make for each open ticket, as far as there is one
abbrev pub drain : Scene → Scene
drain scene = makes (count_by is_open scene.point.book.tickets) scene

-- ---- what is told

-- what a line is answered, and where the run is then
pub record Told : Type 0 where
  pub text : List ℕ
  pub scene : Scene

-- a reply's line, and the lines of the tickets that were answered since
abbrev pub told_since : Point → List ℕ → Scene → Told
told_since before text scene = record {
  text = text ++ codes "\n"
      ++ answer_lines (next before) (length scene.point.history - length before.history) scene.point.book.tickets;
  scene = scene;
}

abbrev pub told_not_yet : Scene → Told
told_not_yet scene = record { text = not_yet_text; scene = scene }

-- a request that isn't served yet: an enter that is soft, or that refuses another state, or beside a live command, a write or a declaration over a row,
-- and any but these and an ensure
abbrev pub is_not_yet : Request → Book → Bool
is_not_yet (request.Enter command state soft refuse) book = soft || (refuse || not (length book.live == 0))
is_not_yet (request.Leave command) book = true
is_not_yet (request.Write command path bytes) book = is_live command book && list_any (overlaps_row path) book.rows
is_not_yet (request.Declare command path tree) book = is_live command book && list_any (overlaps_row path) book.rows
is_not_yet (request.Copy command path source) book = true
is_not_yet (request.Matches command path sum) book = true
is_not_yet (request.Has command path) book = true
is_not_yet (request.Ensure command path) book = false
is_not_yet (request.Invalidate command path) book = true
is_not_yet (request.Clean cutoff mode) book = true
is_not_yet request.Flush book = true

-- a request that was served, from a scene
abbrev pub asked_scene : Asked → Scene → Scene
asked_scene request scene = record scene { point = (ask request scene.point).point }

abbrev pub tell_asked : Asked → Scene → Told
tell_asked request scene = told_since scene.point (reply_text (ask request scene.point).reply) (asked_scene request scene)

-- bytes were put into the store
abbrev pub tell_stored : Digest → List ℕ → Scene → Told
tell_stored digest bytes scene = record {
  text = said_line (said.Stored digest);
  scene = record scene { blobs = with_blob digest bytes scene.blobs };
}

-- an item; those that aren't served yet are told so
abbrev pub tell_item : Item → Scene → Told
tell_item (item.Request asked) scene =
    if is_not_yet asked scene.point.book then told_not_yet scene else tell_asked (asked_of asked) scene
tell_item item.Drain scene = told_since scene.point (codes "drained") (drain scene)
tell_item (item.Show path) scene = record {
  text = said_line (said.Shown (nodes_there path scene.point.book.rows scene.disk));
  scene = scene;
}
tell_item (item.Blob bytes) scene = tell_stored (digest_of bytes) bytes scene
tell_item (item.Lie digest bytes) scene = tell_stored digest bytes scene
tell_item (item.At moment) scene = told_not_yet scene
tell_item (item.Step worker) scene = told_not_yet scene
tell_item item.Asks scene = record { text = said_line (said.Asks scene.asks); scene = scene }
tell_item (item.Fail device k) scene = told_not_yet scene
tell_item (item.Stop k pick) scene = told_not_yet scene
tell_item item.Restart scene = told_not_yet scene

-- a line; one that ends the script is answered nothing
abbrev pub tell : Line → Scene → Told
tell line.Skip scene = record { text = []; scene = scene }
tell line.End scene = record { text = []; scene = scene }
tell line.Unread scene = record { text = unread_text; scene = scene }
tell (line.Item it) scene = tell_item it scene
tell line.NoMemory scene = record { text = []; scene = scene }

-- some lines in turn
abbrev pub tell_lines : List (List ℕ) → Scene → Told
tell_lines [] scene = record { text = []; scene = scene }
tell_lines (text ∷ texts) scene =
    let told = tell (line_of text) scene in
    let rest = tell_lines texts told.scene in
    record { text = told.text ++ rest.text; scene = rest.scene }
