-- Room: which limit a request or a begin would pass.
use Rattle.std.specs.Prelude.{◌≡◌, ℕ, ◌+◌, nat_lt, ◌&&◌, Bool, true, false, not, if◌then◌else◌, List, length, count_by, filter, Option, Some, None}
use Rattle.std.specs.List.{list_any, sum_by}
use Rattle.mat_tree.specs.Trees.{bytes_of}
use Rattle.mat_model.specs.declared.answers.Limit.{Limit}
use Rattle.mat_model.specs.declared.answers.Limit.TheVariants as limit
use Rattle.mat_model.specs.declared.answers.Reply.{Reply}
use Rattle.mat_model.specs.declared.answers.Reply.TheVariants as reply
use Rattle.mat_model.specs.declared.book.Book.{Book}
use Rattle.mat_model.specs.declared.book.Row.{Row}
use Rattle.mat_model.specs.declared.entries.Entry.{Entry}
use Rattle.mat_model.specs.declared.entries.Event.{Event}
use Rattle.mat_model.specs.declared.entries.Event.TheVariants as event
use Rattle.mat_model.specs.declared.limits.Limits.{Limits}
use Rattle.mat_model.specs.declared.requests.Asked.{Asked}
use Rattle.mat_model.specs.declared.requests.Asked.TheVariants as asked
use Rattle.mat_model.specs.Gate.{Served}
use Rattle.mat_model.specs.History.{Point, request_context, next_number, nodes_of}
use Rattle.mat_model.specs.Kept.{KeptRow}
use Rattle.mat_model.specs.Requests.{serve}
use Rattle.mat_model.specs.Rows.{is_at_path}
use Rattle.mat_model.specs.Tickets.{is_open}
use Rattle.mat_model.specs.WorkState.{WayOf, is_held_way, way_of, ways_after}

-- the greatest limits that a daemon may have
abbrev pub greatest_limits : Limits
greatest_limits =
    record { history = 1000000; nodes = 1000000; rows = 200000; held = 268435456; asked = 200000; holds = 400000 }

-- how many entries are spent: those that are there, one for each running job, and one for each live or waiting command
abbrev pub spent : Point → ℕ
spent point = length point.history + length point.work.jobs + length point.book.live + length point.book.waiting

-- how many entries a request with its reply needs: an enter also that of its leave, and a leave that was granted none, since its enter took it
abbrev pub entries_for : Asked → Reply → ℕ
entries_for (asked.Enter command state soft refuse) said = 2
entries_for (asked.Leave command) (reply.Left count) = 0
entries_for _ _ = 1

-- whether a stored row is at no row's path
abbrev pub is_alone : List Row → KeptRow → Bool
is_alone rows kept = not (list_any (is_at_path kept.path) rows)

-- how many paths have a row, a stored row or both
abbrev pub row_paths : Book → List KeptRow → ℕ
row_paths book kept = length book.rows + length (filter (is_alone book.rows) kept)

-- how many bytes are held for a row
abbrev pub held_for : List WayOf → Row → ℕ
held_for ways row = if is_held_way (way_of row.stamp ways) then bytes_of row.tree else 0

abbrev pub held_bytes : List WayOf → List Row → ℕ
held_bytes ways rows = sum_by (held_for ways) rows

-- whether a command would wait as more than the 64th
abbrev pub waits_past : Reply → Bool
waits_past (reply.Queued place) = nat_lt 64 place
waits_past _ = false

-- whether a request counts its nodes whatever it is answered
abbrev pub is_declaration : Asked → Bool
is_declaration (asked.Write command path sum) = true
is_declaration (asked.Declare command path tree) = true
is_declaration _ = false

-- the first table that would be full after a request that was served so
abbrev pub full_table : Limits → Point → Asked → Served → Option Limit
full_table limits point request served =
    if waits_past served.reply then Some limit.Waiting
    else if nat_lt limits.nodes (point.nodes + nodes_of request served.reply point.book) then Some limit.Nodes
    else if nat_lt limits.rows (row_paths served.book point.kept) then Some limit.Rows
    else if nat_lt limits.held (held_bytes (ways_after request served.reply point.book.rows point.work.ways) served.book.rows) then Some limit.Held
    else if nat_lt limits.asked (count_by is_open served.book.tickets) then Some limit.Asked
    else if nat_lt limits.holds (length served.book.holds) then Some limit.Holds
    else None

-- the limit that a request would pass, the first in order, where it would be served so
abbrev pub full_served : Limits → Point → Asked → Served → Option Limit
full_served limits point request served =
    if nat_lt limits.history (spent point + entries_for request served.reply) then Some limit.History
    else if is_declaration request && nat_lt limits.nodes (point.nodes + nodes_of request served.reply point.book) then Some limit.Nodes
    else full_table limits point request served

-- the limit that a request at a moment would pass, if it would pass one
abbrev pub full_asked : Limits → Point → ℕ → Asked → Option Limit
full_asked limits point moment request =
    full_served limits point request (serve (next_number point) moment (request_context point) request point.book)

-- the limit that an event at a moment would pass: a begin needs room for its end too, and an end has it
abbrev pub full_event : Limits → Point → ℕ → Event → Option Limit
full_event limits point moment (event.Asked request) = full_asked limits point moment request
full_event limits point moment (event.Begin begun) = if nat_lt limits.history (spent point + 2) then Some limit.History else None
full_event limits point moment (event.Done job out) = None

-- there was room for an entry
abbrev pub HasRoom : Limits → Point → Entry → Type 0
HasRoom limits point entry = full_event limits point entry.now entry.event ≡ None
