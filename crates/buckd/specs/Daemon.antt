-- A daemon as a point of a run.
use Rattle.std.specs.Prelude.{◌≡◌, ◌++◌, ℕ, true, false, List, []}
use Rattle.mat_model.specs.declared.book.Book.{Book}
use Rattle.mat_model.specs.declared.answers.Reply.{Reply}
use Rattle.mat_model.specs.declared.entries.Task.{Task}
use Rattle.mat_model.specs.declared.entries.Task.TheVariants as task
use Rattle.mat_model.specs.Gate.{Served}
use Rattle.buckd.specs.declared.daemon.Daemon.{Daemon}
use Rattle.mat_model.specs.declared.requests.Asked.{Asked}
use Rattle.mat_model.specs.declared.entries.Outcome.{Outcome}
use Rattle.mat_model.specs.declared.entries.Outcome.TheVariants as outcome
use Rattle.mat_path.specs.Names.{is_prefix}
use Rattle.mat_tree.specs.declared.flat.Flat.{Flat}
use Rattle.mat_tree.specs.Parts.{HasTree, below}
use Rattle.write_plan.specs.declared.act.Act.{Act}
use Rattle.fetch_port.specs.Memory.{blobs_of, store_asks}
use Rattle.region_port.specs.Disks.{disk_content, disk_rough}
use Rattle.buckd.specs.Making.{acts_done, asks_after, left_by, no_nodes, outcome_of, shown_by, with_nodes}
use Rattle.buckd.specs.Run.{Point, Scene, Told, ask, asked_scene}

-- what the daemon's book is: the first entry has number 0, and the moment is 0
abbrev pub book_of : Daemon → Book
book_of d = record {
  first = 0;
  now = 0;
  state = d.state;
  live = d.live.items;
  waiting = [];
  soft = [];
  rows = d.rows.items;
  holds = d.holds.items;
  tickets = d.tickets.items;
}

-- where the daemon is in its run
abbrev pub point_of : Daemon → Point
point_of d = record { book = book_of d; history = d.history.items }

-- the same with its devices
abbrev pub scene_of : Daemon → Scene
scene_of d = record {
  point = point_of d;
  blobs = blobs_of d.store;
  asks = store_asks d.store;
  disk = shown_by (disk_content d.disk);
}

-- a request was answered as the definitions say, and changed the book as they say, and the history not yet, and no device
pub record Serves (served : Served) (old new : Daemon) (given : Reply) : Type 0 where
  pub reply : given ≡ served.reply
  pub book : book_of new ≡ served.book
  pub history : new.history.items ≡ old.history.items
  pub disk : new.disk ≡ old.disk
  pub store : new.store ≡ old.store

-- a request was answered and entered as the definitions say
pub record Steps (request : Asked) (old new : Daemon) (given : Reply) : Type 0 where
  pub reply : given ≡ (ask request (point_of old)).reply
  pub scene : scene_of new ≡ asked_scene request (scene_of old)

-- a line was answered as the definitions say: its text was added, and the daemon is where they say
pub record Tells (told : Told) (new : Daemon) (before after : List ℕ) : Type 0 where
  pub text : after ≡ before ++ told.text
  pub scene : scene_of new ≡ told.scene

-- the task of a make, by the path and the stamp of its row
abbrev pub task_for : List (List ℕ) × ℕ → Task
task_for pair = task.Make pair.0 pair.1

-- the part of the disk at a path was made by some acts, up to the first that failed: it has a tree, and is synced, where
-- none did; what the disk shows elsewhere stays
pub record Makes (path : List (List ℕ)) (acts : List Act) (tree : List Flat) (old new : Daemon) (ended : Outcome) : Type 0 where
  pub ends : ended ≡ outcome_of (blobs_of old.store) acts
  pub asks : store_asks new.store ≡ asks_after (blobs_of old.store) acts (store_asks old.store)
  pub shown : shown_by (disk_content new.disk)
      ≡ with_nodes path (left_by (acts_done (blobs_of old.store) acts) no_nodes) (shown_by (disk_content old.disk))
  pub holds : ended ≡ outcome.Made → HasTree (below path (disk_content new.disk)) tree
  pub synced : ended ≡ outcome.Made → (place : List (List ℕ)) → is_prefix path place ≡ true → disk_rough new.disk place ≡ false
  pub elsewhere : (place : List (List ℕ)) → is_prefix path place ≡ false → disk_rough new.disk place ≡ disk_rough old.disk place
