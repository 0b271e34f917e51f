-- What holds of a daemon between two lines.
use Rattle.std.specs.Prelude.{◌≡◌, ◌<◌, ℕ, nat_lt, Bool, true, false, List, [], ◌∷◌, length, Option, Some, None}
use Rattle.std.specs.List.{list_all}
use Rattle.std.specs.Option.{option_map_or}
use Rattle.std.specs.BTreeMap.{get}
use Rattle.mat_path.specs.Names.{is_prefix, path_cmp}
use Rattle.mat_tree.specs.Trees.{IsTree, is_placed}
use Rattle.mat_model.specs.declared.book.Given.{Given}
use Rattle.mat_model.specs.declared.book.Row.{Row}
use Rattle.mat_model.specs.declared.book.Ticket.{Ticket}
use Rattle.mat_model.specs.declared.entries.Entry.{Entry}
use Rattle.mat_model.specs.OnDisk.{AreOnDisk}
use Rattle.mat_model.specs.Rows.{are_apart}
use Rattle.region_port.specs.Calls.{Paths}
use Rattle.region_port.specs.Disks.{disk_content, disk_loans, disk_rough}
use Rattle.write_plan.specs.declared.method.Method.{Method}
use Rattle.buckd.specs.declared.daemon.Daemon.{Daemon}
use Rattle.buckd.specs.Daemon.{point_of}
use Rattle.buckd.specs.Following.{IsFollowingAt}
use Rattle.buckd.specs.Making.{IsAtHand, is_write}
use Rattle.buckd.specs.Run.{is_held}
use Rattle.buckd.specs.Shows.{IsCovered}

-- where the bytes of the row at a path come from
abbrev pub Kept : Type 0
Kept = List (List ℕ) → Option Method

-- a row has a tree whose nodes stand at paths, its bytes are at hand by the method that is kept for it, and it holds them
-- exactly where the entry with its stamp is a write
pub record IsSupplied (history : List Entry) (kept : Kept) (row : Row) : Type 0 where
  pub tree : IsTree row.tree
  pub places : list_all (is_placed row.path) row.tree ≡ true
  pub method : Method
  pub found : kept row.path ≡ Some method
  pub bytes : IsAtHand method row.tree
  pub entered : row.stamp < length history
  pub held : is_held history row.stamp ≡ is_write method

-- the same of each row
abbrev pub AreSupplied : List Entry → Kept → List Row → Type 0
AreSupplied history kept [] = Unit {0}
AreSupplied history kept (row ∷ rows) = IsSupplied history kept row × AreSupplied history kept rows

-- at and below each row that stands, nothing of the disk is rough
abbrev pub AreSynced : Paths → List Row → Type 0
AreSynced rough [] = Unit {0}
AreSynced rough (row ∷ rows) =
    (row.stands ≡ true → (place : List (List ℕ)) → is_prefix row.path place ≡ true → rough place ≡ false) × AreSynced rough rows

-- the methods that a daemon keeps
abbrev pub kept_by : Daemon → Kept
kept_by d path = get path_cmp d.methods path

-- whether a ticket was answered by an entry below a number, or not yet
abbrev pub is_before : ℕ → Given → Bool
is_before number given = nat_lt given.at number

abbrev pub is_answered_before : ℕ → Ticket → Bool
is_answered_before number ticket = option_map_or (is_before number) ticket.answered true

-- the rows of a daemon are in order and apart, there is a state only with a live command, each row's bytes are at hand,
-- the disk has the trees of the rows that stand, all synced, and has nothing but what rows cover, and it is lent nowhere
pub record IsKeptWith (history : List Entry) (d : Daemon) : Type 0 where
  pub apart : are_apart d.rows.items ≡ true
  pub idle : length d.live.items ≡ 0 → d.state ≡ None
  pub supplied : AreSupplied history (kept_by d) d.rows.items
  pub held : AreOnDisk (disk_content d.disk) d.rows.items
  pub synced : AreSynced (disk_rough d.disk) d.rows.items
  pub covered : IsCovered (disk_content d.disk) d.rows.items
  pub free : disk_loans d.disk ≡ []

abbrev pub IsKept : Daemon → Type 0
IsKept d = IsKeptWith d.history.items d

-- no ticket was answered by an entry from a number on
abbrev pub IsPast : ℕ → Daemon → Type 0
IsPast number d = list_all (is_answered_before number) d.tickets.items ≡ true

-- a daemon that may serve: no ticket was answered by an entry that is still to come
pub record IsReady (d : Daemon) : Type 0 where
  pub kept : IsKept d
  pub past : IsPast (length d.history.items) d

-- a daemon between two lines: each entry of its history follows, and its book is the book of it
pub record IsSound (d : Daemon) : Type 0 where
  pub ready : IsReady d
  pub follows : IsFollowingAt (point_of d)

-- nothing changed but the holds, the tickets, the history and the store
pub record KeepsRows (old new : Daemon) : Type 0 where
  pub state : new.state ≡ old.state
  pub live : new.live ≡ old.live
  pub rows : new.rows ≡ old.rows
  pub methods : new.methods ≡ old.methods
  pub disk : new.disk ≡ old.disk

-- nothing changed but the disk and the store
pub record KeepsBook (old new : Daemon) : Type 0 where
  pub state : new.state ≡ old.state
  pub live : new.live ≡ old.live
  pub rows : new.rows ≡ old.rows
  pub methods : new.methods ≡ old.methods
  pub holds : new.holds ≡ old.holds
  pub tickets : new.tickets ≡ old.tickets
  pub history : new.history ≡ old.history

-- nothing changed but the rows and the tickets
pub record KeepsDisk (old new : Daemon) : Type 0 where
  pub state : new.state ≡ old.state
  pub live : new.live ≡ old.live
  pub methods : new.methods ≡ old.methods
  pub disk : new.disk ≡ old.disk
  pub store : new.store ≡ old.store
  pub history : new.history ≡ old.history
