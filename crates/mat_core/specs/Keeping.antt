-- A request that may call the state store: what it did, by its reply.
use Rattle.std.specs.Prelude.{◌≡◌, ◌≤◌, ◌++◌, ◌∷◌, [], ℕ, max, Bool, true, false}
use Rattle.std.specs.Option.{ForSome}
use Rattle.hall_lock.specs.declared.By.{By}
use Rattle.mat_model.specs.declared.answers.Reply.{Reply}
use Rattle.mat_model.specs.declared.entries.Entry.{Entry}
use Rattle.mat_model.specs.declared.entries.Event.{Event}
use Rattle.mat_model.specs.declared.entries.Event.TheVariants as event
use Rattle.mat_model.specs.declared.requests.Asked.{Asked}
use Rattle.mat_model.specs.declared.requests.Asked.TheVariants as asked
use Rattle.mat_model.specs.History.{Point, after}
use Rattle.mat_model.specs.Legal.{IsRecordedAs, note_of}
use Rattle.mat_model.specs.Room.{full_asked}
use Rattle.model_laws.specs.RowRules.{served_at}
use Rattle.core_laws.specs.Stored.{IsStore, leaves_kept}
use Rattle.core_devices.specs.Removals.{IsStoreNote}
use Rattle.core_devices.specs.Told.{ToldStore}
use Rattle.mat_core.specs.Begins.{IsKeptStill, IsSameCore, IsStill}
use Rattle.mat_core.specs.Books.{StandFor}
use Rattle.mat_core.specs.Calls.{CallsAsDue, MayWant}
use Rattle.mat_core.specs.Orders.{AreReady}
use Rattle.mat_core.specs.Rooms.{HasReserves}
use Rattle.mat_core.specs.Served.{full_of, is_entered, is_want}
use Rattle.mat_core.specs.declared.parts.Parts.{Parts}

-- whether a request may call the state store
abbrev pub asks_store : Asked → Bool
asks_store (asked.Invalidate command path) = true
asks_store (asked.Clean cutoff mode) = true
asks_store asked.Flush = true
asks_store _ = false

-- the entry of what was asked, with its reply
abbrev pub asked_entry : By → ℕ → Asked → Reply → Entry
asked_entry by moment request said = record { by = by; now = moment; event = event.Asked request; reply = said }

-- the moment of a point's next entry, where one is handed
abbrev pub moment_at : Point → ℕ → ℕ
moment_at point now = max point.book.now now

-- a request was entered at a point with a reply: that of the definitions, and the parts stand for the point behind it
pub record WasAsked {D K : Type 0} (point : Point) (by : By) (now : ℕ) (request : Asked) (said : Reply) (old new : Parts D K)
    (store now_store : ToldStore) : Type 0 where
  pub same : IsSameCore old new
  pub disk : new.disk ≡ old.disk
  pub replied : said ≡ (served_at point (asked_entry by (moment_at point now) request said)).reply
  pub moment : new.moment ≡ moment_at point now
  pub history : new.history.items ≡ old.history.items ++ asked_entry by (moment_at point now) request said ∷ []
  pub stands : StandFor new (after point (asked_entry by (moment_at point now) request said))
  pub reserves : HasReserves new
  pub ready : AreReady old → AreReady new
  -- where the state store had the kept rows of the point, it has those of the point behind the entry
  pub rows : ForSome store.rows (IsStore old.base.identity point.kept) →
      ForSome now_store.rows (IsStore old.base.identity (after point (asked_entry by (moment_at point now) request said)).kept)
  pub still : leaves_kept said ≡ true → now_store.rows ≡ store.rows
  pub faults : store.faults ≤ now_store.faults
  pub note : IsStoreNote store.faults now_store.faults (note_of said)
  pub called : CallsAsDue point request said store now_store

-- it wasn't entered: the parts stand for their point still, and the devices have what they had
pub record WasNotAsked {D K : Type 0} (old new : Parts D K) (store now_store : ToldStore) : Type 0 where
  pub still : IsStill old new
  pub disk : new.disk ≡ old.disk
  pub kept : IsKeptStill store now_store
  pub called : MayWant store now_store

-- what a request did at a point, by its reply
pub record AsksSo {D K : Type 0} (point : Point) (by : By) (now : ℕ) (request : Asked) (old new : Parts D K) (store now_store : ToldStore) (said : Reply) :
    Type 0 where
  -- it records nothing of a job
  pub recorded : (happened : Event) → IsRecordedAs happened said
  pub entered : is_entered said ≡ true → WasAsked point by now request said old new store now_store
  pub unchanged : is_entered said ≡ false → WasNotAsked old new store now_store
  -- a limit is told exactly where the request would pass it
  pub full : is_want said ≡ false → full_of said ≡ full_asked old.base.limits point (moment_at point now) request

-- what contracts see of the state store after any request: it has what it had where the kept rows stay, its count hasn't fallen, and a note is of a call
-- between the counts; it was called once where the request had something to remove or to store, and else not; that call failed just where the reply has a note,
-- and wanted memory only where nothing was entered
pub record TellsStore (point : Point) (request : Asked) (said : Reply) (store now_store : ToldStore) : Type 0 where
  pub still : leaves_kept said ≡ true → now_store.rows ≡ store.rows
  pub faults : store.faults ≤ now_store.faults
  pub note : IsStoreNote store.faults now_store.faults (note_of said)
  pub called : is_entered said ≡ true → CallsAsDue point request said store now_store
  pub wanted : is_entered said ≡ false → MayWant store now_store
