-- What a core keeps through a request that may call the state store.
use Rattle.std.proofs.Common.{◌≡◌, ◌≤◌, ℕ, Bool, true, false, cond, nat_lt, count_by, List, [], ◌∷◌, ◌++◌, Option, Some, None, refl, sym, ap, subst, ◌∙◌, le_refl, length, arith}
use Rattle.std.specs.Option.{ForSome}
use Rattle.std.proofs.lemmas.Bool.{both_ways}
use Rattle.hall_lock.specs.declared.By.{By}
use Rattle.mat_tree.specs.Parts.{Part}
use Rattle.mat_model.specs.declared.answers.FaultNote.{FaultNote}
use Rattle.mat_model.specs.declared.answers.Reply.{Reply}
use Rattle.mat_model.specs.declared.answers.Reply.TheVariants as reply
use Rattle.mat_model.specs.declared.book.Book.{Book}
use Rattle.mat_model.specs.declared.entries.Entry.{Entry}
use Rattle.mat_model.specs.declared.entries.Event.{Event}
use Rattle.mat_model.specs.declared.entries.Event.TheVariants as event
use Rattle.mat_model.specs.declared.requests.Asked.{Asked}
use Rattle.mat_model.specs.declared.requests.Request.{Request}
use Rattle.mat_model.specs.declared.requests.Request.TheVariants as request
use Rattle.mat_model.specs.History.{Point, after, opened}
use Rattle.mat_model.specs.Legal.{IsLegalEntry, IsNoteFrom, MayAsk, count_behind, end_of_time, is_of, note_of, note_of_end}
use Rattle.mat_model.specs.Room.{full_asked}
use Rattle.mat_model.specs.WorkState.{Job}
use Rattle.model_laws.specs.PointRules.{IsPoint}
use Rattle.model_laws.proofs.LegalLemmas.{after_all-push, history-all}
use Rattle.model_laws.proofs.PointLemmas.{entry_point}
use Rattle.core_laws.specs.Loans.{AreLoans}
use Rattle.core_laws.specs.Stored.{AreCounted, HasDiskRisen, IsNoteWithin, IsStore}
use Rattle.core_laws.proofs.CountLemmas.{entry_counted}
use Rattle.core_laws.proofs.PointMoves.{request_jobs}
use Rattle.core_laws.proofs.RuleMoves.{asked_tied, request_disk}
use Rattle.region_port.specs.Calls.{Paths}
use Rattle.core_devices.specs.Events.{AreSameParts, HasAgain}
use Rattle.core_devices.specs.Removals.{IsStoreNote}
use Rattle.core_devices.specs.Told.{ToldDisk, ToldStore}
use Rattle.mat_core.specs.Asks.{request_asks}
use Rattle.mat_core.specs.Books.{StandFor}
use Rattle.mat_core.specs.Cores.{AreDevices, IsCore, IsSeen, IsSound, Seen, each_stamp, point_in, seen_of}
use Rattle.mat_core.specs.Enters.{is_free_leave}
use Rattle.mat_core.specs.Keeping.{AsksSo, TellsStore, WasAsked, WasNotAsked, asked_entry, asks_store, moment_at}
use Rattle.mat_core.specs.Served.{full_of, is_entered, is_quiet, is_want}
use Rattle.mat_core.specs.declared.base.Base.{Base}
use Rattle.mat_core.specs.declared.parts.Parts.{Parts}
use Rattle.mat_core.proofs.CallLemmas.{entered_facts, quiet_facts, time_raised}
use Rattle.mat_core.proofs.CoreBegins.{store_note_apart}
use Rattle.mat_core.proofs.CoreLemmas.{seen_is, seen_point}
use Rattle.mat_core.proofs.EventLemmas.{seen_after, seen_again}
use Rattle.mat_core.proofs.StoreCalls.{never_asked, never_wanted, nothing_due}

-- ---- notes

-- a note of the state store, if there is one, begins no earlier than those of a history, and ends at the count
pub any_note_apart : (history : List Entry) (before now disk : ℕ) (noted : Option FaultNote) → AreCounted history before disk → before ≤ now →
    IsStoreNote before now noted → IsNoteFrom (count_behind 0 history) noted
any_note_apart history before now disk None counted risen told = tt
any_note_apart history before now disk (Some note) counted risen told = store_note_apart history before now disk note counted risen told

pub any_note_within : (before now : ℕ) (noted : Option FaultNote) → IsStoreNote before now noted → IsNoteWithin now noted
any_note_within before now None told = tt
any_note_within before now (Some note) told = let upto : note.after ≡ now = ap (λ (n : FaultNote). n.after) told.0 in omega (arith, upto)

-- ---- devices

-- a disk has what it has
same_parts : (content : Option Part) (rough : Paths) → AreSameParts content rough content rough
same_parts None rough = tt
same_parts (Some content) rough = record { node = λ path below. refl; rough = λ path below. refl }

pub same_again : (disk : ToldDisk) → HasAgain disk disk
same_again disk = record { parts = same_parts disk.content disk.rough; lent = refl; faults = le_refl disk.faults; watch = λ counted. refl }

module _ (identity first : ℕ) (check : Bool) (Sound : Type 0) (point : Point) (entry : Entry) (request : Asked) (disk : ToldDisk)
    (store now_store : ToldStore) (rules : IsPoint point) (asks : entry.event ≡ event.Asked request)
    (follows : IsPoint (after point entry)) (replied : Rattle.mat_model.specs.Legal.IsReplied point entry)
    (recorded : Rattle.mat_model.specs.Legal.IsRecorded point entry)
    (rows : ForSome store.rows (IsStore identity point.kept) → ForSome now_store.rows (IsStore identity (after point entry).kept))
    (faults : store.faults ≤ now_store.faults) (within : IsNoteWithin now_store.faults (note_of entry.reply))
    (devices : AreDevices identity first check Sound point disk store) where
  -- the devices keep their rules through a request that leaves the disk
  asked_devices : AreDevices identity first check Sound (after point entry) disk now_store
  asked_devices = record {
    loans = subst (λ (jobs : List Job). AreLoans jobs disk.lent) (sym (request_jobs point entry request asks)) devices.loans;
    tied = λ content told_so spoken may.
        asked_tied spoken point entry request disk.lent content disk.rough rules.book.apart asks (devices.tied content told_so spoken may);
    sound = λ sound content told_so. request_disk each_stamp point entry request disk.lent content disk.rough rules.work rules.kept replied recorded asks
        follows.work (λ row among. refl) (devices.sound sound content told_so);
    store = rows devices.store;
    counted = entry_counted point.history entry store.faults disk.faults now_store.faults disk.faults faults (le_refl disk.faults) within
        (subst (λ (e : Event). HasDiskRisen disk.faults (note_of_end e)) (sym asks) tt) devices.counted;
  }

-- ---- the core

module _ {D K : Type 0} (told : D → ToldDisk) (stored : K → ToldStore) (old new : Parts D K) (by : By) (now : ℕ) (asking : Asked) (said : Reply)
    (core : IsCore told stored old) (numbered : by.number ≡ count_by (is_of by.caller) old.history.items) (may : MayAsk asking)
    (within : nat_lt now end_of_time ≡ true)
    (so : AsksSo (point_in (seen_of old)) by now asking old new (stored old.keeper) (stored new.keeper) said) where
  abbrev the_point : Point
  the_point = point_in (seen_of old)

  abbrev the_entry : Entry
  the_entry = asked_entry by (moment_at the_point now) asking said

  the_rules : IsPoint the_point
  the_rules = seen_point told stored (seen_of old) core.seen

  module _ (enters : is_entered said ≡ true) where
    abbrev was : WasAsked the_point by now asking said old new (stored old.keeper) (stored new.keeper)
    was = so.entered enters

    entry_legal : IsLegalEntry old.base.limits the_point the_entry
    entry_legal = record {
      follows = record {
        reply = was.replied;
        moment = sym was.moment ∙ ap (λ (b : Book). b.now) was.stands.book;
        number = numbered ∙ ap (count_by (is_of by.caller)) (sym (history-all (opened old.base.opening.value) old.history.items));
        order = tt;
      };
      room = sym (so.full (entered_facts said enters).0) ∙ (entered_facts said enters).1;
      recorded = so.recorded (event.Asked asking);
      notes = any_note_apart the_point.history (stored old.keeper).faults (stored new.keeper).faults (told old.disk).faults (note_of said)
          core.seen.devices.counted was.faults was.note;
      faulted = tt;
      askable = may;
      time = time_raised the_point.book.now now within;
    }

    abbrev seen_behind : Seen D K
    seen_behind = record { base = old.base; history = old.history.items ++ the_entry ∷ []; disk = old.disk; keeper = new.keeper }

    same_seen : seen_of new ≡ seen_behind
    same_seen = seen_is new seen_behind was.same.base was.history was.disk refl

    seen_kept : IsSeen told stored seen_behind
    seen_kept = seen_after told stored (seen_of old) core.seen the_entry old.disk new.keeper entry_legal
        (asked_devices old.base.identity (length old.base.opening.value.rows) old.base.check
        (IsSound old.base.identity (told old.base.disk.value) (stored old.base.keeper.value)) the_point the_entry asking (told old.disk)
        (stored old.keeper) (stored new.keeper) the_rules refl (entry_point the_point the_entry (tt, may) the_rules) was.replied
        (so.recorded (event.Asked asking)) was.rows was.faults
        (any_note_within (stored old.keeper).faults (stored new.keeper).faults (note_of said) was.note) core.seen.devices)

    core_behind : IsCore told stored new
    core_behind = record {
      seen = subst (IsSeen told stored) (sym same_seen) seen_kept;
      stands = subst (StandFor new)
          (sym (ap point_in same_seen ∙ after_all-push (opened old.base.opening.value) old.history.items the_entry)) was.stands;
      reserves = was.reserves;
      lost = was.same.lost ∙ core.lost ∙ ap (λ (b : Base D K). b.opening.value.lost) (sym was.same.base);
      ready = was.ready core.ready;
    }

  module _ (stays : is_entered said ≡ false) where
    abbrev still : WasNotAsked old new (stored old.keeper) (stored new.keeper)
    still = so.unchanged stays

    abbrev seen_still : Seen D K
    seen_still = record { base = old.base; history = old.history.items; disk = old.disk; keeper = new.keeper }

    same_still : seen_of new ≡ seen_still
    same_still = seen_is new seen_still still.still.same.base still.still.history still.disk refl

    core_still : IsCore told stored new
    core_still = record {
      seen = subst (IsSeen told stored) (sym same_still)
          (seen_again told stored (seen_of old) core.seen old.disk new.keeper (same_again (told old.disk)) still.kept.rows still.kept.faults);
      stands = subst (λ s. StandFor new (point_in s)) (sym same_still) (still.still.stands the_point core.stands);
      reserves = still.still.reserves;
      lost = still.still.same.lost ∙ core.lost ∙ ap (λ (b : Base D K). b.opening.value.lost) (sym still.still.same.base);
      ready = still.still.ready core.ready;
    }

  -- a core keeps its rules through such a request
  pub core_kept : IsCore told stored new
  core_kept = elim (is_entered said) as (λ b. is_entered said ≡ b → IsCore told stored new) [ true ↦ core_behind | false ↦ core_still ] refl

  -- what it began with stays, and so does the disk
  pub kept_base : new.base ≡ old.base
  kept_base = elim (is_entered said) as (λ b. is_entered said ≡ b → new.base ≡ old.base) [
    | true ↦ λ is. (so.entered is).same.base
    | false ↦ λ is. (so.unchanged is).still.same.base
  ] refl

  pub kept_disk : new.disk ≡ old.disk
  kept_disk = elim (is_entered said) as (λ b. is_entered said ≡ b → new.disk ≡ old.disk) [
    | true ↦ λ is. (so.entered is).disk
    | false ↦ λ is. (so.unchanged is).disk
  ] refl

  -- the moment of its entry is the book's
  pub kept_history : new.history.items
      ≡ cond (is_entered said) (old.history.items ++ asked_entry by (point_in (seen_of new)).book.now asking said ∷ []) old.history.items
  kept_history = elim (is_entered said) as (λ b. is_entered said ≡ b →
      new.history.items ≡ cond b (old.history.items ++ asked_entry by (point_in (seen_of new)).book.now asking said ∷ []) old.history.items) [
        | true ↦ λ is. (so.entered is).history
            ∙ ap (λ n. old.history.items ++ asked_entry by n asking said ∷ [])
            (sym (so.entered is).moment ∙ ap (λ (b : Book). b.now) core_kept.stands.book)
        | false ↦ λ is. (so.unchanged is).still.history
      ] refl

  -- what contracts see of the state store
  note_unsaid : is_entered said ≡ false → IsStoreNote (stored old.keeper).faults (stored new.keeper).faults (note_of said)
  note_unsaid is = subst (IsStoreNote (stored old.keeper).faults (stored new.keeper).faults) (sym (unsaid said is)) tt
    where
      unsaid : (given : Reply) → is_entered given ≡ false → note_of given ≡ None
      unsaid reply.Entered is = absurd (both_ways true is refl)
      unsaid (reply.Took n) is = absurd (both_ways true is refl)
      unsaid (reply.Left n) is = absurd (both_ways true is refl)
      unsaid (reply.Declared n) is = absurd (both_ways true is refl)
      unsaid (reply.Kept n) is = absurd (both_ways true is refl)
      unsaid (reply.Same n) is = absurd (both_ways true is refl)
      unsaid reply.Other is = absurd (both_ways true is refl)
      unsaid reply.Nothing is = absurd (both_ways true is refl)
      unsaid (reply.Stands n) is = absurd (both_ways true is refl)
      unsaid (reply.NotMade n) is = absurd (both_ways true is refl)
      unsaid (reply.Ready n sum) is = absurd (both_ways true is refl)
      unsaid (reply.Asked n) is = absurd (both_ways true is refl)
      unsaid (reply.Invalid n) is = absurd (both_ways true is refl)
      unsaid (reply.Cleaned dry rows strays) is = absurd (both_ways true is refl)
      unsaid (reply.Flushed n) is = absurd (both_ways true is refl)
      unsaid reply.NotLive is = absurd (both_ways true is refl)
      unsaid reply.Known is = absurd (both_ways true is refl)
      unsaid (reply.Differs n) is = absurd (both_ways true is refl)
      unsaid (reply.Queued n) is = absurd (both_ways true is refl)
      unsaid reply.Unknown is = absurd (both_ways true is refl)
      unsaid (reply.Busy n) is = absurd (both_ways true is refl)
      unsaid reply.NoSource is = absurd (both_ways true is refl)
      unsaid reply.TooLong is = absurd (both_ways true is refl)
      unsaid reply.Undeclared is = absurd (both_ways true is refl)
      unsaid (reply.Fault note) is = absurd (both_ways true is refl)
      unsaid (reply.Full which) is = refl
      unsaid reply.NoMemory is = refl
      unsaid reply.Started is = absurd (both_ways true is refl)
      unsaid (reply.Refused note) is = absurd (both_ways true is refl)
      unsaid (reply.Fresh how) is = absurd (both_ways true is refl)
      unsaid reply.Stale is = absurd (both_ways true is refl)

  pub kept_store : TellsStore the_point asking said (stored old.keeper) (stored new.keeper)
  kept_store = elim (is_entered said) as (λ b. is_entered said ≡ b → TellsStore the_point asking said (stored old.keeper) (stored new.keeper)) [
    | true ↦ λ is. record {
      still = (so.entered is).still;
      faults = (so.entered is).faults;
      note = (so.entered is).note;
      called = λ enters. (so.entered is).called;
      wanted = λ stays. absurd (both_ways (is_entered said) stays is);
    }
    | false ↦ λ is. record {
      still = λ leaves. (so.unchanged is).kept.rows;
      faults = (so.unchanged is).kept.faults;
      note = note_unsaid is;
      called = λ enters. absurd (both_ways (is_entered said) is enters);
      wanted = λ stays. (so.unchanged is).called;
    }
  ] refl

  pub kept_full : is_want said ≡ false → full_of said ≡ full_asked old.base.limits the_point (moment_at the_point now) asking
  kept_full not_want = so.full not_want

-- ---- requests

-- a request that may call the state store is no leave
pub no_leave : (one : Request) (book : Book) → asks_store (request_asks one) ≡ true → is_free_leave (request_asks one) book ≡ false
no_leave (request.Enter command state soft refuse) book is = refl
no_leave (request.Leave command) book is = absurd (both_ways false refl is)
no_leave (request.Write command path bytes) book is = refl
no_leave (request.Declare command path tree) book is = refl
no_leave (request.Copy command path source) book is = refl
no_leave (request.Matches command path sum) book is = refl
no_leave (request.Has command path) book is = refl
no_leave (request.Ensure command path) book is = refl
no_leave (request.Invalidate command path) book is = refl
no_leave (request.Clean cutoff mode) book is = refl
no_leave request.Flush book is = refl

-- what contracts see of the state store where it isn't called
pub quiet_store : (one : Request) (point : Point) (said : Reply) (store now_store : ToldStore) → asks_store (request_asks one) ≡ false → is_quiet said ≡ true →
    now_store ≡ store → TellsStore point (request_asks one) said store now_store
quiet_store one point said store now_store none quiet same = record {
  still = λ leaves. ap (λ (s : ToldStore). s.rows) same;
  faults = let counts = ap (λ (s : ToldStore). s.faults) same in omega (arith, counts);
  note = subst (IsStoreNote store.faults now_store.faults) (sym (quiet_facts said quiet).note) tt;
  called = λ enters. never_asked point (request_asks one) said store now_store (nothing_due one point none) (quiet_facts said quiet).note same;
  wanted = λ stays. never_wanted store now_store same;
}
