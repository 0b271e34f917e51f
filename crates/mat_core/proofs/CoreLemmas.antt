-- What a core keeps through a request that calls no device.
use Rattle.std.proofs.Common.{◌≡◌, ℕ, ◌+◌, ◌<◌, ◌^◌, true, false, nat_lt, cond, count_by, List, [], ◌∷◌, ◌++◌, None, refl, sym, ap, subst, ◌∙◌, length, le_refl, arith}
use Rattle.mat_model.specs.declared.book.Book.{Book}
use Rattle.mat_model.specs.declared.entries.Entry.{Entry}
use Rattle.mat_model.specs.declared.entries.Event.{Event}
use Rattle.mat_model.specs.declared.entries.Event.TheVariants as event
use Rattle.mat_model.specs.declared.limits.Limits.{Limits}
use Rattle.mat_model.specs.declared.requests.Asked.{Asked}
use Rattle.mat_model.specs.declared.requests.Request.{Request}
use Rattle.mat_model.specs.declared.answers.Reply.{Reply}
use Rattle.hall_lock.specs.declared.By.{By}
use Rattle.mat_model.specs.History.{Point, after, after_all, opened}
use Rattle.mat_model.specs.Legal.{IsEach, IsLegalEntry, IsNumbered, MayAsk, end_of_time, is_of, note_of, note_of_end}
use Rattle.mat_model.specs.WorkState.{Job}
use Rattle.mat_model.specs.Room.{spent}
use Rattle.model_laws.specs.PointRules.{GoesOn, IsPoint}
use Rattle.model_laws.specs.RoomRules.{IsRoomy}
use Rattle.model_laws.specs.RowRules.{served_at}
use Rattle.model_laws.proofs.BooksKept.{first_stays}
use Rattle.model_laws.proofs.LegalLemmas.{after_all-push, each-push, history-all}
use Rattle.model_laws.proofs.PointLemmas.{entry_point, opened_point}
use Rattle.model_laws.proofs.RoomLemmas.{legal_roomy}
use Rattle.core_laws.specs.Loans.{AreLoans}
use Rattle.core_laws.specs.Stored.{HasDiskRisen, IsNoteWithin, IsStore, leaves_kept}
use Rattle.core_laws.proofs.CountLemmas.{entry_counted}
use Rattle.core_laws.proofs.PointMoves.{request_jobs}
use Rattle.core_laws.proofs.RuleMoves.{asked_tied, request_disk}
use Rattle.core_laws.proofs.StoreMoves.{entry_leaves}
use Rattle.mat_core.specs.Books.{StandFor}
use Rattle.mat_core.specs.Cores.{AreDevices, IsCore, IsSeen, IsSound, Seen, each_stamp, point_in, seen_of}
use Rattle.core_devices.specs.Told.{ToldDisk, ToldStore}
use Rattle.mat_core.specs.Replacing.{AreRuled}
use Rattle.mat_core.specs.Asks.{entry_of, request_asks}
use Rattle.mat_core.specs.Rooms.{HasReserves, spent_in}
use Rattle.mat_core.specs.Served.{AreSameDevices, StandsStill, is_entered, is_quiet}
use Rattle.mat_core.specs.declared.parts.Parts.{Parts}
use Rattle.mat_core.proofs.CallLemmas.{quiet_facts}
use Rattle.mat_core.proofs.ReadyLemmas.{entered_ready, still_ready}
use Rattle.mat_core.proofs.ServeLemmas.{spent_same}

-- entries that are legal go on rightly
each_goes_on : (limits : Limits) (point : Point) (entries : List Entry) → IsEach (IsLegalEntry limits) point entries → IsEach GoesOn point entries
each_goes_on limits point [] each = tt
each_goes_on limits point (entry ∷ entries) each =
    ((each.0.follows.order, each.0.askable), each_goes_on limits (after point entry) entries each.1)

-- the number of the first entry is that of the rows of the opening
first_all : (point : Point) (entries : List Entry) → (after_all point entries).book.first ≡ point.book.first
first_all point [] = refl
first_all point (entry ∷ entries) = first_all (after point entry) entries ∙ first_stays point entry

module _ {D K : Type 0} (told : D → ToldDisk) (stored : K → ToldStore) (seen : Seen D K) (is : IsSeen told stored seen) where
  -- a core's point keeps its rules, and is within the limits
  pub seen_point : IsPoint (point_in seen)
  seen_point = opened_point seen.base.opening.value seen.history is.opening
      (each_goes_on seen.base.limits (opened seen.base.opening.value) seen.history is.legal)

  pub seen_roomy : IsRoomy seen.base.limits (point_in seen)
  seen_roomy = legal_roomy seen.base.limits seen.base.opening.value seen.history is.within is.legal

  module _ (entry : Entry) (request : Asked) (asks : entry.event ≡ event.Asked request)
      (legal : IsLegalEntry seen.base.limits (point_in seen) entry) (kept : leaves_kept (served_at (point_in seen) entry).reply ≡ true)
      (noted : note_of entry.reply ≡ None) where
    later_point : IsPoint (after (point_in seen) entry)
    later_point = entry_point (point_in seen) entry (legal.follows.order, legal.askable) seen_point

    later_devices : AreDevices seen.base.identity (length seen.base.opening.value.rows) seen.base.check
        (IsSound seen.base.identity (told seen.base.disk.value) (stored seen.base.keeper.value)) (after (point_in seen) entry) (told seen.disk)
        (stored seen.keeper)
    later_devices = record {
      loans = subst (λ (jobs : List Job). AreLoans jobs (told seen.disk).lent) (sym (request_jobs (point_in seen) entry request asks)) is.devices.loans;
      tied = λ content told_so spoken may. asked_tied spoken (point_in seen) entry request (told seen.disk).lent content (told seen.disk).rough
          seen_point.book.apart asks (is.devices.tied content told_so spoken may);
      sound = λ sound content told_so. request_disk each_stamp (point_in seen) entry request (told seen.disk).lent content (told seen.disk).rough
          seen_point.work seen_point.kept legal.follows.reply legal.recorded asks later_point.work (λ row among. refl)
          (is.devices.sound sound content told_so);
      store = λ rows told_so. subst (λ k. IsStore seen.base.identity k rows) (sym (entry_leaves (point_in seen) entry kept))
          (is.devices.store rows told_so);
      counted = entry_counted (point_in seen).history entry (stored seen.keeper).faults (told seen.disk).faults (stored seen.keeper).faults
          (told seen.disk).faults (le_refl (stored seen.keeper).faults) (le_refl (told seen.disk).faults)
          (subst (IsNoteWithin (stored seen.keeper).faults) (sym noted) tt)
          (subst (λ (e : Event). HasDiskRisen (told seen.disk).faults (note_of_end e)) (sym asks) tt) is.devices.counted;
    }

    -- so does the core once the entry is there
    pub seen_entered : IsSeen told stored (record seen { history = seen.history ++ entry ∷ [] })
    seen_entered = record {
      limits = is.limits;
      opening = is.opening;
      within = is.within;
      legal = each-push (IsLegalEntry seen.base.limits) (opened seen.base.opening.value) seen.history entry is.legal legal;
      devices = subst (λ (p : Point). AreDevices seen.base.identity (length seen.base.opening.value.rows) seen.base.check
          (IsSound seen.base.identity (told seen.base.disk.value) (stored seen.base.keeper.value)) p (told seen.disk) (stored seen.keeper))
          (sym (after_all-push (opened seen.base.opening.value) seen.history entry)) later_devices;
    }

-- a core's number of the next entry is one of 64 bits, and so is what it has spent
pub core_bound : {D K : Type 0} (told : D → ToldDisk) (stored : K → ToldStore) (parts : Parts D K) → IsCore told stored parts →
    parts.first + spent_in parts + 2 < 2 ^ 64
core_bound told stored parts core =
    let point = point_in (seen_of parts) in
    let roomy = seen_roomy told stored (seen_of parts) core.seen in
    let first : parts.first ≡ length parts.base.opening.value.rows =
    ap (λ (b : Book). b.first) core.stands.book ∙ first_all (opened parts.base.opening.value) parts.history.items in
    let spent : spent_in parts ≡ spent point = spent_same parts point core.stands in
    omega (arith, first, spent, roomy.history, core.seen.within, core.seen.limits.rows, core.seen.limits.history)

-- a core's parts stand for a point that keeps its rules and is within the limits
pub core_rules : {D K : Type 0} (told : D → ToldDisk) (stored : K → ToldStore) (parts : Parts D K) → IsCore told stored parts →
    AreRuled (parts.first + length parts.history.items) parts
core_rules told stored parts core = record {
  point = point_in (seen_of parts);
  stands = core.stands;
  rules = seen_point told stored (seen_of parts) core.seen;
  roomy = seen_roomy told stored (seen_of parts) core.seen;
  limits = core.seen.limits;
  next = sym (ap (λ (b : Book). b.first + length parts.history.items) core.stands.book
      ∙ ap (λ h. (point_in (seen_of parts)).book.first + length h) core.stands.history);
}

-- a core keeps its rules once a request is entered
pub core_entered : {D K : Type 0} (told : D → ToldDisk) (stored : K → ToldStore) (old new : Parts D K) (entry : Entry) (request : Asked) →
    IsCore told stored old → entry.event ≡ event.Asked request → IsLegalEntry old.base.limits (point_in (seen_of old)) entry →
    leaves_kept (served_at (point_in (seen_of old)) entry).reply ≡ true → note_of entry.reply ≡ None →
    seen_of new ≡ record (seen_of old) { history = old.history.items ++ entry ∷ [] } → StandFor new (after (point_in (seen_of old)) entry) →
    HasReserves new → new.lost ≡ old.lost → new.jobs ≡ old.jobs → IsCore told stored new
core_entered {D} {K} told stored old new entry request core asks legal kept noted same stands reserves lost jobs = record {
  reserves = reserves;
  lost = lost ∙ core.lost ∙ ap (λ (s : Seen D K). s.base.opening.value.lost) (sym same);
  seen = subst (IsSeen told stored) (sym same) (seen_entered told stored (seen_of old) core.seen entry request asks legal kept noted);
  stands = subst (StandFor new)
      (sym (ap point_in same ∙ after_all-push (opened old.base.opening.value) old.history.items entry)) stands;
  ready = entered_ready old new (point_in (seen_of old)) core.stands (ap (λ (s : Seen D K). s.base) same) jobs core.ready entry
      (seen_point told stored (seen_of old) core.seen) stands;
}

-- and where nothing is entered
pub core_stays : {D K : Type 0} (told : D → ToldDisk) (stored : K → ToldStore) (old new : Parts D K) → IsCore told stored old →
    seen_of new ≡ seen_of old → StandsStill old new → HasReserves new → new.lost ≡ old.lost → new.jobs ≡ old.jobs → IsCore told stored new
core_stays {D} {K} told stored old new core same still reserves lost jobs = record {
  reserves = reserves;
  lost = lost ∙ core.lost ∙ ap (λ (s : Seen D K). s.base.opening.value.lost) (sym same);
  seen = subst (IsSeen told stored) (sym same) core.seen;
  stands = subst (λ s. StandFor new (point_in s)) (sym same) (still (point_in (seen_of old)) core.stands);
  ready = still_ready old new (point_in (seen_of old)) core.stands (ap (λ (s : Seen D K). s.base) same) jobs core.ready
      (still (point_in (seen_of old)) core.stands);
}

-- what contracts see of some parts, by what they are
pub seen_is : {D K : Type 0} (parts : Parts D K) (seen : Seen D K) → parts.base ≡ seen.base → parts.history.items ≡ seen.history → parts.disk ≡ seen.disk →
    parts.keeper ≡ seen.keeper → seen_of parts ≡ seen
seen_is {D} {K} parts seen base history disk keeper =
    ap (λ b. record { base = b; history = parts.history.items; disk = parts.disk; keeper = parts.keeper }) base
    ∙ ap (λ h. record { base = seen.base; history = h; disk = parts.disk; keeper = parts.keeper }) history
    ∙ ap (λ d. record { base = seen.base; history = seen.history; disk = d; keeper = parts.keeper }) disk
    ∙ ap (λ k. record { base = seen.base; history = seen.history; disk = seen.disk; keeper = k }) keeper

module _ {D K : Type 0} (told : D → ToldDisk) (stored : K → ToldStore) (old new : Parts D K) (by : By) (now : ℕ) (request : Request) (said : Reply)
    (core : IsCore told stored old) (quiet : is_quiet said ≡ true)
    (stands : is_entered said ≡ true → (point : Point) → StandFor old point → IsPoint point → StandFor new (after point (entry_of by new.moment request said)))
    (legal : is_entered said ≡ true → (point : Point) → StandFor old point → IsPoint point → IsRoomy old.base.limits point → MayAsk (request_asks request) →
    IsNumbered point (entry_of by new.moment request said) → nat_lt now end_of_time ≡ true →
    IsLegalEntry old.base.limits point (entry_of by new.moment request said))
    (history : new.history.items ≡ cond (is_entered said) (old.history.items ++ entry_of by new.moment request said ∷ []) old.history.items)
    (devices : AreSameDevices old new) (unchanged : is_entered said ≡ false → StandsStill old new) (reserves : HasReserves new) (jobs : new.jobs ≡ old.jobs)
    (numbered : by.number ≡ count_by (is_of by.caller) old.history.items) (may : MayAsk (request_asks request))
    (within : nat_lt now end_of_time ≡ true) where
  -- a core keeps its rules through a request
  pub core_called : IsCore told stored new
  core_called =
      elim (is_entered said) as (λ b. is_entered said ≡ b → IsCore told stored new) [
        | true ↦ λ is.
            let point = point_in (seen_of old) in
            let so = legal is point core.stands (seen_point told stored (seen_of old) core.seen) (seen_roomy told stored (seen_of old) core.seen) may
            (numbered ∙ ap (count_by (is_of by.caller)) (sym (history-all (opened old.base.opening.value) old.history.items))) within in
            core_entered told stored old new (entry_of by new.moment request said) (request_asks request) core refl so
            (subst (λ r. leaves_kept r ≡ true) so.follows.reply (quiet_facts said quiet).kept) (quiet_facts said quiet).note
            (seen_is new (record (seen_of old) { history = old.history.items ++ entry_of by new.moment request said ∷ [] }) devices.base
            (history ∙ ap (λ b. cond b (old.history.items ++ entry_of by new.moment request said ∷ []) old.history.items) is)
            devices.disk devices.keeper)
            (stands is point core.stands (seen_point told stored (seen_of old) core.seen)) reserves devices.lost jobs
        | false ↦ λ is. core_stays told stored old new core
            (seen_is new (seen_of old) devices.base
            (history ∙ ap (λ b. cond b (old.history.items ++ entry_of by new.moment request said ∷ []) old.history.items) is)
            devices.disk devices.keeper) (unchanged is) reserves devices.lost jobs
      ] refl

  -- the moment of its entry is the book's
  pub called_history : new.history.items
      ≡ cond (is_entered said) (old.history.items ++ entry_of by (point_in (seen_of new)).book.now request said ∷ []) old.history.items
  called_history = history
      ∙ ap (λ n. cond (is_entered said) (old.history.items ++ entry_of by n request said ∷ []) old.history.items)
      (ap (λ (b : Book). b.now) core_called.stands.book)
