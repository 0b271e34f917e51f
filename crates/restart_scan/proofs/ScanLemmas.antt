-- An opening with a look at the parts: what each of its answers says.
use Rattle.std.proofs.Common.{◌≡◌, ◌≤◌, ◌∙◌, ℕ, Bool, true, false, cond, List, [], ◌∷◌, map, filter, Option, None, Some, Result, Ok, Err, IfOk, IfErr, is_ok, refl, sym, ap, subst, inl, inr, arith}
use Rattle.std.proofs.lemmas.Bool.{true≢false}
use Rattle.std.specs.Option.{option_map}
use Rattle.std.specs.declared.alloc.Global.{Global}
use Rattle.std.specs.declared.vec.Vec.{Vec}
use Rattle.mat_io.specs.Causes.{HasCause, risen}
use Rattle.mat_tree.specs.Parts.{Part}
use Rattle.keep_port.specs.Rows.{FailsSo, Watch, after_call, will_fail}
use Rattle.keep_port.specs.declared.row.RawRow.{RawRow}
use Rattle.core_laws.specs.Stored.{AreDropped, IsStore}
use Rattle.core_laws.proofs.StoreSteps.{listed_dropped, store_removed}
use Rattle.mat_model.specs.declared.answers.Device.TheVariants as device
use Rattle.mat_model.specs.declared.opening.Opening.{Opening}
use Rattle.mat_model.specs.Kept.{KeptRow}
use Rattle.mat_model.specs.Openings.{is_found, is_lost}
use Rattle.model_laws.specs.KeptRules.{path_of_kept}
use Rattle.region_port.specs.Calls.{Paths}
use Rattle.restart_scan.specs.Faults.{IsLookWhy, IsPartNote, is_of_disk, is_of_keeper, disk_failed, keeper_failed}
use Rattle.restart_scan.specs.Looks.{HasStill, IsNoRougher}
use Rattle.restart_scan.specs.Opened.{IsOf, are_kept_apart}
use Rattle.restart_scan.specs.Rows.{Read, kept_list, kept_rows}
use Rattle.restart_scan.specs.Scans.{AnswersTold, CallsKeeper, CallsKeeperBy, CallsOnceOrTwice, IsDiskNoted, IsKeeperNote, IsKeeperNoted, IsKeeperWhy, IsLessLost, IsNoted, Loses, LosesTold, NotesDisk, NotesKeeper, Opens, ReadsTold, Refuses, less, watch_less}
use Rattle.restart_scan.specs.Sorting.{AreLost, AreLostTold}
use Rattle.restart_scan.specs.Stores.{Stores, kept_rows_of}
use Rattle.restart_scan.specs.declared.kept.Kept.{Kept}
use Rattle.restart_scan.specs.declared.refusal.ScanRefusal.{ScanRefusal}
use Rattle.restart_scan.specs.declared.refusal.ScanRefusal.TheVariants as refusal
use Rattle.restart_scan.proofs.Found.{apart_ascends}
use Rattle.restart_scan.proofs.LostLemmas.{apart_filtered}
use Rattle.restart_scan.proofs.SortLemmas.{no_rougher_here, still_here}
use Rattle.restart_scan.proofs.StoredRows.{kept_again}
use Rattle.restart_scan.proofs.Telling.{refuses_any}

-- ---- what was read

-- a refusal by a look comes where the rows have none
look_refuses : (why : ScanRefusal) (read : Read (List KeptRow)) (kept : List KeptRow) → read ≡ Ok kept → IsLookWhy why → Refuses why read
look_refuses (refusal.KeeperFault note) read kept h w = absurd w
look_refuses (refusal.DiskFault note) read kept h w = ap is_ok h
look_refuses (refusal.BadPath text) read kept h w = absurd w
look_refuses (refusal.BadRow path at) read kept h w = absurd w
look_refuses (refusal.Foreign path found) read kept h w = absurd w
look_refuses (refusal.Overlap first second) read kept h w = absurd w
look_refuses (refusal.Rows count) read kept h w = absurd w
look_refuses refusal.NoMemory read kept h w = tt

pub looks_told : (most identity : ℕ) (told : Option (List RawRow)) (kept : Vec Kept Global) (why : ScanRefusal) → ReadsTold most identity told (Ok kept) →
    IsLookWhy why → AnswersTold most identity told (Err why)
looks_told most identity None kept why h w = tt
looks_told most identity (Some raws) kept why h w = look_refuses why (kept_rows most identity raws) (kept_list kept) h w

pub removal_told : (most identity : ℕ) (told : Option (List RawRow)) (why : ScanRefusal) → IsKeeperWhy why → AnswersTold most identity told (Err why)
removal_told most identity None why w = tt
removal_told most identity (Some raws) why w = refuses_any why (kept_rows most identity raws) w

pub opening_told : (most identity : ℕ) (told : Option (List RawRow)) (kept : Vec Kept Global) (opening : Opening) →
    ReadsTold most identity told (Ok kept) → IsOf (kept_list kept) opening → AnswersTold most identity told (Ok opening)
opening_told most identity None kept opening h of = tt
opening_told most identity (Some raws) kept opening h of = subst (λ (read : Read (List KeptRow)). Opens opening read) (sym h) of

pub loses_told : (most identity : ℕ) (told : Option (List RawRow)) (kept : Vec Kept Global) (content : Option Part) (opening : Opening) →
    ReadsTold most identity told (Ok kept) → AreLost content (kept_list kept) opening.lost → LosesTold most identity told content opening
loses_told most identity None kept content opening h gone = tt
loses_told most identity (Some raws) kept content opening h gone = subst (λ (read : Read (List KeptRow)). Loses content opening read) (sym h) gone

-- ---- the rows of the state store

-- once the lost rows are removed it has those that were found
less_store : (identity : ℕ) (kept : List KeptRow) (lost : List (List (List ℕ))) (rows : List RawRow) → are_kept_apart kept ≡ true →
    lost ≡ map path_of_kept (filter (is_lost lost) kept) → IsStore identity kept rows → IsStore identity (filter (is_found lost) kept) (less lost rows)
less_store identity kept lost rows apart order store =
    store_removed identity (is_lost lost) kept rows lost
    (subst (AreDropped (is_lost lost) kept) (sym order) (listed_dropped identity (is_lost lost) kept rows (apart_ascends kept apart) store)) store

less_stores : (identity : ℕ) (told : Option (List RawRow)) (kept : List KeptRow) (lost : List (List (List ℕ))) → are_kept_apart kept ≡ true →
    lost ≡ map path_of_kept (filter (is_lost lost) kept) → Stores identity told kept → Stores identity (option_map (less lost) told) (filter (is_found lost) kept)
less_stores identity None kept lost apart order store = tt
less_stores identity (Some rows) kept lost apart order store = less_store identity kept lost rows apart order store

pub stored_less : (identity : ℕ) (before after : Option (List RawRow)) (kept : List KeptRow) (content : Option Part) (opening : Opening) →
    are_kept_apart kept ≡ true → Stores identity before kept → IsOf kept opening → AreLost content kept opening.lost →
    after ≡ option_map (less opening.lost) before → Stores identity after (kept_rows_of opening)
stored_less identity before after kept content opening apart store of gone removed =
    subst (λ (told : Option (List RawRow)). Stores identity told (kept_rows_of opening)) (sym removed)
    (subst (λ (rows : List KeptRow). Stores identity (option_map (less opening.lost) before) rows)
    (sym (kept_again (filter (is_found opening.lost) kept) opening (apart_filtered (is_found opening.lost) kept apart) of.rows of.version1))
    (less_stores identity before kept opening.lost apart gone.order store))

-- lost paths are those of kept rows that the state store has
pub lost_told : (identity : ℕ) (told : Option (List RawRow)) (kept : List KeptRow) (content : Option Part) (lost : List (List (List ℕ))) →
    Stores identity told kept → AreLost content kept lost → AreLostTold identity told content lost
lost_told identity None kept content lost stored gone rows is = absurd cc
lost_told identity (Some raws) kept content lost stored gone rows is =
    let same : raws ≡ rows = cc in record { kept = kept; stored = subst (IsStore identity kept) same stored; gone = gone }

-- without a lost row all are left
less_nothing : (told : Option (List RawRow)) → told ≡ option_map (less []) told
less_nothing None = refl
less_nothing (Some rows) = refl

pub nothing_removed : (told : Option (List RawRow)) (paths : List (List (List ℕ))) → paths ≡ [] → told ≡ option_map (less paths) told
nothing_removed told paths none = less_nothing told ∙ ap (λ (l : List (List (List ℕ))). option_map (less l) told) (sym none)

pub less_none : (result : Result Opening ScanRefusal) (before after : Option (List RawRow)) → IfOk result (λ opening. opening.lost ≡ []) →
    after ≡ before → IsLessLost result before after
less_none (Ok opening) before after none same = same ∙ nothing_removed before opening.lost none
less_none (Err why) before after none same = same

-- ---- the calls of the state store

pub look_not_keeper : (why : ScanRefusal) → IsLookWhy why → is_of_keeper why ≡ false
look_not_keeper (refusal.KeeperFault note) w = absurd w
look_not_keeper (refusal.DiskFault note) w = refl
look_not_keeper (refusal.BadPath text) w = absurd w
look_not_keeper (refusal.BadRow path at) w = absurd w
look_not_keeper (refusal.Foreign path found) w = absurd w
look_not_keeper (refusal.Overlap first second) w = absurd w
look_not_keeper (refusal.Rows count) w = absurd w
look_not_keeper refusal.NoMemory w = refl

pub keeper_not_disk : (why : ScanRefusal) → IsKeeperWhy why → is_of_disk why ≡ false
keeper_not_disk (refusal.KeeperFault note) w = refl
keeper_not_disk (refusal.DiskFault note) w = absurd w
keeper_not_disk (refusal.BadPath text) w = absurd w
keeper_not_disk (refusal.BadRow path at) w = absurd w
keeper_not_disk (refusal.Foreign path found) w = absurd w
keeper_not_disk (refusal.Overlap first second) w = absurd w
keeper_not_disk (refusal.Rows count) w = absurd w
keeper_not_disk refusal.NoMemory w = refl

-- a cause is one of each answer that fails as often
pub same_cause : (before after : ℕ) (failed other : Bool) → HasCause before after failed → other ≡ failed → HasCause before after other
same_cause before after failed other cause same = subst (HasCause before after) (sym same) cause

-- a fault of the second call has its counts around that
pub noted_later : (first before after : ℕ) (why : ScanRefusal) → first ≤ before →
    (is_of_keeper why ≡ true → IsNoted device.Keeper before after why) → HasCause before after (is_of_keeper why) → IsKeeperNoted first after why
noted_later first before after (refusal.KeeperFault note) early notes cause =
    subst (IsKeeperNote first after) (sym (notes refl)) (record { device = refl; later = early; rose = cause.rose refl; ends = omega arith })
noted_later first before after (refusal.DiskFault note) early notes cause = tt
noted_later first before after (refusal.BadPath text) early notes cause = tt
noted_later first before after (refusal.BadRow path at) early notes cause = tt
noted_later first before after (refusal.Foreign path found) early notes cause = tt
noted_later first before after (refusal.Overlap one other) early notes cause = tt
noted_later first before after (refusal.Rows count) early notes cause = tt
noted_later first before after refusal.NoMemory early notes cause = tt

pub noted_first : {X : Type 0} (before after : ℕ) (result : Result X ScanRefusal) → NotesKeeper before after result →
    HasCause before after (keeper_failed result) → IfErr result (λ why. IsKeeperNoted before after why)
noted_first before after (Ok x) notes cause = tt
noted_first before after (Err why) notes cause = noted_later before before after why (omega arith) notes cause

pub noted_none : (before after : ℕ) (why : ScanRefusal) → IsLookWhy why → IsKeeperNoted before after why
noted_none before after (refusal.KeeperFault note) w = absurd w
noted_none before after (refusal.DiskFault note) w = tt
noted_none before after (refusal.BadPath text) w = tt
noted_none before after (refusal.BadRow path at) w = tt
noted_none before after (refusal.Foreign path found) w = tt
noted_none before after (refusal.Overlap first second) w = tt
noted_none before after (refusal.Rows count) w = tt
noted_none before after refusal.NoMemory w = tt

-- one call
pub once_by : (why : ScanRefusal) (before after : Option Watch) → after ≡ option_map after_call before → CallsKeeperBy why before after
once_by (refusal.KeeperFault note) before after h = inl h
once_by (refusal.DiskFault note) before after h = h
once_by (refusal.BadPath text) before after h = h
once_by (refusal.BadRow path at) before after h = h
once_by (refusal.Foreign path found) before after h = h
once_by (refusal.Overlap first second) before after h = h
once_by (refusal.Rows count) before after h = h
once_by refusal.NoMemory before after h = inl h

-- and the removal behind it
removal_calls : (lost : List (List (List ℕ))) (before mid after : Option Watch) → mid ≡ option_map after_call before → after ≡ watch_less lost mid →
    CallsOnceOrTwice before after
removal_calls [] before mid after first second = inl (second ∙ first)
removal_calls (path ∷ paths) before mid after first second = inr (second ∙ ap (option_map after_call) first)

pub removal_by : (why : ScanRefusal) (lost : List (List (List ℕ))) (before mid after : Option Watch) → IsKeeperWhy why →
    mid ≡ option_map after_call before → after ≡ watch_less lost mid → CallsKeeperBy why before after
removal_by (refusal.KeeperFault note) lost before mid after w first second = removal_calls lost before mid after first second
removal_by (refusal.DiskFault note) lost before mid after w first second = absurd w
removal_by (refusal.BadPath text) lost before mid after w first second = absurd w
removal_by (refusal.BadRow path at) lost before mid after w first second = absurd w
removal_by (refusal.Foreign path found) lost before mid after w first second = absurd w
removal_by (refusal.Overlap one other) lost before mid after w first second = absurd w
removal_by (refusal.Rows count) lost before mid after w first second = absurd w
removal_by refusal.NoMemory lost before mid after w first second = removal_calls lost before mid after first second

pub calls_both : (opening : Opening) (before mid after : Option Watch) → mid ≡ option_map after_call before → after ≡ watch_less opening.lost mid →
    CallsKeeper (Ok opening) before after
calls_both opening before mid after first second = second ∙ ap (watch_less opening.lost) first

pub calls_once : (result : Result Opening ScanRefusal) (before after : Option Watch) → IfOk result (λ opening. opening.lost ≡ []) →
    after ≡ option_map after_call before → CallsKeeper result before after
calls_once (Ok opening) before after none once =
    once ∙ ap (λ (l : List (List (List ℕ))). watch_less l (option_map after_call before)) (sym none)
calls_once (Err why) before after none once = once_by why before after once

-- a removal fails nowhere, where the first call was told not to fail
pub fails_later : (before mid : Option Watch) (failed : Bool) → FailsSo before false → mid ≡ option_map after_call before →
    (failed ≡ true → FailsSo mid true) → FailsSo before failed
fails_later None mid failed first is second = tt
fails_later (Some watch) mid true first is second =
    absurd (never watch (subst (λ (w : Option Watch). FailsSo w true) is (second refl)))
  where
    never : (w : Watch) → true ≡ will_fail (after_call w) → ⊥
    never w e = by w.halted w.armed e
      where
        by : (halted armed : Bool) →
            true ≡ will_fail (cond halted (record { calls = w.calls; armed = armed; halted = true; met = true }) (record { calls = risen w.calls; armed = false; halted = false; met = w.met })) → ⊥
        by true true e = true≢false e
        by true false e = true≢false e
        by false armed e = true≢false e
fails_later (Some watch) mid false first is second = first

pub no_fault_so : {X : Type 0} (before : Option Watch) (result : Result X ScanRefusal) → FailsSo before false → keeper_failed result ≡ false →
    FailsSo before (keeper_failed result)
no_fault_so before result first none = subst (FailsSo before) (sym none) first

-- ---- the disk

pub still_same : (before after : Option Part) → after ≡ before → HasStill before after
still_same before after same = subst (HasStill before) (sym same) (still_here before)

pub no_rougher_same : (before after : Paths) → after ≡ before → IsNoRougher before after
no_rougher_same before after same = subst (IsNoRougher before) (sym same) (no_rougher_here before)

pub noted_look : (why : ScanRefusal) → IsLookWhy why → IsDiskNoted why
noted_look (refusal.KeeperFault note) w = tt
noted_look (refusal.DiskFault note) w = w
noted_look (refusal.BadPath text) w = tt
noted_look (refusal.BadRow path at) w = tt
noted_look (refusal.Foreign path found) w = tt
noted_look (refusal.Overlap first second) w = tt
noted_look (refusal.Rows count) w = tt
noted_look refusal.NoMemory w = tt

pub noted_else : (why : ScanRefusal) → is_of_disk why ≡ false → IsDiskNoted why
noted_else (refusal.KeeperFault note) h = tt
noted_else (refusal.DiskFault note) h = absurd (true≢false h)
noted_else (refusal.BadPath text) h = tt
noted_else (refusal.BadRow path at) h = tt
noted_else (refusal.Foreign path found) h = tt
noted_else (refusal.Overlap first second) h = tt
noted_else (refusal.Rows count) h = tt
noted_else refusal.NoMemory h = tt

pub noted_disk : {X : Type 0} (before after : ℕ) (result : Result X ScanRefusal) → NotesDisk before after result →
    HasCause before after (disk_failed result) → IfErr result (λ why. IsDiskNoted why)
noted_disk before after (Ok x) notes cause = tt
noted_disk before after (Err (refusal.DiskFault note)) notes cause =
    subst IsPartNote (sym (notes refl)) (record { device = refl; rose = cause.rose refl })
noted_disk before after (Err (refusal.KeeperFault note)) notes cause = tt
noted_disk before after (Err (refusal.BadPath text)) notes cause = tt
noted_disk before after (Err (refusal.BadRow path at)) notes cause = tt
noted_disk before after (Err (refusal.Foreign path found)) notes cause = tt
noted_disk before after (Err (refusal.Overlap first second)) notes cause = tt
noted_disk before after (Err (refusal.Rows count)) notes cause = tt
noted_disk before after (Err refusal.NoMemory) notes cause = tt
