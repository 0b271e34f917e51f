-- What was read, where the state store tells its rows.
use Rattle.std.proofs.Common.{◌≡◌, ◌≤◌, ◌∙◌, ap, [], length, inl, is_ok, IfOk, IfErr, ℕ, true, false, List, Option, Some, None, Result, Ok, Err, refl, sym, subst}
use Rattle.std.specs.declared.alloc.Global.{Global}
use Rattle.std.specs.declared.vec.Vec.{Vec}
use Rattle.std.proofs.lemmas.Bool.{true≢false}
use Rattle.std.proofs.lemmas.List.{length-map}
use Rattle.keep_port.specs.Rows.{AreThese, ascend}
use Rattle.mat_io.specs.Watches.{Watch}
use Rattle.mat_model.specs.declared.opening.Opening.{Opening}
use Rattle.restart_scan.specs.Opened.{AreKept, IsMadeOf}
use Rattle.restart_scan.specs.Stores.{AreOf, Stores, kept_rows_of}
use Rattle.restart_scan.proofs.StoredRows.{stores_opening, stores_told}
use Rattle.restart_scan.proofs.Found.{count_made, is_of}
use Rattle.keep_port.specs.declared.row.RawRow.{RawRow}
use Rattle.mat_model.specs.Kept.{KeptRow}
use Rattle.restart_scan.specs.Rows.{Gives, Read, kept_list, kept_rows, kept_view}
use Rattle.restart_scan.specs.Scans.{AnswersTold, CallsBy, IsDiskWhy, IsKeeperWhy, NotesKeeper, Opens, Reads, ReadsTold, Refuses, count_of}
use Rattle.restart_scan.specs.Faults.{disk_failed, is_of_disk, is_of_keeper, keeper_failed}
use Rattle.restart_scan.specs.declared.kept.Kept.{Kept}
use Rattle.restart_scan.specs.declared.refusal.ScanRefusal.{ScanRefusal}
use Rattle.restart_scan.specs.declared.refusal.ScanRefusal.TheVariants as refusal

-- reading is no call
pub no_keeper : {X Y : Type 0} (view : X → Y) (result : Result X ScanRefusal) (read : Read Y) → Gives view result read → keeper_failed result ≡ false
no_keeper view (Ok x) read h = refl
no_keeper view (Err (refusal.KeeperFault note)) read h = absurd h
no_keeper view (Err (refusal.DiskFault note)) read h = absurd h
no_keeper view (Err (refusal.BadPath text)) read h = refl
no_keeper view (Err (refusal.BadRow path at)) read h = refl
no_keeper view (Err (refusal.Foreign path found)) read h = refl
no_keeper view (Err (refusal.Overlap first second)) read h = refl
no_keeper view (Err (refusal.Rows count)) read h = refl
no_keeper view (Err refusal.NoMemory) read h = refl

pub no_disk : {X Y : Type 0} (view : X → Y) (result : Result X ScanRefusal) (read : Read Y) → Gives view result read → disk_failed result ≡ false
no_disk view (Ok x) read h = refl
no_disk view (Err (refusal.KeeperFault note)) read h = absurd h
no_disk view (Err (refusal.DiskFault note)) read h = absurd h
no_disk view (Err (refusal.BadPath text)) read h = refl
no_disk view (Err (refusal.BadRow path at)) read h = refl
no_disk view (Err (refusal.Foreign path found)) read h = refl
no_disk view (Err (refusal.Overlap first second)) read h = refl
no_disk view (Err (refusal.Rows count)) read h = refl
no_disk view (Err refusal.NoMemory) read h = refl

-- an answer of reading is an answer beside what is read
reads_given : (result : Result (Vec Kept Global) ScanRefusal) (read : Read (List KeptRow)) → Gives kept_list result read → Reads result read
reads_given (Ok rows) read h = h
reads_given (Err (refusal.KeeperFault note)) read h = absurd h
reads_given (Err (refusal.DiskFault note)) read h = absurd h
reads_given (Err (refusal.BadPath text)) read h = h
reads_given (Err (refusal.BadRow path at)) read h = h
reads_given (Err (refusal.Foreign path found)) read h = h
reads_given (Err (refusal.Overlap first second)) read h = h
reads_given (Err (refusal.Rows count)) read h = h
reads_given (Err refusal.NoMemory) read h = h

pub reads_told : (most identity : ℕ) (told : Option (List RawRow)) (raws : List RawRow) (result : Result (Vec Kept Global) ScanRefusal) →
    AreThese told raws → Gives kept_list result (kept_rows most identity raws) → ReadsTold most identity told result
reads_told most identity None raws result these h = tt
reads_told most identity (Some kept) raws result these h =
    subst (λ (rows : List RawRow). Reads result (kept_rows most identity rows)) these (reads_given result (kept_rows most identity raws) h)

-- a refusal of the state store's call says nothing of its rows
pub refuses_any : (why : ScanRefusal) (read : Read (List KeptRow)) → IsKeeperWhy why → Refuses why read
refuses_any (refusal.KeeperFault note) read h = tt
refuses_any (refusal.DiskFault note) read h = absurd h
refuses_any (refusal.BadPath text) read h = absurd h
refuses_any (refusal.BadRow path at) read h = absurd h
refuses_any (refusal.Foreign path found) read h = absurd h
refuses_any (refusal.Overlap first second) read h = absurd h
refuses_any (refusal.Rows count) read h = absurd h
refuses_any refusal.NoMemory read h = tt

pub refuses_told : (most identity : ℕ) (told : Option (List RawRow)) (why : ScanRefusal) → IsKeeperWhy why → ReadsTold most identity told (Err why)
refuses_told most identity None why h = tt
refuses_told most identity (Some raws) why h = refuses_any why (kept_rows most identity raws) h

-- ---- of an opening

pub told_err : (most identity : ℕ) (told : Option (List RawRow)) (why : ScanRefusal) → ReadsTold most identity told (Err why) →
    AnswersTold most identity told (Err why)
told_err most identity None why h = tt
told_err most identity (Some raws) why h = h

-- a refusal of the disk's call comes where the rows have none
disk_refuses : (why : ScanRefusal) (read : Read (List KeptRow)) (kept : List KeptRow) → read ≡ Ok kept → IsDiskWhy why → Refuses why read
disk_refuses (refusal.KeeperFault note) read kept h w = absurd w
disk_refuses (refusal.DiskFault note) read kept h w = ap is_ok h
disk_refuses (refusal.BadPath text) read kept h w = absurd w
disk_refuses (refusal.BadRow path at) read kept h w = absurd w
disk_refuses (refusal.Foreign path found) read kept h w = absurd w
disk_refuses (refusal.Overlap first second) read kept h w = absurd w
disk_refuses (refusal.Rows count) read kept h w = absurd w
disk_refuses refusal.NoMemory read kept h w = tt

pub answers_told : (most identity : ℕ) (told : Option (List RawRow)) (kept : Vec Kept Global) (result : Result Opening ScanRefusal) →
    ReadsTold most identity told (Ok kept) → IfOk result (λ opening. IsMadeOf (kept_list kept) [] opening.strays opening) → IfErr result (λ why. IsDiskWhy why) →
    AnswersTold most identity told result
answers_told most identity None kept result h made why = tt
answers_told most identity (Some raws) kept (Ok opening) h made why =
    subst (λ (read : Read (List KeptRow)). Opens opening read) (sym h) (is_of (kept_list kept) opening made)
answers_told most identity (Some raws) kept (Err refused) h made why = disk_refuses refused (kept_rows most identity raws) (kept_list kept) h why

-- the disk isn't called where the rows are refused
pub no_disk_call : (why : ScanRefusal) (watch : Option Watch) → is_of_disk why ≡ false → CallsBy why watch watch
no_disk_call (refusal.KeeperFault note) watch h = refl
no_disk_call (refusal.DiskFault note) watch h = absurd (true≢false h)
no_disk_call (refusal.BadPath text) watch h = refl
no_disk_call (refusal.BadRow path at) watch h = refl
no_disk_call (refusal.Foreign path found) watch h = refl
no_disk_call (refusal.Overlap first second) watch h = refl
no_disk_call (refusal.Rows count) watch h = refl
no_disk_call refusal.NoMemory watch h = inl refl

-- a refusal of the disk's call is no fault of the state store
disk_not_keeper : (why : ScanRefusal) → IsDiskWhy why → is_of_keeper why ≡ false
disk_not_keeper (refusal.KeeperFault note) w = absurd w
disk_not_keeper (refusal.DiskFault note) w = refl
disk_not_keeper (refusal.BadPath text) w = absurd w
disk_not_keeper (refusal.BadRow path at) w = absurd w
disk_not_keeper (refusal.Foreign path found) w = absurd w
disk_not_keeper (refusal.Overlap first second) w = absurd w
disk_not_keeper (refusal.Rows count) w = absurd w
disk_not_keeper refusal.NoMemory w = refl

pub disk_no_keeper : {X : Type 0} (result : Result X ScanRefusal) → IfErr result (λ why. IsDiskWhy why) → keeper_failed result ≡ false
disk_no_keeper (Ok x) h = refl
disk_no_keeper (Err why) h = disk_not_keeper why h

pub keeper_no_note : {X : Type 0} (before after : ℕ) (result : Result X ScanRefusal) → IfErr result (λ why. IsDiskWhy why) → NotesKeeper before after result
keeper_no_note before after (Ok x) h = tt
keeper_no_note before after (Err why) h = λ failed. absurd (true≢false (sym failed ∙ disk_not_keeper why h))

pub few_rows : (most : ℕ) (kept : Vec Kept Global) (result : Result Opening ScanRefusal) → length kept.items ≤ most →
    IfOk result (λ opening. IsMadeOf (kept_list kept) [] opening.strays opening) → IfOk result (λ opening. count_of opening ≤ most)
few_rows most kept (Ok opening) few made = count_made most (kept_list kept) opening made (subst (λ (n : ℕ). n ≤ most) (sym (length-map kept.items kept_view)) few)
few_rows most kept (Err why) few made = tt

-- ---- what the state store has

pub stored_rows : (identity : ℕ) (told : Option (List RawRow)) (raws : List RawRow) (result : Result (Vec Kept Global) ScanRefusal) → AreThese told raws →
    ascend raws ≡ true → IfOk result (λ rows. AreOf identity (kept_list rows) raws) → IfOk result (λ rows. Stores identity told (kept_list rows))
stored_rows identity told raws (Ok rows) these up are = stores_told identity told raws (kept_list rows) these up are
stored_rows identity told raws (Err why) these up are = tt

pub stored_opening : (identity : ℕ) (before after : Option (List RawRow)) (kept : Vec Kept Global) (result : Result Opening ScanRefusal) → after ≡ before →
    AreKept (kept_list kept) → Stores identity before (kept_list kept) →
    IfOk result (λ opening. IsMadeOf (kept_list kept) [] opening.strays opening) →
    IfOk result (λ opening. Stores identity after (kept_rows_of opening))
stored_opening identity before after kept (Ok opening) same ready stores made =
    subst (λ (told : Option (List RawRow)). Stores identity told (kept_rows_of opening)) (sym same)
    (stores_opening identity before (kept_list kept) opening ready.apart made stores)
stored_opening identity before after kept (Err why) same ready stores made = tt
