-- A job that came back ends: what its parts are, what is asked of the disk and of the state store, and what its outcome says.
use Rattle.std.proofs.Common.{◌≡◌, ◌≤◌, ◌<◌, ◌^◌, ℕ, ◌==◌, ◌&&◌, ◌||◌, nat_le, Bool, true, false, not, cond, List, filter, find, Contains, Option, Some, None, refl, sym, ap, subst, ◌∙◌, arith}
use Rattle.std.specs.List.{list_any}
use Rattle.std.specs.Option.{is_some, option_map}
use Rattle.std.proofs.lemmas.Bool.{and_parts, both_ways, eqb-true, leb-true}
use Rattle.mat_io.specs.Causes.{risen}
use Rattle.mat_path.specs.Covering.{is_other_path}
use Rattle.mat_path.specs.Names.{same_names}
use Rattle.mat_path.proofs.Elements.{contains_first, contains_map}
use Rattle.mat_path.proofs.SameNames.{same_names-eq}
use Rattle.mat_tree.specs.declared.flat.Flat.{Flat}
use Rattle.mat_tree.specs.Parts.{HasTree, Part}
use Rattle.mat_model.specs.declared.answers.Answer.{Answer}
use Rattle.mat_model.specs.declared.answers.Device.{Device}
use Rattle.mat_model.specs.declared.answers.Device.TheVariants as device
use Rattle.mat_model.specs.declared.answers.FaultNote.{FaultNote}
use Rattle.mat_model.specs.declared.answers.Recorded.{Recorded}
use Rattle.mat_model.specs.declared.answers.Recorded.TheVariants as recorded
use Rattle.mat_model.specs.declared.book.Row.{Row}
use Rattle.mat_model.specs.declared.entries.Outcome.{Outcome}
use Rattle.mat_model.specs.declared.entries.Outcome.TheVariants as outcome
use Rattle.mat_model.specs.declared.entries.Task.{Task}
use Rattle.mat_model.specs.declared.entries.Task.TheVariants as task
use Rattle.mat_model.specs.Legal.{HasRisen, IsFaultOf, is_nothing, may_end, may_fault, note_of_outcome}
use Rattle.mat_model.specs.Rows.{are_apart}
use Rattle.mat_model.specs.WorkState.{Job, Lent, WorkState, path_of_task}
use Rattle.model_laws.specs.TicketRules.{failure_of_make}
use Rattle.model_laws.specs.WorkRules.{IsWork, claimed_by_part}
use Rattle.model_laws.proofs.Elements.{found_contains}
use Rattle.region_port.specs.Calls.{Paths, nowhere}
use Rattle.region_port.specs.States.{loan_region, state_tree}
use Rattle.region_port.specs.declared.port.Region.{Ghosts as RegionGhosts}
use Rattle.region_port.specs.declared.states.Part.{Part as State}
use Rattle.region_port.specs.declared.states.Part.TheVariants as state
use Rattle.region_port.specs.declared.states.ReadLoan.{ReadLoan}
use Rattle.job_run.specs.Done.{counts_fault, ends_task, has_count_risen, is_make, leaves_part, loan_counted, task_path}
use Rattle.job_run.specs.States.{is_disk, is_make_device}
use Rattle.core_laws.specs.Loans.{AreLoans}
use Rattle.core_laws.specs.Stored.{HasDiskRisen}
use Rattle.core_laws.proofs.CountLemmas.{rose_noted}
use Rattle.core_laws.proofs.LoanLemmas.{loan_lent, part_still_lent}
use Rattle.row_book.specs.declared.stock.Stock.{Stock}
use Rattle.row_book.specs.Stocks.{row_of, rows_of, stock_at}
use Rattle.job_book.specs.declared.running.KeptBytes.{KeptBytes}
use Rattle.core_devices.specs.Events.{IsEndedTold}
use Rattle.core_devices.specs.Gives.{HasRisenBy, IsReadOf, IsStillOut}
use Rattle.core_devices.specs.Told.{ToldPart, ToldStore}
use Rattle.mat_core.specs.Ending.{IsRecordedFor, end_made, end_of, end_of_make, end_of_wipe, is_made}
use Rattle.mat_core.specs.Ends.{AreCounts, IsLeftBy}
use Rattle.mat_core.specs.Fitting.{is_loan_of, is_made_for, is_tree_at, lending_of}
use Rattle.mat_core.specs.Orders.{AreBytesOf, IsReadyFor}
use Rattle.mat_core.specs.PutDown.{told_read}
use Rattle.mat_core.specs.Recording.{HasBytesFor, HasRecorded, IsRecordedEnd}
use Rattle.mat_core.specs.declared.ending.End.TheVariants as end
use Rattle.mat_core.proofs.EndLemmas.{declared_by, declared_is, make_ends}
use Rattle.mat_core.proofs.FitLemmas.{tree_there}

-- ---- the part of its task

-- a part that is settled isn't rough
settled_at : (rough : Paths) → rough ≡ nowhere → (path : List (List ℕ)) → rough path ≡ false
settled_at rough is path = ap (λ (r : Paths). r path) is

-- the part of a task is left as its outcome says
pub ended_told : {R : Type 0} {g : RegionGhosts R} (begun : Task) (out : Outcome) (part : State R g) (rows : List Row) (content : Option Part) (rough : Paths) →
    are_apart rows ≡ true → leaves_part out part ≡ true → is_made_for rows begun out (state_tree part) ≡ true → IsLeftBy part content rough →
    IsEndedTold begun out rows content rough
ended_told (task.Make path stamp) outcome.Made (state.Settled left) rows content rough apart leaves made is = λ inner told. record {
  settled = λ at below. settled_at rough is.1 at;
  tree = λ row among at stamped.
      subst (λ (t : List Flat). HasTree inner t) (tree_there rows path stamp left.tree row apart among at stamped made) (is.0 inner told);
}
ended_told (task.Make path stamp) outcome.Made (state.Rough left) rows content rough apart leaves made is = absurd (both_ways false refl leaves)
ended_told (task.Make path stamp) outcome.Made (state.Bare left) rows content rough apart leaves made is = absurd (both_ways false refl leaves)
ended_told (task.Make path stamp) outcome.Wiped part rows content rough apart leaves made is = λ inner told. tt
ended_told (task.Make path stamp) (outcome.Missing digest) part rows content rough apart leaves made is = λ inner told. tt
ended_told (task.Make path stamp) (outcome.Corrupt wanted found) part rows content rough apart leaves made is = λ inner told. tt
ended_told (task.Make path stamp) (outcome.Fault note) part rows content rough apart leaves made is = λ inner told. tt
ended_told (task.Make path stamp) outcome.NoMemory part rows content rough apart leaves made is = λ inner told. tt
ended_told (task.Wipe path) outcome.Wiped (state.Bare left) rows content rough apart leaves made is = λ inner told. record {
  settled = λ at below. settled_at rough is.1 at;
  node = λ rel. ap (λ (p : Part). p rel) (is.0 inner told);
}
ended_told (task.Wipe path) outcome.Wiped (state.Rough left) rows content rough apart leaves made is = absurd (both_ways false refl leaves)
ended_told (task.Wipe path) outcome.Wiped (state.Settled left) rows content rough apart leaves made is = absurd (both_ways false refl leaves)
ended_told (task.Wipe path) outcome.Made part rows content rough apart leaves made is = λ inner told. tt
ended_told (task.Wipe path) (outcome.Missing digest) part rows content rough apart leaves made is = λ inner told. tt
ended_told (task.Wipe path) (outcome.Corrupt wanted found) part rows content rough apart leaves made is = λ inner told. tt
ended_told (task.Wipe path) (outcome.Fault note) part rows content rough apart leaves made is = λ inner told. tt
ended_told (task.Wipe path) outcome.NoMemory part rows content rough apart leaves made is = λ inner told. tt

-- the path of a task, in the words of a job and of the model
pub same_place : (begun : Task) → task_path begun ≡ path_of_task begun
same_place (task.Make path stamp) = refl
same_place (task.Wipe path) = refl

-- ---- the part that it read

-- the part that came back is the one that the job reads
pub read_of : {R : Type 0} (g : RegionGhosts R) (rows : List Row) (lent : Option Lent) (loan : Option (ReadLoan R)) →
    is_loan_of rows lent (option_map (lending_of g) loan) ≡ true → IsReadOf lent (option_map (told_read g) loan)
read_of g rows None None is = tt
read_of g rows None (Some loan) is = absurd (both_ways false refl is)
read_of g rows (Some lent) None is = absurd (both_ways false refl is)
read_of g rows (Some lent) (Some loan) is =
    same_names-eq (g.place (loan_region loan)) lent.path
    (and_parts (same_names (g.place (loan_region loan)) lent.path) (is_tree_at rows lent.path lent.stamp (lending_of g loan).tree) is).0

-- and it is lent still once the part of the task is back
pub still_out : (next : ℕ) (rows : List Row) (work : WorkState) (lent : List (List (List ℕ))) (job : Job) (place : List (List ℕ)) (read : Option ToldPart) →
    IsWork next rows work → AreLoans work.jobs lent → Contains work.jobs job → place ≡ path_of_task job.task → IsReadOf job.lent read → IsStillOut place read lent
still_out next rows work lent job place read rules are among at is = by job.lent refl read is
  where
    by : (o : Option Lent) → job.lent ≡ o → (told : Option ToldPart) → IsReadOf o told → IsStillOut place told lent
    by None none None of = tt
    by None none (Some part) of = absurd of
    by (Some one) some None of = absurd of
    by (Some one) some (Some part) of =
        subst (λ (p : List (List ℕ)). list_any (same_names p) (filter (is_other_path place) lent) ≡ true) (sym of)
        (subst (λ (p : List (List ℕ)). list_any (same_names one.path) (filter (is_other_path p) lent) ≡ true) (sym at)
        (part_still_lent next rows work lent job one rules are among some))

-- the part of a task is lent
pub task_out : (jobs : List Job) (lent : List (List (List ℕ))) (job : Job) (place : List (List ℕ)) → AreLoans jobs lent → Contains jobs job →
    place ≡ path_of_task job.task → list_any (same_names place) lent ≡ true
task_out jobs lent job place are among at =
    subst (λ (p : List (List ℕ)). list_any (same_names p) lent ≡ true) (sym at)
    (loan_lent jobs lent job (path_of_task job.task) are among (contains_first (path_of_task job.task) (claimed_by_part job.lent)))

-- ---- what is recorded

some_bytes : (identity : ℕ) (row : Row) (kept : Option KeptBytes) → AreBytesOf identity row kept → is_some kept ≡ true
some_bytes identity row None bytes = absurd bytes
some_bytes identity row (Some kept) bytes = refl

-- a row that was made has bytes that may be stored
pub bytes_for : (identity : ℕ) (begun : Task) (out : Outcome) (stocks : List Stock) (kept : Option KeptBytes) → IsReadyFor identity (rows_of stocks) begun kept →
    HasBytesFor (end_of stocks begun out) kept
bytes_for identity (task.Make path stamp) out stocks kept ready = by (find (stock_at path) stocks) refl
  where
    made : (stock : Stock) (failure : Option Answer) → is_some kept ≡ true → HasBytesFor (end_made stock failure) kept
    made stock None is = is
    made stock (Some given) is = tt

    by : (o : Option Stock) → find (stock_at path) stocks ≡ o → HasBytesFor (end_of_make stamp (failure_of_make out) o) kept
    by None is = tt
    by (Some stock) is =
        elim (stock.row.stamp == stamp) as
        (λ b. (stock.row.stamp == stamp) ≡ b → HasBytesFor (cond b (end_made stock (failure_of_make out)) end.Gone) kept) [
          | true ↦ λ stamped.
              made stock (failure_of_make out)
              (some_bytes identity stock.row kept
              (ready stock.row (contains_map row_of stocks stock (found_contains (stock_at path) stocks stock is)) (eqb-true stock.row.stamp stamp stamped)))
          | false ↦ λ other. tt
        ] refl
bytes_for identity (task.Wipe path) out stocks kept ready = by (failure_of_make out)
  where
    by : (failure : Option Answer) → HasBytesFor (end_of_wipe failure) kept
    by None = tt
    by (Some given) = tt

-- a row that was to be stored was recorded
recorded_some : (kept : Option KeptBytes) (last : ℕ) (how : Recorded) (old new : ToldStore) → HasRecorded kept last how old new → is_nothing how ≡ false
recorded_some None last how old new is = absurd is
recorded_some (Some bytes) last recorded.Kept old new is = refl
recorded_some (Some bytes) last (recorded.NotKept note) old new is = refl
recorded_some (Some bytes) last recorded.NoMemory old new is = refl
recorded_some (Some bytes) last recorded.Nothing old new is = absurd (is.some refl)

-- what failed wasn't made
unmade : (out : Outcome) (given : Answer) → failure_of_make out ≡ Some given → is_made out ≡ false
unmade outcome.Made given is = absurd (let never : None ≡ Some given = is in cc)
unmade outcome.Wiped given is = refl
unmade (outcome.Missing digest) given is = refl
unmade (outcome.Corrupt wanted found) given is = refl
unmade (outcome.Fault note) given is = refl
unmade outcome.NoMemory given is = refl

-- something was recorded exactly where a row was made that is there
pub recorded_for : (begun : Task) (out : Outcome) (stocks : List Stock) (kept : Option KeptBytes) (how : Recorded) (old new : ToldStore) →
    are_apart (rows_of stocks) ≡ true → may_end begun out ≡ true → IsRecordedEnd (end_of stocks begun out) kept how old new →
    IsRecordedFor begun out (rows_of stocks) how
recorded_for (task.Make path stamp) out stocks kept how old new apart may is =
    by (find (stock_at path) stocks) is
    ∙ ap (λ o. not (is_some o && is_made out)) (sym (declared_is path stamp stocks apart))
  where
    nothing : how ≡ recorded.Nothing → is_nothing how ≡ true
    nothing none = ap is_nothing none

    made : (stock : Stock) (failure : Option Answer) → failure_of_make out ≡ failure → IsRecordedEnd (end_made stock failure) kept how old new →
        is_nothing how ≡ not (is_made out)
    made stock None ends so =
        recorded_some kept stock.row.last how old new so
        ∙ ap (λ (o : Outcome). not (is_made o)) (sym (make_ends path stamp out may ends))
    made stock (Some given) ends so = nothing so.0 ∙ ap not (sym (unmade out given ends))

    by : (o : Option Stock) → IsRecordedEnd (end_of_make stamp (failure_of_make out) o) kept how old new →
        is_nothing how ≡ not (is_some (declared_by stamp o) && is_made out)
    by None so = nothing so.0
    by (Some stock) so =
        elim (stock.row.stamp == stamp) as
        (λ b. IsRecordedEnd (cond b (end_made stock (failure_of_make out)) end.Gone) kept how old new →
        is_nothing how ≡ not (is_some (cond b (Some stock.row) None) && is_made out)) [
          | true ↦ λ it. made stock (failure_of_make out) refl it
          | false ↦ λ it. nothing it.0
        ] so
recorded_for (task.Wipe path) out stocks kept how old new apart may is = by (failure_of_make out) is
  where
    by : (failure : Option Answer) → IsRecordedEnd (end_of_wipe failure) kept how old new → is_nothing how ≡ true
    by None so = ap is_nothing so.0
    by (Some given) so = ap is_nothing so.0

-- ---- its outcome

-- a job ends as its task may
pub ends_so : (begun : Task) (out : Outcome) → ends_task (is_make begun) out ≡ true → may_end begun out ≡ true
ends_so (task.Make path stamp) outcome.Made is = refl
ends_so (task.Make path stamp) outcome.Wiped is = is
ends_so (task.Make path stamp) (outcome.Missing digest) is = refl
ends_so (task.Make path stamp) (outcome.Corrupt wanted found) is = refl
ends_so (task.Make path stamp) (outcome.Fault note) is = refl
ends_so (task.Make path stamp) outcome.NoMemory is = refl
ends_so (task.Wipe path) outcome.Made is = is
ends_so (task.Wipe path) outcome.Wiped is = refl
ends_so (task.Wipe path) (outcome.Missing digest) is = is
ends_so (task.Wipe path) (outcome.Corrupt wanted found) is = is
ends_so (task.Wipe path) (outcome.Fault note) is = refl
ends_so (task.Wipe path) outcome.NoMemory is = refl

make_fault : (path : List (List ℕ)) (stamp : ℕ) (at : Device) → is_make_device at ≡ true → may_fault (task.Make path stamp) at ≡ true
make_fault path stamp device.Disk is = refl
make_fault path stamp device.Store is = refl
make_fault path stamp device.Keeper is = is

wipe_fault : (path : List (List ℕ)) (at : Device) → is_disk at ≡ true → may_fault (task.Wipe path) at ≡ true
wipe_fault path device.Disk is = refl
wipe_fault path device.Store is = is
wipe_fault path device.Keeper is = is

risen_note : (note : FaultNote) → (note.before < 2 ^ 64) × (note.after < 2 ^ 64) → nat_le (risen note.before) note.after ≡ true → HasRisen note
risen_note note small is = rose_noted note small.0 small.1 (leb-true (risen note.before) note.after is)

-- a fault is of a device that the task calls, and its count rose
pub faulted_so : (begun : Task) (out : Outcome) → ends_task (is_make begun) out ≡ true → has_count_risen out ≡ true → AreCounts (note_of_outcome out) →
    IsFaultOf (may_fault begun) (note_of_outcome out)
faulted_so begun outcome.Made ends rose small = tt
faulted_so begun outcome.Wiped ends rose small = tt
faulted_so begun (outcome.Missing digest) ends rose small = tt
faulted_so begun (outcome.Corrupt wanted found) ends rose small = tt
faulted_so (task.Make path stamp) (outcome.Fault note) ends rose small = (make_fault path stamp note.device ends, risen_note note small rose)
faulted_so (task.Wipe path) (outcome.Fault note) ends rose small = (wipe_fault path note.device ends, risen_note note small rose)
faulted_so begun outcome.NoMemory ends rose small = tt

-- where the disk failed a job, its count isn't 0 once the parts are back
some_risen : (note : FaultNote) → nat_le (risen note.before) note.after ≡ true → 1 ≤ note.after
some_risen note is = let up = leb-true (risen note.before) note.after is in omega (arith, up)

pub disk_risen : {R : Type 0} (g : RegionGhosts R) (out : Outcome) (count now : ℕ) (loan : Option (ReadLoan R)) → counts_fault g out count loan ≡ true →
    has_count_risen out ≡ true → (1 ≤ count → 1 ≤ now) → HasRisenBy (option_map (told_read g) loan) now → HasDiskRisen now (note_of_outcome out)
disk_risen g outcome.Made count now loan counted rose its of_loan = tt
disk_risen g outcome.Wiped count now loan counted rose its of_loan = tt
disk_risen g (outcome.Missing digest) count now loan counted rose its of_loan = tt
disk_risen g (outcome.Corrupt wanted found) count now loan counted rose its of_loan = tt
disk_risen g outcome.NoMemory count now loan counted rose its of_loan = tt
disk_risen {R} g (outcome.Fault note) count now loan counted rose its of_loan = λ on_disk.
    either (nat_le note.after count) refl
    (subst (λ (d : Device). (not (is_disk d) || (nat_le note.after count || loan_counted g loan note.after)) ≡ true) on_disk counted)
  where
    least : 1 ≤ note.after
    least = some_risen note rose

    by_loan : (o : Option (ReadLoan R)) → loan_counted g o note.after ≡ true → HasRisenBy (option_map (told_read g) o) now → 1 ≤ now
    by_loan None is up = absurd (both_ways false refl is)
    by_loan (Some one) is up = up (let upto = leb-true note.after (g.fault_count (loan_region one)) is in omega (arith, upto, least))

    either : (b : Bool) → nat_le note.after count ≡ b → (b || loan_counted g loan note.after) ≡ true → 1 ≤ now
    either true within is = its (let upto = leb-true note.after count within in omega (arith, upto, least))
    either false beyond is = by_loan loan is of_loan
