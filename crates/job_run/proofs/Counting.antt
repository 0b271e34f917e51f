-- What a step leaves of a job.
use Rattle.std.proofs.Common.{◌≡◌, ◌≤◌, ◌⊎◌, inl, inr, ℕ, Bool, true, false, List, Option, Some, None, refl, sym, ap, ◌∙◌, subst, arith}
use Rattle.std.specs.Option.{ForSome}
use Rattle.mat_io.specs.Causes.{Rose}
use Rattle.mat_model.specs.declared.answers.Device.{Device}
use Rattle.mat_model.specs.declared.answers.Device.TheVariants as device
use Rattle.mat_model.specs.declared.answers.FaultNote.{FaultNote}
use Rattle.mat_model.specs.declared.entries.Outcome.{Outcome}
use Rattle.mat_model.specs.declared.entries.Outcome.TheVariants as outcome
use Rattle.mat_tree.specs.declared.flat.Flat.{Flat}
use Rattle.region_port.specs.States.{loan_region, state_region}
use Rattle.region_port.specs.declared.port.Region.{Ghosts}
use Rattle.region_port.specs.declared.states.ReadLoan.{ReadLoan}
use Rattle.job_run.specs.Failures.{IsDiskFailure, note_of}
use Rattle.job_run.specs.Jobs.{Counts, LoanCounts}
use Rattle.job_run.specs.States.{failure_of, is_disk, region_of}
use Rattle.job_run.specs.declared.states.Doing.{Doing}
use Rattle.job_run.specs.Steps.{LoanStays, CallsLoan, CallsPart, DoingAsks, Spot, Stands, StateAsks, Told, loan_call, part_call, state_spot, store_call}
use Rattle.job_run.specs.declared.states.Doing.TheVariants as doing
use Rattle.job_run.specs.declared.states.Filling.TheVariants as filling
use Rattle.job_run.specs.declared.states.State.{State}
use Rattle.job_run.specs.declared.states.State.TheVariants as state

-- a stage that was moved
pub stands_moved : {R : Type 0} {g : Ghosts R} (place : List (List ℕ)) (goal : Option (List Flat)) (lent : Bool) (s t : State R g) → t ≡ s →
    Stands place goal lent s → Stands place goal lent t
stands_moved {R} {g} place goal lent s t same stands = subst (λ (x : State R g). Stands place goal lent x) (sym same) stands

-- a call on the disk that failed by a note counted it
disk_counted : (before after : ℕ) (note : FaultNote) → note ≡ note_of device.Disk before after → note.after ≤ after
disk_counted before after note is =
    let same : note.after ≡ after = ap (λ (n : FaultNote). n.after) is in omega arith

-- a stage that stands has a region
has_region : {R : Type 0} {g : Ghosts R} (place : List (List ℕ)) (goal : Option (List Flat)) (lent : Bool) (s : State R g) → Stands place goal lent s →
    (region : R) × (region_of s ≡ Some region)
has_region {R} {g} place goal lent (state.Wiping region) stands = (region, refl)
has_region {R} {g} place goal lent (state.Emptying region) stands = (region, refl)
has_region {R} {g} place goal lent (state.Clearing region order) stands = (region, refl)
has_region {R} {g} place goal lent (state.Making making) stands = (making.region, refl)
has_region {R} {g} place goal lent (state.Ended left ended) stands = (state_region left, refl)
has_region {R} {g} place goal lent state.Moving stands = elim stands as (λ _. (region : R) × (None ≡ Some region)) [ ]

-- a call on the store fails by no note of the disk
asks_other : {R : Type 0} {g : Ghosts R} (s : State R g) (old new : Told) (note : FaultNote) → StateAsks s old new (Some (outcome.Fault note)) → is_disk note.device ≡ false
asks_other {R} {g} (state.Wiping region) old new note asks = elim asks as (λ _. is_disk note.device ≡ false) [ ]
asks_other {R} {g} (state.Emptying region) old new note asks = elim asks as (λ _. is_disk note.device ≡ false) [ ]
asks_other {R} {g} (state.Clearing region order) old new note asks = elim asks as (λ _. is_disk note.device ≡ false) [ ]
asks_other {R} {g} (state.Ended left ended) old new note asks = elim asks as (λ _. is_disk note.device ≡ false) [ ]
asks_other {R} {g} state.Moving old new note asks = elim asks as (λ _. is_disk note.device ≡ false) [ ]
asks_other {R} {g} (state.Making making) old new note asks = by making.doing asks
  where
    by : (one : Doing) → DoingAsks one old new (Some (outcome.Fault note)) → is_disk note.device ≡ false
    by (doing.Dir rel) asks = elim asks as (λ _. is_disk note.device ≡ false) [ ]
    by (doing.Link rel target) asks = elim asks as (λ _. is_disk note.device ≡ false) [ ]
    by doing.Sync asks = elim asks as (λ _. is_disk note.device ≡ false) [ ]
    by (doing.File filing (filling.Held at)) asks = elim asks as (λ _. is_disk note.device ≡ false) [ ]
    by (doing.File filing (filling.Got from at piece more)) asks = elim asks as (λ _. is_disk note.device ≡ false) [ ]
    by (doing.File filing (filling.Due from reading)) asks = ap (λ (n : FaultNote). is_disk n.device) asks.why.0

-- a call on the part that is lent counted its fault
loan_counted : {R : Type 0} (g : Ghosts R) (old new : Option (ReadLoan R)) (note : FaultNote) → CallsLoan g old new (Some (outcome.Fault note)) → LoanCounts g new note.after
loan_counted g None new note calls = elim calls as (λ _. LoanCounts g new note.after) [ ]
loan_counted g (Some old) None note calls = calls
loan_counted g (Some old) (Some new) note calls =
    disk_counted (g.fault_count (loan_region old)) (g.fault_count (loan_region new)) note calls.call.why.0

-- the count of the device rose that a note is of
note_rose : (at : Device) (before after : ℕ) (note : FaultNote) → note ≡ note_of at before after → Rose before after → Rose note.before note.after
note_rose at before after note is rose = subst (λ (n : FaultNote). Rose n.before n.after) (sym is) rose

disk_rose : (before after : ℕ) (note : FaultNote) → IsDiskFailure before after (Some (outcome.Fault note)) → Rose note.before note.after
disk_rose before after note why = note_rose device.Disk before after note why.0 why.1

loan_rose : {R : Type 0} (g : Ghosts R) (old new : Option (ReadLoan R)) (note : FaultNote) → CallsLoan g old new (Some (outcome.Fault note)) →
    Rose note.before note.after
loan_rose g None new note calls = elim calls as (λ _. Rose note.before note.after) [ ]
loan_rose g (Some old) None note calls = elim calls as (λ _. Rose note.before note.after) [ ]
loan_rose g (Some old) (Some new) note calls = disk_rose _ _ note calls.call.why

asks_rose : {R : Type 0} {g : Ghosts R} (s : State R g) (old new : Told) (note : FaultNote) → StateAsks s old new (Some (outcome.Fault note)) →
    Rose note.before note.after
asks_rose {R} {g} (state.Wiping region) old new note asks = elim asks as (λ _. Rose note.before note.after) [ ]
asks_rose {R} {g} (state.Emptying region) old new note asks = elim asks as (λ _. Rose note.before note.after) [ ]
asks_rose {R} {g} (state.Clearing region order) old new note asks = elim asks as (λ _. Rose note.before note.after) [ ]
asks_rose {R} {g} (state.Ended left ended) old new note asks = elim asks as (λ _. Rose note.before note.after) [ ]
asks_rose {R} {g} state.Moving old new note asks = elim asks as (λ _. Rose note.before note.after) [ ]
asks_rose {R} {g} (state.Making making) old new note asks = by making.doing asks
  where
    by : (one : Doing) → DoingAsks one old new (Some (outcome.Fault note)) → Rose note.before note.after
    by (doing.Dir rel) asks = elim asks as (λ _. Rose note.before note.after) [ ]
    by (doing.Link rel target) asks = elim asks as (λ _. Rose note.before note.after) [ ]
    by doing.Sync asks = elim asks as (λ _. Rose note.before note.after) [ ]
    by (doing.File filing (filling.Held at)) asks = elim asks as (λ _. Rose note.before note.after) [ ]
    by (doing.File filing (filling.Got from at piece more)) asks = elim asks as (λ _. Rose note.before note.after) [ ]
    by (doing.File filing (filling.Due from reading)) asks = note_rose device.Store old.faults new.faults note asks.why.0 asks.why.1

-- a fault of the disk was counted in the step that met it
pub counted_after : {R : Type 0} {g : Ghosts R} (place : List (List ℕ)) (goal : Option (List Flat)) (lent : Bool) (old new : State R g) (loan later : Option (ReadLoan R)) (told now : Told) →
    Stands place goal lent old →
    (state_spot old ≡ part_call → ForSome (region_of old) (λ (before : R). CallsPart {g = g} before new)) →
    (state_spot old ≡ loan_call → CallsLoan g loan later (failure_of new)) →
    (state_spot old ≡ store_call → StateAsks old told now (failure_of new)) → Counts new later
counted_after {R} {g} place goal lent old (state.Wiping region) loan later told now stands on_part on_loan on_store = tt
counted_after {R} {g} place goal lent old (state.Emptying region) loan later told now stands on_part on_loan on_store = tt
counted_after {R} {g} place goal lent old (state.Clearing region order) loan later told now stands on_part on_loan on_store = tt
counted_after {R} {g} place goal lent old (state.Making making) loan later told now stands on_part on_loan on_store = tt
counted_after {R} {g} place goal lent old state.Moving loan later told now stands on_part on_loan on_store = tt
counted_after {R} {g} place goal lent old (state.Ended left outcome.Made) loan later told now stands on_part on_loan on_store = tt
counted_after {R} {g} place goal lent old (state.Ended left outcome.Wiped) loan later told now stands on_part on_loan on_store = tt
counted_after {R} {g} place goal lent old (state.Ended left (outcome.Missing digest)) loan later told now stands on_part on_loan on_store = tt
counted_after {R} {g} place goal lent old (state.Ended left (outcome.Corrupt wanted found)) loan later told now stands on_part on_loan on_store = tt
counted_after {R} {g} place goal lent old (state.Ended left outcome.NoMemory) loan later told now stands on_part on_loan on_store = tt
counted_after {R} {g} place goal lent old (state.Ended left (outcome.Fault note)) loan later told now stands on_part on_loan on_store =
    (rose (state_spot old) refl, λ disk. by disk (state_spot old) refl)
  where
    before : (region : R) × (region_of old ≡ Some region)
    before = has_region place goal lent old stands

    rose : (spot : Spot) → state_spot old ≡ spot → Rose note.before note.after
    rose part_call is = disk_rose _ _ note (on_part is before.0 before.1 (state_region left) refl).why
    rose loan_call is = loan_rose g loan later note (on_loan is)
    rose store_call is = asks_rose old told now note (on_store is)

    by : is_disk note.device ≡ true → (spot : Spot) → state_spot old ≡ spot → (note.after ≤ g.fault_count (state_region left)) ⊎ LoanCounts g later note.after
    by disk part_call is =
        let call = on_part is before.0 before.1 (state_region left) refl in
        inl (disk_counted (g.fault_count before.0) (g.fault_count (state_region left)) note call.why.0)
    by disk loan_call is = inr (loan_counted g loan later note (on_loan is))
    by disk store_call is =
        let off : is_disk note.device ≡ false = asks_other old told now note (on_store is) in
        let never : true ≡ false = sym disk ∙ off in cc

-- the same of stages that were moved
pub counts_moved : {R : Type 0} {g : Ghosts R} (new placed : State R g) (loan : Option (ReadLoan R)) → placed ≡ new → Counts new loan → Counts placed loan
counts_moved {R} {g} new placed loan same counts = subst (λ (s : State R g). Counts s loan) (sym same) counts

pub calls_moved : {R : Type 0} {g : Ghosts R} (old taken new placed : State R g) → taken ≡ old → placed ≡ new →
    ForSome (region_of taken) (λ (before : R). CallsPart {g = g} before new) → ForSome (region_of old) (λ (before : R). CallsPart {g = g} before placed)
calls_moved {R} {g} old taken new placed was is calls =
    subst (λ (s : State R g). ForSome (region_of old) (λ (before : R). CallsPart {g = g} before s)) (sym is)
    (subst (λ (s : State R g). ForSome (region_of s) (λ (before : R). CallsPart {g = g} before new)) was calls)

pub stands_lent : {R : Type 0} {g : Ghosts R} (place : List (List ℕ)) (goal : Option (List Flat)) (before after : Bool) (s : State R g) → after ≡ before →
    Stands place goal before s → Stands place goal after s
stands_lent {R} {g} place goal before after s same stands = subst (λ (b : Bool). Stands place goal b s) (sym same) stands

-- ---- the part that is lent

pub stays_same : {R : Type 0} (g : Ghosts R) (loan : Option (ReadLoan R)) → LoanStays g loan loan
stays_same g None = tt
stays_same g (Some loan) = record { tree = refl; place = refl; part = refl; rough = refl }

pub stays_on : {R : Type 0} (g : Ghosts R) (first second third : Option (ReadLoan R)) → LoanStays g first second → LoanStays g second third → LoanStays g first third
stays_on g None None None one two = tt
stays_on g None None (Some third) one two = two
stays_on g None (Some second) third one two = elim one as (λ _. LoanStays g None third) [ ]
stays_on g (Some first) None third one two = elim one as (λ _. LoanStays g (Some first) third) [ ]
stays_on g (Some first) (Some second) None one two = two
stays_on g (Some first) (Some second) (Some third) one two = record {
  tree = two.tree ∙ one.tree;
  place = two.place ∙ one.place;
  part = two.part ∙ one.part;
  rough = two.rough ∙ one.rough;
}

-- a call on it leaves it
stays_called : {R : Type 0} (g : Ghosts R) (old new : Option (ReadLoan R)) (failure : Option Outcome) → CallsLoan g old new failure → LoanStays g old new
stays_called g None new failure calls = elim calls as (λ _. LoanStays g None new) [ ]
stays_called g (Some old) None failure calls = calls
stays_called g (Some old) (Some new) failure calls = record { tree = calls.tree; place = calls.place; part = calls.part; rough = calls.rough }

-- so each step leaves it
pub stays_after : {R : Type 0} (g : Ghosts R) (spot : Spot) (old new : Option (ReadLoan R)) (failure : Option Outcome) → (spot ≡ part_call → new ≡ old) →
    (spot ≡ loan_call → CallsLoan g old new failure) → (spot ≡ store_call → new ≡ old) → LoanStays g old new
stays_after {R} g part_call old new failure on_part on_loan on_store = subst (λ (l : Option (ReadLoan R)). LoanStays g old l) (sym (on_part refl)) (stays_same g old)
stays_after {R} g loan_call old new failure on_part on_loan on_store = stays_called g old new failure (on_loan refl)
stays_after {R} g store_call old new failure on_part on_loan on_store = subst (λ (l : Option (ReadLoan R)). LoanStays g old l) (sym (on_store refl)) (stays_same g old)
