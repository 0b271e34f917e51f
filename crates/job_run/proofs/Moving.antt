-- A job some steps later.
use Rattle.std.proofs.Common.{◌≡◌, ◌≤◌, ◌+◌, ◌⊎◌, inl, inr, ℕ, Bool, List, Option, Some, None, refl, sym, ap, ◌∙◌, subst, arith}
use Rattle.fetch_port.specs.Fetches.{Blobs, GivesPiece, Lacks, held_at}
use Rattle.mat_digest.specs.declared.digest.Digest.{Digest}
use Rattle.mat_io.specs.Causes.{Rose}
use Rattle.mat_model.specs.declared.answers.Device.{Device}
use Rattle.mat_model.specs.declared.answers.Device.TheVariants as device
use Rattle.mat_model.specs.declared.answers.FaultNote.{FaultNote}
use Rattle.mat_model.specs.declared.entries.Outcome.{Outcome}
use Rattle.mat_model.specs.declared.entries.Outcome.TheVariants as outcome
use Rattle.region_port.specs.States.{loan_region}
use Rattle.region_port.specs.declared.port.Region.{Ghosts}
use Rattle.region_port.specs.declared.states.ReadLoan.{ReadLoan}
use Rattle.job_run.specs.Failures.{IsDiskFailure, note_of}
use Rattle.job_run.specs.Moves.{Around, Causes, DeviceFails, IsBetween, LoanFaults, LoanMoves, Moves, RegionFaults, RegionMoves, around, left_by}
use Rattle.job_run.specs.Pieces.{asked_for}
use Rattle.job_run.specs.StoreCalls.{Misgives}
use Rattle.job_run.specs.Steps.{Asks, CallsLoan, CallsPart, CallsRegion, Fetching, FetchingFrom, IsAt, Spot, Stands, StateAsks, Told, state_fetching, state_spot, loan_call, part_call, store_call}
use Rattle.job_run.specs.Views.{Seen}
use Rattle.mat_model.specs.declared.entries.Card.{Card}
use Rattle.mat_tree.specs.declared.flat.Flat.{Flat}
use Rattle.std.specs.Option.{ForSome}
use Rattle.job_run.specs.Seen.{seen_at}
use Rattle.job_run.specs.States.{failure_of, region_of, state_asks}
use Rattle.job_run.specs.declared.states.State.{State}
use Rattle.job_run.proofs.Sealed.{asks_fetching, stands_at}
use Rattle.job_run.proofs.Sealed.{region_called as region_called_by}

-- ---- no step

pub region_same : {R : Type 0} (g : Ghosts R) (region : Option R) → RegionMoves g region region
region_same g None = tt
region_same g (Some region) = record { place = refl; counts = omega arith }

pub loan_same : {R : Type 0} (g : Ghosts R) (loan : Option (ReadLoan R)) → LoanMoves g loan loan
loan_same g None = tt
loan_same g (Some loan) = record { keeps = record { tree = refl; place = refl; part = refl; rough = refl }; counts = omega arith }

pub moves_same : {R : Type 0} (g : Ghosts R) (job : Seen R) (told : Told) → Moves g job told job told
moves_same g job told = record {
  card = refl;
  goal = refl;
  region = region_same g job.region;
  loan = loan_same g job.loan;
  holds = refl;
  faults = omega arith;
  asks = omega arith;
  fetching = λ from. from;
}

-- ---- one step

region_called : {R : Type 0} (g : Ghosts R) (place : List (List ℕ)) (old new : Option R) (failure : Option Outcome) → IsAt g place old → IsAt g place new →
    CallsRegion g old new failure → RegionMoves g old new
region_called g place None new failure was is calls = elim calls as (λ _. RegionMoves g None new) [ ]
region_called g place (Some old) None failure was is calls = calls
region_called g place (Some old) (Some new) failure was is calls = record { place = is ∙ sym was; counts = calls.later }

loan_called : {R : Type 0} (g : Ghosts R) (old new : Option (ReadLoan R)) (failure : Option Outcome) → CallsLoan g old new failure → LoanMoves g old new
loan_called g None new failure calls = elim calls as (λ _. LoanMoves g None new) [ ]
loan_called g (Some old) None failure calls = calls
loan_called g (Some old) (Some new) failure calls =
    record { keeps = record { tree = calls.tree; place = calls.place; part = calls.part; rough = calls.rough }; counts = calls.call.later }

store_later : (file : Option Fetching) (old new : Told) (failure : Option Outcome) → Asks file old new failure → old.faults ≤ new.faults
store_later None old new failure asks = elim asks as (λ _. old.faults ≤ new.faults) [ ]
store_later (Some file) old new failure asks = asks.later

pub step_moves : {R : Type 0} (g : Ghosts R) (place : List (List ℕ)) (old new : Seen R) (told now : Told) → new.card ≡ old.card → new.goal ≡ old.goal →
    IsAt g place old.region → IsAt g place new.region →
    (old.spot ≡ part_call → CallsRegion g old.region new.region new.failure × (new.loan ≡ old.loan) × (now ≡ told)) →
    (old.spot ≡ loan_call → (new.region ≡ old.region) × CallsLoan g old.loan new.loan new.failure × (now ≡ told)) →
    (old.spot ≡ store_call → (new.region ≡ old.region) × (new.loan ≡ old.loan) × Asks old.fetching told now new.failure) →
    now.holds ≡ told.holds → now.fetches + new.asks ≤ told.fetches + old.asks →
    (FetchingFrom told.holds old.fetching → FetchingFrom told.holds new.fetching) → Moves g old told new now
step_moves {R} g place old new told now card goal was is on_part on_loan on_store holds asks fetching = by old.spot refl
  where
    all : RegionMoves g old.region new.region → LoanMoves g old.loan new.loan → told.faults ≤ now.faults → Moves g old told new now
    all region loan faults = record {
      card = card;
      goal = goal;
      region = region;
      loan = loan;
      holds = holds;
      faults = faults;
      asks = asks;
      fetching = fetching;
    }

    still : now ≡ told → told.faults ≤ now.faults
    still same = let equal : now.faults ≡ told.faults = ap (λ (t : Told). t.faults) same in omega arith

    region_stays : new.region ≡ old.region → RegionMoves g old.region new.region
    region_stays same = subst (λ (r : Option R). RegionMoves g old.region r) (sym same) (region_same g old.region)

    loan_stays : new.loan ≡ old.loan → LoanMoves g old.loan new.loan
    loan_stays same = subst (λ (l : Option (ReadLoan R)). LoanMoves g old.loan l) (sym same) (loan_same g old.loan)

    by : (spot : Spot) → old.spot ≡ spot → Moves g old told new now
    by part_call at = let calls = on_part at in all (region_called g place old.region new.region new.failure was is calls.0) (loan_stays calls.1) (still calls.2)
    by loan_call at = let calls = on_loan at in all (region_stays calls.0) (loan_called g old.loan new.loan new.failure calls.1) (still calls.2)
    by store_call at =
        let calls = on_store at in all (region_stays calls.0) (loan_stays calls.1) (store_later old.fetching told now new.failure calls.2)

-- ---- why it failed

noted : (device : Device) (before after : ℕ) (note : FaultNote) → note ≡ note_of device before after → Rose before after → IsBetween before after note
noted device before after note is rose =
    subst (λ (n : FaultNote). IsBetween before after n) (sym is) (record { first = omega arith; last = omega arith; rose = rose })

disk_causes : {R : Type 0} (g : Ghosts R) (old new : Around R) (before after : ℕ) (failure : Option Outcome) → IsDiskFailure before after failure →
    ((note : FaultNote) → IsBetween before after note → RegionFaults g old.region new.region note ⊎ LoanFaults g old.loan new.loan note) → Causes g old new failure
disk_causes g old new before after None why told = tt
disk_causes g old new before after (Some outcome.Made) why told = why
disk_causes g old new before after (Some outcome.Wiped) why told = why
disk_causes g old new before after (Some (outcome.Missing digest)) why told = elim why as (λ _. Lacks (held_at old.told.holds digest)) [ ]
disk_causes g old new before after (Some (outcome.Corrupt wanted found)) why told =
    elim why as (λ _. FetchingFrom old.told.holds old.fetching → Misgives (held_at old.told.holds wanted) wanted found) [ ]
disk_causes g old new before after (Some outcome.NoMemory) why told = tt
disk_causes g old new before after (Some (outcome.Fault note)) why told =
    subst (λ (d : Device). DeviceFails g old new note d) (sym (ap (λ (n : FaultNote). n.device) why.0)) (told note (noted device.Disk before after note why.0 why.1))

region_causes : {R : Type 0} (g : Ghosts R) (old new : Around R) (failure : Option Outcome) → CallsRegion g old.region new.region failure → Causes g old new failure
region_causes {R} g old new failure calls = by old.region new.region refl refl calls
  where
    by : (a b : Option R) → old.region ≡ a → new.region ≡ b → CallsRegion g a b failure → Causes g old new failure
    by None b was is calls = elim calls as (λ _. Causes g old new failure) [ ]
    by (Some a) None was is calls = elim calls as (λ _. Causes g old new failure) [ ]
    by (Some a) (Some b) was is calls = disk_causes g old new (g.fault_count a) (g.fault_count b) failure calls.why
        (λ note between. inl (subst (λ (r : Option R). RegionFaults g r new.region note) (sym was) (subst (λ (r : Option R). RegionFaults g (Some a) r note) (sym is) between)))

loan_causes : {R : Type 0} (g : Ghosts R) (old new : Around R) (failure : Option Outcome) → CallsLoan g old.loan new.loan failure → Causes g old new failure
loan_causes {R} g old new failure calls = by old.loan new.loan refl refl calls
  where
    by : (a b : Option (ReadLoan R)) → old.loan ≡ a → new.loan ≡ b → CallsLoan g a b failure → Causes g old new failure
    by None b was is calls = elim calls as (λ _. Causes g old new failure) [ ]
    by (Some a) None was is calls = elim calls as (λ _. Causes g old new failure) [ ]
    by (Some a) (Some b) was is calls = disk_causes g old new (g.fault_count (loan_region a)) (g.fault_count (loan_region b)) failure calls.call.why
        (λ note between. inr (subst (λ (r : Option (ReadLoan R)). LoanFaults g r new.loan note) (sym was)
        (subst (λ (r : Option (ReadLoan R)). LoanFaults g (Some a) r note) (sym is) between)))

store_causes : {R : Type 0} (g : Ghosts R) (old new : Around R) (failure : Option Outcome) → Asks old.fetching old.told new.told failure → Causes g old new failure
store_causes {R} g old new failure asks = by old.fetching failure refl asks
  where
    by : (file : Option Fetching) (failure : Option Outcome) → old.fetching ≡ file → Asks file old.told new.told failure → Causes g old new failure
    by None failure is asks = elim asks as (λ _. Causes g old new failure) [ ]
    by (Some file) None is asks = tt
    by (Some file) (Some outcome.Made) is asks = asks.why
    by (Some file) (Some outcome.Wiped) is asks = asks.why
    by (Some file) (Some outcome.NoMemory) is asks = tt
    by (Some file) (Some (outcome.Missing digest)) is asks =
        subst (λ (d : Digest). Lacks (held_at old.told.holds d)) (sym asks.why.0) asks.why.1
    by (Some file) (Some (outcome.Fault note)) is asks =
        subst (λ (d : Device). DeviceFails g old new note d) (sym (ap (λ (n : FaultNote). n.device) asks.why.0))
        (noted device.Store old.told.faults new.told.faults note asks.why.0 asks.why.1)
    by (Some file) (Some (outcome.Corrupt wanted found)) is asks = λ from.
        let given = subst (λ (f : Option Fetching). FetchingFrom old.told.holds f) is from in
        let gave = asks.why.1 given.given given.has in
        subst (λ (d : Digest). Misgives (held_at old.told.holds d) d found) (sym asks.why.0) (record {
          given = given.given;
          piece = gave.0;
          found_is = gave.1;
          first = given.first;
          wrong = gave.2.wrong;
          told = subst (λ (n : ℕ). GivesPiece (held_at old.told.holds file.wanted) n (asked_for file.wanted.size n) gave.0) given.has.at gave.2.told;
        })

pub step_causes : {R : Type 0} (g : Ghosts R) (old new : Seen R) (told now : Told) →
    (old.spot ≡ part_call → CallsRegion g old.region new.region new.failure × (new.loan ≡ old.loan) × (now ≡ told)) →
    (old.spot ≡ loan_call → (new.region ≡ old.region) × CallsLoan g old.loan new.loan new.failure × (now ≡ told)) →
    (old.spot ≡ store_call → (new.region ≡ old.region) × (new.loan ≡ old.loan) × Asks old.fetching told now new.failure) →
    Causes g (around old told) (around new now) new.failure
step_causes {R} g old new told now on_part on_loan on_store = by old.spot refl
  where
    by : (spot : Spot) → old.spot ≡ spot → Causes g (around old told) (around new now) new.failure
    by part_call at = region_causes g (around old told) (around new now) new.failure (on_part at).0
    by loan_call at = loan_causes g (around old told) (around new now) new.failure (on_loan at).1
    by store_call at = store_causes g (around old told) (around new now) new.failure (on_store at).2

-- ---- further steps

region_on : {R : Type 0} (g : Ghosts R) (first second third : Option R) → RegionMoves g first second → RegionMoves g second third → RegionMoves g first third
region_on g None None None one two = tt
region_on g None None (Some third) one two = two
region_on g None (Some second) third one two = elim one as (λ _. RegionMoves g None third) [ ]
region_on g (Some first) None third one two = elim one as (λ _. RegionMoves g (Some first) third) [ ]
region_on g (Some first) (Some second) None one two = two
region_on g (Some first) (Some second) (Some third) one two = let le = one.counts in let more = two.counts in record { place = two.place ∙ one.place; counts = omega arith }

loan_on : {R : Type 0} (g : Ghosts R) (first second third : Option (ReadLoan R)) → LoanMoves g first second → LoanMoves g second third → LoanMoves g first third
loan_on g None None None one two = tt
loan_on g None None (Some third) one two = two
loan_on g None (Some second) third one two = elim one as (λ _. LoanMoves g None third) [ ]
loan_on g (Some first) None third one two = elim one as (λ _. LoanMoves g (Some first) third) [ ]
loan_on g (Some first) (Some second) None one two = two
loan_on g (Some first) (Some second) (Some third) one two = let le = one.counts in let more = two.counts in record {
  keeps = record {
    tree = two.keeps.tree ∙ one.keeps.tree;
    place = two.keeps.place ∙ one.keeps.place;
    part = two.keeps.part ∙ one.keeps.part;
    rough = two.keeps.rough ∙ one.keeps.rough;
  };
  counts = omega arith;
}

pub moves_on : {R : Type 0} (g : Ghosts R) (first second third : Seen R) (one two three : Told) → Moves g first one second two → Moves g second two third three →
    Moves g first one third three
moves_on {R} g first second third one two three a b = let faults = a.faults in let more = b.faults in let asks = a.asks in let less = b.asks in record {
  card = b.card ∙ a.card;
  goal = b.goal ∙ a.goal;
  region = region_on g first.region second.region third.region a.region b.region;
  loan = loan_on g first.loan second.loan third.loan a.loan b.loan;
  holds = b.holds ∙ a.holds;
  faults = omega arith;
  asks = omega arith;
  fetching = λ from.
      subst (λ (h : Option Blobs). FetchingFrom h third.fetching) a.holds
      (b.fetching (subst (λ (h : Option Blobs). FetchingFrom h second.fetching) (sym a.holds) (a.fetching from)));
}

between_on : (before first last : ℕ) (note : FaultNote) → before ≤ first → IsBetween first last note → IsBetween before last note
between_on before first last note le between = let from = between.first in record { first = omega arith; last = between.last; rose = between.rose }

region_faults_on : {R : Type 0} (g : Ghosts R) (first second third : Option R) (note : FaultNote) → RegionMoves g first second → RegionFaults g second third note →
    RegionFaults g first third note
region_faults_on g first None third note moves faults = elim faults as (λ _. RegionFaults g first third note) [ ]
region_faults_on g first (Some second) None note moves faults = elim faults as (λ _. RegionFaults g first None note) [ ]
region_faults_on g None (Some second) (Some third) note moves faults = moves
region_faults_on g (Some first) (Some second) (Some third) note moves faults =
    between_on (g.fault_count first) (g.fault_count second) (g.fault_count third) note moves.counts faults

loan_faults_on : {R : Type 0} (g : Ghosts R) (first second third : Option (ReadLoan R)) (note : FaultNote) → LoanMoves g first second → LoanFaults g second third note →
    LoanFaults g first third note
loan_faults_on g first None third note moves faults = elim faults as (λ _. LoanFaults g first third note) [ ]
loan_faults_on g first (Some second) None note moves faults = elim faults as (λ _. LoanFaults g first None note) [ ]
loan_faults_on g None (Some second) (Some third) note moves faults = moves
loan_faults_on g (Some first) (Some second) (Some third) note moves faults =
    between_on (g.fault_count (loan_region first)) (g.fault_count (loan_region second)) (g.fault_count (loan_region third)) note moves.counts faults

device_on : {R : Type 0} (g : Ghosts R) (first second third : Around R) (note : FaultNote) (d : Device) → RegionMoves g first.region second.region →
    LoanMoves g first.loan second.loan → first.told.faults ≤ second.told.faults → DeviceFails g second third note d → DeviceFails g first third note d
device_on g first second third note device.Disk region loan faults (inl fails) =
    inl (region_faults_on g first.region second.region third.region note region fails)
device_on g first second third note device.Disk region loan faults (inr fails) = inr (loan_faults_on g first.loan second.loan third.loan note loan fails)
device_on g first second third note device.Store region loan faults fails =
    between_on first.told.faults second.told.faults third.told.faults note faults fails
device_on g first second third note device.Keeper region loan faults fails = fails

pub causes_on : {R : Type 0} (g : Ghosts R) (first second : Seen R) (one two : Told) (third : Around R) (failure : Option Outcome) → Moves g first one second two →
    Causes g (around second two) third failure → Causes g (around first one) third failure
causes_on g first second one two third None moves why = tt
causes_on g first second one two third (Some outcome.Made) moves why = why
causes_on g first second one two third (Some outcome.Wiped) moves why = why
causes_on g first second one two third (Some outcome.NoMemory) moves why = tt
causes_on g first second one two third (Some (outcome.Missing digest)) moves why =
    subst (λ (h : Option Blobs). Lacks (held_at h digest)) moves.holds why
causes_on g first second one two third (Some (outcome.Corrupt wanted found)) moves why = λ from.
    subst (λ (h : Option Blobs). Misgives (held_at h wanted) wanted found) moves.holds
    (why (subst (λ (h : Option Blobs). FetchingFrom h second.fetching) (sym moves.holds) (moves.fetching from)))
causes_on g first second one two third (Some (outcome.Fault note)) moves why =
    device_on g (around first one) (around second two) third note note.device moves.region moves.loan moves.faults why

-- ---- a step of a job, by its stages

pub stages_move : {R : Type 0} {g : Ghosts R} (place : List (List ℕ)) (lent : Bool) (card : Card) (goal : Option (List Flat)) (loan later : Option (ReadLoan R))
    (old taken new placed : State R g) (told now : Told) → taken ≡ old → placed ≡ new → Stands place goal lent old → (Stands place goal lent taken → Stands place goal lent new) →
    (state_spot taken ≡ part_call → ForSome (region_of taken) (λ (before : R). CallsPart {g = g} before new) × (later ≡ loan) × (now ≡ told)) →
    (state_spot taken ≡ loan_call → (region_of new ≡ region_of taken) × CallsLoan g loan later (failure_of new) × (now ≡ told)) →
    (state_spot taken ≡ store_call → (region_of new ≡ region_of taken) × (later ≡ loan) × StateAsks taken told now (failure_of new)) →
    now.holds ≡ told.holds → now.fetches + state_asks new ≤ told.fetches + state_asks taken →
    (FetchingFrom told.holds (state_fetching taken) → FetchingFrom told.holds (state_fetching new)) →
    Moves g (seen_at card goal loan old) told (seen_at card goal later placed) now ×
    Causes g (around (seen_at card goal loan old) told) (around (seen_at card goal later placed) now) (failure_of placed)
stages_move {R} {g} place lent card goal loan later old taken new placed told now was is stands after on_part on_loan on_store holds asks fetching =
    subst (λ (s : State R g). Both old s) (sym is) (subst (λ (s : State R g). Both s new) was base)
  where
    Both : State R g → State R g → Type 0
    Both a b =
        Moves g (seen_at card goal loan a) told (seen_at card goal later b) now ×
        Causes g (around (seen_at card goal loan a) told) (around (seen_at card goal later b) now) (failure_of b)

    here : Stands place goal lent taken
    here = subst (λ (s : State R g). Stands place goal lent s) (sym was) stands

    part_called : state_spot taken ≡ part_call → CallsRegion g (region_of taken) (region_of new) (failure_of new) × (later ≡ loan) × (now ≡ told)
    part_called spot = let all = on_part spot in
        (region_called_by place (region_of taken) new (stands_at place goal lent taken here) (stands_at place goal lent new (after here)) all.0, all.1, all.2)

    asked : state_spot taken ≡ store_call → (region_of new ≡ region_of taken) × (later ≡ loan) × Asks (state_fetching taken) told now (failure_of new)
    asked spot = let all = on_store spot in (all.0, all.1, asks_fetching taken told now (failure_of new) spot all.2)

    base : Both taken new
    base = (
      step_moves g place (seen_at card goal loan taken) (seen_at card goal later new) told now refl refl (stands_at place goal lent taken here)
          (stands_at place goal lent new (after here)) part_called on_loan asked holds asks fetching,
      step_causes g (seen_at card goal loan taken) (seen_at card goal later new) told now part_called on_loan asked,
    )

-- ---- all steps of a job

-- what failed a job that failed while these facts say that it had not
pub same_causes : {R : Type 0} (g : Ghosts R) (old new : Around R) (failure : Option Outcome) → failure ≡ None → Causes g old new failure
same_causes g old new failure none = subst (λ (f : Option Outcome). Causes g old new f) (sym none) tt

-- what a job leaves that has ended: why it failed doesn't speak of the file that it read
pub left_causes : {R : Type 0} (g : Ghosts R) (old new : Around R) (region : Option R) (loan : Option (ReadLoan R)) (failure failing : Option Outcome) →
    new.region ≡ region → loan ≡ new.loan → failing ≡ failure → Causes g old new failure → Causes g old (left_by region loan new.told) failing
left_causes {R} g old new region loan failure failing where_is lent fails why =
    subst (λ (r : Option R). Causes g old (left_by r loan new.told) failing) where_is
    (subst (λ (l : Option (ReadLoan R)). Causes g old (left_by new.region l new.told) failing) (sym lent)
    (subst (λ (f : Option Outcome). Causes g old (left_by new.region new.loan new.told) f) (sym fails) (by failure why)))
  where
    device_same : (note : FaultNote) (d : Device) → DeviceFails g old new note d → DeviceFails g old (left_by new.region new.loan new.told) note d
    device_same note device.Disk fails = fails
    device_same note device.Store fails = fails
    device_same note device.Keeper fails = fails

    by : (f : Option Outcome) → Causes g old new f → Causes g old (left_by new.region new.loan new.told) f
    by None why = tt
    by (Some outcome.Made) why = why
    by (Some outcome.Wiped) why = why
    by (Some outcome.NoMemory) why = tt
    by (Some (outcome.Missing digest)) why = why
    by (Some (outcome.Corrupt wanted found)) why = why
    by (Some (outcome.Fault note)) why = device_same note note.device why
