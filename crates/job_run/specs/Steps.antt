-- Which device the next step of a job calls, and what a stage keeps for a job's goal.
use Rattle.std.specs.Prelude.{◌≡◌, ◌||◌, ℕ, Bool, List, [], Option, Some, None}
use Rattle.std.specs.Option.{ForSome}
use Rattle.mat_tree.specs.Parts.{bare}
use Rattle.mat_tree.specs.Parts.{Part as TreePart}
use Rattle.mat_tree.specs.declared.flat.Flat.{Flat}
use Rattle.region_port.specs.declared.port.Region.{Ghosts}
use Rattle.fetch_port.specs.Fetches.{Blobs}
use Rattle.fetch_port.specs.declared.port.Fetcher.{Ghosts as FetcherGhosts}
use Rattle.mat_digest.specs.declared.digest.Digest.{Digest}
use Rattle.job_run.specs.Readings.{completes, goes_on}
use Rattle.mat_io.specs.Watches.{Watch}
use Rattle.mat_model.specs.declared.entries.Outcome.{Outcome}
use Rattle.region_port.specs.States.{loan_region, loan_tree}
use Rattle.region_port.specs.declared.states.ReadLoan.{ReadLoan}
use Rattle.job_run.specs.Failures.{IsDiskCall}
use Rattle.job_run.specs.StoreCalls.{IsFrom, IsStoreCall}
use Rattle.job_run.specs.declared.states.Filing.{Filing}
use Rattle.job_run.specs.Orders.{IsLeft, IsMakeable}
use Rattle.job_run.specs.States.{HasEnded, IsMakeOf, failure_of, region_of}
use Rattle.job_run.specs.declared.job.Next.{Next}
use Rattle.job_run.specs.declared.job.Next.TheVariants as next
use Rattle.job_run.specs.declared.reading.Reading.{Reading}
use Rattle.job_run.specs.declared.states.Doing.{Doing}
use Rattle.job_run.specs.declared.states.Doing.TheVariants as doing
use Rattle.job_run.specs.declared.states.Filling.{Filling}
use Rattle.job_run.specs.declared.states.Filling.TheVariants as filling
use Rattle.job_run.specs.declared.states.Source.{Source}
use Rattle.job_run.specs.declared.states.Source.TheVariants as source
use Rattle.job_run.specs.declared.states.State.{State}
use Rattle.job_run.specs.declared.states.State.TheVariants as state

-- what the next call of a make is on: the part, the store, or the part that is lent
pub data Spot : Type 0 where
  part_call : Spot
  store_call : Spot
  loan_call : Spot

-- the device that a call is on
abbrev pub spot_next : Spot → Next
spot_next part_call = next.Disk
spot_next store_call = next.Store
spot_next loan_call = next.Disk

abbrev pub source_spot : Source → Spot
source_spot source.Store = store_call
source_spot (source.Loan rel) = loan_call

abbrev pub filling_spot : Filling → Spot
filling_spot (filling.Held at) = part_call
filling_spot (filling.Due from reading) = source_spot from
filling_spot (filling.Got from at piece more) = part_call

abbrev pub doing_spot : Doing → Spot
doing_spot (doing.Dir rel) = part_call
doing_spot (doing.Link rel target) = part_call
doing_spot (doing.File filing how) = filling_spot how
doing_spot doing.Sync = part_call

abbrev pub state_spot : {R : Type 0} {g : Ghosts R} → State R g → Spot
state_spot (state.Wiping region) = part_call
state_spot (state.Emptying region) = part_call
state_spot (state.Clearing region order) = part_call
state_spot (state.Making making) = doing_spot making.doing
state_spot (state.Ended left ended) = part_call
state_spot state.Moving = part_call

-- a file that is read in the store: its digest, and how far it is read
pub record Fetching : Type 0 where
  pub wanted : Digest
  pub reading : Reading

abbrev pub fetching_of : Digest → Source → Reading → Option Fetching
fetching_of wanted source.Store reading = Some (record { wanted = wanted; reading = reading })
fetching_of wanted (source.Loan rel) reading = None

abbrev pub more_fetching : Digest → Source → Option Reading → Option Fetching
more_fetching wanted from None = None
more_fetching wanted from (Some reading) = fetching_of wanted from reading

abbrev pub filling_fetching : Digest → Filling → Option Fetching
filling_fetching wanted (filling.Held at) = None
filling_fetching wanted (filling.Due from reading) = fetching_of wanted from reading
filling_fetching wanted (filling.Got from at piece more) = more_fetching wanted from more

abbrev pub doing_fetching : Doing → Option Fetching
doing_fetching (doing.Dir rel) = None
doing_fetching (doing.Link rel target) = None
doing_fetching (doing.File filing how) = filling_fetching filing.digest how
doing_fetching doing.Sync = None

-- the file that a stage reads in the store, if it is at one
abbrev pub state_fetching : {R : Type 0} {g : Ghosts R} → State R g → Option Fetching
state_fetching (state.Wiping region) = None
state_fetching (state.Emptying region) = None
state_fetching (state.Clearing region order) = None
state_fetching (state.Making making) = doing_fetching making.doing
state_fetching (state.Ended left ended) = None
state_fetching state.Moving = None

-- what was given for the file that is read in the store is what this store holds
abbrev pub FetchingFrom : Option Blobs → Option Fetching → Type 0
FetchingFrom blobs None = Unit {0}
FetchingFrom blobs (Some file) = IsFrom blobs file.wanted file.reading

-- a job's stage stands: at this place, for this goal, with a part lent or not
abbrev pub Stands : {R : Type 0} {g : Ghosts R} → List (List ℕ) → Option (List Flat) → Bool → State R g → Type 0
Stands {R} {g} place goal lent (state.Wiping region) = (g.place region ≡ place) × (goal ≡ None)
Stands {R} {g} place goal lent (state.Emptying region) = (g.place region ≡ place) × ForSome (g.part region) (λ (told : TreePart). told ≡ bare) × (goal ≡ None)
Stands {R} {g} place goal lent (state.Clearing region order) =
    (g.place region ≡ place) × (order.lent ≡ lent) × (goal ≡ Some order.tree) × IsMakeable place order.tree order.method × IsLeft order []
Stands {R} {g} place goal lent (state.Making making) =
    (goal ≡ Some making.order.tree) × IsMakeOf place making.order.tree lent (g.place making.region) (g.part making.region) making.order making.doing
Stands place goal lent (state.Ended left ended) = HasEnded place goal left ended
Stands place goal lent state.Moving = ⊥

-- ---- what one step calls

-- one call on a job's part, and none elsewhere
abbrev pub CallsPart : {R : Type 0} {g : Ghosts R} → R → State R g → Type 0
CallsPart {R} {g} region s =
    ForSome (region_of s) (λ (now : R). IsDiskCall (g.fault_count region) (g.fault_count now) (g.watch region) (g.watch now) (failure_of s))

-- the same of a job's region
abbrev pub CallsRegion : {R : Type 0} → Ghosts R → Option R → Option R → Option Outcome → Type 0
CallsRegion g None now failure = ⊥
CallsRegion g (Some before) None failure = ⊥
CallsRegion g (Some before) (Some now) failure = IsDiskCall (g.fault_count before) (g.fault_count now) (g.watch before) (g.watch now) failure

-- a region is there, and at this path
abbrev pub IsAt : {R : Type 0} → Ghosts R → List (List ℕ) → Option R → Type 0
IsAt g place None = ⊥
IsAt g place (Some region) = g.place region ≡ place

-- one call on the part that is lent: it stays as it is, but for its counts
pub record IsLoanCall {R : Type 0} (g : Ghosts R) (old new : ReadLoan R) (failure : Option Outcome) : Type 0 where
  pub tree : loan_tree new ≡ loan_tree old
  pub place : g.place (loan_region new) ≡ g.place (loan_region old)
  pub part : g.part (loan_region new) ≡ g.part (loan_region old)
  pub rough : g.rough (loan_region new) ≡ g.rough (loan_region old)
  pub call : IsDiskCall (g.fault_count (loan_region old)) (g.fault_count (loan_region new)) (g.watch (loan_region old)) (g.watch (loan_region new)) failure

abbrev pub CallsLoan : {R : Type 0} → Ghosts R → Option (ReadLoan R) → Option (ReadLoan R) → Option Outcome → Type 0
CallsLoan g None new failure = ⊥
CallsLoan g (Some old) None failure = ⊥
CallsLoan g (Some old) (Some new) failure = IsLoanCall g old new failure

-- what a store tells before and after a call
pub record Told : Type 0 where
  pub holds : Option Blobs
  pub faults : ℕ
  pub fetches : ℕ
  pub watch : Option Watch

abbrev pub told_now : Option Blobs → ℕ → ℕ → Option Watch → Told
told_now holds faults fetches watch = record { holds = holds; faults = faults; fetches = fetches; watch = watch }

abbrev pub told_by : {F : Type 0} → FetcherGhosts F → F → Told
told_by g fetcher = told_now (g.holds fetcher) (g.fault_count fetcher) (g.fetches fetcher) (g.watch fetcher)

-- one call on the store for the next piece of the file that is read there
abbrev pub Asks : Option Fetching → Told → Told → Option Outcome → Type 0
Asks None old new failure = ⊥
Asks (Some file) old new failure =
    IsStoreCall file.wanted file.reading old.holds old.faults new.faults old.fetches new.fetches old.watch new.watch failure

-- the same by what a stage is at
abbrev pub FillingAsks : Filing → Filling → Told → Told → Option Outcome → Type 0
FillingAsks filing (filling.Held at) old new failure = ⊥
FillingAsks filing (filling.Due from reading) old new failure =
    IsStoreCall filing.digest reading old.holds old.faults new.faults old.fetches new.fetches old.watch new.watch failure
FillingAsks filing (filling.Got from at piece more) old new failure = ⊥

abbrev pub DoingAsks : Doing → Told → Told → Option Outcome → Type 0
DoingAsks (doing.Dir rel) old new failure = ⊥
DoingAsks (doing.Link rel target) old new failure = ⊥
DoingAsks (doing.File filing how) old new failure = FillingAsks filing how old new failure
DoingAsks doing.Sync old new failure = ⊥

abbrev pub StateAsks : {R : Type 0} {g : Ghosts R} → State R g → Told → Told → Option Outcome → Type 0
StateAsks (state.Wiping region) old new failure = ⊥
StateAsks (state.Emptying region) old new failure = ⊥
StateAsks (state.Clearing region order) old new failure = ⊥
StateAsks (state.Making making) old new failure = DoingAsks making.doing old new failure
StateAsks (state.Ended left ended) old new failure = ⊥
StateAsks state.Moving old new failure = ⊥

-- a part that is lent stays as it is, but for its counts
pub record KeepsLoan {R : Type 0} (g : Ghosts R) (old new : ReadLoan R) : Type 0 where
  pub tree : loan_tree new ≡ loan_tree old
  pub place : g.place (loan_region new) ≡ g.place (loan_region old)
  pub part : g.part (loan_region new) ≡ g.part (loan_region old)
  pub rough : g.rough (loan_region new) ≡ g.rough (loan_region old)

abbrev pub LoanStays : {R : Type 0} → Ghosts R → Option (ReadLoan R) → Option (ReadLoan R) → Type 0
LoanStays g None None = Unit {0}
LoanStays g None (Some new) = ⊥
LoanStays g (Some old) None = ⊥
LoanStays g (Some old) (Some new) = KeepsLoan g old new

-- ---- what is read in a lent part

-- whether a piece behind the bytes given is what is due
abbrev pub is_due : Digest → List ℕ → List ℕ → Bool
is_due wanted given piece = goes_on wanted given piece || completes wanted given piece
