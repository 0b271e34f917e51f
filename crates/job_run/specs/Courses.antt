-- What a job is still to do, and the call that each of its steps makes for it.
use Rattle.std.specs.Prelude.{◌≡◌, ◌⊎◌, ◌+◌, ℕ, Bool, true, false, List, [], ◌∷◌, ◌++◌, length, map, Option, Some, None}
use Rattle.mat_digest.specs.declared.digest.Digest.{Digest}
use Rattle.mat_model.specs.declared.entries.Outcome.{Outcome}
use Rattle.mat_tree.specs.Parts.{Part, folder, link, with_node}
use Rattle.mat_tree.specs.declared.flat.Flat.{Flat}
use Rattle.mat_tree.specs.declared.flat.What.{What}
use Rattle.mat_tree.specs.declared.flat.What.TheVariants as what
use Rattle.region_port.specs.Calls.{wiped}
use Rattle.region_port.specs.Reads.{Reads}
use Rattle.region_port.specs.States.{loan_region}
use Rattle.region_port.specs.declared.got.Got.{Got}
use Rattle.region_port.specs.declared.got.Got.TheVariants as got
use Rattle.region_port.specs.declared.port.Region.{Ghosts}
use Rattle.region_port.specs.declared.states.ReadLoan.{ReadLoan}
use Rattle.write_plan.specs.Plans.{supply_of}
use Rattle.write_plan.specs.declared.act.Supply.{Supply}
use Rattle.write_plan.specs.declared.act.Supply.TheVariants as supply
use Rattle.write_plan.specs.declared.method.Method.{Method}
use Rattle.job_run.specs.Failures.{Changes}
use Rattle.job_run.specs.Growing.{with_piece}
use Rattle.job_run.specs.Orders.{own_supply}
use Rattle.job_run.specs.Pieces.{asked_for, is_last, most_bytes, piece_size}
use Rattle.job_run.specs.Readings.{HasGiven}
use Rattle.job_run.specs.Steps.{Spot, is_due, loan_call, part_call, store_call}
use Rattle.job_run.specs.declared.reading.Reading.{Reading}

-- ---- what a job is to do

-- one thing that a job is to do: leave no node, put a node, make all of it last
pub data Duty : Type 0 where
  to_wipe : Duty
  to_put : Flat → Duty
  to_sync : Duty

-- what a make is to do for a tree, in order, and what a job is to do that only wipes
abbrev pub make_duties : List Flat → List Duty
make_duties tree = to_wipe ∷ map to_put tree ++ to_sync ∷ []

abbrev pub wipe_duties : List Duty
wipe_duties = to_wipe ∷ to_sync ∷ []

-- what is left to do, the first of it now; how many bytes of the file that it is at are put; where this file's bytes are read, if they are read;
-- how the row's bytes come, if it is a make; whether a part is lent to it
pub record Course : Type 0 where
  pub duties : List Duty
  pub put : ℕ
  pub from : Option Supply
  pub way : Option Method
  pub lent : Bool

abbrev pub make_course : List Flat → Method → Bool → Course
make_course tree way lent = record { duties = make_duties tree; put = 0; from = None; way = Some way; lent = lent }

abbrev pub wipe_course : Course
wipe_course = record { duties = wipe_duties; put = 0; from = None; way = None; lent = false }

-- ---- where bytes are read

-- held bytes and those of the empty file aren't read
abbrev pub reads_of : Supply → Option Supply
reads_of supply.Empty = None
reads_of supply.Held = None
reads_of supply.Store = Some supply.Store
reads_of (supply.Loan rel) = Some (supply.Loan rel)

-- where the bytes of a node are read first, by the plan
abbrev pub what_reads : Method → Bool → List (List ℕ) → What → Option Supply
what_reads way lent rel (what.File digest exec) = reads_of (supply_of way lent rel digest)
what_reads way lent rel what.Dir = None
what_reads way lent rel (what.Link target) = None

abbrev pub first_reads : Option Method → Bool → List Duty → Option Supply
first_reads None lent duties = None
first_reads (Some way) lent [] = None
first_reads (Some way) lent (to_wipe ∷ duties) = None
first_reads (Some way) lent (to_put node ∷ duties) = what_reads way lent node.rel node.what
first_reads (Some way) lent (to_sync ∷ duties) = None

-- where the row's own bytes are read
abbrev pub own_reads : Option Method → Option Supply
own_reads None = None
own_reads (Some way) = reads_of (own_supply way)

-- what the next call is on: that which reads the next piece, or the part where none is read
abbrev pub spot_of : Option Supply → Spot
spot_of None = part_call
spot_of (Some supply.Empty) = part_call
spot_of (Some supply.Held) = part_call
spot_of (Some supply.Store) = store_call
spot_of (Some (supply.Loan rel)) = loan_call

-- ---- how a step leads on

-- how many bytes come for it: those of a file
abbrev pub what_size : What → ℕ
what_size (what.File digest exec) = digest.size
what_size what.Dir = 0
what_size (what.Link target) = 0

abbrev pub duty_size : Duty → ℕ
duty_size to_wipe = 0
duty_size (to_put node) = what_size node.what
duty_size to_sync = 0

-- the digest of the file that it is at
abbrev pub what_wanted : What → Option Digest
what_wanted (what.File digest exec) = Some digest
what_wanted what.Dir = None
what_wanted (what.Link target) = None

abbrev pub wanted_of : List Duty → Option Digest
wanted_of [] = None
wanted_of (to_wipe ∷ duties) = None
wanted_of (to_put node ∷ duties) = what_wanted node.what
wanted_of (to_sync ∷ duties) = None

-- what a job does is for the row as long as anything is left to do
abbrev pub KeepsWay : Course → Course → Type 0
KeepsWay old new = (new.duties ≡ []) ⊎ ((new.way ≡ old.way) × (new.lent ≡ old.lent))

-- a call on the part does the first thing: of a file this is the call that puts its last piece. The next thing begins as the plan says
pub record Finishes (spot next : Spot) (duty : Duty) (behind : List Duty) (old new : Course) : Type 0 where
  pub on : spot ≡ part_call
  pub last : is_last (duty_size duty) old.put ≡ true
  pub duties : new.duties ≡ behind
  pub put : new.put ≡ 0
  pub from : new.from ≡ first_reads old.way old.lent behind
  pub next_is : next ≡ spot_of new.from
  pub way : KeepsWay old new

-- a piece of a file that isn't the last was put
pub record PutsPiece (next : Spot) (duty : Duty) (old new : Course) : Type 0 where
  pub more : is_last (duty_size duty) old.put ≡ false
  pub put : new.put ≡ old.put + most_bytes
  pub from : new.from ≡ old.from
  pub next_is : next ≡ spot_of new.from

-- a piece of a file was read, and is put next
pub record ReadsPiece (next : Spot) (old new : Course) : Type 0 where
  pub put : new.put ≡ old.put
  pub from : new.from ≡ old.from
  pub next_is : next ≡ part_call

-- a file is begun again, with the row's own bytes
pub record BeginsAgain (next : Spot) (old new : Course) : Type 0 where
  pub put : new.put ≡ 0
  pub from : new.from ≡ own_reads old.way
  pub next_is : next ≡ spot_of new.from

abbrev pub StaysBy : Spot → Spot → Duty → Course → Course → Type 0
StaysBy part_call next duty old new = PutsPiece next duty old new
StaysBy store_call next duty old new = ReadsPiece next old new
StaysBy loan_call next duty old new = ReadsPiece next old new ⊎ BeginsAgain next old new

-- the same thing is still the first
pub record Stays (spot next : Spot) (duty : Duty) (old new : Course) : Type 0 where
  pub duties : new.duties ≡ old.duties
  pub way : KeepsWay old new
  pub by : StaysBy spot next duty old new

abbrev pub ProceedsBy : List Duty → Spot → Spot → Course → Course → Type 0
ProceedsBy [] spot next old new = ⊥
ProceedsBy (duty ∷ behind) spot next old new = Finishes spot next duty behind old new ⊎ Stays spot next duty old new

-- a step with one call leads so from one course to another, and to the spot of the next call
abbrev pub Proceeds : Spot → Spot → Course → Course → Type 0
Proceeds spot next old new = ProceedsBy old.duties spot next old new

-- ---- what a call on the part makes of it

-- a file comes in pieces: the first one puts it, each further one is added at its end, and the last one may be shorter
abbrev pub MakesWhat : List (List ℕ) → What → ℕ → Option Outcome → Option Part → Option Part → Type 0
MakesWhat rel (what.File digest exec) at failure before now =
    (piece : List ℕ) × (length piece ≡ piece_size digest.size at) × Changes (with_piece rel exec at piece) failure before now
MakesWhat rel what.Dir at failure before now = Changes (with_node rel folder) failure before now
MakesWhat rel (what.Link target) at failure before now = Changes (with_node rel (link target)) failure before now

abbrev pub FirstMakes : List Duty → ℕ → Option Outcome → Option Part → Option Part → Type 0
FirstMakes [] at failure before now = ⊥
FirstMakes (to_wipe ∷ duties) at failure before now = Changes wiped failure before now
FirstMakes (to_put node ∷ duties) at failure before now = MakesWhat node.rel node.what at failure before now
FirstMakes (to_sync ∷ duties) at failure before now = now ≡ before

abbrev pub RegionMakes : {R : Type 0} → Ghosts R → Course → Option Outcome → Option R → Option R → Type 0
RegionMakes g course failure None now = ⊥
RegionMakes g course failure (Some before) None = ⊥
RegionMakes g course failure (Some before) (Some now) = FirstMakes course.duties course.put failure (g.part before) (g.part now)

-- ---- what a read in the part that is lent gave

-- an answer that isn't what is due for a file: nothing is there, or other bytes
abbrev pub IsOther : Digest → Reading → Got → Type 0
IsOther wanted reading (got.Bytes bytes) = (given : List ℕ) → HasGiven reading given → is_due wanted given bytes ≡ false
IsOther wanted reading got.Absent = Unit {0}
IsOther wanted reading got.Failed = ⊥
IsOther wanted reading got.NoMemory = ⊥

-- the part that is lent was read for the next piece of a file, and gave other bytes or none: by what it has there, where it tells that
pub record Misses {R : Type 0} (g : Ghosts R) (loan : ReadLoan R) (rel : List (List ℕ)) (wanted : Digest) (reading : Reading) : Type 0 where
  pub answer : Got
  pub other : IsOther wanted reading answer
  pub reads : Reads rel reading.at (asked_for wanted.size reading.at) (g.part (loan_region loan)) answer

-- the same of the file that a job is at
abbrev pub MissesFile : {R : Type 0} → Ghosts R → ReadLoan R → Supply → Option Digest → Option Reading → Type 0
MissesFile g loan supply.Empty wanted reading = ⊥
MissesFile g loan supply.Held wanted reading = ⊥
MissesFile g loan supply.Store wanted reading = ⊥
MissesFile g loan (supply.Loan rel) None reading = ⊥
MissesFile g loan (supply.Loan rel) (Some wanted) None = ⊥
MissesFile g loan (supply.Loan rel) (Some wanted) (Some reading) = Misses g loan rel wanted reading

abbrev pub MissesFrom : {R : Type 0} → Ghosts R → ReadLoan R → Option Supply → Option Digest → Option Reading → Type 0
MissesFrom g loan None wanted reading = ⊥
MissesFrom g loan (Some from) wanted reading = MissesFile g loan from wanted reading

abbrev pub MissesLoan : {R : Type 0} → Ghosts R → Option (ReadLoan R) → Course → Option Reading → Type 0
MissesLoan g None course reading = ⊥
MissesLoan g (Some loan) course reading = MissesFrom g loan course.from (wanted_of course.duties) reading
