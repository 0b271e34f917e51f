-- The course of each stage of a job, and what its steps keep to.
use Rattle.std.specs.Prelude.{◌≡◌, ◌⊎◌, ℕ, false, List, [], ◌∷◌, Option, Some, None}
use Rattle.std.specs.Option.{ForSome}
use Rattle.region_port.specs.declared.port.Region.{Ghosts}
use Rattle.region_port.specs.declared.states.ReadLoan.{ReadLoan}
use Rattle.write_plan.specs.declared.act.Act.{Act}
use Rattle.write_plan.specs.declared.act.Act.TheVariants as act
use Rattle.write_plan.specs.declared.act.Supply.{Supply}
use Rattle.job_run.specs.Begun.{supply_from}
use Rattle.job_run.specs.Courses.{Course, Duty, FirstMakes, MissesLoan, Proceeds, first_reads, spot_of, to_put, to_sync, to_wipe, wipe_course}
use Rattle.job_run.specs.Growing.{dir_node, file_node, link_node}
use Rattle.job_run.specs.Stages.{filing_node}
use Rattle.job_run.specs.States.{failure_of, region_of}
use Rattle.job_run.specs.Steps.{Spot, state_spot}
use Rattle.job_run.specs.declared.reading.Reading.{Reading}
use Rattle.job_run.specs.declared.states.Doing.{Doing}
use Rattle.job_run.specs.declared.states.Doing.TheVariants as doing
use Rattle.job_run.specs.declared.states.Filling.{Filling}
use Rattle.job_run.specs.declared.states.Filling.TheVariants as filling
use Rattle.job_run.specs.declared.states.Order.{Order}
use Rattle.job_run.specs.declared.states.State.{State}
use Rattle.job_run.specs.declared.states.State.TheVariants as state

-- what acts are for; behind a sync nothing is left
abbrev pub acts_duties : List Act → List Duty
acts_duties [] = []
acts_duties (act.Wipe ∷ acts) = to_wipe ∷ acts_duties acts
acts_duties (act.Dir rel ∷ acts) = to_put (dir_node rel) ∷ acts_duties acts
acts_duties (act.Link rel target ∷ acts) = to_put (link_node rel target) ∷ acts_duties acts
acts_duties (act.File rel digest exec from ∷ acts) = to_put (file_node rel digest exec) ∷ acts_duties acts
acts_duties (act.Sync ∷ acts) = to_sync ∷ []

abbrev pub doing_duties : Doing → List Duty → List Duty
doing_duties (doing.Dir rel) behind = to_put (dir_node rel) ∷ behind
doing_duties (doing.Link rel target) behind = to_put (link_node rel target) ∷ behind
doing_duties (doing.File filing how) behind = to_put (filing_node filing) ∷ behind
doing_duties doing.Sync behind = to_sync ∷ []

-- how many bytes of a file are put
abbrev pub filling_put : Filling → ℕ
filling_put (filling.Held at) = at
filling_put (filling.Due from reading) = reading.at
filling_put (filling.Got from at piece more) = at

abbrev pub doing_put : Doing → ℕ
doing_put (doing.Dir rel) = 0
doing_put (doing.Link rel target) = 0
doing_put (doing.File filing how) = filling_put how
doing_put doing.Sync = 0

-- where its bytes are read
abbrev pub filling_from : Filling → Option Supply
filling_from (filling.Held at) = None
filling_from (filling.Due from reading) = Some (supply_from from)
filling_from (filling.Got from at piece more) = Some (supply_from from)

abbrev pub doing_from : Doing → Option Supply
doing_from (doing.Dir rel) = None
doing_from (doing.Link rel target) = None
doing_from (doing.File filing how) = filling_from how
doing_from doing.Sync = None

-- how far it is read
abbrev pub filling_reading : Filling → Option Reading
filling_reading (filling.Held at) = None
filling_reading (filling.Due from reading) = Some reading
filling_reading (filling.Got from at piece more) = more

abbrev pub doing_reading : Doing → Option Reading
doing_reading (doing.Dir rel) = None
doing_reading (doing.Link rel target) = None
doing_reading (doing.File filing how) = filling_reading how
doing_reading doing.Sync = None

-- the course of a make at an act, and of one that is behind what it did before
abbrev pub making_course : Order → Doing → Course
making_course order one = record {
  duties = doing_duties one (acts_duties order.left.items);
  put = doing_put one;
  from = doing_from one;
  way = Some order.method;
  lent = order.lent;
}

abbrev pub clearing_course : Order → Course
clearing_course order =
    record { duties = to_wipe ∷ acts_duties order.left.items; put = 0; from = None; way = Some order.method; lent = order.lent }

abbrev pub emptying_course : Course
emptying_course = record { duties = to_sync ∷ []; put = 0; from = None; way = None; lent = false }

abbrev pub ended_course : Course
ended_course = record { duties = []; put = 0; from = None; way = None; lent = false }

abbrev pub state_course : {R : Type 0} {g : Ghosts R} → State R g → Course
state_course (state.Wiping region) = wipe_course
state_course (state.Emptying region) = emptying_course
state_course (state.Clearing region order) = clearing_course order
state_course (state.Making making) = making_course making.order making.doing
state_course (state.Ended left ended) = ended_course
state_course state.Moving = ended_course

abbrev pub state_reading : {R : Type 0} {g : Ghosts R} → State R g → Option Reading
state_reading (state.Wiping region) = None
state_reading (state.Emptying region) = None
state_reading (state.Clearing region order) = None
state_reading (state.Making making) = doing_reading making.doing
state_reading (state.Ended left ended) = None
state_reading state.Moving = None

-- ---- what a step leads to, unless it failed

-- the next thing is begun as the plan says
pub record IsBegun (order : Order) (next : Spot) (course : Course) : Type 0 where
  pub duties : course.duties ≡ acts_duties order.left.items
  pub put : course.put ≡ 0
  pub from : course.from ≡ first_reads (Some order.method) order.lent (acts_duties order.left.items)
  pub next_is : next ≡ spot_of course.from
  pub way : course.way ≡ Some order.method
  pub lent : course.lent ≡ order.lent

-- a step with a call there leads from a course to a stage
abbrev pub Leads : {R : Type 0} {g : Ghosts R} → Spot → Course → State R g → Type 0
Leads spot course later = failure_of later ≡ None → Proceeds spot (state_spot later) course (state_course later)

-- what a call makes of a part
abbrev pub MakesPart : {R : Type 0} {g : Ghosts R} → R → Course → State R g → Type 0
MakesPart {R} {g} region course later =
    ForSome (region_of later) (λ (now : R). FirstMakes course.duties course.put (failure_of later) (g.part region) (g.part now))

-- the bytes of a file are still read where they were, or the part that is lent gave other bytes or none
abbrev pub LendsOn : {R : Type 0} {g : Ghosts R} → Option (ReadLoan R) → Course → Option Reading → State R g → Type 0
LendsOn {R} {g} loan course reading later =
    failure_of later ≡ None → ((state_course later).from ≡ course.from) ⊎ MissesLoan g loan course reading
