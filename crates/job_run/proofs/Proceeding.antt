-- How the steps of a job lead along its course.
use Rattle.std.proofs.Common.{◌≡◌, ◌⊎◌, ◌+◌, ◌-◌, ◌≤◌, ◌<◌, inl, inr, nat_le, ℕ, Bool, true, false, if◌then◌else◌, List, [], ◌∷◌, ◌++◌, length, map, min, Option, Some, None, refl, sym, ap, ◌∙◌, subst, arith}
use Rattle.std.proofs.lemmas.Bool.Decides.{nat_tests}
use Rattle.std.proofs.lemmas.List.{length-append}
use Rattle.std.specs.Option.{ForSome, is_some}
use Rattle.std.specs.declared.vec.Vec.{Vec}
use Rattle.std.specs.declared.alloc.Global.{Global}
use Rattle.mat_digest.specs.Digests.{digest_of}
use Rattle.mat_digest.specs.declared.digest.Digest.{Digest}
use Rattle.mat_model.specs.declared.entries.Outcome.{Outcome}
use Rattle.mat_tree.specs.declared.flat.Flat.{Flat}
use Rattle.mat_tree.specs.declared.flat.What.{What}
use Rattle.mat_tree.specs.declared.flat.What.TheVariants as what
use Rattle.region_port.specs.declared.port.Region.{Ghosts}
use Rattle.write_plan.specs.Plans.{act_of, act_what, supply_of}
use Rattle.write_plan.specs.declared.act.Act.{Act}
use Rattle.write_plan.specs.declared.act.Act.TheVariants as act
use Rattle.write_plan.specs.declared.act.Supply.{Supply}
use Rattle.write_plan.specs.declared.act.Supply.TheVariants as supply
use Rattle.write_plan.specs.declared.method.Method.{Method}
use Rattle.job_run.specs.Along.{IsAlong, ReadsItsFile}
use Rattle.job_run.specs.Begun.{Begins, BeginsFrom, is_known, supply_from}
use Rattle.job_run.specs.Courses.{Course, Duty, FirstMakes, Proceeds, ProceedsBy, RegionMakes, first_reads, duty_size, make_course, make_duties, reads_of, spot_of, to_put, to_sync, to_wipe}
use Rattle.job_run.specs.CourseStages.{IsBegun, Leads, MakesPart, acts_duties, clearing_course, doing_duties, doing_from, doing_put, doing_reading, filling_from, filling_put, filling_reading, making_course, state_course, state_reading}
use Rattle.job_run.specs.Orders.{IsLeft, Remains, own_supply}
use Rattle.job_run.specs.Pieces.{is_last, most_bytes, piece_size}
use Rattle.job_run.specs.Seen.{seen}
use Rattle.job_run.specs.Stages.{filing_node}
use Rattle.job_run.specs.States.{failure_of, region_of}
use Rattle.job_run.specs.Steps.{IsAt, Spot, Stands, doing_fetching, doing_spot, filling_fetching, filling_spot, loan_call, part_call, source_spot, state_fetching, state_spot}
use Rattle.job_run.specs.declared.machine.Machine.{Machine}
use Rattle.job_run.specs.declared.reading.Reading.{Reading}
use Rattle.job_run.specs.declared.states.Doing.{Doing}
use Rattle.job_run.specs.declared.states.Doing.TheVariants as doing
use Rattle.job_run.specs.declared.states.Filing.{Filing}
use Rattle.job_run.specs.declared.states.Filling.{Filling}
use Rattle.job_run.specs.declared.states.Filling.TheVariants as filling
use Rattle.job_run.specs.declared.states.Making.{Making}
use Rattle.job_run.specs.declared.states.Order.{Order}
use Rattle.job_run.specs.declared.states.Source.{Source}
use Rattle.job_run.specs.declared.states.Source.TheVariants as source
use Rattle.job_run.specs.declared.states.State.{State}
use Rattle.job_run.specs.declared.states.State.TheVariants as state
use Rattle.job_run.proofs.DigestLemmas.{digest_of-size}
use Rattle.job_run.proofs.Puts.{told_so}
use Rattle.job_run.proofs.Sealed.{stands_at}

-- ---- what is left of a plan

what_duty : (way : Method) (lent : Bool) (rel : List (List ℕ)) (w : What) (acts : List Act) →
    acts_duties (act_what way lent rel w ∷ acts) ≡ to_put (record { rel = rel; what = w }) ∷ acts_duties acts
what_duty way lent rel (what.File digest exec) acts = refl
what_duty way lent rel what.Dir acts = refl
what_duty way lent rel (what.Link target) acts = refl

nodes_duties : (way : Method) (lent : Bool) (nodes : List Flat) → acts_duties (map (act_of way lent) nodes ++ act.Sync ∷ []) ≡ map to_put nodes ++ to_sync ∷ []
nodes_duties way lent [] = refl
nodes_duties way lent (node ∷ nodes) =
    what_duty way lent node.rel node.what (map (act_of way lent) nodes ++ act.Sync ∷ []) ∙ ap (λ (l : List Duty). to_put node ∷ l) (nodes_duties way lent nodes)

-- a make that is at the beginning of its plan is to do all of it
pub plan_duties : (tree : List Flat) (way : Method) (lent : Bool) (left : List Act) → Remains tree way lent left [] → to_wipe ∷ acts_duties left ≡ make_duties tree
plan_duties tree way lent left remains =
    ap (λ (l : List Act). to_wipe ∷ acts_duties l) remains.acts ∙ ap (λ (l : List Duty). to_wipe ∷ l) (nodes_duties way lent remains.back)
    ∙ ap (λ (l : List Flat). make_duties l) (sym remains.nodes)

-- ---- how a thing begins

source_reads : (from : Source) → reads_of (supply_from from) ≡ Some (supply_from from)
source_reads source.Store = refl
source_reads (source.Loan rel) = refl

pub source_spots : (from : Source) → source_spot from ≡ spot_of (Some (supply_from from))
source_spots source.Store = refl
source_spots (source.Loan rel) = refl

known_reads : (from : Supply) → is_known from ≡ true → None ≡ reads_of from
known_reads supply.Empty known = refl
known_reads supply.Held known = refl
known_reads supply.Store known = cc
known_reads (supply.Loan rel) known = cc

-- how the bytes of a file first come
pub record Started (from : Supply) (how : Filling) : Type 0 where
  pub put : filling_put how ≡ 0
  pub from_is : filling_from how ≡ reads_of from
  pub spot : filling_spot how ≡ spot_of (filling_from how)

pub started : (from : Supply) (how : Filling) → BeginsFrom from how → Started from how
started from (filling.Held at) begins = record { put = begins.0; from_is = known_reads from begins.1; spot = refl }
started from (filling.Due read reading) begins =
    record { put = begins.1.at; from_is = sym (source_reads read) ∙ ap reads_of begins.0; spot = source_spots read }
started from (filling.Got read at piece more) begins = elim begins as (λ _. Started from (filling.Got read at piece more)) [ ]

begun_put : (nodes : List Flat) (order : Order) (one : Doing) → Begins nodes order one → doing_put one ≡ 0
begun_put nodes order (doing.Dir rel) begins = refl
begun_put nodes order (doing.Link rel target) begins = refl
begun_put nodes order (doing.File filing how) begins = (started (supply_of order.method order.lent filing.rel filing.digest) how begins.1).put
begun_put nodes order doing.Sync begins = refl

begun_from : (nodes : List Flat) (order : Order) (one : Doing) (behind : List Duty) → Begins nodes order one →
    doing_from one ≡ first_reads (Some order.method) order.lent (doing_duties one behind)
begun_from nodes order (doing.Dir rel) behind begins = refl
begun_from nodes order (doing.Link rel target) behind begins = refl
begun_from nodes order (doing.File filing how) behind begins = (started (supply_of order.method order.lent filing.rel filing.digest) how begins.1).from_is
begun_from nodes order doing.Sync behind begins = refl

begun_spot : (nodes : List Flat) (order : Order) (one : Doing) → Begins nodes order one → doing_spot one ≡ spot_of (doing_from one)
begun_spot nodes order (doing.Dir rel) begins = refl
begun_spot nodes order (doing.Link rel target) begins = refl
begun_spot nodes order (doing.File filing how) begins = (started (supply_of order.method order.lent filing.rel filing.digest) how begins.1).spot
begun_spot nodes order doing.Sync begins = refl

-- an act that begins behind others, by the order that they left
pub begun_so : (old new : Order) (nodes : List Flat) (one : Doing) → new.method ≡ old.method → new.lent ≡ old.lent → Begins nodes new one →
    doing_duties one (acts_duties new.left.items) ≡ acts_duties old.left.items → IsBegun old (doing_spot one) (making_course new one)
begun_so old new nodes one way lent begins duties = record {
  duties = duties;
  put = begun_put nodes new one begins;
  from = begun_from nodes new one (acts_duties new.left.items) begins ∙ ap (λ (m : Method). first_reads (Some m) new.lent (doing_duties one (acts_duties new.left.items))) way
      ∙ ap (λ (b : Bool). first_reads (Some old.method) b (doing_duties one (acts_duties new.left.items))) lent
      ∙ ap (first_reads (Some old.method) old.lent) duties;
  next_is = begun_spot nodes new one begins;
  way = ap (λ (m : Method). Some m) way;
  lent = lent;
}

-- ---- how a step leads on

-- the first thing is done
pub finishes : (order : Order) (next : Spot) (old new : Course) (duty : Duty) → old.duties ≡ duty ∷ acts_duties order.left.items →
    is_last (duty_size duty) old.put ≡ true → old.way ≡ Some order.method → old.lent ≡ order.lent → IsBegun order next new → Proceeds part_call next old new
finishes order next old new duty is last way lent begun =
    subst (λ (l : List Duty). ProceedsBy l part_call next old new) (sym is)
    (inl (record {
      on = refl;
      last = last;
      duties = begun.duties;
      put = begun.put;
      from = begun.from ∙ ap (λ (w : Option Method). first_reads w order.lent (acts_duties order.left.items)) (sym way)
          ∙ ap (λ (b : Bool). first_reads old.way b (acts_duties order.left.items)) (sym lent);
      next_is = begun.next_is;
      way = inr (begun.way ∙ sym way, begun.lent ∙ sym lent);
    }))

-- a stage that has failed leads nowhere
pub failed_leads : {R : Type 0} {g : Ghosts R} (spot : Spot) (course : Course) (s : State R g) → is_some (failure_of s) ≡ true → Leads spot course s
failed_leads {R} {g} spot course s fails = λ none.
    let never : true ≡ false = sym fails ∙ ap is_some none in cc

-- a piece was read, and is put next
pub reads_on : {R : Type 0} (g : Ghosts R) (order : Order) (filing : Filing) (from : Source) (reading : Reading) (piece : Vec ℕ Global) (more : Option Reading) (m : Making R) →
    m.order ≡ order → m.doing ≡ doing.File filing (filling.Got from reading.at piece more) →
    Leads {g = g} (source_spot from) (making_course order (doing.File filing (filling.Due from reading))) (state.Making m)
reads_on {R} g order filing from reading piece more m order_is doing_is = λ none.
    subst (λ (o : Order). Proceeds (source_spot from) (doing_spot m.doing) (making_course order (doing.File filing (filling.Due from reading))) (making_course o m.doing)) (sym order_is)
    (subst (λ (d : Doing). Proceeds (source_spot from) (doing_spot d) (making_course order (doing.File filing (filling.Due from reading))) (making_course order d)) (sym doing_is)
    (by from))
  where
    by : (from : Source) → Proceeds (source_spot from) part_call (making_course order (doing.File filing (filling.Due from reading)))
        (making_course order (doing.File filing (filling.Got from reading.at piece more)))
    by source.Store = inr (record { duties = refl; way = inr (refl, refl); by = record { put = refl; from = refl; next_is = refl } })
    by (source.Loan rel) = inr (record { duties = refl; way = inr (refl, refl); by = inl (record { put = refl; from = refl; next_is = refl }) })

-- a file is begun again
pub begins_again : {R : Type 0} (g : Ghosts R) (order : Order) (filing : Filing) (rel : List (List ℕ)) (reading : Reading) (own : Supply) (how : Filling) (m : Making R) →
    m.order ≡ order → m.doing ≡ doing.File filing how → own ≡ own_supply order.method → BeginsFrom own how →
    Leads {g = g} loan_call (making_course order (doing.File filing (filling.Due (source.Loan rel) reading))) (state.Making m)
begins_again {R} g order filing rel reading own how m order_is doing_is own_is begins = λ none.
    subst (λ (o : Order). Proceeds loan_call (doing_spot m.doing) (making_course order (doing.File filing (filling.Due (source.Loan rel) reading))) (making_course o m.doing)) (sym order_is)
    (subst (λ (d : Doing). Proceeds loan_call (doing_spot d) (making_course order (doing.File filing (filling.Due (source.Loan rel) reading))) (making_course order d)) (sym doing_is)
    (inr (record {
      duties = refl;
      way = inr (refl, refl);
      by = inr (record { put = first.put; from = first.from_is ∙ ap reads_of own_is; next_is = first.spot });
    })))
  where
    first : Started own how
    first = started own how begins

-- a piece that isn't the last was put
pub stays_put : (order : Order) (filing : Filing) (old how : Filling) (next : Spot) (new : Course) → new ≡ making_course order (doing.File filing how) → next ≡ filling_spot how →
    filling_spot how ≡ spot_of (filling_from how) → filling_from how ≡ filling_from old → filling_put how ≡ filling_put old + most_bytes →
    is_last filing.digest.size (filling_put old) ≡ false → Proceeds part_call next (making_course order (doing.File filing old)) new
stays_put order filing old how next new is next_is spot from put more =
    subst (λ (c : Course). Proceeds part_call next (making_course order (doing.File filing old)) c) (sym is)
    (inr (record { duties = refl; way = inr (refl, refl); by = record { more = more; put = put; from = from; next_is = next_is ∙ spot } }))

-- what a call made of a part, by how it failed
pub makes_part : {R : Type 0} {g : Ghosts R} (region next : R) (course : Course) (failure : Option Outcome) (s : State R g) → region_of s ≡ Some next → failure_of s ≡ failure →
    FirstMakes course.duties course.put failure (g.part region) (g.part next) → MakesPart region course s
makes_part {R} {g} region next course failure s where_is fails makes =
    told_so (λ (now : R) (f : Option Outcome). FirstMakes course.duties course.put f (g.part region) (g.part now)) (region_of s) next failure (failure_of s) where_is fails makes

-- the same of the region and the course of a stage
pub makes_from : {R : Type 0} {g : Ghosts R} (o : Option R) (region : R) (told course : Course) (s : State R g) → o ≡ Some region → told ≡ course → MakesPart region course s →
    ForSome o (λ (before : R). MakesPart {g = g} before told s)
makes_from {R} {g} o region told course s is course_is makes = λ before has.
    let same : region ≡ before = cc in
    subst (λ (r : R). MakesPart {g = g} r told s) same (subst (λ (w : Course). MakesPart {g = g} region w s) (sym course_is) makes)

-- the course of a make before its first step
pub clearing_so : (order : Order) (tree : List Flat) (way : Method) (lent : Bool) → order.tree ≡ tree → order.method ≡ way → order.lent ≡ lent → IsLeft order [] →
    clearing_course order ≡ make_course tree way lent
clearing_so order tree way lent tree_is way_is lent_is left =
    ap (λ (l : List Duty). with_parts l order.method order.lent) (plan_duties order.tree order.method order.lent order.left.items left)
    ∙ ap (λ (t : List Flat). with_parts (make_duties t) order.method order.lent) tree_is
    ∙ ap (λ (m : Method). with_parts (make_duties tree) m order.lent) way_is
    ∙ ap (λ (b : Bool). with_parts (make_duties tree) way b) lent_is
  where
    with_parts : List Duty → Method → Bool → Course
    with_parts duties m b = record { duties = duties; put = 0; from = None; way = Some m; lent = b }

-- ---- pieces

le_true : (m n : ℕ) → m ≤ n → nat_le m n ≡ true
le_true m n le = grind (arith, nat_tests)

lt_false : (m n : ℕ) → n < m → nat_le m n ≡ false
lt_false m n lt = grind (arith, nat_tests)

-- how long a piece of held bytes is, by the size of their digest
pub held_size : (bytes piece : List ℕ) (size at : ℕ) → size ≡ length bytes → length piece ≡ min most_bytes (length bytes - at) → length piece ≡ piece_size size at
held_size bytes piece size at is long = by (is_last size at) refl
  where
    le_so : (m n : ℕ) → nat_le m n ≡ true → m ≤ n
    le_so m n is = grind (arith, nat_tests)

    lt_so : (m n : ℕ) → nat_le m n ≡ false → n < m
    lt_so m n is = grind (arith, nat_tests)

    by : (b : Bool) → is_last size at ≡ b → length piece ≡ (if b then size - at else most_bytes)
    by true last = let short : size - at ≤ most_bytes = le_so (size - at) most_bytes last in omega arith
    by false more = let far : most_bytes < size - at = lt_so (size - at) most_bytes more in omega arith

-- the last of them, and another
pub held_ends : (bytes piece : List ℕ) (size at : ℕ) → size ≡ length bytes → length piece ≡ min most_bytes (length bytes - at) →
    at + length piece ≡ length bytes → is_last size at ≡ true
held_ends bytes piece size at is long over = le_true (size - at) most_bytes (omega arith)

pub held_goes_on : (bytes piece : List ℕ) (size at : ℕ) → size ≡ length bytes → at ≤ length bytes → length piece ≡ min most_bytes (length bytes - at) →
    (at + length piece ≡ length bytes → ⊥) → (is_last size at ≡ false) × (length piece ≡ most_bytes)
held_goes_on bytes piece size at is within long more =
    let far : most_bytes < size - at = omega arith in
    (lt_false (size - at) most_bytes far, omega arith)

-- how long a piece is that was read
pub got_size : (wanted : Digest) (given piece : List ℕ) (at : ℕ) → at ≡ length given → is_last wanted.size (length given) ≡ true →
    digest_of (given ++ piece) ≡ wanted → length piece ≡ piece_size wanted.size at
got_size wanted given piece at offset last right =
    let size : length (given ++ piece) ≡ wanted.size = sym (digest_of-size (given ++ piece)) ∙ ap (λ (d : Digest). d.size) right in
    let long : length (given ++ piece) ≡ length given + length piece = length-append given piece in
    let left : length piece ≡ wanted.size - at = omega arith in
    left ∙ sym (ap (λ (b : Bool). if b then wanted.size - at else most_bytes) (ap (is_last wanted.size) offset ∙ last))

pub whole_size : (wanted : Digest) (given piece : List ℕ) (at : ℕ) → at ≡ length given → is_last wanted.size (length given) ≡ false →
    length piece ≡ most_bytes → length piece ≡ piece_size wanted.size at
whole_size wanted given piece at offset more whole =
    whole ∙ sym (ap (λ (b : Bool). if b then wanted.size - at else most_bytes) (ap (is_last wanted.size) offset ∙ more))

-- ---- stages that were moved

-- a fact of two stages that were put in other places
pub both_moved : {R : Type 0} {g : Ghosts R} (P : State R g → State R g → Type 0) (old taken new placed : State R g) → taken ≡ old → placed ≡ new → P taken new → P old placed
both_moved {R} {g} P old taken new placed was is has =
    subst (λ (s : State R g). P old s) (sym is) (subst (λ (s : State R g). P s new) was has)

-- what a call made of a job's region
region_made : {R : Type 0} {g : Ghosts R} (place : List (List ℕ)) (course : Course) (before : Option R) (new : State R g) → IsAt g place before → IsAt g place (region_of new) →
    ForSome before (λ (b : R). MakesPart {g = g} b course new) → RegionMakes g course (failure_of new) before (region_of new)
region_made {R} {g} place course None new was is makes = was
region_made {R} {g} place course (Some before) new was is makes = by (region_of new) refl is
  where
    by : (now : Option R) → region_of new ≡ now → IsAt g place now → RegionMakes g course (failure_of new) (Some before) now
    by None same is = is
    by (Some now) same is = makes before refl now same

pub made_so : {R : Type 0} {g : Ghosts R} (place : List (List ℕ)) (goal : Option (List Flat)) (lent : Bool) (old taken new placed : State R g) → taken ≡ old → placed ≡ new →
    Stands place goal lent old → (Stands place goal lent taken → Stands place goal lent new) →
    (state_spot taken ≡ part_call → ForSome (region_of taken) (λ (before : R). MakesPart {g = g} before (state_course taken) new)) →
    state_spot old ≡ part_call → RegionMakes g (state_course old) (failure_of placed) (region_of old) (region_of placed)
made_so {R} {g} place goal lent old taken new placed was is stands after makes =
    both_moved (λ (a b : State R g). state_spot a ≡ part_call → RegionMakes g (state_course a) (failure_of b) (region_of a) (region_of b)) old taken new placed was is
    (λ spot.
    let here : Stands place goal lent taken = subst (λ (s : State R g). Stands place goal lent s) (sym was) stands in
    region_made place (state_course taken) (region_of taken) new (stands_at place goal lent taken here) (stands_at place goal lent new (after here)) (makes spot))

-- ---- what holds between steps

filling_reads : (filing : Filing) (how : Filling) (behind : List Duty) (way : Option Method) (lent : Bool) →
    ReadsItsFile (filling_fetching filing.digest how)
    (record { duties = to_put (filing_node filing) ∷ behind; put = filling_put how; from = filling_from how; way = way; lent = lent }) (filling_reading how)
filling_reads filing (filling.Held at) behind way lent = tt
filling_reads filing (filling.Due source.Store reading) behind way lent = (refl, refl)
filling_reads filing (filling.Due (source.Loan rel) reading) behind way lent = tt
filling_reads filing (filling.Got from at piece None) behind way lent = tt
filling_reads filing (filling.Got source.Store at piece (Some reading)) behind way lent = (refl, refl)
filling_reads filing (filling.Got (source.Loan rel) at piece (Some reading)) behind way lent = tt

doing_reads : (order : Order) (one : Doing) → ReadsItsFile (doing_fetching one) (making_course order one) (doing_reading one)
doing_reads order (doing.Dir rel) = tt
doing_reads order (doing.Link rel target) = tt
doing_reads order (doing.File filing how) = filling_reads filing how (acts_duties order.left.items) (Some order.method) order.lent
doing_reads order doing.Sync = tt

state_reads : {R : Type 0} {g : Ghosts R} (s : State R g) → ReadsItsFile (state_fetching s) (state_course s) (state_reading s)
state_reads {R} {g} (state.Wiping region) = tt
state_reads {R} {g} (state.Emptying region) = tt
state_reads {R} {g} (state.Clearing region order) = tt
state_reads {R} {g} (state.Making making) = doing_reads making.order making.doing
state_reads {R} {g} (state.Ended left ended) = tt
state_reads {R} {g} state.Moving = tt

filling_calls : (how : Filling) → (filling_spot how ≡ part_call) ⊎ (filling_spot how ≡ spot_of (filling_from how))
filling_calls (filling.Held at) = inl refl
filling_calls (filling.Due from reading) = inr (source_spots from)
filling_calls (filling.Got from at piece more) = inl refl

doing_calls : (one : Doing) → (doing_spot one ≡ part_call) ⊎ (doing_spot one ≡ spot_of (doing_from one))
doing_calls (doing.Dir rel) = inl refl
doing_calls (doing.Link rel target) = inl refl
doing_calls (doing.File filing how) = filling_calls how
doing_calls doing.Sync = inl refl

state_calls : {R : Type 0} {g : Ghosts R} (s : State R g) → (state_spot s ≡ part_call) ⊎ (state_spot s ≡ spot_of (state_course s).from)
state_calls {R} {g} (state.Wiping region) = inl refl
state_calls {R} {g} (state.Emptying region) = inl refl
state_calls {R} {g} (state.Clearing region order) = inl refl
state_calls {R} {g} (state.Making making) = doing_calls making.doing
state_calls {R} {g} (state.Ended left ended) = inl refl
state_calls {R} {g} state.Moving = inl refl

pub job_along : {R : Type 0} {g : Ghosts R} (m : Machine R g) → IsAlong (seen m)
job_along {R} {g} m = record { file = state_reads m.state; spot_is = state_calls m.state }
