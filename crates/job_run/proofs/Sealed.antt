-- What a job that stands keeps, in the words of what is seen of it.
use Rattle.std.proofs.Common.{◌≡◌, ℕ, Bool, false, if◌then◌else◌, List, Option, Some, None, refl, sym, subst}
use Rattle.std.specs.Option.{ForSome}
use Rattle.mat_model.specs.declared.entries.Outcome.{Outcome}
use Rattle.mat_tree.specs.declared.flat.Flat.{Flat}
use Rattle.region_port.specs.declared.port.Region.{Ghosts}
use Rattle.job_run.specs.Jobs.{state_next}
use Rattle.job_run.specs.States.{failure_of, has_ended, region_of}
use Rattle.job_run.specs.Steps.{Asks, CallsPart, CallsRegion, DoingAsks, FillingAsks, IsAt, Stands, StateAsks, Told, doing_fetching, doing_spot, filling_fetching, filling_spot, loan_call, spot_next, state_fetching, state_spot, store_call}
use Rattle.job_run.specs.declared.job.Next.TheVariants as next
use Rattle.job_run.specs.declared.states.Doing.{Doing}
use Rattle.job_run.specs.declared.states.Doing.TheVariants as doing
use Rattle.job_run.specs.declared.states.Filing.{Filing}
use Rattle.job_run.specs.declared.states.Filling.{Filling}
use Rattle.job_run.specs.declared.states.Filling.TheVariants as filling
use Rattle.job_run.specs.declared.states.Source.TheVariants as source
use Rattle.job_run.specs.declared.states.State.{State}
use Rattle.job_run.specs.declared.states.State.TheVariants as state

-- its region is at its path
pub stands_at : {R : Type 0} {g : Ghosts R} (place : List (List ℕ)) (goal : Option (List Flat)) (lent : Bool) (s : State R g) → Stands place goal lent s →
    IsAt g place (region_of s)
stands_at {R} {g} place goal lent (state.Wiping region) stands = stands.0
stands_at {R} {g} place goal lent (state.Emptying region) stands = stands.0
stands_at {R} {g} place goal lent (state.Clearing region order) stands = stands.0
stands_at {R} {g} place goal lent (state.Making making) stands = stands.1.here
stands_at {R} {g} place goal lent (state.Ended left ended) stands = stands.at
stands_at {R} {g} place goal lent state.Moving stands = stands

-- it has not failed while it goes on
pub no_failure : {R : Type 0} {g : Ghosts R} (s : State R g) → has_ended s ≡ false → failure_of s ≡ None
no_failure {R} {g} (state.Wiping region) going = refl
no_failure {R} {g} (state.Emptying region) going = refl
no_failure {R} {g} (state.Clearing region order) going = refl
no_failure {R} {g} (state.Making making) going = refl
no_failure {R} {g} (state.Ended left ended) going = cc
no_failure {R} {g} state.Moving going = refl

-- the device that it calls next
pub next_so : {R : Type 0} {g : Ghosts R} (place : List (List ℕ)) (goal : Option (List Flat)) (lent : Bool) (s : State R g) → Stands place goal lent s →
    state_next s ≡ (if has_ended s then next.Nothing else spot_next (state_spot s))
next_so {R} {g} place goal lent (state.Wiping region) stands = refl
next_so {R} {g} place goal lent (state.Emptying region) stands = refl
next_so {R} {g} place goal lent (state.Clearing region order) stands = refl
next_so {R} {g} place goal lent (state.Making making) stands = refl
next_so {R} {g} place goal lent (state.Ended left ended) stands = refl
next_so {R} {g} place goal lent state.Moving stands = elim stands as (λ _. next.Nothing ≡ next.Disk) [ ]

-- a call on its part is one on its region
pub region_called : {R : Type 0} {g : Ghosts R} (place : List (List ℕ)) (before : Option R) (new : State R g) → IsAt g place before →
    IsAt g place (region_of new) → ForSome before (λ (b : R). CallsPart {g = g} b new) → CallsRegion g before (region_of new) (failure_of new)
region_called {R} {g} place None new was is calls = was
region_called {R} {g} place (Some before) new was is calls = by (region_of new) refl is
  where
    by : (now : Option R) → region_of new ≡ now → IsAt g place now → CallsRegion g (Some before) now (failure_of new)
    by None same is = is
    by (Some now) same is = calls before refl now same

-- what it asks of the store is for the file that it reads there
asks_filling : (filing : Filing) (how : Filling) (old new : Told) (failure : Option Outcome) → filling_spot how ≡ store_call → FillingAsks filing how old new failure →
    Asks (filling_fetching filing.digest how) old new failure
asks_filling filing (filling.Held at) old new failure spot asks = asks
asks_filling filing (filling.Due source.Store reading) old new failure spot asks = asks
asks_filling filing (filling.Due (source.Loan rel) reading) old new failure spot asks = never spot
  where
    never : loan_call ≡ store_call → ⊥
    never same = cc
asks_filling filing (filling.Got from at piece more) old new failure spot asks = elim asks as (λ _. Asks (filling_fetching filing.digest (filling.Got from at piece more)) old new failure) [ ]

asks_doing : (one : Doing) (old new : Told) (failure : Option Outcome) → doing_spot one ≡ store_call → DoingAsks one old new failure →
    Asks (doing_fetching one) old new failure
asks_doing (doing.Dir rel) old new failure spot asks = asks
asks_doing (doing.Link rel target) old new failure spot asks = asks
asks_doing (doing.File filing how) old new failure spot asks = asks_filling filing how old new failure spot asks
asks_doing doing.Sync old new failure spot asks = asks

pub asks_fetching : {R : Type 0} {g : Ghosts R} (s : State R g) (old new : Told) (failure : Option Outcome) → state_spot s ≡ store_call → StateAsks s old new failure →
    Asks (state_fetching s) old new failure
asks_fetching {R} {g} (state.Wiping region) old new failure spot asks = asks
asks_fetching {R} {g} (state.Emptying region) old new failure spot asks = asks
asks_fetching {R} {g} (state.Clearing region order) old new failure spot asks = asks
asks_fetching {R} {g} (state.Making making) old new failure spot asks = asks_doing making.doing old new failure spot asks
asks_fetching {R} {g} (state.Ended left ended) old new failure spot asks = asks
asks_fetching {R} {g} state.Moving old new failure spot asks = asks

-- ---- the same of stages that were moved

pub called_so : {R : Type 0} {g : Ghosts R} (place : List (List ℕ)) (goal : Option (List Flat)) (lent : Bool) (old taken new placed : State R g) → taken ≡ old → placed ≡ new →
    Stands place goal lent old → (Stands place goal lent taken → Stands place goal lent new) →
    ForSome (region_of taken) (λ (before : R). CallsPart {g = g} before new) → CallsRegion g (region_of old) (region_of placed) (failure_of placed)
called_so {R} {g} place goal lent old taken new placed was is stands after calls =
    subst (λ (s : State R g). CallsRegion g (region_of old) (region_of s) (failure_of s)) (sym is)
    (subst (λ (s : State R g). CallsRegion g (region_of s) (region_of new) (failure_of new)) was
    (let here : Stands place goal lent taken = subst (λ (s : State R g). Stands place goal lent s) (sym was) stands in
    region_called place (region_of taken) new (stands_at place goal lent taken here) (stands_at place goal lent new (after here)) calls))

pub asked_so : {R : Type 0} {g : Ghosts R} (old taken new placed : State R g) (before after : Told) → taken ≡ old → placed ≡ new → state_spot old ≡ store_call →
    StateAsks taken before after (failure_of new) → Asks (state_fetching old) before after (failure_of placed)
asked_so {R} {g} old taken new placed before after was is spot asks =
    subst (λ (s : State R g). Asks (state_fetching old) before after (failure_of s)) (sym is)
    (asks_fetching old before after (failure_of new) spot (subst (λ (s : State R g). StateAsks s before after (failure_of new)) was asks))
