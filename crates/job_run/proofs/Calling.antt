-- One call on the disk, by what it answered.
use Rattle.std.proofs.Common.{◌≡◌, ◌==◌, ℕ, Bool, false, if◌then◌else◌, List, Option, refl, sym, subst}
use Rattle.std.specs.Option.{option_map}
use Rattle.mat_io.specs.Answers.{did_failed}
use Rattle.mat_io.specs.Causes.{HasCause}
use Rattle.mat_io.specs.declared.answer.Did.{Did}
use Rattle.mat_io.specs.declared.answer.Did.TheVariants as did
use Rattle.mat_model.specs.declared.entries.Outcome.{Outcome}
use Rattle.mat_tree.specs.Parts.{Node, Part, file, with_node}
use Rattle.region_port.specs.Calls.{Appends, Puts, Wipes, appended, wiped}
use Rattle.mat_io.specs.Watches.{FailsSo, Watch, after_call}
use Rattle.job_run.specs.Failures.{Changes, IsDiskCall, did_failure}
use Rattle.job_run.specs.Growing.{with_piece}

-- a call between these counts
pub disk_call : (before after : ℕ) (watched watching : Option Watch) (d : Did) (failure : Option Outcome) → failure ≡ did_failure before after d →
    HasCause before after (did_failed d) → watching ≡ option_map after_call watched → FailsSo watched (did_failed d) →
    IsDiskCall before after watched watching failure
disk_call before after watched watching d failure is cause watch fails = rw is (by d cause fails)
  where
    by : (d : Did) → HasCause before after (did_failed d) → FailsSo watched (did_failed d) →
        IsDiskCall before after watched watching (did_failure before after d)
    by did.Done cause fails = record { later = cause.later; why = tt; watch = watch; fails = fails }
    by did.Failed cause fails = record { later = cause.later; why = (refl, cause.rose refl); watch = watch; fails = fails }
    by did.NoMemory cause fails = record { later = cause.later; why = tt; watch = watch; fails = fails }

-- a wipe
pub wipe_changes : (before after : ℕ) (d : Did) (failure : Option Outcome) (old new : Option Part) → failure ≡ did_failure before after d →
    Wipes d old new → Changes wiped failure old new
wipe_changes before after d failure old new is wipes = rw is (by d wipes)
  where
    by : (d : Did) → Wipes d old new → Changes wiped (did_failure before after d) old new
    by did.Done wipes = wipes
    by did.Failed wipes = wipes
    by did.NoMemory wipes = wipes

-- a put of a node
pub put_changes : (before after : ℕ) (d : Did) (failure : Option Outcome) (rel : List (List ℕ)) (node : Node) (old new : Option Part) →
    failure ≡ did_failure before after d → Puts rel node d old new → Changes (with_node rel node) failure old new
put_changes before after d failure rel node old new is puts = rw is (by d puts)
  where
    by : (d : Did) → Puts rel node d old new → Changes (with_node rel node) (did_failure before after d) old new
    by did.Done puts = puts
    by did.Failed puts = puts
    by did.NoMemory puts = puts

-- bytes added to a file
more_changes : (before after : ℕ) (d : Did) (rel : List (List ℕ)) (more : List ℕ) (old new : Option Part) →
    Appends rel more d old new → Changes (appended rel more) (did_failure before after d) old new
more_changes before after did.Done rel more old new appends = appends
more_changes before after did.Failed rel more old new appends = appends
more_changes before after did.NoMemory rel more old new appends = appends

-- a put of the first piece
pub first_changes : (before after at : ℕ) (d : Did) (failure : Option Outcome) (rel : List (List ℕ)) (exec : Bool) (piece : List ℕ) (old new : Option Part) →
    at ≡ 0 → failure ≡ did_failure before after d → Puts rel (file piece exec) d old new → Changes (with_piece rel exec at piece) failure old new
first_changes before after at d failure rel exec piece old new first is puts =
    rw first (put_changes before after d failure rel (file piece exec) old new is puts)

-- a put of a further one
pub next_changes : (before after at : ℕ) (d : Did) (failure : Option Outcome) (rel : List (List ℕ)) (exec : Bool) (piece : List ℕ) (old new : Option Part) →
    (at == 0) ≡ false → failure ≡ did_failure before after d → Appends rel piece d old new → Changes (with_piece rel exec at piece) failure old new
next_changes before after at d failure rel exec piece old new next is appends =
    subst (λ (b : Bool). Changes (λ part. if b then with_node rel (file piece exec) part else appended rel piece part) failure old new) (sym next)
    (subst (λ (o : Option Outcome). Changes (appended rel piece) o old new) (sym is) (more_changes before after d rel piece old new appends))
