-- What a job that has ended keeps.
use Rattle.std.proofs.Common.{◌≡◌, ◌≤◌, ◌⊎◌, ◌||◌, inl, inr, nat_le, ℕ, Bool, true, false, not, List, Option, Some, None, refl, ap, subst, arith}
use Rattle.std.proofs.lemmas.Bool.Decides.{nat_tests}
use Rattle.std.specs.Option.{is_some}
use Rattle.mat_io.specs.Causes.{risen}
use Rattle.mat_model.specs.declared.entries.Outcome.{Outcome}
use Rattle.mat_model.specs.declared.entries.Outcome.TheVariants as outcome
use Rattle.mat_tree.specs.declared.flat.Flat.{Flat}
use Rattle.region_port.specs.States.{loan_region}
use Rattle.region_port.specs.declared.port.Region.{Ghosts}
use Rattle.region_port.specs.declared.states.Part.{Part}
use Rattle.region_port.specs.declared.states.ReadLoan.{ReadLoan}
use Rattle.job_run.specs.Done.{counts_fault, ends_task, has_count_risen, leaves_part, loan_counted}
use Rattle.job_run.specs.Jobs.{IsCounted, LoanCounts}
use Rattle.job_run.specs.States.{Ends, Leaves, is_disk}

le_true : (m n : ℕ) → m ≤ n → nat_le m n ≡ true
le_true m n le = grind (arith, nat_tests)

-- an outcome is one of the task's
pub ends_so : (goal : Option (List Flat)) (make : Bool) (ended : Outcome) → is_some goal ≡ make → Ends goal ended → ends_task make ended ≡ true
ends_so goal make ended is ends = subst (λ (b : Bool). ends_task b ended ≡ true) is (by goal ended ends)
  where
    by : (goal : Option (List Flat)) (ended : Outcome) → Ends goal ended → ends_task (is_some goal) ended ≡ true
    by None outcome.Made ends = elim ends as (λ _. false ≡ true) [ ]
    by None outcome.Wiped ends = refl
    by None (outcome.Missing digest) ends = elim ends as (λ _. false ≡ true) [ ]
    by None (outcome.Corrupt wanted found) ends = elim ends as (λ _. false ≡ true) [ ]
    by None (outcome.Fault note) ends = ends
    by None outcome.NoMemory ends = refl
    by (Some tree) outcome.Made ends = refl
    by (Some tree) outcome.Wiped ends = elim ends as (λ _. false ≡ true) [ ]
    by (Some tree) (outcome.Missing digest) ends = refl
    by (Some tree) (outcome.Corrupt wanted found) ends = refl
    by (Some tree) (outcome.Fault note) ends = ends
    by (Some tree) outcome.NoMemory ends = refl

-- a part is left as the outcome says
pub leaves_so : {R : Type 0} {g : Ghosts R} (goal : Option (List Flat)) (ended : Outcome) (left : Part R g) → Ends goal ended → Leaves goal ended left → leaves_part ended left ≡ true
leaves_so {R} {g} None outcome.Made left ends leaves = elim ends as (λ _. leaves_part outcome.Made left ≡ true) [ ]
leaves_so {R} {g} (Some tree) outcome.Made left ends leaves = ap is_some leaves
leaves_so {R} {g} goal outcome.Wiped left ends leaves = leaves
leaves_so {R} {g} goal (outcome.Missing digest) left ends leaves = refl
leaves_so {R} {g} goal (outcome.Corrupt wanted found) left ends leaves = refl
leaves_so {R} {g} goal (outcome.Fault note) left ends leaves = refl
leaves_so {R} {g} goal outcome.NoMemory left ends leaves = refl

-- a fault of the disk was counted
pub counts_so : {R : Type 0} (g : Ghosts R) (ended : Outcome) (count : ℕ) (loan : Option (ReadLoan R)) → IsCounted g ended count loan → counts_fault g ended count loan ≡ true
counts_so {R} g outcome.Made count loan counts = refl
counts_so {R} g outcome.Wiped count loan counts = refl
counts_so {R} g (outcome.Missing digest) count loan counts = refl
counts_so {R} g (outcome.Corrupt wanted found) count loan counts = refl
counts_so {R} g outcome.NoMemory count loan counts = refl
counts_so {R} g (outcome.Fault note) count loan counts = by (is_disk note.device) refl
  where
    lent : (loan : Option (ReadLoan R)) → LoanCounts g loan note.after → loan_counted g loan note.after ≡ true
    lent None counts = elim counts as (λ _. false ≡ true) [ ]
    lent (Some one) counts = le_true note.after (g.fault_count (loan_region one)) counts

    second : (b c : Bool) → c ≡ true → b || c ≡ true
    second true c is = refl
    second false c is = is

    either : (note.after ≤ count) ⊎ LoanCounts g loan note.after → nat_le note.after count || loan_counted g loan note.after ≡ true
    either (inl le) = ap (λ b. b || loan_counted g loan note.after) (le_true note.after count le)
    either (inr counted) = second (nat_le note.after count) (loan_counted g loan note.after) (lent loan counted)

    by : (b : Bool) → is_disk note.device ≡ b → not b || (nat_le note.after count || loan_counted g loan note.after) ≡ true
    by false is = refl
    by true is = either (counts.1 is)

-- the count of its device rose
pub rises_so : {R : Type 0} (g : Ghosts R) (ended : Outcome) (count : ℕ) (loan : Option (ReadLoan R)) → IsCounted g ended count loan → has_count_risen ended ≡ true
rises_so {R} g outcome.Made count loan counts = refl
rises_so {R} g outcome.Wiped count loan counts = refl
rises_so {R} g (outcome.Missing digest) count loan counts = refl
rises_so {R} g (outcome.Corrupt wanted found) count loan counts = refl
rises_so {R} g (outcome.Fault note) count loan counts = le_true (risen note.before) note.after counts.0
rises_so {R} g outcome.NoMemory count loan counts = refl
