-- What entries do to kept rows that are whole.
use Rattle.std.proofs.Common.{◌≡◌, ℕ, Bool, true, false, inl, inr, List, ◌∷◌, Option, Some, None, refl, sym, ap, subst, ◌∙◌, Contains}
use Rattle.std.specs.List.{filter, list_any}
use Rattle.mat_path.specs.Covering.{is_other_path}
use Rattle.mat_path.specs.Names.{overlap}
use Rattle.mat_tree.specs.declared.flat.Flat.{Flat}
use Rattle.mat_tree.specs.Parts.{HasTree, Part, below, replaced}
use Rattle.mat_model.specs.declared.book.Row.{Row}
use Rattle.mat_model.specs.declared.entries.Entry.{Entry}
use Rattle.mat_model.specs.declared.entries.Event.TheVariants as event
use Rattle.mat_model.specs.declared.entries.Task.{Task}
use Rattle.mat_model.specs.History.{Point, after, next_number}
use Rattle.mat_model.specs.Kept.{KeptRow, kept_row, store_rows}
use Rattle.mat_model.specs.Legal.{IsRecorded, IsReplied}
use Rattle.mat_model.specs.WorkState.{Job, Lent, WorkState, is_above, path_of_task, running}
use Rattle.model_laws.specs.KeptRules.{KeptAscend}
use Rattle.model_laws.specs.StoredRules.{IsStored, IsStoredOf, path_of_job}
use Rattle.model_laws.specs.WorkRules.{IsWork, claimed_by_part, loans_of}
use Rattle.model_laws.proofs.KeptLemmas.{event_comes}
use Rattle.model_laws.proofs.KeptOrder.{stored_cases}
use Rattle.model_laws.proofs.RecordedStands.{record_stands}
use Rattle.region_port.specs.Calls.{Paths, paths_below, paths_of_both}
use Rattle.core_laws.specs.Covered.{IsCovered, IsRoughCovered}
use Rattle.core_laws.specs.Loans.{AreLoans, AreOut, given_back}
use Rattle.core_laws.specs.Places.{IsBareBelow}
use Rattle.core_laws.specs.Tied.{AreTied}
use Rattle.core_laws.specs.Whole.{AreAgain, HasLentTree, IsPartSettled, IsWhole, IsWholeRow, Regions, with_part, with_rough_part}
use Rattle.core_laws.proofs.ImageLemmas.{standing_whole}
use Rattle.core_laws.proofs.LoanLemmas.{give_out, is_running, lent_apart, part_lent, task_lent}
use Rattle.core_laws.proofs.WholeLemmas.{lent_whole, task_whole}

-- ---- kept rows that are others

row_again : (lent : List (List (List ℕ))) (content : Part) (rough : Paths) (old one : KeptRow) → IsStoredOf one old.path old.tree →
    IsWholeRow lent content rough old → IsWholeRow lent content rough one
row_again lent content rough old one same whole = record {
  settled = λ path meet. whole.settled path (subst (λ (p : List (List ℕ)). overlap path p ≡ true) same.path meet);
  top = λ path above. whole.top path (subst (λ (p : List (List ℕ)). is_above path p ≡ true) same.path above);
  tree = λ clear.
      subst (λ (p : List (List ℕ)). HasTree (below p content) one.tree) (sym same.path)
      (subst (λ (t : List Flat). HasTree (below old.path content) t) (sym same.tree)
      (whole.tree (subst (λ (p : List (List ℕ)). list_any (overlap p) lent ≡ false) same.path clear)));
}

pub again_whole : (lent : List (List (List ℕ))) (kept left : List KeptRow) (content : Part) (rough : Paths) → IsWhole lent kept content rough →
    AreAgain kept left → IsWhole lent left content rough
again_whole lent kept left content rough whole again =
    λ one among. let from = again one among in row_again lent content rough from.old one from.same (whole from.old from.among)

pub store_whole : (lent : List (List (List ℕ))) (kept : List KeptRow) (some : List Row) (content : Part) (rough : Paths) → KeptAscend kept →
    IsWhole lent kept content rough → ((row : Row) → Contains some row → IsWholeRow lent content rough (kept_row row)) →
    IsWhole lent (store_rows some kept) content rough
store_whole lent kept some content rough asc whole each =
    λ one among. elim (stored_cases some kept one asc among) [
      | inl (row, within, same) ↦ subst (λ (k : KeptRow). IsWholeRow lent content rough k) same (each row within)
      | inr (was, differs) ↦ whole one was
    ]

-- ---- entries

pub begin_whole : (point : Point) (entry : Entry) (begun : Task) (lent : List (List (List ℕ))) (content : Part) (rough : Paths) →
    KeptAscend point.kept → entry.event ≡ event.Begin begun → IsWhole lent point.kept content rough → IsWhole lent (after point entry).kept content rough
begin_whole point entry begun lent content rough asc is whole =
    λ one among. elim (event_comes point entry.now entry.event entry.reply one asc among) [
      | inl (was, alone) ↦ whole one was
      | inr by ↦ elim by.how [
        | inl made ↦ let both = sym is ∙ made.ends in absurd cc
        | inr flushed ↦ let both = sym is ∙ flushed.asks in absurd cc
      ]
    ]

pub entry_whole : (spoken : ℕ → Bool) (point : Point) (entry : Entry) (lent : List (List (List ℕ))) (content : Part) (rough : Paths) →
    KeptAscend point.kept → IsReplied point entry → IsRecorded point entry →
    IsWork (next_number (after point entry)) (after point entry).book.rows (after point entry).work → AreLoans (after point entry).work.jobs lent →
    AreTied spoken (after point entry).book.rows (after point entry).work.jobs content rough →
    IsCovered (after point entry).book.rows (after point entry).work content → IsRoughCovered (after point entry).work rough →
    ((row : Row) → Contains (after point entry).book.rows row → spoken row.stamp ≡ true) → IsWhole lent point.kept content rough →
    IsWhole lent (after point entry).kept content rough
entry_whole spoken point entry lent content rough asc replied counted rules are tied covered rough_covered said whole =
    λ one among. elim (event_comes point entry.now entry.event entry.reply one asc among) [
      | inl (was, alone) ↦ whole one was
      | inr by ↦
          standing_whole spoken (next_number (after point entry)) (after point entry).book.rows (after point entry).work lent content rough by.row one
          rules are tied covered rough_covered by.among (record_stands point entry one replied counted by) (said by.row by.among)
          (record { path = sym (ap (λ (k : KeptRow). k.path) by.same); tree = sym (ap (λ (k : KeptRow). k.tree) by.same) })
    ]

-- ---- all that is out for a job comes back

pub gives_whole : (next number : ℕ) (rows : List Row) (work : WorkState) (lent : List (List (List ℕ))) (kept : List KeptRow) (job : Job)
    (regions : Regions) (inner content : Part) (its part rough : Paths) → IsWork next rows work → IsStored rows work.jobs kept →
    running number work ≡ Some job → AreLoans work.jobs lent → AreOut lent content rough → HasLentTree job.lent regions →
    IsPartSettled job.lent part → IsWhole lent kept content rough →
    IsWhole (given_back (loans_of job) lent) kept (with_part job.lent regions (replaced (path_of_job job) inner content))
    (with_rough_part job.lent part (paths_of_both rough (paths_below (path_of_job job) its)))
gives_whole next number rows work lent kept job regions inner content its part rough rules stored runs are out tree settled whole =
    by job.lent refl tree settled
  where
    among : Contains work.jobs job
    among = (is_running number work.jobs job runs).among

    left : List (List (List ℕ))
    left = filter (is_other_path (path_of_job job)) lent

    other : Part
    other = replaced (path_of_job job) inner content

    others : Paths
    others = paths_of_both rough (paths_below (path_of_job job) its)

    task : IsWhole left kept other others
    task = task_whole rows work.jobs lent kept job inner content its rough stored among whole

    bare : (read : Lent) → job.lent ≡ Some read → IsBareBelow read.path other others
    bare read is =
        give_out lent (path_of_job job) inner content its rough (lent_apart next rows work lent rules are) (task_lent work.jobs lent job are among) out
        read.path (part_lent next rows work lent job read rules are among is)

    by : (o : Option Lent) → job.lent ≡ o → HasLentTree o regions → IsPartSettled o part →
        IsWhole (given_back (path_of_task job.task ∷ claimed_by_part o) lent) kept (with_part o regions other) (with_rough_part o part others)
    by None is has none = task
    by (Some read) is has none =
        lent_whole rows work.jobs left kept job read (regions read.path) other part others stored among is has none (bare read is) task
