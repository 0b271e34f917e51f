-- The rules of a disk together, as a job ends and its loans come back.
use Rattle.std.proofs.Common.{◌≡◌, ℕ, Bool, true, false, inl, inr, List, ◌∷◌, Option, Some, None, refl, sym, ap, subst, ◌∙◌, Contains}
use Rattle.std.specs.List.{filter}
use Rattle.std.proofs.lemmas.Bool.{both_ways}
use Rattle.mat_path.specs.Covering.{is_other_path}
use Rattle.mat_path.specs.Names.{is_prefix, overlap}
use Rattle.mat_path.proofs.Elements.{contains_first}
use Rattle.mat_path.proofs.Overlaps.{overlap-sym}
use Rattle.mat_tree.specs.declared.flat.Flat.{Flat}
use Rattle.mat_tree.specs.Parts.{HasTree, Part, replaced}
use Rattle.mat_model.specs.declared.book.Row.{Row}
use Rattle.mat_model.specs.declared.entries.Entry.{Entry}
use Rattle.mat_model.specs.declared.entries.Event.TheVariants as event
use Rattle.mat_model.specs.declared.entries.Outcome.{Outcome}
use Rattle.mat_model.specs.declared.entries.Outcome.TheVariants as outcome
use Rattle.mat_model.specs.declared.entries.Task.{Task}
use Rattle.mat_model.specs.declared.entries.Task.TheVariants as task
use Rattle.mat_model.specs.History.{Point, after, next_number}
use Rattle.mat_model.specs.Kept.{KeptRow}
use Rattle.mat_model.specs.Legal.{IsRecorded, IsReplied}
use Rattle.mat_model.specs.Rows.{are_apart}
use Rattle.mat_model.specs.WorkState.{Job, Lent, WorkState, is_other_job, path_of_task, running}
use Rattle.model_laws.specs.RowRules.{IsSameRow}
use Rattle.model_laws.specs.StoredRules.{IsStored, IsStoredOf, path_of_job}
use Rattle.model_laws.specs.WorkRules.{IsMaking, IsWork, claimed_by_part, loans, loans_of}
use Rattle.model_laws.proofs.ClaimLemmas.{own_loans_apart, part_loan}
use Rattle.model_laws.proofs.Coverings.{named_among}
use Rattle.model_laws.proofs.RowLemmas.{row_step}
use Rattle.model_laws.proofs.StoredLemmas.{stored_dropped, stored_no_task}
use Rattle.region_port.specs.Calls.{Paths, paths_below, paths_of_both}
use Rattle.core_laws.specs.Covered.{AreNodesWithin, IsRoughWithin, node_places, rough_places}
use Rattle.core_laws.specs.DiskRules.{IsDisk, IsTiedDisk}
use Rattle.core_laws.specs.Ends.{IsEndedPart, IsMadePart, IsReadBack, IsReadPart, IsReadSpoken, IsWipedPart, not_stored, with_job, with_rough_job}
use Rattle.core_laws.specs.Loans.{AreLoans, AreOut, given_back}
use Rattle.core_laws.specs.Tied.{AreTied, IsLeftBy, IsTreeAt}
use Rattle.core_laws.specs.Whole.{HasLentTree, IsPartSettled, Regions, with_part, with_rough_part}
use Rattle.core_laws.proofs.CoveredLemmas.{bare_nodes, give_nodes, give_rough, kept_nodes, kept_rough, settled_rough}
use Rattle.core_laws.proofs.EndLemmas.{end_make_place, end_make_rough, end_nodes, end_part_place, end_rough, end_wipe_place}
use Rattle.core_laws.proofs.KeepMoves.{entry_whole, gives_whole}
use Rattle.core_laws.proofs.LoanLemmas.{end_loans, fewer_apart, give_out, is_running, jobs_out, lent_apart, part_lent, task_lent}
use Rattle.core_laws.proofs.PlaceLemmas.{give_aside}
use Rattle.core_laws.proofs.PointMoves.{end_jobs, end_rows}
use Rattle.core_laws.proofs.RuleMoves.{tied_disk}
use Rattle.core_laws.proofs.TiedLemmas.{end_tied, give_tied, loan_clear, tree_given, tree_stays}

-- ---- what is out

-- the part of the task has come back
task_out : (next number : ℕ) (rows : List Row) (work : WorkState) (lent : List (List (List ℕ))) (job : Job) (inner content : Part) (its rough : Paths) →
    IsWork next rows work → running number work ≡ Some job → AreLoans work.jobs lent → AreOut lent content rough →
    AreOut (filter (is_other_path (path_of_job job)) lent) (replaced (path_of_job job) inner content) (paths_of_both rough (paths_below (path_of_job job) its))
task_out next number rows work lent job inner content its rough rules runs are out =
    give_out lent (path_of_job job) inner content its rough (lent_apart next rows work lent rules are)
    (task_lent work.jobs lent job are (is_running number work.jobs job runs).among) out

gives_out : (next number : ℕ) (rows : List Row) (work : WorkState) (lent : List (List (List ℕ))) (job : Job) (regions : Regions)
    (inner content : Part) (its part rough : Paths) → IsWork next rows work → running number work ≡ Some job → AreLoans work.jobs lent →
    AreOut lent content rough → AreOut (given_back (loans_of job) lent) (with_job job inner regions content) (with_rough_job job its part rough)
gives_out next number rows work lent job regions inner content its part rough rules runs are out = by job.lent refl
  where
    p : List (List ℕ)
    p = path_of_job job

    first : AreOut (filter (is_other_path p) lent) (replaced p inner content) (paths_of_both rough (paths_below p its))
    first = task_out next number rows work lent job inner content its rough rules runs are out

    by : (o : Option Lent) → job.lent ≡ o → AreOut (given_back (p ∷ claimed_by_part o) lent) (with_part o regions (replaced p inner content))
        (with_rough_part o part (paths_of_both rough (paths_below p its)))
    by None is = first
    by (Some read) is =
        give_out (filter (is_other_path p) lent) read.path (regions read.path) (replaced p inner content) part (paths_of_both rough (paths_below p its))
        (fewer_apart (is_other_path p) lent (lent_apart next rows work lent rules are))
        (part_lent next rows work lent job read rules are (is_running number work.jobs job runs).among is) first

-- ---- rows that are tied

-- a row that is left standing by its make is one that this made
record IsMadeRow (rows : List Row) (out : Outcome) (row : Row) : Type 0 where
  old : Row
  among : Contains rows old
  same : IsSameRow old row
  made : out ≡ outcome.Made

made_row : (point : Point) (entry : Entry) (number : ℕ) (out : Outcome) (job : Job) (row : Row) → IsWork (next_number point) point.book.rows point.work →
    entry.event ≡ event.Done number out → running number point.work ≡ Some job → Contains (after point entry).book.rows row →
    job.task ≡ task.Make row.path row.stamp → row.stands ≡ true → IsMadeRow point.book.rows out row
made_row point entry number out job row rules is runs among makes stands =
    elim (row_step point entry row rules.apart among) [
      | inl new ↦ let both = sym is ∙ new.asks in absurd cc
      | inr was ↦ elim was.stands [
        | inl stays ↦
            let rests = subst (IsMaking point.book.rows) makes (rules.jobs job (is_running number point.work.jobs job runs).among).making was.old was.among
            (sym was.same.stamp) in
            let lies = rests.1 in
            absurd cc
        | inr made ↦
            let both : event.Done number out ≡ event.Done made.number outcome.Made = sym is ∙ made.ends in
            let one : out ≡ outcome.Made = cc in
            record { old = was.old; among = was.among; same = was.same; made = one }
      ]
    ]

-- they stay so as the parts come back, before the job ends
gives_tied : (spoken : ℕ → Bool) (next number : ℕ) (rows : List Row) (work : WorkState) (job : Job) (regions : Regions) (inner content : Part)
    (its part rough : Paths) → IsWork next rows work → running number work ≡ Some job → AreTied spoken rows work.jobs content rough →
    AreTied spoken rows work.jobs (with_job job inner regions content) (with_rough_job job its part rough)
gives_tied spoken next number rows work job regions inner content its part rough rules runs tied = by job.lent refl
  where
    p : List (List ℕ)
    p = path_of_job job

    among : Contains work.jobs job
    among = (is_running number work.jobs job runs).among

    first : AreTied spoken rows work.jobs (replaced p inner content) (paths_of_both rough (paths_below p its))
    first =
        give_tied spoken rows work.jobs p inner content its rough tied
        (loan_clear next rows work p rules (named_among loans_of work.jobs job p among (contains_first p (claimed_by_part job.lent))))

    by : (o : Option Lent) → job.lent ≡ o → AreTied spoken rows work.jobs (with_part o regions (replaced p inner content))
        (with_rough_part o part (paths_of_both rough (paths_below p its)))
    by None is = first
    by (Some read) is =
        give_tied spoken rows work.jobs read.path (regions read.path) (replaced p inner content) part (paths_of_both rough (paths_below p its)) first
        (loan_clear next rows work read.path rules (named_among loans_of work.jobs job read.path among (part_loan job read is)))

end_gives_tied : (spoken : ℕ → Bool) (point : Point) (entry : Entry) (number : ℕ) (out : Outcome) (job : Job) (lent : List (List (List ℕ)))
    (regions : Regions) (inner content : Part) (its part rough : Paths) → IsWork (next_number point) point.book.rows point.work →
    entry.event ≡ event.Done number out → running number point.work ≡ Some job → AreLoans point.work.jobs lent → AreOut lent content rough →
    IsEndedPart job.task out point.book.rows inner its → IsReadBack spoken job regions part →
    AreTied spoken point.book.rows point.work.jobs content rough →
    AreTied spoken (after point entry).book.rows (after point entry).work.jobs (with_job job inner regions content) (with_rough_job job its part rough)
end_gives_tied spoken point entry number out job lent regions inner content its part rough rules is runs are bare ended back tied =
    subst (λ (jobs : List Job). AreTied spoken (after point entry).book.rows jobs (with_job job inner regions content) (with_rough_job job its part rough))
    (sym (end_jobs point entry number out job is runs))
    (end_tied spoken (next_number point) number point.book.rows (after point entry).book.rows point.work job
    (with_job job inner regions content) (with_rough_job job its part rough) rules runs
    (gives_tied spoken (next_number point) number point.book.rows point.work job regions inner content its part rough rules runs tied)
    (λ row among. end_rows point entry number out job row rules.apart is runs among) made read_back)
  where
    p : List (List ℕ)
    p = path_of_job job

    among_jobs : Contains point.work.jobs job
    among_jobs = (is_running number point.work.jobs job runs).among

    other : Part
    other = replaced p inner content

    others : Paths
    others = paths_of_both rough (paths_below p its)

    -- the part of the task stays as it came, since the part that the job read is apart from it
    stays : (nodes : List Flat) → IsTreeAt p nodes other others → (o : Option Lent) → job.lent ≡ o →
        IsTreeAt p nodes (with_part o regions other) (with_rough_part o part others)
    stays nodes at None has = at
    stays nodes at (Some read) has =
        tree_stays p nodes other (replaced read.path (regions read.path) other) others (paths_of_both others (paths_below read.path part))
        (give_aside read.path p (regions read.path) other part others
        (overlap-sym p read.path false (own_loans_apart (next_number point) point.book.rows point.work job read rules among_jobs has))) at

    made : (row : Row) → Contains (after point entry).book.rows row → job.task ≡ task.Make row.path row.stamp → row.stands ≡ true →
        spoken row.stamp ≡ true → IsTreeAt row.path row.tree (with_job job inner regions content) (with_rough_job job its part rough)
    made row among makes stands said =
        let from = made_row point entry number out job row rules is runs among makes stands in
        let its_part : IsMadePart point.book.rows row.path row.stamp inner its =
        subst (λ (o : Outcome). IsEndedPart (task.Make row.path row.stamp) o point.book.rows inner its) from.made
        (subst (λ (t : Task). IsEndedPart t out point.book.rows inner its) makes ended) in
        let at : p ≡ row.path = ap path_of_task makes in
        subst (λ (q : List (List ℕ)). IsTreeAt q row.tree (with_job job inner regions content) (with_rough_job job its part rough)) at
        (stays row.tree
        (tree_given p row.tree inner content its rough (bare p (task_lent point.work.jobs lent job are among_jobs))
        (subst (λ (t : List Flat). HasTree inner t) (sym from.same.tree)
        (its_part.tree from.old from.among (sym from.same.path) (sym from.same.stamp)))
        (λ path under. its_part.settled path (subst (λ (q : List (List ℕ)). is_prefix q path ≡ true) at under))) job.lent refl)

    read_back : (row : Row) (read : Lent) → Contains (after point entry).book.rows row → job.lent ≡ Some read → read.stamp ≡ row.stamp →
        spoken row.stamp ≡ true → IsTreeAt read.path read.tree (with_job job inner regions content) (with_rough_job job its part rough)
    read_back row read among has same said =
        let came = back read has (ap spoken same ∙ said) in
        subst (λ (o : Option Lent). IsTreeAt read.path read.tree (with_part o regions other) (with_rough_part o part others)) (sym has)
        (tree_given read.path read.tree (regions read.path) other part others
        (task_out (next_number point) number point.book.rows point.work lent job inner content its rough rules runs are bare read.path
        (part_lent (next_number point) point.book.rows point.work lent job read rules are among_jobs has)) came.tree came.settled)

-- ---- nodes and rough paths

gives_nodes : (spoken : ℕ → Bool) (point : Point) (entry : Entry) (number : ℕ) (out : Outcome) (job : Job) (lent : List (List (List ℕ)))
    (regions : Regions) (inner content : Part) (its rough : Paths) → IsWork (next_number point) point.book.rows point.work →
    entry.event ≡ event.Done number out → running number point.work ≡ Some job → IsEndedPart job.task out point.book.rows inner its →
    IsDisk spoken point lent content rough →
    AreNodesWithin (node_places (after point entry).book.rows (after point entry).work) (with_job job inner regions content)
gives_nodes spoken point entry number out job lent regions inner content its rough rules is runs ended disk =
    back job.lent refl
  where
    places : List (List (List ℕ))
    places = node_places (after point entry).book.rows (after point entry).work

    kept : AreNodesWithin places content
    kept =
        kept_nodes (loans point.work.jobs) (node_places point.book.rows point.work) places content rough
        (jobs_out point.work.jobs lent content rough disk.loans disk.out) (end_nodes point entry number out job is runs) disk.covered

    by : (t : Task) → job.task ≡ t → IsEndedPart t out point.book.rows inner its → AreNodesWithin places (replaced (path_of_task t) inner content)
    by (task.Make path stamp) makes so = give_nodes places path inner content kept (end_make_place point entry number out job path stamp is runs makes)
    by (task.Wipe path) wipes so =
        elim (end_wipe_place point entry number out job path rules is runs wipes) [
          | inl wiped ↦
              let its_part : IsWipedPart path inner its =
              subst (λ (o : Outcome). IsEndedPart (task.Wipe path) o point.book.rows inner its) wiped so in
              bare_nodes places path inner content kept its_part.node
          | inr most ↦ give_nodes places path inner content kept most.0
        ]

    back : (o : Option Lent) → job.lent ≡ o → AreNodesWithin places (with_part o regions (replaced (path_of_job job) inner content))
    back None has = by job.task refl ended
    back (Some read) has =
        give_nodes places read.path (regions read.path) (replaced (path_of_job job) inner content) (by job.task refl ended)
        (end_part_place point entry number out job read rules is runs has)

gives_rough : (spoken : ℕ → Bool) (point : Point) (entry : Entry) (number : ℕ) (out : Outcome) (job : Job) (lent : List (List (List ℕ)))
    (regions : Regions) (inner content : Part) (its part rough : Paths) → IsWork (next_number point) point.book.rows point.work →
    entry.event ≡ event.Done number out → running number point.work ≡ Some job → IsEndedPart job.task out point.book.rows inner its →
    ((read : Lent) → job.lent ≡ Some read → IsReadPart read (regions read.path) part) → IsDisk spoken point lent content rough →
    IsRoughWithin (rough_places (after point entry).work) (with_rough_job job its part rough)
gives_rough spoken point entry number out job lent regions inner content its part rough rules is runs ended read_back disk =
    back job.lent refl
  where
    places : List (List (List ℕ))
    places = rough_places (after point entry).work

    kept : IsRoughWithin places rough
    kept =
        kept_rough (loans point.work.jobs) (rough_places point.work) places content rough
        (jobs_out point.work.jobs lent content rough disk.loans disk.out) (end_rough point entry number out job is runs) disk.settled

    by : (t : Task) → job.task ≡ t → IsEndedPart t out point.book.rows inner its →
        IsRoughWithin places (paths_of_both rough (paths_below (path_of_task t) its))
    by (task.Make path stamp) makes so =
        elim (end_make_rough point entry number out job path stamp is runs makes) [
          | inl made ↦
              let its_part : IsMadePart point.book.rows path stamp inner its =
              subst (λ (o : Outcome). IsEndedPart (task.Make path stamp) o point.book.rows inner its) made so in
              settled_rough places path its rough kept its_part.settled
          | inr most ↦ give_rough places path its rough kept most
        ]
    by (task.Wipe path) wipes so =
        elim (end_wipe_place point entry number out job path rules is runs wipes) [
          | inl wiped ↦
              let its_part : IsWipedPart path inner its =
              subst (λ (o : Outcome). IsEndedPart (task.Wipe path) o point.book.rows inner its) wiped so in
              settled_rough places path its rough kept its_part.settled
          | inr most ↦ give_rough places path its rough kept most.1
        ]

    back : (o : Option Lent) → job.lent ≡ o →
        IsRoughWithin places (with_rough_part o part (paths_of_both rough (paths_below (path_of_job job) its)))
    back None has = by job.task refl ended
    back (Some read) has =
        settled_rough places read.path part (paths_of_both rough (paths_below (path_of_job job) its)) (by job.task refl ended) (read_back read has).settled

-- ---- kept rows

pub unstored : (point : Point) (entry : Entry) (number : ℕ) (out : Outcome) (job : Job) → are_apart point.book.rows ≡ true →
    IsStored point.book.rows point.work.jobs point.kept → entry.event ≡ event.Done number out → running number point.work ≡ Some job →
    IsStored (not_stored point entry).book.rows (not_stored point entry).work.jobs (not_stored point entry).kept
unstored point entry number out job apart stored is runs =
    subst (λ (jobs : List Job). IsStored (after point entry).book.rows jobs point.kept) (sym (end_jobs point entry number out job is runs)) (record {
      order = dropped.order;
      once = dropped.once;
      stands = λ one row among also stands meet. by one row among stands meet (end_rows point entry number out job row apart is runs also);
      lent = dropped.lent;
    })
  where
    dropped : IsStored point.book.rows (filter (is_other_job number) point.work.jobs) point.kept
    dropped = stored_dropped point.book.rows point.work.jobs point.kept (is_other_job number) stored

    by : (one : KeptRow) (row : Row) → Contains point.kept one → row.stands ≡ true → overlap one.path row.path ≡ true → IsLeftBy point.book.rows job row →
        IsStoredOf one row.path row.tree
    by one row among stands meet was =
        elim was.stands [
          | inl stays ↦
              let of = stored.stands one was.old among was.among (sym stays ∙ stands)
              (subst (λ (p : List (List ℕ)). overlap one.path p ≡ true) was.same.path meet) in
              record { path = of.path ∙ sym was.same.path; tree = of.tree ∙ sym was.same.tree }
          | inr makes ↦
              absurd (both_ways (overlap one.path row.path)
              (subst (λ (t : Task). overlap one.path (path_of_task t) ≡ false) makes
              (stored_no_task point.book.rows point.work.jobs point.kept one job stored among (is_running number point.work.jobs job runs).among)) meet)
        ]

-- ---- all rules

-- what is known of the part that a job read, as kept rows ask for it
read_tree : (job : Job) (regions : Regions) (part : Paths) → ((read : Lent) → job.lent ≡ Some read → IsReadPart read (regions read.path) part) →
    HasLentTree job.lent regions
read_tree job regions part back = by job.lent refl
  where
    by : (o : Option Lent) → job.lent ≡ o → HasLentTree o regions
    by None has = tt
    by (Some read) has = (back read has).tree

read_settled : (job : Job) (regions : Regions) (part : Paths) → ((read : Lent) → job.lent ≡ Some read → IsReadPart read (regions read.path) part) →
    IsPartSettled job.lent part
read_settled job regions part back = by job.lent refl
  where
    by : (o : Option Lent) → job.lent ≡ o → IsPartSettled o part
    by None has = tt
    by (Some read) has = (back read has).settled

pub end_tied_disk : (spoken : ℕ → Bool) (point : Point) (entry : Entry) (number : ℕ) (out : Outcome) (job : Job) (lent : List (List (List ℕ)))
    (regions : Regions) (inner content : Part) (its part rough : Paths) → IsWork (next_number point) point.book.rows point.work →
    entry.event ≡ event.Done number out → running number point.work ≡ Some job → IsEndedPart job.task out point.book.rows inner its →
    IsReadBack spoken job regions part → IsTiedDisk spoken point lent content rough →
    IsTiedDisk spoken (after point entry) (given_back (loans_of job) lent) (with_job job inner regions content) (with_rough_job job its part rough)
end_tied_disk spoken point entry number out job lent regions inner content its part rough rules is runs ended back disk = record {
  loans =
      subst (λ (jobs : List Job). AreLoans jobs (given_back (loans_of job) lent)) (sym (end_jobs point entry number out job is runs))
      (end_loans (next_number point) number point.book.rows point.work job lent rules runs disk.loans);
  out =
      gives_out (next_number point) number point.book.rows point.work lent job regions inner content its part rough rules runs disk.loans disk.out;
  tied =
      end_gives_tied spoken point entry number out job lent regions inner content its part rough rules is runs disk.loans disk.out ended back disk.tied;
}

pub gives_disk : (spoken : ℕ → Bool) (point : Point) (entry : Entry) (number : ℕ) (out : Outcome) (job : Job) (lent : List (List (List ℕ)))
    (regions : Regions) (inner content : Part) (its part rough : Paths) → IsWork (next_number point) point.book.rows point.work →
    IsStored point.book.rows point.work.jobs point.kept → entry.event ≡ event.Done number out → running number point.work ≡ Some job →
    IsEndedPart job.task out point.book.rows inner its → IsReadSpoken spoken job → IsReadBack spoken job regions part →
    IsDisk spoken point lent content rough →
    IsDisk spoken (not_stored point entry) (given_back (loans_of job) lent) (with_job job inner regions content) (with_rough_job job its part rough)
gives_disk spoken point entry number out job lent regions inner content its part rough rules stored is runs ended said back disk = record {
  loans = tied.loans;
  out = tied.out;
  tied = tied.tied;
  covered = gives_nodes spoken point entry number out job lent regions inner content its rough rules is runs ended disk;
  settled = gives_rough spoken point entry number out job lent regions inner content its part rough rules is runs ended came disk;
  whole =
      gives_whole (next_number point) number point.book.rows point.work lent point.kept job regions inner content its part rough rules stored runs
      disk.loans disk.out (read_tree job regions part came) (read_settled job regions part came) disk.whole;
}
  where
    tied : IsTiedDisk spoken (after point entry) (given_back (loans_of job) lent) (with_job job inner regions content) (with_rough_job job its part rough)
    tied =
        end_tied_disk spoken point entry number out job lent regions inner content its part rough rules is runs ended back
        (tied_disk spoken point lent content rough disk)

    came : (read : Lent) → job.lent ≡ Some read → IsReadPart read (regions read.path) part
    came read has = back read has (said read has)

pub end_disk : (spoken : ℕ → Bool) (point : Point) (entry : Entry) (number : ℕ) (out : Outcome) (job : Job) (lent : List (List (List ℕ)))
    (regions : Regions) (inner content : Part) (its part rough : Paths) → IsWork (next_number point) point.book.rows point.work →
    IsStored point.book.rows point.work.jobs point.kept → IsReplied point entry → IsRecorded point entry → entry.event ≡ event.Done number out →
    running number point.work ≡ Some job → IsWork (next_number (after point entry)) (after point entry).book.rows (after point entry).work →
    ((row : Row) → Contains (after point entry).book.rows row → spoken row.stamp ≡ true) →
    IsEndedPart job.task out point.book.rows inner its → IsReadSpoken spoken job → IsReadBack spoken job regions part →
    IsDisk spoken point lent content rough →
    IsDisk spoken (after point entry) (given_back (loans_of job) lent) (with_job job inner regions content) (with_rough_job job its part rough)
end_disk spoken point entry number out job lent regions inner content its part rough rules stored replied recorded is runs later said ended read back disk =
    record {
      loans = given.loans;
      out = given.out;
      tied = given.tied;
      covered = given.covered;
      settled = given.settled;
      whole =
          entry_whole spoken point entry (given_back (loans_of job) lent) (with_job job inner regions content) (with_rough_job job its part rough)
          stored.order replied recorded later given.loans given.tied given.covered given.settled said given.whole;
    }
  where
    given : IsDisk spoken (not_stored point entry) (given_back (loans_of job) lent) (with_job job inner regions content)
        (with_rough_job job its part rough)
    given = gives_disk spoken point entry number out job lent regions inner content its part rough rules stored is runs ended read back disk
