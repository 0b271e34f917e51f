-- The trees of rows and of lent parts lie at paths, and what ways read does: each entry that asks at paths keeps that.
use Rattle.std.proofs.Common.{◌≡◌, ℕ, ◌<◌, ◌==◌, Bool, true, false, ◌&&◌, ◌⊎◌, inl, inr, List, [], ◌∷◌, ◌++◌, Option, Some, None, cond, refl, sym, ap, subst, ◌∙◌, map, find, drop, length, append_assoc, append-nil, Contains, arith}
use Rattle.std.specs.List.{filter, list_all, list_any}
use Rattle.std.specs.Option.{option_and_then, option_map, option_map_or}
use Rattle.std.proofs.lemmas.Bool.{and_from, and_parts, both_ways, eq-eqb, eqb-true, ne_eqb}
use Rattle.std.proofs.lemmas.List.Elements.{All-contains, Contains-append_cases}
use Rattle.mat_digest.specs.declared.digest.Digest.{Digest}
use Rattle.mat_path.specs.Names.{is_path}
use Rattle.mat_path.proofs.Elements.{contains_cases, filtered_contains, mapped_contains}
use Rattle.mat_path.proofs.PathLemmas.{prefix_split}
use Rattle.mat_path.proofs.SameNames.{same_names-eq}
use Rattle.mat_tree.specs.declared.flat.Flat.{Flat}
use Rattle.mat_tree.specs.Trees.{file_tree, is_below, is_placed, is_standing, seen_from, sub_at, sub_tree, what_at}
use Rattle.mat_model.specs.declared.answers.FaultNote.{FaultNote}
use Rattle.mat_model.specs.declared.answers.Recorded.{Recorded}
use Rattle.mat_model.specs.declared.answers.Reply.{Reply}
use Rattle.mat_model.specs.declared.answers.Reply.TheVariants as reply
use Rattle.mat_model.specs.declared.book.Book.{Book}
use Rattle.mat_model.specs.declared.book.Row.{Row}
use Rattle.mat_model.specs.declared.entries.Entry.{Entry}
use Rattle.mat_model.specs.declared.entries.Event.{Event}
use Rattle.mat_model.specs.declared.entries.Event.TheVariants as event
use Rattle.mat_model.specs.declared.entries.Outcome.{Outcome}
use Rattle.mat_model.specs.declared.entries.Outcome.TheVariants as outcome
use Rattle.mat_model.specs.declared.entries.Task.{Task}
use Rattle.mat_model.specs.declared.entries.Task.TheVariants as task
use Rattle.mat_model.specs.declared.opening.Opening.{Opening}
use Rattle.mat_model.specs.declared.requests.Asked.{Asked}
use Rattle.mat_model.specs.declared.requests.Asked.TheVariants as asked
use Rattle.mat_model.specs.Declarations.{declared_at, tree_at, written_tree}
use Rattle.mat_model.specs.Gate.{Served}
use Rattle.mat_model.specs.History.{Point, after, after_all, answer, answer_done, begin_with, book_of, is_keeper, is_store_fault, next_number, opened, point_of, recorded_as, refusal_note, request_context, work_after, work_begun}
use Rattle.mat_model.specs.Kept.{KeptRow, may_fail, overlaps_kept}
use Rattle.mat_model.specs.Legal.{IsAskable, IsEach, MayAsk, MayHappen}
use Rattle.mat_model.specs.Openings.{IsOpening, is_row_placed, kept_at_opening}
use Rattle.mat_model.specs.Requests.{at_moment}
use Rattle.mat_model.specs.Rows.{are_apart, cover, covers, is_at_path}
use Rattle.mat_model.specs.Work.{end_make, finish, is_declared}
use Rattle.mat_model.specs.WorkState.{Debris, Job, Lent, Way, WayOf, WorkState, cleans_all, condemned_all, copied, copied_from, ended, ended_work, has_stamp, held, is_cleaning, is_other_job, is_way_of, lent_by, lent_for, lent_of, made_work, path_of_task, put_debris, refused, returned, running, stands_as, started, store, way_declared, way_of, way_within, ways_after}
use Rattle.model_laws.specs.Laws.{declares}
use Rattle.model_laws.specs.KeptRules.{KeptAscend}
use Rattle.model_laws.specs.RowRules.{AreStampedBelow, IsDeclaredBy, RowStep, is_copy_placed, tree_declared}
use Rattle.model_laws.specs.WorkRules.{IsHeldPlain, IsPartPlaced, IsPlaced, IsPlain, IsReadAtPaths}
use Rattle.model_laws.proofs.ApartLemmas.{history_apart}
use Rattle.model_laws.proofs.Elements.{contains_all, found_contains, found_passes}
use Rattle.model_laws.proofs.KeptLemmas.{event_comes, history_ascends, opening_ascends}
use Rattle.model_laws.proofs.RowCases.{either_served, fault_note}
use Rattle.model_laws.proofs.RowLemmas.{row_step}
use Rattle.model_laws.proofs.StampLemmas.{entry_stamps, one_stamp, opening_stamps}
use Rattle.model_laws.proofs.WaysAsked.{WaysGo, asked_ways}

-- ---- trees

-- what is copied of a tree that lies at paths lies at paths below where it is copied from
below_placed : (path rest : List (List ℕ)) (tree : List Flat) → list_all (is_placed path) tree ≡ true → list_all (is_placed (path ++ rest)) (sub_tree tree rest) ≡ true
below_placed path rest [] all = refl
below_placed path rest (node ∷ tree) all =
    let parts = and_parts (is_placed path node) (list_all (is_placed path) tree) all in
    elim (is_below rest node) as
    (λ b. is_below rest node ≡ b →
    list_all (is_placed (path ++ rest)) (map (seen_from rest) (cond b (node ∷ filter (is_below rest) tree) (filter (is_below rest) tree))) ≡ true) [
      | true ↦ λ below.
          and_from (is_placed (path ++ rest) (seen_from rest node)) (list_all (is_placed (path ++ rest)) (sub_tree tree rest))
          (ap is_path (append_assoc path rest (drop (length rest) node.rel) ∙ ap (λ (l : List (List ℕ)). path ++ l) (sym (prefix_split rest node.rel below)))
          ∙ parts.0)
          (below_placed path rest tree parts.1)
      | false ↦ λ aside. below_placed path rest tree parts.1
    ] refl

sub_placed : (path rest : List (List ℕ)) (tree sub : List Flat) → list_all (is_placed path) tree ≡ true → sub_at tree rest ≡ Some sub →
    list_all (is_placed (path ++ rest)) sub ≡ true
sub_placed path rest tree sub all is =
    elim (is_standing (what_at tree rest)) as (λ b. cond b (Some (sub_tree tree rest)) None ≡ Some sub → list_all (is_placed (path ++ rest)) sub ≡ true) [
      | true ↦ λ found.
          let same : sub_tree tree rest ≡ sub = cc in
          subst (λ (t : List Flat). list_all (is_placed (path ++ rest)) t ≡ true) same (below_placed path rest tree all)
      | false ↦ λ none. absurd cc
    ] is

-- what is copied of a plain file is that file
sub_plain : (digest : Digest) (rest : List (List ℕ)) (sub : List Flat) → sub_at (file_tree digest false) rest ≡ Some sub → IsPlain sub
sub_plain digest [] sub is = let same : file_tree digest false ≡ sub = cc in (digest, sym same)
sub_plain digest (name ∷ rest) sub is = absurd cc

-- the tree of a plain file at a path is at that path
plain_placed : (path : List (List ℕ)) (digest : Digest) (exec : Bool) → is_path path ≡ true → list_all (is_placed path) (file_tree digest exec) ≡ true
plain_placed path digest exec is = and_from (is_path (path ++ [])) true (ap is_path (append-nil path) ∙ is) refl

-- ---- ways

-- the way of another stamp is what it was
other_way : (stamp other : ℕ) (way : Way) (ways : List WayOf) → (other ≡ stamp → ⊥) → way_of stamp (record { stamp = other; way = way } ∷ ways) ≡ way_of stamp ways
other_way stamp other way ways differ =
    let off : (other == stamp) ≡ false = ne_eqb other stamp differ in
    ap (λ (b : Bool). option_map_or way_within (cond b (Some (record { stamp = other; way = way })) (find (is_way_of stamp) ways)) store) off

this_way : (stamp : ℕ) (way : Way) (ways : List WayOf) → way_of stamp (record { stamp = stamp; way = way } ∷ ways) ≡ way
this_way stamp way ways =
    let on : (stamp == stamp) ≡ true = eq-eqb stamp stamp refl in
    ap (λ (b : Bool). option_map_or way_within (cond b (Some (record { stamp = stamp; way = way })) (find (is_way_of stamp) ways)) store) on

-- a way and a tree go together
abbrev Goes : Way → List Flat → Type 0
Goes way tree = IsHeldPlain way tree × IsReadAtPaths way tree

-- the way of a copied row goes with its tree, where that of its source does
copy_goes : (rows : List Row) (ways : List WayOf) (source : List (List ℕ)) (tree : List Flat) →
    ((row : Row) → Contains rows row → is_row_placed row ≡ true) → ((row : Row) → Contains rows row → IsHeldPlain (way_of row.stamp ways) row.tree) →
    declared_at rows source ≡ Some tree → Goes (option_map_or (copied_from source ways) (cover rows source) store) tree
copy_goes rows ways source tree reach plain is = by (cover rows source) refl is
  where
    by : (o : Option Row) → cover rows source ≡ o → option_and_then (tree_at source) o ≡ Some tree → Goes (option_map_or (copied_from source ways) o store) tree
    by None found has = absurd cc
    by (Some row) found has =
        let among = found_contains (covers source) rows row found in
        let rest : List (List ℕ) = drop (length row.path) source in (
          (λ holds.
              let (digest, file) = plain row among holds in
              sub_plain digest rest tree (subst (λ (t : List Flat). sub_at t rest ≡ Some tree) file has)),
          sub_placed row.path rest row.tree tree (reach row among) has,
        )

-- the way of a declared row goes with its tree
declared_goes : (request : Asked) (rows : List Row) (ways : List WayOf) (tree : List Flat) →
    ((row : Row) → Contains rows row → is_row_placed row ≡ true) → ((row : Row) → Contains rows row → IsHeldPlain (way_of row.stamp ways) row.tree) →
    tree_declared request rows ≡ Some tree → Goes (way_declared request rows ways) tree
declared_goes (asked.Enter command state soft refuse) rows ways tree reach plain is = absurd cc
declared_goes (asked.Leave command) rows ways tree reach plain is = absurd cc
declared_goes (asked.Write command path sum) rows ways tree reach plain is =
    let same : written_tree sum ≡ tree = cc in ((λ holds. (sum.digest, sym same)), tt)
declared_goes (asked.Declare command path declared) rows ways tree reach plain is = ((λ holds. absurd cc), tt)
declared_goes (asked.Copy command path source) rows ways tree reach plain is = copy_goes rows ways source tree reach plain is
declared_goes (asked.Matches command path sum) rows ways tree reach plain is = absurd cc
declared_goes (asked.Has command path) rows ways tree reach plain is = absurd cc
declared_goes (asked.Ensure command path) rows ways tree reach plain is = absurd cc
declared_goes (asked.Invalidate command path) rows ways tree reach plain is = absurd cc
declared_goes (asked.Clean cutoff mode) rows ways tree reach plain is = absurd cc
declared_goes asked.Flush rows ways tree reach plain is = absurd cc

-- the tree of a declared row lies at paths
declared_placed : (request : Asked) (rows : List Row) (path : List (List ℕ)) (tree : List Flat) → MayAsk request →
    declares request ≡ Some path → tree_declared request rows ≡ Some tree → is_copy_placed request tree ≡ true → list_all (is_placed path) tree ≡ true
declared_placed (asked.Enter command state soft refuse) rows path tree may is has short = absurd cc
declared_placed (asked.Leave command) rows path tree may is has short = absurd cc
declared_placed (asked.Write command place sum) rows path tree may is has short =
    let same : written_tree sum ≡ tree = cc in
    let here : place ≡ path = cc in
    subst (λ (t : List Flat). list_all (is_placed path) t ≡ true) same
    (plain_placed path sum.digest false (subst (λ (p : List (List ℕ)). is_path p ≡ true) here may.placed))
declared_placed (asked.Declare command place declared) rows path tree may is has short =
    let same : declared ≡ tree = cc in
    let here : place ≡ path = cc in
    subst (λ (t : List Flat). list_all (is_placed path) t ≡ true) same
    (subst (λ (p : List (List ℕ)). list_all (is_placed p) declared ≡ true) here may.placed)
declared_placed (asked.Copy command place source) rows path tree may is has short =
    let here : place ≡ path = cc in subst (λ (p : List (List ℕ)). list_all (is_placed p) tree ≡ true) here short
declared_placed (asked.Matches command place sum) rows path tree may is has short = absurd cc
declared_placed (asked.Has command place) rows path tree may is has short = absurd cc
declared_placed (asked.Ensure command place) rows path tree may is has short = absurd cc
declared_placed (asked.Invalidate command place) rows path tree may is has short = absurd cc
declared_placed (asked.Clean cutoff mode) rows path tree may is has short = absurd cc
declared_placed asked.Flush rows path tree may is has short = absurd cc

-- ---- what an entry leaves of ways and of jobs

-- the end of a task leaves all but marks and debris
pub task_leaves : (Q : WorkState → Type 0) (number : ℕ) (begun : Task) (out : Outcome) (how : Recorded) (book : Book) (work : WorkState) →
    ((dirty : List (List (List ℕ))) (debris : List Debris) → Q (record work { dirty = dirty; debris = debris })) →
    Q (ended_work begun out (finish number begun out how book).reply work)
task_leaves Q number (task.Make path stamp) out how book work each = by (find (is_declared path stamp) book.rows) out
  where
    by : (o : Option Row) (end : Outcome) → Q (made_work path end (end_make number path end how book o).reply work)
    by None end = each work.dirty _
    by (Some row) outcome.Made = each work.dirty work.debris
    by (Some row) outcome.Wiped = each _ work.debris
    by (Some row) (outcome.Missing digest) = each _ work.debris
    by (Some row) (outcome.Corrupt wanted found) = each _ work.debris
    by (Some row) (outcome.Fault note) = each _ work.debris
    by (Some row) outcome.NoMemory = each _ work.debris
task_leaves Q number (task.Wipe path) outcome.Wiped how book work each = each work.dirty _
task_leaves Q number (task.Wipe path) outcome.Made how book work each = each work.dirty _
task_leaves Q number (task.Wipe path) (outcome.Missing digest) how book work each = each work.dirty _
task_leaves Q number (task.Wipe path) (outcome.Corrupt wanted found) how book work each = each work.dirty _
task_leaves Q number (task.Wipe path) (outcome.Fault note) how book work each = each work.dirty _
task_leaves Q number (task.Wipe path) outcome.NoMemory how book work each = each work.dirty _

-- and so does the return of a part
pub part_leaves : (Q : WorkState → Type 0) (o : Option Lent) (rows : List Row) (work : WorkState) → Q work → ((debris : List Debris) → Q (record work { debris = debris })) →
    Q (returned o rows work)
part_leaves Q None rows work same each = same
part_leaves Q (Some lent) rows work same each =
    elim (list_any (has_stamp lent.stamp) rows) as
    (λ b. Q (cond b work (record work { debris = put_debris (record { path = lent.path; condemned = list_any (λ (stamp : ℕ). stamp == lent.stamp) work.cleaned }) work.debris })))
    [ true ↦ same | false ↦ each _ ]

-- what an entry leaves of ways and of jobs: a request may give a way, and a job that began reads what the way of its row tells
abbrev JobsGo : List Row → WorkState → List Job → Type 0
JobsGo rows work jobs = (job : Job) → Contains jobs job → Contains work.jobs job ⊎ ((begun : Task) × (job.lent ≡ lent_for begun rows work.ways))

abbrev WorkGoes : Point → Event → WorkState → Type 0
WorkGoes point what left =
    JobsGo point.book.rows point.work left.jobs
    × ((left.ways ≡ point.work.ways)
    ⊎ ((request : Asked) × (what ≡ event.Asked request) × WaysGo (next_number point) request point.book.rows point.work.ways left.ways))

begun_goes : (point : Point) (caller : ℕ) (begun : Task) →
    WorkGoes point (event.Begin begun) (started (next_number point) caller begun point.book.rows point.work)
begun_goes point caller (task.Make path stamp) = (
  (λ job among. elim (Contains-append_cases point.work.jobs _ job among) [
    | inl before ↦ inl before
    | inr last ↦ elim (contains_cases _ [] job last) [
      | inl same ↦ inr (task.Make path stamp, sym (ap (λ (j : Job). j.lent) same))
      | inr (k, within, at) ↦ absurd (omega arith)
    ]
  ]),
  inl refl,
)
begun_goes point caller (task.Wipe path) = (
  (λ job among. elim (Contains-append_cases point.work.jobs _ job among) [
    | inl before ↦ inl before
    | inr last ↦ elim (contains_cases _ [] job last) [
      | inl same ↦ inr (task.Wipe path, sym (ap (λ (j : Job). j.lent) same))
      | inr (k, within, at) ↦ absurd (omega arith)
    ]
  ]),
  inl refl,
)

refused_goes : (point : Point) (begun : Task) → WorkGoes point (event.Begin begun) (refused begun point.work)
refused_goes point (task.Make path stamp) = ((λ job among. inl among), inl refl)
refused_goes point (task.Wipe path) = ((λ job among. inl among), inl refl)

event_goes : (point : Point) (caller moment : ℕ) (what : Event) (said : Reply) → WorkGoes point what (work_after point caller what (answer point moment what said))
event_goes point caller moment (event.Asked request) said =
    let served : Served = answer point moment (event.Asked request) said in (
      jobs (cleans_all request && is_cleaning served.reply),
      inr (
        request,
        refl,
        either_served (λ (s : Served). WaysGo (next_number point) request point.book.rows point.work.ways (ways_after request s.reply point.book.rows point.work.ways))
            (may_fail request point.book point.kept && is_store_fault said) _ _
            (λ failed.
            let parts = and_parts (may_fail request point.book point.kept) (is_store_fault said) failed in
            let (note, is) = fault_note said parts.1 in
            inl (ap (λ (r : Reply). ways_after request r point.book.rows point.work.ways) is))
            (λ calm. asked_ways (next_number point) (request_context point) request (at_moment moment point.book) point.work.ways),
      ),
    )
  where
    jobs : (b : Bool) → JobsGo point.book.rows point.work (cond b (condemned_all point.work) point.work).jobs
    jobs true = λ job among. inl among
    jobs false = λ job among. inl among
event_goes point caller moment (event.Begin begun) said = by (refusal_note said)
  where
    by : (o : Option FaultNote) → WorkGoes point (event.Begin begun) (work_begun point caller begun (refusal_note (begin_with point begun o).reply))
    by None = begun_goes point caller begun
    by (Some note) =
        either_served (λ (s : Served). WorkGoes point (event.Begin begun) (work_begun point caller begun (refusal_note s.reply)))
        (is_keeper note.device && list_any (overlaps_kept (path_of_task begun)) point.kept) _ _
        (λ failed. refused_goes point begun) (λ calm. begun_goes point caller begun)
event_goes point caller moment (event.Done number out) said = by (running number point.work)
  where
    by : (o : Option Job) →
        WorkGoes point (event.Done number out)
        (ended number out (answer_done point out said o).reply (answer_done point out said o).book.rows point.work o)
    by None = ((λ job among. inl among), inl refl)
    by (Some job) =
        let others : WorkState = record point.work { jobs = filter (is_other_job number) point.work.jobs } in
        let left : (dirty : List (List (List ℕ))) (debris : List Debris) → WorkGoes point (event.Done number out) (record others { dirty = dirty; debris = debris }) =
        λ dirty debris. ((λ other among. inl (filtered_contains (is_other_job number) point.work.jobs other among).0), inl refl) in
        task_leaves (λ (w : WorkState). WorkGoes point (event.Done number out) (returned job.lent (answer_done point out said (Some job)).book.rows w))
        (next_number point) job.task out (recorded_as said) point.book others
        (λ dirty debris.
        part_leaves (WorkGoes point (event.Done number out)) job.lent (answer_done point out said (Some job)).book.rows (record others { dirty = dirty; debris = debris })
        (left dirty debris) (λ more. left dirty more))

-- ---- an entry

-- a part that a task would read lies at paths
part_placed : (rows : List Row) (way : Way) → ((row : Row) → Contains rows row → is_row_placed row ≡ true) → IsPartPlaced (lent_by way rows)
part_placed rows held reach = tt
part_placed rows store reach = tt
part_placed rows (copied source rest stamp holds) reach = by (find (stands_as source stamp) rows) refl
  where
    by : (o : Option Row) → find (stands_as source stamp) rows ≡ o → IsPartPlaced (option_map (lent_of source stamp) o)
    by None found = tt
    by (Some row) found =
        let parts = and_parts (is_declared source stamp row) row.stands (found_passes (stands_as source stamp) rows row found) in
        let here = same_names-eq row.path source (and_parts (is_at_path source row) (row.stamp == stamp) parts.0).0 in
        subst (λ (p : List (List ℕ)). list_all (is_placed p) row.tree ≡ true) here (reach row (found_contains (stands_as source stamp) rows row found))

task_placed : (rows : List Row) (ways : List WayOf) (begun : Task) → ((row : Row) → Contains rows row → is_row_placed row ≡ true) → IsPartPlaced (lent_for begun rows ways)
task_placed rows ways (task.Make path stamp) reach = part_placed rows (way_of stamp ways) reach
task_placed rows ways (task.Wipe path) reach = tt

-- a row that was there has a way that goes with its tree
old_goes : (point : Point) (what : Event) (left : WorkState) (old : Row) → AreStampedBelow (next_number point) point.book.rows →
    IsPlaced point.book.rows point.work point.kept → Contains point.book.rows old → WorkGoes point what left → Goes (way_of old.stamp left.ways) old.tree
old_goes point what left old stamped placed among (jobs, goes) =
    elim goes [
      | inl same ↦ subst (λ (ws : List WayOf). Goes (way_of old.stamp ws) old.tree) (sym same) before
      | inr (request, is, inl same) ↦ subst (λ (ws : List WayOf). Goes (way_of old.stamp ws) old.tree) (sym same) before
      | inr (request, is, inr (inl new)) ↦
          let less = All-contains (λ (r : Row). r.stamp < next_number point) point.book.rows old stamped.below among in
          subst (λ (ws : List WayOf). Goes (way_of old.stamp ws) old.tree) (sym new)
          (subst (λ (w : Way). Goes w old.tree)
          (sym (other_way old.stamp (next_number point) (way_declared request point.book.rows point.work.ways) point.work.ways (λ at. omega (arith, less, at)))) before)
      | inr (request, is, inr (inr (row, within, plain, kept))) ↦
          subst (λ (ws : List WayOf). Goes (way_of old.stamp ws) old.tree) (sym kept) (by row within plain (row.stamp == old.stamp) refl)
    ]
  where
    before : Goes (way_of old.stamp point.work.ways) old.tree
    before = (placed.held old among, placed.copied old among)

    by : (row : Row) → Contains point.book.rows row → IsPlain row.tree → (b : Bool) → (row.stamp == old.stamp) ≡ b →
        Goes (way_of old.stamp (record { stamp = row.stamp; way = held } ∷ point.work.ways)) old.tree
    by row within plain true is =
        let stamp : row.stamp ≡ old.stamp = eqb-true row.stamp old.stamp is in
        let same : row ≡ old = one_stamp point.book.rows row old stamped.differ within among stamp in
        subst (λ (w : Way). Goes w old.tree)
        (sym (this_way old.stamp held point.work.ways) ∙ ap (λ (n : ℕ). way_of old.stamp (record { stamp = n; way = held } ∷ point.work.ways)) (sym stamp))
        ((λ holds. subst (λ (r : Row). IsPlain r.tree) same plain), tt)
    by row within plain false is =
        subst (λ (w : Way). Goes w old.tree)
        (sym (other_way old.stamp row.stamp held point.work.ways (λ at. both_ways (row.stamp == old.stamp) is (eq-eqb row.stamp old.stamp at)))) before

-- a row that an entry declared has a way that goes with its tree
new_goes : (point : Point) (entry : Entry) (row : Row) → IsPlaced point.book.rows point.work point.kept →
    IsDeclaredBy point entry.event (answer point entry.now entry.event entry.reply).reply row → Goes (way_of row.stamp (after point entry).work.ways) row.tree
new_goes point entry row placed new =
    let ways : (after point entry).work.ways ≡ ways_after new.request (reply.Declared (next_number point)) point.book.rows point.work.ways =
    by entry.event new.asks (answer point entry.now entry.event entry.reply) new.said in
    subst (λ (ws : List WayOf). Goes (way_of row.stamp ws) row.tree) (sym ways)
    (subst (λ (n : ℕ). Goes (way_of n (ways_after new.request (reply.Declared (next_number point)) point.book.rows point.work.ways)) row.tree) (sym new.stamp)
    (subst (λ (w : Way). Goes w row.tree) (sym (this_way (next_number point) (way_declared new.request point.book.rows point.work.ways) point.work.ways))
    (declared_goes new.request point.book.rows point.work.ways row.tree placed.reach placed.held new.tree)))
  where
    by : (what : Event) → what ≡ event.Asked new.request → (served : Served) → served.reply ≡ reply.Declared (next_number point) →
        (work_after point entry.by.caller what served).ways ≡ ways_after new.request (reply.Declared (next_number point)) point.book.rows point.work.ways
    by what is served said =
        subst (λ (e : Event). (work_after point entry.by.caller e served).ways ≡ ways_after new.request (reply.Declared (next_number point)) point.book.rows point.work.ways)
        (sym is) (ap (λ (r : Reply). ways_after new.request r point.book.rows point.work.ways) said)

-- an entry keeps trees and ways at paths
pub entry_placed : (point : Point) (entry : Entry) → are_apart point.book.rows ≡ true → AreStampedBelow (next_number point) point.book.rows → KeptAscend point.kept →
    IsAskable point entry → IsPlaced point.book.rows point.work point.kept → IsPlaced (after point entry).book.rows (after point entry).work (after point entry).kept
entry_placed point entry apart stamped up may placed = record {
  reach = λ row among. reaches row (row_step point entry row apart among);
  lent = λ job among.
      elim (goes.0 job among) [
        | inl before ↦ placed.lent job before
        | inr (begun, is) ↦ subst IsPartPlaced (sym is) (task_placed point.book.rows point.work.ways begun placed.reach)
      ];
  stored = λ one among.
      elim (event_comes point entry.now entry.event entry.reply one up among) [
        | inl (before, alone) ↦ placed.stored one before
        | inr new ↦
            subst (λ (k : KeptRow). list_all (is_placed k.path) k.tree ≡ true) new.same (reaches new.row (row_step point entry new.row apart new.among))
      ];
  held = λ row among. (both row (row_step point entry row apart among)).0;
  copied = λ row among. (both row (row_step point entry row apart among)).1;
}
  where
    goes : WorkGoes point entry.event (after point entry).work
    goes = event_goes point entry.by.caller entry.now entry.event entry.reply

    reaches : (row : Row) → RowStep point entry row → is_row_placed row ≡ true
    reaches row (inl new) =
        declared_placed new.request point.book.rows row.path row.tree (subst MayHappen new.asks may) new.path new.tree new.placed
    reaches row (inr was) =
        subst (λ (p : List (List ℕ)). list_all (is_placed p) row.tree ≡ true) (sym was.same.path)
        (subst (λ (t : List Flat). list_all (is_placed was.old.path) t ≡ true) (sym was.same.tree) (placed.reach was.old was.among))

    both : (row : Row) → RowStep point entry row → Goes (way_of row.stamp (after point entry).work.ways) row.tree
    both row (inl new) = new_goes point entry row placed new
    both row (inr was) =
        subst (λ (n : ℕ). Goes (way_of n (after point entry).work.ways) row.tree) (sym was.same.stamp)
        (subst (λ (t : List Flat). Goes (way_of was.old.stamp (after point entry).work.ways) t) (sym was.same.tree)
        (old_goes point entry.event (after point entry).work was.old stamped placed was.among goes))

-- a history keeps them
pub history_placed : (point : Point) (later : List Entry) → are_apart point.book.rows ≡ true → AreStampedBelow (next_number point) point.book.rows → KeptAscend point.kept →
    IsEach IsAskable point later → IsPlaced point.book.rows point.work point.kept → IsPlaced (after_all point later).book.rows (after_all point later).work (after_all point later).kept
history_placed point [] apart stamped up each placed = placed
history_placed point (entry ∷ later) apart stamped up each placed =
    history_placed (after point entry) later (history_apart point (entry ∷ []) apart) (entry_stamps point entry apart stamped)
    (history_ascends point (entry ∷ []) up) each.1
    (entry_placed point entry apart stamped up each.0 placed)

-- and an opening that is right has them so
pub opening_placed : (opening : Opening) → IsOpening opening → IsPlaced (opened opening).book.rows (opened opening).work (opened opening).kept
opening_placed opening right = record {
  reach = λ row among. contains_all is_row_placed opening.rows row right.placed among;
  lent = λ job among. absurd (none among);
  stored = λ one among.
      let (row, within, is) = mapped_contains (kept_at_opening opening) opening.rows one among in
      subst (λ (k : KeptRow). list_all (is_placed k.path) k.tree ≡ true) is (contains_all is_row_placed opening.rows row right.placed within);
  held = λ row among holds. absurd cc;
  copied = λ row among. tt;
}
  where
    none : {Y : Type 0} {y : Y} → Contains [] y → ⊥
    none (k, within, at) = omega arith

pub opened_placed : (opening : Opening) (history : List Entry) → IsOpening opening → IsEach IsAskable (opened opening) history →
    IsPlaced (book_of opening history).rows (point_of opening history).work (point_of opening history).kept
opened_placed opening history right each =
    history_placed (opened opening) history right.apart (opening_stamps opening [] right) (opening_ascends opening [] right) each (opening_placed opening right)
