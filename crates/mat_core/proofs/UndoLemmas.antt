-- A begin that is undone: the parts stand for their point still, and keep what is reserved.
use Rattle.std.proofs.Common.{◌≡◌, ℕ, true, false, not, cond, List, [], ◌∷◌, ◌++◌, filter, length, Contains, refl, sym, ap, subst, ◌∙◌, arith}
use Rattle.std.specs.List.{list_all}
use Rattle.std.specs.Vec.{vec_capacity}
use Rattle.std.proofs.lemmas.Bool.{and_parts, both_ways, eq-eqb, false_from_ne_true, ltb-true, ne_eqb, or_left}
use Rattle.mat_path.proofs.Elements.{each_fails}
use Rattle.mat_path.proofs.Overlaps.{overlap-refl}
use Rattle.mat_path.proofs.SameNames.{same_names-eq}
use Rattle.mat_path.specs.Names.{overlap, same_names}
use Rattle.mat_model.specs.declared.entries.Task.{Task}
use Rattle.mat_model.specs.declared.entries.Task.TheVariants as task
use Rattle.mat_model.specs.WorkState.{Job, has_loan, is_lent, path_of_task}
use Rattle.job_book.specs.Jobs.{jobs_of}
use Rattle.kept_book.specs.Marks.{put_path}
use Rattle.row_book.specs.Stocks.{rows_of}
use Rattle.job_book.specs.Numbers.{is_earlier, is_other}
use Rattle.job_book.specs.declared.running.Running.{Running}
use Rattle.mat_core.specs.Beginning.{HaveNoLessRoom, HaveOnlyRoom, HaveRoomFor, HaveSameBooks, with_place, without_place}
use Rattle.mat_core.specs.Begins.{IsStill}
use Rattle.mat_core.specs.Orders.{AreReady, IsReadyFor}
use Rattle.mat_core.specs.Rooms.{HasReserves, IsReservedFor, spent_in}
use Rattle.mat_core.specs.declared.parts.Parts.{Parts}
use Rattle.mat_core.proofs.BeginLemmas.{books_stand}
use Rattle.mat_core.proofs.PlaceLemmas.{reserved_less, reserved_more}

-- as much is spent where the books and the jobs are the same
same_spent : {D K : Type 0} (old new : Parts D K) → HaveSameBooks old new → new.jobs ≡ old.jobs → spent_in new ≡ spent_in old
same_spent {D} {K} old new same jobs =
    let entries : length new.history.items ≡ length old.history.items = ap length same.history in
    let running : length new.jobs ≡ length old.jobs = ap length jobs in
    let live : length new.gate.live ≡ length old.gate.live = ap (λ g. length g.live) same.gate in
    let waiting : length new.gate.waiting ≡ length old.gate.waiting = ap (λ g. length g.waiting) same.gate in
    omega (arith, entries, running, live, waiting)

-- what is reserved for the jobs stays where no place goes but one that no job's make has
reserves_left : {D K : Type 0} (old new : Parts D K) → HaveSameBooks old new → HaveNoLessRoom old new → new.jobs ≡ old.jobs →
    ((job : Job) → Contains (jobs_of old.jobs) job → IsReservedFor old.kept.reserved job.task → IsReservedFor new.kept.reserved job.task) →
    HasReserves old → HasReserves new
reserves_left {D} {K} old new same more jobs places had = record {
  history = let spent = same_spent old new same jobs in let room = more.history in let has = had.history in omega (arith, spent, room, has);
  debris =
      let running : length new.jobs ≡ length old.jobs = ap length jobs in
      let room = more.debris in let has = had.debris in omega (arith, running, room, has);
  places = λ job among. let there = subst (λ js. Contains (jobs_of js) job) jobs among in places job there (had.places job there);
}

-- what is ready to be stored stays so where rows and jobs are the same
pub ready_same : {D K : Type 0} (old new : Parts D K) → new.base ≡ old.base → rows_of new.rows ≡ rows_of old.rows → new.jobs ≡ old.jobs → AreReady old →
    AreReady new
ready_same old new base rows jobs ready running among =
    subst (λ b. IsReadyFor b.identity (rows_of new.rows) running.card.task running.kept) (sym base)
    (subst (λ rs. IsReadyFor old.base.identity rs running.card.task running.kept) (sym rows)
    (ready running (subst (λ js. Contains js running) jobs among)))

-- parts that only have more room are still
pub only_room : {D K : Type 0} (old new : Parts D K) → HaveOnlyRoom old new → HasReserves old → IsStill old new
only_room {D} {K} old new is had = record {
  same = record { base = is.same.base; lost = is.same.lost };
  history = is.same.history;
  stands = books_stand old new is.same is.jobs;
  reserves = reserves_left old new is.same is.more is.jobs (λ job among at. subst (λ ps. IsReservedFor ps job.task) (sym is.places) at) had;
  ready = ready_same old new is.same.base (ap rows_of is.same.rows) is.jobs;
}

-- the place of a job's kept row is still reserved, where another one's came and went whose path no loan overlaps
place_left : (begun other : Task) (jobs : List Job) (job : Job) (reserved : List (List (List ℕ))) → is_lent (path_of_task begun) jobs ≡ false → Contains jobs job →
    job.task ≡ other → IsReservedFor reserved other → IsReservedFor (without_place begun (with_place begun reserved)) other
place_left (task.Make path stamp) (task.Make at other) jobs job reserved free among same is =
    reserved_less path at (put_path path reserved) apart (reserved_more path at reserved is)
  where
    loanless : has_loan path job ≡ false
    loanless = each_fails (has_loan path) jobs job free among

    apart : same_names at path ≡ false
    apart = false_from_ne_true (same_names at path)
        (λ here. both_ways (has_loan path job) loanless
        (or_left (overlap (path_of_task job.task) path) _
        (subst (λ (t : Task). overlap (path_of_task t) path ≡ true) (sym same)
        (subst (λ (p : List (List ℕ)). overlap at p ≡ true) (same_names-eq at path here) (overlap-refl at)))))
place_left (task.Make path stamp) (task.Wipe at) jobs job reserved free among same is = tt
place_left (task.Wipe path) other jobs job reserved free among same is = is

-- parts whose begin was undone are still
pub undone_still : {D K : Type 0} (begun : Task) (old new : Parts D K) → HaveSameBooks old new → HaveNoLessRoom old new → new.jobs ≡ old.jobs →
    new.kept.reserved ≡ without_place begun (with_place begun old.kept.reserved) → is_lent (path_of_task begun) (jobs_of old.jobs) ≡ false →
    HasReserves old → IsStill old new
undone_still {D} {K} begun old new same more jobs places free had = record {
  same = record { base = same.base; lost = same.lost };
  history = same.history;
  stands = books_stand old new same jobs;
  reserves = reserves_left old new same more jobs
      (λ job among at. subst (λ ps. IsReservedFor ps job.task) (sym places)
      (place_left begun job.task (jobs_of old.jobs) job old.kept.reserved free among refl at)) had;
  ready = ready_same old new same.base (ap rows_of same.rows) jobs;
}

-- a job that was put behind the others is the one that goes again
pub last_goes : (number : ℕ) (jobs : List Running) (running : Running) → running.card.job ≡ number → list_all (is_earlier number) jobs ≡ true →
    filter (is_other number) (jobs ++ running ∷ []) ≡ jobs
last_goes number [] running here earlier = ap (λ b. cond (not b) (running ∷ []) []) (eq-eqb running.card.job number here)
last_goes number (one ∷ jobs) running here earlier =
    let parts = and_parts (is_earlier number one) (list_all (is_earlier number) jobs) earlier in
    let less = ltb-true one.card.job number parts.0 in
    ap (λ b. cond (not b) (one ∷ filter (is_other number) (jobs ++ running ∷ [])) (filter (is_other number) (jobs ++ running ∷ [])))
    (ne_eqb one.card.job number (λ same. omega (arith, less, same)))
    ∙ ap (λ (js : List Running). one ∷ js) (last_goes number jobs running here parts.1)

-- ---- a begin that was given up

-- the books of parts that went down and up again
pub again_books : {D K : Type 0} (begun : Task) (old roomy back : Parts D K) → HaveRoomFor begun old roomy → back.base ≡ roomy.base → back.first ≡ roomy.first →
    back.moment ≡ roomy.moment → back.gate ≡ roomy.gate → back.rows ≡ roomy.rows → back.holds ≡ roomy.holds → back.tickets ≡ roomy.tickets →
    back.debris ≡ roomy.debris → back.kept.marks ≡ roomy.kept.marks → back.nodes ≡ roomy.nodes → back.paths ≡ roomy.paths → back.lost ≡ roomy.lost →
    back.history ≡ roomy.history → HaveSameBooks old back × HaveNoLessRoom old back
again_books {D} {K} begun old roomy back room base first moment gate rows holds tickets debris kept nodes paths lost history = (
  record {
    base = base ∙ room.same.base;
    first = first ∙ room.same.first;
    moment = moment ∙ room.same.moment;
    gate = gate ∙ room.same.gate;
    rows = rows ∙ room.same.rows;
    holds = holds ∙ room.same.holds;
    tickets = tickets ∙ room.same.tickets;
    debris = ap (λ d. d.list) debris ∙ room.same.debris;
    kept = kept ∙ room.same.kept;
    nodes = nodes ∙ room.same.nodes;
    paths = paths ∙ room.same.paths;
    lost = lost ∙ room.same.lost;
    history = ap (λ h. h.items) history ∙ room.same.history;
  },
  record {
    history = let more = room.more.history in let same : vec_capacity back.history ≡ vec_capacity roomy.history = ap vec_capacity history in
        omega (arith, more, same);
    debris = let more = room.more.debris in let same : back.debris.spare ≡ roomy.debris.spare = ap (λ d. d.spare) debris in omega (arith, more, same);
  },
)
