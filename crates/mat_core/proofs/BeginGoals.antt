-- A begin with the task that comes first, step by step.
use Rattle.std.proofs.Common.{◌≡◌, ◌≤◌, ◌+◌, ℕ, nat_lt, Bool, true, false, ◌||◌, cond, List, [], ◌∷◌, ◌++◌, map, filter, find, length, count_by, Contains, ◌⊎◌, Option, Some, None, inl, inr, refl, sym, ap, subst, ◌∙◌, arith}
use Rattle.std.specs.List.{list_all, list_any}
use Rattle.std.specs.Option.{is_some, option_map}
use Rattle.std.specs.Vec.{vec_capacity}
use Rattle.std.proofs.lemmas.List.{length-append, map-append}
use Rattle.std.proofs.lemmas.List.Elements.{Contains-append_cases}
use Rattle.hall_lock.specs.declared.By.{By}
use Rattle.std.proofs.lemmas.Bool.{both_ways}
use Rattle.mat_path.proofs.Elements.{contains_cases}
use Rattle.mat_path.specs.Names.{overlap}
use Rattle.mat_tree.specs.Trees.{is_placed}
use Rattle.mat_tree.specs.declared.flat.Flat.{Flat}
use Rattle.mat_model.specs.declared.answers.Device.TheVariants as device
use Rattle.mat_model.specs.declared.answers.FaultNote.{FaultNote}
use Rattle.mat_model.specs.declared.answers.Reply.TheVariants as reply
use Rattle.mat_model.specs.declared.book.Book.{Book}
use Rattle.mat_model.specs.declared.book.Row.{Row}
use Rattle.mat_model.specs.declared.entries.Task.{Task}
use Rattle.mat_model.specs.declared.entries.Task.TheVariants as task
use Rattle.mat_model.specs.History.{Point, next_number}
use Rattle.mat_model.specs.Kept.{KeptRow, overlaps_kept}
use Rattle.mat_model.specs.Room.{is_alone}
use Rattle.mat_model.specs.Work.{is_declared}
use Rattle.mat_model.specs.WorkState.{Job, Lent, first_task, is_lent, path_of_task}
use Rattle.model_laws.specs.PointRules.{IsPoint}
use Rattle.model_laws.proofs.Makes.{apart_declared}
use Rattle.model_laws.proofs.StampLemmas.{one_stamp}
use Rattle.region_port.specs.declared.port.Disk.{Ghosts as DiskGhosts}
use Rattle.region_port.specs.declared.port.Region.{Ghosts as RegionGhosts}
use Rattle.region_port.specs.declared.states.ReadLoan.{ReadLoan}
use Rattle.core_laws.specs.Loans.{AreLoans}
use Rattle.write_plan.specs.Plans.{plan_of}
use Rattle.write_plan.specs.declared.method.Method.{Method}
use Rattle.job_run.specs.Asking.{asks_of}
use Rattle.job_run.specs.Courses.{make_course}
use Rattle.job_run.specs.Done.{is_make}
use Rattle.job_run.specs.Orders.{is_right}
use Rattle.job_run.specs.Views.{Seen}
use Rattle.job_book.specs.Jobs.{job_of, jobs_of}
use Rattle.job_book.specs.declared.running.Running.{Running}
use Rattle.kept_book.specs.Marks.{Marks, mark_of, overlaps_mark, path_of_mark}
use Rattle.job_book.specs.Numbers.{is_earlier, is_other}
use Rattle.row_book.specs.Stocks.{rows_of}
use Rattle.row_book.specs.declared.stock.Stock.{Stock}
use Rattle.core_devices.specs.declared.taking.Source.{Source}
use Rattle.core_devices.specs.Events.{read_at}
use Rattle.core_devices.specs.Takes.{AreTaken, WereTaken, source_path}
use Rattle.core_devices.specs.Removals.{HasRemoved, IsStoreCall, after_removal, are_some}
use Rattle.core_devices.specs.declared.removing.Removal.{Removal}
use Rattle.core_devices.specs.declared.removing.Removal.TheVariants as removal
use Rattle.core_devices.specs.Told.{ToldStore, told_disk, told_part}
use Rattle.keep_port.specs.declared.row.RawRow.{RawRow}
use Rattle.mat_core.specs.Beginning.{HaveNoLessRoom, HaveRoomFor, HaveSameBooks, IsBegunEntered, IsRefusedEntered, begin_entry, has_no_row, with_place, without_place}
use Rattle.mat_core.specs.Begins.{AreStampsGone, DoesTask, HasJustBegun, IsEntered, IsKeptStill, IsLentFor, IsStill}
use Rattle.mat_core.specs.Calls.{MayWant}
use Rattle.mat_core.specs.Books.{StandFor}
use Rattle.mat_core.specs.Orders.{AreBytesOf, AreReady, IsAimed, IsAimedAt, IsOrder, IsReadyFor, IsWiping, card_for, gone_for}
use Rattle.mat_core.specs.PutDown.{IsFreeFor, IsJobFor, IsOutFor, IsPutDown, IsReadFor, IsWorkable, MayMake, aim_asks, aim_course, aim_tree, lent_from, told_read}
use Rattle.mat_core.specs.Rooms.{HasReserves, IsReservedFor, spent_in}
use Rattle.mat_core.specs.declared.begun.Out.{Out}
use Rattle.mat_core.specs.declared.parts.Parts.{Parts}
use Rattle.mat_core.specs.declared.preparing.Aim.{Aim}
use Rattle.mat_core.specs.declared.preparing.Aim.TheVariants as aim
use Rattle.mat_core.specs.declared.preparing.Order.{Order}
use Rattle.mat_core.proofs.BeginLemmas.{IsBegunBooks, IsJobStarted, alone_left, begun_books, begun_stands, rows_unmarked}
use Rattle.mat_core.proofs.OrderLemmas.{first_stock, order_free, order_reads}
use Rattle.mat_core.proofs.PlaceLemmas.{reserved_more, reserved_put}
use Rattle.mat_core.proofs.RefuseLemmas.{refused_served, refused_stands}
use Rattle.mat_core.proofs.UndoLemmas.{again_books, last_goes, ready_same, undone_still}
use Rattle.mat_core.proofs.StoreCalls.{wanted_call}

-- the number of the next entry, by the parts that stand for a point
pub number_is : {D K : Type 0} (parts : Parts D K) (point : Point) → StandFor parts point → parts.first + length parts.history.items ≡ next_number point
number_is parts point stands =
    ap (λ (b : Book). b.first + length parts.history.items) stands.book ∙ ap (λ h. point.book.first + length h) stands.history

-- the kept rows that go and have no row at their path are counted among the paths
pub alone_fits : {D K : Type 0} (parts : Parts D K) (point : Point) (begun : Task) → StandFor parts point →
    count_by (has_no_row parts.rows) (gone_for parts begun) ≤ parts.paths
alone_fits parts point begun stands =
    let whole = stands.paths in
    let gone_same : count_by (has_no_row parts.rows) (gone_for parts begun)
    ≡ count_by (has_no_row parts.rows) (map path_of_mark (filter (overlaps_mark (path_of_task begun)) (map mark_of point.kept))) =
    ap (λ ms. count_by (has_no_row parts.rows) (map path_of_mark (filter (overlaps_mark (path_of_task begun)) ms))) stands.kept in
    let split = alone_left (path_of_task begun) parts.rows point.kept in
    let all : length (filter (is_alone (rows_of parts.rows)) point.kept) ≡ length (filter (is_alone point.book.rows) point.kept) =
    ap (λ (b : Book). length (filter (is_alone b.rows) point.kept)) stands.book in
    omega (arith, whole, gone_same, split, all)

-- ---- what is out

-- a part that is read is there where one was to be read
read_some : {R : Type 0} (source : Option Source) (read : Option (ReadLoan R)) → IsReadFor source read → is_some read ≡ is_some source
read_some None None is = refl
read_some None (Some read) is = absurd is
read_some (Some source) None is = absurd is
read_some (Some source) (Some read) is = refl

read_none : {R : Type 0} (source : Option Source) (read : Option (ReadLoan R)) → source ≡ None → IsReadFor source read → read ≡ None
read_none None None none is = refl
read_none None (Some read) none is = absurd is
read_none (Some source) read none is = absurd cc

-- it is lent for the part of the model
read_for : {R : Type 0} (source : Option Source) (read : Option (ReadLoan R)) (part : Option Lent) → option_map lent_from source ≡ part → IsReadFor source read →
    IsLentFor part read
read_for None None None same is = tt
read_for None None (Some part) same is = absurd cc
read_for None (Some read) part same is = absurd is
read_for (Some source) None part same is = absurd is
read_for (Some source) (Some read) None same is = absurd cc
read_for (Some source) (Some read) (Some part) same is = let e : lent_from source ≡ part = cc in is ∙ ap (λ (l : Lent). l.tree) e

paths_same : (source : Option Source) → option_map source_path source ≡ option_map (λ (lent : Lent). lent.path) (option_map lent_from source)
paths_same None = refl
paths_same (Some source) = refl

-- a tree that is made at a stock's path by its method can be made there
aim_makes : {R : Type 0} (place : List (List ℕ)) (m : Bool) (read : Option (ReadLoan R)) (stock : Stock) (lent : Bool) (a : Aim) → m ≡ true →
    list_all (is_placed place) stock.row.tree ≡ true → list_all (is_right stock.method) stock.row.tree ≡ true → is_some read ≡ lent → IsAimedAt stock lent a →
    MayMake place m read a
aim_makes place m read stock lent aim.Nothing make placed right same is = absurd is
aim_makes place m read stock lent (aim.Tree tree way acts) make placed right same (its, by, plan) = (
  make,
  subst (λ (t : List Flat). list_all (is_placed place) t ≡ true) (sym its) placed,
  subst (λ (t : List Flat). list_all (is_right way) t ≡ true) (sym its) (subst (λ (w : Method). list_all (is_right w) stock.row.tree ≡ true) (sym by) right),
  plan ∙ ap (λ b. plan_of stock.row.tree stock.method b) (sym same)
      ∙ ap (λ (w : Method). plan_of stock.row.tree w (is_some read)) (sym by) ∙ ap (λ (t : List Flat). plan_of t way (is_some read)) (sym its),
)

-- what it makes, by the row
pub record IsAimOf (stock : Stock) (lent : Bool) (a : Aim) : Type 0 where
  pub tree : aim_tree a ≡ Some stock.row.tree
  pub asks : aim_asks a ≡ asks_of stock.method stock.row.tree
  pub course : aim_course a lent ≡ make_course stock.row.tree stock.method lent

aim_of : (stock : Stock) (lent : Bool) (a : Aim) → IsAimedAt stock lent a → IsAimOf stock lent a
aim_of stock lent aim.Nothing is = absurd is
aim_of stock lent (aim.Tree tree way acts) (its, by, plan) = record {
  tree = ap (λ (t : List Flat). Some t) its;
  asks = ap (λ (w : Method). asks_of w tree) by ∙ ap (asks_of stock.method) its;
  course = ap (λ (w : Method). make_course tree w lent) by ∙ ap (λ (t : List Flat). make_course t stock.method lent) its;
}

module _ {D K R : Type 0} (gd : DiskGhosts D R) (gr : RegionGhosts R) (by : By) (begun : Task) (order : Order) (old roomy : Parts D K) (point : Point)
    (stands : StandFor old point) (rules : IsPoint point) (first : first_task point.work point.book ≡ Some begun)
    (ordered : IsOrder old (next_number point) begun order) (loans : AreLoans (jobs_of old.jobs) (gd.lent old.disk)) (room : HaveRoomFor begun old roomy) where
  -- its job may be put down
  pub free_down : IsFreeFor roomy.jobs (gd.lent roomy.disk) begun order
  free_down =
      subst (λ js. IsFreeFor js (gd.lent roomy.disk) begun order) (sym room.jobs)
      (subst (λ d. IsFreeFor old.jobs (gd.lent d) begun order) (sym room.disk)
      (order_free old point (gd.lent old.disk) (next_number point) begun order stands rules first ordered refl loans))

  module _ (down : Parts D K) (out : Out R) (put : IsPutDown by.caller order roomy down) (outs : IsOutFor order out)
      (taken : AreTaken (path_of_task begun) (option_map source_path order.source) (told_disk gd roomy.disk) (told_disk gd down.disk)
      (told_part gr out.region) (option_map (told_read gr) out.read)) where
    -- its parts are as they were taken
    abbrev pub were_taken : WereTaken (told_disk gd down.disk) (told_part gr out.region) (option_map (told_read gr) out.read)
    were_taken = record {
      before = told_disk gd roomy.disk;
      path = path_of_task begun;
      source = option_map source_path order.source;
      free = free_down.its;
      apart = free_down.read;
      taken = taken;
    }

    own_is : out.own ≡ card_for (next_number point) begun
    own_is = outs.own ∙ ordered.cards.own

    makes : (what : Task) → begun ≡ what → MayMake (path_of_task what) (is_make what) out.read out.aim
    makes (task.Make path stamp) same =
        let stock = first_stock old point path stamp stands rules (first ∙ ap (λ t. Some t) same) in
        let making = subst (λ t. IsAimed old t order) same ordered.aims stock.stock stock.found in
        aim_makes path true out.read stock.stock (is_some order.source) out.aim refl
        (subst (λ (p : List (List ℕ)). list_all (is_placed p) stock.stock.row.tree ≡ true) stock.place (rules.placed.reach stock.stock.row stock.among))
        (stands.work.stocks stock.stock stock.within).right (read_some order.source out.read outs.read)
        (subst (IsAimedAt stock.stock (is_some order.source)) (sym outs.aim) making.aim)
    makes (task.Wipe path) same =
        let wiping : IsWiping order = subst (λ t. IsAimed old t order) same ordered.aims in
        subst (MayMake path false out.read) (sym (outs.aim ∙ wiping.aim)) (refl, read_none order.source out.read wiping.source outs.read)

    -- and may be worked on
    pub workable : IsWorkable gr out
    workable = record {
      place = taken.its.place ∙ ap (λ c. path_of_task c.task) (sym own_is);
      aim = subst (λ c. MayMake (path_of_task c.task) (is_make c.task) out.read out.aim) (sym own_is) (makes begun refl);
    }

    pub gone_is : out.gone.items ≡ gone_for old begun
    gone_is = ap (λ g. g.items) outs.gone ∙ ordered.cards.gone

    down_rows : down.rows ≡ old.rows
    down_rows = ap (λ (p : Parts D K). p.rows) put.only ∙ room.same.rows

    -- the paths that go are counted
    pub gone_fits : count_by (has_no_row down.rows) out.gone.items ≤ down.paths
    gone_fits =
        let most = alone_fits old point begun stands in
        let same : count_by (has_no_row down.rows) out.gone.items ≡ count_by (has_no_row old.rows) (gone_for old begun) =
        ap (λ rs. count_by (has_no_row rs) out.gone.items) down_rows ∙ ap (count_by (has_no_row old.rows)) gone_is in
        let paths : down.paths ≡ old.paths = ap (λ (p : Parts D K). p.paths) put.only ∙ room.same.paths in omega (arith, most, same, paths)

    -- ---- a begin that started

    module _ (keeper : K) (new : Parts D K) (job : Seen R) (gone : AreStampsGone point)
        (entered : IsBegunEntered by begun out.gone.items (record down { keeper = keeper }) new) (works : IsJobFor out job)
        (reserves : HasReserves old) where
      books : IsBegunBooks by begun (gone_for old begun) put.running old new
      books = subst (λ g. IsBegunBooks by begun g put.running old new) gone_is
          (begun_books by begun out.gone.items order old roomy down new keeper room put entered)

      reads : option_map lent_from order.source ≡ read_at point begun
      reads = order_reads old point (next_number point) begun order stands rules first ordered

      started : IsJobStarted by point begun put.running
      started = record {
        number = ap (λ c. c.job) (put.is.card ∙ ordered.cards.card);
        task = ap (λ c. c.task) (put.is.card ∙ ordered.cards.card);
        caller = put.is.caller;
        lent = put.is.lent ∙ reads;
        fresh = put.is.fresh;
      }

      rows_same : rows_of new.rows ≡ rows_of old.rows
      rows_same = ap rows_of books.rows ∙ rows_unmarked begun old.rows

      places : (one : Job) → Contains (jobs_of new.jobs) one → IsReservedFor new.kept.reserved one.task
      places one among = subst (λ ps. IsReservedFor ps one.task) (sym books.places) (by_join
          (Contains-append_cases (jobs_of old.jobs) (job_of put.running ∷ []) one
          (subst (λ js. Contains js one) (ap jobs_of books.jobs ∙ map-append job_of old.jobs (put.running ∷ [])) among)))
        where
          nobody : Contains [] one → ⊥
          nobody (k, within, at) = omega (arith, within)

          more : (what other : Task) → IsReservedFor old.kept.reserved other → IsReservedFor (with_place what old.kept.reserved) other
          more (task.Make path stamp) (task.Make at other) is = reserved_more path at old.kept.reserved is
          more (task.Make path stamp) (task.Wipe at) is = tt
          more (task.Wipe path) other is = is

          its : (what : Task) → IsReservedFor (with_place what old.kept.reserved) what
          its (task.Make path stamp) = reserved_put path old.kept.reserved
          its (task.Wipe path) = tt

          by_join : Contains (jobs_of old.jobs) one ⊎ Contains (job_of put.running ∷ []) one → IsReservedFor (with_place begun old.kept.reserved) one.task
          by_join (inl there) = more begun one.task (reserves.places one there)
          by_join (inr here) = elim (contains_cases (job_of put.running) [] one here) [
            | inl same ↦ subst (λ (j : Job). IsReservedFor (with_place begun old.kept.reserved) j.task) same
                (subst (λ t. IsReservedFor (with_place begun old.kept.reserved) t) (sym started.task) (its begun))
            | inr none ↦ absurd (nobody none)
          ]

      reserves_new : HasReserves new
      reserves_new = record {
        history =
            let entries : length new.history.items ≡ length old.history.items + 1 = ap length books.history ∙ length-append old.history.items _ in
            let jobs : length new.jobs ≡ length old.jobs + 1 = ap length books.jobs ∙ length-append old.jobs (put.running ∷ []) in
            let live : length new.gate.live ≡ length old.gate.live = ap (λ g. length g.live) books.gate in
            let waiting : length new.gate.waiting ≡ length old.gate.waiting = ap (λ g. length g.waiting) books.gate in
            let capacity = books.capacity in omega (arith, entries, jobs, live, waiting, capacity);
        debris =
            let jobs : length new.jobs ≡ length old.jobs + 1 = ap length books.jobs ∙ length-append old.jobs (put.running ∷ []) in
            let spare = books.spare in omega (arith, jobs, spare);
        places = places;
      }

      -- what is to be stored for the job is that of its row
      its_ready : (what : Task) → begun ≡ what → IsReadyFor old.base.identity (rows_of old.rows) what put.running.kept
      its_ready (task.Make path stamp) same = λ row among stamped.
          let stock = first_stock old point path stamp stands rules (first ∙ ap (λ t. Some t) same) in
          let making = subst (λ t. IsAimed old t order) same ordered.aims stock.stock stock.found in
          let there : Contains point.book.rows row = subst (λ (b : Book). Contains b.rows row) stands.book among in
          let one : stock.stock.row ≡ row =
          one_stamp point.book.rows stock.stock.row row rules.work.stamped.differ stock.among there (stock.stamped ∙ sym stamped) in
          subst (AreBytesOf old.base.identity row) (sym put.is.kept) (subst (λ (r : Row). AreBytesOf old.base.identity r order.kept) one making.kept)
      its_ready (task.Wipe path) same = tt

      ready_new : AreReady old → AreReady new
      ready_new ready running among =
          subst (λ b. IsReadyFor b.identity (rows_of new.rows) running.card.task running.kept) (sym books.base)
          (subst (λ rs. IsReadyFor old.base.identity rs running.card.task running.kept) (sym rows_same) (by_join
          (Contains-append_cases old.jobs (put.running ∷ []) running (subst (λ js. Contains js running) books.jobs among))))
        where
          nobody : Contains [] running → ⊥
          nobody (k, within, at) = omega (arith, within)

          by_join : Contains old.jobs running ⊎ Contains (put.running ∷ []) running →
              IsReadyFor old.base.identity (rows_of old.rows) running.card.task running.kept
          by_join (inl there) = ready running there
          by_join (inr here) = elim (contains_cases put.running [] running here) [
            | inl same ↦ subst (λ (r : Running). IsReadyFor old.base.identity (rows_of old.rows) r.card.task r.kept) same
                (subst (λ t. IsReadyFor old.base.identity (rows_of old.rows) t put.running.kept) (sym started.task) (its_ready begun refl))
            | inr none ↦ absurd (nobody none)
          ]

      does : (what : Task) → begun ≡ what → DoesTask point what job
      does (task.Make path stamp) same =
          let stock = first_stock old point path stamp stands rules (first ∙ ap (λ t. Some t) same) in
          let making = subst (λ t. IsAimed old t order) same ordered.aims stock.stock stock.found in
          let makes_it = aim_of stock.stock (is_some order.source) order.aim making.aim in
          let lent : is_some out.read ≡ is_some order.source = read_some order.source out.read outs.read in
          record {
            row = stock.stock.row;
            found = subst (λ (p : List (List ℕ)). find (is_declared p stamp) point.book.rows ≡ Some stock.stock.row) stock.place
                (subst (λ n. find (is_declared stock.stock.row.path n) point.book.rows ≡ Some stock.stock.row) stock.stamped
                (apart_declared point.book.rows stock.stock.row rules.work.apart stock.among));
            goal = works.goal ∙ ap aim_tree outs.aim ∙ makes_it.tree;
            way = stock.stock.method;
            its = sym stock.way;
            asks = works.asks ∙ ap aim_asks outs.aim ∙ makes_it.asks;
            course = works.course ∙ ap (λ a. aim_course a (is_some out.read)) outs.aim ∙ ap (aim_course order.aim) lent ∙ makes_it.course
                ∙ ap (make_course stock.stock.row.tree stock.stock.method) (sym lent)
                ∙ ap (λ r. make_course stock.stock.row.tree stock.stock.method (is_some r)) (sym works.loan);
          }
      does (task.Wipe path) same =
          let wiping : IsWiping order = subst (λ t. IsAimed old t order) same ordered.aims in
          record {
            goal = works.goal ∙ ap aim_tree (outs.aim ∙ wiping.aim);
            asks = works.asks ∙ ap aim_asks (outs.aim ∙ wiping.aim);
            course = works.course ∙ ap (λ a. aim_course a (is_some out.read)) (outs.aim ∙ wiping.aim);
          }

      -- the begin, by its entry and its job
      pub begun_entered : nat_lt old.base.limits.history (spent_in old + 2) ≡ false → IsEntered point by begun reply.Started old new
      begun_entered fits = record {
        same = record { base = books.base; lost = books.lost };
        first = first;
        room = fits;
        moment = books.moment ∙ ap (λ (b : Book). b.now) stands.book;
        history = books.history ∙ ap (λ m. old.history.items ++ begin_entry by m begun reply.Started ∷ []) (ap (λ (b : Book). b.now) stands.book);
        stands = begun_stands by begun put.running old new point books stands started gone;
        reserves = reserves_new;
        ready = ready_new;
      }

      pub begun_job : HasJustBegun gr point begun (told_disk gd old.disk) (told_disk gd new.disk) job
      begun_job = record {
        card = works.card ∙ own_is;
        going = works.going;
        fetching = works.fetching;
        region = out.region;
        has = works.region;
        taken = subst (λ r. AreTaken (path_of_task begun) (option_map (λ (lent : Lent). lent.path) (read_at point begun)) (told_disk gd old.disk)
            (told_disk gd new.disk) (told_part gr out.region) (option_map (told_read gr) r)) (sym works.loan)
            (subst (λ o. AreTaken (path_of_task begun) o (told_disk gd old.disk) (told_disk gd new.disk) (told_part gr out.region)
            (option_map (told_read gr) out.read)) (paths_same order.source ∙ ap (option_map (λ (lent : Lent). lent.path)) reads)
            (subst (λ d. AreTaken (path_of_task begun) (option_map source_path order.source) (told_disk gd d) (told_disk gd new.disk)
            (told_part gr out.region) (option_map (told_read gr) out.read)) room.disk
            (subst (λ d. AreTaken (path_of_task begun) (option_map source_path order.source) (told_disk gd roomy.disk) (told_disk gd d)
            (told_part gr out.region) (option_map (told_read gr) out.read)) (sym entered.disk) taken)));
        loan = subst (IsLentFor (read_at point begun)) (sym works.loan) (read_for order.source out.read (read_at point begun) reads outs.read);
        does = does begun refl;
      }

    -- ---- a begin that is undone

    module _ (back : Parts D K) (keeper : K) (only : back ≡ record (record down { keeper = keeper }) { disk = back.disk; jobs = back.jobs; kept = back.kept })
        (jobs : back.jobs ≡ filter (is_other out.own.job) down.jobs) (marks : back.kept.marks ≡ down.kept.marks)
        (places : back.kept.reserved ≡ without_place begun down.kept.reserved) (reserves : HasReserves old) where
      between : Parts D K
      between = record (record down { keeper = keeper }) { disk = back.disk; jobs = back.jobs; kept = back.kept }

      back_books : HaveSameBooks old back × HaveNoLessRoom old back
      back_books = again_books begun old roomy back room
          (ap (λ (p : Parts D K). p.base) only ∙ ap (λ (p : Parts D K). p.base) put.only)
          (ap (λ (p : Parts D K). p.first) only ∙ ap (λ (p : Parts D K). p.first) put.only)
          (ap (λ (p : Parts D K). p.moment) only ∙ ap (λ (p : Parts D K). p.moment) put.only)
          (ap (λ (p : Parts D K). p.gate) only ∙ ap (λ (p : Parts D K). p.gate) put.only)
          (ap (λ (p : Parts D K). p.rows) only ∙ ap (λ (p : Parts D K). p.rows) put.only)
          (ap (λ (p : Parts D K). p.holds) only ∙ ap (λ (p : Parts D K). p.holds) put.only)
          (ap (λ (p : Parts D K). p.tickets) only ∙ ap (λ (p : Parts D K). p.tickets) put.only)
          (ap (λ (p : Parts D K). p.debris) only ∙ ap (λ (p : Parts D K). p.debris) put.only)
          (marks ∙ ap (λ (p : Parts D K). p.kept.marks) put.only)
          (ap (λ (p : Parts D K). p.nodes) only ∙ ap (λ (p : Parts D K). p.nodes) put.only)
          (ap (λ (p : Parts D K). p.paths) only ∙ ap (λ (p : Parts D K). p.paths) put.only)
          (ap (λ (p : Parts D K). p.lost) only ∙ ap (λ (p : Parts D K). p.lost) put.only)
          (ap (λ (p : Parts D K). p.history) only ∙ ap (λ (p : Parts D K). p.history) put.only)

      back_jobs : back.jobs ≡ old.jobs
      back_jobs =
          jobs ∙ ap (λ c. filter (is_other c.job) down.jobs) own_is ∙ ap (filter (is_other (next_number point))) put.jobs
          ∙ last_goes (next_number point) roomy.jobs put.running (ap (λ c. c.job) (put.is.card ∙ ordered.cards.card))
          (subst (λ c. list_all (is_earlier c.job) roomy.jobs ≡ true) ordered.cards.card free_down.later)
          ∙ room.jobs

      back_places : back.kept.reserved ≡ without_place begun (with_place begun old.kept.reserved)
      back_places = places ∙ ap (without_place begun) (ap (λ (p : Parts D K). p.kept.reserved) put.only ∙ room.places)

      -- the parts are still
      pub back_still : IsStill old back
      back_still = undone_still begun old back back_books.0 back_books.1 back_jobs back_places
          (subst (λ js. is_lent (path_of_task begun) (jobs_of js) ≡ false) room.jobs free_down.free) reserves

      pub back_stands : StandFor back point
      back_stands = back_still.stands point stands

      -- ---- one that was refused

      module _ (new : Parts D K) (note : FaultNote) (refused : IsRefusedEntered (back.first + length back.history.items) by begun note back new)
          (keeps : note.device ≡ device.Keeper) (some : list_any (overlaps_kept (path_of_task begun)) point.kept ≡ true) where
        numbered : back.first + length back.history.items ≡ next_number point
        numbered = number_is back point back_stands

        spent_back : spent_in back ≡ spent_in old
        spent_back =
            let entries : length back.history.items ≡ length old.history.items = ap length back_books.0.history in
            let jobs_same : length back.jobs ≡ length old.jobs = ap length back_jobs in
            let live : length back.gate.live ≡ length old.gate.live = ap (λ g. length g.live) back_books.0.gate in
            let waiting : length back.gate.waiting ≡ length old.gate.waiting = ap (λ g. length g.waiting) back_books.0.gate in
            omega (arith, entries, jobs_same, live, waiting)

        capacity_new : spent_in old + 2 ≤ vec_capacity new.history
        capacity_new =
            let same : vec_capacity new.history ≡ vec_capacity roomy.history =
            refused.capacity ∙ ap (λ (p : Parts D K). vec_capacity p.history) only ∙ ap (λ (p : Parts D K). vec_capacity p.history) put.only in
            let has = room.history in omega (arith, same, has)

        reserves_refused : HasReserves new
        reserves_refused = record {
          history =
              let entries : length new.history.items ≡ length back.history.items + 1 = ap length refused.history ∙ length-append back.history.items _ in
              let jobs_same : length new.jobs ≡ length back.jobs = ap length refused.jobs in
              let live : length new.gate.live ≡ length back.gate.live = ap (λ g. length g.live) refused.gate in
              let waiting : length new.gate.waiting ≡ length back.gate.waiting = ap (λ g. length g.waiting) refused.gate in
              let spent = spent_back in let most = capacity_new in omega (arith, entries, jobs_same, live, waiting, spent, most);
          debris =
              let jobs_same : length new.jobs ≡ length back.jobs = ap length refused.jobs in
              let spare = refused.spare in let has = back_still.reserves.debris in omega (arith, jobs_same, spare, has);
          places = λ one among.
              subst (λ k. IsReservedFor k.reserved one.task) (sym refused.kept)
              (back_still.reserves.places one (subst (λ js. Contains (jobs_of js) one) refused.jobs among));
        }

        pub refused_entered : nat_lt old.base.limits.history (spent_in old + 2) ≡ false → IsEntered point by begun (reply.Refused note) old new
        refused_entered fits = record {
          same = record { base = refused.base ∙ back_books.0.base; lost = refused.lost ∙ back_books.0.lost };
          first = first;
          room = fits;
          moment = refused.moment ∙ ap (λ (b : Book). b.now) back_stands.book;
          history = refused.history
              ∙ ap (λ m. back.history.items ++ begin_entry by m begun (reply.Refused note) ∷ []) (ap (λ (b : Book). b.now) back_stands.book)
              ∙ ap (λ es. es ++ begin_entry by point.book.now begun (reply.Refused note) ∷ []) back_books.0.history;
          stands = refused_stands (back.first + length back.history.items) by begun note back new point refused back_stands numbered
              (refused_served point by begun note rules first keeps some);
          reserves = reserves_refused;
          ready = λ ready. ready_same back new refused.base (ap rows_of refused.rows) refused.jobs (back_still.ready ready);
        }

  -- ---- one for which nothing was put down

  module _ (down : Parts D K) (kept : Marks) (only : down ≡ record roomy { disk = down.disk }) (marks : kept.marks ≡ down.kept.marks)
      (places : kept.reserved ≡ without_place begun down.kept.reserved) (reserves : HasReserves old) where
    abbrev left : Parts D K
    left = record down { kept = kept }

    left_books : HaveSameBooks old left × HaveNoLessRoom old left
    left_books = again_books begun old roomy left room (ap (λ (p : Parts D K). p.base) only) (ap (λ (p : Parts D K). p.first) only)
        (ap (λ (p : Parts D K). p.moment) only) (ap (λ (p : Parts D K). p.gate) only) (ap (λ (p : Parts D K). p.rows) only)
        (ap (λ (p : Parts D K). p.holds) only) (ap (λ (p : Parts D K). p.tickets) only) (ap (λ (p : Parts D K). p.debris) only)
        (marks ∙ ap (λ (p : Parts D K). p.kept.marks) only) (ap (λ (p : Parts D K). p.nodes) only) (ap (λ (p : Parts D K). p.paths) only)
        (ap (λ (p : Parts D K). p.lost) only) (ap (λ (p : Parts D K). p.history) only)

    pub left_still : IsStill old left
    left_still = undone_still begun old left left_books.0 left_books.1 (ap (λ (p : Parts D K). p.jobs) only ∙ room.jobs)
        (places ∙ ap (without_place begun) (ap (λ (p : Parts D K). p.kept.reserved) only ∙ room.places))
        (subst (λ js. is_lent (path_of_task begun) (jobs_of js) ≡ false) room.jobs free_down.free) reserves

-- ---- the state store

-- kept rows overlap the path of a task where some are to go
pub overlap_is : (path : List (List ℕ)) (kept : List KeptRow) →
    are_some (map path_of_mark (filter (overlaps_mark path) (map mark_of kept))) ≡ list_any (overlaps_kept path) kept
overlap_is path [] = refl
overlap_is path (one ∷ kept) =
    elim (overlap one.path path) as
    (λ b. are_some (map path_of_mark (cond b (mark_of one ∷ filter (overlaps_mark path) (map mark_of kept)) (filter (overlaps_mark path) (map mark_of kept))))
    ≡ (b || list_any (overlaps_kept path) kept)) [
      | true ↦ refl
      | false ↦ overlap_is path kept
    ]

-- a removal that wasn't done leaves the rows
same_rows : (f : List RawRow → List RawRow) (told : Option (List RawRow)) → ((rows : List RawRow) → f rows ≡ rows) → option_map f told ≡ told
same_rows f None same = refl
same_rows f (Some rows) same = ap (λ (rs : List RawRow). Some rs) (same rows)

pub failed_still : (paths : List (List (List ℕ))) (note : FaultNote) (store now : ToldStore) → HasRemoved paths (removal.Failed note) store now → IsKeptStill store now
failed_still paths note store now removed = record {
  rows = removed.rows ∙ same_rows (after_removal paths (removal.Failed note)) store.rows (λ rows. refl);
  faults = removed.faults;
}

pub wanted_still : (paths : List (List (List ℕ))) (store now : ToldStore) → HasRemoved paths removal.NoMemory store now → IsKeptStill store now
wanted_still paths store now removed = record {
  rows = removed.rows ∙ same_rows (after_removal paths removal.NoMemory) store.rows (λ rows. refl);
  faults = removed.faults;
}

-- a removal that failed was called, so that some rows were to go
pub some_called : (paths : List (List (List ℕ))) (said : Removal) (note : FaultNote) → said ≡ removal.Failed note →
    (are_some paths ≡ false → said ≡ removal.Done) → are_some paths ≡ true
some_called paths said note failed none =
    elim (are_some paths) as (λ b. (b ≡ false → said ≡ removal.Done) → b ≡ true) [
      | true ↦ λ is. refl
      | false ↦ λ is. absurd (let e : removal.Failed note ≡ removal.Done = sym failed ∙ is refl in cc)
    ] none

-- a call that failed was made
pub failed_call : (paths : List (List (List ℕ))) (note : FaultNote) (store now : ToldStore) → are_some paths ≡ true →
    HasRemoved paths (removal.Failed note) store now → IsStoreCall true true false store now
failed_call paths note store now some removed = subst (λ b. IsStoreCall b true false store now) some removed.called

pub wanting_call : (paths : List (List (List ℕ))) (store now : ToldStore) → HasRemoved paths removal.NoMemory store now → MayWant store now
wanting_call paths store now removed = wanted_call (are_some paths) store now removed.called

-- and those are kept rows that overlap the path of the task
pub gone_overlap : {D K : Type 0} (parts : Parts D K) (point : Point) (begun : Task) → StandFor parts point → are_some (gone_for parts begun) ≡ true →
    list_any (overlaps_kept (path_of_task begun)) point.kept ≡ true
gone_overlap parts point begun stands some =
    sym (overlap_is (path_of_task begun) point.kept)
    ∙ subst (λ ms. are_some (map path_of_mark (filter (overlaps_mark (path_of_task begun)) ms)) ≡ true) stands.kept some
