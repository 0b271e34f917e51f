-- What is true of the task that comes first, for the parts of a core that begin it.
use Rattle.std.proofs.Common.{◌≡◌, ℕ, Bool, true, false, ◌==◌, cond, List, [], ◌∷◌, ◌++◌, find, Contains, Option, Some, None, inl, inr, refl, sym, ap, subst, ◌∙◌, arith}
use Rattle.std.specs.List.{list_all, list_any}
use Rattle.std.specs.Option.{option_map, option_map_or}
use Rattle.std.proofs.lemmas.Bool.{and_from, and_parts, eqb-true, lt-ltb}
use Rattle.std.proofs.lemmas.List.Elements.{Contains-append_right}
use Rattle.mat_path.proofs.Elements.{contains_cases, contains_filter, contains_first, contains_map, contains_more, each_fails, mapped_contains}
use Rattle.mat_path.proofs.SameNames.{same_names-eq, same_names-refl}
use Rattle.mat_path.specs.Names.{overlap, same_names}
use Rattle.mat_model.specs.declared.book.Book.{Book}
use Rattle.mat_model.specs.declared.book.Row.{Row}
use Rattle.mat_model.specs.declared.entries.Task.{Task}
use Rattle.mat_model.specs.declared.entries.Task.TheVariants as task
use Rattle.mat_model.specs.History.{Point, next_number}
use Rattle.mat_model.specs.Rows.{are_apart, is_at_path}
use Rattle.mat_model.specs.Work.{is_declared}
use Rattle.mat_model.specs.WorkState.{Lent, Way, first_task, is_lent, is_lent_part, lends_at, lent_by, path_of_task, stands_as, way_of}
use Rattle.mat_model.specs.WorkState.{lent_of as lent_of_row}
use Rattle.model_laws.specs.FirstRules.{MakeMayBegin}
use Rattle.model_laws.specs.PointRules.{IsPoint}
use Rattle.model_laws.specs.WorkRules.{IsReadAtPaths}
use Rattle.model_laws.proofs.FirstLemmas.{make_may_begin, wipe_may_begin}
use Rattle.write_plan.specs.declared.method.Method.{Method}
use Rattle.write_plan.specs.declared.method.Method.TheVariants as method
use Rattle.core_laws.specs.Loans.{AreLoans}
use Rattle.core_laws.proofs.BeginLemmas.{part_free}
use Rattle.core_laws.proofs.LoanLemmas.{free_path}
use Rattle.row_book.specs.declared.stock.Stock.{Stock}
use Rattle.row_book.proofs.HeldLemmas.{one_there}
use Rattle.row_book.specs.Stocks.{row_of, rows_of, stock_at}
use Rattle.row_book.specs.Whole.{listed}
use Rattle.job_book.specs.Jobs.{job_of, jobs_of}
use Rattle.job_book.specs.Numbers.{is_earlier}
use Rattle.core_devices.specs.declared.taking.Source.{Source}
use Rattle.core_devices.specs.Events.{read_at}
use Rattle.core_devices.specs.Takes.{IsFreeAt, source_path}
use Rattle.mat_core.specs.Books.{StandFor, way_in}
use Rattle.mat_core.specs.Choosing.{is_source, source_in}
use Rattle.mat_core.specs.Orders.{IsOrder, IsReady, source_from}
use Rattle.mat_core.specs.PutDown.{IsFreeFor, lent_from}
use Rattle.mat_core.specs.declared.parts.Parts.{Parts}
use Rattle.mat_core.specs.declared.preparing.Order.{Order}

-- a test that each element passes
all_from : {A : Type 0} (test : A → Bool) (some : List A) → ((one : A) → Contains some one → test one ≡ true) → list_all test some ≡ true
all_from test [] each = refl
all_from test (one ∷ some) each =
    and_from (test one) (list_all test some) (each one (contains_first one some)) (all_from test some (λ other among. each other (contains_more one some other among)))

-- ---- the row of a make

-- the stock whose row is at a path is found there
found_stock : (path : List (List ℕ)) (stocks : List Stock) (stock : Stock) → are_apart (rows_of stocks) ≡ true → Contains stocks stock →
    stock.row.path ≡ path → find (stock_at path) stocks ≡ Some stock
found_stock path stocks stock apart among here =
    elim (find (stock_at path) stocks) as (λ o. Contains (listed o) stock → o ≡ Some stock) [
      | None ↦ λ inside. absurd (nobody inside)
      | Some one ↦ λ inside. elim (contains_cases one [] stock inside) [
        | inl same ↦ ap (λ (s : Stock). Some s) same
        | inr none ↦ absurd (nobody none)
      ]
    ]
    (subst (λ (ss : List Stock). Contains ss stock) (one_there path stocks apart)
    (contains_filter (stock_at path) stocks stock
    (subst (λ (p : List (List ℕ)). same_names p path ≡ true) (sym here) (same_names-refl path)) among))
  where
    nobody : Contains [] stock → ⊥
    nobody (k, within, at) = omega (arith, within)

-- the stock of a row
stock_of : (stocks : List Stock) (row : Row) → Contains (rows_of stocks) row → (stock : Stock) × Contains stocks stock × (stock.row ≡ row)
stock_of stocks row among = mapped_contains row_of stocks row among

-- what is kept beside the row of a make that comes first
pub record IsFirstStock {D K : Type 0} (parts : Parts D K) (point : Point) (path : List (List ℕ)) (stamp : ℕ) : Type 0 where
  pub may : MakeMayBegin point.work point.book path stamp
  pub stock : Stock
  pub within : Contains parts.rows stock
  pub among : Contains point.book.rows stock.row
  pub place : stock.row.path ≡ path
  pub stamped : stock.row.stamp ≡ stamp
  pub found : find (stock_at path) parts.rows ≡ Some stock
  pub way : way_of stamp point.work.ways ≡ way_in stock.method

pub first_stock : {D K : Type 0} (parts : Parts D K) (point : Point) (path : List (List ℕ)) (stamp : ℕ) → StandFor parts point → IsPoint point →
    first_task point.work point.book ≡ Some (task.Make path stamp) → IsFirstStock parts point path stamp
first_stock parts point path stamp stands rules is =
    let may = make_may_begin point.work point.book path stamp is in
    let same_rows : rows_of parts.rows ≡ point.book.rows = ap (λ (b : Book). b.rows) stands.book in
    let (stock, within, same) = stock_of parts.rows may.row (subst (λ rs. Contains rs may.row) (sym same_rows) may.among) in
    record {
      may = may;
      stock = stock;
      within = within;
      among = subst (λ (r : Row). Contains point.book.rows r) (sym same) may.among;
      place = ap (λ (r : Row). r.path) same ∙ may.placed;
      stamped = ap (λ (r : Row). r.stamp) same ∙ may.stamped;
      found = found_stock path parts.rows stock (subst (λ rs. are_apart rs ≡ true) (sym same_rows) rules.work.apart) within
          (ap (λ (r : Row). r.path) same ∙ may.placed);
      way = ap (λ n. way_of n point.work.ways) (sym (ap (λ (r : Row). r.stamp) same ∙ may.stamped)) ∙ (stands.work.stocks stock within).way;
    }

-- the row of a make is there, and what it reads lies at paths
pub first_ready : {D K : Type 0} (parts : Parts D K) (point : Point) (begun : Task) → StandFor parts point → IsPoint point →
    first_task point.work point.book ≡ Some begun → IsReady parts begun
first_ready parts point (task.Make path stamp) stands rules is =
    let first = first_stock parts point path stamp stands rules is in
    record {
      stock = first.stock;
      found = first.found;
      reads = subst (λ (w : Way). IsReadAtPaths w first.stock.row.tree) ((stands.work.stocks first.stock first.within).way)
          (rules.placed.copied first.stock.row first.among);
    }
first_ready parts point (task.Wipe path) stands rules is = tt

-- ---- the part that it reads

-- the part of the stock that is found is that of the row that is found
part_found : (source : List (List ℕ)) (stamp : ℕ) (stocks : List Stock) →
    option_map lent_from (option_map source_from (find (is_source source stamp) stocks))
    ≡ option_map (lent_of_row source stamp) (find (stands_as source stamp) (rows_of stocks))
part_found source stamp [] = refl
part_found source stamp (stock ∷ stocks) =
    elim (stands_as source stamp stock.row) as
    (λ b. stands_as source stamp stock.row ≡ b →
    option_map lent_from (option_map source_from (cond b (Some stock) (find (is_source source stamp) stocks)))
    ≡ option_map (lent_of_row source stamp) (cond b (Some stock.row) (find (stands_as source stamp) (rows_of stocks)))) [
      | true ↦ λ is.
          let parts = and_parts (is_declared source stamp stock.row) stock.row.stands is in
          let where_when = and_parts (is_at_path source stock.row) (stock.row.stamp == stamp) parts.0 in
          ap (λ p. Some (record { path = p; stamp = stock.row.stamp; tree = stock.row.tree })) (same_names-eq stock.row.path source where_when.0)
          ∙ ap (λ n. Some (record { path = source; stamp = n; tree = stock.row.tree })) (eqb-true stock.row.stamp stamp where_when.1)
      | false ↦ λ off. part_found source stamp stocks
    ] refl

part_by : (way : Method) (stocks : List Stock) → option_map lent_from (option_map source_from (source_in stocks way)) ≡ lent_by (way_in way) (rows_of stocks)
part_by (method.Write bytes) stocks = refl
part_by method.Fetch stocks = refl
part_by (method.Copy source rest stamp from) stocks = part_found source stamp stocks

pub order_reads : {D K : Type 0} (parts : Parts D K) (point : Point) (number : ℕ) (begun : Task) (order : Order) → StandFor parts point → IsPoint point →
    first_task point.work point.book ≡ Some begun → IsOrder parts number begun order → option_map lent_from order.source ≡ read_at point begun
order_reads parts point number (task.Make path stamp) order stands rules is ordered =
    let first = first_stock parts point path stamp stands rules is in
    ap (option_map lent_from) (ordered.aims first.stock first.found).source ∙ part_by first.stock.method parts.rows
    ∙ ap (lent_by (way_in first.stock.method)) (ap (λ (b : Book). b.rows) stands.book)
    ∙ ap (λ (w : Way). lent_by w point.book.rows) (sym first.way)
order_reads parts point number (task.Wipe path) order stands rules is ordered = ap (option_map lent_from) ordered.aims.source

-- ---- what may be taken

-- no loan overlaps the path of the task that comes first
first_free : (point : Point) (begun : Task) → first_task point.work point.book ≡ Some begun → is_lent (path_of_task begun) point.work.jobs ≡ false
first_free point (task.Make path stamp) is = (make_may_begin point.work point.book path stamp is).free
first_free point (task.Wipe path) is = (wipe_may_begin point.work point.book path is).free

-- what is true of the part that it reads, if it reads one
record IsFreePart (point : Point) (lent : List (List (List ℕ))) (begun : Task) (part : Lent) : Type 0 where
  its : is_lent part.path point.work.jobs ≡ false
  apart : list_any (overlap part.path) (lent ++ path_of_task begun ∷ []) ≡ false

first_part : (point : Point) (lent : List (List (List ℕ))) (begun : Task) (part : Lent) → IsPoint point → AreLoans point.work.jobs lent →
    first_task point.work point.book ≡ Some begun → read_at point begun ≡ Some part → IsFreePart point lent begun part
first_part point lent (task.Make path stamp) part rules loans is reads =
    let may = make_may_begin point.work point.book path stamp is in
    record {
      its = may.source part reads;
      apart = part_free point.work point.book path stamp part lent rules.work.apart may reads loans;
    }
first_part point lent (task.Wipe path) part rules loans is reads = absurd cc

-- the job of an order may be put down
pub order_free : {D K : Type 0} (parts : Parts D K) (point : Point) (lent : List (List (List ℕ))) (number : ℕ) (begun : Task) (order : Order) →
    StandFor parts point → IsPoint point → first_task point.work point.book ≡ Some begun → IsOrder parts number begun order → number ≡ next_number point →
    AreLoans (jobs_of parts.jobs) lent → IsFreeFor parts.jobs lent begun order
order_free parts point lent number begun order stands rules is ordered numbered loans = record {
  card = ap (λ c. c.task) ordered.cards.card;
  later = subst (λ n. list_all (is_earlier n) parts.jobs ≡ true) (sym (ap (λ c. c.job) ordered.cards.card)) all_earlier;
  free = subst (λ js. is_lent (path_of_task begun) js ≡ false) (sym stands.work.jobs) (first_free point begun is);
  source = subst (λ js. option_map_or (is_lent_part js) (option_map lent_from order.source) false ≡ false) (sym stands.work.jobs)
      (subst (λ o. option_map_or (is_lent_part point.work.jobs) o false ≡ false) (sym reads) (unlent (read_at point begun) refl));
  apart = subst (λ o. option_map_or (lends_at (path_of_task begun)) o false ≡ false) (sym reads) (aside (read_at point begun) refl);
  its = free_path (jobs_of parts.jobs) lent (path_of_task begun) loans
      (subst (λ js. is_lent (path_of_task begun) js ≡ false) (sym stands.work.jobs) (first_free point begun is));
  read = taken order.source reads;
}
  where
    reads : option_map lent_from order.source ≡ read_at point begun
    reads = order_reads parts point number begun order stands rules is ordered

    point_loans : AreLoans point.work.jobs lent
    point_loans = subst (λ js. AreLoans js lent) stands.work.jobs loans

    all_earlier : list_all (is_earlier number) parts.jobs ≡ true
    all_earlier = all_from (is_earlier number) parts.jobs
        (λ running among.
        let job = rules.work.jobs (job_of running)
        (subst (λ js. Contains js (job_of running)) stands.work.jobs (contains_map job_of parts.jobs running among)) in
        let less = job.numbered in lt-ltb running.card.job number (omega (arith, less, numbered)))

    unlent : (o : Option Lent) → read_at point begun ≡ o → option_map_or (is_lent_part point.work.jobs) o false ≡ false
    unlent None is_none = refl
    unlent (Some part) is_some = (first_part point lent begun part rules point_loans is is_some).its

    aside : (o : Option Lent) → read_at point begun ≡ o → option_map_or (lends_at (path_of_task begun)) o false ≡ false
    aside None is_none = refl
    aside (Some part) is_some =
        each_fails (overlap part.path) (lent ++ path_of_task begun ∷ []) (path_of_task begun)
        (first_part point lent begun part rules point_loans is is_some).apart
        (Contains-append_right lent (path_of_task begun ∷ []) (path_of_task begun) (contains_first (path_of_task begun) []))

    taken : (source : Option Source) → option_map lent_from source ≡ read_at point begun →
        IsFreeAt (option_map source_path source) (lent ++ path_of_task begun ∷ [])
    taken None same = tt
    taken (Some source) same = (first_part point lent begun (lent_from source) rules point_loans is (sym same)).apart
