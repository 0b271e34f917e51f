-- The task that comes first: what the parts' own lists tell is what the point's book and work state tell.
use Rattle.std.proofs.Common.{◌≡◌, ◌<◌, ◌≤◌, ◌+◌, ◌^◌, ◌==◌, ℕ, suc, zero, nat_lt, Bool, true, false, not, ◌&&◌, ◌||◌, cond, List, [], ◌∷◌, map, filter, find, drop, length, slice_get, Contains, Option, Some, None, Result, Ok, Err, IfErr, IfOk, inl, inr, refl, ◌∙◌, sym, ap, ap₂, subst, arith}
use Rattle.std.specs.List.{All, list_all, list_any}
use Rattle.std.specs.Option.{is_some, option_and_then, option_map, option_map_or, option_or}
use Rattle.std.proofs.lemmas.Bool.{and_from, and_parts, both_ways, eq-eqb, false_from_ne_true, le-leb, leb-true, lt-leb, lt-ltb, ltb-true, ne_eqb, not-true, or_left}
use Rattle.std.proofs.lemmas.List.Elements.{All-head, All-tail}
use Rattle.mat_path.specs.Names.{is_prefix, overlap, same_names}
use Rattle.mat_path.proofs.Bools.{or_second}
use Rattle.mat_path.proofs.Elements.{contains_cases, contains_map, each_fails, filter_all, mapped_contains}
use Rattle.mat_path.proofs.Overlaps.{overlap_cases, overlap_of_prefixes, prefix-antisym}
use Rattle.mat_path.proofs.PathLemmas.{prefix-refl, prefix-trans}
use Rattle.mat_path.proofs.SameNames.{same_names-eq, same_names-refl}
use Rattle.mat_tree.specs.Trees.{has_node}
use Rattle.mat_model.specs.declared.book.Book.{Book}
use Rattle.mat_model.specs.declared.book.Row.{Row}
use Rattle.mat_model.specs.declared.book.Ticket.{Ticket}
use Rattle.mat_model.specs.declared.entries.Task.{Task}
use Rattle.mat_model.specs.declared.entries.Task.TheVariants as task
use Rattle.mat_model.specs.Books.{IsBook, are_ascending, number_of}
use Rattle.mat_model.specs.History.{Point, next_number}
use Rattle.mat_model.specs.Rows.{are_apart, cover, covers}
use Rattle.mat_model.specs.Tickets.{is_open, waits_for}
use Rattle.mat_model.specs.WorkState.{Debris, Job, Way, WorkState, first_make, first_task, is_above, is_above_wanted, is_debris_above, is_kept_back, is_lent, is_lent_part, is_wanted, lent_by, lent_of, make_of, may_wipe, stands_as, task_of, wipe_of}
use Rattle.model_laws.specs.PointRules.{IsPoint}
use Rattle.model_laws.specs.TicketRules.{is_row_above}
use Rattle.model_laws.proofs.BelowLemmas.{same_test}
use Rattle.model_laws.proofs.BooksKept.{ticket_waits}
use Rattle.model_laws.proofs.BooksLists.{any_contains, contains_any}
use Rattle.model_laws.proofs.BooksRows.{apart_same}
use Rattle.model_laws.proofs.Elements.{contains_all, found_contains, found_passes}
use Rattle.write_plan.specs.declared.method.Method.{Method}
use Rattle.write_plan.specs.declared.method.Method.TheVariants as method
use Rattle.row_book.specs.declared.stock.Stock.{Stock}
use Rattle.row_book.specs.Stocks.{covers_stock, is_next_overlap, row_of, rows_of, stock_at}
use Rattle.row_book.specs.Whole.{leads_to}
use Rattle.row_book.proofs.RowLemmas.{rows_found}
use Rattle.job_book.specs.Jobs.{jobs_of}
use Rattle.ticket_book.specs.Asked.{asks_below, has_number, is_due, is_from, lowest, ticket_at}
use Rattle.mat_core.specs.Books.{IsStock, StandFor, way_in}
use Rattle.mat_core.specs.Choosing.{first_free, first_in, free_for, free_row, has_next, if_free, is_in_the_way, is_source, is_source_lent, is_stock_kept_back, is_stock_lent, is_under_row, make_of_stock, may_wipe_in, stands_with}
use Rattle.mat_core.specs.Replacing.{AreRuled}
use Rattle.mat_core.specs.declared.parts.Parts.{Parts}
use Rattle.mat_core.proofs.WriteLemmas.{test_at}

-- ---- lists

-- what two tests find that are the same
find_alike : {A : Type 0} (p q : A → Bool) → ((x : A) → p x ≡ q x) → (xs : List A) → find p xs ≡ find q xs
find_alike p q alike [] = refl
find_alike {A} p q alike (x ∷ xs) =
    ap₂ (λ (b : Bool) (o : Option A). cond b (Some x) o) (alike x) (find_alike p q alike xs)

-- what isn't found passes nowhere
not_found : {A : Type 0} (test : A → Bool) (xs : List A) (x : A) → find test xs ≡ None → Contains xs x → test x ≡ false
not_found test [] x is (k, within, at) = absurd (omega (arith, within))
not_found {A} test (first ∷ xs) x is among =
    elim (test first) as (λ b. test first ≡ b → cond b (Some first) (find test xs) ≡ None → test x ≡ false) [
      | true ↦ λ here it. absurd cc
      | false ↦ λ off it.
          elim (contains_cases first xs x among) [
            | inl same ↦ subst (λ (y : A). test y ≡ false) same off
            | inr more ↦ not_found test xs x it more
          ]
    ] refl is

-- a walk by place: what is found from a place on is what is there, if that passes, and else what is found from the next place on
pub walk_found : {A : Type 0} (test : A → Bool) (xs : List A) (place : ℕ) (x : A) → slice_get xs place ≡ Some x → test x ≡ true →
    find test (drop place xs) ≡ Some x
walk_found test [] place x is passes = absurd cc
walk_found {A} test (first ∷ xs) zero x is passes =
    let same : first ≡ x = cc in
    ap (λ b. cond b (Some first) (find test xs)) (subst (λ (y : A). test y ≡ true) (sym same) passes) ∙ ap (λ (y : A). Some y) same
walk_found test (first ∷ xs) (suc place) x is passes = walk_found test xs place x is passes

pub walk_on : {A : Type 0} (test : A → Bool) (xs : List A) (place : ℕ) (x : A) → slice_get xs place ≡ Some x → test x ≡ false →
    find test (drop (place + 1) xs) ≡ find test (drop place xs)
walk_on {A} test xs place x is off =
    let next : place + 1 ≡ suc place = omega arith in ap (λ n. find test (drop n xs)) next ∙ behind xs place is
  where
    behind : (ys : List A) (n : ℕ) → slice_get ys n ≡ Some x → find test (drop (suc n) ys) ≡ find test (drop n ys)
    behind [] n at = absurd cc
    behind (first ∷ ys) zero at =
        let same : first ≡ x = cc in
        sym (ap (λ b. cond b (Some first) (find test ys)) (subst (λ (y : A). test y ≡ false) (sym same) off))
    behind (first ∷ ys) (suc n) at = behind ys n at

pub walk_end : {A : Type 0} (test : A → Bool) (xs : List A) (place : ℕ) → slice_get xs place ≡ None → find test (drop place xs) ≡ None
walk_end test [] zero is = refl
walk_end test [] (suc place) is = refl
walk_end test (first ∷ xs) zero is = absurd cc
walk_end test (first ∷ xs) (suc place) is = walk_end test xs place is

-- ---- open tickets in order of number

-- the stock whose make comes first, of the tickets from a number on
abbrev pub first_from : List Job → List Debris → List Stock → ℕ → List Ticket → Option Stock
first_from jobs debris stocks from tickets = first_free jobs debris stocks (filter (is_from from) tickets)

-- those behind the first have greater numbers
later_number : (first : Ticket) (tickets : List Ticket) (other : Ticket) → list_all (nat_lt first.number) (map number_of tickets) ≡ true →
    Contains tickets other → first.number < other.number
later_number first tickets other all among =
    ltb-true first.number other.number
    (contains_all (nat_lt first.number) (map number_of tickets) other.number all (contains_map number_of tickets other among))

-- and so they are all from its number on, and from the next
all_from : (from least : ℕ) (tickets : List Ticket) → from ≤ least + 1 → list_all (nat_lt least) (map number_of tickets) ≡ true →
    list_all (is_from from) tickets ≡ true
all_from from least [] low all = refl
all_from from least (ticket ∷ tickets) low all =
    let parts = and_parts (nat_lt least ticket.number) (list_all (nat_lt least) (map number_of tickets)) all in
    let more = ltb-true least ticket.number parts.0 in
    and_from (is_from from ticket) (list_all (is_from from) tickets) (le-leb from ticket.number (omega (arith, low, more)))
    (all_from from least tickets low parts.1)

all_zero : (tickets : List Ticket) → list_all (is_from 0) tickets ≡ true
all_zero [] = refl
all_zero (ticket ∷ tickets) = and_from (is_from 0 ticket) (list_all (is_from 0) tickets) (le-leb 0 ticket.number (omega arith)) (all_zero tickets)

-- the ticket of the lowest number
lowest_found : (test : Ticket → Bool) (tickets : List Ticket) (number : ℕ) → lowest test tickets ≡ Some number →
    (ticket : Ticket) × (find (is_due test) tickets ≡ Some ticket) × (ticket.number ≡ number)
lowest_found test tickets number is = by (find (is_due test) tickets) refl is
  where
    by : (o : Option Ticket) → find (is_due test) tickets ≡ o → option_map number_of o ≡ Some number →
        (ticket : Ticket) × (find (is_due test) tickets ≡ Some ticket) × (ticket.number ≡ number)
    by None found told = absurd cc
    by (Some ticket) found told = let same : ticket.number ≡ number = cc in (ticket, found, same)

lowest_none : (test : Ticket → Bool) (tickets : List Ticket) → lowest test tickets ≡ None → find (is_due test) tickets ≡ None
lowest_none test tickets is = by (find (is_due test) tickets) refl is
  where
    by : (o : Option Ticket) → find (is_due test) tickets ≡ o → option_map number_of o ≡ None → find (is_due test) tickets ≡ None
    by None found told = found
    by (Some ticket) found told = absurd cc

module _ (jobs : List Job) (debris : List Debris) (stocks : List Stock) where
  -- a ticket that is answered, or has a lower number, tells nothing
  passed_by : (from : ℕ) (first : Ticket) (tickets : List Ticket) → is_due (is_from from) first ≡ false →
      first_from jobs debris stocks from (first ∷ tickets) ≡ first_from jobs debris stocks from tickets
  passed_by from first tickets off = by (is_open first) (is_from from first) refl refl off
    where
      rest : List Ticket
      rest = filter (is_from from) tickets

      by : (o f : Bool) → is_open first ≡ o → is_from from first ≡ f → (o && f) ≡ false →
          first_from jobs debris stocks from (first ∷ tickets) ≡ first_from jobs debris stocks from tickets
      by true true lies reach is = absurd cc
      by true false lies reach is = ap (λ b. first_free jobs debris stocks (cond b (first ∷ rest) rest)) reach
      by false false lies reach is = ap (λ b. first_free jobs debris stocks (cond b (first ∷ rest) rest)) reach
      by false true lies reach is =
          ap (λ b. first_free jobs debris stocks (cond b (first ∷ rest) rest)) reach
          ∙ ap (λ b. option_or (cond b (free_row jobs debris stocks first) None) (first_free jobs debris stocks rest)) lies

  -- a ticket is the next that is open from a number on: that it waits for comes first, or else what the later ones wait for
  record IsDueNext (from : ℕ) (tickets : List Ticket) (ticket : Ticket) : Type 0 where
    found : ticket_at tickets ticket.number ≡ Some ticket
    first : first_from jobs debris stocks from tickets
        ≡ option_or (free_row jobs debris stocks ticket) (first_from jobs debris stocks (ticket.number + 1) tickets)
    least : from ≤ ticket.number

  -- the first of some tickets is
  due_first : (from : ℕ) (first : Ticket) (tickets : List Ticket) → list_all (nat_lt first.number) (map number_of tickets) ≡ true →
      is_open first ≡ true → is_from from first ≡ true → IsDueNext from (first ∷ tickets) first
  due_first from first tickets all lies reach = record {
    found = ap (λ b. cond b (Some first) (find (has_number first.number) tickets)) (eq-eqb first.number first.number refl);
    first = ap (λ b. first_free jobs debris stocks (cond b (first ∷ rest) rest)) reach
        ∙ ap (λ b. option_or (cond b (free_row jobs debris stocks first) None) (first_free jobs debris stocks rest)) lies
        ∙ ap (λ ts. option_or (free_row jobs debris stocks first) (first_free jobs debris stocks ts)) alike;
    least = least;
  }
    where
      rest : List Ticket
      rest = filter (is_from from) tickets

      later : List Ticket
      later = filter (is_from (first.number + 1)) tickets

      least : from ≤ first.number
      least = leb-true from first.number reach

      alike : rest ≡ filter (is_from (first.number + 1)) (first ∷ tickets)
      alike =
          let low = least in
          filter_all (is_from from) tickets (all_from from first.number tickets (omega (arith, low)) all)
          ∙ sym (filter_all (is_from (first.number + 1)) tickets (all_from (first.number + 1) first.number tickets (omega arith) all))
          ∙ ap (λ b. cond b (first ∷ later) later) (sym (lt-leb (first.number + 1) first.number (omega arith)))

  -- and one behind a ticket that isn't, is where it is among those
  due_behind : (from : ℕ) (first ticket : Ticket) (tickets : List Ticket) → first.number < ticket.number → is_due (is_from from) first ≡ false →
      IsDueNext from tickets ticket → IsDueNext from (first ∷ tickets) ticket
  due_behind from first ticket tickets less off next = record {
    found = ap (λ b. cond b (Some first) (find (has_number ticket.number) tickets))
        (ne_eqb first.number ticket.number (λ same. omega (arith, same, less)))
        ∙ next.found;
    first = passed_by from first tickets off ∙ next.first
        ∙ ap (λ b. option_or (free_row jobs debris stocks ticket) (first_free jobs debris stocks (cond b (first ∷ later) later)))
        (sym (lt-leb (ticket.number + 1) first.number (omega (arith, less))));
    least = next.least;
  }
    where
      later : List Ticket
      later = filter (is_from (ticket.number + 1)) tickets

  due_next : (from : ℕ) (tickets : List Ticket) (ticket : Ticket) → are_ascending (map number_of tickets) ≡ true →
      find (is_due (is_from from)) tickets ≡ Some ticket → IsDueNext from tickets ticket
  due_next from [] ticket up is = absurd cc
  due_next from (first ∷ tickets) ticket up is =
      by (is_open first) (is_from from first) refl refl is
      (λ it. due_next from tickets ticket
      (and_parts (list_all (nat_lt first.number) (map number_of tickets)) (are_ascending (map number_of tickets)) up).1 it)
    where
      all : list_all (nat_lt first.number) (map number_of tickets) ≡ true
      all = (and_parts (list_all (nat_lt first.number) (map number_of tickets)) (are_ascending (map number_of tickets)) up).0

      behind : is_due (is_from from) first ≡ false → find (is_due (is_from from)) tickets ≡ Some ticket →
          (find (is_due (is_from from)) tickets ≡ Some ticket → IsDueNext from tickets ticket) → IsDueNext from (first ∷ tickets) ticket
      behind off it rest =
          due_behind from first ticket tickets
          (later_number first tickets ticket all (found_contains (is_due (is_from from)) tickets ticket it)) off (rest it)

      by : (o f : Bool) → is_open first ≡ o → is_from from first ≡ f →
          cond (o && f) (Some first) (find (is_due (is_from from)) tickets) ≡ Some ticket →
          (find (is_due (is_from from)) tickets ≡ Some ticket → IsDueNext from tickets ticket) → IsDueNext from (first ∷ tickets) ticket
      by true true lies reach it rest =
          let one : first ≡ ticket = cc in
          subst (λ (t : Ticket). IsDueNext from (first ∷ tickets) t) one (due_first from first tickets all lies reach)
      by true false lies reach it rest = behind (ap₂ (λ (a b : Bool). a && b) lies reach) it rest
      by false f lies reach it rest = behind (ap (λ a. a && is_from from first) lies) it rest

  -- the lowest number of an open ticket from one on: what it waits for comes first, or else what the later ones wait for
  pub record IsNext (from number : ℕ) (tickets : List Ticket) : Type 0 where
    pub ticket : Ticket
    pub found : ticket_at tickets number ≡ Some ticket
    pub first : first_from jobs debris stocks from tickets
        ≡ option_or (free_row jobs debris stocks ticket) (first_from jobs debris stocks (number + 1) tickets)
    pub least : from ≤ number
    pub among : Contains tickets ticket
    pub numbered : ticket.number ≡ number

  pub next_is : (from number : ℕ) (tickets : List Ticket) → are_ascending (map number_of tickets) ≡ true →
      lowest (is_from from) tickets ≡ Some number → IsNext from number tickets
  next_is from number tickets up is =
      let (ticket, found, same) = lowest_found (is_from from) tickets number is in
      let due = due_next from tickets ticket up found in record {
        ticket = ticket;
        found = subst (λ n. ticket_at tickets n ≡ Some ticket) same due.found;
        first = subst (λ n. first_from jobs debris stocks from tickets
            ≡ option_or (free_row jobs debris stocks ticket) (first_from jobs debris stocks (n + 1) tickets)) same due.first;
        least = subst (λ n. from ≤ n) same due.least;
        among = found_contains (is_due (is_from from)) tickets ticket found;
        numbered = same;
      }

  -- the stock that it waits for, where the make of its row may begin
  pub next_found : (from number : ℕ) (tickets : List Ticket) (stock : Stock) → IsNext from number tickets →
      Some stock ≡ option_and_then (free_row jobs debris stocks) (ticket_at tickets number) →
      first_from jobs debris stocks from tickets ≡ Some stock
  next_found from number tickets stock next is =
      next.first
      ∙ ap (λ o. option_or o (first_from jobs debris stocks (number + 1) tickets))
      (ap (option_and_then (free_row jobs debris stocks)) (sym next.found) ∙ sym is)

  -- and where it may not
  pub next_passed : (from number : ℕ) (tickets : List Ticket) → IsNext from number tickets →
      None ≡ option_and_then (free_row jobs debris stocks) (ticket_at tickets number) →
      first_from jobs debris stocks (number + 1) tickets ≡ first_from jobs debris stocks from tickets
  next_passed from number tickets next is =
      sym (next.first
      ∙ ap (λ o. option_or o (first_from jobs debris stocks (number + 1) tickets))
      (ap (option_and_then (free_row jobs debris stocks)) (sym next.found) ∙ sym is))

  -- the number behind it is one of 64 bits
  pub next_fits : (from number : ℕ) (tickets : List Ticket) → IsNext from number tickets → list_all has_next tickets ≡ true → number + 1 < 2 ^ 64
  next_fits from number tickets next few =
      let fits = ltb-true (next.ticket.number + 1) (2 ^ 64) (contains_all has_next tickets next.ticket few next.among) in
      subst (λ n. n + 1 < 2 ^ 64) next.numbered fits

  -- where no ticket is open from a number on, none waits for a row
  pub next_none : (from : ℕ) (tickets : List Ticket) → lowest (is_from from) tickets ≡ None → first_from jobs debris stocks from tickets ≡ None
  next_none from tickets is = none tickets (lowest_none (is_from from) tickets is)
    where
      none : (ts : List Ticket) → find (is_due (is_from from)) ts ≡ None → first_from jobs debris stocks from ts ≡ None
      none [] it = refl
      none (first ∷ ts) it =
          elim (is_due (is_from from) first) as
          (λ b. is_due (is_from from) first ≡ b → cond b (Some first) (find (is_due (is_from from)) ts) ≡ None →
          first_from jobs debris stocks from (first ∷ ts) ≡ None) [
            | true ↦ λ here then_it. absurd cc
            | false ↦ λ off then_it. passed_by from first ts off ∙ none ts then_it
          ] refl it

  -- from the number 0 on are all
  pub from_zero : (tickets : List Ticket) → first_from jobs debris stocks 0 tickets ≡ first_free jobs debris stocks tickets
  from_zero tickets = ap (first_free jobs debris stocks) (filter_all (is_from 0) tickets (all_zero tickets))

-- ---- makes

-- the stock at exactly a path, if it has the stamp and stands
source_path : (path : List (List ℕ)) (stamp : ℕ) (stock : Stock) → is_source path stamp stock ≡ true → stock_at path stock ≡ true
source_path path stamp stock is =
    (and_parts (stock_at path stock) (stock.row.stamp == stamp)
    (and_parts (stock_at path stock && (stock.row.stamp == stamp)) stock.row.stands is).0).0

pub source_found : (path : List (List ℕ)) (stamp : ℕ) (stocks : List Stock) (stock : Stock) (b : Bool) → are_apart (rows_of stocks) ≡ true →
    find (stock_at path) stocks ≡ Some stock → stands_with stamp stock ≡ b → find (is_source path stamp) stocks ≡ cond b (Some stock) None
source_found path stamp stocks stock b apart found is =
    test_at path (is_source path stamp) stocks stock apart found (source_path path stamp)
    ∙ ap (λ c. cond c (Some stock) None)
    (ap (λ c. (c && (stock.row.stamp == stamp)) && stock.row.stands) (found_passes (stock_at path) stocks stock found) ∙ is)

pub source_none : (path : List (List ℕ)) (stamp : ℕ) (stocks : List Stock) → find (stock_at path) stocks ≡ None →
    find (is_source path stamp) stocks ≡ None
source_none path stamp [] is = refl
source_none path stamp (first ∷ stocks) is =
    elim (stock_at path first) as
    (λ b. cond b (Some first) (find (stock_at path) stocks) ≡ None →
    cond ((b && (first.row.stamp == stamp)) && first.row.stands) (Some first) (find (is_source path stamp) stocks) ≡ None) [
      | true ↦ λ it. absurd cc
      | false ↦ λ it. source_none path stamp stocks it
    ] is

-- the part that a make would read is lent by the stocks where it is by the rows
source_same : (jobs : List Job) (stocks : List Stock) (way : Method) →
    is_source_lent jobs stocks way ≡ option_map_or (is_lent_part jobs) (lent_by (way_in way) (rows_of stocks)) false
source_same jobs stocks (method.Write bytes) = refl
source_same jobs stocks method.Fetch = refl
source_same jobs stocks (method.Copy source rest stamp from) =
    by (find (is_source source stamp) stocks) refl
    ∙ ap (λ (o : Option Row). option_map_or (is_lent_part jobs) (option_map (lent_of source stamp) o) false)
    (rows_found (stands_as source stamp) stocks)
  where
    by : (o : Option Stock) → find (is_source source stamp) stocks ≡ o →
        option_map_or (is_stock_lent jobs) o false
        ≡ option_map_or (is_lent_part jobs) (option_map (lent_of source stamp) (option_map row_of o)) false
    by None found = refl
    by (Some stock) found =
        ap (λ (p : List (List ℕ)). is_lent p jobs)
        (same_names-eq stock.row.path source (source_path source stamp stock (found_passes (is_source source stamp) stocks stock found)))

module _ (work : WorkState) (stocks : List Stock) (each : (stock : Stock) → Contains stocks stock → IsStock work stock) where
  kept_same : (stock : Stock) → Contains stocks stock →
      is_stock_kept_back work.jobs work.debris stocks stock ≡ is_kept_back work (rows_of stocks) stock.row
  kept_same stock among =
      ap (λ b. stock.row.stands || is_lent stock.row.path work.jobs || list_any (is_debris_above stock.row.path) work.debris || b)
      (source_same work.jobs stocks stock.method
      ∙ ap (λ (w : Way). option_map_or (is_lent_part work.jobs) (lent_by w (rows_of stocks)) false) (sym (each stock among).way))

  free_same : (stock : Stock) → Contains stocks stock →
      option_map make_of_stock (if_free work.jobs work.debris stocks stock) ≡ make_of work (rows_of stocks) stock.row
  free_same stock among =
      by (is_stock_kept_back work.jobs work.debris stocks stock)
      ∙ ap (λ b. cond b None (Some (task.Make stock.row.path stock.row.stamp))) (kept_same stock among)
    where
      by : (b : Bool) → option_map make_of_stock (cond b None (Some stock)) ≡ cond b None (Some (task.Make stock.row.path stock.row.stamp))
      by true = refl
      by false = refl

  task_same : (ticket : Ticket) → option_map make_of_stock (free_for work.jobs work.debris stocks ticket) ≡ task_of work (rows_of stocks) ticket
  task_same ticket = by (is_open ticket)
    where
      found : (o : Option Stock) → find (covers_stock ticket.asked) stocks ≡ o →
          option_map make_of_stock (option_and_then (if_free work.jobs work.debris stocks) o)
          ≡ option_and_then (make_of work (rows_of stocks)) (option_map row_of o)
      found None is = refl
      found (Some stock) is = free_same stock (found_contains (covers_stock ticket.asked) stocks stock is)

      by : (b : Bool) → option_map make_of_stock (cond b (free_row work.jobs work.debris stocks ticket) None)
          ≡ cond b (option_and_then (make_of work (rows_of stocks)) (cover (rows_of stocks) ticket.asked)) None
      by true =
          found (find (covers_stock ticket.asked) stocks) refl
          ∙ ap (option_and_then (make_of work (rows_of stocks))) (rows_found (covers ticket.asked) stocks)
      by false = refl

  -- the make that comes first by the stocks is the one by the rows
  makes_same : (tickets : List Ticket) →
      option_map make_of_stock (first_free work.jobs work.debris stocks tickets) ≡ first_make work (rows_of stocks) tickets
  makes_same [] = refl
  makes_same (ticket ∷ tickets) =
      either (free_for work.jobs work.debris stocks ticket) (first_free work.jobs work.debris stocks tickets)
      ∙ ap₂ (λ (o p : Option Task). option_or o p) (task_same ticket) (makes_same tickets)
    where
      either : (o p : Option Stock) → option_map make_of_stock (option_or o p) ≡ option_or (option_map make_of_stock o) (option_map make_of_stock p)
      either None p = refl
      either (Some stock) p = refl

-- ---- wipes

-- of the rows that overlap a path the first one is at or above it exactly where some row is
under_same : (path : List (List ℕ)) (stocks : List Stock) → are_apart (rows_of stocks) ≡ true →
    is_under_row stocks path ≡ list_any (is_row_above path) (rows_of stocks)
under_same path stocks apart = by (find (is_next_overlap path None) stocks) refl
  where
    meets : (stock : Stock) → is_next_overlap path None stock ≡ true → overlap stock.row.path path ≡ true
    meets stock is = (and_parts (overlap stock.row.path path) true is).0

    passes : (stock : Stock) → overlap stock.row.path path ≡ true → is_next_overlap path None stock ≡ true
    passes stock is = and_from (overlap stock.row.path path) true is refl

    by : (o : Option Stock) → find (is_next_overlap path None) stocks ≡ o →
        option_map_or (leads_to path) o false ≡ list_any (is_row_above path) (rows_of stocks)
    by None found =
        sym (false_from_ne_true (list_any (is_row_above path) (rows_of stocks)) (λ some.
        let (row, among, above) = any_contains (is_row_above path) (rows_of stocks) some in
        let (stock, within, same) = mapped_contains row_of stocks row among in
        both_ways (is_next_overlap path None stock) (not_found (is_next_overlap path None) stocks stock found within)
        (passes stock (or_left (is_prefix stock.row.path path) (is_prefix path stock.row.path)
        (subst (λ (r : Row). is_prefix r.path path ≡ true) (sym same) above)))))
    by (Some first) found =
        same_test (leads_to path first) (list_any (is_row_above path) (rows_of stocks))
        (λ above. contains_any (is_row_above path) (rows_of stocks) first.row first_among above)
        (λ some.
        let (row, among, above) = any_contains (is_row_above path) (rows_of stocks) some in
        elim (overlap_cases first.row.path path (meets first (found_passes (is_next_overlap path None) stocks first found))) [
          | inl higher ↦ higher
          | inr lower ↦
              subst (λ (r : Row). is_prefix r.path path ≡ true)
              (apart_same (rows_of stocks) row first.row apart among first_among
              (or_left (is_prefix row.path first.row.path) (is_prefix first.row.path row.path)
              (prefix-trans row.path path first.row.path above lower))) above
        ])
      where
        first_among : Contains (rows_of stocks) first.row
        first_among = contains_map row_of stocks first (found_contains (is_next_overlap path None) stocks first found)

-- there is a lowest number exactly where a ticket is due
some_due : (test : Ticket → Bool) (tickets : List Ticket) → is_some (lowest test tickets) ≡ list_any (is_due test) tickets
some_due test [] = refl
some_due test (ticket ∷ tickets) = by (is_due test ticket) (some_due test tickets)
  where
    by : (b : Bool) → is_some (lowest test tickets) ≡ list_any (is_due test) tickets →
        is_some (option_map number_of (cond b (Some ticket) (find (is_due test) tickets))) ≡ (b || list_any (is_due test) tickets)
    by true rest = refl
    by false rest = rest

-- a path is strictly above a row with an open ticket exactly where one asks for a path at or below it and no row is at or above it
wanted_same : (next : ℕ) (book : Book) (path : List (List ℕ)) → IsBook next book →
    (list_any (is_due (asks_below path)) book.tickets && not (list_any (is_row_above path) book.rows))
    ≡ list_any (is_above_wanted path book.tickets) book.rows
wanted_same next book path rules =
    same_test (list_any (is_due (asks_below path)) book.tickets && not (list_any (is_row_above path) book.rows))
    (list_any (is_above_wanted path book.tickets) book.rows) up down
  where
    up : (list_any (is_due (asks_below path)) book.tickets && not (list_any (is_row_above path) book.rows)) ≡ true →
        list_any (is_above_wanted path book.tickets) book.rows ≡ true
    up is =
        let parts = and_parts (list_any (is_due (asks_below path)) book.tickets) (not (list_any (is_row_above path) book.rows)) is in
        let (ticket, asking, due) = any_contains (is_due (asks_below path)) book.tickets parts.0 in
        let asks = and_parts (is_open ticket) (asks_below path ticket) due in
        let (over, found, unmade, same) = ticket_waits next book ticket rules asking asks.0 in
        let among : Contains book.rows over = found_contains (covers ticket.asked) book.rows over found in
        let covering : covers ticket.asked over ≡ true = found_passes (covers ticket.asked) book.rows over found in
        let above : is_prefix over.path ticket.asked ≡ true =
        (and_parts (is_prefix over.path ticket.asked) (has_node over.tree (drop (length over.path) ticket.asked)) covering).0 in
        let off : is_prefix over.path path ≡ false =
        each_fails (is_row_above path) book.rows over (not-true (list_any (is_row_above path) book.rows) parts.1) among in
        let lower : is_prefix path over.path ≡ true =
        or_second (is_prefix over.path path) (is_prefix path over.path) off (overlap_of_prefixes over.path path ticket.asked above asks.1) in
        let differ : same_names path over.path ≡ false =
        false_from_ne_true (same_names path over.path) (λ one. both_ways (is_prefix over.path path) off
        (subst (λ (p : List (List ℕ)). is_prefix over.path p ≡ true) (sym (same_names-eq path over.path one)) (prefix-refl over.path))) in
        contains_any (is_above_wanted path book.tickets) book.rows over among
        (and_from (is_above path over.path) (is_wanted book.tickets over)
        (and_from (is_prefix path over.path) (not (same_names path over.path)) lower (ap not differ))
        (contains_any (waits_for over) book.tickets ticket asking (and_from (is_open ticket) (covers ticket.asked over) asks.0 covering)))

    down : list_any (is_above_wanted path book.tickets) book.rows ≡ true →
        (list_any (is_due (asks_below path)) book.tickets && not (list_any (is_row_above path) book.rows)) ≡ true
    down is =
        let (row, among, does) = any_contains (is_above_wanted path book.tickets) book.rows is in
        let parts = and_parts (is_above path row.path) (is_wanted book.tickets row) does in
        let strictly = and_parts (is_prefix path row.path) (not (same_names path row.path)) parts.0 in
        let (ticket, asking, waits) = any_contains (waits_for row) book.tickets parts.1 in
        let lies = and_parts (is_open ticket) (covers ticket.asked row) waits in
        let above : is_prefix row.path ticket.asked ≡ true =
        (and_parts (is_prefix row.path ticket.asked) (has_node row.tree (drop (length row.path) ticket.asked)) lies.1).0 in
        let bare : list_any (is_row_above path) book.rows ≡ false =
        false_from_ne_true (list_any (is_row_above path) book.rows) (λ some.
        let (other, also, higher) = any_contains (is_row_above path) book.rows some in
        let one : other ≡ row =
        apart_same book.rows other row rules.apart also among
        (or_left (is_prefix other.path row.path) (is_prefix row.path other.path) (prefix-trans other.path path row.path higher strictly.0)) in
        let back : is_prefix row.path path ≡ true = subst (λ (r : Row). is_prefix r.path path ≡ true) one higher in
        both_ways (same_names path row.path) (not-true (same_names path row.path) strictly.1)
        (subst (λ (p : List (List ℕ)). same_names path p ≡ true) (prefix-antisym path row.path strictly.0 back) (same_names-refl path))) in
        and_from (list_any (is_due (asks_below path)) book.tickets) (not (list_any (is_row_above path) book.rows))
        (contains_any (is_due (asks_below path)) book.tickets ticket asking
        (and_from (is_open ticket) (asks_below path ticket) lies.0 (prefix-trans path row.path ticket.asked strictly.0 above)))
        (ap not bare)

-- debris is strictly above a row with an open ticket by the stocks exactly where it is by the rows
way_same : (next : ℕ) (book : Book) (stocks : List Stock) (path : List (List ℕ)) → IsBook next book → rows_of stocks ≡ book.rows →
    is_in_the_way stocks book.tickets path ≡ list_any (is_above_wanted path book.tickets) book.rows
way_same next book stocks path rules same =
    ap₂ (λ (a b : Bool). a && not b) (some_due (asks_below path) book.tickets)
    (under_same path stocks (subst (λ (r : List Row). are_apart r ≡ true) (sym same) rules.apart)
    ∙ ap (λ (r : List Row). list_any (is_row_above path) r) same)
    ∙ wanted_same next book path rules

-- ---- both

-- the task that comes first by the stocks is the one by the book and the work state
first_same : (next : ℕ) (work : WorkState) (book : Book) (stocks : List Stock) → IsBook next book → rows_of stocks ≡ book.rows →
    ((stock : Stock) → Contains stocks stock → IsStock work stock) → first_in work.jobs work.debris stocks book.tickets ≡ first_task work book
first_same next work book stocks rules same each =
    ap₂ (λ (o p : Option Task). option_or o p)
    (ap (option_map wipe_of) (find_alike (may_wipe_in work.jobs stocks book.tickets) (may_wipe work book) wipes work.debris))
    (makes_same work stocks each book.tickets ∙ ap (λ (r : List Row). first_make work r book.tickets) same)
  where
    wipes : (debris : Debris) → may_wipe_in work.jobs stocks book.tickets debris ≡ may_wipe work book debris
    wipes debris =
        ap (λ b. not (is_lent debris.path work.jobs) && (debris.condemned || b)) (way_same next book stocks debris.path rules same)

-- and where some parts stand for a point that keeps its rules, it is the point's
pub chosen_is : {D K : Type 0} (parts : Parts D K) (point : Point) → StandFor parts point → IsPoint point →
    first_in (jobs_of parts.jobs) parts.debris.list parts.rows parts.tickets.all ≡ first_task point.work point.book
chosen_is parts point stands rules =
    ap (λ (j : List Job). first_in j parts.debris.list parts.rows parts.tickets.all) stands.work.jobs
    ∙ ap (λ (d : List Debris). first_in point.work.jobs d parts.rows parts.tickets.all) stands.work.debris
    ∙ ap (λ (b : Book). first_in point.work.jobs point.work.debris parts.rows b.tickets) stands.book
    ∙ first_same (next_number point) point.work point.book parts.rows rules.book (ap (λ (b : Book). b.rows) stands.book) stands.work.stocks

pub chosen_found : {D K E : Type 0} (parts : Parts D K) (r : Result (Option Task) E) →
    IfOk r (λ found. found ≡ first_in (jobs_of parts.jobs) parts.debris.list parts.rows parts.tickets.all) →
    IfOk r (λ found. (point : Point) → StandFor parts point → IsPoint point → found ≡ first_task point.work point.book)
chosen_found parts (Ok found) is = λ point stands rules. is ∙ chosen_is parts point stands rules
chosen_found parts (Err want) is = tt

pub chosen_want : {D K E : Type 0} (parts : Parts D K) (r : Result (Option Task) E) →
    IfErr r (λ want. is_some (first_in (jobs_of parts.jobs) parts.debris.list parts.rows parts.tickets.all) ≡ true) →
    IfErr r (λ want. (point : Point) → StandFor parts point → IsPoint point → is_some (first_task point.work point.book) ≡ true)
chosen_want parts (Ok found) is = tt
chosen_want parts (Err want) is = λ point stands rules. ap (λ (o : Option Task). is_some o) (sym (chosen_is parts point stands rules)) ∙ is

-- the number behind that of each ticket is one of 64 bits where the number of the next entry is
all_next : (next : ℕ) (tickets : List Ticket) → next < 2 ^ 64 → All (λ (number : ℕ). number < next) (map number_of tickets) →
    list_all has_next tickets ≡ true
all_next next [] fits below = refl
all_next next (ticket ∷ tickets) fits below =
    let less = All-head (λ (number : ℕ). number < next) ticket.number (map number_of tickets) below in
    and_from (has_next ticket) (list_all has_next tickets) (lt-ltb (ticket.number + 1) (2 ^ 64) (omega (arith, less, fits)))
    (all_next next tickets fits (All-tail (λ (number : ℕ). number < next) ticket.number (map number_of tickets) below))

pub ruled_next : {D K : Type 0} (number : ℕ) (parts : Parts D K) → number < 2 ^ 64 → AreRuled number parts → list_all has_next parts.tickets.all ≡ true
ruled_next number parts fits ruled =
    subst (λ (b : Book). list_all has_next b.tickets ≡ true) (sym ruled.stands.book)
    (all_next (next_number ruled.point) ruled.point.book.tickets (subst (λ n. n < 2 ^ 64) (sym ruled.next) fits) ruled.rules.book.below)
