-- A command gets a hold on a path, and with it the use of a row.
use Rattle.std.proofs.Common.{◌≡◌, ℕ, ◌+◌, ◌≤◌, ◌<◌, nat_lt, Bool, true, false, ◌&&◌, not, List, [], ◌∷◌, Option, Some, None, cond, refl, sym, ap, ap₂, subst, ◌∙◌, map, filter, Contains, count_by, length, arith}
use Rattle.std.proofs.lemmas.List.{length-map}
use Rattle.std.proofs.lemmas.List.Sums.{sum_by-append}
use Rattle.std.specs.List.{All, list_all, list_any}
use Rattle.std.proofs.lemmas.Bool.{and_from, both_ways, le-ltb, lt-ltb}
use Rattle.std.proofs.lemmas.List.Elements.{All-head, All-tail}
use Rattle.mat_path.proofs.Elements.{contains_map, mapped_contains}
use Rattle.mat_path.specs.Names.{same_names}
use Rattle.mat_tree.specs.declared.sum.Sum.{Sum}
use Rattle.mat_model.specs.declared.answers.Limit.{Limit}
use Rattle.mat_model.specs.declared.answers.Limit.TheVariants as limit
use Rattle.mat_model.specs.declared.answers.Reply.{Reply}
use Rattle.mat_model.specs.declared.answers.Reply.TheVariants as reply
use Rattle.mat_model.specs.declared.book.Book.{Book}
use Rattle.mat_model.specs.declared.book.Row.{Row}
use Rattle.mat_model.specs.declared.book.Ticket.{Ticket}
use Rattle.mat_model.specs.declared.limits.Limits.{Limits}
use Rattle.mat_model.specs.declared.requests.Asked.{Asked}
use Rattle.mat_model.specs.declared.requests.Asked.TheVariants as asked
use Rattle.mat_model.specs.Books.{number_of}
use Rattle.mat_model.specs.History.{Point, nodes_of}
use Rattle.mat_model.specs.Kept.{KeptRow}
use Rattle.mat_model.specs.Requests.{RequestContext, ensure, ensure_row, grant, serve_now}
use Rattle.mat_model.specs.Room.{entries_for, full_served, full_table, held_bytes, held_for, is_alone, is_declaration, row_paths, spent, waits_past}
use Rattle.mat_model.specs.Rows.{is_at_path, used, used_row}
use Rattle.mat_model.specs.Tickets.{is_open}
use Rattle.mat_model.specs.WorkState.{WayOf, WorkState, has_stamp, is_cleaning, ways_after, work_asked}
use Rattle.model_laws.specs.RoomRules.{IsRoomy}
use Rattle.model_laws.proofs.Changes.{used-path, used-stamp}
use Rattle.model_laws.proofs.Idle.{has_one}
use Rattle.model_laws.proofs.RoomLists.{any_mapped, sum_alike}
use Rattle.job_book.specs.Jobs.{jobs_of}
use Rattle.row_book.specs.Stocks.{stock_at, used_stock, with_use}
use Rattle.row_book.specs.declared.stock.Stock.{Stock}
use Rattle.ticket_book.specs.Asked.{is_earlier}
use Rattle.mat_core.specs.Books.{AreWork, IsStock, StandFor, book_in}
use Rattle.mat_core.specs.Grants.{IsGranted, granted, with_open}
use Rattle.mat_core.specs.Rooms.{full_grant, spent_in}
use Rattle.mat_core.specs.Served.{Serves, full_of, is_entered, is_quiet}
use Rattle.mat_core.specs.declared.parts.Parts.{Parts}
use Rattle.mat_core.proofs.ServeLemmas.{beside_reserves, same_beside, same_parts, same_reserves, skip, spent_same, work_stays}

no : {X : Type 0} → false ≡ true → X
no is = absurd (both_ways false refl is)

-- ---- rows that are used

-- as many kept rows are alone once a row was used
alone_used : (place : List (List ℕ)) (moment : ℕ) (rows : List Row) (kept : List KeptRow) →
    filter (is_alone (used place moment rows)) kept ≡ filter (is_alone rows) kept
alone_used place moment rows [] = refl
alone_used place moment rows (one ∷ kept) =
    ap₂ (λ (b : Bool) (rest : List KeptRow). cond b (one ∷ rest) rest)
    (ap not (any_mapped (is_at_path one.path) (used_row place moment) at rows)) (alone_used place moment rows kept)
  where
    at : (row : Row) → is_at_path one.path (used_row place moment row) ≡ is_at_path one.path row
    at row = ap (λ p. same_names p one.path) (used-path place moment row)

-- as many paths have a row, a kept row or both
pub paths_used : (place : List (List ℕ)) (moment : ℕ) (rows : List Row) (kept : List KeptRow) →
    length (used place moment rows) + length (filter (is_alone (used place moment rows)) kept) ≡ length rows + length (filter (is_alone rows) kept)
paths_used place moment rows kept =
    ap₂ (λ (n m : ℕ). n + m) (length-map rows (used_row place moment)) (ap length (alone_used place moment rows kept))

-- as many bytes are held
pub held_used : (place : List (List ℕ)) (moment : ℕ) (ways : List WayOf) (rows : List Row) → held_bytes ways (used place moment rows) ≡ held_bytes ways rows
held_used place moment ways rows = sum_alike (held_for ways) (used_row place moment) same rows
  where
    same : (row : Row) → held_for ways (used_row place moment row) ≡ held_for ways row
    same row =
        elim (is_at_path place row) as (λ b. held_for ways (cond b (record row { last = moment }) row) ≡ held_for ways row)
        [ true ↦ refl | false ↦ refl ]

-- each row still has its stamp
pub stamps_used : (place : List (List ℕ)) (moment : ℕ) (rows : List Row) (row : Row) → Contains rows row →
    list_any (has_stamp row.stamp) (used place moment rows) ≡ true
stamps_used place moment rows row among =
    has_one (used place moment rows) row (used_row place moment row) (contains_map (used_row place moment) rows row among)
    (used-stamp place moment row)

-- and what is kept beside it
pub stock_used : (place : List (List ℕ)) (moment : ℕ) (work : WorkState) (stock : Stock) → IsStock work stock → IsStock work (used_stock place moment stock)
stock_used place moment work stock is =
    elim (stock_at place stock) as (λ b. IsStock work (cond b (with_use moment stock) stock))
    [ true ↦ record { way = is.way; mark = is.mark; right = is.right } | false ↦ is ]

-- ---- replies

-- what holds of a request whose reply grants a hold
pub record IsGrant (request : Asked) (said : Reply) : Type 0 where
  quiet : is_quiet said ≡ true
  entered : is_entered said ≡ true
  full : full_of said ≡ None
  waits : waits_past said ≡ false
  cleaning : is_cleaning said ≡ false
  one : entries_for request said ≡ 1
  ways : (rows : List Row) (ways : List WayOf) → ways_after request said rows ways ≡ ways
  nodes : (book : Book) → nodes_of request said book ≡ 0
  declares : is_declaration request ≡ false

pub same_grant : (command stamp : ℕ) (path : List (List ℕ)) (sum : Sum) → IsGrant (asked.Matches command path sum) (reply.Same stamp)
same_grant command stamp path sum = record {
  quiet = refl;
  entered = refl;
  full = refl;
  waits = refl;
  cleaning = refl;
  one = refl;
  ways = λ rows ways. refl;
  nodes = λ book. refl;
  declares = refl;
}

pub ready_grant : (command stamp : ℕ) (path : List (List ℕ)) (sum : Sum) → IsGrant (asked.Ensure command path) (reply.Ready stamp sum)
ready_grant command stamp path sum = record {
  quiet = refl;
  entered = refl;
  full = refl;
  waits = refl;
  cleaning = refl;
  one = refl;
  ways = λ rows ways. refl;
  nodes = λ book. refl;
  declares = refl;
}

pub asked_grant : (command number : ℕ) (path : List (List ℕ)) → IsGrant (asked.Ensure command path) (reply.Asked number)
asked_grant command number path = record {
  quiet = refl;
  entered = refl;
  full = refl;
  waits = refl;
  cleaning = refl;
  one = refl;
  ways = λ rows ways. refl;
  nodes = λ book. refl;
  declares = refl;
}

-- ---- room

-- the tickets with an open one, if one is asked for
abbrev pub tickets_for : ℕ → ℕ → List (List ℕ) → Bool → List Ticket → List Ticket
tickets_for number command path asks tickets = cond asks (with_open number command path tickets) tickets

-- a grant passes the limit that the parts count
granted_room : {D K : Type 0} (number command : ℕ) (path place : List (List ℕ)) (asks : Bool) (request : Asked) (said : Reply) (old : Parts D K)
    (point : Point) → IsGrant request said → StandFor old point → IsRoomy old.base.limits point →
    full_served old.base.limits point request
    (record { reply = said; book = granted command path place (tickets_for number command path asks old.tickets.all) (book_in old) })
    ≡ full_grant old command path asks
granted_room {D} {K} number command path place asks request said old point facts stands roomy =
    ap (λ n. cond (nat_lt limits.history n) (Some limit.History) rest) spends
    ∙ ap (λ r. cond (nat_lt limits.history (spent_in old + 1)) (Some limit.History) r)
    (skip (is_declaration request && nat_lt limits.nodes nodes) (Some limit.Nodes) _ (ap (λ b. b && nat_lt limits.nodes nodes) facts.declares)
    ∙ skip (waits_past said) (Some limit.Waiting) _ facts.waits
    ∙ skip (nat_lt limits.nodes nodes) (Some limit.Nodes) _ (le-ltb limits.nodes nodes few)
    ∙ skip (nat_lt limits.rows (row_paths left point.kept)) (Some limit.Rows) _ (le-ltb limits.rows _ paths)
    ∙ skip (nat_lt limits.held (held_bytes (ways_after request said point.book.rows point.work.ways) left.rows)) (Some limit.Held) _
    (le-ltb limits.held _ held)
    ∙ ap (λ b. cond b (Some limit.Asked) (cond (nat_lt limits.holds (length left.holds)) (Some limit.Holds) None)) (opens asks))
  where
    limits : Limits
    limits = old.base.limits

    left : Book
    left = granted command path place (tickets_for number command path asks old.tickets.all) (book_in old)

    nodes : ℕ
    nodes = point.nodes + nodes_of request said point.book

    rest : Option Limit
    rest = cond (is_declaration request && nat_lt limits.nodes nodes) (Some limit.Nodes) (full_table limits point request (record { reply = said; book = left }))

    spends : spent point + entries_for request said ≡ spent_in old + 1
    spends = ap₂ (λ (n m : ℕ). n + m) (sym (spent_same old point stands)) facts.one

    few : nodes ≤ limits.nodes
    few = let none = facts.nodes point.book in omega (arith, none, roomy.nodes)

    rows : (book_in old).rows ≡ point.book.rows
    rows = ap (λ (b : Book). b.rows) stands.book

    paths : row_paths left point.kept ≤ limits.rows
    paths =
        subst (λ n. n ≤ limits.rows)
        (sym (paths_used place old.moment (book_in old).rows point.kept ∙ ap (λ r. length r + length (filter (is_alone r) point.kept)) rows)) roomy.rows

    held : held_bytes (ways_after request said point.book.rows point.work.ways) left.rows ≤ limits.held
    held =
        subst (λ n. n ≤ limits.held)
        (sym (ap (λ w. held_bytes w left.rows) (facts.ways point.book.rows point.work.ways)
        ∙ held_used place old.moment point.work.ways (book_in old).rows
        ∙ ap (held_bytes point.work.ways) rows)) roomy.held

    opens : (asks : Bool) → nat_lt limits.asked (count_by is_open (tickets_for number command path asks old.tickets.all))
        ≡ (asks && nat_lt limits.asked (count_by is_open old.tickets.all + 1))
    opens true =
        ap (nat_lt limits.asked)
        (sum_by-append (λ (t : Ticket). cond (is_open t) 1 0) old.tickets.all
        (record { number = number; command = command; asked = path; answered = None } ∷ []))
    opens false = le-ltb limits.asked _ (subst (λ (b : Book). count_by is_open b.tickets ≤ limits.asked) (sym stands.book) roomy.asked)

-- ---- requests

-- what a request makes of a book that grants a hold
abbrev pub Granting : {D K : Type 0} → ℕ → ℕ → List (List ℕ) → List (List ℕ) → Bool → Asked → Reply → Parts D K → Type 0
Granting number command path place asks request said old =
    (context : RequestContext) → serve_now number context request (book_in old)
    ≡ record { reply = said; book = granted command path place (tickets_for number command path asks old.tickets.all) (book_in old) }

-- a grant for which there is no room
pub full_serves : {D K : Type 0} (number command : ℕ) (path place : List (List ℕ)) (asks : Bool) (request : Asked) (said : Reply) (which : Limit)
    (old : Parts D K) → IsGrant request said → Granting number command path place asks request said old →
    full_grant old command path asks ≡ Some which → Serves number request (reply.Full which) old old
full_serves number command path place asks request said which old facts served full = record {
  quiet = refl;
  beside = same_beside old;
  unchanged = λ _. same_parts old;
  served = λ is. no is;
  work = λ is. no is;
  kept = refl;
  reserves = same_reserves old;
  nodes = λ is. no is;
  paths = λ is. no is;
  room = λ _ point context stands roomy.
      sym (ap (full_served old.base.limits point request) (served context)
      ∙ granted_room number command path place asks request said old point facts stands roomy
      ∙ full);
}

-- a grant for which there is room
pub grant_serves : {D K : Type 0} (number command : ℕ) (path place : List (List ℕ)) (asks : Bool) (request : Asked) (said : Reply)
    (old new : Parts D K) → IsGrant request said → Granting number command path place asks request said old →
    full_grant old command path asks ≡ None → IsGranted command path place (tickets_for number command path asks old.tickets.all) old new →
    Serves number request said old new
grant_serves {D} {K} number command path place asks request said old new facts served room is = record {
  quiet = facts.quiet;
  beside = is.beside;
  unchanged = λ out. absurd (both_ways (is_entered said) out facts.entered);
  served = λ _ context. ap (λ b. record { reply = said; book = b }) is.book ∙ sym (served context);
  work = λ _ work rules are. subst (AreWork new) (sym (stays work)) (moved work are);
  kept = ap (λ k. k.marks) is.kept;
  reserves = beside_reserves old new is.debris is.jobs is.kept;
  nodes = λ _. is.nodes ∙ omega (arith, facts.nodes (book_in old));
  paths = λ _ kept marks counted. is.paths ∙ counted
      ∙ sym (paths_used place old.moment (book_in old).rows kept)
      ∙ ap (λ r. length r + length (filter (is_alone r) kept)) (sym rows);
  room = λ _ point context stands roomy. facts.full
      ∙ sym (ap (full_served old.base.limits point request) (served context)
      ∙ granted_room number command path place asks request said old point facts stands roomy
      ∙ room);
}
  where
    rows : (book_in new).rows ≡ used place old.moment (book_in old).rows
    rows = ap (λ (b : Book). b.rows) is.book

    stays : (work : WorkState) → work_asked request said (book_in old).rows (book_in new).rows work ≡ work
    stays work = work_stays request said (book_in old).rows (book_in new).rows work
        (λ row among. subst (λ r. list_any (has_stamp row.stamp) r ≡ true) (sym rows) (stamps_used place old.moment (book_in old).rows row among))
        facts.cleaning (facts.ways (book_in old).rows work.ways)

    moved : (work : WorkState) → AreWork old work → AreWork new work
    moved work are = record {
      stocks = λ stock among.
          let (one, within, same) = mapped_contains (used_stock place old.moment) old.rows stock (subst (λ r. Contains r stock) is.rows among) in
          subst (IsStock work) same (stock_used place old.moment work one (are.stocks one within));
      jobs = ap jobs_of is.jobs ∙ are.jobs;
      cleaned = λ running among. are.cleaned running (subst (λ j. Contains j running) is.jobs among);
      debris = ap (λ d. d.list) is.debris ∙ are.debris;
    }

-- ---- what is asked for

-- what a request makes of a book in which a row covers a path
pub ready_served : (number command : ℕ) (path place : List (List ℕ)) (row : Row) (book : Book) → place ≡ row.path → row.stands ≡ true →
    ensure number command path book ≡ ensure_row number command path book (Some row) →
    ensure number command path book ≡ record { reply = reply.Ready row.stamp row.sum; book = granted command path place book.tickets book }
ready_served number command path place row book at stands found =
    found
    ∙ ap (λ b. grant number command path row.stamp row.sum b (record book { rows = used row.path book.now book.rows })) stands
    ∙ ap (λ p. record { reply = reply.Ready row.stamp row.sum; book = granted command path p book.tickets book }) (sym at)

pub asked_served : (number command : ℕ) (path place : List (List ℕ)) (row : Row) (book : Book) → place ≡ row.path → row.stands ≡ false →
    ensure number command path book ≡ ensure_row number command path book (Some row) →
    ensure number command path book
    ≡ record { reply = reply.Asked number; book = granted command path place (with_open number command path book.tickets) book }
asked_served number command path place row book at stands found =
    found
    ∙ ap (λ b. grant number command path row.stamp row.sum b (record book { rows = used row.path book.now book.rows })) stands
    ∙ ap (λ p. record { reply = reply.Asked number; book = granted command path p (with_open number command path book.tickets) book }) (sym at)

-- an ensure for which there is no room
pub ensure_full : {D K : Type 0} (number command : ℕ) (path : List (List ℕ)) (row : Row) (which : Limit) (old : Parts D K) →
    ensure number command path (book_in old) ≡ ensure_row number command path (book_in old) (Some row) →
    full_grant old command path (not row.stands) ≡ Some which → Serves number (asked.Ensure command path) (reply.Full which) old old
ensure_full {D} {K} number command path row which old found full = by row.stands refl
  where
    by : (b : Bool) → row.stands ≡ b → Serves number (asked.Ensure command path) (reply.Full which) old old
    by true stands =
        full_serves number command path row.path false (asked.Ensure command path) (reply.Ready row.stamp row.sum) which old
        (ready_grant command row.stamp path row.sum)
        (λ context. ready_served number command path row.path row (book_in old) refl stands found)
        (sym (ap (λ b. full_grant old command path (not b)) stands) ∙ full)
    by false lies =
        full_serves number command path row.path true (asked.Ensure command path) (reply.Asked number) which old
        (asked_grant command number path)
        (λ context. asked_served number command path row.path row (book_in old) refl lies found)
        (sym (ap (λ b. full_grant old command path (not b)) lies) ∙ full)

-- an ensure of a path whose row stands, for which there is room
pub ensure_ready : {D K : Type 0} (number command : ℕ) (path place : List (List ℕ)) (row : Row) (old new : Parts D K) → place ≡ row.path →
    row.stands ≡ true → ensure number command path (book_in old) ≡ ensure_row number command path (book_in old) (Some row) →
    full_grant old command path (not row.stands) ≡ None → IsGranted command path place old.tickets.all old new →
    Serves number (asked.Ensure command path) (reply.Ready row.stamp row.sum) old new
ensure_ready number command path place row old new at stands found room is =
    grant_serves number command path place false (asked.Ensure command path) (reply.Ready row.stamp row.sum) old new
    (ready_grant command row.stamp path row.sum)
    (λ context. ready_served number command path place row (book_in old) at stands found)
    (sym (ap (λ b. full_grant old command path (not b)) stands) ∙ room) is

-- an ensure of a path whose row doesn't stand, for which there is room
pub ensure_asked : {D K : Type 0} (number command : ℕ) (path place : List (List ℕ)) (row : Row) (old new : Parts D K) → place ≡ row.path →
    row.stands ≡ false → ensure number command path (book_in old) ≡ ensure_row number command path (book_in old) (Some row) →
    full_grant old command path (not row.stands) ≡ None → IsGranted command path place (with_open number command path old.tickets.all) old new →
    Serves number (asked.Ensure command path) (reply.Asked number) old new
ensure_asked number command path place row old new at lies found room is =
    grant_serves number command path place true (asked.Ensure command path) (reply.Asked number) old new (asked_grant command number path)
    (λ context. asked_served number command path place row (book_in old) at lies found)
    (sym (ap (λ b. full_grant old command path (not b)) lies) ∙ room) is

-- the tickets of a book that keeps its rules come before the next entry
pub all_earlier : (next : ℕ) (tickets : List Ticket) → All (λ (number : ℕ). number < next) (map number_of tickets) →
    list_all (is_earlier next) tickets ≡ true
all_earlier next [] below = refl
all_earlier next (ticket ∷ tickets) below =
    and_from (nat_lt ticket.number next) (list_all (is_earlier next) tickets)
    (lt-ltb ticket.number next (All-head (λ (number : ℕ). number < next) ticket.number (map number_of tickets) below))
    (all_earlier next tickets (All-tail (λ (number : ℕ). number < next) ticket.number (map number_of tickets) below))
