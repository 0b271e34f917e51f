-- A request that is refused, or that only looks.
use Rattle.std.proofs.Common.{◌≡◌, ℕ, ◌+◌, ◌*◌, ◌≤◌, nat_lt, Bool, true, false, ◌&&◌, List, [], ◌∷◌, Option, Some, None, cond, refl, sym, ap, subst, ◌∙◌, le_trans, le_refl, filter, Contains, count_by, length, arith}
use Rattle.std.proofs.lemmas.List.{length-map}
use Rattle.std.specs.List.{list_all, list_any}
use Rattle.std.proofs.lemmas.Bool.{both_ways, le-ltb}
use Rattle.mat_path.proofs.Elements.{filter_all}
use Rattle.mat_model.specs.declared.answers.Limit.{Limit}
use Rattle.mat_model.specs.declared.answers.Limit.TheVariants as limit
use Rattle.mat_model.specs.declared.answers.Reply.{Reply}
use Rattle.mat_model.specs.declared.answers.Reply.TheVariants as reply
use Rattle.mat_model.specs.declared.book.Book.{Book}
use Rattle.mat_model.specs.declared.book.Row.{Row}
use Rattle.mat_model.specs.declared.limits.Limits.{Limits}
use Rattle.mat_model.specs.declared.requests.Asked.{Asked}
use Rattle.mat_model.specs.Gate.{Served}
use Rattle.mat_model.specs.History.{Point, nodes_of}
use Rattle.mat_model.specs.Requests.{RequestContext, serve_now}
use Rattle.job_book.specs.Jobs.{job_of, jobs_of}
use Rattle.job_run.specs.Orders.{is_right}
use Rattle.row_book.specs.declared.stock.Stock.{Stock}
use Rattle.row_book.specs.Stocks.{rows_of}
use Rattle.mat_model.specs.Room.{entries_for, full_served, is_alone, full_table, held_bytes, is_declaration, row_paths, spent, waits_past}
use Rattle.mat_model.specs.Tickets.{is_open}
use Rattle.mat_model.specs.WorkState.{WayOf, WorkState, cleans_all, condemned_all, has_stamp, is_cleaning, is_kept_dirty, removed_rows, ways_after, without_removed, work_asked}
use Rattle.model_laws.specs.RoomRules.{IsRoomy}
use Rattle.model_laws.proofs.Idle.{has_one, none_removed}
use Rattle.mat_core.specs.Books.{AreWork, StandFor, book_in}
use Rattle.mat_core.specs.Rooms.{KeepsReserves, if_room, spent_in}
use Rattle.mat_core.specs.Served.{IsBeside, IsBesideBook, IsUnchanged, Serves, full_of, is_entered, is_quiet, is_want, leaves_book}
use Rattle.mat_core.specs.declared.parts.Parts.{Parts}

-- ---- replies

-- what holds of a reply that leaves the book
pub record LeavesBook (said : Reply) : Type 0 where
  quiet : is_quiet said ≡ true
  entered : is_entered said ≡ true
  full : full_of said ≡ None
  waits : waits_past said ≡ false
  cleaning : is_cleaning said ≡ false
  ways : (request : Asked) (rows : List Row) (ways : List WayOf) → ways_after request said rows ways ≡ ways

no : {X : Type 0} → false ≡ true → X
no is = absurd (both_ways false refl is)

pub leaves_facts : (said : Reply) → leaves_book said ≡ true → LeavesBook said
leaves_facts reply.Entered is = no is
leaves_facts (reply.Took n) is = no is
leaves_facts (reply.Left n) is = no is
leaves_facts (reply.Declared n) is = no is
leaves_facts (reply.Kept n) is = no is
leaves_facts (reply.Same n) is = no is
leaves_facts reply.Other is = record { quiet = refl; entered = refl; full = refl; waits = refl; cleaning = refl; ways = λ request rows ways. refl }
leaves_facts reply.Nothing is = record { quiet = refl; entered = refl; full = refl; waits = refl; cleaning = refl; ways = λ request rows ways. refl }
leaves_facts (reply.Stands n) is = record { quiet = refl; entered = refl; full = refl; waits = refl; cleaning = refl; ways = λ request rows ways. refl }
leaves_facts (reply.NotMade n) is = record { quiet = refl; entered = refl; full = refl; waits = refl; cleaning = refl; ways = λ request rows ways. refl }
leaves_facts (reply.Ready n sum) is = no is
leaves_facts (reply.Asked n) is = no is
leaves_facts (reply.Invalid n) is = no is
leaves_facts (reply.Cleaned dry rows strays) is = no is
leaves_facts (reply.Flushed n) is = no is
leaves_facts reply.NotLive is = record { quiet = refl; entered = refl; full = refl; waits = refl; cleaning = refl; ways = λ request rows ways. refl }
leaves_facts reply.Known is = record { quiet = refl; entered = refl; full = refl; waits = refl; cleaning = refl; ways = λ request rows ways. refl }
leaves_facts (reply.Differs n) is = record { quiet = refl; entered = refl; full = refl; waits = refl; cleaning = refl; ways = λ request rows ways. refl }
leaves_facts (reply.Queued n) is = no is
leaves_facts reply.Unknown is = record { quiet = refl; entered = refl; full = refl; waits = refl; cleaning = refl; ways = λ request rows ways. refl }
leaves_facts (reply.Busy n) is = record { quiet = refl; entered = refl; full = refl; waits = refl; cleaning = refl; ways = λ request rows ways. refl }
leaves_facts reply.NoSource is = record { quiet = refl; entered = refl; full = refl; waits = refl; cleaning = refl; ways = λ request rows ways. refl }
leaves_facts reply.TooLong is = record { quiet = refl; entered = refl; full = refl; waits = refl; cleaning = refl; ways = λ request rows ways. refl }
leaves_facts reply.Undeclared is = record { quiet = refl; entered = refl; full = refl; waits = refl; cleaning = refl; ways = λ request rows ways. refl }
leaves_facts (reply.Fault note) is = no is
leaves_facts (reply.Full which) is = no is
leaves_facts reply.NoMemory is = no is
leaves_facts reply.Started is = no is
leaves_facts (reply.Refused note) is = no is
leaves_facts (reply.Fresh how) is = no is
leaves_facts reply.Stale is = no is

-- ---- the work state

-- the work state after a request, by what is asked of its reply
abbrev work_with : Bool → Bool → List Row → List WayOf → WorkState → WorkState
work_with all cleaning removed ways work = record (without_removed cleaning removed (cond (all && cleaning) (condemned_all work) work)) { ways = ways }

-- a request after which each row still has its stamp leaves the work state but for its ways
pub work_ways : (request : Asked) (said : Reply) (rows left : List Row) (work : WorkState) (ways : List WayOf) →
    ((row : Row) → Contains rows row → list_any (has_stamp row.stamp) left ≡ true) → is_cleaning said ≡ false →
    ways_after request said rows work.ways ≡ ways → work_asked request said rows left work ≡ record work { ways = ways }
work_ways request said rows left work ways stamps cleaning then_ways =
    ap (λ b. work_with (cleans_all request) b (removed_rows rows left) (ways_after request said rows work.ways) work) cleaning
    ∙ ap (λ r. work_with (cleans_all request) false r (ways_after request said rows work.ways) work) (none_removed rows left stamps)
    ∙ ap (λ w. work_with (cleans_all request) false [] w work) then_ways
    ∙ idle (cleans_all request)
  where
    all_kept : (paths : List (List (List ℕ))) → list_all (is_kept_dirty []) paths ≡ true
    all_kept [] = refl
    all_kept (path ∷ paths) = all_kept paths

    dirty : filter (is_kept_dirty []) work.dirty ≡ work.dirty
    dirty = filter_all (is_kept_dirty []) work.dirty (all_kept work.dirty)

    idle : (all : Bool) → work_with all false [] ways work ≡ record work { ways = ways }
    idle true = ap (λ paths. record work { dirty = paths; ways = ways }) dirty
    idle false = ap (λ paths. record work { dirty = paths; ways = ways }) dirty

-- and one that declares nothing leaves all of it
pub work_stays : (request : Asked) (said : Reply) (rows left : List Row) (work : WorkState) →
    ((row : Row) → Contains rows row → list_any (has_stamp row.stamp) left ≡ true) → is_cleaning said ≡ false →
    ways_after request said rows work.ways ≡ work.ways → work_asked request said rows left work ≡ work
work_stays request said rows left work stamps cleaning ways = work_ways request said rows left work work.ways stamps cleaning ways

-- rows have their own stamps
pub own_stamps : (rows : List Row) (row : Row) → Contains rows row → list_any (has_stamp row.stamp) rows ≡ true
own_stamps rows row among = has_one rows row row among refl

-- ---- room

-- a limit that isn't passed is passed over
pub skip : (b : Bool) (one rest : Option Limit) → b ≡ false → cond b one rest ≡ rest
skip b one rest is = ap (λ c. cond c one rest) is

-- no table is full where each number is within its limit
pub no_table : (limits : Limits) (point : Point) (request : Asked) (served : Served) → waits_past served.reply ≡ false →
    point.nodes + nodes_of request served.reply point.book ≤ limits.nodes → row_paths served.book point.kept ≤ limits.rows →
    held_bytes (ways_after request served.reply point.book.rows point.work.ways) served.book.rows ≤ limits.held →
    count_by is_open served.book.tickets ≤ limits.asked → length served.book.holds ≤ limits.holds →
    full_table limits point request served ≡ None
no_table limits point request served waits nodes rows held asked holds =
    skip (waits_past served.reply) (Some limit.Waiting) _ waits
    ∙ skip (nat_lt limits.nodes (point.nodes + nodes_of request served.reply point.book)) (Some limit.Nodes) _ (le-ltb limits.nodes _ nodes)
    ∙ skip (nat_lt limits.rows (row_paths served.book point.kept)) (Some limit.Rows) _ (le-ltb limits.rows _ rows)
    ∙ skip (nat_lt limits.held (held_bytes (ways_after request served.reply point.book.rows point.work.ways) served.book.rows)) (Some limit.Held) _
    (le-ltb limits.held _ held)
    ∙ skip (nat_lt limits.asked (count_by is_open served.book.tickets)) (Some limit.Asked) _ (le-ltb limits.asked _ asked)
    ∙ skip (nat_lt limits.holds (length served.book.holds)) (Some limit.Holds) None (le-ltb limits.holds _ holds)

-- a request is measured by its entries alone where no table is full
pub entries_alone : (limits : Limits) (point : Point) (request : Asked) (served : Served) →
    point.nodes + nodes_of request served.reply point.book ≤ limits.nodes → full_table limits point request served ≡ None →
    full_served limits point request served
    ≡ cond (nat_lt limits.history (spent point + entries_for request served.reply)) (Some limit.History) None
entries_alone limits point request served nodes table =
    ap (λ o. cond (nat_lt limits.history (spent point + entries_for request served.reply)) (Some limit.History) o)
    (skip (is_declaration request && nat_lt limits.nodes (point.nodes + nodes_of request served.reply point.book)) (Some limit.Nodes) _
    (ap (λ b. is_declaration request && b) (le-ltb limits.nodes _ nodes) ∙ never (is_declaration request)) ∙ table)
  where
    never : (b : Bool) → (b && false) ≡ false
    never true = refl
    never false = refl

-- the entries that some parts count are those of their point
pub spent_same : {D K : Type 0} (parts : Parts D K) (point : Point) → StandFor parts point → spent_in parts ≡ spent point
spent_same parts point stands =
    let entries : length parts.history.items ≡ length point.history = ap length stands.history in
    let jobs : length parts.jobs ≡ length point.work.jobs = sym (length-map parts.jobs job_of) ∙ ap length stands.work.jobs in
    let live : length parts.gate.live ≡ length point.book.live = ap (λ (b : Book). length b.live) stands.book in
    let waiting : length parts.gate.waiting ≡ length point.book.waiting = ap (λ (b : Book). length b.waiting) stands.book in
    omega (arith, entries, jobs, live, waiting)

-- the bytes that some parts hold for a row have the digest of its file
pub stock_right : {D K : Type 0} (parts : Parts D K) (point : Point) (stock : Stock) → StandFor parts point → Contains parts.rows stock →
    list_all (is_right stock.method) stock.row.tree ≡ true
stock_right parts point stock stands among = (stands.work.stocks stock among).right

-- no table is full of a book that grew in none of them
pub room_for : {D K : Type 0} (limits : Limits) (old new : Parts D K) (point : Point) (request : Asked) (said : Reply) → StandFor old point →
    IsRoomy limits point → waits_past said ≡ false → ways_after request said point.book.rows point.work.ways ≡ point.work.ways →
    nodes_of request said point.book ≡ 0 → (book_in new).rows ≡ (book_in old).rows →
    count_by is_open (book_in new).tickets ≤ count_by is_open (book_in old).tickets → length (book_in new).holds ≤ length (book_in old).holds →
    full_served limits point request (record { reply = said; book = book_in new })
    ≡ cond (nat_lt limits.history (spent_in old + entries_for request said)) (Some limit.History) None
room_for limits old new point request said stands roomy waits ways nodes rows tickets holds =
    entries_alone limits point request served few
    (no_table limits point request served waits few
    (subst (λ r. length r + length (filter (is_alone r) point.kept) ≤ limits.rows) (sym same_rows) roomy.rows)
    (subst (λ w. held_bytes w (book_in new).rows ≤ limits.held) (sym ways)
    (subst (λ r. held_bytes point.work.ways r ≤ limits.held) (sym same_rows) roomy.held))
    (le_trans tickets (subst (λ (b : Book). count_by is_open b.tickets ≤ limits.asked) (sym stands.book) roomy.asked))
    (le_trans holds (subst (λ (b : Book). length b.holds ≤ limits.holds) (sym stands.book) roomy.holds)))
    ∙ ap (λ n. cond (nat_lt limits.history (n + entries_for request said)) (Some limit.History) None) (sym (spent_same old point stands))
  where
    served : Served
    served = record { reply = said; book = book_in new }

    few : point.nodes + nodes_of request said point.book ≤ limits.nodes
    few = omega (arith, nodes, roomy.nodes)

    same_rows : (book_in new).rows ≡ point.book.rows
    same_rows = rows ∙ ap (λ (b : Book). b.rows) stands.book

-- ---- requests

pub same_beside : {D K : Type 0} (parts : Parts D K) → IsBeside parts parts
same_beside parts = record { base = refl; first = refl; moment = refl; history = refl; lost = refl; disk = refl; keeper = refl }

-- what is reserved stays where nothing changes, and where the book alone changes
pub same_reserves : {D K : Type 0} (parts : Parts D K) → KeepsReserves parts parts
same_reserves parts = record { jobs = refl; debris = λ room. room; places = refl }

pub beside_reserves : {D K : Type 0} (old new : Parts D K) → new.debris ≡ old.debris → new.jobs ≡ old.jobs → new.kept ≡ old.kept →
    KeepsReserves old new
beside_reserves old new debris jobs kept = record {
  jobs = jobs;
  debris = λ room. subst (λ d. 2 * length old.jobs ≤ d.spare) (sym debris) room;
  places = ap (λ k. k.reserved) kept;
}

pub same_parts : {D K : Type 0} (parts : Parts D K) → IsUnchanged parts parts
same_parts parts = record {
  beside = same_beside parts;
  book = refl;
  rows = refl;
  debris = refl;
  jobs = refl;
  kept = refl;
  reserves = same_reserves parts;
  nodes = refl;
  paths = refl;
}

-- whether a reply is want of memory doesn't depend on room
pub if_room_wants : {D K : Type 0} (parts : Parts D K) (entries : ℕ) (said : Reply) → is_want said ≡ false → is_want (if_room parts entries said) ≡ false
if_room_wants parts entries said no_want =
    elim (nat_lt parts.base.limits.history (spent_in parts + entries)) as (λ b. is_want (cond b (reply.Full limit.History) said) ≡ false)
    [ true ↦ refl | false ↦ no_want ]

-- want of memory leaves all as it was
pub unchanged_serves : {D K : Type 0} (number : ℕ) (request : Asked) (old new : Parts D K) → IsUnchanged old new →
    Serves number request reply.NoMemory old new
unchanged_serves number request old new same = record {
  quiet = refl;
  beside = same.beside;
  unchanged = λ _. same;
  served = λ is. no is;
  work = λ is. no is;
  kept = same.kept;
  reserves = same.reserves;
  nodes = λ is. no is;
  paths = λ is. no is;
  room = λ is. no (sym is);
}

-- a request with a reply that leaves the book, where there is room for its entries
pub refusal_serves : {D K : Type 0} (number entries : ℕ) (request : Asked) (said : Reply) (old : Parts D K) → leaves_book said ≡ true →
    entries_for request said ≡ entries → ((book : Book) → nodes_of request said book ≡ 0) →
    ((context : RequestContext) → serve_now number context request (book_in old) ≡ record { reply = said; book = book_in old }) →
    Serves number request (if_room old entries said) old old
refusal_serves {D} {K} number entries request said old leaves wants none served =
    elim (nat_lt old.base.limits.history (spent_in old + entries)) as
    (λ b. nat_lt old.base.limits.history (spent_in old + entries) ≡ b → Serves number request (cond b (reply.Full limit.History) said) old old) [
      | true ↦ λ is. record {
        quiet = refl;
        beside = same_beside old;
        unchanged = λ _. same_parts old;
        served = λ entered. no entered;
        work = λ entered. no entered;
        kept = refl;
        reserves = same_reserves old;
        nodes = λ entered. no entered;
        paths = λ entered. no entered;
        room = λ _ point context stands roomy. sym (measured true is point context stands roomy);
      }
      | false ↦ λ is. record {
        quiet = facts.quiet;
        beside = same_beside old;
        unchanged = λ _. same_parts old;
        served = λ _ context. sym (served context);
        work = λ _ work rules are.
            subst (AreWork old)
            (sym (work_stays request said (book_in old).rows (book_in old).rows work (own_stamps (book_in old).rows) facts.cleaning
            (facts.ways request (book_in old).rows work.ways))) are;
        kept = refl;
        reserves = same_reserves old;
        nodes = λ _. omega (arith, none (book_in old));
        paths = λ _ kept marks counted. counted;
        room = λ _ point context stands roomy. facts.full ∙ sym (measured false is point context stands roomy);
      }
    ] refl
  where
    facts : LeavesBook said
    facts = leaves_facts said leaves

    measured : (b : Bool) → nat_lt old.base.limits.history (spent_in old + entries) ≡ b → (point : Point) (context : RequestContext) →
        StandFor old point → IsRoomy old.base.limits point →
        full_served old.base.limits point request (serve_now number context request (book_in old)) ≡ cond b (Some limit.History) None
    measured b is point context stands roomy =
        ap (full_served old.base.limits point request) (served context)
        ∙ room_for old.base.limits old old point request said stands roomy facts.waits (facts.ways request point.book.rows point.work.ways)
        (none point.book) refl (le_refl (count_by is_open (book_in old).tickets)) (le_refl (length (book_in old).holds))
        ∙ ap (λ n. cond (nat_lt old.base.limits.history (spent_in old + n)) (Some limit.History) None) wants
        ∙ ap (λ c. cond c (Some limit.History) None) is

-- a request for whose entries there is no room, whatever it would be answered
pub lack_serves : {D K : Type 0} (number entries : ℕ) (request : Asked) (old : Parts D K) →
    ((context : RequestContext) → entries_for request (serve_now number context request (book_in old)).reply ≡ entries) →
    nat_lt old.base.limits.history (spent_in old + entries) ≡ true → Serves number request (reply.Full limit.History) old old
lack_serves {D} {K} number entries request old wants lacks = record {
  quiet = refl;
  beside = same_beside old;
  unchanged = λ _. same_parts old;
  served = λ entered. no entered;
  work = λ entered. no entered;
  kept = refl;
  reserves = same_reserves old;
  nodes = λ entered. no entered;
  paths = λ entered. no entered;
  room = λ _ point context stands roomy. sym (measured point context stands (serve_now number context request (book_in old)) (wants context));
}
  where
    measured : (point : Point) (context : RequestContext) → StandFor old point → (served : Served) → entries_for request served.reply ≡ entries →
        full_served old.base.limits point request served ≡ Some limit.History
    measured point context stands served same =
        ap (λ b. cond b (Some limit.History) (rest point served))
        (ap (λ n. nat_lt old.base.limits.history (n + entries_for request served.reply)) (sym (spent_same old point stands))
        ∙ ap (λ n. nat_lt old.base.limits.history (spent_in old + n)) same
        ∙ lacks)
      where
        rest : Point → Served → Option Limit
        rest point served =
            cond (is_declaration request && nat_lt old.base.limits.nodes (point.nodes + nodes_of request served.reply point.book)) (Some limit.Nodes)
            (full_table old.base.limits point request served)

-- a request whose reply is entered, which changes the book beside its rows and opens no ticket, and for which there is room
pub book_serves : {D K : Type 0} (number : ℕ) (request : Asked) (said : Reply) (old new : Parts D K) → is_quiet said ≡ true →
    is_entered said ≡ true → full_of said ≡ None → waits_past said ≡ false → is_cleaning said ≡ false →
    ((rows : List Row) (ways : List WayOf) → ways_after request said rows ways ≡ ways) →
    ((book : Book) → nodes_of request said book ≡ 0) →
    ((context : RequestContext) → record { reply = said; book = book_in new } ≡ serve_now number context request (book_in old)) →
    IsBesideBook old new → count_by is_open new.tickets.all ≤ count_by is_open old.tickets.all → length new.holds ≤ length old.holds →
    ((point : Point) → StandFor old point → IsRoomy old.base.limits point →
    nat_lt old.base.limits.history (spent_in old + entries_for request said) ≡ false) →
    Serves number request said old new
book_serves number request said old new quiet entered full waits cleaning ways none served beside tickets holds room = record {
  quiet = quiet;
  beside = beside.beside;
  unchanged = λ out. absurd (both_ways (is_entered said) out entered);
  served = λ _ context. served context;
  work = λ _ work rules are. subst (AreWork new) (sym (stays work)) (moved work are);
  kept = ap (λ k. k.marks) beside.kept;
  reserves = beside_reserves old new beside.debris beside.jobs beside.kept;
  nodes = λ _. beside.nodes ∙ omega (arith, none (book_in old));
  paths = λ _ kept marks counted. beside.paths ∙ counted
      ∙ ap (λ r. row_paths (record (book_in new) { rows = rows_of r }) kept) (sym beside.rows);
  room = λ _ point context stands roomy. full
      ∙ sym (ap (full_served old.base.limits point request) (sym (served context))
      ∙ room_for old.base.limits old new point request said stands roomy waits (ways point.book.rows point.work.ways) (none point.book)
      (ap rows_of beside.rows) tickets holds
      ∙ ap (λ c. cond c (Some limit.History) None) (room point stands roomy));
}
  where
    same_rows : (book_in new).rows ≡ (book_in old).rows
    same_rows = ap rows_of beside.rows

    stays : (work : WorkState) → work_asked request said (book_in old).rows (book_in new).rows work ≡ work
    stays work = work_stays request said (book_in old).rows (book_in new).rows work
        (λ row among. own_stamps (book_in new).rows row (subst (λ r. Contains r row) (sym same_rows) among)) cleaning
        (ways (book_in old).rows work.ways)

    moved : (work : WorkState) → AreWork old work → AreWork new work
    moved work are = record {
      stocks = λ stock among. are.stocks stock (subst (λ r. Contains r stock) beside.rows among);
      jobs = ap jobs_of beside.jobs ∙ are.jobs;
      cleaned = λ running among. are.cleaned running (subst (λ j. Contains j running) beside.jobs among);
      debris = ap (λ d. d.list) beside.debris ∙ are.debris;
    }
