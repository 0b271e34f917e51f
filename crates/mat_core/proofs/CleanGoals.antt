-- What a clean did: the room for its entry, an entry that changes nothing but the moment, and one by which stale rows are gone.
use Rattle.std.proofs.Common.{◌≡◌, ◌≤◌, ◌+◌, ℕ, max, nat_lt, Bool, true, false, not, ◌||◌, cond, List, [], ◌∷◌, ◌++◌, map, filter, length, count_by, Contains, Some, None, refl, sym, ap, subst, ◌∙◌, le_refl, le_trans, arith}
use Rattle.std.specs.List.{list_all, list_any}
use Rattle.std.specs.Option.{ForSome}
use Rattle.std.specs.Vec.{vec_capacity}
use Rattle.std.specs.declared.alloc.Global.{Global}
use Rattle.std.specs.declared.vec.Vec.{Vec}
use Rattle.std.proofs.lemmas.Bool.{and_parts, both_ways, false_from_ne_true}
use Rattle.std.proofs.lemmas.List.{length-append}
use Rattle.std.proofs.lemmas.List.Filters.{length-filter_both}
use Rattle.std.proofs.lemmas.List.Sums.{sum_by-cons}
use Rattle.hall_lock.specs.declared.By.{By}
use Rattle.mat_path.proofs.Elements.{none_passes}
use Rattle.mat_path.proofs.SameNames.{same_names-eq}
use Rattle.mat_tree.specs.Trees.{ascends_by, is_after_by}
use Rattle.mat_model.specs.declared.answers.Answer.TheVariants as answer
use Rattle.mat_model.specs.declared.answers.Limit.TheVariants as limit
use Rattle.mat_model.specs.declared.answers.Reply.{Reply}
use Rattle.mat_model.specs.declared.answers.Reply.TheVariants as reply
use Rattle.mat_model.specs.declared.book.Book.{Book}
use Rattle.mat_model.specs.declared.book.Row.{Row}
use Rattle.mat_model.specs.declared.book.Ticket.{Ticket}
use Rattle.mat_model.specs.declared.entries.Entry.{Entry}
use Rattle.mat_model.specs.declared.limits.Limits.{Limits}
use Rattle.mat_model.specs.declared.requests.Asked.{Asked}
use Rattle.mat_model.specs.declared.requests.Asked.TheVariants as asked
use Rattle.mat_model.specs.declared.requests.CleanMode.{CleanMode}
use Rattle.mat_model.specs.declared.requests.CleanMode.TheVariants as mode
use Rattle.mat_model.specs.Cleaning.{cleaned, gone_row, is_not_stale, is_stale, stale}
use Rattle.mat_model.specs.Gate.{Served}
use Rattle.mat_model.specs.History.{Point, after, answer_asked, next_number, nodes_of, request_context, stepped}
use Rattle.mat_model.specs.Kept.{KeptRow, kept_asked}
use Rattle.mat_model.specs.Legal.{note_of}
use Rattle.mat_model.specs.Requests.{at_moment, serve}
use Rattle.mat_model.specs.Room.{full_asked, full_table, held_bytes, held_for, is_alone, row_paths, waits_past}
use Rattle.mat_model.specs.Rows.{comes_before, is_at_path}
use Rattle.mat_model.specs.Tickets.{is_lost, is_open, left_ticket, with_answer}
use Rattle.mat_model.specs.WorkState.{WayOf, is_cleaning, ways_after, work_asked}
use Rattle.model_laws.specs.KeptRules.{KeptAscend, path_of_kept}
use Rattle.model_laws.specs.PointRules.{IsPoint}
use Rattle.model_laws.specs.RoomRules.{IsRoomy}
use Rattle.model_laws.proofs.Elements.{contains_all}
use Rattle.model_laws.proofs.ListTests.{filter_none}
use Rattle.model_laws.proofs.RoomLists.{count_fewer}
use Rattle.core_laws.specs.Stored.{IsStore}
use Rattle.keep_port.specs.declared.port.Keeper.{Ghosts as KeeperGhosts}
use Rattle.core_devices.specs.Removals.{IsStoreNote}
use Rattle.core_devices.specs.Told.{told_store}
use Rattle.debris_list.proofs.Order.{before_irrefl}
use Rattle.row_book.specs.Stocks.{rows_of}
use Rattle.job_book.specs.Jobs.{jobs_of}
use Rattle.kept_book.specs.Marks.{mark_of}
use Rattle.mat_core.specs.Beginning.{HaveOnlyRoom}
use Rattle.mat_core.specs.Begins.{IsKeptStill}
use Rattle.mat_core.specs.Calls.{CallsAsDue}
use Rattle.mat_core.specs.Books.{AreWork, StandFor}
use Rattle.mat_core.specs.Cleans.{gone_in}
use Rattle.mat_core.specs.Keeping.{AsksSo, WasAsked, asked_entry, moment_at}
use Rattle.mat_core.specs.Removing.{IsAskEntered}
use Rattle.mat_core.specs.Rooms.{HasReserves, IsReservedFor, spent_in}
use Rattle.mat_core.specs.declared.parts.Parts.{Parts}
use Rattle.mat_core.proofs.BeginLemmas.{books_stand}
use Rattle.mat_core.proofs.CallLemmas.{raised_twice}
use Rattle.mat_core.proofs.FallLemmas.{any_parted}
use Rattle.mat_core.proofs.InvalidateLemmas.{entered_so, grown_room, same_keeper}
use Rattle.mat_core.proofs.ServeLemmas.{entries_alone, no_table, own_stamps, spent_same, work_stays}
use Rattle.mat_core.proofs.UndoLemmas.{ready_same}
use Rattle.mat_core.proofs.StoreCalls.{never_asked}

no_more : (n : ℕ) → n ≡ n + 0
no_more n = omega arith

-- ---- fewer rows

fewer_held : (ways : List WayOf) (test : Row → Bool) (rows : List Row) → held_bytes ways (filter test rows) ≤ held_bytes ways rows
fewer_held ways test [] = omega arith
fewer_held ways test (row ∷ rows) =
    let more = fewer_held ways test rows in
    let all : held_bytes ways (row ∷ rows) ≡ held_for ways row + held_bytes ways rows = sum_by-cons (held_for ways) row rows in
    elim (test row) as (λ b. held_bytes ways (cond b (row ∷ filter test rows) (filter test rows)) ≤ held_bytes ways (row ∷ rows)) [
      | true ↦
          let head : held_bytes ways (row ∷ filter test rows) ≡ held_for ways row + held_bytes ways (filter test rows) =
          sum_by-cons (held_for ways) row (filter test rows) in
          omega (arith, more, all, head)
      | false ↦ omega (arith, more, all)
    ]

fewer_open : (number : ℕ) (removed left : List Row) (tickets : List Ticket) →
    count_by is_open (map (left_ticket number removed left) tickets) ≤ count_by is_open tickets
fewer_open number removed left tickets = count_fewer is_open (left_ticket number removed left) only tickets
  where
    only : (ticket : Ticket) → is_open (left_ticket number removed left ticket) ≡ true → is_open ticket ≡ true
    only ticket is =
        elim (is_lost removed left ticket) as (λ b. is_open (cond b (with_answer number answer.Undeclared ticket) ticket) ≡ true → is_open ticket ≡ true)
        [ true ↦ λ so. absurd (both_ways false refl so) | false ↦ λ so. so ] is

-- one, for something that is so
abbrev one_for : Bool → ℕ
one_for is = cond is 1 0

-- an element more, by what a test says of it
one_longer : {X : Type 0} (test : X → Bool) (x : X) (xs : List X) → length (filter test (x ∷ xs)) ≡ one_for (test x) + length (filter test xs)
one_longer {X} test x xs =
    elim (test x) as (λ b. length (cond b (x ∷ filter test xs) (filter test xs)) ≡ one_for b + length (filter test xs))
    [ true ↦ omega arith | false ↦ omega arith ]

-- whether a kept row is at the path of one of some rows
abbrev meets : List Row → KeptRow → Bool
meets rows kept = list_any (is_at_path kept.path) rows

-- no more pass a test than pass two others, one of which passes whatever it passes
either_few : {X : Type 0} (p q r : X → Bool) (xs : List X) → ((x : X) → p x ≡ true → (q x || r x) ≡ true) →
    length (filter p xs) ≤ length (filter q xs) + length (filter r xs)
either_few p q r [] each = omega arith
either_few {X} p q r (x ∷ xs) each =
    let more = either_few p q r xs each in
    let a = one_longer p x xs in let b = one_longer q x xs in let c = one_longer r x xs in
    let one = by (p x) (q x) (r x) (each x) in
    omega (arith, more, a, b, c, one)
  where
    by : (a b c : Bool) → (a ≡ true → (b || c) ≡ true) → one_for a ≤ one_for b + one_for c
    by true true c is = omega arith
    by true false true is = omega arith
    by true false false is = absurd (both_ways false refl (is refl))
    by false b c is = omega arith

-- of kept rows in order at most one is at the path of a row
at_once : (row : Row) (kept : List KeptRow) → KeptAscend kept → length (filter (λ (one : KeptRow). is_at_path one.path row) kept) ≤ 1
at_once row [] up = omega arith
at_once row (one ∷ kept) up =
    let parts = and_parts (list_all (is_after_by path_of_kept one.path) kept) (ascends_by path_of_kept kept) up in
    let more = at_once row kept parts.1 in
    let all = one_longer at one kept in
    elim (at one) as (λ b. at one ≡ b → length (filter at (one ∷ kept)) ≤ 1) [
      | true ↦ λ is.
          let here : one_for (at one) ≡ 1 = ap one_for is in
          let none : length (filter at kept) ≡ 0 = ap length (filter_none at kept (none_passes at kept (λ later among. off later (before later among parts.0) is))) in
          omega (arith, all, here, none)
      | false ↦ λ is. let here : one_for (at one) ≡ 0 = ap one_for is in omega (arith, all, here, more)
    ] refl
  where
    at : KeptRow → Bool
    at other = is_at_path other.path row

    before : (later : KeptRow) → Contains kept later → list_all (is_after_by path_of_kept one.path) kept ≡ true → comes_before one.path later.path ≡ true
    before later among all = contains_all (is_after_by path_of_kept one.path) kept later all among

    off : (later : KeptRow) → comes_before one.path later.path ≡ true → at one ≡ true → at later ≡ false
    off later less is =
        false_from_ne_true (at later)
        (λ too.
        both_ways (comes_before one.path one.path) (before_irrefl one.path)
        (subst (λ (p : List (List ℕ)). comes_before one.path p ≡ true) (sym (same_names-eq row.path later.path too) ∙ same_names-eq row.path one.path is) less))

-- so no more of them are at the paths of some rows than there are rows
meets_few : (rows : List Row) (kept : List KeptRow) → KeptAscend kept → length (filter (meets rows) kept) ≤ length rows
meets_few [] kept up =
    let none : length (filter (meets []) kept) ≡ 0 = ap length (filter_none (meets []) kept (none_passes (meets []) kept (λ one among. refl))) in omega (arith, none)
meets_few (row ∷ rows) kept up =
    let more = meets_few rows kept up in
    let one = at_once row kept up in
    let both = either_few (meets (row ∷ rows)) (λ (k : KeptRow). is_at_path k.path row) (meets rows) kept (λ k is. is) in
    omega (arith, more, one, both)

-- no more paths have a row or a kept row where rows go
paths_fewer : (test other : Row → Bool) (opposite : (row : Row) → other row ≡ not (test row)) (rows : List Row) (kept : List KeptRow) → KeptAscend kept →
    length (filter other rows) + length (filter (is_alone (filter other rows)) kept) ≤ length rows + length (filter (is_alone rows) kept)
paths_fewer test other opposite rows kept up =
    let parted = length-filter_both test other opposite rows in
    let few = meets_few (filter test rows) kept up in
    let rise = either_few (is_alone (filter other rows)) (is_alone rows) (meets (filter test rows)) kept each in
    omega (arith, parted, few, rise)
  where
    each : (one : KeptRow) → is_alone (filter other rows) one ≡ true → (is_alone rows one || meets (filter test rows) one) ≡ true
    each one is =
        ap (λ b. not b || meets (filter test rows) one) (any_parted test other (is_at_path one.path) opposite rows)
        ∙ by (meets (filter test rows) one) (list_any (is_at_path one.path) (filter other rows)) is
      where
        by : (a b : Bool) → not b ≡ true → (not (a || b) || a) ≡ true
        by true b so = refl
        by false b so = ap (λ c. c || false) so

-- ---- room

-- the entries alone decide whether there is room for a clean: no table grows
pub clean_room : {D K : Type 0} (limits : Limits) (old : Parts D K) (point : Point) (moment cutoff : ℕ) (how : CleanMode) → StandFor old point →
    IsPoint point → IsRoomy limits point →
    full_asked limits point moment (asked.Clean cutoff how) ≡ cond (nat_lt limits.history (spent_in old + 1)) (Some limit.History) None
clean_room limits old point moment cutoff how stands rules roomy =
    entries_alone limits point (asked.Clean cutoff how) (serve (next_number point) moment (request_context point) (asked.Clean cutoff how) point.book) few
    (table how)
    ∙ ap (λ n. cond (nat_lt limits.history (n + 1)) (Some limit.History) None) (sym (spent_same old point stands))
  where
    few : point.nodes + 0 ≤ limits.nodes
    few = let most = roomy.nodes in omega (arith, most)

    removed : (some : CleanMode) (said : Reply) → waits_past said ≡ false → nodes_of (asked.Clean cutoff some) said point.book ≡ 0 →
        ways_after (asked.Clean cutoff some) said point.book.rows point.work.ways ≡ point.work.ways →
        full_table limits point (asked.Clean cutoff some) (record { reply = said; book = cleaned (next_number point) cutoff (at_moment moment point.book) }) ≡ None
    removed some said waits none ways =
        no_table limits point (asked.Clean cutoff some) (record { reply = said; book = cleaned (next_number point) cutoff (at_moment moment point.book) }) waits
        (let most = roomy.nodes in omega (arith, none, most))
        (le_trans (paths_fewer (is_stale cutoff point.book.holds) (is_not_stale cutoff point.book.holds) (λ row. refl) point.book.rows point.kept rules.kept.order)
        roomy.rows)
        (subst (λ w. held_bytes w (filter (is_not_stale cutoff point.book.holds) point.book.rows) ≤ limits.held) (sym ways)
        (le_trans (fewer_held point.work.ways (is_not_stale cutoff point.book.holds) point.book.rows) roomy.held))
        (le_trans (fewer_open (next_number point) (stale cutoff (at_moment moment point.book)) (filter (is_not_stale cutoff point.book.holds) point.book.rows)
        point.book.tickets) roomy.asked)
        roomy.holds

    table : (some : CleanMode) →
        full_table limits point (asked.Clean cutoff some) (serve (next_number point) moment (request_context point) (asked.Clean cutoff some) point.book) ≡ None
    table mode.Dry =
        no_table limits point (asked.Clean cutoff mode.Dry)
        (serve (next_number point) moment (request_context point) (asked.Clean cutoff mode.Dry) point.book) refl few roomy.rows roomy.held roomy.asked roomy.holds
    table mode.Real = removed mode.Real (reply.Cleaned false (map gone_row (stale cutoff (at_moment moment point.book))) []) refl refl refl
    table mode.All =
        removed mode.All (reply.Cleaned false (map gone_row (stale cutoff (at_moment moment point.book))) (request_context point).strays) refl refl refl

-- ---- an entry that changes nothing but the moment

-- a request served with a reply that leaves the book but for its moment
abbrev pub calmly : Point → ℕ → Reply → Served
calmly point moment said = record { reply = said; book = at_moment moment point.book }

-- what holds of a reply to a request where nothing else changes
pub record IsCalmly (asking : Asked) (said : Reply) : Type 0 where
  pub cleaning : is_cleaning said ≡ false
  pub ways : (rows : List Row) (ways : List WayOf) → ways_after asking said rows ways ≡ ways
  pub keeps : (rows : List Row) (kept : List KeptRow) → kept_asked asking said rows kept ≡ kept
  pub nodes : (book : Book) → nodes_of asking said book ≡ 0

module _ {D K : Type 0} (gk : KeeperGhosts K) (by : By) (now : ℕ) (asking : Asked) (old roomy : Parts D K) (keeper : K) (point : Point)
    (stands : StandFor old point) (had : HasReserves old) (only : HaveOnlyRoom old roomy) (place : spent_in old + 2 ≤ vec_capacity roomy.history) where
  abbrev moment : ℕ
  moment = moment_at point now

  roomy_stands : StandFor roomy point
  roomy_stands = books_stand old roomy only.same only.jobs point stands

  -- the moment that is entered is that of the point behind
  raised : (m : ℕ) → m ≡ max roomy.moment now → m ≡ moment
  raised m is = is ∙ ap (λ n. max n now) (ap (λ (b : Book). b.now) roomy_stands.book)

  module _ (said : Reply) (quiet : IsCalmly asking said) (m : ℕ) (history : Vec Entry Global) (is_moment : m ≡ max roomy.moment now)
      (is_history : history.items ≡ roomy.history.items ++ asked_entry by (max roomy.moment now) asking said ∷ [])
      (capacity : vec_capacity history ≡ vec_capacity roomy.history) (answered : answer_asked point moment asking said ≡ calmly point moment said) where
    abbrev entry : Entry
    entry = asked_entry by moment asking said

    abbrev calm_new : Parts D K
    calm_new = record roomy { keeper = keeper; moment = m; history = history }

    entered_same : history.items ≡ old.history.items ++ entry ∷ []
    entered_same =
        is_history
        ∙ ap (λ n. roomy.history.items ++ asked_entry by n asking said ∷ []) (raised (max roomy.moment now) refl)
        ∙ ap (λ es. es ++ entry ∷ []) only.same.history

    calm_work : work_asked asking said point.book.rows point.book.rows point.work ≡ point.work
    calm_work = work_stays asking said point.book.rows point.book.rows point.work (own_stamps point.book.rows) quiet.cleaning
        (quiet.ways point.book.rows point.work.ways)

    calm_stands : StandFor calm_new (after point entry)
    calm_stands = subst (λ (s : Served). StandFor calm_new (stepped point entry s)) (sym answered) (record {
      book = ap (λ (b : Book). record b { now = m }) roomy_stands.book
          ∙ ap (λ n. record point.book { now = n }) (raised m is_moment ∙ sym (raised_twice point.book.now now));
      work = subst (AreWork calm_new) (sym calm_work) (record {
        stocks = roomy_stands.work.stocks;
        jobs = roomy_stands.work.jobs;
        cleaned = roomy_stands.work.cleaned;
        debris = roomy_stands.work.debris;
      });
      kept = roomy_stands.kept ∙ ap (map mark_of) (sym (quiet.keeps point.book.rows point.kept));
      nodes = roomy_stands.nodes ∙ no_more point.nodes ∙ ap (λ n. point.nodes + n) (sym (quiet.nodes point.book));
      paths = roomy_stands.paths ∙ ap (row_paths point.book) (sym (quiet.keeps point.book.rows point.kept));
      history = entered_same ∙ ap (λ es. es ++ entry ∷ []) stands.history;
    })

    calm_reserves : HasReserves calm_new
    calm_reserves = record {
      history =
          let items : length history.items ≡ length old.history.items + 1 = ap length entered_same ∙ length-append old.history.items (entry ∷ []) in
          let running : length roomy.jobs ≡ length old.jobs = ap length only.jobs in
          let live : length roomy.gate.live ≡ length old.gate.live = ap (λ g. length g.live) only.same.gate in
          let waiting : length roomy.gate.waiting ≡ length old.gate.waiting = ap (λ g. length g.waiting) only.same.gate in
          omega (arith, items, running, live, waiting, place, capacity);
      debris =
          let running : length roomy.jobs ≡ length old.jobs = ap length only.jobs in
          let room = only.more.debris in let has = had.debris in omega (arith, running, room, has);
      places = λ job among. subst (λ ps. IsReservedFor ps job.task) (sym only.places)
          (had.places job (subst (λ js. Contains (jobs_of js) job) only.jobs among));
    }

    pub calm_asked : IsKeptStill (told_store gk old.keeper) (told_store gk keeper) →
        IsStoreNote (gk.fault_count old.keeper) (gk.fault_count keeper) (note_of said) →
        CallsAsDue point asking said (told_store gk old.keeper) (told_store gk keeper) →
        WasAsked point by now asking said old calm_new (told_store gk old.keeper) (told_store gk keeper)
    calm_asked still note called = record {
      same = record { base = only.same.base; lost = only.same.lost };
      disk = only.disk;
      replied = sym (ap (λ (s : Served). s.reply) answered);
      moment = raised m is_moment;
      history = entered_same;
      stands = calm_stands;
      reserves = calm_reserves;
      ready = ready_same old calm_new only.same.base (ap rows_of only.same.rows) only.jobs;
      rows = λ has.
          subst (λ ks. ForSome (gk.kept keeper) (IsStore old.base.identity ks))
          (sym (ap (λ (s : Served). kept_asked asking s.reply s.book.rows point.kept) answered ∙ quiet.keeps point.book.rows point.kept))
          (subst (λ rs. ForSome rs (IsStore old.base.identity point.kept)) (sym still.rows) has);
      still = λ leaves. still.rows;
      faults = still.faults;
      note = note;
      called = called;
    }

-- ---- a dry clean

-- what a clean lists is what the model does
pub gone_is : {D K : Type 0} (old : Parts D K) (point : Point) (time cutoff : ℕ) → StandFor old point →
    gone_in cutoff old.holds old.rows ≡ map gone_row (stale cutoff (at_moment time point.book))
gone_is old point time cutoff stands = ap (λ (b : Book). map gone_row (stale cutoff b)) stands.book

-- a dry clean is answered with its list, and changes nothing but the moment
pub dry_so : {D K : Type 0} (gk : KeeperGhosts K) (by : By) (now cutoff : ℕ) (said told : Reply) (old new : Parts D K) (point : Point) →
    StandFor old point → IsPoint point → IsRoomy old.base.limits point → HasReserves old → spent_in old + 2 ≤ vec_capacity old.history →
    nat_lt old.base.limits.history (spent_in old + 1) ≡ false → said ≡ reply.Cleaned true (gone_in cutoff old.holds old.rows) [] → told ≡ said →
    IsAskEntered by now (asked.Clean cutoff mode.Dry) told old new →
    AsksSo point by now (asked.Clean cutoff mode.Dry) old new (told_store gk old.keeper) (told_store gk new.keeper) said
dry_so {D} {K} gk by now cutoff said told old new point stands rules roomy had place fits says tells entered =
    subst (λ (r : Reply). AsksSo point by now request old new (told_store gk old.keeper) (told_store gk new.keeper) r) (sym is)
    (entered_so by now request the_reply old new (told_store gk old.keeper) (told_store gk new.keeper) point refl (λ happened. tt) room
    (subst (λ p. WasAsked point by now request the_reply old p (told_store gk old.keeper) (told_store gk p.keeper)) (sym entered.only)
    (calm_asked gk by now request old old old.keeper point stands had (grown_room old old.history refl (le_refl (vec_capacity old.history))) place the_reply
    (record { cleaning = refl; ways = λ rows ways. refl; keeps = λ rows kept. refl; nodes = λ book. refl }) new.moment new.history entered.moment
    (entered.history ∙ ap (λ (r : Reply). old.history.items ++ asked_entry by (max old.moment now) request r ∷ []) (tells ∙ is)) entered.capacity refl
    (same_keeper gk old.keeper old.keeper refl) tt
    (never_asked point request the_reply (told_store gk old.keeper) (told_store gk old.keeper) refl refl refl))))
  where
    request : Asked
    request = asked.Clean cutoff mode.Dry

    the_reply : Reply
    the_reply = reply.Cleaned true (map gone_row (stale cutoff (at_moment (moment_at point now) point.book))) []

    is : said ≡ the_reply
    is = says ∙ ap (λ gs. reply.Cleaned true gs []) (gone_is old point (moment_at point now) cutoff stands)

    room : full_asked old.base.limits point (moment_at point now) request ≡ None
    room = clean_room old.base.limits old point (moment_at point now) cutoff mode.Dry stands rules roomy
        ∙ ap (λ b. cond b (Some limit.History) None) fits
