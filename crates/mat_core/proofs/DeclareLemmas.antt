-- A request that declares a tree is served.
use Rattle.std.proofs.Common.{◌≡◌, ◌<◌, ◌≤◌, ◌+◌, ◌^◌, nat_lt, ℕ, Bool, true, false, ◌&&◌, cond, List, [], ◌∷◌, map, filter, find, length, count_by, Contains, Option, Some, None, refl, ◌∙◌, sym, ap, ap₂, subst, arith}
use Rattle.std.specs.List.{list_all, list_any}
use Rattle.std.specs.Option.{option_map}
use Rattle.std.proofs.lemmas.Bool.{and_parts, both_ways, le-ltb, lt-ltb, ltb-false, ltb-true}
use Rattle.std.proofs.lemmas.List.{length-map}
use Rattle.std.proofs.lemmas.List.Sums.{sum_by-cons}
use Rattle.mat_path.proofs.Elements.{contains_first, contains_more, mapped_contains}
use Rattle.mat_tree.specs.declared.flat.Flat.{Flat}
use Rattle.mat_path.proofs.Overlaps.{overlap-refl}
use Rattle.mat_path.proofs.SameNames.{same_names-eq}
use Rattle.mat_path.specs.Names.{overlap}
use Rattle.mat_tree.specs.declared.sum.Sum.{Sum}
use Rattle.mat_tree.specs.Sums.{sum_of}
use Rattle.mat_tree.specs.Trees.{ascends_by, bytes_of, is_after_by, same_tree}
use Rattle.mat_model.specs.declared.answers.Answer.TheVariants as answer
use Rattle.mat_model.specs.declared.answers.Limit.{Limit}
use Rattle.mat_model.specs.declared.answers.Limit.TheVariants as limit
use Rattle.mat_model.specs.declared.answers.Reply.{Reply}
use Rattle.mat_model.specs.declared.answers.Reply.TheVariants as reply
use Rattle.mat_model.specs.declared.book.Book.{Book}
use Rattle.mat_model.specs.declared.book.Hold.{Hold}
use Rattle.mat_model.specs.declared.book.Row.{Row}
use Rattle.mat_model.specs.declared.book.Ticket.{Ticket}
use Rattle.mat_model.specs.declared.limits.Limits.{Limits}
use Rattle.mat_model.specs.declared.requests.Asked.{Asked}
use Rattle.mat_model.specs.declared.requests.Asked.TheVariants as asked
use Rattle.mat_model.specs.Declarations.{declare, declare_row, is_equal_row, new_row, replace_rows}
use Rattle.mat_model.specs.Gate.{Served, is_live}
use Rattle.mat_model.specs.History.{Point, nodes_of}
use Rattle.mat_model.specs.Kept.{KeptRow}
use Rattle.mat_model.specs.Requests.{RequestContext, serve_now}
use Rattle.mat_model.specs.Room.{entries_for, full_served, full_table, held_bytes, held_for, is_alone, is_declaration, row_paths, spent, waits_past}
use Rattle.mat_model.specs.Rows.{are_apart, is_apart, is_at_path, is_clear_of, overlaps_row, put_row, used}
use Rattle.mat_model.specs.Tickets.{is_lost, is_open, left_ticket, with_answer, with_hold}
use Rattle.mat_model.specs.WorkState.{WayOf, WorkState, has_stamp, held, is_held_way, stamp_of, way_declared, way_of, ways_after, work_asked}
use Rattle.model_laws.specs.KeptRules.{KeptAscend, path_of_kept}
use Rattle.model_laws.specs.RoomRules.{IsRoomy}
use Rattle.model_laws.specs.RowRules.{AreStampedBelow}
use Rattle.model_laws.specs.TicketRules.{lost_below}
use Rattle.model_laws.proofs.Apart.{apart_parts}
use Rattle.model_laws.proofs.BelowLemmas.{replaced_answer}
use Rattle.model_laws.proofs.RoomLists.{count_fewer}
use Rattle.job_book.specs.Jobs.{job_of, jobs_of}
use Rattle.kept_book.specs.declared.mark.Mark.{Mark}
use Rattle.kept_book.specs.Marks.{mark_of, path_of_mark}
use Rattle.write_plan.specs.declared.method.Method.{Method}
use Rattle.write_plan.specs.declared.method.Method.TheVariants as method
use Rattle.row_book.specs.declared.stock.Stock.{Stock}
use Rattle.row_book.specs.Stocks.{held_bytes as held_of_all, held_of, is_clear_stock, is_held_method, overlaps_stock, put_stock, row_of, rows_of, used_stock}
use Rattle.row_book.proofs.HeldLemmas.{apart_left, held_put, held_sides, rows_placed}
use Rattle.mat_core.specs.Books.{AreWork, IsStock, StandFor, book_in, way_in}
use Rattle.mat_core.specs.Declaring.{IsDeclaring, full_nodes, new_stock}
use Rattle.mat_core.specs.Falling.{fall_of, is_unkept, is_unkept_at, one_if}
use Rattle.mat_core.specs.Grants.{IsGranted, granted}
use Rattle.mat_core.specs.Replacing.{AreRuled, IsReplaced, full_replaced, held_by}
use Rattle.mat_core.specs.Rooms.{full_grant, spent_in}
use Rattle.mat_core.specs.Served.{Serves}
use Rattle.mat_core.specs.declared.falling.Fall.{Fall}
use Rattle.mat_core.specs.declared.parts.Parts.{Parts}
use Rattle.mat_core.proofs.FallLemmas.{overlap_most, paths_replaced}
use Rattle.mat_core.proofs.GrantLemmas.{held_used, paths_used, stamps_used, stock_used}
use Rattle.mat_core.proofs.ReplaceLemmas.{ruled_book, rows_overlapping, stock_ways, top_same, work_replaced}
use Rattle.mat_core.proofs.RightLemmas.{unheld_right}
use Rattle.mat_core.proofs.ServeLemmas.{beside_reserves, own_stamps, same_beside, same_parts, same_reserves, spent_same, work_stays}

no : {X : Type 0} → false ≡ true → X
no is = absurd (both_ways false refl is)

-- ---- limits

-- the first limit that is passed, of those that a declaration may pass
abbrev pub declared_limit : Limits → ℕ → ℕ → ℕ → ℕ → ℕ → Option Limit
declared_limit limits entries nodes paths bytes holds =
    cond (nat_lt limits.history entries) (Some limit.History)
    (cond (nat_lt limits.nodes nodes) (Some limit.Nodes)
    (cond (nat_lt limits.rows paths) (Some limit.Rows)
    (cond (nat_lt limits.held bytes) (Some limit.Held)
    (cond (nat_lt limits.holds holds) (Some limit.Holds) None))))

-- that is what the definitions say of it
pub measured : (limits : Limits) (point : Point) (request : Asked) (served : Served) (entries nodes paths bytes holds : ℕ) →
    waits_past served.reply ≡ false → spent point + entries_for request served.reply ≡ entries →
    point.nodes + nodes_of request served.reply point.book ≡ nodes → row_paths served.book point.kept ≡ paths →
    held_bytes (ways_after request served.reply point.book.rows point.work.ways) served.book.rows ≡ bytes →
    nat_lt limits.asked (count_by is_open served.book.tickets) ≡ false → length served.book.holds ≡ holds →
    full_served limits point request served ≡ declared_limit limits entries nodes paths bytes holds
measured limits point request served entries nodes paths bytes holds waits e n p h asked k =
    ap (λ m. cond (nat_lt limits.history m) (Some limit.History) rest) e
    ∙ ap (λ (o : Option Limit). cond (nat_lt limits.history entries) (Some limit.History) o)
    (ap (λ b. cond (is_declaration request && the_nodes) (Some limit.Nodes) (cond b (Some limit.Waiting) table)) waits
    ∙ twice (is_declaration request) the_nodes
    ∙ ap (λ m. cond (nat_lt limits.nodes m) (Some limit.Nodes) behind) n
    ∙ ap (λ (o : Option Limit). cond (nat_lt limits.nodes nodes) (Some limit.Nodes) o)
    (ap (λ m. cond (nat_lt limits.rows m) (Some limit.Rows) behind_rows) p
    ∙ ap (λ (o : Option Limit). cond (nat_lt limits.rows paths) (Some limit.Rows) o)
    (ap (λ m. cond (nat_lt limits.held m) (Some limit.Held) behind_held) h
    ∙ ap (λ (o : Option Limit). cond (nat_lt limits.held bytes) (Some limit.Held) o)
    (ap (λ b. cond b (Some limit.Asked) (cond (nat_lt limits.holds (length served.book.holds)) (Some limit.Holds) None)) asked
    ∙ ap (λ m. cond (nat_lt limits.holds m) (Some limit.Holds) None) k))))
  where
    the_nodes : Bool
    the_nodes = nat_lt limits.nodes (point.nodes + nodes_of request served.reply point.book)

    behind_held : Option Limit
    behind_held = cond (nat_lt limits.asked (count_by is_open served.book.tickets)) (Some limit.Asked)
        (cond (nat_lt limits.holds (length served.book.holds)) (Some limit.Holds) None)

    behind_rows : Option Limit
    behind_rows = cond (nat_lt limits.held (held_bytes (ways_after request served.reply point.book.rows point.work.ways) served.book.rows)) (Some limit.Held)
        behind_held

    behind : Option Limit
    behind = cond (nat_lt limits.rows (row_paths served.book point.kept)) (Some limit.Rows) behind_rows

    table : Option Limit
    table = cond the_nodes (Some limit.Nodes) behind

    rest : Option Limit
    rest = cond (is_declaration request && the_nodes) (Some limit.Nodes) (cond (waits_past served.reply) (Some limit.Waiting) table)

    twice : (d b : Bool) → cond (d && b) (Some limit.Nodes) (cond b (Some limit.Nodes) behind) ≡ cond b (Some limit.Nodes) behind
    twice true true = refl
    twice true false = refl
    twice false b = refl

-- ---- what room there is

-- there is room for the entry and its nodes
pub record HasNodes {D K : Type 0} (old : Parts D K) (nodes : ℕ) : Type 0 where
  pub entries : nat_lt old.base.limits.history (spent_in old + 1) ≡ false
  pub nodes_fit : nat_lt old.base.limits.nodes (old.nodes + nodes) ≡ false

some_none : {A : Type 0} (x : A) → Some x ≡ None → ⊥
some_none x is = cc

pub has_nodes : {D K : Type 0} (old : Parts D K) (nodes : ℕ) → full_nodes old nodes ≡ None → HasNodes old nodes
has_nodes old nodes is =
    by (nat_lt old.base.limits.history (spent_in old + 1)) (nat_lt old.base.limits.nodes (old.nodes + nodes)) refl refl is
  where
    by : (a b : Bool) → nat_lt old.base.limits.history (spent_in old + 1) ≡ a → nat_lt old.base.limits.nodes (old.nodes + nodes) ≡ b →
        cond a (Some limit.History) (cond b (Some limit.Nodes) None) ≡ None → HasNodes old nodes
    by true b x y it = absurd (some_none limit.History it)
    by false true x y it = absurd (some_none limit.Nodes it)
    by false false x y it = record { entries = x; nodes_fit = y }

-- the nodes fit as well in parts that declared as many
pub nodes_still_fit : {D K : Type 0} (old mid : Parts D K) (nodes more : ℕ) → HasNodes old nodes → mid.base ≡ old.base → mid.nodes ≡ old.nodes → more ≡ nodes →
    nat_lt mid.base.limits.nodes (mid.nodes + more) ≡ false
nodes_still_fit old mid nodes more has base count same =
    ap (λ b. nat_lt b.limits.nodes (mid.nodes + more)) base ∙ ap₂ (λ (n m : ℕ). nat_lt old.base.limits.nodes (n + m)) count same ∙ has.nodes_fit

-- where there is room for these, the other limits are left
pub nodes_left : {D K : Type 0} (old : Parts D K) (nodes paths bytes holds : ℕ) → HasNodes old nodes →
    declared_limit old.base.limits (spent_in old + 1) (old.nodes + nodes) paths bytes holds
    ≡ cond (nat_lt old.base.limits.rows paths) (Some limit.Rows)
    (cond (nat_lt old.base.limits.held bytes) (Some limit.Held) (cond (nat_lt old.base.limits.holds holds) (Some limit.Holds) None))
nodes_left old nodes paths bytes holds has =
    ap (λ b. cond b (Some limit.History) (cond (nat_lt old.base.limits.nodes (old.nodes + nodes)) (Some limit.Nodes) rest)) has.entries
    ∙ ap (λ b. cond b (Some limit.Nodes) rest) has.nodes_fit
  where
    rest : Option Limit
    rest = cond (nat_lt old.base.limits.rows paths) (Some limit.Rows)
        (cond (nat_lt old.base.limits.held bytes) (Some limit.Held) (cond (nat_lt old.base.limits.holds holds) (Some limit.Holds) None))

-- whether the hold fits is then all that a grant asks
pub grant_left : {D K : Type 0} (old : Parts D K) (command nodes : ℕ) (path : List (List ℕ)) → HasNodes old nodes →
    full_grant old command path false ≡ cond (nat_lt old.base.limits.holds (length (with_hold command path old.holds))) (Some limit.Holds) None
grant_left old command nodes path has =
    ap (λ b. cond b (Some limit.History) (cond (nat_lt old.base.limits.holds (length (with_hold command path old.holds))) (Some limit.Holds) None))
    has.entries

pub lt_shift : (a b c : ℕ) → nat_lt (a + c) (b + c) ≡ nat_lt a b
lt_shift a b c =
    elim (nat_lt a b) as (λ t. nat_lt a b ≡ t → nat_lt (a + c) (b + c) ≡ t) [
      | true ↦ λ is. let less = ltb-true a b is in lt-ltb (a + c) (b + c) (omega (arith, less))
      | false ↦ λ is. let more = ltb-false a b is in le-ltb (a + c) (b + c) (omega (arith, more))
    ] refl

-- ---- a request that isn't entered

-- a request that a limit keeps out, which is the one that the definitions say
pub limit_serves : {D K : Type 0} (number : ℕ) (request : Asked) (which : Limit) (old : Parts D K) →
    ((point : Point) (context : RequestContext) → StandFor old point → IsRoomy old.base.limits point →
    full_served old.base.limits point request (serve_now number context request (book_in old)) ≡ Some which) →
    Serves number request (reply.Full which) old old
limit_serves number request which old says = record {
  quiet = refl;
  beside = same_beside old;
  unchanged = λ _. same_parts old;
  served = λ is. no is;
  work = λ is. no is;
  kept = refl;
  reserves = same_reserves old;
  nodes = λ is. no is;
  paths = λ is. no is;
  room = λ _ point context stands roomy. sym (says point context stands roomy);
}

-- ---- a row that keeps its stamp

module _ {D K : Type 0} (number command stamp : ℕ) (path : List (List ℕ)) (tree : List Flat) (way : Method) (row : Row) (request : Asked) (old : Parts D K)
    (is : IsDeclaring request number command path tree way old) (found : find (is_equal_row path tree) (book_in old).rows ≡ Some row)
    (same : row.stamp ≡ stamp) (has : HasNodes old (length tree)) where
  abbrev kept_book : Book
  kept_book = granted command path path old.tickets.all (book_in old)

  keep_served : (context : RequestContext) → serve_now number context request (book_in old) ≡ record { reply = reply.Kept stamp; book = kept_book }
  keep_served context = is.served context ∙ ap (declare_row number command path tree (book_in old)) found
      ∙ ap (λ n. record { reply = reply.Kept n; book = kept_book }) same

  keep_ways : (ways : List WayOf) → ways_after request (reply.Kept stamp) (book_in old).rows ways ≡ ways
  keep_ways ways = ap (λ b. cond b (record { stamp = stamp; way = held } ∷ ways) ways) (is.keeps row found)

  module _ (point : Point) (stands : StandFor old point) (roomy : IsRoomy old.base.limits point) where
    keep_rows : (book_in old).rows ≡ point.book.rows
    keep_rows = ap (λ (b : Book). b.rows) stands.book

    keep_limit : full_served old.base.limits point request (record { reply = reply.Kept stamp; book = kept_book }) ≡ full_grant old command path false
    keep_limit =
        measured old.base.limits point request (record { reply = reply.Kept stamp; book = kept_book }) (spent_in old + 1) (old.nodes + length tree)
        (row_paths kept_book point.kept) (held_bytes (ways_after request (reply.Kept stamp) point.book.rows point.work.ways) kept_book.rows)
        (length (with_hold command path old.holds)) refl
        (ap₂ (λ (n m : ℕ). n + m) (sym (spent_same old point stands)) (is.entries (reply.Kept stamp) refl))
        (ap₂ (λ (n m : ℕ). n + m) (sym stands.nodes)
        (sym (ap (nodes_of request (reply.Kept stamp)) stands.book) ∙ is.nodes (reply.Kept stamp) refl))
        refl refl (le-ltb old.base.limits.asked _ (subst (λ (b : Book). count_by is_open b.tickets ≤ old.base.limits.asked) (sym stands.book) roomy.asked)) refl
        ∙ nodes_left old (length tree) _ _ _ has
        ∙ ap (λ b. cond b (Some limit.Rows) behind) (le-ltb old.base.limits.rows _ paths)
        ∙ ap (λ b. cond b (Some limit.Held) (cond (nat_lt old.base.limits.holds (length (with_hold command path old.holds))) (Some limit.Holds) None))
        (le-ltb old.base.limits.held _ held_fits)
        ∙ sym (grant_left old command (length tree) path has)
      where
        behind : Option Limit
        behind = cond (nat_lt old.base.limits.held (held_bytes (ways_after request (reply.Kept stamp) point.book.rows point.work.ways) kept_book.rows))
            (Some limit.Held) (cond (nat_lt old.base.limits.holds (length (with_hold command path old.holds))) (Some limit.Holds) None)

        paths : row_paths kept_book point.kept ≤ old.base.limits.rows
        paths =
            subst (λ n. n ≤ old.base.limits.rows)
            (sym (paths_used path old.moment (book_in old).rows point.kept ∙ ap (λ r. length r + length (filter (is_alone r) point.kept)) keep_rows)) roomy.rows

        held_fits : held_bytes (ways_after request (reply.Kept stamp) point.book.rows point.work.ways) kept_book.rows ≤ old.base.limits.held
        held_fits =
            subst (λ n. n ≤ old.base.limits.held)
            (sym (ap (λ w. held_bytes w kept_book.rows)
            (ap (λ r. ways_after request (reply.Kept stamp) r point.work.ways) (sym keep_rows) ∙ keep_ways point.work.ways)
            ∙ held_used path old.moment point.work.ways (book_in old).rows
            ∙ ap (held_bytes point.work.ways) keep_rows)) roomy.held

  -- there is no room for it
  pub keep_full : (which : Limit) → full_grant old command path false ≡ Some which → Serves number request (reply.Full which) old old
  keep_full which full =
      limit_serves number request which old
      (λ point context stands roomy.
      ap (full_served old.base.limits point request) (keep_served context) ∙ keep_limit point stands roomy ∙ full)

  -- there is
  pub keep_serves : (mid : Parts D K) (nodes : ℕ) → full_grant old command path false ≡ None → IsGranted command path path old.tickets.all old mid →
      nodes ≡ mid.nodes + length tree → Serves number request (reply.Kept stamp) old (record mid { nodes = nodes })
  keep_serves mid nodes room granted_so count = record {
    quiet = refl;
    beside = record {
      base = granted_so.beside.base;
      first = granted_so.beside.first;
      moment = granted_so.beside.moment;
      history = granted_so.beside.history;
      lost = granted_so.beside.lost;
      disk = granted_so.beside.disk;
      keeper = granted_so.beside.keeper;
    };
    unchanged = λ out. no (sym out);
    served = λ _ context. ap (λ b. record { reply = reply.Kept stamp; book = b }) granted_so.book ∙ sym (keep_served context);
    work = λ _ work rules are. subst (AreWork (record mid { nodes = nodes })) (sym (stays work)) (moved work are);
    kept = ap (λ k. k.marks) granted_so.kept;
    reserves = beside_reserves old (record mid { nodes = nodes }) granted_so.debris granted_so.jobs granted_so.kept;
    nodes = λ _. count ∙ ap₂ (λ (n m : ℕ). n + m) granted_so.nodes (sym (is.nodes (reply.Kept stamp) refl));
    paths = λ _ kept marks counted. granted_so.paths ∙ counted
        ∙ sym (paths_used path old.moment (book_in old).rows kept)
        ∙ ap (λ r. length r + length (filter (is_alone r) kept)) (sym rows);
    room = λ _ point context stands roomy.
        sym (ap (full_served old.base.limits point request) (keep_served context) ∙ keep_limit point stands roomy ∙ room);
  }
    where
      rows : (book_in mid).rows ≡ used path old.moment (book_in old).rows
      rows = ap (λ (b : Book). b.rows) granted_so.book

      stays : (work : WorkState) → work_asked request (reply.Kept stamp) (book_in old).rows (book_in mid).rows work ≡ work
      stays work = work_stays request (reply.Kept stamp) (book_in old).rows (book_in mid).rows work
          (λ one among. subst (λ r. list_any (has_stamp one.stamp) r ≡ true) (sym rows) (stamps_used path old.moment (book_in old).rows one among))
          refl (keep_ways work.ways)

      moved : (work : WorkState) → AreWork old work → AreWork (record mid { nodes = nodes }) work
      moved work are = record {
        stocks = λ stock among.
            let (one, within, at) = mapped_contains (used_stock path old.moment) old.rows stock (subst (λ r. Contains r stock) granted_so.rows among) in
            subst (IsStock work) at (stock_used path old.moment work one (are.stocks one within));
        jobs = ap jobs_of granted_so.jobs ∙ are.jobs;
        cleaned = λ running among. are.cleaned running (subst (λ j. Contains j running) granted_so.jobs among);
        debris = ap (λ d. d.list) granted_so.debris ∙ are.debris;
      }

-- ---- a row that takes the place of others

-- kept rows with the same marks ascend alike
same_ascend : (kept other : List KeptRow) → map mark_of kept ≡ map mark_of other → KeptAscend kept → KeptAscend other
same_ascend kept other same up =
    sym (by_marks other) ∙ ap (ascends_by path_of_mark) (sym same) ∙ by_marks kept ∙ up
  where
    by_marks : (some : List KeptRow) → ascends_by path_of_mark (map mark_of some) ≡ ascends_by path_of_kept some
    by_marks [] = refl
    by_marks (one ∷ some) = ap₂ (λ (a b : Bool). a && b) (after one.path some) (by_marks some)
      where
        after : (path : List (List ℕ)) (more : List KeptRow) →
            list_all (is_after_by path_of_mark path) (map mark_of more) ≡ list_all (is_after_by path_of_kept path) more
        after path [] = refl
        after path (next ∷ more) = ap (λ b. is_after_by path_of_kept path next && b) (after path more)

-- the bytes that are held are those of the stocks, where each has the way that is said of it
pub held_same : (ways : List WayOf) (stocks : List Stock) → ((one : Stock) → Contains stocks one → way_of one.row.stamp ways ≡ way_in one.method) →
    held_bytes ways (rows_of stocks) ≡ held_of_all stocks
held_same ways [] same = refl
held_same ways (first ∷ stocks) same =
    sum_by-cons (held_for ways) first.row (rows_of stocks)
    ∙ ap₂ (λ (n m : ℕ). n + m)
    (ap (λ w. cond (is_held_way w) (bytes_of first.row.tree) 0) (same first (contains_first first stocks))
    ∙ ap (λ b. cond b (bytes_of first.row.tree) 0) (by first.method))
    (held_same ways stocks (λ one among. same one (contains_more first stocks one among)))
    ∙ sym (sum_by-cons held_of first stocks)
  where
    by : (m : Method) → is_held_way (way_in m) ≡ is_held_method m
    by (method.Write bytes) = refl
    by method.Fetch = refl
    by (method.Copy source rest stamp from) = refl

module _ {D K : Type 0} (number command : ℕ) (path : List (List ℕ)) (tree : List Flat) (way : Method) (request : Asked) (old : Parts D K)
    (is : IsDeclaring request number command path tree way old) (ruled : AreRuled number old)
    (new_one : find (is_equal_row path tree) (book_in old).rows ≡ None) (has : HasNodes old (length tree)) where
  abbrev the_stock : Stock
  the_stock = new_stock number old.moment path tree way

  abbrev the_fall : Fall
  the_fall = fall_of old.kept.marks path (filter (overlaps_stock path) old.rows)

  abbrev put_book : Book
  put_book = (replace_rows number command path (new_row number old.moment path tree) (book_in old)).book

  put_served : (context : RequestContext) → serve_now number context request (book_in old) ≡ record { reply = reply.Declared number; book = put_book }
  put_served context = is.served context ∙ ap (declare_row number command path tree (book_in old)) new_one

  put_stamped : AreStampedBelow number (book_in old).rows
  put_stamped =
      subst (λ r. AreStampedBelow number r) (sym (ap (λ (b : Book). b.rows) ruled.stands.book))
      (subst (λ n. AreStampedBelow n ruled.point.book.rows) ruled.next ruled.rules.work.stamped)

  put_apart : are_apart (book_in old).rows ≡ true
  put_apart = subst (λ (b : Book). are_apart b.rows ≡ true) (sym ruled.stands.book) ruled.rules.work.apart

  -- how many paths have a row or a kept row then
  put_paths : (kept : List KeptRow) → old.kept.marks ≡ map mark_of kept → old.paths ≡ row_paths (book_in old) kept →
      row_paths put_book kept + count_by (is_unkept old.kept.marks) (filter (overlaps_stock path) old.rows)
      ≡ old.paths + one_if (is_unkept_at old.kept.marks path)
  put_paths kept marks counted =
      ap (λ ms. row_paths put_book kept + count_by (is_unkept ms) (filter (overlaps_stock path) old.rows)) marks
      ∙ paths_replaced path (new_row number old.moment path tree) old.rows kept refl (apart_left (overlaps_stock path) old.rows put_apart)
      (rows_overlapping path old.rows)
      (same_ascend ruled.point.kept kept (sym ruled.stands.kept ∙ marks) ruled.rules.kept.order)
      ∙ ap₂ (λ (n : ℕ) (ms : List Mark). n + one_if (is_unkept_at ms path)) (sym counted) (sym marks)

  module _ (point : Point) (stands : StandFor old point) (roomy : IsRoomy old.base.limits point) where
    put_rows : (book_in old).rows ≡ point.book.rows
    put_rows = ap (λ (b : Book). b.rows) stands.book

    -- how many bytes are held then
    put_held : held_bytes (ways_after request (reply.Declared number) point.book.rows point.work.ways) put_book.rows + held_of_all (filter (overlaps_stock path) old.rows)
        ≡ held_of_all old.rows + held_by way tree
    put_held =
        let sides = held_sides path old.rows in
        let put = held_put the_stock (filter (is_clear_stock path) old.rows) in
        let own : held_of the_stock ≡ held_by way tree = refl in
        omega (arith, sides, put, whole, own)
      where
        whole : held_bytes (ways_after request (reply.Declared number) point.book.rows point.work.ways) put_book.rows
            ≡ held_of_all (put_stock the_stock (filter (is_clear_stock path) old.rows))
        whole =
            ap (λ r. held_bytes (record { stamp = number; way = way_declared request r point.work.ways } ∷ point.work.ways) put_book.rows) (sym put_rows)
            ∙ ap (held_bytes (record { stamp = number; way = way_declared request (book_in old).rows point.work.ways } ∷ point.work.ways))
            (sym (rows_placed the_stock old.rows))
            ∙ held_same (record { stamp = number; way = way_declared request (book_in old).rows point.work.ways } ∷ point.work.ways)
            (put_stock the_stock (filter (is_clear_stock path) old.rows))
            (λ one among. stock_ways number the_stock one old point.work (way_declared request (book_in old).rows point.work.ways) refl put_stamped stands.work
            (is.ways point.work stands.work) among)

    abbrev then_held : ℕ
    then_held = held_bytes (ways_after request (reply.Declared number) point.book.rows point.work.ways) put_book.rows

    abbrev then_holds : Option Limit
    then_holds = cond (nat_lt old.base.limits.holds (length (with_hold command path old.holds))) (Some limit.Holds) None

    put_limit : full_served old.base.limits point request (record { reply = reply.Declared number; book = put_book })
        ≡ cond (nat_lt old.base.limits.rows (row_paths put_book point.kept)) (Some limit.Rows)
        (cond (nat_lt old.base.limits.held then_held) (Some limit.Held) then_holds)
    put_limit =
        measured old.base.limits point request (record { reply = reply.Declared number; book = put_book }) (spent_in old + 1) (old.nodes + length tree)
        (row_paths put_book point.kept) then_held (length (with_hold command path old.holds)) refl
        (ap₂ (λ (n m : ℕ). n + m) (sym (spent_same old point stands)) (is.entries (reply.Declared number) refl))
        (ap₂ (λ (n m : ℕ). n + m) (sym stands.nodes)
        (sym (ap (nodes_of request (reply.Declared number)) stands.book) ∙ is.nodes (reply.Declared number) refl))
        refl refl (le-ltb old.base.limits.asked _ fewer) refl
        ∙ nodes_left old (length tree) _ _ _ has
      where
        fewer : count_by is_open put_book.tickets ≤ old.base.limits.asked
        fewer =
            let less = count_fewer is_open
            (left_ticket number (filter (overlaps_row path) (book_in old).rows)
            (put_row (new_row number old.moment path tree) (filter (is_clear_of path) (book_in old).rows))) still old.tickets.all in
            let most : count_by is_open old.tickets.all ≤ old.base.limits.asked =
            subst (λ (b : Book). count_by is_open b.tickets ≤ old.base.limits.asked) (sym stands.book) roomy.asked in
            omega (arith, less, most)
          where
            still : (t : Ticket) → is_open (left_ticket number (filter (overlaps_row path) (book_in old).rows)
                (put_row (new_row number old.moment path tree) (filter (is_clear_of path) (book_in old).rows)) t) ≡ true → is_open t ≡ true
            still t =
                elim (is_lost (filter (overlaps_row path) (book_in old).rows)
                (put_row (new_row number old.moment path tree) (filter (is_clear_of path) (book_in old).rows)) t) as
                (λ b. is_open (cond b (with_answer number answer.Undeclared t) t) ≡ true → is_open t ≡ true)
                [ true ↦ λ it. no it | false ↦ λ it. it ]

    -- that is what the parts count
    put_counted : cond (nat_lt old.base.limits.rows (row_paths put_book point.kept)) (Some limit.Rows)
        (cond (nat_lt old.base.limits.held then_held) (Some limit.Held) then_holds)
        ≡ cond (nat_lt (old.base.limits.rows + the_fall.unkept) (old.paths + one_if the_fall.new)) (Some limit.Rows)
        (cond (nat_lt (old.base.limits.held + the_fall.held) (held_of_all old.rows + held_by way tree)) (Some limit.Held) then_holds)
    put_counted =
        ap₂ (λ (a b : Bool). cond a (Some limit.Rows) (cond b (Some limit.Held) then_holds))
        (sym (lt_shift old.base.limits.rows (row_paths put_book point.kept) the_fall.unkept)
        ∙ ap (nat_lt (old.base.limits.rows + the_fall.unkept)) (put_paths point.kept stands.kept (stands.paths ∙ ap (λ b. row_paths b point.kept) (sym stands.book))))
        (sym (lt_shift old.base.limits.held then_held the_fall.held)
        ∙ ap (nat_lt (old.base.limits.held + the_fall.held)) put_held)

    -- a limit of paths or held bytes comes before that of holds
    put_replaced : (which : Limit) → full_replaced old.base.limits old.paths (held_of_all old.rows) the_fall (held_by way tree) ≡ Some which →
        full_served old.base.limits point request (record { reply = reply.Declared number; book = put_book }) ≡ Some which
    put_replaced which full =
        put_limit ∙ put_counted
        ∙ by (nat_lt (old.base.limits.rows + the_fall.unkept) (old.paths + one_if the_fall.new))
        (nat_lt (old.base.limits.held + the_fall.held) (held_of_all old.rows + held_by way tree)) full
      where
        by : (a b : Bool) → cond a (Some limit.Rows) (cond b (Some limit.Held) None) ≡ Some which →
            cond a (Some limit.Rows) (cond b (Some limit.Held) then_holds) ≡ Some which
        by true b it = it
        by false true it = it
        by false false it = absurd (some_none which (sym it))

    -- and where neither is passed, that is left
    put_granted : full_replaced old.base.limits old.paths (held_of_all old.rows) the_fall (held_by way tree) ≡ None →
        full_served old.base.limits point request (record { reply = reply.Declared number; book = put_book }) ≡ full_grant old command path false
    put_granted free =
        put_limit ∙ put_counted
        ∙ by (nat_lt (old.base.limits.rows + the_fall.unkept) (old.paths + one_if the_fall.new))
        (nat_lt (old.base.limits.held + the_fall.held) (held_of_all old.rows + held_by way tree)) free
        ∙ sym (grant_left old command (length tree) path has)
      where
        by : (a b : Bool) → cond a (Some limit.Rows) (cond b (Some limit.Held) None) ≡ None →
            cond a (Some limit.Rows) (cond b (Some limit.Held) then_holds) ≡ then_holds
        by true b it = absurd (some_none limit.Rows it)
        by false true it = absurd (some_none limit.Held it)
        by false false it = refl

  -- there is no room for it
  pub put_full : (which : Limit) → full_replaced old.base.limits old.paths (held_of_all old.rows) the_fall (held_by way tree) ≡ Some which →
      Serves number request (reply.Full which) old old
  put_full which full =
      limit_serves number request which old
      (λ point context stands roomy.
      ap (full_served old.base.limits point request) (put_served context) ∙ put_replaced point stands roomy which full)

  pub put_hold_full : (which : Limit) → full_replaced old.base.limits old.paths (held_of_all old.rows) the_fall (held_by way tree) ≡ None →
      full_grant old command path false ≡ Some which → Serves number request (reply.Full which) old old
  put_hold_full which free full =
      limit_serves number request which old
      (λ point context stands roomy.
      ap (full_served old.base.limits point request) (put_served context) ∙ put_granted point stands roomy free ∙ full)

  -- the book that it makes
  put_made : (mid : Parts D K) → IsReplaced number command the_stock old mid → book_in mid ≡ put_book
  put_made mid made =
      ap (λ n. record (book_in mid) { first = n }) made.beside.first
      ∙ ap (λ n. record (book_in mid) { first = old.first; now = n }) made.beside.moment
      ∙ ap (λ g. record (book_in mid) { first = old.first; now = old.moment; state = g.state; live = g.live; waiting = g.waiting; soft = g.soft }) made.gate
      ∙ ap (λ (r : List Row). record (book_in old) { rows = r; holds = mid.holds; tickets = mid.tickets.all }) (ap rows_of made.rows ∙ rows_placed the_stock old.rows)
      ∙ ap (λ (h : List Hold). record (book_in old) { rows = left; holds = h; tickets = mid.tickets.all }) made.holds
      ∙ ap (λ (t : List Ticket). record (book_in old) { rows = left; holds = with_hold command path old.holds; tickets = t })
      (made.tickets
      ∙ ap (λ p. map (lost_below p (new_row number old.moment path tree) number) old.tickets.all) (top_same path old.rows put_apart)
      ∙ sym (replaced_answer number number (book_in old) path (new_row number old.moment path tree) (ruled_book number old ruled)))
    where
      left : List Row
      left = put_row (new_row number old.moment path tree) (filter (is_clear_of path) (rows_of old.rows))

  -- there is room for it
  pub put_serves : (mid : Parts D K) (nodes paths : ℕ) →
      full_replaced old.base.limits old.paths (held_of_all old.rows) the_fall (held_by way tree) ≡ None → full_grant old command path false ≡ None →
      IsReplaced number command the_stock old mid → nodes ≡ mid.nodes + length tree →
      paths + the_fall.unkept ≡ mid.paths + one_if the_fall.new →
      Serves number request (reply.Declared number) old (record mid { nodes = nodes; paths = paths })
  put_serves mid nodes paths free room made count path_count = record {
    quiet = refl;
    beside = record {
      base = made.beside.base;
      first = made.beside.first;
      moment = made.beside.moment;
      history = made.beside.history;
      lost = made.beside.lost;
      disk = made.beside.disk;
      keeper = made.beside.keeper;
    };
    unchanged = λ out. no (sym out);
    served = λ _ context. ap (λ b. record { reply = reply.Declared number; book = b }) (put_made mid made) ∙ sym (put_served context);
    work = λ _ work rules are.
        let stands = work_replaced number command the_stock request old mid made refl refl work rules are (is.ways work are) (is.right work are) in
        record { stocks = stands.stocks; jobs = stands.jobs; cleaned = stands.cleaned; debris = stands.debris };
    kept = ap (λ k. k.marks) made.kept;
    reserves = record { jobs = made.jobs; debris = λ _. made.spare; places = ap (λ k. k.reserved) made.kept };
    nodes = λ _. count ∙ ap₂ (λ (n m : ℕ). n + m) made.nodes (sym (is.nodes (reply.Declared number) refl));
    paths = λ _ kept marks counted.
        let whole = put_paths kept marks counted in
        let same : row_paths (book_in mid) kept ≡ row_paths put_book kept = ap (λ b. row_paths b kept) (put_made mid made) in
        omega (arith, whole, same, path_count, made.paths);
    room = λ _ point context stands roomy.
        sym (ap (full_served old.base.limits point request) (put_served context) ∙ put_granted point stands roomy free ∙ room);
  }

  -- the same of what was counted before
  pub put_row_serves : (sum : Sum) (fall : Fall) (mid : Parts D K) (nodes paths : ℕ) → sum ≡ sum_of tree → fall ≡ the_fall →
      full_replaced old.base.limits old.paths (held_of_all old.rows) fall (held_by way tree) ≡ None → full_grant old command path false ≡ None →
      IsReplaced number command (record {
        row = record { path = path; tree = tree; sum = sum; stamp = number; stands = false; last = old.moment };
        method = way;
        dirty = false;
      }) old mid → nodes ≡ mid.nodes + length tree → paths + fall.unkept ≡ mid.paths + one_if fall.new →
      Serves number request (reply.Declared number) old (record mid { nodes = nodes; paths = paths })
  put_row_serves sum fall mid nodes paths is_sum is_fall free room made count path_count =
      put_serves mid nodes paths
      (subst (λ f. full_replaced old.base.limits old.paths (held_of_all old.rows) f (held_by way tree) ≡ None) is_fall free) room
      (subst (λ s. IsReplaced number command (record {
        row = record { path = path; tree = tree; sum = s; stamp = number; stands = false; last = old.moment };
        method = way;
        dirty = false;
      }) old mid) is_sum made)
      count (subst (λ (f : Fall). paths + f.unkept ≡ mid.paths + one_if f.new) is_fall path_count)

-- ---- a command that isn't live

-- a limit of entries or nodes keeps a request out that declares nodes whatever it is answered
pub nodes_full : {D K : Type 0} (number nodes : ℕ) (request : Asked) (which : Limit) (old : Parts D K) → is_declaration request ≡ true →
    ((said : Reply) (book : Book) → nodes_of request said book ≡ nodes) → ((said : Reply) → entries_for request said ≡ 1) →
    full_nodes old nodes ≡ Some which → Serves number request (reply.Full which) old old
nodes_full number nodes request which old declares counts entries full =
    limit_serves number request which old
    (λ point context stands roomy.
    let served = serve_now number context request (book_in old) in
    ap₂ (λ (n m : ℕ). cond (nat_lt old.base.limits.history n) (Some limit.History)
    (cond (is_declaration request && nat_lt old.base.limits.nodes m) (Some limit.Nodes) (full_table old.base.limits point request served)))
    (ap₂ (λ (n m : ℕ). n + m) (sym (spent_same old point stands)) (entries served.reply))
    (ap₂ (λ (n m : ℕ). n + m) (sym stands.nodes) (counts served.reply point.book))
    ∙ ap (λ b. cond (nat_lt old.base.limits.history (spent_in old + 1)) (Some limit.History)
    (cond (b && nat_lt old.base.limits.nodes (old.nodes + nodes)) (Some limit.Nodes) (full_table old.base.limits point request served))) declares
    ∙ by (full_table old.base.limits point request served) (nat_lt old.base.limits.history (spent_in old + 1))
    (nat_lt old.base.limits.nodes (old.nodes + nodes)) full)
  where
    by : (rest : Option Limit) (a b : Bool) → cond a (Some limit.History) (cond b (Some limit.Nodes) None) ≡ Some which →
        cond a (Some limit.History) (cond b (Some limit.Nodes) rest) ≡ Some which
    by rest true b it = it
    by rest false true it = it
    by rest false false it = absurd (some_none which (sym it))

-- where there is room for them, such a request of a command that isn't live counts them, and does nothing else
pub refused_serves : {D K : Type 0} (number nodes count : ℕ) (request : Asked) (old : Parts D K) → full_nodes old nodes ≡ None →
    ((said : Reply) (book : Book) → nodes_of request said book ≡ nodes) → ((said : Reply) → entries_for request said ≡ 1) →
    ((context : RequestContext) → serve_now number context request (book_in old) ≡ record { reply = reply.NotLive; book = book_in old }) →
    count ≡ old.nodes + nodes → Serves number request reply.NotLive old (record old { nodes = count })
refused_serves {D} {K} number nodes count request old room counts entries served is = record {
  quiet = refl;
  beside = record { base = refl; first = refl; moment = refl; history = refl; lost = refl; disk = refl; keeper = refl };
  unchanged = λ out. no (sym out);
  served = λ _ context. sym (served context);
  work = λ _ work rules are.
      subst (AreWork (record old { nodes = count }))
      (sym (work_stays request reply.NotLive (book_in old).rows (book_in old).rows work (own_stamps (book_in old).rows) refl refl))
      (record { stocks = are.stocks; jobs = are.jobs; cleaned = are.cleaned; debris = are.debris });
  kept = refl;
  reserves = record { jobs = refl; debris = λ spare. spare; places = refl };
  nodes = λ _. is ∙ ap (λ n. old.nodes + n) (sym (counts reply.NotLive (book_in old)));
  paths = λ _ kept marks counted. counted;
  room = λ _ point context stands roomy.
      let has = has_nodes old nodes room in
      sym (ap (full_served old.base.limits point request) (served context)
      ∙ measured old.base.limits point request (record { reply = reply.NotLive; book = book_in old }) (spent_in old + 1) (old.nodes + nodes)
      (row_paths (book_in old) point.kept) (held_bytes point.work.ways (book_in old).rows) (length old.holds) refl
      (ap₂ (λ (n m : ℕ). n + m) (sym (spent_same old point stands)) (entries reply.NotLive))
      (ap₂ (λ (n m : ℕ). n + m) (sym stands.nodes) (counts reply.NotLive point.book)) refl refl
      (le-ltb old.base.limits.asked _ (subst (λ (b : Book). count_by is_open b.tickets ≤ old.base.limits.asked) (sym stands.book) roomy.asked)) refl
      ∙ nodes_left old nodes _ _ _ has
      ∙ ap (λ b. cond b (Some limit.Rows) (cond (nat_lt old.base.limits.held (held_bytes point.work.ways (book_in old).rows)) (Some limit.Held)
      (cond (nat_lt old.base.limits.holds (length old.holds)) (Some limit.Holds) None)))
      (le-ltb old.base.limits.rows _ (subst (λ (b : Book). row_paths b point.kept ≤ old.base.limits.rows) (sym stands.book) roomy.rows))
      ∙ ap (λ b. cond b (Some limit.Held) (cond (nat_lt old.base.limits.holds (length old.holds)) (Some limit.Holds) None))
      (le-ltb old.base.limits.held _ (subst (λ (b : Book). held_bytes point.work.ways b.rows ≤ old.base.limits.held) (sym stands.book) roomy.held))
      ∙ ap (λ b. cond b (Some limit.Holds) None)
      (le-ltb old.base.limits.holds _ (subst (λ (b : Book). length b.holds ≤ old.base.limits.holds) (sym stands.book) roomy.holds)));
}

-- ---- what is declared

-- whether a tree stands at a path is told by the row there
pub equal_found : (path : List (List ℕ)) (tree : List Flat) (rows : List Row) (row : Row) → are_apart rows ≡ true → find (is_at_path path) rows ≡ Some row →
    find (is_equal_row path tree) rows ≡ cond (same_tree row.tree tree) (Some row) None
equal_found path tree [] row apart is = absurd cc
equal_found path tree (first ∷ rows) row apart is =
    let parts = and_parts (list_all (is_apart first) rows) (are_apart rows) apart in
    elim (is_at_path path first) as
    (λ b. is_at_path path first ≡ b → cond b (Some first) (find (is_at_path path) rows) ≡ Some row →
    cond (b && same_tree first.tree tree) (Some first) (find (is_equal_row path tree) rows) ≡ cond (same_tree row.tree tree) (Some row) None) [
      | true ↦ λ here it.
          let one : first ≡ row = cc in
          ap (λ (o : Option Row). cond (same_tree first.tree tree) (Some first) o) (none_behind rows here parts.0)
          ∙ ap (λ (r : Row). cond (same_tree r.tree tree) (Some r) None) one
      | false ↦ λ off it. equal_found path tree rows row parts.1 it
    ] refl is
  where
    none_behind : (more : List Row) → is_at_path path first ≡ true → list_all (is_apart first) more ≡ true → find (is_equal_row path tree) more ≡ None
    none_behind [] here all = refl
    none_behind (next ∷ more) here all =
        let parts = and_parts (is_apart first next) (list_all (is_apart first) more) all in
        elim (is_at_path path next) as
        (λ b. is_at_path path next ≡ b → cond (b && same_tree next.tree tree) (Some next) (find (is_equal_row path tree) more) ≡ None) [
          | true ↦ λ at.
              absurd (both_ways (overlap first.path next.path) (apart_parts first next parts.0).1
              (subst (λ (p : List (List ℕ)). overlap first.path p ≡ true) (same_names-eq first.path path here ∙ sym (same_names-eq next.path path at))
              (overlap-refl first.path)))
          | false ↦ λ off. none_behind more here parts.1
        ] refl

pub equal_none : (path : List (List ℕ)) (tree : List Flat) (rows : List Row) → find (is_at_path path) rows ≡ None → find (is_equal_row path tree) rows ≡ None
equal_none path tree [] is = refl
equal_none path tree (first ∷ rows) is =
    elim (is_at_path path first) as
    (λ b. cond b (Some first) (find (is_at_path path) rows) ≡ None →
    cond (b && same_tree first.tree tree) (Some first) (find (is_equal_row path tree) rows) ≡ None) [
      | true ↦ λ it. absurd cc
      | false ↦ λ it. equal_none path tree rows it
    ] is

-- the row that has a tree already, by its stamp
pub found_stamp : (path : List (List ℕ)) (tree : List Flat) (stamp : ℕ) (stocks : List Stock) →
    option_map stamp_of (find (is_equal_row path tree) (rows_of stocks)) ≡ Some stamp →
    (row : Row) × (find (is_equal_row path tree) (rows_of stocks) ≡ Some row) × (row.stamp ≡ stamp)
found_stamp path tree stamp stocks is = by (find (is_equal_row path tree) (rows_of stocks)) refl is
  where
    by : (o : Option Row) → find (is_equal_row path tree) (rows_of stocks) ≡ o → option_map stamp_of o ≡ Some stamp →
        (row : Row) × (find (is_equal_row path tree) (rows_of stocks) ≡ Some row) × (row.stamp ≡ stamp)
    by None found told = absurd cc
    by (Some row) found told = let same : row.stamp ≡ stamp = cc in (row, found, same)

pub stamp_none : (path : List (List ℕ)) (tree : List Flat) (stocks : List Stock) →
    option_map stamp_of (find (is_equal_row path tree) (rows_of stocks)) ≡ None → find (is_equal_row path tree) (rows_of stocks) ≡ None
stamp_none path tree stocks is = by (find (is_equal_row path tree) (rows_of stocks)) refl is
  where
    by : (o : Option Row) → find (is_equal_row path tree) (rows_of stocks) ≡ o → option_map stamp_of o ≡ None →
        find (is_equal_row path tree) (rows_of stocks) ≡ None
    by None found told = found
    by (Some row) found told = absurd cc

-- a declaration of a tree, by a live command
pub tree_declaring : {D K : Type 0} (number command : ℕ) (path : List (List ℕ)) (tree : List Flat) (old : Parts D K) → is_live command (book_in old) ≡ true →
    IsDeclaring (asked.Declare command path tree) number command path tree method.Fetch old
tree_declaring number command path tree old live = record {
  served = λ context.
      ap (λ b. cond {A = Served} b (declare number command path tree (book_in old)) (record { reply = reply.NotLive; book = book_in old })) live;
  nodes = λ said says. refl;
  entries = λ said says. refl;
  ways = λ work are. refl;
  keeps = λ row found. refl;
  right = λ work are. unheld_right method.Fetch tree refl;
}

-- and one by a command that isn't
pub tree_refused : {D K : Type 0} (number command : ℕ) (path : List (List ℕ)) (tree : List Flat) (old : Parts D K) (context : RequestContext) →
    is_live command (book_in old) ≡ false →
    serve_now number context (asked.Declare command path tree) (book_in old) ≡ record { reply = reply.NotLive; book = book_in old }
tree_refused number command path tree old context dead =
    ap (λ b. cond {A = Served} b (declare number command path tree (book_in old)) (record { reply = reply.NotLive; book = book_in old })) dead

-- ---- numbers that fit

-- what parts count that stand for a point within the limits
pub record IsSmall {D K : Type 0} (old : Parts D K) : Type 0 where
  pub jobs : length old.jobs ≤ 1000000
  pub rows : length old.rows ≤ old.paths
  pub paths : old.paths ≤ 200000
  pub held : old.base.limits.held ≤ 268435456

pub ruled_small : {D K : Type 0} (number : ℕ) (old : Parts D K) → AreRuled number old → IsSmall old
ruled_small number old ruled =
    let jobs : length old.jobs ≡ length ruled.point.work.jobs = sym (length-map old.jobs job_of) ∙ ap length ruled.stands.work.jobs in
    let rows : length old.rows ≡ length ruled.point.book.rows = sym (length-map old.rows row_of) ∙ ap (λ (b : Book). length b.rows) ruled.stands.book in
    record {
      jobs = let most = ruled.roomy.history in let limit_is = ruled.limits.history in omega (arith, jobs, most, limit_is);
      rows = let same = ruled.stands.paths in omega (arith, rows, same);
      paths = let same = ruled.stands.paths in let most = ruled.roomy.rows in let limit_is = ruled.limits.rows in omega (arith, same, most, limit_is);
      held = ruled.limits.held;
    }

-- the bytes that are held then are few
pub put_few : {D K : Type 0} (number : ℕ) (path : List (List ℕ)) (stock : Stock) (bytes : ℕ) (fall : Fall) (old : Parts D K) → AreRuled number old →
    stock.row.path ≡ path → held_of stock ≡ bytes → fall ≡ fall_of old.kept.marks path (filter (overlaps_stock path) old.rows) →
    full_replaced old.base.limits old.paths (held_of_all old.rows) fall bytes ≡ None →
    held_of_all (put_stock stock (filter (is_clear_stock stock.row.path) old.rows)) < 2 ^ 64
put_few number path stock bytes fall old ruled at own is free =
    let put = held_put stock (filter (is_clear_stock stock.row.path) old.rows) in
    let sides = held_sides stock.row.path old.rows in
    let gone : fall.held ≡ held_of_all (filter (overlaps_stock stock.row.path) old.rows) =
    ap (λ (f : Fall). f.held) is ∙ sym (ap (λ p. held_of_all (filter (overlaps_stock p) old.rows)) at) in
    let less = held_fits (nat_lt (old.base.limits.rows + fall.unkept) (old.paths + one_if fall.new)) refl free in
    let small = (ruled_small number old ruled).held in
    omega (arith, put, sides, gone, own, less, small)
  where
    held_fits : (a : Bool) → nat_lt (old.base.limits.rows + fall.unkept) (old.paths + one_if fall.new) ≡ a →
        cond a (Some limit.Rows) (cond (nat_lt (old.base.limits.held + fall.held) (held_of_all old.rows + bytes)) (Some limit.Held) None) ≡ None →
        held_of_all old.rows + bytes ≤ old.base.limits.held + fall.held
    held_fits true x it = absurd (some_none limit.Rows it)
    held_fits false x it = by (nat_lt (old.base.limits.held + fall.held) (held_of_all old.rows + bytes)) refl it
      where
        by : (b : Bool) → nat_lt (old.base.limits.held + fall.held) (held_of_all old.rows + bytes) ≡ b → cond b (Some limit.Held) None ≡ None →
            held_of_all old.rows + bytes ≤ old.base.limits.held + fall.held
        by true y it = absurd (some_none limit.Held it)
        by false y it = ltb-false (old.base.limits.held + fall.held) (held_of_all old.rows + bytes) y

-- no more paths are without a kept row than have a row or a kept row, and no more rows are gone
pub fall_small : {D K : Type 0} (number : ℕ) (path : List (List ℕ)) (fall : Fall) (old : Parts D K) → AreRuled number old →
    fall ≡ fall_of old.kept.marks path (filter (overlaps_stock path) old.rows) → (fall.unkept ≤ old.paths) × (fall.rows ≤ 200000)
fall_small number path fall old ruled is =
    let small = ruled_small number old ruled in
    let most = overlap_most old.kept.marks path old.rows in
    let unkept : fall.unkept ≡ count_by (is_unkept old.kept.marks) (filter (overlaps_stock path) old.rows) = ap (λ (f : Fall). f.unkept) is in
    let rows : fall.rows ≡ length (filter (overlaps_stock path) old.rows) = ap (λ (f : Fall). f.rows) is in
    let a = most.0 in let b = most.1 in let c = small.rows in let d = small.paths in
    (omega (arith, unkept, b, c), omega (arith, rows, a, c, d))
