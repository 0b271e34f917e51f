-- A row that has the tree that is written and doesn't stand takes the bytes.
use Rattle.std.proofs.Common.{◌≡◌, ◌<◌, ◌≤◌, ◌+◌, ◌^◌, nat_lt, ℕ, Bool, true, false, not, ◌&&◌, cond, List, [], ◌∷◌, map, filter, find, length, count_by, Contains, Option, Some, None, inl, inr, refl, ◌∙◌, sym, ap, ap₂, subst, arith}
use Rattle.std.specs.List.{list_all, list_any}
use Rattle.std.specs.Option.{option_map}
use Rattle.std.proofs.lemmas.Bool.{and_from, and_parts, both_ways, le-ltb, ltb-false, not-true}
use Rattle.mat_path.proofs.Elements.{contains_cases, contains_map, mapped_contains, none_passes}
use Rattle.mat_path.proofs.Overlaps.{overlap-refl}
use Rattle.mat_path.proofs.SameNames.{same_names-eq}
use Rattle.mat_path.specs.Names.{overlap}
use Rattle.mat_digest.specs.Digests.{digest_of}
use Rattle.mat_tree.specs.declared.flat.Flat.{Flat}
use Rattle.mat_tree.specs.declared.sum.Sum.{Sum}
use Rattle.mat_tree.specs.Trees.{bytes_of, same_tree}
use Rattle.mat_model.specs.declared.answers.Limit.{Limit}
use Rattle.mat_model.specs.declared.answers.Limit.TheVariants as limit
use Rattle.mat_model.specs.declared.answers.Reply.TheVariants as reply
use Rattle.mat_model.specs.declared.book.Book.{Book}
use Rattle.mat_model.specs.declared.book.Row.{Row}
use Rattle.mat_model.specs.declared.requests.Asked.{Asked}
use Rattle.mat_model.specs.declared.requests.Asked.TheVariants as asked
use Rattle.mat_model.specs.Declarations.{declare, declare_row, is_equal_row, written_tree}
use Rattle.mat_model.specs.Gate.{Served, is_live}
use Rattle.mat_model.specs.History.{Point, nodes_of}
use Rattle.mat_model.specs.Requests.{RequestContext, serve_now}
use Rattle.mat_model.specs.Room.{full_served, held_bytes, is_alone, row_paths}
use Rattle.mat_model.specs.Rows.{are_apart, is_apart, is_at_path, used}
use Rattle.mat_model.specs.Tickets.{is_open, with_hold}
use Rattle.mat_model.specs.WorkState.{WayOf, WorkState, has_stamp, held, lies_at, ways_after}
use Rattle.model_laws.specs.RoomRules.{IsRoomy}
use Rattle.model_laws.specs.RowRules.{AreStampedBelow}
use Rattle.model_laws.proofs.Apart.{apart_parts}
use Rattle.model_laws.proofs.BooksLists.{contains_any, found_alone}
use Rattle.model_laws.proofs.BooksRows.{apart_same}
use Rattle.model_laws.proofs.Elements.{contains_all, found_contains, found_passes}
use Rattle.model_laws.proofs.StampLemmas.{one_stamp}
use Rattle.write_plan.specs.declared.method.Method.{Method}
use Rattle.write_plan.specs.declared.method.Method.TheVariants as method
use Rattle.job_book.specs.Jobs.{jobs_of}
use Rattle.job_run.specs.Orders.{is_right}
use Rattle.row_book.specs.declared.stock.Stock.{Stock}
use Rattle.row_book.specs.Stocks.{changed_at, held_bytes as held_of_all, held_of, is_held_method, row_of, rows_of, stock_at, supplied_stock, used_stock, with_method, with_use}
use Rattle.row_book.proofs.ChangeLemmas.{held_changed}
use Rattle.row_book.proofs.RowLemmas.{rows_supplied, rows_used}
use Rattle.mat_core.specs.Books.{AreWork, IsStock, StandFor, book_in}
use Rattle.mat_core.specs.Declaring.{IsDeclaring}
use Rattle.mat_core.specs.Grants.{IsGranted, granted}
use Rattle.mat_core.specs.Replacing.{AreRuled}
use Rattle.mat_core.specs.Rooms.{full_grant, spent_in}
use Rattle.mat_core.specs.Served.{Serves}
use Rattle.mat_core.specs.Writing.{IsWriting, lies_equal, lying_of}
use Rattle.mat_core.specs.declared.parts.Parts.{Parts}
use Rattle.mat_core.specs.declared.writing.Lying.{Lying}
use Rattle.mat_core.proofs.DeclareLemmas.{HasNodes, grant_left, held_same, limit_serves, lt_shift, measured, nodes_left}
use Rattle.mat_core.proofs.GrantLemmas.{paths_used, stamps_used}
use Rattle.mat_core.proofs.ReplaceLemmas.{way_first, way_other}
use Rattle.mat_core.proofs.RightLemmas.{same_right, written_right}
use Rattle.mat_core.proofs.ServeLemmas.{beside_reserves, spent_same, work_ways}

no : {X : Type 0} → false ≡ true → X
no is = absurd (both_ways false refl is)

-- a stock that is used and then gets a method is changed at its path once
abbrev pub taken : ℕ → Method → Stock → Stock
taken moment way stock = with_method way (with_use moment stock)

taken_once : (path : List (List ℕ)) (moment : ℕ) (way : Method) (stock : Stock) →
    supplied_stock path way (used_stock path moment stock) ≡ changed_at path (taken moment way) stock
taken_once path moment way stock =
    elim (stock_at path stock) as
    (λ b. stock_at path stock ≡ b → supplied_stock path way (cond b (with_use moment stock) stock) ≡ cond b (taken moment way stock) stock) [
      | true ↦ λ is. ap (λ b. cond b (taken moment way stock) (with_use moment stock)) is
      | false ↦ λ is. ap (λ b. cond b (with_method way stock) stock) is
    ] refl

pub all_taken : (path : List (List ℕ)) (moment : ℕ) (way : Method) (stocks : List Stock) →
    map (supplied_stock path way) (map (used_stock path moment) stocks) ≡ map (changed_at path (taken moment way)) stocks
all_taken path moment way [] = refl
all_taken path moment way (stock ∷ stocks) =
    ap₂ (λ (s : Stock) (ss : List Stock). s ∷ ss) (taken_once path moment way stock) (all_taken path moment way stocks)

rows_taken : (path : List (List ℕ)) (moment : ℕ) (way : Method) (stocks : List Stock) →
    rows_of (map (changed_at path (taken moment way)) stocks) ≡ used path moment (rows_of stocks)
rows_taken path moment way stocks =
    sym (ap rows_of (all_taken path moment way stocks)) ∙ rows_supplied path way (map (used_stock path moment) stocks) ∙ rows_used path moment stocks

-- of stocks that are apart those at one path are one
same_at : (path : List (List ℕ)) (stocks : List Stock) (one other : Stock) → are_apart (rows_of stocks) ≡ true → Contains stocks one → Contains stocks other →
    stock_at path one ≡ true → stock_at path other ≡ true → other ≡ one
same_at path [] one other apart (k, within, at) among here there = absurd (omega (arith, within))
same_at path (first ∷ stocks) one other apart among also here there =
    let parts = and_parts (list_all (is_apart first.row) (rows_of stocks)) (are_apart (rows_of stocks)) apart in
    elim (contains_cases first stocks one among) [
      | inl is ↦ elim (contains_cases first stocks other also) [
        | inl too ↦ sym too ∙ is
        | inr more ↦ absurd (behind other parts.0 more (subst (λ (s : Stock). stock_at path s ≡ true) (sym is) here) there)
      ]
      | inr rest ↦ elim (contains_cases first stocks other also) [
        | inl too ↦ absurd (behind one parts.0 rest (subst (λ (s : Stock). stock_at path s ≡ true) (sym too) there) here)
        | inr more ↦ same_at path stocks one other parts.1 rest more here there
      ]
    ]
  where
    behind : (next : Stock) → list_all (is_apart first.row) (rows_of stocks) ≡ true → Contains stocks next → stock_at path first ≡ true →
        stock_at path next ≡ true → ⊥
    behind next all within at then_at =
        both_ways (overlap first.row.path next.row.path)
        (apart_parts first.row next.row (contains_all (is_apart first.row) (rows_of stocks) next.row all (contains_map row_of stocks next within))).1
        (subst (λ (p : List (List ℕ)). overlap first.row.path p ≡ true)
        (same_names-eq first.row.path path at ∙ sym (same_names-eq next.row.path path then_at)) (overlap-refl first.row.path))

-- a stock of a test at a path is the one there
pub test_at : (path : List (List ℕ)) (test : Stock → Bool) (stocks : List Stock) (stock : Stock) → are_apart (rows_of stocks) ≡ true →
    find (stock_at path) stocks ≡ Some stock → ((other : Stock) → test other ≡ true → stock_at path other ≡ true) →
    find test stocks ≡ cond (test stock) (Some stock) None
test_at path test [] stock apart found at = absurd cc
test_at path test (first ∷ stocks) stock apart found at =
    let parts = and_parts (list_all (is_apart first.row) (rows_of stocks)) (are_apart (rows_of stocks)) apart in
    elim (stock_at path first) as
    (λ b. stock_at path first ≡ b → cond b (Some first) (find (stock_at path) stocks) ≡ Some stock →
    cond (test first) (Some first) (find test stocks) ≡ cond (test stock) (Some stock) None) [
      | true ↦ λ here it.
          let same : first ≡ stock = cc in
          ap (λ (o : Option Stock). cond (test first) (Some first) o) (none_behind stocks here parts.0)
          ∙ ap (λ (s : Stock). cond (test s) (Some s) None) same
      | false ↦ λ off it.
          ap (λ b. cond b (Some first) (find test stocks)) (fails first off) ∙ test_at path test stocks stock parts.1 it at
    ] refl found
  where
    fails : (other : Stock) → stock_at path other ≡ false → test other ≡ false
    fails other off =
        elim (test other) as (λ b. test other ≡ b → b ≡ false) [
          | true ↦ λ is. absurd (both_ways (stock_at path other) off (at other is))
          | false ↦ λ is. refl
        ] refl

    none_behind : (more : List Stock) → stock_at path first ≡ true → list_all (is_apart first.row) (rows_of more) ≡ true → find test more ≡ None
    none_behind [] here all = refl
    none_behind (next ∷ more) here all =
        let parts = and_parts (is_apart first.row next.row) (list_all (is_apart first.row) (rows_of more)) all in
        elim (stock_at path next) as (λ b. stock_at path next ≡ b → cond (test next) (Some next) (find test more) ≡ None) [
          | true ↦ λ there.
              absurd (both_ways (overlap first.row.path next.row.path) (apart_parts first.row next.row parts.0).1
              (subst (λ (p : List (List ℕ)). overlap first.row.path p ≡ true)
              (same_names-eq first.row.path path here ∙ sym (same_names-eq next.row.path path there)) (overlap-refl first.row.path)))
          | false ↦ λ off. ap (λ b. cond b (Some next) (find test more)) (fails next off) ∙ none_behind more here parts.1
        ] refl

at_path_of : (path : List (List ℕ)) (tree : List Flat) (stock : Stock) → lies_equal path tree stock ≡ true → stock_at path stock ≡ true
at_path_of path tree stock is =
    (and_parts (is_at_path path stock.row) (same_tree stock.row.tree tree) (and_parts (is_equal_row path tree stock.row) (not stock.row.stands) is).0).0

-- the stock that lies is the one at the path
found_here : (path : List (List ℕ)) (tree : List Flat) (stocks : List Stock) (stock : Stock) → are_apart (rows_of stocks) ≡ true →
    find (lies_equal path tree) stocks ≡ Some stock → find (stock_at path) stocks ≡ Some stock
found_here path tree stocks stock apart found =
    let among = found_contains (lies_equal path tree) stocks stock found in
    let at = at_path_of path tree stock (found_passes (lies_equal path tree) stocks stock found) in
    found_alone (stock_at path) stocks stock among at (λ other also too. same_at path stocks stock other apart among also at too)

-- how many bytes are held once it took a method that holds them
taken_held : (path : List (List ℕ)) (moment : ℕ) (way : Method) (lying : Lying) (stock : Stock) (stocks : List Stock) → are_apart (rows_of stocks) ≡ true →
    find (stock_at path) stocks ≡ Some stock → lying_of stock ≡ lying → is_held_method way ≡ true →
    held_of_all (map (changed_at path (taken moment way)) stocks) + lying.held ≡ held_of_all stocks + lying.bytes
taken_held path moment way lying stock stocks apart here told holds =
    let changed = held_changed path (taken moment way) stocks stock apart (sym here) in
    let before : held_of stock ≡ lying.held = ap (λ (l : Lying). l.held) told in
    let behind : held_of (taken moment way stock) ≡ lying.bytes =
    ap (λ b. cond b (bytes_of stock.row.tree) 0) holds ∙ ap (λ (l : Lying). l.bytes) told in
    omega (arith, changed, before, behind)

-- and these are few
pub write_few : {D K : Type 0} (number command : ℕ) (path : List (List ℕ)) (tree : List Flat) (way : Method) (lying : Lying) (stock : Stock)
    (old mid : Parts D K) → AreRuled number old → find (lies_equal path tree) old.rows ≡ Some stock → lying_of stock ≡ lying → is_held_method way ≡ true →
    nat_lt (old.base.limits.held + lying.held) (held_of_all old.rows + lying.bytes) ≡ false → IsGranted command path path old.tickets.all old mid →
    held_of_all (map (supplied_stock path way) mid.rows) < 2 ^ 64
write_few number command path tree way lying stock old mid ruled found told holds free made =
    let apart : are_apart (rows_of old.rows) ≡ true = subst (λ (b : Book). are_apart b.rows ≡ true) (sym ruled.stands.book) ruled.rules.work.apart in
    let all = taken_held path old.moment way lying stock old.rows apart (found_here path tree old.rows stock apart found) told holds in
    let same : held_of_all (map (supplied_stock path way) mid.rows) ≡ held_of_all (map (changed_at path (taken old.moment way)) old.rows) =
    ap (λ rows. held_of_all (map (supplied_stock path way) rows)) made.rows ∙ ap held_of_all (all_taken path old.moment way old.rows) in
    let less = ltb-false (old.base.limits.held + lying.held) (held_of_all old.rows + lying.bytes) free in
    let small = ruled.limits.held in
    omega (arith, same, less, all, small)

module _ {D K : Type 0} (number command : ℕ) (path : List (List ℕ)) (tree : List Flat) (way : Method) (lying : Lying) (stock : Stock) (request : Asked)
    (old : Parts D K) (is : IsWriting request number command path tree way old) (ruled : AreRuled number old)
    (found : find (lies_equal path tree) old.rows ≡ Some stock) (told : lying_of stock ≡ lying) (has : HasNodes old (length tree)) where
  apart : are_apart (rows_of old.rows) ≡ true
  apart = subst (λ (b : Book). are_apart b.rows ≡ true) (sym ruled.stands.book) ruled.rules.work.apart

  stamped : AreStampedBelow number (rows_of old.rows)
  stamped =
      subst (λ r. AreStampedBelow number r) (sym (ap (λ (b : Book). b.rows) ruled.stands.book))
      (subst (λ n. AreStampedBelow n ruled.point.book.rows) ruled.next ruled.rules.work.stamped)

  among : Contains old.rows stock
  among = found_contains (lies_equal path tree) old.rows stock found

  passes : (is_equal_row path tree stock.row ≡ true) × (not stock.row.stands ≡ true)
  passes = and_parts (is_equal_row path tree stock.row) (not stock.row.stands) (found_passes (lies_equal path tree) old.rows stock found)

  at : stock_at path stock ≡ true
  at = (and_parts (is_at_path path stock.row) (same_tree stock.row.tree tree) passes.0).0

  here : find (stock_at path) old.rows ≡ Some stock
  here = found_here path tree old.rows stock apart found

  row_found : find (is_equal_row path tree) (rows_of old.rows) ≡ Some stock.row
  row_found = found_alone (is_equal_row path tree) (rows_of old.rows) stock.row (contains_map row_of old.rows stock among) passes.0
      (λ other also too.
      apart_same (rows_of old.rows) other stock.row apart also (contains_map row_of old.rows stock among)
      (subst (λ (p : List (List ℕ)). overlap other.path p ≡ true)
      (same_names-eq other.path path (and_parts (is_at_path path other) (same_tree other.tree tree) too).0 ∙ sym (same_names-eq stock.row.path path at))
      (overlap-refl other.path)))

  abbrev kept_book : Book
  kept_book = granted command path path old.tickets.all (book_in old)

  abbrev the_ways : List WayOf → List WayOf
  the_ways ways = record { stamp = lying.stamp; way = held } ∷ ways

  abbrev the_rows : List Stock
  the_rows = map (changed_at path (taken old.moment way)) old.rows

  write_served : (context : RequestContext) → serve_now number context request (book_in old) ≡ record { reply = reply.Kept lying.stamp; book = kept_book }
  write_served context = is.served context ∙ ap (declare_row number command path tree (book_in old)) row_found
      ∙ ap (λ (l : Lying). record { reply = reply.Kept l.stamp; book = kept_book }) told

  write_ways : (ways : List WayOf) → ways_after request (reply.Kept lying.stamp) (book_in old).rows ways ≡ the_ways ways
  write_ways ways = ap (λ b. cond b (the_ways ways) ways) (is.writes stock.row row_found (not-true stock.row.stands passes.1))

  -- each stock has the way that is said of it then
  taken_stocks : (work : WorkState) → AreWork old work → (one : Stock) → Contains the_rows one → IsStock (record work { ways = the_ways work.ways }) one
  taken_stocks work are one within =
      let (before, there, same) = mapped_contains (changed_at path (taken old.moment way)) old.rows one within in
      subst (IsStock (record work { ways = the_ways work.ways })) same (by before there (stock_at path before) refl)
    where
      by : (s : Stock) → Contains old.rows s → (b : Bool) → stock_at path s ≡ b →
          IsStock (record work { ways = the_ways work.ways }) (cond b (taken old.moment way s) s)
      by s there true yes_at = record {
        way = way_first lying.stamp s.row.stamp held work.ways
            (ap (λ (t : Stock). t.row.stamp) (same_at path old.rows stock s apart among there at yes_at) ∙ ap (λ (l : Lying). l.stamp) told)
            ∙ sym is.takes;
        mark = (are.stocks s there).mark;
        right = subst (λ (t : Stock). list_all (is_right way) t.row.tree ≡ true) (sym (same_at path old.rows stock s apart among there at yes_at))
            (same_right way tree stock.row.tree (and_parts (is_at_path path stock.row) (same_tree stock.row.tree tree) passes.0).1 is.right);
      }
      by s there false off = record {
        way = way_other lying.stamp s.row.stamp held work.ways
            (λ same.
            both_ways (stock_at path s) off
            (subst (λ (r : Row). is_at_path path r ≡ true)
            (one_stamp (rows_of old.rows) stock.row s.row stamped.differ (contains_map row_of old.rows stock among) (contains_map row_of old.rows s there)
            (ap (λ (l : Lying). l.stamp) told ∙ same)) at))
            ∙ (are.stocks s there).way;
        mark = (are.stocks s there).mark;
        right = (are.stocks s there).right;
      }

  taken_here : held_of_all the_rows + lying.held ≡ held_of_all old.rows + lying.bytes
  taken_here = taken_held path old.moment way lying stock old.rows apart here told is.holds

  module _ (point : Point) (stands : StandFor old point) (roomy : IsRoomy old.base.limits point) where
    write_rows : (book_in old).rows ≡ point.book.rows
    write_rows = ap (λ (b : Book). b.rows) stands.book

    write_held : held_bytes (ways_after request (reply.Kept lying.stamp) point.book.rows point.work.ways) kept_book.rows ≡ held_of_all the_rows
    write_held =
        ap (λ w. held_bytes w kept_book.rows)
        (ap (λ r. ways_after request (reply.Kept lying.stamp) r point.work.ways) (sym write_rows) ∙ write_ways point.work.ways)
        ∙ ap (held_bytes (the_ways point.work.ways)) (sym (rows_taken path old.moment way old.rows))
        ∙ held_same (the_ways point.work.ways) the_rows (λ one within. (taken_stocks point.work stands.work one within).way)

    abbrev then_holds : Option Limit
    then_holds = cond (nat_lt old.base.limits.holds (length (with_hold command path old.holds))) (Some limit.Holds) None

    write_limit : full_served old.base.limits point request (record { reply = reply.Kept lying.stamp; book = kept_book })
        ≡ cond (nat_lt (old.base.limits.held + lying.held) (held_of_all old.rows + lying.bytes)) (Some limit.Held) then_holds
    write_limit =
        measured old.base.limits point request (record { reply = reply.Kept lying.stamp; book = kept_book }) (spent_in old + 1) (old.nodes + length tree)
        (row_paths kept_book point.kept) (held_of_all the_rows) (length (with_hold command path old.holds)) refl
        (ap₂ (λ (n m : ℕ). n + m) (sym (spent_same old point stands)) (is.entries (reply.Kept lying.stamp) refl))
        (ap₂ (λ (n m : ℕ). n + m) (sym stands.nodes)
        (sym (ap (nodes_of request (reply.Kept lying.stamp)) stands.book) ∙ is.nodes (reply.Kept lying.stamp) refl))
        refl write_held (le-ltb old.base.limits.asked _ (subst (λ (b : Book). count_by is_open b.tickets ≤ old.base.limits.asked) (sym stands.book) roomy.asked)) refl
        ∙ nodes_left old (length tree) _ _ _ has
        ∙ ap (λ b. cond b (Some limit.Rows) (cond (nat_lt old.base.limits.held (held_of_all the_rows)) (Some limit.Held) then_holds))
        (le-ltb old.base.limits.rows _ paths)
        ∙ ap (λ b. cond b (Some limit.Held) then_holds)
        (sym (lt_shift old.base.limits.held (held_of_all the_rows) lying.held) ∙ ap (nat_lt (old.base.limits.held + lying.held)) taken_here)
      where
        paths : row_paths kept_book point.kept ≤ old.base.limits.rows
        paths =
            subst (λ n. n ≤ old.base.limits.rows)
            (sym (paths_used path old.moment (book_in old).rows point.kept ∙ ap (λ r. length r + length (filter (is_alone r) point.kept)) write_rows)) roomy.rows

  -- there is no room for it
  pub write_held_full : nat_lt (old.base.limits.held + lying.held) (held_of_all old.rows + lying.bytes) ≡ true → Serves number request (reply.Full limit.Held) old old
  write_held_full full =
      limit_serves number request limit.Held old
      (λ point context stands roomy.
      ap (full_served old.base.limits point request) (write_served context) ∙ write_limit point stands roomy
      ∙ ap (λ b. cond b (Some limit.Held) (then_holds point stands roomy)) full)

  pub write_full : (which : Limit) → nat_lt (old.base.limits.held + lying.held) (held_of_all old.rows + lying.bytes) ≡ false →
      full_grant old command path false ≡ Some which → Serves number request (reply.Full which) old old
  write_full which free full =
      limit_serves number request which old
      (λ point context stands roomy.
      ap (full_served old.base.limits point request) (write_served context) ∙ write_limit point stands roomy
      ∙ ap (λ b. cond b (Some limit.Held) (then_holds point stands roomy)) free ∙ sym (grant_left old command (length tree) path has) ∙ full)

  -- there is room for it
  pub write_serves : (mid : Parts D K) (rows : List Stock) (nodes : ℕ) →
      nat_lt (old.base.limits.held + lying.held) (held_of_all old.rows + lying.bytes) ≡ false → full_grant old command path false ≡ None →
      IsGranted command path path old.tickets.all old mid → rows ≡ map (supplied_stock path way) mid.rows → nodes ≡ mid.nodes + length tree →
      Serves number request (reply.Kept lying.stamp) old (record mid { rows = rows; nodes = nodes })
  write_serves mid rows nodes free room made given count = record {
    quiet = refl;
    beside = record {
      base = made.beside.base;
      first = made.beside.first;
      moment = made.beside.moment;
      history = made.beside.history;
      lost = made.beside.lost;
      disk = made.beside.disk;
      keeper = made.beside.keeper;
    };
    unchanged = λ out. no (sym out);
    served = λ _ context. ap (λ (b : Book). record { reply = reply.Kept lying.stamp; book = b }) (same_book ∙ made.book) ∙ sym (write_served context);
    work = λ _ work rules are.
        subst (AreWork (record mid { rows = rows; nodes = nodes }))
        (sym (work_ways request (reply.Kept lying.stamp) (book_in old).rows (rows_of rows) work (the_ways work.ways)
        (λ one within. subst (λ r. list_any (has_stamp one.stamp) r ≡ true) (sym then_rows) (stamps_used path old.moment (book_in old).rows one within))
        refl (write_ways work.ways)))
        (record {
          stocks = λ one within. taken_stocks work are one (subst (λ ss. Contains ss one) the_rows_are within);
          jobs = ap jobs_of made.jobs ∙ are.jobs;
          cleaned = λ running within. are.cleaned running (subst (λ j. Contains j running) made.jobs within);
          debris = ap (λ d. d.list) made.debris ∙ are.debris;
        });
    kept = ap (λ k. k.marks) made.kept;
    reserves = beside_reserves old (record mid { rows = rows; nodes = nodes }) made.debris made.jobs made.kept;
    nodes = λ _. count ∙ ap₂ (λ (n m : ℕ). n + m) made.nodes (sym (is.nodes (reply.Kept lying.stamp) refl));
    paths = λ _ kept marks counted. made.paths ∙ counted
        ∙ sym (paths_used path old.moment (book_in old).rows kept)
        ∙ ap (λ r. length r + length (filter (is_alone r) kept)) (sym then_rows);
    room = λ _ point context stands roomy.
        sym (ap (full_served old.base.limits point request) (write_served context) ∙ write_limit point stands roomy
        ∙ ap (λ b. cond b (Some limit.Held) (then_holds point stands roomy)) free ∙ sym (grant_left old command (length tree) path has) ∙ room);
  }
    where
      the_rows_are : rows ≡ the_rows
      the_rows_are = given ∙ ap (map (supplied_stock path way)) made.rows ∙ all_taken path old.moment way old.rows

      then_rows : rows_of rows ≡ used path old.moment (book_in old).rows
      then_rows = ap rows_of the_rows_are ∙ rows_taken path old.moment way old.rows

      same_book : book_in (record mid { rows = rows; nodes = nodes }) ≡ book_in mid
      same_book =
          ap (λ (r : List Row). record (book_in mid) { rows = r }) (ap rows_of given ∙ rows_supplied path way mid.rows)

-- ---- what is written

-- the rows of parts that stand for a point which keeps its rules are apart
pub ruled_apart : {D K : Type 0} (number : ℕ) (old : Parts D K) → AreRuled number old → are_apart (rows_of old.rows) ≡ true
ruled_apart number old ruled = subst (λ (b : Book). are_apart b.rows ≡ true) (sym ruled.stands.book) ruled.rules.work.apart

find_fails : {A : Type 0} (test : A → Bool) (xs : List A) (x : A) → find test xs ≡ None → Contains xs x → test x ≡ false
find_fails test [] x is (k, within, at) = absurd (omega (arith, within))
find_fails {A} test (first ∷ xs) x is among =
    elim (test first) as (λ b. test first ≡ b → cond b (Some first) (find test xs) ≡ None → test x ≡ false) [
      | true ↦ λ here it. absurd cc
      | false ↦ λ off it.
          elim (contains_cases first xs x among) [
            | inl same ↦ subst (λ (y : A). test y ≡ false) same off
            | inr more ↦ find_fails test xs x it more
          ]
    ] refl is

-- the row at a path that has a tree and doesn't stand, by the one at the path
pub lying_found : (path : List (List ℕ)) (tree : List Flat) (stocks : List Stock) (stock : Stock) (b : Bool) → are_apart (rows_of stocks) ≡ true →
    find (stock_at path) stocks ≡ Some stock → (same_tree stock.row.tree tree && not stock.row.stands) ≡ b →
    find (lies_equal path tree) stocks ≡ cond b (Some stock) None
lying_found path tree stocks stock b apart found is =
    test_at path (lies_equal path tree) stocks stock apart found (at_path_of path tree)
    ∙ ap (λ c. cond c (Some stock) None)
    (ap (λ c. (c && same_tree stock.row.tree tree) && not stock.row.stands) (found_passes (stock_at path) stocks stock found) ∙ is)

pub lying_none : (path : List (List ℕ)) (tree : List Flat) (stocks : List Stock) → find (stock_at path) stocks ≡ None → find (lies_equal path tree) stocks ≡ None
lying_none path tree [] is = refl
lying_none path tree (first ∷ stocks) is =
    elim (stock_at path first) as
    (λ b. cond b (Some first) (find (stock_at path) stocks) ≡ None →
    cond ((b && same_tree first.row.tree tree) && not first.row.stands) (Some first) (find (lies_equal path tree) stocks) ≡ None) [
      | true ↦ λ it. absurd cc
      | false ↦ λ it. lying_none path tree stocks it
    ] is

-- what is told of a stock
abbrev pub told_as : ℕ → ℕ → ℕ → Option Lying
told_as stamp h b = Some (record { stamp = stamp; held = h; bytes = b })

pub lying_told : (stock : Stock) (h b : ℕ) → h ≡ held_of stock → b ≡ bytes_of stock.row.tree → told_as stock.row.stamp h b ≡ Some (lying_of stock)
lying_told stock h b x y = ap (λ n. told_as stock.row.stamp n b) x ∙ ap (λ n. told_as stock.row.stamp (held_of stock) n) y

-- the stock that lies, by what is told of it
pub lying_stock : (path : List (List ℕ)) (tree : List Flat) (lying : Lying) (stocks : List Stock) →
    option_map lying_of (find (lies_equal path tree) stocks) ≡ Some lying →
    (stock : Stock) × (find (lies_equal path tree) stocks ≡ Some stock) × (lying_of stock ≡ lying)
lying_stock path tree lying stocks is = by (find (lies_equal path tree) stocks) refl is
  where
    by : (o : Option Stock) → find (lies_equal path tree) stocks ≡ o → option_map lying_of o ≡ Some lying →
        (stock : Stock) × (find (lies_equal path tree) stocks ≡ Some stock) × (lying_of stock ≡ lying)
    by None found told = absurd cc
    by (Some stock) found told = let same : lying_of stock ≡ lying = cc in (stock, found, same)

pub lying_absent : (path : List (List ℕ)) (tree : List Flat) (stocks : List Stock) → option_map lying_of (find (lies_equal path tree) stocks) ≡ None →
    find (lies_equal path tree) stocks ≡ None
lying_absent path tree stocks is = by (find (lies_equal path tree) stocks) refl is
  where
    by : (o : Option Stock) → find (lies_equal path tree) stocks ≡ o → option_map lying_of o ≡ None → find (lies_equal path tree) stocks ≡ None
    by None found told = found
    by (Some stock) found told = absurd cc

-- a write by a live command declares its file, where no row at the path has it already and doesn't stand
pub write_declaring : {D K : Type 0} (number command : ℕ) (path : List (List ℕ)) (sum : Sum) (bytes : List ℕ) (old : Parts D K) →
    are_apart (rows_of old.rows) ≡ true → is_live command (book_in old) ≡ true → find (lies_equal path (written_tree sum)) old.rows ≡ None →
    sum.digest ≡ digest_of bytes → IsDeclaring (asked.Write command path sum) number command path (written_tree sum) (method.Write bytes) old
write_declaring number command path sum bytes old apart live none digest = record {
  served = λ context.
      ap (λ b. cond {A = Served} b (declare number command path (written_tree sum) (book_in old)) (record { reply = reply.NotLive; book = book_in old })) live;
  nodes = λ said says. refl;
  entries = λ said says. refl;
  ways = λ work are. refl;
  keeps = λ row found.
      let equal = found_passes (is_equal_row path (written_tree sum)) (rows_of old.rows) row found in
      let within = found_contains (is_equal_row path (written_tree sum)) (rows_of old.rows) row found in
      none_passes (lies_at path) (rows_of old.rows)
      (λ other among.
      elim (lies_at path other) as (λ b. lies_at path other ≡ b → b ≡ false) [
        | true ↦ λ lies.
            let parts = and_parts (is_at_path path other) (not other.stands) lies in
            let same : other ≡ row =
            apart_same (rows_of old.rows) other row apart among within
            (subst (λ (p : List (List ℕ)). overlap other.path p ≡ true)
            (same_names-eq other.path path parts.0
            ∙ sym (same_names-eq row.path path (and_parts (is_at_path path row) (same_tree row.tree (written_tree sum)) equal).0)) (overlap-refl other.path)) in
            let (stock, there, is) = mapped_contains row_of old.rows other among in
            absurd (both_ways (lies_equal path (written_tree sum) stock) (find_fails (lies_equal path (written_tree sum)) old.rows stock none there)
            (subst (λ (r : Row). (is_equal_row path (written_tree sum) r && not r.stands) ≡ true) (sym is)
            (and_from (is_equal_row path (written_tree sum) other) (not other.stands)
            (subst (λ (r : Row). is_equal_row path (written_tree sum) r ≡ true) (sym same) equal) parts.1)))
        | false ↦ λ off. refl
      ] refl);
  right = λ work are. written_right bytes sum digest;
}

-- else that row takes the bytes
pub write_writing : {D K : Type 0} (number command : ℕ) (path : List (List ℕ)) (sum : Sum) (bytes : List ℕ) (old : Parts D K) →
    is_live command (book_in old) ≡ true → sum.digest ≡ digest_of bytes →
    IsWriting (asked.Write command path sum) number command path (written_tree sum) (method.Write bytes) old
write_writing number command path sum bytes old live digest = record {
  served = λ context.
      ap (λ b. cond {A = Served} b (declare number command path (written_tree sum) (book_in old)) (record { reply = reply.NotLive; book = book_in old })) live;
  nodes = λ said says. refl;
  entries = λ said says. refl;
  writes = λ row found lies.
      contains_any (lies_at path) (rows_of old.rows) row (found_contains (is_equal_row path (written_tree sum)) (rows_of old.rows) row found)
      (and_from (is_at_path path row) (not row.stands)
      (and_parts (is_at_path path row) (same_tree row.tree (written_tree sum)) (found_passes (is_equal_row path (written_tree sum)) (rows_of old.rows) row found)).0
      (ap not lies));
  takes = refl;
  holds = refl;
  right = written_right bytes sum digest;
}

-- and one by a command that isn't
pub write_refused : {D K : Type 0} (number command : ℕ) (path : List (List ℕ)) (sum : Sum) (old : Parts D K) (context : RequestContext) →
    is_live command (book_in old) ≡ false →
    serve_now number context (asked.Write command path sum) (book_in old) ≡ record { reply = reply.NotLive; book = book_in old }
write_refused number command path sum old context dead =
    ap (λ b. cond {A = Served} b (declare number command path (written_tree sum) (book_in old)) (record { reply = reply.NotLive; book = book_in old })) dead
