-- What is declared at a source is declared elsewhere.
use Rattle.std.proofs.Common.{◌≡◌, ◌+◌, zero, suc, nat_le, nat_lt, ℕ, Bool, true, false, ◌&&◌, cond, List, [], ◌∷◌, count_by, find, length, drop, Option, Some, None, refl, ◌∙◌, sym, ap, ap₂, subst, arith}
use Rattle.std.specs.List.{list_all}
use Rattle.std.specs.Option.{option_and_then, option_map, option_map_or}
use Rattle.std.proofs.lemmas.Bool.{and_from, and_parts, le-leb, leb-true}
use Rattle.mat_path.proofs.JoinLemmas.{joined-tail}
use Rattle.mat_path.specs.Names.{is_name, is_path, is_prefix, is_rel, joined, rest_below}
use Rattle.mat_tree.specs.declared.flat.Flat.{Flat}
use Rattle.mat_tree.specs.Trees.{has_node, is_placed}
use Rattle.mat_model.specs.declared.answers.Limit.{Limit}
use Rattle.mat_model.specs.declared.answers.Limit.TheVariants as limit
use Rattle.mat_model.specs.declared.answers.Reply.TheVariants as reply
use Rattle.mat_model.specs.declared.book.Row.{Row}
use Rattle.mat_model.specs.declared.requests.Asked.{Asked}
use Rattle.mat_model.specs.declared.requests.Asked.TheVariants as asked
use Rattle.mat_model.specs.Declarations.{copy_tree, declare, declare_row, declared_at, is_equal_row, tree_at}
use Rattle.mat_model.specs.Gate.{Served, is_live}
use Rattle.mat_model.specs.History.{Point, nodes_in, nodes_of}
use Rattle.mat_model.specs.Requests.{RequestContext, serve_now}
use Rattle.mat_model.specs.Room.{entries_for, full_served, held_bytes, is_declaration, row_paths, waits_past}
use Rattle.mat_model.specs.Rows.{cover, covers}
use Rattle.mat_model.specs.Tickets.{is_open}
use Rattle.mat_model.specs.WorkState.{copied, copied_from, is_held_way, store, ways_after}
use Rattle.model_laws.proofs.Elements.{found_contains, found_passes}
use Rattle.write_plan.specs.declared.method.Method.{Method}
use Rattle.write_plan.specs.declared.method.Method.TheVariants as method
use Rattle.row_book.specs.declared.stock.Stock.{Stock}
use Rattle.row_book.specs.Stocks.{covers_stock, is_held_origin, row_of, rows_of}
use Rattle.row_book.proofs.FindLemmas.{none_is}
use Rattle.row_book.proofs.RowLemmas.{rows_found}
use Rattle.job_run.specs.Orders.{is_right}
use Rattle.mat_core.specs.Books.{StandFor, book_in, way_in}
use Rattle.mat_core.specs.Copying.{copied_at, copied_in, copy_of, origin_in, with_copy}
use Rattle.mat_core.specs.Declaring.{IsDeclaring, full_nodes}
use Rattle.mat_core.specs.Rooms.{spent_in}
use Rattle.mat_core.specs.Served.{Serves}
use Rattle.mat_core.specs.declared.copying.Copied.{Copied}
use Rattle.mat_core.specs.declared.parts.Parts.{Parts}
use Rattle.mat_core.proofs.DeclareLemmas.{limit_serves}
use Rattle.mat_core.proofs.RightLemmas.{copied_right}
use Rattle.mat_core.proofs.ServeLemmas.{spent_same}

-- the stock that is copied from, and the tree that its row has there
record IsFrom (stocks : List Stock) (source : List (List ℕ)) (copy : Copied) : Type 0 where
  stock : Stock
  found : find (covers_stock source) stocks ≡ Some stock
  has : tree_at source stock.row ≡ Some copy.tree
  way : copy.way ≡ copy_of stock (drop (length stock.row.path) source)

is_from : (stocks : List Stock) (source : List (List ℕ)) (copy : Copied) → copied_in stocks source ≡ Some copy → IsFrom stocks source copy
is_from stocks source copy is = by (find (covers_stock source) stocks) refl is
  where
    in_stock : (stock : Stock) → find (covers_stock source) stocks ≡ Some stock → (o : Option (List Flat)) → tree_at source stock.row ≡ o →
        option_map (with_copy source stock) o ≡ Some copy → IsFrom stocks source copy
    in_stock stock found None has it = absurd cc
    in_stock stock found (Some tree) has it =
        let same : with_copy source stock tree ≡ copy = cc in record {
          stock = stock;
          found = found;
          has = has ∙ ap (λ (c : Copied). Some c.tree) same;
          way = sym (ap (λ (c : Copied). c.way) same);
        }

    by : (o : Option Stock) → find (covers_stock source) stocks ≡ o → option_and_then (copied_at source) o ≡ Some copy → IsFrom stocks source copy
    by None found it = absurd cc
    by (Some stock) found it = in_stock stock found (tree_at source stock.row) refl it

cover_is : (stocks : List Stock) (source : List (List ℕ)) (o : Option Stock) → find (covers_stock source) stocks ≡ o →
    cover (rows_of stocks) source ≡ option_map row_of o
cover_is stocks source o found = sym (rows_found (covers source) stocks) ∙ ap (option_map row_of) found

-- what is declared at the source is the tree that is copied
declared_from : (stocks : List Stock) (source : List (List ℕ)) (copy : Copied) → IsFrom stocks source copy → declared_at (rows_of stocks) source ≡ Some copy.tree
declared_from stocks source copy is = ap (option_and_then (tree_at source)) (cover_is stocks source (Some is.stock) is.found) ∙ is.has

-- and nothing is where nothing is copied
declared_none : (stocks : List Stock) (source : List (List ℕ)) → copied_in stocks source ≡ None → declared_at (rows_of stocks) source ≡ None
declared_none stocks source is = by (find (covers_stock source) stocks) refl is
  where
    in_stock : (stock : Stock) → (o : Option (List Flat)) → tree_at source stock.row ≡ o → option_map (with_copy source stock) o ≡ None →
        tree_at source stock.row ≡ None
    in_stock stock None has it = has
    in_stock stock (Some tree) has it = absurd cc

    by : (o : Option Stock) → find (covers_stock source) stocks ≡ o → option_and_then (copied_at source) o ≡ None → declared_at (rows_of stocks) source ≡ None
    by None found it = ap (option_and_then (tree_at source)) (cover_is stocks source None found)
    by (Some stock) found it = ap (option_and_then (tree_at source)) (cover_is stocks source (Some stock) found) ∙ in_stock stock (tree_at source stock.row) refl it

-- ---- what is served

copy_live : {D K : Type 0} (number command : ℕ) (path source : List (List ℕ)) (old : Parts D K) (context : RequestContext) → is_live command (book_in old) ≡ true →
    serve_now number context (asked.Copy command path source) (book_in old)
    ≡ copy_tree number command path (book_in old) (declared_at (book_in old).rows source)
copy_live number command path source old context live =
    ap (λ b. cond {A = Served} b (copy_tree number command path (book_in old) (declared_at (book_in old).rows source))
    (record { reply = reply.NotLive; book = book_in old })) live

-- a command that isn't live is told so
pub copy_dead : {D K : Type 0} (number command : ℕ) (path source : List (List ℕ)) (old : Parts D K) (context : RequestContext) →
    is_live command (book_in old) ≡ false →
    serve_now number context (asked.Copy command path source) (book_in old) ≡ record { reply = reply.NotLive; book = book_in old }
copy_dead number command path source old context dead =
    ap (λ b. cond {A = Served} b (copy_tree number command path (book_in old) (declared_at (book_in old).rows source))
    (record { reply = reply.NotLive; book = book_in old })) dead

-- a source where nothing is declared that isn't a link
pub copy_none : {D K : Type 0} (number command : ℕ) (path source : List (List ℕ)) (old : Parts D K) (context : RequestContext) →
    is_live command (book_in old) ≡ true → copied_in old.rows source ≡ None →
    serve_now number context (asked.Copy command path source) (book_in old) ≡ record { reply = reply.NoSource; book = book_in old }
copy_none number command path source old context live none =
    copy_live number command path source old context live
    ∙ ap (copy_tree number command path (book_in old)) (declared_none old.rows source none)

copy_some : {D K : Type 0} (number command : ℕ) (path source : List (List ℕ)) (copy : Copied) (fits : Bool) (old : Parts D K) (context : RequestContext) →
    is_live command (book_in old) ≡ true → copied_in old.rows source ≡ Some copy → list_all (is_placed path) copy.tree ≡ fits →
    serve_now number context (asked.Copy command path source) (book_in old)
    ≡ cond fits (declare number command path copy.tree (book_in old)) (record { reply = reply.TooLong; book = book_in old })
copy_some number command path source copy fits old context live some placed =
    copy_live number command path source old context live
    ∙ ap (copy_tree number command path (book_in old)) (declared_from old.rows source copy (is_from old.rows source copy some))
    ∙ ap (λ b. cond {A = Served} b (declare number command path copy.tree (book_in old)) (record { reply = reply.TooLong; book = book_in old })) placed

-- a node of the copy would be at a path that is too long
pub copy_long : {D K : Type 0} (number command : ℕ) (path source : List (List ℕ)) (copy : Copied) (old : Parts D K) (context : RequestContext) →
    is_live command (book_in old) ≡ true → copied_in old.rows source ≡ Some copy → list_all (is_placed path) copy.tree ≡ false →
    serve_now number context (asked.Copy command path source) (book_in old) ≡ record { reply = reply.TooLong; book = book_in old }
copy_long number command path source copy old context live some placed = copy_some number command path source copy false old context live some placed

-- a copy declares the tree, whose bytes come from where the method says
pub copy_declaring : {D K : Type 0} (number command : ℕ) (path source : List (List ℕ)) (copy : Copied) (old : Parts D K) →
    is_live command (book_in old) ≡ true → copied_in old.rows source ≡ Some copy → list_all (is_placed path) copy.tree ≡ true →
    IsDeclaring (asked.Copy command path source) number command path copy.tree copy.way old
copy_declaring number command path source copy old live some placed = record {
  served = λ context. copy_some number command path source copy true old context live some placed;
  nodes = λ said says. ap (λ b. cond b (nodes_in (declared_at (book_in old).rows source)) 0) says ∙ ap nodes_in (declared_from old.rows source copy from);
  entries = λ said says. refl;
  ways = λ work are.
      ap (λ (o : Option Row). option_map_or (copied_from source work.ways) o store) (cover_is old.rows source (Some from.stock) from.found)
      ∙ ap (λ b. copied from.stock.row.path (drop (length from.stock.row.path) source) from.stock.row.stamp b)
      (ap is_held_way (are.stocks from.stock (found_contains (covers_stock source) old.rows from.stock from.found)).way ∙ by from.stock.method)
      ∙ sym (ap way_in from.way);
  keeps = λ row found. refl;
  right = λ work are.
      subst (λ (m : Method). list_all (is_right m) copy.tree ≡ true) (sym from.way)
      (copied_right from.stock (drop (length from.stock.row.path) source) (drop (length from.stock.row.path) source) copy.tree from.has
      (are.stocks from.stock (found_contains (covers_stock source) old.rows from.stock from.found)).right);
}
  where
    from : IsFrom old.rows source copy
    from = is_from old.rows source copy some

    by : (m : Method) → is_held_way (way_in m) ≡ is_held_origin (origin_in m)
    by (method.Write bytes) = refl
    by method.Fetch = refl
    by (method.Copy other rest stamp at) = refl

-- a limit of entries or nodes keeps a request out that declares
pub declaring_full : {D K : Type 0} (number command : ℕ) (path : List (List ℕ)) (tree : List Flat) (way : Method) (request : Asked) (which : Limit) (old : Parts D K) →
    IsDeclaring request number command path tree way old → full_nodes old (length tree) ≡ Some which → Serves number request (reply.Full which) old old
declaring_full number command path tree way request which old is full =
    limit_serves number request which old
    (λ point context stands roomy.
    ap (full_served old.base.limits point request) (is.served context)
    ∙ by point stands (find (is_equal_row path tree) (book_in old).rows))
  where
    kept_out : (point : Point) → StandFor old point → (served : Served) → waits_past served.reply ≡ false → entries_for request served.reply ≡ 1 →
        nodes_of request served.reply (book_in old) ≡ length tree → full_served old.base.limits point request served ≡ Some which
    kept_out point stands served waits entries nodes =
        ap₂ (λ (n m : ℕ). cond (nat_lt old.base.limits.history n) (Some limit.History)
        (cond (is_declaration request && nat_lt old.base.limits.nodes m) (Some limit.Nodes)
        (cond (waits_past served.reply) (Some limit.Waiting) (cond (nat_lt old.base.limits.nodes m) (Some limit.Nodes) behind))))
        (ap₂ (λ (n m : ℕ). n + m) (sym (spent_same old point stands)) entries)
        (ap₂ (λ (n m : ℕ). n + m) (sym stands.nodes) (sym (ap (nodes_of request served.reply) stands.book) ∙ nodes))
        ∙ cases (is_declaration request) (waits_past served.reply) (nat_lt old.base.limits.history (spent_in old + 1))
        (nat_lt old.base.limits.nodes (old.nodes + length tree)) waits full
      where
        behind : Option Limit
        behind = cond (nat_lt old.base.limits.rows (row_paths served.book point.kept)) (Some limit.Rows)
            (cond (nat_lt old.base.limits.held (held_bytes (ways_after request served.reply point.book.rows point.work.ways) served.book.rows)) (Some limit.Held)
            (cond (nat_lt old.base.limits.asked (count_by is_open served.book.tickets)) (Some limit.Asked)
            (cond (nat_lt old.base.limits.holds (length served.book.holds)) (Some limit.Holds) None)))

        cases : (d w a b : Bool) → w ≡ false → cond a (Some limit.History) (cond b (Some limit.Nodes) None) ≡ Some which →
            cond a (Some limit.History) (cond (d && b) (Some limit.Nodes) (cond w (Some limit.Waiting) (cond b (Some limit.Nodes) behind))) ≡ Some which
        cases d w true b off it = it
        cases true w false true off it = it
        cases false false false true off it = it
        cases false true false true off it = absurd cc
        cases d w false false off it = absurd cc

    by : (point : Point) → StandFor old point → (o : Option Row) →
        full_served old.base.limits point request (declare_row number command path tree (book_in old) o) ≡ Some which
    by point stands (Some row) = kept_out point stands (declare_row number command path tree (book_in old) (Some row)) refl (is.entries (reply.Kept row.stamp) refl) (is.nodes (reply.Kept row.stamp) refl)
    by point stands None = kept_out point stands (declare_row number command path tree (book_in old) None) refl (is.entries (reply.Declared number) refl) (is.nodes (reply.Declared number) refl)

-- ---- rels

rel_tail : (name : List ℕ) (names : List (List ℕ)) → is_rel (name ∷ names) ≡ true → is_rel names ≡ true
rel_tail name names is =
    let both = and_parts (nat_le (length (name ∷ names)) 64 && nat_le (length (joined (name ∷ names))) 1024) (list_all is_name (name ∷ names)) is in
    let sizes = and_parts (nat_le (length (name ∷ names)) 64) (nat_le (length (joined (name ∷ names))) 1024) both.0 in
    let few = leb-true (length (name ∷ names)) 64 sizes.0 in
    let short = leb-true (length (joined (name ∷ names))) 1024 sizes.1 in
    let tail = joined-tail name names in
    and_from (nat_le (length names) 64 && nat_le (length (joined names)) 1024) (list_all is_name names)
    (and_from (nat_le (length names) 64) (nat_le (length (joined names)) 1024) (le-leb (length names) 64 (omega (arith, few)))
    (le-leb (length (joined names)) 1024 (omega (arith, short, tail))))
    (and_parts (is_name name) (list_all is_name names) both.1).1

rel_left : (n : ℕ) (names : List (List ℕ)) → is_rel names ≡ true → is_rel (drop n names) ≡ true
rel_left zero names is = is
rel_left (suc n) [] is = is
rel_left (suc n) (name ∷ names) is = rel_left n names (rel_tail name names is)

-- what is below a prefix of a path is a rel
pub rest_is_rel : (n : ℕ) (path : List (List ℕ)) → is_path path ≡ true → is_rel (drop n path) ≡ true
rest_is_rel n path is = rel_left n path (and_parts (nat_le 1 (length path)) (is_rel path) is).1

-- what is found below a prefix of a path is what is left of the path behind it
pub below_is : (front path rest : List (List ℕ)) → Some rest ≡ rest_below front path → rest ≡ drop (length front) path
below_is front path rest below = by (is_prefix front path) below
  where
    by : (b : Bool) → Some rest ≡ cond b (Some (drop (length front) path)) None → rest ≡ drop (length front) path
    by true it = cc
    by false it = absurd cc

-- and something is found there
pub below_some : (front path : List (List ℕ)) → is_prefix front path ≡ true → None ≡ rest_below front path → ⊥
below_some front path is none = absurd (none_is (drop (length front) path) (sym (none ∙ ap (λ b. cond b (Some (drop (length front) path)) None) is)))

-- a stock that covers a source lies above it
pub found_above : (stocks : List Stock) (source : List (List ℕ)) (stock : Stock) → Some stock ≡ find (covers_stock source) stocks →
    is_prefix stock.row.path source ≡ true
found_above stocks source stock found =
    (and_parts (is_prefix stock.row.path source) (has_node stock.row.tree (drop (length stock.row.path) source))
    (found_passes (covers_stock source) stocks stock (sym found))).0
