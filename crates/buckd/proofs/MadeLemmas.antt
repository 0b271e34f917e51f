-- A make leaves a daemon where the definitions say, and sound: the disk holds the row's tree if it stands, and no ticket was
-- answered by an entry to come.
use Rattle.mat_path.proofs.SameNames.{same_names-eq}
use Rattle.std.proofs.Common.{◌≡◌, ℕ, ◌+◌, Bool, true, false, List, [], ◌∷◌, ◌++◌, length, ◌<◌, ◌==◌, ◌&&◌, ◌||◌, Option, Some, None, cond, refl, sym, ap, ap₂, subst, ◌∙◌, map, find, arith}
use Rattle.std.specs.List.{list_all, list_any}
use Rattle.std.specs.Option.{option_map_or}
use Rattle.std.proofs.lemmas.Bool.{and_parts, both_ways, eqb-true}
use Rattle.std.proofs.lemmas.List.{length_push}
use Rattle.mat_path.specs.Names.{is_prefix}
use Rattle.mat_tree.specs.declared.flat.Flat.{Flat}
use Rattle.mat_tree.specs.Parts.{HasTree, below}
use Rattle.mat_tree.specs.Trees.{has_node}
use Rattle.mat_model.specs.declared.answers.Answer.{Answer}
use Rattle.mat_model.specs.declared.answers.Answer.TheVariants as answer
use Rattle.mat_model.specs.declared.answers.Recorded.TheVariants as recorded
use Rattle.mat_model.specs.declared.answers.Reply.{Reply}
use Rattle.mat_model.specs.declared.answers.Reply.TheVariants as reply
use Rattle.mat_model.specs.declared.book.Book.{Book}
use Rattle.mat_model.specs.declared.book.Row.{Row}
use Rattle.mat_model.specs.declared.book.Ticket.{Ticket}
use Rattle.mat_model.specs.declared.entries.Entry.{Entry}
use Rattle.mat_model.specs.declared.entries.Event.TheVariants as event
use Rattle.mat_model.specs.declared.entries.Outcome.{Outcome}
use Rattle.mat_model.specs.declared.entries.Outcome.TheVariants as outcome
use Rattle.mat_model.specs.declared.entries.Task.TheVariants as task
use Rattle.mat_model.specs.Gate.{Served}
use Rattle.mat_model.specs.OnDisk.{AreOnDisk}
use Rattle.mat_model.specs.Rows.{covers, is_at_path, standing_row}
use Rattle.mat_model.specs.Tickets.{answered_by, answered_by_any, is_open, with_answer}
use Rattle.mat_model.specs.Work.{end_make, finish, is_declared, make_ended}
use Rattle.model_laws.proofs.Apart.{apart-map}
use Rattle.model_laws.proofs.Changes.{standing-path, standing-stamp, standing-tree}
use Rattle.model_laws.proofs.Elements.{found_passes}
use Rattle.fetch_port.specs.Fetches.{Blobs}
use Rattle.fetch_port.specs.declared.mem_store.MemStore.{MemStore}
use Rattle.fetch_port.specs.Memory.{blobs_of}
use Rattle.region_port.specs.declared.mem_disk.MemDisk.{MemDisk}
use Rattle.region_port.specs.Disks.{disk_content, disk_rough}
use Rattle.write_plan.specs.declared.act.Act.{Act}
use Rattle.buckd.specs.declared.daemon.Daemon.{Daemon}
use Rattle.buckd.specs.Daemon.{book_of, point_of, scene_of, Makes, Serves}
use Rattle.buckd.specs.MakeAnswers.{answer_of, tickets_answered}
use Rattle.buckd.specs.Making.{Nodes, acts_done, asks_after, left_by, make_acts, no_nodes, outcome_of, shown_by, with_nodes}
use Rattle.buckd.specs.Run.{Point, Scene, acts_of, declared_tree, entry_at, is_held, made, tree_of_row, worked}
use Rattle.buckd.specs.Shows.{IsCovered}
use Rattle.buckd.specs.Sound.{AreSupplied, AreSynced, is_answered_before, kept_by, IsKept, IsKeptWith, IsPast, IsReady, KeepsBook, KeepsDisk, KeepsRows}
use Rattle.buckd.proofs.Past.{past-answered, past-more}
use Rattle.buckd.proofs.Kept.{kept-with}
use Rattle.buckd.proofs.Left.{left_none}
use Rattle.buckd.proofs.Standing.{covered-at, covered-map, held-at, synced-at}
use Rattle.buckd.proofs.Stepping.{begun, worked-is, worked_so}
use Rattle.buckd.proofs.Supplied.{held-more, supplied-map, supplied_found}

-- ---- the end of a make

-- a ticket's answer where one row alone is meant
answered_one : (row : Row) (number : ℕ) (given : Answer) (ticket : Ticket) → answered_by_any (row ∷ []) number given ticket ≡ answered_by row number given ticket
answered_one row number given ticket =
    elim (is_open ticket) as
    (λ o. cond (o && list_any (covers ticket.asked) (row ∷ [])) (with_answer number given ticket) ticket
    ≡ cond (o && covers ticket.asked row) (with_answer number given ticket) ticket) [
      | true ↦ elim (covers ticket.asked row) as
          (λ c. cond (c || false) (with_answer number given ticket) ticket ≡ cond c (with_answer number given ticket) ticket) [ true ↦ refl | false ↦ refl ]
      | false ↦ refl
    ]

answered_all : (row : Row) (number : ℕ) (given : Answer) (tickets : List Ticket) →
    map (answered_by_any (row ∷ []) number given) tickets ≡ map (answered_by row number given) tickets
answered_all row number given [] = refl
answered_all row number given (ticket ∷ tickets) =
    ap₂ (λ (t : Ticket) (ts : List Ticket). t ∷ ts) (answered_one row number given ticket) (answered_all row number given tickets)

-- the rows after the end of a make
abbrev pub rows_ended : List (List ℕ) → Outcome → List Row → List Row
rows_ended path outcome.Made rows = map (standing_row path) rows
rows_ended path outcome.Wiped rows = rows
rows_ended path (outcome.Missing digest) rows = rows
rows_ended path (outcome.Corrupt wanted found) rows = rows
rows_ended path (outcome.Fault note) rows = rows
rows_ended path outcome.NoMemory rows = rows

-- a book with other rows and tickets
abbrev pub with_rows : List Row → List Ticket → Book → Book
with_rows rows tickets book = record book { rows = rows; tickets = tickets }

-- what the end of a make does to the book
pub ended-book : (number : ℕ) (path : List (List ℕ)) (row : Row) (ends : Outcome) (book : Book) →
    make_ended number path row ends book
    ≡ with_rows (rows_ended path ends book.rows) (tickets_answered row number book.tickets (answer_of row ends)) book
ended-book number path row outcome.Made book = refl
ended-book number path row outcome.Wiped book = refl
ended-book number path row (outcome.Missing digest) book =
    ap (λ (ts : List Ticket). with_rows book.rows ts book) (answered_all row number (answer.Missing digest) book.tickets)
ended-book number path row (outcome.Corrupt wanted found) book =
    ap (λ (ts : List Ticket). with_rows book.rows ts book) (answered_all row number (answer.Corrupt wanted found) book.tickets)
ended-book number path row (outcome.Fault note) book =
    ap (λ (ts : List Ticket). with_rows book.rows ts book) (answered_all row number (answer.Fault note) book.tickets)
ended-book number path row outcome.NoMemory book =
    ap (λ (ts : List Ticket). with_rows book.rows ts book) (answered_all row number answer.NoMemory book.tickets)

-- how the end of a make of the row at a path is served by a daemon
abbrev pub made_end : Daemon → List (List ℕ) → ℕ → Outcome → Served
made_end d path stamp ends = end_make (length d.history.items) path ends recorded.Nothing (book_of d) (find (is_declared path stamp) d.rows.items)

-- what it does to the rows and the tickets, where the row is there
pub ended-parts : (d2 d3 : Daemon) (path : List (List ℕ)) (stamp : ℕ) (ends : Outcome) (given : Reply) (row : Row) →
    find (is_declared path stamp) d2.rows.items ≡ Some row → Serves (made_end d2 path stamp ends) d2 d3 given →
    book_of d3 ≡ with_rows (rows_ended path ends d2.rows.items) (tickets_answered row (length d2.history.items) d2.tickets.items (answer_of row ends)) (book_of d2)
ended-parts d2 d3 path stamp ends given row found served =
    served.book
    ∙ ap (λ (o : Option Row). (end_make (length d2.history.items) path ends recorded.Nothing (book_of d2) o).book) found
    ∙ ended-book (length d2.history.items) path row ends (book_of d2)

-- the book stays where all but the devices stays
pub book-kept : (d1 d2 : Daemon) → KeepsBook d1 d2 → book_of d2 ≡ book_of d1
book-kept d1 d2 keeps = rw (keeps.state, keeps.live, keeps.rows, keeps.holds, keeps.tickets)

-- once a make began and its end was served and entered, the run is where the definitions say
pub made-point : (d0 d2 d3 : Daemon) (path : List (List ℕ)) (stamp : ℕ) (ends : Outcome) (given : Reply) (last : List Entry) →
    d2.history.items ≡ begun d0.history.items (task.Make path stamp) → book_of d2 ≡ book_of d0 →
    Serves (made_end d2 path stamp ends) d2 d3 given →
    last ≡ d3.history.items ++ entry_at (length d3.history.items) (event.Done (length d0.history.items) ends) given ∷ [] →
    (let p : Point = record { book = book_of d3; history = last } in p ≡ worked (task.Make path stamp) ends (point_of d0))
made-point d0 d2 d3 path stamp ends given last begins same served end =
    let begun_is : d3.history.items ≡ begun d0.history.items (task.Make path stamp) = served.history ∙ begins in
    let count : length (begun d0.history.items (task.Make path stamp)) ≡ length d0.history.items + 1 =
    length_push d0.history.items (entry_at (length d0.history.items) (event.Begin (task.Make path stamp)) reply.Started) in
    let number : length d2.history.items ≡ length d0.history.items + 1 = ap (λ (l : List Entry). length l) begins ∙ count in
    let done : made_end d2 path stamp ends
    ≡ finish (length d0.history.items + 1) (task.Make path stamp) ends recorded.Nothing (book_of d0) =
    ap₂ (λ (n : ℕ) (b : Book). finish n (task.Make path stamp) ends recorded.Nothing b) number same in
    let entered : last ≡ begun d0.history.items (task.Make path stamp)
    ++ entry_at (length (begun d0.history.items (task.Make path stamp))) (event.Done (length d0.history.items) ends)
    (made_end d2 path stamp ends).reply ∷ [] =
    end ∙ ap₂ (λ (l : List Entry) (r : Reply). l ++ entry_at (length l) (event.Done (length d0.history.items) ends) r ∷ [])
    begun_is served.reply in
    let placed : last ≡ begun d0.history.items (task.Make path stamp)
    ++ entry_at (length d0.history.items + 1) (event.Done (length d0.history.items) ends) (made_end d2 path stamp ends).reply ∷ [] =
    entered ∙ ap (λ (n : ℕ). begun d0.history.items (task.Make path stamp)
    ++ entry_at n (event.Done (length d0.history.items) ends) (made_end d2 path stamp ends).reply ∷ []) count in
    ap₂ (λ (b : Book) (l : List Entry). let p : Point = record { book = b; history = l } in p) served.book placed
    ∙ ap (λ (s : Served). worked_so d0.history.items (task.Make path stamp) ends (length d0.history.items) (length d0.history.items + 1) s) done
    ∙ sym (worked-is (task.Make path stamp) ends (point_of d0) refl)

-- ---- the row that a make is for

-- a row that is found under a stamp has it
stamp_of : (path : List (List ℕ)) (stamp : ℕ) (rows : List Row) (row : Row) → find (is_declared path stamp) rows ≡ Some row → row.stamp ≡ stamp
stamp_of path stamp rows row found =
    eqb-true row.stamp stamp
    (and_parts (is_at_path path row) (row.stamp == stamp) (found_passes (is_declared path stamp) rows row found)).1

-- the acts of a make stay where an entry was added
pub acts-begun : (d0 d1 : Daemon) (path : List (List ℕ)) (stamp : ℕ) (entry : Entry) (row : Row) → IsKept d0 →
    find (is_declared path stamp) d0.rows.items ≡ Some row → d1.rows ≡ d0.rows → d1.history.items ≡ d0.history.items ++ entry ∷ [] →
    acts_of (task.Make path stamp) (point_of d1) ≡ acts_of (task.Make path stamp) (point_of d0)
acts-begun d0 d1 path stamp entry row kept found rows history =
    let within = (supplied_found d0.history.items (kept_by d0) (is_declared path stamp) d0.rows.items row kept.supplied found).entered in
    let held : is_held d1.history.items stamp ≡ is_held d0.history.items stamp =
    ap (λ (h : List Entry). is_held h stamp) history
    ∙ held-more d0.history.items entry stamp (subst (λ (n : ℕ). n < length d0.history.items) (stamp_of path stamp d0.rows.items row found) within) in
    ap₂ (λ (b : Bool) (rs : List Row). make_acts b (declared_tree path stamp rs)) held (ap (λ rs. rs.items) rows)

-- a make's scene, where its part was made and its end was served and entered
pub made-scene : (d0 d1 d2 d3 d4 : Daemon) (path : List (List ℕ)) (stamp : ℕ) (ends : Outcome) →
    acts_of (task.Make path stamp) (point_of d1) ≡ acts_of (task.Make path stamp) (point_of d0) →
    d1.store ≡ d0.store → d1.disk ≡ d0.disk →
    Makes path (acts_of (task.Make path stamp) (point_of d1)) (declared_tree path stamp d1.rows.items) d1 d2 ends →
    blobs_of d2.store ≡ blobs_of d1.store → d3.store ≡ d2.store → d3.disk ≡ d2.disk → d4.store ≡ d3.store → d4.disk ≡ d3.disk →
    point_of d4 ≡ worked (task.Make path stamp) ends (point_of d0) → scene_of d4 ≡ made (task.Make path stamp) (scene_of d0)
made-scene d0 d1 d2 d3 d4 path stamp ends acts store disk makes blobs store3 disk3 store4 disk4 point =
    let wanted : List Act = acts_of (task.Make path stamp) (point_of d0) in
    let ended : ends ≡ outcome_of (blobs_of d0.store) wanted =
    makes.ends ∙ ap₂ (λ (bs : Blobs) (al : List Act). outcome_of bs al) (ap blobs_of store) acts in
    let asks : d4.store.asks ≡ asks_after (blobs_of d0.store) wanted d0.store.asks =
    ap (λ (s : MemStore). s.asks) (store4 ∙ store3) ∙ makes.asks
    ∙ ap₂ (λ (s : MemStore) (al : List Act). asks_after (blobs_of s) al s.asks) store acts in
    let shown : shown_by (disk_content d4.disk)
    ≡ with_nodes path (left_by (acts_done (blobs_of d0.store) wanted) no_nodes) (shown_by (disk_content d0.disk)) =
    ap (λ (k : MemDisk). shown_by (disk_content k)) (disk4 ∙ disk3) ∙ makes.shown
    ∙ ap₂ (λ (al : List Act) (k : MemDisk). with_nodes path (left_by (acts_done (blobs_of d1.store) al) no_nodes) (shown_by (disk_content k))) acts disk
    ∙ ap (λ (s : MemStore). with_nodes path (left_by (acts_done (blobs_of s) wanted) no_nodes) (shown_by (disk_content d0.disk))) store in
    ap₂ (λ (p : Point) (bs : Blobs). let s : Scene = record {
      point = p;
      blobs = bs;
      asks = d4.store.asks;
      disk = shown_by (disk_content d4.disk);
    } in s)
    (point ∙ ap (λ (o : Outcome). worked (task.Make path stamp) o (point_of d0)) ended)
    (ap blobs_of (store4 ∙ store3) ∙ blobs ∙ ap blobs_of store)
    ∙ ap₂ (λ (n : ℕ) (nodes : Nodes). let s : Scene = record {
      point = worked (task.Make path stamp) (outcome_of (blobs_of d0.store) wanted) (point_of d0);
      blobs = blobs_of d0.store;
      asks = n;
      disk = nodes;
    } in s) asks shown

-- ---- what the disk has after a make

-- the change of the rows at the end of a make
abbrev change_of : List (List ℕ) → Outcome → Row → Row
change_of path outcome.Made row = standing_row path row
change_of path outcome.Wiped row = row
change_of path (outcome.Missing digest) row = row
change_of path (outcome.Corrupt wanted found) row = row
change_of path (outcome.Fault note) row = row
change_of path outcome.NoMemory row = row

map_same : (rows : List Row) → map (λ (row : Row). row) rows ≡ rows
map_same [] = refl
map_same (row ∷ rows) = ap (λ (rs : List Row). row ∷ rs) (map_same rows)

-- what is known of that change: it keeps the paths, the trees and the stamps, it leaves rows elsewhere, and lets the row at
-- the path stand only where it was made
record IsEnd (path : List (List ℕ)) (ends : Outcome) (change : Row → Row) : Type 0 where
  rows : (rows : List Row) → rows_ended path ends rows ≡ map change rows
  paths : (row : Row) → (change row).path ≡ row.path
  trees : (row : Row) → (change row).tree ≡ row.tree
  stamps : (row : Row) → (change row).stamp ≡ row.stamp
  others : (row : Row) → is_at_path path row ≡ false → change row ≡ row
  stands : (row : Row) → row.stands ≡ false → (change row).stands ≡ true → ends ≡ outcome.Made

-- rows that all stay
same_end : (path : List (List ℕ)) (ends : Outcome) → ((rows : List Row) → rows_ended path ends rows ≡ map (λ (row : Row). row) rows) →
    IsEnd path ends (λ (row : Row). row)
same_end path ends rows = record {
  rows = rows;
  paths = λ row. refl;
  trees = λ row. refl;
  stamps = λ row. refl;
  others = λ row off. refl;
  stands = λ row lies stood. absurd (both_ways row.stands lies stood);
}

change_is : (path : List (List ℕ)) (ends : Outcome) → IsEnd path ends (change_of path ends)
change_is path outcome.Made = record {
  rows = λ rows. refl;
  paths = standing-path path;
  trees = standing-tree path;
  stamps = standing-stamp path;
  others = λ row off. ap (λ (b : Bool). cond b (record row { stands = true }) row) off;
  stands = λ row lies stood. refl;
}
change_is path outcome.Wiped = same_end path outcome.Wiped (λ rows. sym (map_same rows))
change_is path (outcome.Missing digest) = same_end path (outcome.Missing digest) (λ rows. sym (map_same rows))
change_is path (outcome.Corrupt wanted found) = same_end path (outcome.Corrupt wanted found) (λ rows. sym (map_same rows))
change_is path (outcome.Fault note) = same_end path (outcome.Fault note) (λ rows. sym (map_same rows))
change_is path outcome.NoMemory = same_end path outcome.NoMemory (λ rows. sym (map_same rows))

-- the tree of the row that a make is for
tree_found : (path : List (List ℕ)) (stamp : ℕ) (rows : List Row) (row : Row) → find (is_declared path stamp) rows ≡ Some row →
    declared_tree path stamp rows ≡ row.tree
tree_found path stamp rows row found = ap (λ (o : Option Row). option_map_or tree_of_row o []) found

-- a make of the row that comes first leaves the disk as the rows are then
pub made-kept : (d1 d2 d3 : Daemon) (path : List (List ℕ)) (stamp : ℕ) (ends : Outcome) (given : Reply) (row : Row) → IsKept d1 →
    find (is_at_path path) d1.rows.items ≡ Some row → find (is_declared path stamp) d1.rows.items ≡ Some row → row.stands ≡ false →
    KeepsBook d1 d2 → d2.disk.loans.items ≡ [] →
    Makes path (acts_of (task.Make path stamp) (point_of d1)) (declared_tree path stamp d1.rows.items) d1 d2 ends →
    Serves (made_end d2 path stamp ends) d2 d3 given → KeepsDisk d2 d3 → IsKeptWith d1.history.items d3
made-kept d1 d2 d3 path stamp ends given row kept at found lies keeps free makes served same =
    let change : Row → Row = change_of path ends in
    let is : IsEnd path ends change = change_is path ends in
    let declared : find (is_declared path stamp) d2.rows.items ≡ Some row = rw keeps.rows found in
    let rows : d3.rows.items ≡ map change d1.rows.items =
    ap (λ (b : Book). b.rows) (ended-parts d2 d3 path stamp ends given row declared served)
    ∙ ap (λ rs. rows_ended path ends rs.items) keeps.rows ∙ is.rows d1.rows.items in
    let methods : d3.methods ≡ d1.methods = same.methods ∙ keeps.methods in
    let live : d3.live ≡ d1.live = same.live ∙ keeps.live in
    let tree : declared_tree path stamp d1.rows.items ≡ row.tree = tree_found path stamp d1.rows.items row found in
    let inner : Nodes = left_by (acts_done (blobs_of d1.store) (acts_of (task.Make path stamp) (point_of d1))) no_nodes in
    let place : row.path ≡ path = same_names-eq row.path path (found_passes (is_at_path path) d1.rows.items row at) in
    let held : AreOnDisk (disk_content d2.disk) (map change d1.rows.items) =
    held-at (disk_content d1.disk) (disk_content d2.disk) path inner change d1.rows.items row is.others kept.apart at makes.shown kept.held
    (λ stands. subst (λ (p : List (List ℕ)). HasTree (below p (disk_content d2.disk)) (change row).tree) (sym (is.paths row ∙ place))
    (subst (λ (t : List Flat). HasTree (below path (disk_content d2.disk)) t) (tree ∙ sym (is.trees row)) (makes.holds (is.stands row lies stands)))) in
    let synced : AreSynced (disk_rough d2.disk) (map change d1.rows.items) =
    synced-at (disk_rough d1.disk) (disk_rough d2.disk) path change d1.rows.items row is.others kept.apart at makes.elsewhere kept.synced
    (λ stands there under. makes.synced (is.stands row lies stands) there
    (ap (λ (p : List (List ℕ)). is_prefix p there) (sym (is.paths row ∙ place)) ∙ under)) in
    let covered : IsCovered (disk_content d2.disk) (map change d1.rows.items) =
    covered-map (disk_content d2.disk) change is.paths is.trees d1.rows.items
    (covered-at (disk_content d1.disk) (disk_content d2.disk) path inner d1.rows.items row at makes.shown kept.covered
    (λ rel off. left_none (blobs_of d1.store) (is_held d1.history.items stamp) (declared_tree path stamp d1.rows.items) rel
    (ap (λ (t : List Flat). has_node t rel) tree ∙ off))) in
    record {
      apart = rw rows (apart-map change is.paths d1.rows.items ∙ kept.apart);
      idle = λ none. same.state ∙ keeps.state ∙ kept.idle (rw (← live) none);
      supplied = subst (λ (rs : List Row). AreSupplied d1.history.items (kept_by d3) rs) (sym rows)
          (rw methods (supplied-map d1.history.items (kept_by d1) change is.paths is.trees is.stamps d1.rows.items kept.supplied));
      held = subst (λ (rs : List Row). AreOnDisk (disk_content d3.disk) rs) (sym rows) (rw same.disk held);
      synced = subst (λ (rs : List Row). AreSynced (disk_rough d3.disk) rs) (sym rows) (rw same.disk synced);
      covered = subst (λ (rs : List Row). IsCovered (disk_content d3.disk) rs) (sym rows) (rw same.disk covered);
      free = rw same.disk free;
    }

-- ---- the tickets after a make

-- tickets of which some are answered at a number were answered before the next
past-ends : (number : ℕ) (tickets : List Ticket) (row : Row) (o : Option Answer) → list_all (is_answered_before number) tickets ≡ true →
    list_all (is_answered_before (number + 1)) (tickets_answered row number tickets o) ≡ true
past-ends number tickets row None past = past-more number tickets past
past-ends number tickets row (Some given) past = past-answered number tickets row given past

-- a make answers no ticket later than by its end
pub made-past : (d0 d2 d3 : Daemon) (path : List (List ℕ)) (stamp : ℕ) (ends : Outcome) (given : Reply) (row : Row) →
    find (is_declared path stamp) d0.rows.items ≡ Some row → d2.rows ≡ d0.rows → d2.tickets ≡ d0.tickets → IsPast (length d0.history.items) d0 →
    length d2.history.items ≡ length d0.history.items + 1 → Serves (made_end d2 path stamp ends) d2 d3 given →
    IsPast (length d0.history.items + 2) d3
made-past d0 d2 d3 path stamp ends given row found same_rows same_tickets past count served =
    let declared : find (is_declared path stamp) d2.rows.items ≡ Some row = rw same_rows found in
    let tickets : d3.tickets.items ≡ tickets_answered row (length d0.history.items + 1) d0.tickets.items (answer_of row ends) =
    ap (λ (b : Book). b.tickets) (ended-parts d2 d3 path stamp ends given row declared served) ∙ rw (count, same_tickets) in
    let answered : list_all (is_answered_before (length d0.history.items + 1 + 1))
    (tickets_answered row (length d0.history.items + 1) d0.tickets.items (answer_of row ends)) ≡ true =
    past-ends (length d0.history.items + 1) d0.tickets.items row (answer_of row ends) (past-more (length d0.history.items) d0.tickets.items past) in
    let two : length d0.history.items + 2 ≡ length d0.history.items + 1 + 1 = omega arith in
    ap₂ (λ (n : ℕ) (l : List Ticket). list_all (is_answered_before n) l) two tickets ∙ answered

-- a daemon is sound once it made the row that comes first, and entered that
pub made-ready : (d0 d1 d2 d3 d4 : Daemon) (path : List (List ℕ)) (stamp : ℕ) (ends : Outcome) (given : Reply) (row : Row) → IsReady d0 →
    find (is_at_path path) d0.rows.items ≡ Some row → find (is_declared path stamp) d0.rows.items ≡ Some row → row.stands ≡ false →
    KeepsRows d0 d1 → d1.tickets ≡ d0.tickets → d1.history.items ≡ begun d0.history.items (task.Make path stamp) →
    KeepsBook d1 d2 → d2.disk.loans.items ≡ [] →
    Makes path (acts_of (task.Make path stamp) (point_of d1)) (declared_tree path stamp d1.rows.items) d1 d2 ends →
    Serves (made_end d2 path stamp ends) d2 d3 given → KeepsDisk d2 d3 → KeepsRows d3 d4 → d4.tickets ≡ d3.tickets →
    d4.history.items ≡ d3.history.items ++ entry_at (length d3.history.items) (event.Done (length d0.history.items) ends) given ∷ [] →
    IsReady d4
made-ready d0 d1 d2 d3 d4 path stamp ends given row ready at found lies rows1 tickets1 begins keeps free makes served same rows4 tickets4 end =
    let begin_entry : Entry = entry_at (length d0.history.items) (event.Begin (task.Make path stamp)) reply.Started in
    let kept1 : IsKept d1 = kept-with d0 d1 begin_entry rows1 begins ready.kept in
    let at1 : find (is_at_path path) d1.rows.items ≡ Some row = rw rows1.rows at in
    let found1 : find (is_declared path stamp) d1.rows.items ≡ Some row = rw rows1.rows found in
    let still : d3.history.items ≡ d1.history.items = ap (λ es. es.items) (same.history ∙ keeps.history) in
    let kept3 : IsKept d3 =
    subst (λ (h : List Entry). IsKeptWith h d3) (sym still)
    (made-kept d1 d2 d3 path stamp ends given row kept1 at1 found1 lies keeps free makes served same) in
    let count1 : length d1.history.items ≡ length d0.history.items + 1 =
    ap (λ (l : List Entry). length l) begins ∙ length_push d0.history.items begin_entry in
    let count2 : length d2.history.items ≡ length d0.history.items + 1 = ap (λ es. length es.items) keeps.history ∙ count1 in
    let past : IsPast (length d0.history.items + 2) d3 =
    made-past d0 d2 d3 path stamp ends given row found (keeps.rows ∙ rows1.rows) (keeps.tickets ∙ tickets1) ready.past count2 served in
    let last : length d4.history.items ≡ length d3.history.items + 1 =
    ap (λ (l : List Entry). length l) end
    ∙ length_push d3.history.items (entry_at (length d3.history.items) (event.Done (length d0.history.items) ends) given) in
    let third : length d3.history.items ≡ length d1.history.items = ap (λ (l : List Entry). length l) still in
    let all : length d4.history.items ≡ length d0.history.items + 2 = omega (arith, last, third, count1) in
    record {
      kept = kept-with d3 d4 (entry_at (length d3.history.items) (event.Done (length d0.history.items) ends) given) rows4 end kept3;
      past = rw (all, tickets4) past;
    }
