-- What keeps a daemon as it is between two lines, and what makes a line's answer the one of the definitions.
use Rattle.model_laws.specs.Laws.{declared_alone}
use Rattle.std.proofs.Common.{◌≡◌, ℕ, ◌+◌, ◌-◌, codes, Bool, true, false, List, [], ◌∷◌, ◌++◌, length, Some, None, cond, Result, Ok, Err, IfOk, OnOk, refl, sym, ap, ap₂, subst, ◌∙◌, append_assoc, append-nil, arith}
use Rattle.std.specs.List.{list_any, list_all}
use Rattle.std.specs.Ordering.{is_eq}
use Rattle.std.proofs.lemmas.List.{length_push}
use Rattle.mat_path.specs.Names.{path_cmp}
use Rattle.mat_path.specs.declared.memory.Memory.{Memory}
use Rattle.mat_tree.specs.declared.flat.Flat.{Flat}
use Rattle.mat_tree.specs.Trees.{IsTree, ascends, is_placed}
use Rattle.mat_tree.specs.Parts.{HasTree, below}
use Rattle.mat_model.specs.declared.answers.Reply.{Reply}
use Rattle.mat_model.specs.declared.book.Book.{Book}
use Rattle.mat_model.specs.declared.book.Row.{Row}
use Rattle.mat_model.specs.declared.book.Ticket.{Ticket}
use Rattle.mat_model.specs.declared.entries.Entry.{Entry}
use Rattle.mat_model.specs.declared.entries.Event.TheVariants as event
use Rattle.mat_model.specs.declared.requests.Asked.{Asked}
use Rattle.mat_model.specs.declared.requests.Request.{Request}
use Rattle.mat_model.specs.Declarations.{declare_tree}
use Rattle.mat_model.specs.OnDisk.{AreOnDisk}
use Rattle.mat_model.specs.Rows.{overlaps_row, put_row, used, used_row}
use Rattle.mat_model.specs.Gate.{Served, is_live}
use Rattle.mat_model.specs.Requests.{serve}
use Rattle.mat_model.specs.WorkState.{first_task}
use Rattle.model_laws.proofs.Apart.{put_row-apart, apart-map}
use Rattle.model_laws.proofs.Clear.{declare_clear}
use Rattle.model_laws.proofs.Changes.{used-path, used-stands, used-tree}
use Rattle.fetch_port.specs.declared.mem_store.MemStore.{MemStore}
use Rattle.fetch_port.specs.Memory.{blobs_of}
use Rattle.region_port.specs.declared.mem_disk.MemDisk.{MemDisk}
use Rattle.region_port.specs.Disks.{disk_content, disk_rough}
use Rattle.script_lang.specs.declared.items.Item.TheVariants as item
use Rattle.script_lang.specs.declared.items.Line.{Line}
use Rattle.script_lang.specs.declared.told.Said.TheVariants as said
use Rattle.script_lang.specs.Texts.{not_yet_text, reply_text}
use Rattle.write_plan.specs.declared.method.Method.{Method}
use Rattle.buckd.specs.declared.daemon.Daemon.{Daemon}
use Rattle.buckd.specs.Daemon.{book_of, point_of, scene_of, Serves, Steps, Tells}
use Rattle.buckd.specs.Making.{IsAtHand, is_write, shown_by}
use Rattle.buckd.specs.Run.{Point, Scene, ask, asked_of, asked_scene, drain, entry_at, idle, is_held, is_not_yet, is_write_asked, is_write_entry, make_first, makes, next, empty_context, tell, tell_asked, tell_item, told_not_yet, told_since}
use Rattle.buckd.specs.Shows.{IsCovered}
use Rattle.buckd.specs.Sound.{AreSupplied, AreSynced, kept_by, is_answered_before, IsKept, IsKeptWith, IsPast, IsReady, IsSound, IsSupplied, KeepsRows}
use Rattle.buckd.specs.Following.{IsFollowingAt}
use Rattle.buckd.specs.Texts.{answer_lines, said_line}
use Rattle.buckd.proofs.Past.{past-answer_lines, past-more}
use Rattle.buckd.proofs.FollowingRuns.{tell-at}
use Rattle.buckd.proofs.Seen.{listed-there}
use Rattle.buckd.proofs.Standing.{covered-map, covered-put_row, held-map, held-put_row, synced-map, synced-put_row}
use Rattle.buckd.proofs.Stepping.{make_first-none, makes-none, makes-suc}
use Rattle.buckd.proofs.Supplied.{held-last, supplied-more, supplied-ordered, supplied-put_row, supplied-used}

-- a daemon that keeps its rows is kept as it was
pub kept-same : (history : List Entry) (old new : Daemon) → KeepsRows old new → IsKeptWith history old → IsKeptWith history new
kept-same history old new same kept = record {
  apart = rw same.rows kept.apart;
  idle = λ none. rw same.state (kept.idle (rw (← same.live) none));
  supplied = rw (same.methods, same.rows) kept.supplied;
  held = rw (same.disk, same.rows) kept.held;
  synced = rw (same.disk, same.rows) kept.synced;
  covered = rw (same.disk, same.rows) kept.covered;
  free = rw same.disk kept.free;
}

-- a daemon is kept where an entry was added
pub kept-entered : (history : List Entry) (entry : Entry) (d : Daemon) → IsKeptWith history d → IsKeptWith (history ++ entry ∷ []) d
kept-entered history entry d kept = record {
  apart = kept.apart;
  idle = kept.idle;
  supplied = supplied-more history entry (kept_by d) d.rows.items kept.supplied;
  held = kept.held;
  synced = kept.synced;
  covered = kept.covered;
  free = kept.free;
}

-- the same of a daemon that has the entry
pub kept-with : (old new : Daemon) (entry : Entry) → KeepsRows old new → new.history.items ≡ old.history.items ++ entry ∷ [] → IsKept old → IsKept new
kept-with old new entry same is kept =
    subst (λ (history : List Entry). IsKeptWith history new) (sym is)
    (kept-same (old.history.items ++ entry ∷ []) old new same (kept-entered old.history.items entry old kept))

-- and of one whose rows are kept as if it had it
pub kept-has : (old new : Daemon) (history : List Entry) → KeepsRows old new → new.history.items ≡ history → IsKeptWith history old → IsKept new
kept-has old new history same is kept = subst (λ (h : List Entry). IsKeptWith h new) (sym is) (kept-same history old new same kept)

-- and where a request was served that keeps the rows
pub kept-served : (r : Result Reply Memory) (served : Served) (old new : Daemon) → IfOk r (λ (reply : Reply). Serves served old new reply) →
    KeepsRows old new → IsKept old → OnOk r (IsKept new)
kept-served (Ok reply) served old new serves same kept = kept-has old new old.history.items same serves.history kept
kept-served (Err e) served old new serves same kept = tt

-- a declaration that was served, and then entered, leaves a daemon kept
pub kept-after : (request : Asked) (old mid new : Daemon) (given : Reply) (served : Served) (written : Bool) →
    Serves served old mid given → is_write_asked request ≡ written →
    ((entry : Entry) → is_write_entry entry ≡ written → IsKeptWith (old.history.items ++ entry ∷ []) mid) → KeepsRows mid new →
    new.history.items ≡ mid.history.items ++ entry_at (length mid.history.items) (event.Asked request) given ∷ [] → IsKept new
kept-after request old mid new given served written serves is kept same history =
    let entry : Entry = entry_at (length mid.history.items) (event.Asked request) given in
    kept-has mid new (old.history.items ++ entry ∷ []) same (history ∙ ap (λ (h : List Entry). h ++ entry ∷ []) serves.history) (kept entry is)

-- a daemon is kept where a row of it is used
pub kept-used : (path : List (List ℕ)) (moment : ℕ) (old new : Daemon) → IsKept old →
    new.rows.items ≡ used path moment old.rows.items → new.methods ≡ old.methods → new.disk ≡ old.disk → new.live ≡ old.live →
    new.state ≡ old.state → new.history ≡ old.history → IsKept new
kept-used path moment old new kept rows methods disk live state history =
    let change = used_row path moment in
    record {
      apart = rw rows (apart-map change (used-path path moment) old.rows.items ∙ kept.apart);
      idle = λ none. rw state (kept.idle (rw (← live) none));
      supplied = subst (λ (rs : List Row). AreSupplied new.history.items (kept_by new) rs) (sym rows)
          (rw (methods, history) (supplied-used old.history.items (kept_by old) path moment old.rows.items kept.supplied));
      held = subst (λ (rs : List Row). AreOnDisk (disk_content new.disk) rs) (sym rows)
          (rw disk (held-map (disk_content old.disk) change (used-path path moment) (used-tree path moment) (used-stands path moment) old.rows.items kept.held));
      synced = subst (λ (rs : List Row). AreSynced (disk_rough new.disk) rs) (sym rows)
          (rw disk (synced-map (disk_rough old.disk) change (used-path path moment) (used-stands path moment) old.rows.items kept.synced));
      covered = subst (λ (rs : List Row). IsCovered (disk_content new.disk) rs) (sym rows)
          (rw disk (covered-map (disk_content old.disk) change (used-path path moment) (used-tree path moment) old.rows.items kept.covered));
      free = rw disk kept.free;
    }

-- a daemon is kept where a row is declared that overlaps none, and its method is kept
pub kept-declared : (old new : Daemon) (row : Row) (method : Method) (entry : Entry) → IsKept old →
    list_any (overlaps_row row.path) old.rows.items ≡ false → new.rows.items ≡ put_row row old.rows.items → row.stands ≡ false →
    row.stamp ≡ length old.history.items → IsTree row.tree → list_all (is_placed row.path) row.tree ≡ true → IsAtHand method row.tree →
    ((q : List (List ℕ)) → is_eq (path_cmp row.path q) ≡ false → kept_by new q ≡ kept_by old q) → kept_by new row.path ≡ Some method →
    new.disk ≡ old.disk → new.live ≡ old.live → new.state ≡ old.state → is_write_entry entry ≡ is_write method →
    IsKeptWith (old.history.items ++ entry ∷ []) new
kept-declared old new row method entry kept clear rows lies stamp tree places bytes keeps at disk live state same =
    let history = old.history.items ++ entry ∷ [] in
    let grown : length history ≡ length old.history.items + 1 = length_push old.history.items entry in
    let here : IsSupplied history (kept_by new) row = record {
      tree = tree;
      places = places;
      method = method;
      found = at;
      bytes = bytes;
      entered = omega (arith, stamp, grown);
      held = ap (λ (n : ℕ). is_held history n) stamp ∙ held-last old.history.items entry ∙ same;
    } in
    record {
      apart = rw rows (put_row-apart row old.rows.items kept.apart clear);
      idle = λ none. rw state (kept.idle (rw (← live) none));
      supplied = subst (λ (rs : List Row). AreSupplied history (kept_by new) rs) (sym rows)
          (supplied-put_row history (kept_by old) (kept_by new) row old.rows.items
          (supplied-more old.history.items entry (kept_by old) old.rows.items kept.supplied) clear keeps here);
      held = subst (λ (rs : List Row). AreOnDisk (disk_content new.disk) rs) (sym rows)
          (rw disk (held-put_row (disk_content old.disk) row old.rows.items lies kept.held));
      synced = subst (λ (rs : List Row). AreSynced (disk_rough new.disk) rs) (sym rows)
          (rw disk (synced-put_row (disk_rough old.disk) row old.rows.items lies kept.synced));
      covered = subst (λ (rs : List Row). IsCovered (disk_content new.disk) rs) (sym rows)
          (rw disk (covered-put_row (disk_content old.disk) row old.rows.items kept.covered));
      free = rw disk kept.free;
    }

-- a tree that a live command declares at a clear path
pub declare-alone : (number command : ℕ) (path : List (List ℕ)) (tree : List Flat) (book : Book) →
    is_live command book ≡ true → list_any (overlaps_row path) book.rows ≡ false →
    declare_tree number command path tree book ≡ declared_alone number command path tree book
declare-alone number command path tree book live clear = rw live (declare_clear number command path tree book clear)

-- a scene by its parts
abbrev pub scene_at : Point → MemStore → MemDisk → Scene
scene_at point store disk = record {
  point = point;
  blobs = blobs_of store;
  asks = store.asks;
  disk = shown_by (disk_content disk);
}

pub scene-parts : (p q : Point) (s t : MemStore) (k l : MemDisk) → p ≡ q → s ≡ t → k ≡ l → scene_at p s k ≡ scene_at q t l
scene-parts p q s t k l point store disk =
    ap (λ (x : Point). scene_at x s k) point ∙ ap₂ (λ (y : MemStore) (z : MemDisk). scene_at q y z) store disk

-- a request that was served, and then entered, is a step of the run
pub asked-steps : (request : Asked) (old mid new : Daemon) (given : Reply) (served : Served) →
    served ≡ serve (next (point_of old)) 0 empty_context request (book_of old) → Serves served old mid given → book_of new ≡ book_of mid →
    new.disk ≡ mid.disk → new.store ≡ mid.store →
    new.history.items ≡ mid.history.items ++ entry_at (length mid.history.items) (event.Asked request) given ∷ [] →
    Steps request old new given
asked-steps request old mid new given served is serves book disk store history =
    let reply : given ≡ (serve (next (point_of old)) 0 empty_context request (book_of old)).reply = serves.reply ∙ ap (λ (s : Served). s.reply) is in
    record {
      reply = reply;
      scene = scene-parts (point_of new) (ask request (point_of old)).point new.store old.store new.disk old.disk
          (ap₂ (λ (b : Book) (l : List Entry). let p : Point = record { book = b; history = l } in p)
          (book ∙ serves.book ∙ ap (λ (s : Served). s.book) is)
          (history ∙ ap₂ (λ (l : List Entry) (r : Reply). l ++ entry_at (length l) (event.Asked request) r ∷ []) serves.history reply))
          (store ∙ serves.store) (disk ∙ serves.disk);
    }

-- a daemon is sound after a step that answered no ticket
pub sound-stepped : (request : Asked) (before after : Daemon) (given : Reply) → Steps request before after given →
    IsKept after → IsPast (length before.history.items) after → IsReady after
sound-stepped request before after given steps kept past =
    let grown : length after.history.items ≡ length before.history.items + 1 =
    ap (λ (s : Scene). length s.point.history) steps.scene
    ∙ length_push before.history.items
    (entry_at (length before.history.items) (event.Asked request) (ask request (point_of before)).reply) in
    record {
      kept = kept;
      past = subst (λ (n : ℕ). IsPast n after) (sym grown) (past-more (length before.history.items) after.tickets.items past);
    }

-- a line's text has nothing behind it where no ticket was answered since
line_alone : (before : Point) (scene : Scene) (text first last : List ℕ) →
    answer_lines (next before) (length scene.point.history - length before.history) scene.point.book.tickets ≡ [] →
    last ≡ (first ++ text) ++ codes "\n" → last ≡ first ++ (told_since before text scene).text
line_alone before scene text first last none is =
    is ∙ append_assoc first text (codes "\n")
    ∙ sym (ap (λ (t : List ℕ). first ++ t)
    (ap (λ (t : List ℕ). (text ++ codes "\n") ++ t) none ∙ append-nil (text ++ codes "\n")))

-- a request's line is answered as the definitions say, where no ticket was answered by its entry
pub told-request : (request : Request) (before after : Daemon) (given : Reply) (first last : List ℕ) →
    is_not_yet request (book_of before) ≡ false → Steps (asked_of request) before after given →
    list_all (is_answered_before (next (point_of before))) after.tickets.items ≡ true →
    last ≡ (first ++ reply_text given) ++ codes "\n" → Tells (tell_item (item.Request request) (scene_of before)) after first last
told-request request before after given first last now steps past is =
    let done = ask (asked_of request) (point_of before) in
    let number = next (point_of before) in
    let scene : Scene = asked_scene (asked_of request) (scene_of before) in
    let count : length done.point.history - length before.history.items ≡ 1 =
    omega (arith, length_push before.history.items (entry_at (length before.history.items) (event.Asked (asked_of request)) done.reply)) in
    let tickets : done.point.book.tickets ≡ after.tickets.items = sym (ap (λ (s : Scene). s.point.book.tickets) steps.scene) in
    let none : answer_lines number (length done.point.history - length before.history.items) done.point.book.tickets ≡ [] =
    ap₂ (λ (k : ℕ) (ts : List Ticket). answer_lines number k ts) count tickets ∙ past-answer_lines number after.tickets.items past in
    subst (λ (b : Bool). Tells (cond b (told_not_yet (scene_of before)) (tell_asked (asked_of request) (scene_of before))) after first last) (sym now)
    (record {
      text = line_alone (point_of before) scene (reply_text done.reply) first last none
          (is ∙ ap (λ (r : Reply). (first ++ reply_text r) ++ codes "\n") steps.reply);
      scene = steps.scene;
    })

-- the line of a request that isn't served yet is answered so
pub told-not_yet : (request : Request) (before : Scene) (after : Daemon) (first last : List ℕ) → is_not_yet request before.point.book ≡ true →
    scene_of after ≡ before → last ≡ first ++ not_yet_text → Tells (tell_item (item.Request request) before) after first last
told-not_yet request before after first last later at is =
    subst (λ (b : Bool).
    Tells (cond b (told_not_yet before) (tell_asked (asked_of request) before)) after first last)
    (sym later) (record { text = is; scene = at })

-- a drain's line is answered as the definitions say, with the lines of the tickets that were answered since
pub told-drain : (before : Scene) (after : Daemon) (first last : List ℕ) → scene_of after ≡ drain before →
    last ≡ (first ++ codes "drained\n")
    ++ answer_lines (next before.point) (length after.history.items - length before.point.history) after.tickets.items →
    Tells (tell_item item.Drain before) after first last
told-drain before after first last at is = record {
  text = is
      ∙ append_assoc first (codes "drained\n")
      (answer_lines (next before.point) (length after.history.items - length before.point.history) after.tickets.items)
      ∙ ap (λ (s : Scene). first ++ (codes "drained\n"
      ++ answer_lines (next before.point) (length s.point.history - length before.point.history) s.point.book.tickets)) at;
  scene = at;
}

-- a show's line is answered as the definitions say by a listing of the disk
pub told-show : (path : List (List ℕ)) (d : Daemon) (nodes : List Flat) (first last : List ℕ) → IsKept d →
    ascends nodes ≡ true → HasTree (below path (disk_content d.disk)) nodes → last ≡ first ++ said_line (said.Shown nodes) →
    Tells (tell_item (item.Show path) (scene_of d)) d first last
told-show path d nodes first last kept order holds is = record {
  text = is ∙ ap (λ (ns : List Flat). first ++ said_line (said.Shown ns))
      (listed-there path (disk_content d.disk) d.rows.items nodes (supplied-ordered d.history.items (kept_by d) d.rows.items kept.supplied)
      kept.apart kept.covered order holds);
  scene = refl;
}

-- a make more on the way to where a drain ends
pub drained-more : (count : ℕ) (d0 before after : Scene) → makes (count + 1) before ≡ drain d0 → after ≡ make_first before →
    makes count after ≡ drain d0
drained-more count d0 before after left made =
    ap (λ (s : Scene). makes count s) made ∙ sym (makes-suc count before) ∙ left

-- a drain ends where there is none to make
pub drained-none : (count : ℕ) (d0 before after : Scene) → makes count before ≡ drain d0 →
    first_task idle before.point.book ≡ None → after ≡ make_first before → after ≡ drain d0
drained-none count d0 before after left none made =
    made ∙ make_first-none before none ∙ sym (makes-none count before none) ∙ left

-- two facts that hold where a call did its work give a third
pub on_ok_both : {T E P Q R : Type 0} (r : Result T E) → (P → Q → R) → OnOk r P → OnOk r Q → OnOk r R
on_ok_both (Ok value) more first second = more first second
on_ok_both (Err error) more first second = tt

-- a daemon that answered a line and is ready for the next is sound
pub sound-told : (read : Line) (old new : Daemon) (first last : List ℕ) → IsSound old → Tells (tell read (scene_of old)) new first last →
    IsReady new → IsSound new
sound-told read old new first last sound told ready = record {
  ready = ready;
  follows = subst (λ (scene : Scene). IsFollowingAt scene.point) (sym told.scene) (tell-at read (scene_of old) sound.follows);
}
