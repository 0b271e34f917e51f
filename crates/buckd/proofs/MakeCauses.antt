-- Why a make fails, and what the makes of one drain add to a history.
use Rattle.std.proofs.Common.{◌≡◌, ℕ, zero, suc, ◌+◌, ◌≤◌, ◌==◌, ◌&&◌, ◌||◌, ◌⊎◌, inl, inr, Bool, true, false, cond, List, [], ◌∷◌, ◌++◌, length, map, find, take, count_by, Option, Some, None, refl, sym, ◌∙◌, ap, ap₂, subst, arith}
use Rattle.std.specs.Bool.{⊤}
use Rattle.std.specs.List.{slice_get}
use Rattle.std.specs.Option.{option_map, option_map_or}
use Rattle.std.proofs.lemmas.List.{length_push}
use Rattle.std.proofs.lemmas.Option.{slice_get_within}
use Rattle.mat_digest.specs.Digests.{digest_of}
use Rattle.mat_digest.specs.declared.digest.Digest.{Digest}
use Rattle.mat_path.specs.Names.{same_names}
use Rattle.mat_tree.specs.Trees.{same_digest}
use Rattle.mat_tree.specs.declared.flat.Flat.{Flat}
use Rattle.mat_tree.specs.declared.flat.What.{What}
use Rattle.mat_tree.specs.declared.flat.What.TheVariants as what
use Rattle.mat_model.specs.declared.answers.Recorded.TheVariants as recorded
use Rattle.mat_model.specs.declared.answers.Reply.TheVariants as reply
use Rattle.mat_model.specs.declared.book.Book.{Book}
use Rattle.mat_model.specs.declared.book.Row.{Row}
use Rattle.mat_model.specs.declared.entries.Entry.{Entry}
use Rattle.mat_model.specs.declared.entries.Event.{Event}
use Rattle.mat_model.specs.declared.entries.Event.TheVariants as event
use Rattle.mat_model.specs.declared.entries.Outcome.{Outcome}
use Rattle.mat_model.specs.declared.entries.Outcome.TheVariants as outcome
use Rattle.mat_model.specs.declared.entries.Task.{Task}
use Rattle.mat_model.specs.declared.entries.Task.TheVariants as task
use Rattle.mat_model.specs.Gate.{Served}
use Rattle.mat_model.specs.Rows.{standing_row}
use Rattle.mat_model.specs.Tickets.{is_open}
use Rattle.mat_model.specs.Work.{end_make, finish, is_declared}
use Rattle.mat_model.specs.WorkState.{first_task}
use Rattle.model_laws.proofs.Idle.{no_wipe}
use Rattle.model_laws.proofs.LegalLemmas.{finish-clock}
use Rattle.model_laws.proofs.Changes.{standing-path, standing-stamp, standing-tree}
use Rattle.fetch_port.specs.Fetches.{Blobs}
use Rattle.write_plan.specs.Plans.{act_of, act_what, supply_of}
use Rattle.write_plan.specs.declared.act.Act.TheVariants as act
use Rattle.write_plan.specs.declared.act.Supply.{Supply}
use Rattle.write_plan.specs.declared.act.Supply.TheVariants as supply
use Rattle.write_plan.specs.declared.method.Method.{Method}
use Rattle.buckd.specs.Causes.{event_of, HasCauseIn, is_file_of, is_node_of, wants}
use Rattle.buckd.specs.Making.{act_failure, bytes_failure, fetch_failure, file_failure, given, make_acts, method_for, or_made, outcome_of}
use Rattle.buckd.specs.Run.{Point, Scene, acts_of, begin, declared_tree, drain, entry_at, idle, is_held, made, made_if, make_first, makes, next, tree_of_row}
use Rattle.buckd.proofs.MakeLemmas.{same_digest-refl}
use Rattle.buckd.proofs.Stepping.{worked-is, worked_so}
use Rattle.buckd.proofs.Supplied.{get_last, get_push}

-- ---- how acts end

-- a failure that is there has its cause
abbrev CausedIf : Blobs → List Flat → Option Outcome → Type 0
CausedIf blobs tree None = ⊤
CausedIf blobs tree (Some failure) = HasCauseIn blobs tree failure

-- bytes that fail for a digest of the tree are what the store held
bytes-cause : (blobs : Blobs) (tree : List Flat) (wanted : Digest) (bytes : List ℕ) → wants tree wanted ≡ true → blobs wanted ≡ Some bytes
    → CausedIf blobs tree (bytes_failure wanted (take (wanted.size + 1) bytes))
bytes-cause blobs tree wanted bytes among is =
    let found : Digest = digest_of (take (wanted.size + 1) bytes) in
    elim (same_digest found wanted) as
    (λ b. same_digest found wanted ≡ b → CausedIf blobs tree (cond b None (Some (outcome.Corrupt wanted found)))) [
      | true ↦ λ same. tt
      | false ↦ λ other. (among, bytes, is, refl, other)
    ] refl

-- what the store gives for a digest of the tree fails for what it held
fetch-cause : (blobs : Blobs) (tree : List Flat) (wanted : Digest) → wants tree wanted ≡ true
    → CausedIf blobs tree (fetch_failure wanted (given blobs wanted))
fetch-cause blobs tree wanted among =
    elim (blobs wanted) as
    (λ o. blobs wanted ≡ o → CausedIf blobs tree (fetch_failure wanted (option_map (take (wanted.size + 1)) o))) [
      | None ↦ λ is. (among, is)
      | Some bytes ↦ λ is. bytes-cause blobs tree wanted bytes among is
    ] refl

-- a file of the tree fails for what the store held
file-cause : (blobs : Blobs) (tree : List Flat) (digest : Digest) (from : Supply) → wants tree digest ≡ true
    → CausedIf blobs tree (file_failure blobs digest from)
file-cause blobs tree digest supply.Empty among = tt
file-cause blobs tree digest supply.Held among = tt
file-cause blobs tree digest supply.Store among = fetch-cause blobs tree digest among
file-cause blobs tree digest (supply.Loan rel) among = tt

-- and so does the act that puts a node
what-cause : (blobs : Blobs) (tree : List Flat) (way : Method) (rel : List (List ℕ)) (node : What)
    → ((digest : Digest) → is_file_of digest node ≡ true → wants tree digest ≡ true)
    → CausedIf blobs tree (act_failure blobs (act_what way false rel node))
what-cause blobs tree way rel (what.File digest exec) among =
    file-cause blobs tree digest (supply_of way false rel digest) (among digest (same_digest-refl digest))
what-cause blobs tree way rel what.Dir among = tt
what-cause blobs tree way rel (what.Link target) among = tt

-- the first failure has its cause where that of each act has
or_made-cause : (blobs : Blobs) (tree : List Flat) (o : Option Outcome) (rest : Outcome) → CausedIf blobs tree o → HasCauseIn blobs tree rest
    → HasCauseIn blobs tree (or_made o rest)
or_made-cause blobs tree None rest cause more = more
or_made-cause blobs tree (Some failure) rest cause more = cause

-- what some nodes of the tree come to has its cause
nodes-cause : (blobs : Blobs) (tree : List Flat) (way : Method) (nodes : List Flat)
    → ((digest : Digest) → wants nodes digest ≡ true → wants tree digest ≡ true)
    → HasCauseIn blobs tree (outcome_of blobs (map (act_of way false) nodes ++ act.Sync ∷ []))
nodes-cause blobs tree way [] among = tt
nodes-cause blobs tree way (node ∷ nodes) among =
    or_made-cause blobs tree (act_failure blobs (act_of way false node)) (outcome_of blobs (map (act_of way false) nodes ++ act.Sync ∷ []))
    (what-cause blobs tree way node.rel node.what
    (λ digest is. among digest (ap (λ (b : Bool). b || wants nodes digest) is)))
    (nodes-cause blobs tree way nodes (λ digest is. among digest (later (is_node_of digest node) (wants nodes digest) is)))
  where
    later : (a b : Bool) → b ≡ true → (a || b) ≡ true
    later true b is = refl
    later false b is = is

-- what a make of a tree comes to has its cause in the store that it asks
make-cause : (blobs : Blobs) (tree : List Flat) (held : Bool) → HasCauseIn blobs tree (outcome_of blobs (make_acts held tree))
make-cause blobs tree held = nodes-cause blobs tree (method_for held) tree (λ digest is. is)

-- ---- rows

-- the tree that was declared stays where each row keeps its path, its stamp and its tree
declared-map : (path : List (List ℕ)) (stamp : ℕ) (change : Row → Row) → ((row : Row) → (change row).path ≡ row.path)
    → ((row : Row) → (change row).tree ≡ row.tree) → ((row : Row) → (change row).stamp ≡ row.stamp) → (rows : List Row)
    → declared_tree path stamp (map change rows) ≡ declared_tree path stamp rows
declared-map path stamp change paths trees stamps [] = refl
declared-map path stamp change paths trees stamps (row ∷ rows) =
    ap (λ (b : Bool). option_map_or tree_of_row (cond b (Some (change row)) (find (is_declared path stamp) (map change rows))) [])
    (ap₂ (λ (p : List (List ℕ)) (s : ℕ). same_names p path && (s == stamp)) (paths row) (stamps row))
    ∙ elim (is_declared path stamp row) as
    (λ b. option_map_or tree_of_row (cond b (Some (change row)) (find (is_declared path stamp) (map change rows))) []
    ≡ option_map_or tree_of_row (cond b (Some row) (find (is_declared path stamp) rows)) []) [
      | true ↦ trees row
      | false ↦ declared-map path stamp change paths trees stamps rows
    ]

-- the end of a make leaves each declared tree
end_make-trees : (number : ℕ) (place : List (List ℕ)) (ends : Outcome) (book : Book) (o : Option Row) (path : List (List ℕ)) (stamp : ℕ)
    → declared_tree path stamp (end_make number place ends recorded.Nothing book o).book.rows ≡ declared_tree path stamp book.rows
end_make-trees number place ends book None path stamp = refl
end_make-trees number place outcome.Made book (Some row) path stamp =
    declared-map path stamp (standing_row place) (standing-path place) (standing-tree place) (standing-stamp place) book.rows
end_make-trees number place outcome.Wiped book (Some row) path stamp = refl
end_make-trees number place (outcome.Missing digest) book (Some row) path stamp = refl
end_make-trees number place (outcome.Corrupt wanted found) book (Some row) path stamp = refl
end_make-trees number place (outcome.Fault note) book (Some row) path stamp = refl
end_make-trees number place outcome.NoMemory book (Some row) path stamp = refl

-- ---- histories

-- an entry of a history that was pushed to is an earlier one, or the last
pub get_either : {A : Type 0} (xs : List A) (x : A) (k : ℕ) (y : A) → slice_get (xs ++ x ∷ []) k ≡ Some y
    → (slice_get xs k ≡ Some y) ⊎ ((k ≡ length xs) × (x ≡ y))
get_either [] x zero y is = inr (refl, cc)
get_either [] x (suc k) y is = absurd cc
get_either (z ∷ xs) x zero y is = inl is
get_either (z ∷ xs) x (suc k) y is = by (get_either xs x k y is)
  where
    by : (slice_get xs k ≡ Some y) ⊎ ((k ≡ length xs) × (x ≡ y))
        → (slice_get (z ∷ xs) (suc k) ≡ Some y) ⊎ ((suc k ≡ length (z ∷ xs)) × (x ≡ y))
    by (inl earlier) = inl earlier
    by (inr (last, same)) = inr (ap (λ (n : ℕ). suc n) last, same)

-- what happened at a place stays where an entry is pushed
pub begins-more : (history : List Entry) (one : Entry) (place : ℕ) (happened : Event)
    → option_map event_of (slice_get history place) ≡ Some happened
    → option_map event_of (slice_get (history ++ one ∷ []) place) ≡ Some happened
begins-more [] one place happened is = absurd cc
begins-more (entry ∷ history) one zero happened is = is
begins-more (entry ∷ history) one (suc place) happened is = begins-more history one place happened is

-- the end of a job in a history is that of a make which has its cause in what a scene's store held
pub record EndsFor (base : Scene) (history : List Entry) (job : ℕ) (ends : Outcome) : Type 0 where
  pub path : List (List ℕ)
  pub stamp : ℕ
  pub begins : option_map event_of (slice_get history job) ≡ Some (event.Begin (task.Make path stamp))
  pub why : HasCauseIn base.blobs (declared_tree path stamp base.point.book.rows) ends

abbrev pub EndsSo : Scene → List Entry → Event → Type 0
EndsSo base history (event.Asked request) = ⊤
EndsSo base history (event.Begin begins) = ⊤
EndsSo base history (event.Done job ends) = EndsFor base history job ends

-- each entry of a history is one of a scene's at its place, or behind those, with its cause in that scene
pub record Adds (base : Scene) (history : List Entry) : Type 0 where
  pub longer : length base.point.history ≤ length history
  pub keeps : (place : ℕ) (entry : Entry) → slice_get base.point.history place ≡ Some entry → slice_get history place ≡ Some entry
  pub each : (place : ℕ) (entry : Entry) → slice_get history place ≡ Some entry
      → (slice_get base.point.history place ≡ Some entry) ⊎ ((length base.point.history ≤ place) × EndsSo base history entry.event)

-- a scene's own history
pub adds-none : (base : Scene) → Adds base base.point.history
adds-none base = record {
  longer = omega arith;
  keeps = λ place entry is. is;
  each = λ place entry is. inl is;
}

-- what an end says stays where an entry is pushed
ends-more : (base : Scene) (history : List Entry) (one : Entry) (happened : Event) → EndsSo base history happened
    → EndsSo base (history ++ one ∷ []) happened
ends-more base history one (event.Asked request) so = tt
ends-more base history one (event.Begin begins) so = tt
ends-more base history one (event.Done job ends) so = record {
  path = so.path;
  stamp = so.stamp;
  begins = begins-more history one job (event.Begin (task.Make so.path so.stamp)) so.begins;
  why = so.why;
}

-- one more entry at the end of a history, with its cause
pub adds-push : (base : Scene) (history : List Entry) (one : Entry) → Adds base history → EndsSo base (history ++ one ∷ []) one.event
    → Adds base (history ++ one ∷ [])
adds-push base history one adds so = record {
  longer = omega (arith, adds.longer, length_push history one);
  keeps = λ place entry is.
      get_push history one place (slice_get_within history place entry (adds.keeps place entry is)) ∙ adds.keeps place entry is;
  each = λ place entry is. by place entry (get_either history one place entry is);
}
  where
    earlier : (place : ℕ) (entry : Entry)
        → (slice_get base.point.history place ≡ Some entry) ⊎ ((length base.point.history ≤ place) × EndsSo base history entry.event)
        → (slice_get base.point.history place ≡ Some entry) ⊎ ((length base.point.history ≤ place) × EndsSo base (history ++ one ∷ []) entry.event)
    earlier place entry (inl old) = inl old
    earlier place entry (inr (behind, ends)) = inr (behind, ends-more base history one entry.event ends)

    by : (place : ℕ) (entry : Entry) → (slice_get history place ≡ Some entry) ⊎ ((place ≡ length history) × (one ≡ entry))
        → (slice_get base.point.history place ≡ Some entry) ⊎ ((length base.point.history ≤ place) × EndsSo base (history ++ one ∷ []) entry.event)
    by place entry (inl is) = earlier place entry (adds.each place entry is)
    by place entry (inr (last, same)) =
        inr (omega (arith, last, adds.longer), subst (λ (e : Entry). EndsSo base (history ++ one ∷ []) e.event) same so)

-- ---- makes

-- a scene that some makes led to from another: the store and the declared trees stay
record Drains (base scene : Scene) : Type 0 where
  first : scene.point.book.first ≡ 0
  blobs : scene.blobs ≡ base.blobs
  trees : (path : List (List ℕ)) (stamp : ℕ) → declared_tree path stamp scene.point.book.rows ≡ declared_tree path stamp base.point.book.rows
  adds : Adds base scene.point.history

-- a make adds its begin and its end, which has its cause
made-adds : (base scene : Scene) (path : List (List ℕ)) (stamp : ℕ) (ends : Outcome) (served : Served) → Drains base scene
    → HasCauseIn base.blobs (declared_tree path stamp base.point.book.rows) ends
    → Adds base (worked_so scene.point.history (task.Make path stamp) ends (length scene.point.history) (length scene.point.history + 1) served).history
made-adds base scene path stamp ends served drains why =
    let history : List Entry = scene.point.history in
    let starts : Entry = entry_at (length history) (event.Begin (task.Make path stamp)) reply.Started in
    let stops : Entry = entry_at (length history + 1) (event.Done (length history) ends) served.reply in
    adds-push base (history ++ starts ∷ []) stops (adds-push base history starts drains.adds tt) (record {
      path = path;
      stamp = stamp;
      begins = begins-more (history ++ starts ∷ []) stops (length history) (event.Begin (task.Make path stamp))
          (ap (λ (o : Option Entry). option_map event_of o) (get_last history starts));
      why = why;
    })

-- a make goes on so
made-drains : (base scene : Scene) (wanted : Task) → first_task idle scene.point.book ≡ Some wanted → Drains base scene
    → Drains base (made wanted scene)
made-drains base scene (task.Wipe path) is drains = absurd (no_wipe idle scene.point.book.rows scene.point.book.tickets path is)
made-drains base scene (task.Make path stamp) is drains =
    let wanted : Task = task.Make path stamp in
    let tree : List Flat = declared_tree path stamp scene.point.book.rows in
    let ends : Outcome = outcome_of scene.blobs (acts_of wanted scene.point) in
    let one : Point = (begin wanted scene.point).point in
    let why : HasCauseIn scene.blobs tree ends = make-cause scene.blobs tree (is_held scene.point.history stamp) in
    let in_base : HasCauseIn base.blobs (declared_tree path stamp base.point.book.rows) ends =
    subst (λ (t : List Flat). HasCauseIn base.blobs t ends) (drains.trees path stamp)
    (subst (λ (b : Blobs). HasCauseIn b tree ends) drains.blobs why) in
    record {
      first = (finish-clock (next one) wanted ends recorded.Nothing one.book).first ∙ drains.first;
      blobs = drains.blobs;
      trees = λ other number.
          end_make-trees (next one) path ends one.book (find (is_declared path stamp) one.book.rows) other number ∙ drains.trees other number;
      adds = subst (λ (p : Point). Adds base p.history) (sym (worked-is wanted ends scene.point drains.first))
          (made-adds base scene path stamp ends (finish (length scene.point.history + 1) wanted ends recorded.Nothing scene.point.book) drains in_base);
    }

-- and so does the first make, if there is one
make_first-drains : (base scene : Scene) → Drains base scene → Drains base (make_first scene)
make_first-drains base scene drains =
    elim (first_task idle scene.point.book) as
    (λ o. first_task idle scene.point.book ≡ o → Drains base (made_if scene o)) [
      | None ↦ λ is. drains
      | Some wanted ↦ λ is. made-drains base scene wanted is drains
    ] refl

-- and so do some makes
makes-drains : (base : Scene) (count : ℕ) (scene : Scene) → Drains base scene → Drains base (makes count scene)
makes-drains base zero scene drains = drains
makes-drains base (suc count) scene drains = makes-drains base count (make_first scene) (make_first-drains base scene drains)

-- a drain adds makes that end for what the store held
pub drain-adds : (scene : Scene) → scene.point.book.first ≡ 0 → Adds scene (drain scene).point.history
drain-adds scene first =
    (makes-drains scene (count_by is_open scene.point.book.tickets) scene
    (record { first = first; blobs = refl; trees = λ path stamp. refl; adds = adds-none scene })).adds
