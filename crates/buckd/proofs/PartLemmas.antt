-- The part of a row: its bytes are at hand, and what a make of it comes to.
use Rattle.mat_path.proofs.SameNames.{same_names-eq}
use Rattle.mat_tree.specs.Trees.{is_placed}
use Rattle.std.proofs.Common.{◌≡◌, ℕ, ◌==◌, true, false, List, [], Option, Some, Result, Ok, Err, IfOk, OnOk, find, sym, ap, ap₂, subst, ◌∙◌}
use Rattle.std.specs.List.{list_all}
use Rattle.std.specs.Option.{option_map_or}
use Rattle.std.proofs.lemmas.Bool.{and_parts, eqb-true}
use Rattle.mat_path.specs.Names.{is_prefix}
use Rattle.mat_path.specs.declared.memory.Memory.{Memory}
use Rattle.mat_tree.specs.declared.flat.Flat.{Flat}
use Rattle.mat_tree.specs.Parts.{HasTree, below}
use Rattle.mat_model.specs.declared.book.Row.{Row}
use Rattle.mat_model.specs.declared.entries.Outcome.{Outcome}
use Rattle.mat_model.specs.declared.entries.Outcome.TheVariants as outcome
use Rattle.mat_model.specs.declared.entries.Task.TheVariants as task
use Rattle.mat_model.specs.Rows.{is_at_path}
use Rattle.mat_model.specs.Work.{is_declared}
use Rattle.model_laws.proofs.Elements.{found_passes}
use Rattle.fetch_port.specs.Memory.{blobs_of}
use Rattle.region_port.specs.Disks.{disk_content, disk_rough}
use Rattle.write_plan.specs.declared.act.Act.{Act}
use Rattle.write_plan.specs.declared.method.Method.{Method}
use Rattle.buckd.specs.declared.daemon.Daemon.{Daemon}
use Rattle.buckd.specs.Daemon.{Makes, point_of}
use Rattle.buckd.specs.Making.{IsAtHand, acts_done, asks_after, is_write, left_by, make_acts, no_nodes, outcome_of, shown_by, with_nodes}
use Rattle.buckd.specs.Run.{acts_of, declared_tree, is_held, tree_of_row}
use Rattle.buckd.specs.Sound.{IsKept, IsSupplied, kept_by}
use Rattle.buckd.proofs.Supplied.{supplied_found}

-- what a make of a row takes
pub record Supplies (d : Daemon) (path : List (List ℕ)) (stamp : ℕ) (row : Row) (method : Method) : Type 0 where
  pub places : list_all (is_placed path) row.tree ≡ true
  pub bytes : IsAtHand method row.tree
  pub acts : make_acts (is_write method) row.tree ≡ acts_of (task.Make path stamp) (point_of d)
  pub tree : row.tree ≡ declared_tree path stamp d.rows.items

-- a row that was declared at a path under a stamp has its bytes at hand, by the method that is kept for the path
pub supplies : (d : Daemon) (path : List (List ℕ)) (stamp : ℕ) (row : Row) (method : Method) → IsKept d →
    find (is_declared path stamp) d.rows.items ≡ Some row → kept_by d path ≡ Some method → Supplies d path stamp row method
supplies d path stamp row method kept found got =
    let s : IsSupplied d.history.items (kept_by d) row =
    supplied_found d.history.items (kept_by d) (is_declared path stamp) d.rows.items row kept.supplied found in
    let parts = and_parts (is_at_path path row) (row.stamp == stamp) (found_passes (is_declared path stamp) d.rows.items row found) in
    let at : row.path ≡ path = same_names-eq row.path path parts.0 in
    let number : row.stamp ≡ stamp = eqb-true row.stamp stamp parts.1 in
    let there : kept_by d path ≡ Some s.method = ap (λ (p : List (List ℕ)). kept_by d p) (sym at) ∙ s.found in
    let both : Some s.method ≡ Some method = sym there ∙ got in
    let same : s.method ≡ method = cc in
    let tree : row.tree ≡ declared_tree path stamp d.rows.items =
    sym (ap (λ (o : Option Row). option_map_or tree_of_row o []) found) in
    record {
      places = subst (λ (p : List (List ℕ)). list_all (is_placed p) row.tree ≡ true) at s.places;
      bytes = subst (λ (m : Method). IsAtHand m row.tree) same s.bytes;
      acts = ap₂ (λ b (t : List Flat). make_acts b t)
          (sym (ap (λ (n : ℕ). is_held d.history.items n) (sym number) ∙ s.held ∙ ap is_write same)) tree;
      tree = tree;
    }

-- a method is kept for a row that was declared at a path under a stamp
pub method_kept : (d : Daemon) (path : List (List ℕ)) (stamp : ℕ) (row : Row) → IsKept d → find (is_declared path stamp) d.rows.items ≡ Some row →
    (method : Method) × (kept_by d path ≡ Some method)
method_kept d path stamp row kept found =
    let s = supplied_found d.history.items (kept_by d) (is_declared path stamp) d.rows.items row kept.supplied found in
    let parts = and_parts (is_at_path path row) (row.stamp == stamp) (found_passes (is_declared path stamp) d.rows.items row found) in
    (s.method, ap (λ (p : List (List ℕ)). kept_by d p) (sym (same_names-eq row.path path parts.0)) ∙ s.found)

-- what the clauses of a make say together
pub part_made : (r : Result Outcome Memory) (path : List (List ℕ)) (acts : List Act) (tree : List Flat) (old new : Daemon) →
    OnOk r (new.store.asks ≡ asks_after (blobs_of old.store) acts old.store.asks) →
    IfOk r (λ (o : Outcome). o ≡ outcome_of (blobs_of old.store) acts) →
    OnOk r (shown_by (disk_content new.disk)
    ≡ with_nodes path (left_by (acts_done (blobs_of old.store) acts) no_nodes) (shown_by (disk_content old.disk))) →
    IfOk r (λ (o : Outcome). o ≡ outcome.Made → HasTree (below path (disk_content new.disk)) tree) →
    IfOk r (λ (o : Outcome). o ≡ outcome.Made → (place : List (List ℕ)) → is_prefix path place ≡ true → disk_rough new.disk place ≡ false) →
    OnOk r ((place : List (List ℕ)) → is_prefix path place ≡ false → disk_rough new.disk place ≡ disk_rough old.disk place) →
    IfOk r (λ (o : Outcome). Makes path acts tree old new o)
part_made (Ok o) path acts tree old new asks ends shown holds synced elsewhere =
    record { ends = ends; asks = asks; shown = shown; holds = holds; synced = synced; elsewhere = elsewhere }
part_made (Err e) path acts tree old new asks ends shown holds synced elsewhere = tt
