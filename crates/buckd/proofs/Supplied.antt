-- Rows whose bytes are at hand: they stay so where the history grows, where one is put among them, and where each keeps its
-- path, its tree and its stamp.
use Rattle.mat_path.proofs.Overlaps.{overlap-refl}
use Rattle.std.proofs.Common.{◌≡◌, ℕ, zero, suc, ◌<◌, Bool, true, false, List, [], ◌∷◌, ◌++◌, length, Option, Some, cond, Less, Equal, Greater, refl, sym, ap, ap₂, subst, ◌∙◌, map, find, arith}
use Rattle.std.specs.List.{list_all, list_any, slice_get}
use Rattle.std.specs.Option.{option_map_or}
use Rattle.std.specs.Ordering.{is_eq}
use Rattle.std.proofs.lemmas.Bool.{and_from, both_ways, or_parts}
use Rattle.std.proofs.lemmas.List.{length_push}
use Rattle.mat_path.specs.Names.{overlap, path_cmp}
use Rattle.mat_path.proofs.PathLemmas.{path_cmp_equal}
use Rattle.mat_tree.specs.Trees.{IsTree, is_placed}
use Rattle.mat_tree.specs.declared.flat.Flat.{Flat}
use Rattle.mat_model.specs.declared.book.Row.{Row}
use Rattle.mat_model.specs.declared.entries.Entry.{Entry}
use Rattle.mat_model.specs.Rows.{comes_before, overlaps_row, put_row, used_row}
use Rattle.model_laws.proofs.Changes.{used-stamp}
use Rattle.model_laws.proofs.Changes.{used-path, used-tree}
use Rattle.buckd.specs.Making.{IsAtHand}
use Rattle.buckd.specs.Run.{is_held, is_write_entry}
use Rattle.buckd.specs.Shows.{AreOrdered, is_ordered}
use Rattle.buckd.specs.Sound.{AreSupplied, IsSupplied, Kept}

-- paths that don't overlap aren't the same
pub clear_differ : (p q : List (List ℕ)) → overlap q p ≡ false → is_eq (path_cmp p q) ≡ false
clear_differ p q clear =
    elim (path_cmp p q) as (λ o. path_cmp p q ≡ o → is_eq o ≡ false) [
      | Less ↦ λ is. refl
      | Equal ↦ λ is. absurd (both_ways (overlap q p) clear
          (subst (λ (r : List (List ℕ)). overlap q r ≡ true) (sym (path_cmp_equal p q is)) (overlap-refl q)))
      | Greater ↦ λ is. refl
    ] refl

-- an entry more leaves the earlier ones
pub get_push : {A : Type 0} (xs : List A) (x : A) (k : ℕ) → k < length xs → slice_get (xs ++ x ∷ []) k ≡ slice_get xs k
get_push [] x k within = absurd (omega (arith, within))
get_push (y ∷ xs) x zero within = refl
get_push (y ∷ xs) x (suc k) within = get_push xs x k (omega (arith, within))

-- the last entry is found at the number of those before it
pub get_last : {A : Type 0} (xs : List A) (x : A) → slice_get (xs ++ x ∷ []) (length xs) ≡ Some x
get_last [] x = refl
get_last (y ∷ xs) x = get_last xs x

-- whether a row holds its bytes stays, once it was entered
pub held-more : (history : List Entry) (entry : Entry) (stamp : ℕ) → stamp < length history →
    is_held (history ++ entry ∷ []) stamp ≡ is_held history stamp
held-more history entry stamp within =
    ap (λ (o : Option Entry). option_map_or is_write_entry o false) (get_push history entry stamp within)

-- a row that is entered last holds its bytes where its entry is a write
pub held-last : (history : List Entry) (entry : Entry) → is_held (history ++ entry ∷ []) (length history) ≡ is_write_entry entry
held-last history entry = ap (λ (o : Option Entry). option_map_or is_write_entry o false) (get_last history entry)

supplied_more : (history : List Entry) (entry : Entry) (kept : Kept) (row : Row) → IsSupplied history kept row →
    IsSupplied (history ++ entry ∷ []) kept row
supplied_more history entry kept row s = record {
  tree = s.tree;
  places = s.places;
  method = s.method;
  found = s.found;
  bytes = s.bytes;
  entered = omega (arith, s.entered, length_push history entry);
  held = held-more history entry row.stamp s.entered ∙ s.held;
}

-- rows stay supplied where the history grows
pub supplied-more : (history : List Entry) (entry : Entry) (kept : Kept) (rows : List Row) → AreSupplied history kept rows →
    AreSupplied (history ++ entry ∷ []) kept rows
supplied-more history entry kept [] all = tt
supplied-more history entry kept (row ∷ rows) (first, all) =
    (supplied_more history entry kept row first, supplied-more history entry kept rows all)

-- rows stay supplied where the method changes at one path that none of them overlaps
supplied_kept : (history : List Entry) (kept new_kept : Kept) (path : List (List ℕ)) (rows : List Row) → AreSupplied history kept rows →
    list_any (overlaps_row path) rows ≡ false → ((q : List (List ℕ)) → is_eq (path_cmp path q) ≡ false → new_kept q ≡ kept q) →
    AreSupplied history new_kept rows
supplied_kept history kept new_kept path [] all clear keeps = tt
supplied_kept history kept new_kept path (row ∷ rows) (s, all) clear keeps =
    let clears = or_parts (overlaps_row path row) (list_any (overlaps_row path) rows) clear in (
      record {
        tree = s.tree;
        places = s.places;
        method = s.method;
        found = keeps row.path (clear_differ path row.path clears.0) ∙ s.found;
        bytes = s.bytes;
        entered = s.entered;
        held = s.held;
      },
      supplied_kept history kept new_kept path rows all clears.1 keeps,
    )

supplied_put : (history : List Entry) (kept : Kept) (new : Row) (rows : List Row) → AreSupplied history kept rows → IsSupplied history kept new →
    AreSupplied history kept (put_row new rows)
supplied_put history kept new [] all here = (here, tt)
supplied_put history kept new (row ∷ rows) (first, all) here =
    elim (comes_before new.path row.path) as (λ b. AreSupplied history kept (cond b (new ∷ row ∷ rows) (row ∷ put_row new rows))) [
      | true ↦ (here, (first, all))
      | false ↦ (first, supplied_put history kept new rows all here)
    ]

-- a row is put among those that it doesn't overlap, and its method is kept too
pub supplied-put_row : (history : List Entry) (kept new_kept : Kept) (new : Row) (rows : List Row) → AreSupplied history kept rows →
    list_any (overlaps_row new.path) rows ≡ false → ((q : List (List ℕ)) → is_eq (path_cmp new.path q) ≡ false → new_kept q ≡ kept q) →
    IsSupplied history new_kept new → AreSupplied history new_kept (put_row new rows)
supplied-put_row history kept new_kept new rows all clear keeps here =
    supplied_put history new_kept new rows (supplied_kept history kept new_kept new.path rows all clear keeps) here

-- rows stay supplied where each keeps its path, its tree and its stamp
pub supplied-map : (history : List Entry) (kept : Kept) (f : Row → Row) → ((row : Row) → (f row).path ≡ row.path) →
    ((row : Row) → (f row).tree ≡ row.tree) → ((row : Row) → (f row).stamp ≡ row.stamp) → (rows : List Row) → AreSupplied history kept rows →
    AreSupplied history kept (map f rows)
supplied-map history kept f paths trees stamps [] all = tt
supplied-map history kept f paths trees stamps (row ∷ rows) (s, all) = (
  record {
    tree = subst (λ (t : List Flat). IsTree t) (sym (trees row)) s.tree;
    places = ap₂ (λ (p : List (List ℕ)) (t : List Flat). list_all (is_placed p) t) (paths row) (trees row) ∙ s.places;
    method = s.method;
    found = ap (λ (p : List (List ℕ)). kept p) (paths row) ∙ s.found;
    bytes = subst (λ (t : List Flat). IsAtHand s.method t) (sym (trees row)) s.bytes;
    entered = subst (λ (n : ℕ). n < length history) (sym (stamps row)) s.entered;
    held = ap (λ (n : ℕ). is_held history n) (stamps row) ∙ s.held;
  },
  supplied-map history kept f paths trees stamps rows all,
)

-- rows stay supplied where one is used
pub supplied-used : (history : List Entry) (kept : Kept) (path : List (List ℕ)) (moment : ℕ) (rows : List Row) → AreSupplied history kept rows →
    AreSupplied history kept (map (used_row path moment) rows)
supplied-used history kept path moment rows all =
    supplied-map history kept (used_row path moment) (used-path path moment) (used-tree path moment) (used-stamp path moment) rows all

-- a row that a test finds is supplied
pub supplied_found : (history : List Entry) (kept : Kept) (test : Row → Bool) (rows : List Row) (row : Row) → AreSupplied history kept rows →
    find test rows ≡ Some row → IsSupplied history kept row
supplied_found history kept test [] row all found = absurd cc
supplied_found history kept test (next ∷ rows) row (first, all) found =
    elim (test next) as (λ b. cond b (Some next) (find test rows) ≡ Some row → IsSupplied history kept row) [
      | true ↦ λ is. let same : next ≡ row = cc in subst (λ (r : Row). IsSupplied history kept r) same first
      | false ↦ λ is. supplied_found history kept test rows row all is
    ] found

-- supplied rows have trees in order
pub supplied-ordered : (history : List Entry) (kept : Kept) (rows : List Row) → AreSupplied history kept rows → AreOrdered rows
supplied-ordered history kept [] all = refl
supplied-ordered history kept (row ∷ rows) (first, all) =
    and_from (is_ordered row) (list_all is_ordered rows) first.tree.order (supplied-ordered history kept rows all)
