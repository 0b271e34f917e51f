-- Kept rows that are whole, where rows go and come and parts are taken and given.
use Rattle.std.proofs.Common.{◌≡◌, ℕ, Bool, true, false, not, ◌&&◌, ◌||◌, inl, inr, cond, List, [], ◌∷◌, ◌++◌, Option, Some, None, refl, sym, ap, subst, ◌∙◌, Contains}
use Rattle.std.specs.List.{filter, list_any}
use Rattle.std.specs.Option.{option_map}
use Rattle.std.proofs.lemmas.Bool.{and_parts, both_ways, false_from_ne_true, not-true, or_left}
use Rattle.std.proofs.lemmas.List.Elements.{Contains-append_left, Contains-append_right}
use Rattle.mat_path.specs.Covering.{is_other_path}
use Rattle.mat_path.specs.Names.{is_prefix, overlap, same_names}
use Rattle.mat_path.proofs.Elements.{contains_filter, contains_first, each_fails, none_passes}
use Rattle.mat_path.proofs.Overlaps.{apart_below, overlap-sym, prefix-antisym}
use Rattle.mat_path.proofs.PathLemmas.{prefix-append, prefix-trans}
use Rattle.mat_path.proofs.SameNames.{same_names-eq, same_names-refl}
use Rattle.mat_tree.specs.declared.flat.Flat.{Flat}
use Rattle.mat_tree.specs.Parts.{HasTree, Node, Part, below, declared_by, replaced, without}
use Rattle.mat_model.specs.declared.book.Row.{Row}
use Rattle.mat_model.specs.Kept.{KeptRow}
use Rattle.mat_model.specs.WorkState.{Job, Lent, is_above}
use Rattle.model_laws.specs.StoredRules.{IsStored, IsStoredOf, path_of_job}
use Rattle.model_laws.proofs.StoredLemmas.{stored_no_task}
use Rattle.region_port.specs.Calls.{Paths, paths_below, paths_of_both, paths_outside}
use Rattle.core_laws.specs.Places.{IsBareBelow, IsSameBelow}
use Rattle.core_laws.specs.Whole.{AreWholeOrKept, IsWhole, IsWholeRow}
use Rattle.core_laws.proofs.PlaceLemmas.{give_aside, given_elsewhere, replaced_elsewhere, take_aside}
use Rattle.core_laws.proofs.TiedLemmas.{tree_given}

pub stay_whole : (lent : List (List (List ℕ))) (kept left : List KeptRow) (content : Part) (rough : Paths) → IsWhole lent kept content rough →
    AreWholeOrKept lent kept left content rough → IsWhole lent left content rough
stay_whole lent kept left content rough whole each =
    λ one among. elim (each one among) [ inl was ↦ whole one was | inr new ↦ new ]

pub more_lent_whole : (lent more : List (List (List ℕ))) (kept : List KeptRow) (content : Part) (rough : Paths) →
    ((loan : List (List ℕ)) → Contains lent loan → Contains more loan) → IsWhole lent kept content rough → IsWhole more kept content rough
more_lent_whole lent more kept content rough within whole =
    λ one among. record {
      settled = (whole one among).settled;
      top = (whole one among).top;
      tree = λ clear.
          (whole one among).tree
          (none_passes (overlap one.path) lent (λ loan there. each_fails (overlap one.path) more loan clear (within loan there)));
    }

pub same_whole : (lent : List (List (List ℕ))) (kept : List KeptRow) (old new : Part) (before after : Paths) → IsSameBelow [] old before new after →
    IsWhole lent kept old before → IsWhole lent kept new after
same_whole lent kept old new before after same whole =
    λ one among. record {
      settled = λ path meet. same.rough path (prefix-append [] path) ∙ (whole one among).settled path meet;
      top = λ path above. same.node path (prefix-append [] path) ∙ (whole one among).top path above;
      tree = λ clear rel.
          ap (option_map declared_by) (same.node (one.path ++ rel) (prefix-append [] (one.path ++ rel))) ∙ (whole one among).tree clear rel;
    }

-- ---- paths

-- a path at or above one that is strictly above another overlaps that
pub above_meets : (t path place : List (List ℕ)) → is_prefix t path ≡ true → is_above path place ≡ true → overlap t place ≡ true
above_meets t path place over above =
    or_left (is_prefix t place) (is_prefix place t)
    (prefix-trans t path place over (and_parts (is_prefix path place) (not (same_names path place)) above).0)

-- no path is strictly above one that it is at or below
pub not_above : (path place : List (List ℕ)) → is_prefix place path ≡ true → is_above path place ≡ false
not_above path place under =
    false_from_ne_true (is_above path place)
    (λ above.
    let parts = and_parts (is_prefix path place) (not (same_names path place)) above in
    both_ways (same_names path place) (not-true (same_names path place) parts.1)
    (subst (λ (p : List (List ℕ)). same_names path p ≡ true) (prefix-antisym path place parts.0 under) (same_names-refl path)))

-- a path that is apart from some loans but one, and from that one, is apart from all
meets_none : (given place : List (List ℕ)) (lent : List (List (List ℕ))) → overlap place given ≡ false →
    list_any (overlap place) (filter (is_other_path given) lent) ≡ false → list_any (overlap place) lent ≡ false
meets_none given place lent apart none =
    none_passes (overlap place) lent
    (λ loan among. by loan among (same_names given loan) refl)
  where
    by : (loan : List (List ℕ)) → Contains lent loan → (b : Bool) → same_names given loan ≡ b → overlap place loan ≡ false
    by loan among true same = subst (λ (l : List (List ℕ)). overlap place l ≡ false) (same_names-eq given loan same) apart
    by loan among false other =
        each_fails (overlap place) (filter (is_other_path given) lent) loan none
        (contains_filter (is_other_path given) lent loan (ap not other) among)

-- ---- takes

take_row : (lent : List (List (List ℕ))) (taken : List (List ℕ)) (content : Part) (rough : Paths) (one : KeptRow) →
    IsWholeRow lent content rough one → IsWholeRow (lent ++ taken ∷ []) (without taken content) (paths_outside taken rough) one
take_row lent taken content rough one whole = record {
  settled = λ path meet. none (is_prefix taken path) (rough path) (whole.settled path meet);
  top = λ path above. gone (is_prefix taken path) (content path) (whole.top path above);
  tree = λ clear rel.
      let free : list_any (overlap one.path) lent ≡ false =
      none_passes (overlap one.path) lent
      (λ loan among. each_fails (overlap one.path) (lent ++ taken ∷ []) loan clear (Contains-append_left lent (taken ∷ []) loan among)) in
      let apart : overlap one.path taken ≡ false =
      each_fails (overlap one.path) (lent ++ taken ∷ []) taken clear (Contains-append_right lent (taken ∷ []) taken (contains_first taken [])) in
      ap (option_map declared_by)
      ((take_aside taken one.path content rough (overlap-sym one.path taken false apart)).node (one.path ++ rel) (prefix-append one.path rel))
      ∙ whole.tree free rel;
}
  where
    none : (b r : Bool) → r ≡ false → (not b && r) ≡ false
    none true r is = refl
    none false r is = is

    gone : (b : Bool) (o : Option Node) → o ≡ None → cond b None o ≡ None
    gone true o is = refl
    gone false o is = is

pub take_whole : (lent : List (List (List ℕ))) (kept : List KeptRow) (taken : List (List ℕ)) (content : Part) (rough : Paths) →
    IsWhole lent kept content rough → IsWhole (lent ++ taken ∷ []) kept (without taken content) (paths_outside taken rough)
take_whole lent kept taken content rough whole = λ one among. take_row lent taken content rough one (whole one among)

-- ---- gives

-- a path that overlaps a place isn't at or below one that is apart from this
apart_aside : (given path place : List (List ℕ)) → overlap given place ≡ false → overlap path place ≡ true → is_prefix given path ≡ false
apart_aside given path place apart meet =
    false_from_ne_true (is_prefix given path)
    (λ over. both_ways (overlap path place) (apart_below given place path apart over) meet)

give_row : (lent : List (List (List ℕ))) (given : List (List ℕ)) (inner content : Part) (its rough : Paths) (one : KeptRow) →
    overlap given one.path ≡ false → IsWholeRow lent content rough one →
    IsWholeRow (filter (is_other_path given) lent) (replaced given inner content) (paths_of_both rough (paths_below given its)) one
give_row lent given inner content its rough one apart whole = record {
  settled = λ path meet. given_elsewhere given path its rough (apart_aside given path one.path apart meet) ∙ whole.settled path meet;
  top = λ path above.
      replaced_elsewhere given path inner content
      (false_from_ne_true (is_prefix given path) (λ over. both_ways (overlap given one.path) apart (above_meets given path one.path over above)))
      ∙ whole.top path above;
  tree = λ clear rel.
      ap (option_map declared_by)
      ((give_aside given one.path inner content its rough apart).node (one.path ++ rel) (prefix-append one.path rel))
      ∙ whole.tree (meets_none given one.path lent (overlap-sym given one.path false apart) clear) rel;
}

pub task_whole : (rows : List Row) (jobs : List Job) (lent : List (List (List ℕ))) (kept : List KeptRow) (job : Job) (inner content : Part)
    (its rough : Paths) → IsStored rows jobs kept → Contains jobs job → IsWhole lent kept content rough →
    IsWhole (filter (is_other_path (path_of_job job)) lent) kept (replaced (path_of_job job) inner content)
    (paths_of_both rough (paths_below (path_of_job job) its))
task_whole rows jobs lent kept job inner content its rough stored runs whole =
    λ one among.
    give_row lent (path_of_job job) inner content its rough one
    (overlap-sym one.path (path_of_job job) false (stored_no_task rows jobs kept one job stored among runs)) (whole one among)

-- a give that brings the very tree of a kept row
tree_row : (lent : List (List (List ℕ))) (given : List (List ℕ)) (nodes : List Flat) (inner content : Part) (its rough : Paths) (one : KeptRow) →
    IsStoredOf one given nodes → HasTree inner nodes → ((path : List (List ℕ)) → is_prefix given path ≡ true → its path ≡ false) →
    IsBareBelow given content rough → IsWholeRow lent content rough one →
    IsWholeRow (filter (is_other_path given) lent) (replaced given inner content) (paths_of_both rough (paths_below given its)) one
tree_row lent given nodes inner content its rough one at tree none bare whole = record {
  settled = λ path meet. settled path (is_prefix given path) refl (whole.settled path meet);
  top = λ path above.
      replaced_elsewhere given path inner content
      (false_from_ne_true (is_prefix given path)
      (λ over. both_ways (is_above path one.path)
      (not_above path one.path (subst (λ (p : List (List ℕ)). is_prefix p path ≡ true) (sym at.path) over)) above))
      ∙ whole.top path above;
  tree = λ clear.
      subst (λ (p : List (List ℕ)). HasTree (below p (replaced given inner content)) one.tree) (sym at.path)
      (subst (λ (t : List Flat). HasTree (below given (replaced given inner content)) t) (sym at.tree)
      (tree_given given nodes inner content its rough bare tree none).tree);
}
  where
    settled : (path : List (List ℕ)) (b : Bool) → is_prefix given path ≡ b → rough path ≡ false → paths_of_both rough (paths_below given its) path ≡ false
    settled path true over is = ap (λ b. b || (is_prefix given path && its path)) is ∙ ap (λ b. b && its path) over ∙ none path over
    settled path false aside is = given_elsewhere given path its rough aside ∙ is

pub lent_whole : (rows : List Row) (jobs : List Job) (lent : List (List (List ℕ))) (kept : List KeptRow) (job : Job) (part : Lent)
    (inner content : Part) (its rough : Paths) → IsStored rows jobs kept → Contains jobs job → job.lent ≡ Some part → HasTree inner part.tree →
    ((path : List (List ℕ)) → is_prefix part.path path ≡ true → its path ≡ false) → IsBareBelow part.path content rough →
    IsWhole lent kept content rough →
    IsWhole (filter (is_other_path part.path) lent) kept (replaced part.path inner content) (paths_of_both rough (paths_below part.path its))
lent_whole rows jobs lent kept job part inner content its rough stored runs is tree none bare whole =
    λ one among. by one among (overlap one.path part.path) refl
  where
    by : (one : KeptRow) → Contains kept one → (b : Bool) → overlap one.path part.path ≡ b →
        IsWholeRow (filter (is_other_path part.path) lent) (replaced part.path inner content) (paths_of_both rough (paths_below part.path its)) one
    by one among true meet =
        tree_row lent part.path part.tree inner content its rough one (stored.lent one job part among runs is meet) tree none bare (whole one among)
    by one among false apart =
        give_row lent part.path inner content its rough one (overlap-sym one.path part.path false apart) (whole one among)
