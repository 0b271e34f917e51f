-- What takes and gives do at and below a path.
use Rattle.std.proofs.Common.{◌≡◌, ℕ, Bool, true, false, not, ◌&&◌, ◌||◌, cond, List, [], ◌++◌, length, drop, None, refl, sym, ap, ◌∙◌}
use Rattle.std.proofs.Math.Seq.{drop-append_seam}
use Rattle.std.proofs.lemmas.Bool.{false_from_ne_true, both_ways}
use Rattle.mat_path.specs.Names.{is_prefix, overlap}
use Rattle.mat_path.proofs.Overlaps.{overlap_of_prefixes}
use Rattle.mat_path.proofs.PathLemmas.{prefix-append, prefix_split}
use Rattle.mat_tree.specs.Parts.{Part, below, replaced, without}
use Rattle.region_port.specs.Calls.{Paths, paths_below, paths_of_both, paths_outside}
use Rattle.core_laws.specs.Places.{IsBareBelow, IsGivenAt, IsSameBelow}

-- a path that is at or below one is not at or below another one that is apart from it
pub elsewhere : (t n path : List (List ℕ)) → overlap t n ≡ false → is_prefix n path ≡ true → is_prefix t path ≡ false
elsewhere t n path apart below = false_from_ne_true (is_prefix t path) (λ k. both_ways (overlap t n) apart (overlap_of_prefixes t n path k below))

-- what a take and a give leave at a path that isn't at or below theirs
without_elsewhere : (t path : List (List ℕ)) (content : Part) → is_prefix t path ≡ false → without t content path ≡ content path
without_elsewhere t path content aside = ap (λ b. cond b None (content path)) aside

outside_elsewhere : (t path : List (List ℕ)) (rough : Paths) → is_prefix t path ≡ false → paths_outside t rough path ≡ rough path
outside_elsewhere t path rough aside = ap (λ b. not b && rough path) aside

-- a give leaves what is at a path that isn't at or below its own
pub replaced_elsewhere : (t path : List (List ℕ)) (inner content : Part) → is_prefix t path ≡ false → replaced t inner content path ≡ content path
replaced_elsewhere t path inner content aside = ap (λ b. cond b (inner (drop (length t) path)) (content path)) aside

pub or_none : (a : Bool) → (a || false) ≡ a
or_none true = refl
or_none false = refl

-- and leaves it as rough
pub given_elsewhere : (t path : List (List ℕ)) (its rough : Paths) → is_prefix t path ≡ false → paths_of_both rough (paths_below t its) path ≡ rough path
given_elsewhere t path its rough aside = ap (λ b. rough path || (b && its path)) aside ∙ or_none (rough path)

pub take_aside : (t n : List (List ℕ)) (content : Part) (rough : Paths) → overlap t n ≡ false →
    IsSameBelow n content rough (without t content) (paths_outside t rough)
take_aside t n content rough apart = record {
  node = λ path below. without_elsewhere t path content (elsewhere t n path apart below);
  rough = λ path below. outside_elsewhere t path rough (elsewhere t n path apart below);
}

pub take_clears : (t : List (List ℕ)) (content : Part) (rough : Paths) → IsBareBelow t (without t content) (paths_outside t rough)
take_clears t content rough = record {
  node = λ path below. ap (λ b. cond b None (content path)) below;
  settled = λ path below. ap (λ b. not b && rough path) below;
}

pub give_aside : (t n : List (List ℕ)) (inner content : Part) (its rough : Paths) → overlap t n ≡ false →
    IsSameBelow n content rough (replaced t inner content) (paths_of_both rough (paths_below t its))
give_aside t n inner content its rough apart = record {
  node = λ path below. replaced_elsewhere t path inner content (elsewhere t n path apart below);
  rough = λ path below. given_elsewhere t path its rough (elsewhere t n path apart below);
}

-- what a part with another one in its place has there
pub replaced_within : (t rel : List (List ℕ)) (inner content : Part) → replaced t inner content (t ++ rel) ≡ inner rel
replaced_within t rel inner content =
    ap (λ b. cond b (inner (drop (length t) (t ++ rel))) (content (t ++ rel))) (prefix-append t rel) ∙ ap inner (drop-append_seam t rel)

given_within : (t path : List (List ℕ)) (its rough : Paths) → is_prefix t path ≡ true → rough path ≡ false →
    paths_of_both rough (paths_below t its) path ≡ its path
given_within t path its rough below none =
    ap (λ b. b || (is_prefix t path && its path)) none ∙ ap (λ b. b && its path) below

pub give_brings : (t : List (List ℕ)) (inner content : Part) (its rough : Paths) → IsBareBelow t content rough →
    IsGivenAt t inner its (replaced t inner content) (paths_of_both rough (paths_below t its))
give_brings t inner content its rough bare = record {
  node = λ rel. replaced_within t rel inner content;
  rough = λ path below. given_within t path its rough below (bare.settled path below);
}

-- a part that is taken and given back unchanged
pub back_again : (t : List (List ℕ)) (content : Part) (rough : Paths) →
    IsSameBelow [] content rough (replaced t (below t content) (without t content)) (paths_of_both (paths_outside t rough) (paths_below t (paths_below t rough)))
back_again t content rough = record { node = λ path within. node path; rough = λ path within. by (is_prefix t path) (rough path) }
  where
    node : (path : List (List ℕ)) → replaced t (below t content) (without t content) path ≡ content path
    node path =
        elim (is_prefix t path) as (λ b. is_prefix t path ≡ b → cond b (below t content (drop (length t) path)) (cond b None (content path)) ≡ content path) [
          | true ↦ λ above. ap content (sym (prefix_split t path above))
          | false ↦ λ aside. refl
        ] refl

    by : (b r : Bool) → ((not b && r) || (b && (b && r))) ≡ r
    by true true = refl
    by true false = refl
    by false true = refl
    by false false = refl
